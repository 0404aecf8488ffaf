use Rattle.std.proofs.Common.{◌≡◌, None, set, sym, ◌∙◌, rules}
use Rattle.std.proofs.lemmas.List.{get_or_read}
use Rattle.nt_tables.specs.Links.{first_at, with_previous}
use Rattle.nt_tables.proofs.SoundLemmas.{first_below, entered_sound, entered_lists_are, sound_same, lists_same}
use Rattle.nt_tables.proofs.links.enter.Goals as goal
use Rattle.nt_tables.proofs.links.enter.Goals.{After-index-firsts-get}

-- what was read is the thread's first mutex
first_is : (c : After-index-firsts-get) → c.index-firsts-get.result ≡ first_at c.args.firsts.now c.args.thread
first_is c = get_or_read c.args.firsts.now c.args.thread c.index-firsts-get.result c.requires.thread (rw c.get.ensures at c.index-firsts-get.is) None

pub set_previous-requires : goal.set_previous-requires
set_previous-requires c = record {
  there = λ x e.
      let below = first_below c.args.firsts.now c.args.links.now c.requires.sound c.args.thread x (sym (first_is (goal.at.set_previous-requires c).After-index-firsts-get) ∙ e) in
      search (rules, below);
}

pub returns-clause-sound : goal.returns-clause-sound
returns-clause-sound c =
    let firsts = c.args.firsts.now in
    let links = c.args.links.now in
    let first = first_is (goal.at.returns-clause-sound c).After-index-firsts-get in
    sound_same _ (set firsts c.get-3.result c.some-2.result) _ c.set_previous.new.links (λ i. set firsts (c.get-3.ensures i) (c.some-2.ensures i))
    (c.set_previous.ensures ∙ (λ i. with_previous (set links (c.get-2.ensures i) (record { previous = None; next = first i })) (first i) (c.some.ensures i)))
    (entered_sound firsts links c.args.thread c.args.mutex c.requires.sound c.requires.thread c.requires.room c.requires.unowned)

pub returns-clause-lists : goal.returns-clause-lists
returns-clause-lists c =
    let firsts = c.args.firsts.now in
    let links = c.args.links.now in
    let first = first_is (goal.at.returns-clause-lists c).After-index-firsts-get in
    lists_same _ (set firsts c.get-3.result c.some-2.result) _ c.set_previous.new.links (λ i. set firsts (c.get-3.ensures i) (c.some-2.ensures i))
    (c.set_previous.ensures ∙ (λ i. with_previous (set links (c.get-2.ensures i) (record { previous = None; next = first i })) (first i) (c.some.ensures i)))
    ∙ entered_lists_are firsts links c.args.thread c.args.mutex c.requires.sound c.requires.thread c.requires.room c.requires.unowned
