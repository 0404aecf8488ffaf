use Rattle.std.proofs.Common.{◌≡◌, List, sym, ap, ◌∙◌, arith}
use Rattle.std.proofs.lemmas.List.{get_or_read}
use Rattle.nt_tables.specs.declared.links.Link.{Link}
use Rattle.nt_tables.specs.Links.{alone, link_at, with_first, with_next, with_previous}
use Rattle.nt_tables.proofs.SoundLemmas.{before_below, after_below, left_room, left_sound, left_lists_are, sound_same, lists_same}
use Rattle.nt_tables.proofs.links.leave.Goals as goal

pub set_next-requires-clause-there : goal.set_next-requires-clause-there
set_next-requires-clause-there c =
    let links = c.args.links.now in
    let room = left_room c.args.firsts.now links c.args.thread c.args.mutex c.requires.sound c.requires.owned in
    let link_is : c.index-links-get.result ≡ link_at links c.args.mutex = get_or_read links c.args.mutex c.index-links-get.result room (rw c.get.ensures at c.index-links-get.is) alone in
    λ x e. before_below c.args.firsts.now links c.args.thread c.args.mutex c.requires.sound c.requires.owned x (sym (ap (λ (l : Link). l.previous) link_is) ∙ e)

pub set_previous-requires : goal.set_previous-requires
set_previous-requires c =
    let links = c.args.links.now in
    let room = left_room c.args.firsts.now links c.args.thread c.args.mutex c.requires.sound c.requires.owned in
    let link_is : c.index-links-get.result ≡ link_at links c.args.mutex = get_or_read links c.args.mutex c.index-links-get.result room (rw c.get.ensures at c.index-links-get.is) alone in
    record {
      there = λ x e.
          let below = after_below c.args.firsts.now links c.args.thread c.args.mutex c.requires.sound c.requires.owned x (sym (ap (λ (l : Link). l.next) link_is) ∙ e) in
          omega (arith, below, c.set_next.auto.links);
    }

pub returns-clause-sound : goal.returns-clause-sound
returns-clause-sound c =
    let links = c.args.links.now in
    let room = left_room c.args.firsts.now links c.args.thread c.args.mutex c.requires.sound c.requires.owned in
    let link_is : c.index-links-get.result ≡ link_at links c.args.mutex = get_or_read links c.args.mutex c.index-links-get.result room (rw c.get.ensures at c.index-links-get.is) alone in
    sound_same _ c.set_next.new.firsts _ c.set_previous.new.links
    (c.set_next.ensures.firsts ∙ ap (λ (l : Link). with_first c.args.firsts.now c.args.thread l.previous l.next) link_is)
    (c.set_previous.ensures ∙ (ap (λ (ls : List Link). with_previous ls c.index-links-get.result.next c.index-links-get.result.previous) c.set_next.ensures.links ∙ ap (λ (l : Link). with_previous (with_next links l.previous l.next) l.next l.previous) link_is))
    (left_sound c.args.firsts.now links c.args.thread c.args.mutex c.requires.sound c.requires.owned)

pub returns-clause-lists : goal.returns-clause-lists
returns-clause-lists c =
    let links = c.args.links.now in
    let room = left_room c.args.firsts.now links c.args.thread c.args.mutex c.requires.sound c.requires.owned in
    let link_is : c.index-links-get.result ≡ link_at links c.args.mutex = get_or_read links c.args.mutex c.index-links-get.result room (rw c.get.ensures at c.index-links-get.is) alone in
    lists_same _ c.set_next.new.firsts _ c.set_previous.new.links
    (c.set_next.ensures.firsts ∙ ap (λ (l : Link). with_first c.args.firsts.now c.args.thread l.previous l.next) link_is)
    (c.set_previous.ensures ∙ (ap (λ (ls : List Link). with_previous ls c.index-links-get.result.next c.index-links-get.result.previous) c.set_next.ensures.links ∙ ap (λ (l : Link). with_previous (with_next links l.previous l.next) l.next l.previous) link_is))
    ∙ left_lists_are c.args.firsts.now links c.args.thread c.args.mutex c.requires.sound c.requires.owned

pub bounds-links-get : goal.bounds-links-get
bounds-links-get c =
    rw c.get.ensures (left_room c.args.firsts.now c.args.links.now c.args.thread c.args.mutex c.requires.sound c.requires.owned)
