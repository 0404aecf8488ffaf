use Rattle.std.proofs.Common.{◌≡◌, [], ◌∷◌, ℕ, List, rules, ap, subst, sym, ◌∙◌}
use Rattle.nt_mail.specs.declared.entry.Entry.{Entry}
use Rattle.nt_mail.specs.Entries.{Each, accepted}
use Rattle.nt_mail.specs.Rule.{IsTold}
use Rattle.nt_mail.specs.Seats.{DispatcherSeated, Gathered, Seated}
use Rattle.nt_front.specs.Held.{IsAccounted}
use Rattle.nt_front.proofs.Closing.{AreJoined, none_joined, one_joined, all_accounted}
use Rattle.nt_front.proofs.Since.{runs_from, ungiven_runs, led_from, all_written}
use Rattle.nt_front.proofs.front.Front.finish.Goals as goal

pub loop-hold-init : goal.loop-hold-init
loop-hold-init g c = record {
  table = search rules;
  written = search rules;
  published = search rules;
  joined = subst (λ parts. AreJoined c.args.holds.items c.args.holds.items parts) (sym (ap (λ (j : Gathered). j.parts) c.gather-all.ensures)) (none_joined c.args.holds.items);
}

pub loop-hold-preserved : goal.loop-hold-preserved
loop-hold-preserved g c =
    let parts = ap (λ (j : Gathered). j.parts) c.join.ensures ∙ ap (λ (s : Seated). s.known ∷ c.loop-hold.all.parts) c.into_seat.ensures.seat in
    record {
      table = search rules;
      written = search rules;
      published = search rules;
      joined = subst (λ parts. AreJoined c.args.holds.items c.pop.new.self.items parts) (sym parts)
          (one_joined c.args.holds.items c.loop-hold.holds.items c.pop.new.self.items c.in-Some.hold c.loop-hold.all.parts c.loop-hold.invariant.joined c.in-Some.ensures.items c.into_seat.ensures.kind);
    }

pub returns-clause-run : goal.returns-clause-run
returns-clause-run g c =
    let history = c.into_history-history.ensures.history in
    runs_from c.into_inner.result g.N.Named.front.lasts c.into_history-history.result.0.base c.into_history-history.result.0.entries.items c.into_history-history.ensures.stands c.into_history-history.ensures.lasts history.1 history.2

pub returns-clause-ungiven : goal.returns-clause-ungiven
returns-clause-ungiven g c none =
    let told_of = c.into_history-history.result.0 in
    ungiven_runs g.N.Named.front.lasts told_of.base told_of.entries.items (returns-clause-run g c) none

pub returns-clause-told : goal.returns-clause-told
returns-clause-told g c =
    let book = c.into_inner.result in
    let history = c.into_history-history.ensures.history in
    let empty : c.loop-hold.holds.items ≡ [] = search rules in
    let written : c.loop-hold.all.written ≡ book.written = c.loop-hold.invariant.written ∙ (ap (λ (j : Gathered). j.written) c.gather-all.ensures ∙ ap (λ (d : DispatcherSeated). d.written) c.into_history-history.ensures.seat) in
    let published : c.loop-hold.all.published ≡ accepted book.written = c.loop-hold.invariant.published ∙ (ap (λ (j : Gathered). j.published) c.gather-all.ensures ∙ ap (λ (d : DispatcherSeated). d.published) c.into_history-history.ensures.seat) in
    let told = subst (λ (x : List Entry × List ℕ). Each (IsTold x.0 x.1) c.loop-hold.all.parts) (λ i. (written i, published i)) c.close.ensures in
    let joined = subst (λ left. AreJoined c.args.holds.items left c.loop-hold.all.parts) empty c.loop-hold.invariant.joined in
    let stands = c.into_history-history.ensures.stands in
    let told_of = c.into_history-history.result.0 in (
      stands.before,
      led_from book g.N.Named.front.lasts g.N.Named.front.threads told_of.first told_of.base stands c.into_history-history.ensures.lasts c.into_history-history.ensures.threads history.0 history.1,
      subst (λ (l : List Entry). Each (IsAccounted l) c.args.holds.items) (all_written book told_of.entries.items stands history.2) (all_accounted book.written c.args.holds.items c.loop-hold.all.parts joined told),
    )
