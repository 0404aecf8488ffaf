use Rattle.std.proofs.Common.{sym, ap, ◌∙◌, inl, inr, refl}
use Rattle.std.specs.Option.{option_map}
use Rattle.std.specs.FinMap as fin
use Rattle.nt_waits.specs.Waits.{about_of}
use Rattle.nt_machine.specs.Dispatcher.{Dispatcher, state}
use Rattle.nt_machine.proofs.Alerting.{about_some, quiet_here, idle_here, alerted_here}
use Rattle.nt_machine.proofs.machine.Machine.rouse.Goals as goal

pub is_alerted-requires-clause-known : goal.is_alerted-requires-clause-known
is_alerted-requires-clause-known c =
    let old = c.args.self.now in
    let some = sym c.in-Some.is ∙ (c.about.ensures ∙ ap (λ (d : Dispatcher). option_map about_of (fin.get d.table.pending c.args.thread)) c.self.view_is) in
    let own = about_some (fin.get old.table.pending c.args.thread) c.in-Some.about (sym some) in
    (c.requires.sound.waits c.args.thread own.0 own.1).known

pub returns-in_default-clause-roused : goal.returns-in_default-clause-roused
returns-in_default-clause-roused c =
    let old = c.args.self.now in
    let none = sym c.in_default.is ∙ (c.about.ensures ∙ ap (λ (d : Dispatcher). option_map about_of (fin.get d.table.pending c.args.thread)) c.self.view_is) in
    inr (idle_here (state old) c.args.thread none, refl)

pub returns-then-not-is_alerted-clause-roused : goal.returns-then-not-is_alerted-clause-roused
returns-then-not-is_alerted-clause-roused c =
    let old = c.args.self.now in
    let some = sym c.in-Some.is ∙ (c.about.ensures ∙ ap (λ (d : Dispatcher). option_map about_of (fin.get d.table.pending c.args.thread)) c.self.view_is) in
    inr (quiet_here (state old) c.args.thread c.in-Some.about some (sym c.is_alerted.ensures ∙ c.if-not-is_alerted.true), refl)

pub returns-clause-roused : goal.returns-clause-roused
returns-clause-roused c =
    let old = c.args.self.now in
    let some = sym c.in-Some.is ∙ (c.about.ensures ∙ ap (λ (d : Dispatcher). option_map about_of (fin.get d.table.pending c.args.thread)) c.self.view_is) in
    inl (alerted_here (state old) c.args.thread c.in-Some.about some (sym c.is_alerted.ensures ∙ c.if-not-is_alerted.false), c.end_wait.ensures.over, c.end_wait.ensures.grants, c.end_wait.ensures.looked, c.end_wait.ensures.marked)
