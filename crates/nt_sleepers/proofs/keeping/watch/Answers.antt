use Rattle.std.proofs.Common.{◌≡◌, ◌<◌, ℕ, Bool, true, List, Option, None, length, slice_set, sym, subst, ap, ◌∙◌, arith}
use Rattle.std.proofs.lemmas.Bool.Decides.{nat_tests}
use Rattle.std.proofs.lemmas.List.{set-set}
use Rattle.std.specs.Prelude.{is_some}
use Rattle.std.specs.Option.{option_copied}
use Rattle.nt_calls.specs.State.{pends}
use Rattle.nt_machine.specs.Dispatcher.{state}
use Rattle.nt_sleepers.specs.Sleepers.{IsShortEnough, SleepsTo, time_out_of, set_if}
use Rattle.nt_sleepers.proofs.Kept.{kept_watch}
use Rattle.nt_sleepers.proofs.keeping.watch.Goals as goal

pub returns-clause-kept : goal.returns-clause-kept
returns-clause-kept c =
    let s = state c.args.core.now in let moment = c.moment_beside-moment.result in
    let waits : pends s c.args.who ≡ true = ap is_some (sym c.waits_for.ensures) ∙ ap (λ o. is_some (option_copied o)) c.in_ok-own.was in
    let near : c.args.who < length c.args.alarms.now = grind (arith, nat_tests, c.if-place-len.false, c.len.ensures) in
    let own = ap time_out_of (sym c.waits_for.ensures) ∙ ap (λ o. time_out_of (option_copied o)) c.in_ok-own.was in
    kept_watch s c.args.alarms.now c.args.watchers.now c.put.new.places c.set.new.self c.args.who moment waits near c.requires.kept (subst (λ (o : Option ℕ). SleepsTo s o moment) (sym own) c.moment_beside-moment.ensures.sleeps)
    (c.put.ensures ∙ ap (λ xs. slice_set xs c.args.who moment) c.clear.ensures ∙ set-set c.args.alarms.now c.args.who None moment)
    c.set.ensures
    (subst (λ (xs : List (Option ℕ)). IsShortEnough s xs moment) c.clear.ensures c.moment_beside-moment.ensures.short)

pub returns-clause-alarms : goal.returns-clause-alarms
returns-clause-alarms c =
    let s = state c.args.core.now in let moment = c.moment_beside-moment.result in
    let waits : pends s c.args.who ≡ true = ap is_some (sym c.waits_for.ensures) ∙ ap (λ o. is_some (option_copied o)) c.in_ok-own.was in
    c.put.ensures ∙ ap (λ xs. slice_set xs c.args.who moment) c.clear.ensures ∙ set-set c.args.alarms.now c.args.who None moment
    ∙ ap (λ (b : Bool). set_if b c.args.who moment c.args.alarms.now) (sym waits)
