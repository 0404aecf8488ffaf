use Rattle.std.proofs.Common.{ℕ, List, Option, ap, ◌∙◌, subst}
use Rattle.nt_machine.specs.Dispatcher.{state}
use Rattle.nt_sleepers.specs.Sleepers.{IsCalledToLook, with_called}
use Rattle.nt_sleepers.proofs.Kept.{kept_stop}
use Rattle.nt_sleepers.proofs.keeping.stop.Goals as goal

pub returns-clause-kept : goal.returns-clause-kept
returns-clause-kept c =
    let s = state c.args.core.now in let called = c.call_one.result in
    kept_stop s c.args.alarms.now c.args.watchers.now c.call_one.new.alarms c.unmark.new.watchers c.args.who called c.requires.kept
    (c.call_one.ensures.alarms ∙ ap (with_called called) c.clear.ensures)
    c.unmark.ensures
    (subst (λ (xs : List (Option ℕ)). IsCalledToLook s xs c.unmark.new.watchers called) c.clear.ensures c.call_one.ensures.called)
    c.call_one.ensures.in_time
