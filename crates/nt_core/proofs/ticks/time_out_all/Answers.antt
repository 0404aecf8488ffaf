use Rattle.std.proofs.Common.{◌≡◌, ◌<◌, sym, ap, subst, arith}
use Rattle.std.specs.FinMap as fin
use Rattle.nt_waits.specs.Deadlines.{NoneEarlier, NoneWithDeadline, IsFirstWithDeadline}
use Rattle.nt_machine.specs.Dispatcher.{Dispatcher, state}
use Rattle.nt_calls.specs.State.{State}
use Rattle.nt_machine.proofs.Visiting.{len_removed}
use Rattle.nt_machine.proofs.Ticking.{late_of, late_next, late_end, none_earlier_kept}
use Rattle.nt_core.proofs.ticks.time_out_all.Goals as goal

pub first_with_deadline-requires : goal.first_with_deadline-requires
first_with_deadline-requires c =
    subst (λ (x : Dispatcher). NoneEarlier x.table.pending c.args.deadline) (sym c.machine.view_is)
    (none_earlier_kept c.args.machine.now c.loop-thread.machine c.args.deadline c.loop-thread.invariant c.requires.earliest)

pub loop-thread-smaller : goal.loop-thread-smaller
loop-thread-smaller c =
    let before = c.loop-thread.machine in
    let first : IsFirstWithDeadline before.table.pending c.args.deadline c.in-Some.thread = subst (λ (x : Dispatcher). IsFirstWithDeadline x.table.pending c.args.deadline c.in-Some.thread) c.machine.view_is c.in-Some.ensures in
    let late = late_of (state before) c.args.deadline c.in-Some.thread first.has in
    let fewer = len_removed before.table.pending c.in-Some.thread late.0 late.1 in
    let same : fin.len c.end_wait.new.self.table.pending ≡ fin.len (fin.remove before.table.pending c.in-Some.thread) = ap (λ (s : State). fin.len s.waits) c.end_wait.ensures.over in
    let less : fin.len c.end_wait.new.self.table.pending < fin.len before.table.pending = omega (arith, fewer, same) in
    less

pub loop-thread-preserved : goal.loop-thread-preserved
loop-thread-preserved c =
    let first : IsFirstWithDeadline c.loop-thread.machine.table.pending c.args.deadline c.in-Some.thread = subst (λ (x : Dispatcher). IsFirstWithDeadline x.table.pending c.args.deadline c.in-Some.thread) c.machine.view_is c.in-Some.ensures in
    let out = c.end_wait.ensures in
    late_next c.args.machine.now c.loop-thread.machine c.end_wait.new.self c.args.deadline c.in-Some.thread c.loop-thread.invariant first out.over out.grants out.looked out.marked out.sound

pub returns-clause-timed : goal.returns-clause-timed
returns-clause-timed c =
    let none : NoneWithDeadline c.loop-thread.machine.table.pending c.args.deadline = subst (λ (x : Dispatcher). NoneWithDeadline x.table.pending c.args.deadline) c.machine.view_is c.in_default.ensures in
    late_end c.args.machine.now c.loop-thread.machine c.args.deadline c.loop-thread.invariant none
