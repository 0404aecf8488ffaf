use Rattle.std.proofs.Common.{◌+◌, ◌-◌, length}
use Rattle.nt_machine.specs.Dispatcher.{state}
use Rattle.nt_machine.specs.Visits.{FitOnlyBy}
use Rattle.nt_machine.proofs.Walks.{IsAt}
use Rattle.nt_machine.proofs.machine.Machine.serve_one_slow.Given as goal

abbrev pub invariant-loop-next : goal.invariant-loop-next
invariant-loop-next l = IsAt l.object l.initial.self l.self l.next × FitOnlyBy l.object (state l.self)

-- looks that are left
abbrev pub decreases-loop-next : goal.decreases-loop-next
decreases-loop-next l = l.initial.self.table.looked + length ((state l.initial.self).queues l.object) - l.self.table.looked
