use Rattle.std.proofs.Common.{◌+◌, ◌-◌, length}
use Rattle.nt_machine.specs.Dispatcher.{state}
use Rattle.nt_machine.proofs.Walks.{IsAt}
use Rattle.nt_machine.proofs.machine.Machine.serve_on.Given as goal

abbrev pub invariant-loop-at : goal.invariant-loop-at
invariant-loop-at l = IsAt l.object l.initial.self l.self l.at

-- looks that are left
abbrev pub decreases-loop-at : goal.decreases-loop-at
decreases-loop-at l = l.initial.self.table.looked + length ((state l.initial.self).queues l.object) - l.self.table.looked
