use Rattle.std.proofs.Common.{◌≡◌, ◌≤◌, ◌+◌, ◌-◌, ℕ, length}
use Rattle.nt_alarms.specs.Alarms.{alarm_at}
use Rattle.nt_waits.proofs.deadlines.reserve_alarm.Given as goal

abbrev pub invariant-loop-t : goal.invariant-loop-t
invariant-loop-t l = ((u : ℕ) → alarm_at l.alarms u ≡ alarm_at l.initial.alarms u) × (length l.initial.alarms ≤ length l.alarms)

abbrev pub decreases-loop-t : goal.decreases-loop-t
decreases-loop-t l = l.t + 1 - length l.alarms
