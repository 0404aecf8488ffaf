use Rattle.std.proofs.Common.{◌≡◌, None, replicate}
use Rattle.nt_alarms.proofs.alarms.Alarms.with_places.Given as goal

abbrev pub invariant-loop : goal.invariant-loop
invariant-loop l = l.alarms ≡ replicate l.counter None
