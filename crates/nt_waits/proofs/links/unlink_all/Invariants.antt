use Rattle.nt_waits.specs.Steps.{IsUnlinked}
use Rattle.nt_waits.proofs.links.unlink_all.Given as goal

abbrev pub invariant-loop-i : goal.invariant-loop-i
invariant-loop-i l = IsUnlinked l.initial.queues l.queues l.objects l.numbers l.i
