use Rattle.std.proofs.Common.{◌≡◌, ◌++◌}
use Rattle.nt_threads.specs.Plans.{rounds_of}
use Rattle.nt_threads.proofs.plan.make_rounds.Given as goal

abbrev pub invariant-loop : goal.invariant-loop
invariant-loop g l = (g.D.Door.thread_of l.door ≡ g.D.Door.thread_of l.initial.door) × (g.D.Door.made_of l.door ≡ g.D.Door.made_of l.initial.door ++ rounds_of l.objects l.counter)
