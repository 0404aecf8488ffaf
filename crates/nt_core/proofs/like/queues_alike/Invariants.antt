use Rattle.std.proofs.Common.{◌≡◌, ◌<◌, ℕ}
use Rattle.nt_waits.specs.Waits.{queue_of}
use Rattle.nt_core.proofs.like.queues_alike.Given as goal

abbrev pub invariant-loop-object : goal.invariant-loop-object
invariant-loop-object l = (h : ℕ) → h < l.object → queue_of l.waits h ≡ queue_of l.others h
