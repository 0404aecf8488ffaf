use Rattle.nt_look.proofs.Deciding.{HangBelow}
use Rattle.nt_look.proofs.stuck.is_stuck.Given as goal

abbrev pub invariant-loop-thread : goal.invariant-loop-thread
invariant-loop-thread l = HangBelow l.core l.over l.thread
