use Rattle.nt_threads.proofs.Counting.{CountedSoFar}
use Rattle.nt_threads.proofs.counts.counts_of.Given as goal

abbrev pub invariant-loop-entry : goal.invariant-loop-entry
invariant-loop-entry l = CountedSoFar l.threads l.mutex l.entries l.entry-index l.waiting.items l.acquired l.released l.posted l.abandoned
