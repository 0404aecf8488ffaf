use Rattle.std.proofs.Common.{◌-◌, length}
use Rattle.nt_waits.specs.Queue.{links}
use Rattle.nt_waits.proofs.WalkLemmas.{HasCounted}
use Rattle.nt_waits.proofs.chain.count_blocks.Given as goal

abbrev pub invariant-loop-at : goal.invariant-loop-at
invariant-loop-at l = HasCounted l.blocks l.ends l.count l.at

abbrev pub decreases-loop-at : goal.decreases-loop-at
decreases-loop-at l = length (links l.blocks l.ends) - l.count
