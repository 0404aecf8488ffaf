use Rattle.std.proofs.Common.{◌≡◌}
use Rattle.nt_machine.specs.Dispatcher.{state}
use Rattle.nt_explore.specs.Hash.{folded, mixed_one_object}
use Rattle.nt_explore.proofs.hash.hash_of_objects.Given as goal

abbrev pub invariant-loop-number : goal.invariant-loop-number
invariant-loop-number l = l.so_far ≡ folded (mixed_one_object (state l.core)) l.hash l.number
