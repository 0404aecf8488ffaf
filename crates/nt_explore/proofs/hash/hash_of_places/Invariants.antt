use Rattle.std.proofs.Common.{◌≡◌}
use Rattle.std.specs.Prelude.{slice_index}
use Rattle.nt_explore.specs.Hash.{folded, mixed, low_half}
use Rattle.nt_explore.proofs.hash.hash_of_places.Given as goal

abbrev pub invariant-loop-i : goal.invariant-loop-i
invariant-loop-i l = l.so_far ≡ folded (λ h i. mixed h (low_half (slice_index l.places i))) l.hash l.i
