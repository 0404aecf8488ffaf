use Rattle.std.proofs.Common.{◌≡◌, ◌<◌, ℕ, length, get_or}
use Rattle.nt_objects.specs.declared.object.Object.{Object}
use Rattle.nt_core.proofs.like.objects_alike.Given as goal

abbrev pub invariant-loop-i : goal.invariant-loop-i
invariant-loop-i l = (length l.objects ≡ length l.others) × ((k : ℕ) → k < l.i → (d : Object) → get_or l.objects k d ≡ get_or l.others k d)
