use Rattle.std.proofs.Common.{arith, length, ap, ℕ, ◌∙◌}
use Rattle.std.specs.Prelude.{slice_index}
use Rattle.nt_explore.specs.Hash.{mixed, low_half}
use Rattle.nt_explore.proofs.Slots.{folded_more, folded_all}
use Rattle.nt_explore.proofs.hash.hash_of_places.Goals as goal

pub loop-i-preserved : goal.loop-i-preserved
loop-i-preserved c = folded_more (λ h i. mixed h (low_half (slice_index c.args.places.now i))) c.args.hash c.loop-i.i c.loop-i.so_far c.mixed-so_far.result c.loop-i.invariant (c.mixed-so_far.ensures ∙ ap (λ (x : ℕ). mixed c.loop-i.so_far x) c.low_half.ensures)

pub returns : goal.returns
returns c =
    let past = c.loop-i-test.false in
    let auto = c.loop-i.auto.i-end in
    folded_all (λ h i. mixed h (low_half (slice_index c.args.places.now i))) c.args.hash c.loop-i.i (length c.args.places.now) c.loop-i.so_far c.loop-i.invariant (omega (arith, past, auto))
