use Rattle.std.proofs.Common.{nat_eq, ◌∙◌}
use Rattle.std.specs.Cmp.Lexicographic.{pointwise, told_text}
use Rattle.nt_lanes.proofs.Adding.{exactly}
use Rattle.nt_lanes.proofs.twins.are_same_handles.Goals as goal

pub returns : goal.returns
returns c = exactly _ c.eq.result (told_text c.args.handles.now c.args.others.now c.eq.result (c.eq.ensures ∙ (λ i. pointwise nat_eq (c.as_slice.ensures i) (c.as_slice-2.ensures i))))
