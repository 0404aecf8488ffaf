use Rattle.std.proofs.Common.{inl, inr, refl}
use Rattle.std.proofs.KnownBytes.{Keeps-refl}
use Rattle.nt_orders.proofs.explore.explore_over.Goals as goal

pub returns-in-Err-Failed : goal.returns-in-Err-Failed
returns-in-Err-Failed g c =
    record { either = inr (Keeps-refl _, refl, refl, inl (rw c.in-Err-Failed.field-0-is at c.in-Err-Failed.ensures.counts, c.say.ensures.said, c.say.ensures.status)) }
