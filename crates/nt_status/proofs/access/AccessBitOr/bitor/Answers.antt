use Rattle.nt_status.proofs.Known.{only_known-or}
use Rattle.nt_status.specs.Access.{access_bits}
use Rattle.nt_status.proofs.access.AccessBitOr.bitor.Goals as goal

pub invariant_of-result : goal.invariant_of-result
invariant_of-result c = rw (c.union.ensures tt) (only_known-or access_bits _ _ c.self.invariant c.other.invariant)
