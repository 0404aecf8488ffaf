use Rattle.nt_status.proofs.Known.{only_known-or}
use Rattle.nt_status.specs.Flags.{event_bits}
use Rattle.nt_status.proofs.event_flags.EventFlagsBitOr.bitor.Goals as goal

pub invariant_of-result : goal.invariant_of-result
invariant_of-result c = rw (c.union.ensures tt) (only_known-or event_bits _ _ c.self.invariant c.other.invariant)
