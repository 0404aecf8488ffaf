-- A wait with its blocks, twice. No public clause cites this module.
use Rattle.std.specs.Prelude.{◌≡◌}
use Rattle.nt_waits.specs.declared.pending.Pending.{Pending}

-- the same wait with the same blocks
abbrev pub IsCopy : Pending → Pending → Type 0
IsCopy pending copy = (copy.wait ≡ pending.wait) × (copy.numbers.items ≡ pending.numbers.items)
