-- When blocks and ends are queues. No public clause cites this module.
use Rattle.std.specs.Prelude.{ℕ, List, None, slice_index_or}
use Rattle.slab.specs.Slab.{Slab}
use Rattle.nt_waits.specs.Queue.{links, IsQueue}
use Rattle.nt_waits.specs.declared.block.Block.{Block}
use Rattle.nt_waits.specs.declared.block.Ends.{Ends}

-- the ends of an empty queue
abbrev pub no_ends : Ends
no_ends = record { first = None; last = None }

-- the ends of an object; those of an empty queue past the last object
abbrev pub ends_at : List Ends → ℕ → Ends
ends_at ends object = slice_index_or ends object no_ends

-- between the ends of each object lies the queue of this object
abbrev pub IsSound : Slab Block → List Ends → Type 0
IsSound blocks ends = (object : ℕ) → IsQueue blocks (ends_at ends object) object (links blocks (ends_at ends object))
