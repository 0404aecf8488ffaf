-- Why a thread does not begin again.
use Rattle.nt_mail.specs.declared.knowledge.Knowledge.{Knowledge}
use Rattle.nt_front.specs.declared.again.Unbegun.{Unbegun}
use Rattle.nt_front.specs.Names.{Prepared}
use Rattle.nt_front.specs.Books.{WasFull, WasTaken}

-- the journal was full, or the thread's place was not free
abbrev pub IsUnbegun : Prepared → Knowledge → Unbegun → Type 0
IsUnbegun front k Unbegun.NoRoom = WasFull front k
IsUnbegun front k Unbegun.Taken = WasTaken front k
