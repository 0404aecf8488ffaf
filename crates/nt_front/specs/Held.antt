-- What any hold knows, and what is true of it at the end.
use Rattle.std.specs.Prelude.{◌≡◌, ◌⊎◌, List, [], ◌∷◌, ◌++◌}
use Rattle.nt_mail.specs.declared.entry.Entry.{Entry}
use Rattle.nt_mail.specs.declared.knowledge.Knowledge.{Knowledge}
use Rattle.nt_mail.specs.declared.knowledge.Got.{Got}
use Rattle.nt_mail.specs.Entries.{Each, accepted, calls_of, grants_of}
use Rattle.nt_mail.specs.Knowledge.{IsFree, IsWaiting}
use Rattle.nt_mail.specs.Rule.{WasPublished}
use Rattle.nt_front.specs.Holds.{floor_of}
use Rattle.nt_front.specs.declared.hold.Held.{Held}
use Rattle.nt_front.specs.declared.hold.Held.TheVariants.{Pass, Sleeping, Ended}

abbrev pub knowledge_of : {X : Type 0} → Held X → Knowledge
knowledge_of (Pass k) = k
knowledge_of (Sleeping k) = k
knowledge_of (Ended k) = k

-- a pass and an ended thread were given a grant for each wait that pended, a sleeper for each but the last
abbrev pub IsOfKind : {X : Type 0} → Held X → Type 0
IsOfKind (Pass k) = IsFree k
IsOfKind (Sleeping k) = IsWaiting k
IsOfKind (Ended k) = IsFree k

-- of all entries written: the thread's calls and ticks are exactly those of its entries, under their numbers; each moment that it read is 0,
-- or that of a tick that was accepted, and so is the greatest that it knows
pub record IsRecorded (es : List Entry) (k : Knowledge) : Type 0 where
  pub made : k.made ≡ calls_of k.thread es
  pub moments : Each (WasPublished (accepted es)) k.moments
  pub floor : WasPublished (accepted es) (floor_of k)

-- and its grants are exactly those that were sent to it, under their numbers
abbrev pub IsAllOf : List Entry → Knowledge → Type 0
IsAllOf es k = IsRecorded es k × (k.got ≡ grants_of k.thread es)

-- a pass and an ended thread know all that was written of them, and a sleeper all but perhaps its last grant
abbrev pub IsAccounted : {X : Type 0} → List Entry → Held X → Type 0
IsAccounted es (Pass k) = IsAllOf es k
IsAccounted es (Sleeping k) = IsRecorded es k × ((k.got ≡ grants_of k.thread es) ⊎ ((g : Got) × (grants_of k.thread es ≡ k.got ++ g ∷ [])))
IsAccounted es (Ended k) = IsAllOf es k
