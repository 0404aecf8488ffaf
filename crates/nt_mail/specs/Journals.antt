-- Entries as what the turns of the machine write, and as what the stages of a life write.
use Rattle.std.specs.Prelude.{◌≡◌, Bool, true, false, List, [], ◌∷◌, ◌++◌, map}
use Rattle.nt_calls.specs.declared.call.Grant.{Grant}
use Rattle.nt_calls.specs.State.{State}
use Rattle.nt_calls.specs.Runs.{Turn, Calls, Ticks, Turns}
use Rattle.nt_laws.specs.Lives.{Stage, Takes, Stages}
use Rattle.nt_life.specs.Renewals.{renewed, may_answer}
use Rattle.nt_mail.specs.declared.entry.Entry.{Entry}
use Rattle.nt_mail.specs.declared.entry.Entry.TheVariants.{Called, Ticked, Granted, Renewed}
use Rattle.nt_mail.specs.Entries.{handle_reply}

abbrev pub granted : Grant → Entry
granted g = Granted g.thread g.status

-- ---- runs

-- what a turn writes: the entry of its call or tick, and then those of the waits that it ended
abbrev pub entries_of : Turn → List Entry
entries_of (Calls who call result grants) = Called who call result ∷ map granted grants
entries_of (Ticks by moment result grants) = Ticked by moment result ∷ map granted grants

-- what turns write
abbrev pub journal_of : List Turn → List Entry
journal_of [] = []
journal_of (turn ∷ turns) = entries_of turn ++ journal_of turns

-- the entries are those of turns that lead from the base to this state
pub record IsRunFrom (base : State) (es : List Entry) (s : State) : Type 0 where
  pub turns : List Turn
  pub run : Turns base turns s
  pub entries : es ≡ journal_of turns

-- ---- lives

-- an entry, and the waits that ended with it
pub record Deed : Type 0 where
  pub entry : Entry
  pub grants : List Grant

-- the stages that an entry tells: a turn, or those of a renewal
abbrev pub stages_of : Entry → List Grant → List Stage
stages_of (Called who call result) grants = Takes (Calls who call result grants) ∷ []
stages_of (Ticked by moment result) grants = Takes (Ticks by moment result grants) ∷ []
stages_of (Granted who status) grants = []
stages_of (Renewed who renewal result) grants = renewed who renewal (handle_reply result) grants

-- the entry tells a stage, or two; a grant alone tells none
abbrev pub tells : Entry → Bool
tells (Granted who status) = false
tells (Renewed who renewal result) = may_answer renewal (handle_reply result)
tells e = true

-- the stages that the entry tells lead from the old state to the new one
abbrev pub IsDeed : State → Deed → State → Type 0
IsDeed old deed new = (tells deed.entry ≡ true) × Stages old (stages_of deed.entry deed.grants) new

-- the deeds lead from the old state to the new one
abbrev pub Deeds : State → List Deed → State → Type 0
Deeds old [] new = new ≡ old
Deeds old (deed ∷ deeds) new = (mid : State) × IsDeed old deed mid × Deeds mid deeds new

-- what deeds write: the entry of each, and then those of the waits that ended with it
abbrev pub written : List Deed → List Entry
written [] = []
written (deed ∷ deeds) = deed.entry ∷ (map granted deed.grants ++ written deeds)

-- the entries are those of stages that lead from the base to this state
pub record IsLifeFrom (base : State) (es : List Entry) (s : State) : Type 0 where
  pub deeds : List Deed
  pub life : Deeds base deeds s
  pub entries : es ≡ written deeds

-- numbers were given again
abbrev pub is_renewal : Entry → Bool
is_renewal (Renewed who renewal result) = true
is_renewal e = false
