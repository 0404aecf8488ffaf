-- A journal as a run of the machine, or, of a front that lasts, as a life.
use Rattle.std.specs.Prelude.{◌≡◌, ◌<◌, ◌≤◌, ◌+◌, ℕ, Bool, List, [], ◌∷◌, ◌++◌, length, true, false}
use Rattle.nt_calls.specs.declared.call.Grant.{Grant}
use Rattle.nt_machine.specs.Dispatcher.{Dispatcher, state}
use Rattle.nt_machine.specs.Lawful.{IsLawful}
use Rattle.nt_calls.specs.State.{State, pends, opening}
use Rattle.nt_mail.specs.declared.entry.Entry.{Entry}
use Rattle.nt_mail.specs.Entries.{Each, is_armed, accepted}
pub use Rattle.nt_mail.specs.Journals.{granted, entries_of, journal_of, IsRunFrom, IsLifeFrom}
use Rattle.nt_mail.specs.Knowledge.{latest}

-- the entries are those of a run of n threads, from the opening to this state
abbrev pub IsRun : ℕ → List Entry → State → Type 0
IsRun n es s = IsRunFrom (opening n) es s

-- the entries are a run from the base to a lawful dispatcher
abbrev pub IsLawfulRun : Dispatcher → List Entry → Type 0
IsLawfulRun base es = (core : Dispatcher) × IsLawful core × IsRunFrom (state base) es (state core)

-- the same of a life
abbrev pub IsLawfulLife : Dispatcher → List Entry → Type 0
IsLawfulLife base es = (core : Dispatcher) × IsLawful core × IsLifeFrom (state base) es (state core)

-- what a front writes leads from the base to this state: it is a run, or, if the front lasts, a life
abbrev pub IsHistoryFrom : Bool → State → List Entry → State → Type 0
IsHistoryFrom false base es s = IsRunFrom base es s
IsHistoryFrom true base es s = IsLifeFrom base es s

-- the same, from the base to a lawful dispatcher
abbrev pub IsLawfulHistory : Bool → Dispatcher → List Entry → Type 0
IsLawfulHistory false base es = IsLawfulRun base es
IsLawfulHistory true base es = IsLawfulLife base es

-- these entries led n threads from the opening to the base, and the next one has number `first`; no tick among them was accepted
-- with a moment after the base's
pub record LeadTo (lasts : Bool) (n first : ℕ) (before : List Entry) (base : State) : Type 0 where
  pub run : IsHistoryFrom lasts (opening n) before base
  pub threads : base.threads ≡ n
  pub numbers : first ≡ length before + 1
  pub past : Each (λ m. m ≤ base.now) (accepted before)

-- the entries and the state say the same of who waits, and of the present moment, which no accepted tick is after
pub record Agree (n : ℕ) (es : List Entry) (s : State) : Type 0 where
  pub threads : s.threads ≡ n
  pub waits : (t : ℕ) → is_armed t es ≡ pends s t
  pub moment : latest 0 (accepted es) ≡ s.now
  pub past : Each (λ m. m ≤ s.now) (accepted es)

-- each grant is to a thread whose wait is pending when it is written
abbrev pub AreArmed : ℕ → List Entry → List Grant → Type 0
AreArmed n es [] = Unit {0}
AreArmed n es (g ∷ gs) = (is_armed g.thread es ≡ true) × (g.thread < n) × AreArmed n (es ++ granted g ∷ []) gs
