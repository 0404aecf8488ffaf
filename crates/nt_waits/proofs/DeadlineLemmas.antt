-- The alarms of threads, and the deadlines of their waits.
use Rattle.std.proofs.Common.{◌≡◌, ◌≢◌, ◌<◌, ℕ, List, [], length, set, Option, Some, None, refl, sym, ap, ◌∙◌, inl, inr}
use Rattle.std.proofs.lemmas.Bool.{cases_eq}
use Rattle.std.proofs.lemmas.List.{get_or-set_same, get_or-set_other}
use Rattle.std.specs.Prelude.{MatchOption}
use Rattle.std.specs.Option.{option_map}
use Rattle.std.specs.Ordering.{nat_cmp}
use Rattle.std.specs.FinMap as finmap
use Rattle.nt_alarms.specs.Alarms.{alarm_at, IsQuiet, IsEarliest, NoneBefore, NoneAt, IsLowestAt}
use Rattle.nt_waits.specs.declared.wait.Wait.{Wait}
use Rattle.nt_waits.specs.declared.pending.Pending.{Pending}
use Rattle.nt_waits.specs.Table.{slot_at, waits_of}
use Rattle.nt_waits.specs.Deadlines.{deadline_in, deadline_of, NoDeadline, NoneEarlier, IsEarliestDeadline, NoneWithDeadline, IsFirstWithDeadline}
use Rattle.nt_waits.proofs.ViewLemmas.{get-waits}

-- the alarm of each thread is the deadline of the wait in its place
abbrev pub AreAlarmed : List (Option ℕ) → List (Option Pending) → Type 0
AreAlarmed deadlines slots = (t : ℕ) → alarm_at deadlines t ≡ deadline_in (option_map (λ (p : Pending). p.wait) (slot_at slots t))

pub alarm-deadline : (deadlines : List (Option ℕ)) (slots : List (Option Pending)) → AreAlarmed deadlines slots → (t : ℕ) → alarm_at deadlines t ≡ deadline_of (waits_of slots) t
alarm-deadline deadlines slots alarmed t = alarmed t ∙ ap deadline_in (sym (get-waits slots t))

-- with no place and no alarm
pub alarmed_none : (deadlines : List (Option ℕ)) (slots : List (Option Pending)) → deadlines ≡ [] → slots ≡ [] → AreAlarmed deadlines slots
alarmed_none deadlines slots none places t = rw (none, places) refl

-- where a wait is placed with its alarm
pub alarmed_begun : (old new : List (Option ℕ)) (slots slots' : List (Option Pending)) (t : ℕ) (wait : Wait) (p : Pending) → AreAlarmed old slots
    → slot_at slots' t ≡ Some p → p.wait ≡ wait
    → ((u : ℕ) → u ≢ t → slot_at slots' u ≡ slot_at slots u)
    → alarm_at new t ≡ wait.deadline
    → ((u : ℕ) → u ≢ t → alarm_at new u ≡ alarm_at old u)
    → AreAlarmed new slots'
alarmed_begun old new slots slots' t wait p alarmed placed is kept here others u = elim (cases_eq u t) [
  | inl same ↦ rw (same, here, placed, is) refl
  | inr differs ↦ rw (others u differs, kept u differs) (alarmed u)
]

-- where a wait is taken out with its alarm
pub alarmed_ended : (old new : List (Option ℕ)) (slots : List (Option Pending)) (t : ℕ) → AreAlarmed old slots
    → t < length slots
    → alarm_at new t ≡ None
    → ((u : ℕ) → u ≢ t → alarm_at new u ≡ alarm_at old u)
    → AreAlarmed new (set slots t None)
alarmed_ended old new slots t alarmed within here others u = elim (cases_eq u t) [
  | inl same ↦ rw (same, here, get_or-set_same slots t None None within) refl
  | inr differs ↦ rw (others u differs, get_or-set_other slots t u None None differs) (alarmed u)
]

-- what the alarms say, said of the waits
module _ (alarms : List (Option ℕ)) (pending : finmap.FinMap nat_cmp Wait) (same : (t : ℕ) → alarm_at alarms t ≡ deadline_of pending t) where
  pub earliest_is : (r : Option ℕ) → MatchOption r (IsQuiet alarms) (λ moment. IsEarliest alarms moment) → MatchOption r (NoDeadline pending) (IsEarliestDeadline pending)
  earliest_is None quiet = λ t. sym (same t) ∙ quiet t
  earliest_is (Some moment) earliest = record {
    has = (earliest.set.0, sym (same earliest.set.0) ∙ earliest.set.1);
    least = λ t deadline is. earliest.least t deadline (same t ∙ is);
  }

  pub none_before : (moment : ℕ) → NoneEarlier pending moment → NoneBefore alarms moment
  none_before moment none t other rings = none t other (sym (same t) ∙ rings)

  pub none_with : (moment : ℕ) → NoneAt alarms moment → NoneWithDeadline pending moment
  none_with moment none t is = none t (same t ∙ is)

  pub lowest_with : (moment t : ℕ) → IsLowestAt alarms moment t → IsFirstWithDeadline pending moment t
  lowest_with moment t lowest = record {
    has = sym (same t) ∙ lowest.here;
    none_below = λ lower below is. lowest.none_below lower below (same lower ∙ is);
  }
