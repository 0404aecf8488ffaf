-- The runs of parking, and of the word by which a thread learns of its grant.
use Rattle.std.proofs.Common.{◌≡◌, ℕ, true, false, refl, ap, sym, subst, inl, inr, [], ◌∷◌, arith, eqb}
use Rattle.std.proofs.lemmas.Bool.{ne_eqb}
use Rattle.nt_protocols.specs.Threads.{after_all}
use Rattle.nt_protocols.specs.Parking.{State, Seat, Changes, SeesNobody, Counts, TakesLatch, LooksSame, Parks, ToLook, opening, is_counted, unparks_all}
use Rattle.nt_protocols.proofs.Putting.{same_or_not}
use Rattle.nt_counterexamples.specs.Parking.{step_without_look, WithoutSecondLookUnderTheLatch}
use Rattle.nt_protocols.specs.Word.{Enters, Begins, TurnsToSleep, Marks, FallsAsleep, FindsItLate, Grants, LooksAtTime}
use Rattle.nt_counterexamples.specs.Word.{WithAGrantOverwritten, WithoutWakeUpOfWhoWasTold}

-- what holds of two threads and of all others holds of all
each : (P : ℕ → Type 0) → P 0 → P 1 → ((u : ℕ) → eqb u 0 ≡ false → eqb u 1 ≡ false → P u) → (u : ℕ) → P u
each P a b others u = elim (same_or_not u 0) [
  | inl e ↦ subst P (sym e) a
  | inr x ↦ elim (same_or_not u 1) [ inl e ↦ subst P (sym e) b | inr y ↦ others u (ne_eqb u 0 x) (ne_eqb u 1 y) ]
]

abbrev pub changed : State
changed = after_all step_without_look opening (Changes 1 1 ∷ [])

changed_seats : (u : ℕ) → eqb u 0 ≡ false → eqb u 1 ≡ false → changed.seats u ≡ opening.seats u
changed_seats u a b = simp (a, b)

changed_nobody : (u : ℕ) → is_counted (changed.seats u).standing (changed.seats u).place ≡ false
changed_nobody = each (λ u. is_counted (changed.seats u).standing (changed.seats u).place ≡ false) refl refl (λ u a b. ap (λ (x : Seat). is_counted x.standing x.place) (changed_seats u a b))

abbrev pub lost : State
lost = after_all step_without_look opening (Changes 1 1 ∷ SeesNobody 1 true ∷ Counts 0 0 ∷ TakesLatch 0 ToLook ∷ LooksSame 0 ∷ Parks 0 ∷ [])

lost_seats : (u : ℕ) → eqb u 0 ≡ false → eqb u 1 ≡ false → lost.seats u ≡ opening.seats u
lost_seats u a b = simp (a, b)

nobody_unparks : (u : ℕ) → unparks_all (lost.seats u).place ≡ false
nobody_unparks = each (λ u. unparks_all (lost.seats u).place ≡ false) refl refl (λ u a b. ap (λ (x : Seat). unparks_all x.place) (lost_seats u a b))

pub without_second_look_under_the_latch : WithoutSecondLookUnderTheLatch
without_second_look_under_the_latch = (
  Changes 1 1 ∷ SeesNobody 1 true ∷ Counts 0 0 ∷ TakesLatch 0 ToLook ∷ LooksSame 0 ∷ Parks 0 ∷ [],
  (refl, ((refl, changed_nobody), (refl, ((refl, refl), (refl, (refl, tt)))))),
  (0, refl, λ e. omega arith, nobody_unparks),
)

-- ---- the word

pub with_a_grant_overwritten : WithAGrantOverwritten
with_a_grant_overwritten = (
  Enters 0 ∷ Begins 0 ∷ TurnsToSleep 0 ∷ Marks 0 ∷ FindsItLate 0 ∷ Enters 1 ∷ Grants 1 0 ∷ LooksAtTime 0 ∷ [],
  (refl, (refl, ((refl, λ u. refl), (refl, (refl, (refl, ((refl, refl), (refl, tt)))))))),
  (0, refl, refl, λ e. cc),
)

pub without_wake_up_of_who_was_told : WithoutWakeUpOfWhoWasTold
without_wake_up_of_who_was_told = (
  Enters 0 ∷ Begins 0 ∷ TurnsToSleep 0 ∷ Marks 0 ∷ FallsAsleep 0 ∷ Enters 1 ∷ Grants 1 0 ∷ [],
  (refl, (refl, ((refl, λ u. refl), (refl, (refl, (refl, ((refl, refl), tt))))))),
  (0, refl, refl, λ o. let x = o.1 in absurd (cc)),
)
