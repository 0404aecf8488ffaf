-- The runs of the lock.
use Rattle.std.proofs.Common.{◌≡◌, ◌≢◌, ℕ, true, false, refl, sym, ◌∙◌, ap, inl, inr, subst, List, [], ◌∷◌, arith}
use Rattle.std.proofs.Common.{eqb}
use Rattle.std.proofs.lemmas.Bool.{ne_eqb}
use Rattle.nt_protocols.specs.Threads.{after_all}
use Rattle.nt_protocols.specs.Lock.{State, Seat, Event, Asks, Enters, FallsAsleep, FallsAsleepOn, FindsInside, FindsOutside, FindsRevoked, GainsFavour, GivesBack, Interrupts, KeepsFavour, MarksFree, MarksHeld, PassesBarrier, PaysNobody, Revokes, SeesFavour, StepsOut, StirsOn, StopsLooking, StoreArrives, StoresFirst, StoresInside, TakesFree, WakesOne, AtReload, Taken, Wanted, Place, Out, AsleepOn, opening, step, place_of, leads, ComesToWake}
use Rattle.nt_protocols.proofs.Putting.{same_or_not}
use Rattle.nt_counterexamples.specs.Lock.{step_without_paying, step_forgetting, WithoutBarriers, WithOneLook, WithoutWakeUpOfWhoRevoked, WithAWakeUpOwedInSleep, WithASleeperForgotten, AllAtOnce}

abbrev pub unpaid : List Event
unpaid = Asks 0 ∷ TakesFree 0 ∷ StoresFirst 0 ∷ StoreArrives 0 true ∷ GainsFavour 0 ∷ StepsOut 0 ∷ KeepsFavour 0 ∷ SeesFavour 0 ∷ StoresInside 0 ∷ Enters 0 ∷ StoreArrives 0 true ∷ Asks 1 ∷ Revokes 1 0 ∷ PassesBarrier 1 0 false ∷ FindsInside 1 0 ∷ FallsAsleepOn 1 0 ∷ StepsOut 0 ∷ Interrupts 0 AtReload ∷ Asks 0 ∷ StopsLooking 0 ∷ MarksHeld 0 ∷ FallsAsleep 0 ∷ []

abbrev pub unpaid_end : State
unpaid_end = after_all step_without_paying opening unpaid

unpaid_seats : (t : ℕ) → eqb t 0 ≡ false → eqb t 1 ≡ false → unpaid_end.seats t ≡ opening.seats t
unpaid_seats t a b = simp (a, b)

unpaid_others : (t : ℕ) → eqb t 0 ≡ false → eqb t 1 ≡ false → place_of unpaid_end t ≡ Out
unpaid_others t a b = ap (λ (x : Seat). x.place) (unpaid_seats t a b)

-- what holds of three threads and of all others holds of all
each : (P : ℕ → Type 0) → P 0 → P 1 → P 2 → ((u : ℕ) → eqb u 0 ≡ false → eqb u 1 ≡ false → eqb u 2 ≡ false → P u) → (u : ℕ) → P u
each P a b c others u = elim (same_or_not u 0) [
  | inl e ↦ subst P (sym e) a
  | inr x ↦ elim (same_or_not u 1) [
    | inl e ↦ subst P (sym e) b
    | inr y ↦ elim (same_or_not u 2) [
      | inl e ↦ subst P (sym e) c
      | inr z ↦ others u (ne_eqb u 0 x) (ne_eqb u 1 y) (ne_eqb u 2 z)
    ]
  ]
]

out_not : (p : Place) (t : ℕ) → p ≡ Out → p ≢ AsleepOn t
out_not p t e f = let z : Out ≡ AsleepOn t = sym e ∙ f in cc

abbrev pub first_marked : State
first_marked = after_all step_forgetting opening (Asks 0 ∷ TakesFree 0 ∷ Asks 1 ∷ StopsLooking 1 ∷ MarksHeld 1 ∷ [])

first_marked_seats : (u : ℕ) → eqb u 0 ≡ false → eqb u 1 ≡ false → eqb u 2 ≡ false → first_marked.seats u ≡ opening.seats u
first_marked_seats u a b c = simp (a, b, c)

first_marked_nobody : (u : ℕ) → place_of first_marked u ≢ AsleepOn 1
first_marked_nobody = each (λ u. place_of first_marked u ≢ AsleepOn 1) (λ e. cc) (λ e. cc) (λ e. cc) (λ u a b c. out_not (place_of first_marked u) 1 (ap (λ (x : Seat). x.place) (first_marked_seats u a b c)))

abbrev pub second_marked : State
second_marked = after_all step_forgetting opening (Asks 0 ∷ TakesFree 0 ∷ Asks 1 ∷ StopsLooking 1 ∷ MarksHeld 1 ∷ PaysNobody 1 ∷ FallsAsleep 1 ∷ Asks 2 ∷ StopsLooking 2 ∷ MarksHeld 2 ∷ [])

second_marked_seats : (u : ℕ) → eqb u 0 ≡ false → eqb u 1 ≡ false → eqb u 2 ≡ false → second_marked.seats u ≡ opening.seats u
second_marked_seats u a b c = simp (a, b, c)

second_marked_nobody : (u : ℕ) → place_of second_marked u ≢ AsleepOn 2
second_marked_nobody = each (λ u. place_of second_marked u ≢ AsleepOn 2) (λ e. cc) (λ e. cc) (λ e. cc) (λ u a b c. out_not (place_of second_marked u) 2 (ap (λ (x : Seat). x.place) (second_marked_seats u a b c)))

abbrev pub all_marked : State
all_marked = after_all step opening (Asks 0 ∷ TakesFree 0 ∷ StoresFirst 0 ∷ StoreArrives 0 true ∷ GainsFavour 0 ∷ StepsOut 0 ∷ KeepsFavour 0 ∷ SeesFavour 0 ∷ StoresInside 0 ∷ Enters 0 ∷ StoreArrives 0 true ∷ Asks 1 ∷ Revokes 1 0 ∷ PassesBarrier 1 0 false ∷ FindsInside 1 0 ∷ FallsAsleepOn 1 0 ∷ Asks 2 ∷ StopsLooking 2 ∷ MarksHeld 2 ∷ [])

all_marked_seats : (u : ℕ) → eqb u 0 ≡ false → eqb u 1 ≡ false → eqb u 2 ≡ false → all_marked.seats u ≡ opening.seats u
all_marked_seats u a b c = simp (a, b, c)

all_marked_nobody : (u : ℕ) → place_of all_marked u ≢ AsleepOn 2
all_marked_nobody = each (λ u. place_of all_marked u ≢ AsleepOn 2) (λ e. cc) (λ e. cc) (λ e. cc) (λ u a b c. out_not (place_of all_marked u) 2 (ap (λ (x : Seat). x.place) (all_marked_seats u a b c)))

abbrev pub forgotten_end : State
forgotten_end = after_all step_forgetting opening (Asks 0 ∷ TakesFree 0 ∷ Asks 1 ∷ StopsLooking 1 ∷ MarksHeld 1 ∷ PaysNobody 1 ∷ FallsAsleep 1 ∷ Asks 2 ∷ StopsLooking 2 ∷ MarksHeld 2 ∷ PaysNobody 2 ∷ FallsAsleep 2 ∷ GivesBack 0 ∷ WakesOne 0 1 ∷ MarksFree 1 ∷ [])

forgotten_seats : (u : ℕ) → eqb u 0 ≡ false → eqb u 1 ≡ false → eqb u 2 ≡ false → forgotten_end.seats u ≡ opening.seats u
forgotten_seats u a b c = simp (a, b, c)

nobody_leads : (v : ℕ) → leads (place_of forgotten_end v) (forgotten_end.seats v).under ≡ false
nobody_leads = each (λ v. leads (place_of forgotten_end v) (forgotten_end.seats v).under ≡ false) refl refl refl (λ u a b c. ap (λ (x : Seat). leads x.place x.under) (forgotten_seats u a b c))

nobody_comes : (v : ℕ) → ComesToWake forgotten_end v → ⊥
nobody_comes v (inl l) = let z : true ≡ false = sym l ∙ nobody_leads v in absurd (cc)
nobody_comes v (inr w) = let z : Taken ≡ Wanted = w.0 in absurd (cc)

pub without_barriers : WithoutBarriers
without_barriers = (
  Asks 0 ∷ TakesFree 0 ∷ StoresFirst 0 ∷ StoreArrives 0 true ∷ GainsFavour 0 ∷ StepsOut 0 ∷ KeepsFavour 0 ∷ SeesFavour 0 ∷ StoresInside 0 ∷ Enters 0 ∷ Asks 1 ∷ Revokes 1 0 ∷ PassesBarrier 1 0 false ∷ FindsOutside 1 0 false ∷ [],
  (refl, ((refl, refl, refl), ((refl, refl), (refl, ((refl, refl, refl), ((refl, refl), ((refl, refl), ((refl, refl), ((refl, refl), ((refl, refl), (refl, ((refl, refl, refl), (refl, ((refl, refl), tt)))))))))))))),
  (0, 1, refl, refl, λ e. omega arith),
)

pub with_one_look : WithOneLook
with_one_look = (
  Asks 0 ∷ TakesFree 0 ∷ StoresFirst 0 ∷ StoreArrives 0 true ∷ GainsFavour 0 ∷ StepsOut 0 ∷ KeepsFavour 0 ∷ SeesFavour 0 ∷ StoresInside 0 ∷ Enters 0 ∷ StoreArrives 0 true ∷ Asks 1 ∷ Revokes 1 0 ∷ PassesBarrier 1 0 false ∷ FindsInside 1 0 ∷ FallsAsleepOn 1 0 ∷ StirsOn 1 0 ∷ [],
  (refl, ((refl, refl, refl), ((refl, refl), (refl, ((refl, refl, refl), ((refl, refl), ((refl, refl), ((refl, refl), ((refl, refl), ((refl, refl), (refl, (refl, ((refl, refl, refl), ((refl, refl), ((refl, refl), ((refl, refl), (refl, tt))))))))))))))))),
  (0, 1, refl, refl, λ e. omega arith),
)

pub without_wake_up_of_who_revoked : WithoutWakeUpOfWhoRevoked
without_wake_up_of_who_revoked = (
  Asks 0 ∷ TakesFree 0 ∷ StoresFirst 0 ∷ StoreArrives 0 true ∷ GainsFavour 0 ∷ StepsOut 0 ∷ KeepsFavour 0 ∷ SeesFavour 0 ∷ StoresInside 0 ∷ Enters 0 ∷ StoreArrives 0 true ∷ Asks 1 ∷ Revokes 1 0 ∷ PassesBarrier 1 0 false ∷ FindsInside 1 0 ∷ FallsAsleepOn 1 0 ∷ StepsOut 0 ∷ FindsRevoked 0 ∷ [],
  (refl, ((refl, refl, refl), ((refl, refl), (refl, ((refl, refl, refl), ((refl, refl), ((refl, refl), ((refl, refl), ((refl, refl), ((refl, refl), (refl, (refl, ((refl, refl, refl), ((refl, refl), ((refl, refl), ((refl, refl), ((refl, refl), (refl, tt)))))))))))))))))),
  (1, 0, refl, refl),
)

pub with_a_wake_up_owed_in_sleep : WithAWakeUpOwedInSleep
with_a_wake_up_owed_in_sleep = (
  Asks 0 ∷ TakesFree 0 ∷ StoresFirst 0 ∷ StoreArrives 0 true ∷ GainsFavour 0 ∷ StepsOut 0 ∷ KeepsFavour 0 ∷ SeesFavour 0 ∷ StoresInside 0 ∷ Enters 0 ∷ StoreArrives 0 true ∷ Asks 1 ∷ Revokes 1 0 ∷ PassesBarrier 1 0 false ∷ FindsInside 1 0 ∷ FallsAsleepOn 1 0 ∷ StepsOut 0 ∷ Interrupts 0 AtReload ∷ Asks 0 ∷ StopsLooking 0 ∷ MarksHeld 0 ∷ FallsAsleep 0 ∷ [],
  (refl, ((refl, refl, refl), ((refl, refl), (refl, ((refl, refl, refl), ((refl, refl), ((refl, refl), ((refl, refl), ((refl, refl), ((refl, refl), (refl, (refl, ((refl, refl, refl), ((refl, refl), ((refl, refl), ((refl, refl), ((refl, refl), (refl, (refl, (refl, ((refl, refl, refl), ((refl, refl), tt)))))))))))))))))))))),
  (refl, refl, λ t a b. unpaid_others t (ne_eqb t 0 a) (ne_eqb t 1 b)),
)

pub with_a_sleeper_forgotten : WithASleeperForgotten
with_a_sleeper_forgotten = (
  Asks 0 ∷ TakesFree 0 ∷ Asks 1 ∷ StopsLooking 1 ∷ MarksHeld 1 ∷ PaysNobody 1 ∷ FallsAsleep 1 ∷ Asks 2 ∷ StopsLooking 2 ∷ MarksHeld 2 ∷ PaysNobody 2 ∷ FallsAsleep 2 ∷ GivesBack 0 ∷ WakesOne 0 1 ∷ MarksFree 1 ∷ [],
  (refl, ((refl, refl, refl), (refl, (refl, ((refl, refl, refl), ((refl, λ u. first_marked_nobody u), ((refl, refl), (refl, (refl, ((refl, refl, refl), ((refl, λ u. second_marked_nobody u), ((refl, refl), ((refl, refl), ((refl, refl), ((refl, refl, refl), tt))))))))))))))),
  (2, refl, nobody_comes),
)

pub all_at_once : AllAtOnce
all_at_once = (
  Asks 0 ∷ TakesFree 0 ∷ StoresFirst 0 ∷ StoreArrives 0 true ∷ GainsFavour 0 ∷ StepsOut 0 ∷ KeepsFavour 0 ∷ SeesFavour 0 ∷ StoresInside 0 ∷ Enters 0 ∷ StoreArrives 0 true ∷ Asks 1 ∷ Revokes 1 0 ∷ PassesBarrier 1 0 false ∷ FindsInside 1 0 ∷ FallsAsleepOn 1 0 ∷ Asks 2 ∷ StopsLooking 2 ∷ MarksHeld 2 ∷ PaysNobody 2 ∷ FallsAsleep 2 ∷ [],
  (refl, ((refl, refl, refl), ((refl, refl), (refl, ((refl, refl, refl), ((refl, refl), ((refl, refl), ((refl, refl), ((refl, refl), ((refl, refl), (refl, (refl, ((refl, refl, refl), ((refl, refl), ((refl, refl), ((refl, refl), (refl, (refl, ((refl, refl, refl), ((refl, λ u. all_marked_nobody u), ((refl, refl), tt))))))))))))))))))))),
  (refl, refl, refl),
)
