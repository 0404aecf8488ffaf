-- What parking keeps, and what changes of one thread keep of it.
use Rattle.std.proofs.Common.{◌≡◌, ◌≢◌, ◌⊎◌, ℕ, ◌+◌, Bool, true, false, refl, sym, ◌∙◌, subst, ap}
use Rattle.std.specs.Prelude.{if◌then◌else◌, ◌&&◌, not}
use Rattle.nt_protocols.specs.Threads.{put}
use Rattle.nt_protocols.specs.Parking.{Standing, Taken, Place, Out, ToTake, ToGive, ToLook, ToSleep, Asleep, ToLeave, Unparking, Waking, Seat, State}
use Rattle.nt_protocols.specs.Parking.{waits, is_waking, goes, unparks_all}
use Rattle.nt_protocols.proofs.Putting.{put_other, each_put, some_put, one_put}
use Rattle.nt_protocols.proofs.ParkingPlaces.{is_absent, proper, holds, takes, cares, takes_not_waits}

-- what holds of one thread by itself
pub record Sound (p : Place) (w : Bool) (d : Standing) (g n : ℕ) : Type 0 where
  pub lawful : proper p ≡ true
  pub outside : waits p ≡ false → is_absent d ≡ true
  pub filed : waits p ≡ true → is_absent d ≡ not w
  pub counted : g ≡ n + (if waits p && not w then 1 else 0)

abbrev pub IsSound : Seat → Type 0
IsSound a = Sound a.place a.parked a.standing a.unparks a.answers

-- between the events, whatever came before
pub record Kept (s : State) : Type 0 where
  pub sound : (u : ℕ) → IsSound (s.seats u)
  pub waking : (t u : ℕ) → s.owes t u ≡ true → is_waking (s.seats t).place ≡ true
  pub taken : (u t : ℕ) → (s.seats u).standing ≡ Taken t → takes (s.seats t).place ≡ true
  pub sleeping : (u : ℕ) → (s.seats u).place ≡ Asleep → ((s.seats u).parked ≡ true) ⊎ ((t : ℕ) × (s.owes t u ≡ true))
  pub one : (t u : ℕ) → holds (s.seats t).place ≡ true → holds (s.seats u).place ≡ true → t ≡ u
  pub held : (t : ℕ) → holds (s.seats t).place ≡ true → s.latch ≡ true
  pub minded : (u : ℕ) → cares (s.seats u).place (s.seats u).standing ≡ true → s.value ≢ (s.seats u).expected → (t : ℕ) × (unparks_all (s.seats t).place ≡ true)

-- thread t alone changes, and the latch and the value are so
pub moved : (s : State) (t : ℕ) (a : Seat) (l : Bool) (v : ℕ) → Kept s → IsSound a
    → ((u : ℕ) → s.owes t u ≡ true → is_waking a.place ≡ true)
    → ((u : ℕ) → u ≢ t → (s.seats u).standing ≡ Taken t → takes a.place ≡ true)
    → ((x : ℕ) → a.standing ≡ Taken x → (x ≢ t) × (takes (s.seats x).place ≡ true))
    → (a.place ≡ Asleep → (a.parked ≡ true) ⊎ ((x : ℕ) × (s.owes x t ≡ true)))
    → (holds a.place ≡ true → (u : ℕ) → holds (s.seats u).place ≡ true → u ≡ t)
    → (holds a.place ≡ true → l ≡ true)
    → ((u : ℕ) → u ≢ t → holds (s.seats u).place ≡ true → l ≡ true)
    → (cares a.place a.standing ≡ true → v ≢ a.expected → (x : ℕ) × (unparks_all (put s.seats t a x).place ≡ true))
    → ((u : ℕ) → u ≢ t → cares (s.seats u).place (s.seats u).standing ≡ true → v ≢ (s.seats u).expected → (x : ℕ) × (unparks_all (put s.seats t a x).place ≡ true))
    → Kept (record { value = v; latch = l; seats = put s.seats t a; owes = s.owes })
moved s t a l v k sound wake took mine sleep one held keep mind minds =
    let here : (x : ℕ) → a.standing ≡ Taken x → takes (put s.seats t a x).place ≡ true =
    λ x e. let m = mine x e in ap (λ (b : Seat). takes b.place) (put_other s.seats t a x m.0) ∙ m.1 in
    let there : (u : ℕ) → u ≢ t → (x : ℕ) → (s.seats u).standing ≡ Taken x → takes (put s.seats t a x).place ≡ true = λ u n.
    each_put (λ x b. (s.seats u).standing ≡ Taken x → takes b.place ≡ true) s.seats t a (λ e. took u n e) (λ x m e. k.taken u x e) in
    record {
      sound = each_put (λ u b. IsSound b) s.seats t a sound (λ u n. k.sound u);
      waking = each_put (λ x b. (u : ℕ) → s.owes x u ≡ true → is_waking b.place ≡ true) s.seats t a wake (λ x n. k.waking x);
      taken = each_put (λ u b. (x : ℕ) → b.standing ≡ Taken x → takes (put s.seats t a x).place ≡ true) s.seats t a here there;
      sleeping = each_put (λ u b. b.place ≡ Asleep → (b.parked ≡ true) ⊎ ((x : ℕ) × (s.owes x u ≡ true))) s.seats t a sleep (λ u n. k.sleeping u);
      one = one_put (λ (b : Seat). holds b.place) s.seats t a k.one one;
      held = each_put (λ u b. holds b.place ≡ true → l ≡ true) s.seats t a held keep;
      minded = each_put (λ u b. cares b.place b.standing ≡ true → v ≢ b.expected → (x : ℕ) × (unparks_all (put s.seats t a x).place ≡ true)) s.seats t a mind minds;
    }

-- who stands somewhere is not the one that has taken itself off
pub not_own : (s : State) (t : ℕ) → Kept s → (s.seats t).standing ≡ Taken t → ⊥
not_own s t k e =
    let absent = (k.sound t).outside (takes_not_waits (s.seats t).place (k.taken t t e)) in
    let z : true ≡ false = sym absent ∙ ap is_absent e in absurd (cc)

pub still_taken : (s : State) (t : ℕ) → Kept s → (x : ℕ) → (s.seats t).standing ≡ Taken x → (x ≢ t) × (takes (s.seats x).place ≡ true)
still_taken s t k x e = (λ same. not_own s t k (e ∙ ap (λ (y : ℕ). Taken y) same), k.taken t x e)

-- who is to unpark all still is, if this thread still is
pub minds_on : (s : State) (t : ℕ) (a : Seat) → Kept s → (unparks_all (s.seats t).place ≡ true → unparks_all a.place ≡ true)
    → (u : ℕ) → cares (s.seats u).place (s.seats u).standing ≡ true → s.value ≢ (s.seats u).expected → (x : ℕ) × (unparks_all (put s.seats t a x).place ≡ true)
minds_on s t a k still u c ne = some_put (λ b. unparks_all b.place ≡ true) s.seats t a still (k.minded u c ne)

-- from p to q all that others rest on stays
pub record Way (p q : Place) : Type 0 where
  pub lawful : proper q ≡ true
  pub waiting : waits q ≡ waits p
  pub waking : is_waking p ≡ true → is_waking q ≡ true
  pub taking : takes p ≡ true → takes q ≡ true
  pub caring : (d : Standing) → cares q d ≡ true → cares p d ≡ true
  pub minding : unparks_all p ≡ true → unparks_all q ≡ true

pub way : {p q : Place} → proper q ≡ true → waits q ≡ waits p → (is_waking p ≡ true → is_waking q ≡ true) → (takes p ≡ true → takes q ≡ true)
    → ((d : Standing) → cares q d ≡ true → cares p d ≡ true) → (unparks_all p ≡ true → unparks_all q ≡ true) → Way p q
way l w k x c m = record { lawful = l; waiting = w; waking = k; taking = x; caring = c; minding = m }

pub stays : (p : Place) → proper p ≡ true → Way p p
stays p l = record { lawful = l; waiting = refl; waking = λ y. y; taking = λ y. y; caring = λ d y. y; minding = λ y. y }

pub sound_on : (p q : Place) (w : Bool) (d : Standing) (g n : ℕ) → Way p q → Sound p w d g n → Sound q w d g n
sound_on p q w d g n y h = record {
  lawful = y.lawful;
  outside = λ e. h.outside (sym y.waiting ∙ e);
  filed = λ e. h.filed (sym y.waiting ∙ e);
  counted = h.counted ∙ ap (λ (b : Bool). n + (if b && not w then 1 else 0)) (sym y.waiting);
}

-- thread t goes from p to q, and the latch is so
pub shifts : (s : State) (t : ℕ) (p q : Place) (l : Bool) → Kept s → (s.seats t).place ≡ p → Way p q
    → (q ≡ Asleep → ((s.seats t).parked ≡ true) ⊎ ((x : ℕ) × (s.owes x t ≡ true)))
    → (holds q ≡ true → (u : ℕ) → holds (s.seats u).place ≡ true → u ≡ t)
    → (holds q ≡ true → l ≡ true)
    → ((u : ℕ) → u ≢ t → holds (s.seats u).place ≡ true → l ≡ true)
    → Kept (record (goes s t q) { latch = l })
shifts s t p q l k at y sleep one held keep =
    let old = s.seats t in
    let a : Seat = record old { place = q } in
    let mind : unparks_all old.place ≡ true → unparks_all q ≡ true = λ z. y.minding (ap unparks_all (sym at) ∙ z) in
    moved s t a l s.value k
    (sound_on p q old.parked old.standing old.unparks old.answers y (subst (λ r. Sound r old.parked old.standing old.unparks old.answers) at (k.sound t)))
    (λ u o. y.waking (ap is_waking (sym at) ∙ k.waking t u o))
    (λ u n e. y.taking (ap takes (sym at) ∙ k.taken u t e))
    (still_taken s t k)
    sleep one held keep
    (λ c ne. minds_on s t a k mind t (ap (λ r. cares r old.standing) at ∙ y.caring old.standing c) ne)
    (λ u n c ne. minds_on s t a k mind u c ne)

-- the same, where it has the latch at both places or at neither
pub walks : (s : State) (t : ℕ) (p q : Place) → Kept s → (s.seats t).place ≡ p → Way p q → holds q ≡ holds p
    → (q ≡ Asleep → ((s.seats t).parked ≡ true) ⊎ ((x : ℕ) × (s.owes x t ≡ true)))
    → Kept (goes s t q)
walks s t p q k at y same sleep =
    let mine : holds q ≡ true → holds (s.seats t).place ≡ true = λ h. ap holds at ∙ (sym same ∙ h) in
    shifts s t p q s.latch k at y sleep
    (λ h u o. k.one u t o (mine h))
    (λ h. k.held t (mine h))
    (λ u n o. k.held u o)

-- ---- the latch

pub takes_latch : (s : State) (t : ℕ) (p : Place) → Kept s → (s.seats t).place ≡ ToTake p → s.latch ≡ false → Way (ToTake p) p → p ≢ Asleep → Kept (record (goes s t p) { latch = true })
takes_latch s t p k at free y awake =
    let nobody : (u : ℕ) → holds (s.seats u).place ≡ true → ⊥ = λ u o. let z : false ≡ true = sym free ∙ k.held u o in absurd (cc) in
    shifts s t (ToTake p) p true k at y (λ e. absurd (awake e)) (λ h u o. absurd (nobody u o)) (λ h. refl) (λ u n o. refl)

pub gives_latch : (s : State) (t : ℕ) (p : Place) → Kept s → (s.seats t).place ≡ ToGive p → Way (ToGive p) p → p ≢ Asleep → holds p ≡ false → Kept (record (goes s t p) { latch = false })
gives_latch s t p k at y awake free =
    shifts s t (ToGive p) p false k at y (λ e. absurd (awake e))
    (λ h u o. let z : true ≡ false = sym h ∙ free in absurd (cc))
    (λ h. let z : true ≡ false = sym h ∙ free in absurd (cc))
    (λ u n o. absurd (n (k.one u t o (ap holds at))))

-- the three sections of the latch
pub taking_way : (p : Place) → proper (ToTake p) ≡ true → Way (ToTake p) p × (p ≢ Asleep)
taking_way ToLook e = (way refl refl (λ y. y) (λ y. y) (λ d y. y) (λ y. y), λ z. cc)
taking_way ToLeave e = (way refl refl (λ y. y) (λ y. y) (λ d y. y) (λ y. y), λ z. cc)
taking_way (Unparking all) e = (record { lawful = refl; waiting = refl; waking = λ y. refl; taking = λ y. refl; caring = λ d y. y; minding = λ y. y }, λ z. cc)
taking_way _ e = absurd (cc)

pub giving_way : (p : Place) → proper (ToGive p) ≡ true → Way (ToGive p) p × (p ≢ Asleep) × (holds p ≡ false)
giving_way ToSleep e = (way refl refl (λ y. y) (λ y. y) (λ d y. y) (λ y. y), λ z. cc, refl)
giving_way Out e = (way refl refl (λ y. y) (λ y. y) (λ d y. y) (λ y. y), λ z. cc, refl)
giving_way Waking e = (way refl refl (λ y. y) (λ y. y) (λ d y. y) (λ y. y), λ z. cc, refl)
giving_way _ e = absurd (cc)
