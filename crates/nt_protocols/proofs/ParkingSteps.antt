-- Each step of parking keeps that; and the laws.
use Rattle.std.proofs.Common.{◌≡◌, ◌≢◌, ◌⊎◌, ℕ, ◌+◌, Bool, true, false, refl, sym, ◌∙◌, subst, ap, inl, inr, arith, List}
use Rattle.std.specs.Prelude.{not}
use Rattle.nt_protocols.specs.Threads.{put, Can, after_all}
use Rattle.nt_protocols.specs.Parking.{Standing, Absent, Listed, Taken, Place, Out, ToTake, ToGive, ToLook, ToPark, ToSleep, Asleep, ToLoad, ToLeave, ToCheck, Unparking, Waking, Seat, State}
use Rattle.nt_protocols.specs.Parking.{Event, Counts, TakesLatch, GivesLatch, LooksSame, LooksOther, Parks, FallsAsleep, Stirs, Restarts, Reads, TimesOut, Leaves, Changes, Calls, SeesNobody, SeesSome, TakesOff, Unparks, Finishes, Wakes, Returns}
use Rattle.nt_protocols.specs.Parking.{waits, is_counted, is_waking, dozed, woken, read, read_again, IsAt, becomes, goes, owing, step, opening, unparks_all}
use Rattle.nt_protocols.proofs.Putting.{put_same, some_put, each_put_two, kept_all}
use Rattle.nt_protocols.proofs.ParkingPlaces.{is_absent, is_listed, proper, holds, takes, cares, absent_not_listed, cares_cases, cares_counted, listed_cares, takes_wakes, takes_holds}
use Rattle.nt_protocols.proofs.ParkingKept.{Sound, Kept, moved, still_taken, minds_on, Way, way, stays, walks, takes_latch, gives_latch, taking_way, giving_way}

-- ---- who waits

-- who waits and is not parked stands nowhere
unparked_absent : (p : Place) (w : Bool) (d : Standing) (g n : ℕ) → Sound p w d g n → waits p ≡ true → w ≡ false → is_absent d ≡ true
unparked_absent p w d g n h wt e = h.filed wt ∙ ap not e

answered : (p q : Place) (w : Bool) (d : Standing) (g n : ℕ) → Sound p w d g n → waits p ≡ true → w ≡ false → waits q ≡ false → proper q ≡ true → Sound q w d g (n + 1)
answered p q w d g n h wt e wq lq = record {
  lawful = lq;
  outside = λ x. unparked_absent p w d g n h wt e;
  filed = λ x. let z : true ≡ false = sym x ∙ wq in absurd (cc);
  counted = rw wq (omega (arith, rw (wt, e) at h.counted));
}

-- t, whose word says that it was unparked, answers at q
answers_at : (s : State) (t : ℕ) (p q : Place) → Kept s → (s.seats t).place ≡ p → (s.seats t).parked ≡ false
    → waits p ≡ true → waits q ≡ false → proper q ≡ true → is_waking p ≡ false → takes p ≡ false → unparks_all p ≡ false → q ≢ Asleep → holds q ≡ holds p
    → ((d : Standing) → cares q d ≡ true → is_listed d ≡ true)
    → Kept (becomes s t (record (s.seats t) { place = q; answers = (s.seats t).answers + 1 }))
answers_at s t p q k at off wp wq lq kp tp up awake same cr =
    let old = s.seats t in
    let a : Seat = record old { place = q; answers = old.answers + 1 } in
    let h : Sound p old.parked old.standing old.unparks old.answers = subst (λ r. Sound r old.parked old.standing old.unparks old.answers) at (k.sound t) in
    let mine : holds q ≡ true → holds old.place ≡ true = λ x. ap holds at ∙ (sym same ∙ x) in
    let mind : unparks_all old.place ≡ true → unparks_all q ≡ true = λ z. let y : true ≡ false = sym z ∙ (ap unparks_all at ∙ up) in absurd (cc) in
    moved s t a s.latch s.value k
    (answered p q old.parked old.standing old.unparks old.answers h wp off wq lq)
    (λ u o. let z : true ≡ false = sym (k.waking t u o) ∙ (ap is_waking at ∙ kp) in absurd (cc))
    (λ u n e. let z : true ≡ false = sym (k.taken u t e) ∙ (ap takes at ∙ tp) in absurd (cc))
    (still_taken s t k)
    (λ e. absurd (awake e))
    (λ x u o. k.one u t o (mine x))
    (λ x. k.held t (mine x))
    (λ u n o. k.held u o)
    (λ c ne. absurd (absent_not_listed old.standing (unparked_absent p old.parked old.standing old.unparks old.answers h wp off) (cr old.standing c)))
    (λ u n c ne. minds_on s t a k mind u c ne)

reads : (s : State) (t : ℕ) → Kept s → (s.seats t).place ≡ ToLoad → (b : Bool) → (s.seats t).parked ≡ b → Kept (becomes s t (read (s.seats t) b))
reads s t k at true e = walks s t ToLoad ToSleep k at (way refl refl (λ y. y) (λ y. y) (λ d y. y) (λ y. y)) refl (λ z. cc)
reads s t k at false e = answers_at s t ToLoad Out k at e refl refl refl refl refl refl (λ z. cc) refl (λ d y. y)

leaves : (s : State) (t : ℕ) → Kept s → (s.seats t).place ≡ ToLeave → (b : Bool) → (s.seats t).parked ≡ b → Kept (becomes s t (read_again (s.seats t) b))
leaves s t k at true e =
    let old = s.seats t in
    let a : Seat = record old { place = ToGive Out; parked = false; standing = Absent } in
    let h : Sound ToLeave old.parked old.standing old.unparks old.answers = subst (λ r. Sound r old.parked old.standing old.unparks old.answers) at (k.sound t) in
    moved s t a s.latch s.value k
    (record { lawful = refl; outside = λ x. refl; filed = λ x. absurd (cc); counted = omega (arith, rw e at h.counted) })
    (λ u o. let z : true ≡ false = sym (k.waking t u o) ∙ ap is_waking at in absurd (cc))
    (λ u n x. let z : true ≡ false = sym (k.taken u t x) ∙ ap takes at in absurd (cc))
    (λ x y. absurd (cc))
    (λ x. absurd (cc))
    (λ x u o. k.one u t o (ap holds at))
    (λ x. k.held t (ap holds at))
    (λ u n o. k.held u o)
    (λ c ne. absurd (cc))
    (λ u n c ne. minds_on s t a k (λ z. let y : true ≡ false = sym z ∙ ap unparks_all at in absurd (cc)) u c ne)
leaves s t k at false e = answers_at s t ToLeave (ToGive Out) k at e refl refl refl refl refl refl (λ z. cc) refl (λ d y. y)

parks : (s : State) (t : ℕ) → Kept s → (s.seats t).place ≡ ToPark → Kept (step s (Parks t)).after
parks s t k at =
    let old = s.seats t in
    let a : Seat = record old { place = ToGive ToSleep; parked = true; standing = Listed } in
    let h : Sound ToPark old.parked old.standing old.unparks old.answers = subst (λ r. Sound r old.parked old.standing old.unparks old.answers) at (k.sound t) in
    let mind : unparks_all old.place ≡ true → unparks_all a.place ≡ true = λ z. let y : true ≡ false = sym z ∙ ap unparks_all at in absurd (cc) in
    moved s t a s.latch s.value k
    (record { lawful = refl; outside = λ x. absurd (cc); filed = λ x. refl; counted = h.counted })
    (λ u o. let z : true ≡ false = sym (k.waking t u o) ∙ ap is_waking at in absurd (cc))
    (λ u n x. let z : true ≡ false = sym (k.taken u t x) ∙ ap takes at in absurd (cc))
    (λ x y. absurd (cc))
    (λ x. absurd (cc))
    (λ x u o. k.one u t o (ap holds at))
    (λ x. k.held t (ap holds at))
    (λ u n o. k.held u o)
    (λ c ne. minds_on s t a k mind t (ap (λ r. cares r old.standing) at) ne)
    (λ u n c ne. minds_on s t a k mind u c ne)

counts : (s : State) (t x : ℕ) → Kept s → (s.seats t).place ≡ Out → Kept (step s (Counts t x)).after
counts s t x k at =
    let old = s.seats t in
    let a : Seat = record old { place = ToTake ToLook; expected = x } in
    let h : Sound Out old.parked old.standing old.unparks old.answers = subst (λ r. Sound r old.parked old.standing old.unparks old.answers) at (k.sound t) in
    moved s t a s.latch s.value k
    (record { lawful = refl; outside = h.outside; filed = λ y. absurd (cc); counted = h.counted })
    (λ u o. let z : true ≡ false = sym (k.waking t u o) ∙ ap is_waking at in absurd (cc))
    (λ u n y. let z : true ≡ false = sym (k.taken u t y) ∙ ap takes at in absurd (cc))
    (still_taken s t k)
    (λ y. absurd (cc))
    (λ y. absurd (cc))
    (λ y. absurd (cc))
    (λ u n o. k.held u o)
    (λ c ne. absurd (absent_not_listed old.standing (h.outside refl) c))
    (λ u n c ne. minds_on s t a k (λ z. let y : true ≡ false = sym z ∙ ap unparks_all at in absurd (cc)) u c ne)

looks_same : (s : State) (t : ℕ) → Kept s → (s.seats t).place ≡ ToLook → s.value ≡ (s.seats t).expected → Kept (step s (LooksSame t)).after
looks_same s t k at same =
    let old = s.seats t in
    let a : Seat = record old { place = ToPark } in
    let h : Sound ToLook old.parked old.standing old.unparks old.answers = subst (λ r. Sound r old.parked old.standing old.unparks old.answers) at (k.sound t) in
    moved s t a s.latch s.value k
    (record { lawful = refl; outside = h.outside; filed = λ y. absurd (cc); counted = h.counted })
    (λ u o. let z : true ≡ false = sym (k.waking t u o) ∙ ap is_waking at in absurd (cc))
    (λ u n y. let z : true ≡ false = sym (k.taken u t y) ∙ ap takes at in absurd (cc))
    (still_taken s t k)
    (λ y. absurd (cc))
    (λ x u o. k.one u t o (ap holds at))
    (λ x. k.held t (ap holds at))
    (λ u n o. k.held u o)
    (λ c ne. absurd (ne same))
    (λ u n c ne. minds_on s t a k (λ z. let y : true ≡ false = sym z ∙ ap unparks_all at in absurd (cc)) u c ne)

-- ---- who wakes

changes : (s : State) (t v : ℕ) → Kept s → (s.seats t).place ≡ Out → Kept (step s (Changes t v)).after
changes s t v k at =
    let old = s.seats t in
    let a : Seat = record old { place = ToCheck true } in
    let h : Sound Out old.parked old.standing old.unparks old.answers = subst (λ r. Sound r old.parked old.standing old.unparks old.answers) at (k.sound t) in
    let some : (x : ℕ) × (unparks_all (put s.seats t a x).place ≡ true) = (t, ap (λ (b : Seat). unparks_all b.place) (put_same s.seats t a)) in
    moved s t a s.latch v k
    (record { lawful = refl; outside = h.outside; filed = λ y. absurd (cc); counted = h.counted })
    (λ u o. let z : true ≡ false = sym (k.waking t u o) ∙ ap is_waking at in absurd (cc))
    (λ u n y. let z : true ≡ false = sym (k.taken u t y) ∙ ap takes at in absurd (cc))
    (still_taken s t k)
    (λ y. absurd (cc))
    (λ y. absurd (cc))
    (λ y. absurd (cc))
    (λ u n o. k.held u o)
    (λ c ne. some)
    (λ u n c ne. some)

sees_nobody : (s : State) (t : ℕ) (all : Bool) → Kept s → (s.seats t).place ≡ ToCheck all → ((u : ℕ) → is_counted (s.seats u).standing (s.seats u).place ≡ false) → Kept (goes s t Out)
sees_nobody s t all k at nobody =
    let old = s.seats t in
    let a : Seat = record old { place = Out } in
    let h : Sound (ToCheck all) old.parked old.standing old.unparks old.answers = subst (λ r. Sound r old.parked old.standing old.unparks old.answers) at (k.sound t) in
    let none : (u : ℕ) → cares (s.seats u).place (s.seats u).standing ≡ true → ⊥ =
    λ u c. let z : true ≡ false = sym (cares_counted (s.seats u).place (s.seats u).standing c) ∙ nobody u in absurd (cc) in
    moved s t a s.latch s.value k
    (record { lawful = refl; outside = h.outside; filed = λ y. absurd (cc); counted = h.counted })
    (λ u o. let z : true ≡ false = sym (k.waking t u o) ∙ ap is_waking at in absurd (cc))
    (λ u n y. let z : true ≡ false = sym (k.taken u t y) ∙ ap takes at in absurd (cc))
    (still_taken s t k)
    (λ y. absurd (cc))
    (λ y. absurd (cc))
    (λ y. absurd (cc))
    (λ u n o. k.held u o)
    (λ c ne. absurd (absent_not_listed old.standing (h.outside refl) c))
    (λ u n c ne. absurd (none u c))

takes_off : (s : State) (t u : ℕ) (all : Bool) → Kept s → (s.seats t).place ≡ Unparking all → (s.seats u).standing ≡ Listed → Kept (becomes s u (record (s.seats u) { standing = Taken t }))
takes_off s t u all k at listed =
    let old = s.seats u in
    let a : Seat = record old { standing = Taken t } in
    let h = k.sound u in
    let there : is_absent old.standing ≡ false = ap is_absent listed in
    let wait : waits old.place ≡ false → ⊥ = λ w. let z : true ≡ false = sym (h.outside w) ∙ there in absurd (cc) in
    let other : t ≢ u = λ e. wait (ap (λ (x : ℕ). waits (s.seats x).place) (sym e) ∙ ap waits at) in
    let mind : s.value ≢ old.expected → (x : ℕ) × (unparks_all (s.seats x).place ≡ true) = λ ne. k.minded u (ap (λ d. cares old.place d) listed ∙ listed_cares old.place) ne in
    moved s u a s.latch s.value k
    (record { lawful = h.lawful; outside = λ w. absurd (wait w); filed = λ w. sym there ∙ h.filed w; counted = h.counted })
    (λ v o. k.waking u v o)
    (λ v n e. k.taken v u e)
    (λ x e. let e' : t ≡ x = cc in (λ y. other (e' ∙ y), ap (λ (y : ℕ). takes (s.seats y).place) (sym e') ∙ ap takes at))
    (λ e. k.sleeping u e)
    (λ o v o'. k.one v u o' o)
    (λ o. k.held u o)
    (λ v n o. k.held v o)
    (λ c ne. some_put (λ b. unparks_all b.place ≡ true) s.seats u a (λ y. y) (mind ne))
    (λ v n c ne. minds_on s u a k (λ y. y) v c ne)

-- t owes u a wake-up from now on, where it is to wake
owes_more : (s : State) (t u : ℕ) → Kept s → is_waking (s.seats t).place ≡ true → Kept (owing s t u true)
owes_more s t u k w = record {
  sound = k.sound;
  waking = each_put_two (λ v x b. b ≡ true → is_waking (s.seats v).place ≡ true) s.owes t u true (λ o. w) (λ v x n. k.waking v x);
  taken = k.taken;
  sleeping = λ x e. elim (k.sleeping x e) [
    | inl p ↦ inl p
    | inr o ↦ inr (o.0, each_put_two (λ v y b. s.owes v y ≡ true → b ≡ true) s.owes t u true (λ o'. refl) (λ v y n o'. o') o.0 x o.1)
  ];
  one = k.one;
  held = k.held;
  minded = k.minded;
}

-- t owes u no wake-up from now on, where u does not sleep
owes_less : (s : State) (t u : ℕ) → Kept s → (s.seats u).place ≢ Asleep → Kept (owing s t u false)
owes_less s t u k awake = record {
  sound = k.sound;
  waking = each_put_two (λ v x b. b ≡ true → is_waking (s.seats v).place ≡ true) s.owes t u false (λ o. absurd (cc)) (λ v x n. k.waking v x);
  taken = k.taken;
  sleeping = λ x e. elim (k.sleeping x e) [
    | inl p ↦ inl p
    | inr o ↦ inr (o.0, each_put_two (λ v y b. s.owes v y ≡ true → y ≢ u → b ≡ true) s.owes t u false (λ o' m. absurd (m refl)) (λ v y m o' m'. o') o.0 x o.1 (λ same. awake (ap (λ (y : ℕ). (s.seats y).place) (sym same) ∙ e)))
  ];
  one = k.one;
  held = k.held;
  minded = k.minded;
}

-- who stands somewhere waits
standing_waits : (p : Place) (w : Bool) (d : Standing) (g n : ℕ) → Sound p w d g n → is_absent d ≡ false → (b : Bool) → waits p ≡ b → waits p ≡ true
standing_waits p w d g n h there true e = e
standing_waits p w d g n h there false e = let z : true ≡ false = sym (h.outside e) ∙ there in absurd (cc)

unparked_sound : (p : Place) (w : Bool) (d : Standing) (g n : ℕ) → Sound p w d g n → is_absent d ≡ false → Sound p false Absent (g + 1) n
unparked_sound p true d g n h there =
    let wt = standing_waits p true d g n h there (waits p) refl in
    record { lawful = h.lawful; outside = λ e. refl; filed = λ e. refl; counted = rw wt (omega (arith, rw wt at h.counted)) }
unparked_sound p false d g n h there =
    let wt = standing_waits p false d g n h there (waits p) refl in
    let z : true ≡ false = sym (h.filed wt) ∙ there in absurd (cc)

-- t, which has taken u off the list, writes u's word
unparked : (s : State) (t u : ℕ) → Kept s → (s.seats u).standing ≡ Taken t → Kept (step s (Unparks t u)).after
unparked s t u k e =
    let s1 : State = owing s t u true in
    let k1 : Kept s1 = owes_more s t u k (takes_wakes (s.seats t).place (k.taken u t e)) in
    let old = s.seats u in
    let a : Seat = record old { parked = false; standing = Absent; unparks = old.unparks + 1 } in
    let h = k.sound u in
    let there : is_absent old.standing ≡ false = ap is_absent e in
    let owed : s1.owes t u ≡ true = ap (λ (f : ℕ → Bool). f u) (put_same s.owes t (put (s.owes t) u true)) ∙ put_same (s.owes t) u true in
    moved s1 u a s.latch s.value k1
    (unparked_sound old.place old.parked old.standing old.unparks old.answers h there)
    (λ v o. k1.waking u v o)
    (λ v n x. k.taken v u x)
    (λ x y. absurd (cc))
    (λ x. inr (t, owed))
    (λ o v o'. k.one v u o' o)
    (λ o. k.held u o)
    (λ v n o. k.held v o)
    (λ c ne. elim (cares_cases old.place Absent c) [
      | inl p ↦ some_put (λ b. unparks_all b.place ≡ true) s.seats u a (λ y. y) (k.minded u (ap (λ r. cares r old.standing) p) ne)
      | inr p ↦ let z : Absent ≡ Listed = p in absurd (cc)
    ])
    (λ v n c ne. minds_on s u a k (λ y. y) v c ne)

-- nobody that stands in the list, or is about to, is left where t has taken all off
all_off : (s : State) (t : ℕ) (all : Bool) → Kept s → (s.seats t).place ≡ Unparking all
    → ((u : ℕ) → ((s.seats u).standing ≢ Taken t) × (all ≡ true → (s.seats u).standing ≢ Listed))
    → (u : ℕ) → u ≢ t → cares (s.seats u).place (s.seats u).standing ≡ true → s.value ≢ (s.seats u).expected
    → (x : ℕ) × (unparks_all (put s.seats t (record (s.seats t) { place = ToGive Waking }) x).place ≡ true)
all_off s t true k at none u n c ne = elim (cares_cases (s.seats u).place (s.seats u).standing c) [
  | inl p ↦ absurd (n (k.one u t (ap holds p) (ap holds at)))
  | inr l ↦ absurd ((none u).1 refl l)
]
all_off s t false k at none u n c ne =
    minds_on s t (record (s.seats t) { place = ToGive Waking }) k (λ z. let y : true ≡ false = sym z ∙ ap unparks_all at in absurd (cc)) u c ne

-- t has taken off all that it takes
finishes : (s : State) (t : ℕ) (all : Bool) → Kept s → (s.seats t).place ≡ Unparking all
    → ((u : ℕ) → ((s.seats u).standing ≢ Taken t) × (all ≡ true → (s.seats u).standing ≢ Listed))
    → Kept (goes s t (ToGive Waking))
finishes s t all k at none =
    let old = s.seats t in
    let a : Seat = record old { place = ToGive Waking } in
    let h : Sound (Unparking all) old.parked old.standing old.unparks old.answers = subst (λ r. Sound r old.parked old.standing old.unparks old.answers) at (k.sound t) in
    moved s t a s.latch s.value k
    (record { lawful = refl; outside = h.outside; filed = λ y. absurd (cc); counted = h.counted })
    (λ u o. refl)
    (λ u n e. absurd ((none u).0 e))
    (still_taken s t k)
    (λ y. absurd (cc))
    (λ x u o. k.one u t o (ap holds at))
    (λ x. k.held t (ap holds at))
    (λ u n o. k.held u o)
    (λ c ne. absurd (absent_not_listed old.standing (h.outside refl) c))
    (λ u n c ne. all_off s t all k at none u n c ne)

-- who is woken does not sleep, and all that others rest on stays
woken_way : (p : Place) → proper p ≡ true → Way p (woken p) × (holds (woken p) ≡ holds p) × (woken p ≢ Asleep)
woken_way Asleep l = (way refl refl (λ y. y) (λ y. y) (λ d y. y) (λ y. y), refl, λ z. cc)
woken_way Out l = (stays Out l, refl, λ z. cc)
woken_way (ToTake p) l = (stays (ToTake p) l, refl, λ z. cc)
woken_way (ToGive p) l = (stays (ToGive p) l, refl, λ z. cc)
woken_way ToLook l = (stays ToLook l, refl, λ z. cc)
woken_way ToPark l = (stays ToPark l, refl, λ z. cc)
woken_way ToSleep l = (stays ToSleep l, refl, λ z. cc)
woken_way ToLoad l = (stays ToLoad l, refl, λ z. cc)
woken_way ToLeave l = (stays ToLeave l, refl, λ z. cc)
woken_way (ToCheck all) l = (stays (ToCheck all) l, refl, λ z. cc)
woken_way (Unparking all) l = (stays (Unparking all) l, refl, λ z. cc)
woken_way Waking l = (stays Waking l, refl, λ z. cc)

wakes : (s : State) (t u : ℕ) → Kept s → Kept (step s (Wakes t u)).after
wakes s t u k =
    let p = (s.seats u).place in
    let way = woken_way p (k.sound u).lawful in
    let s1 : State = goes s u (woken p) in
    let k1 : Kept s1 = walks s u p (woken p) k refl way.0 way.1 (λ e. absurd (way.2 e)) in
    owes_less s1 t u k1 (λ e. way.2 (sym (ap (λ (b : Seat). b.place) (put_same s.seats u (record (s.seats u) { place = woken p }))) ∙ e))

returns : (s : State) (t : ℕ) → Kept s → (s.seats t).place ≡ Waking → ((u : ℕ) → s.owes t u ≡ false) → Kept (goes s t Out)
returns s t k at none =
    let old = s.seats t in
    let a : Seat = record old { place = Out } in
    let h : Sound Waking old.parked old.standing old.unparks old.answers = subst (λ r. Sound r old.parked old.standing old.unparks old.answers) at (k.sound t) in
    moved s t a s.latch s.value k
    (record { lawful = refl; outside = h.outside; filed = λ y. absurd (cc); counted = h.counted })
    (λ u o. let z : true ≡ false = sym o ∙ none u in absurd (cc))
    (λ u n e. let z : true ≡ false = sym (k.taken u t e) ∙ ap takes at in absurd (cc))
    (still_taken s t k)
    (λ y. absurd (cc))
    (λ y. absurd (cc))
    (λ y. absurd (cc))
    (λ u n o. k.held u o)
    (λ c ne. absurd (absent_not_listed old.standing (h.outside refl) c))
    (λ u n c ne. minds_on s t a k (λ z. let y : true ≡ false = sym z ∙ ap unparks_all at in absurd (cc)) u c ne)

dozes : (s : State) (t : ℕ) → Kept s → (s.seats t).place ≡ ToSleep → (b : Bool) → (s.seats t).parked ≡ b → Kept (goes s t (dozed b))
dozes s t k at true e = walks s t ToSleep Asleep k at (way refl refl (λ y. y) (λ y. y) (λ d y. y) (λ y. y)) refl (λ z. inl e)
dozes s t k at false e = walks s t ToSleep ToLoad k at (way refl refl (λ y. y) (λ y. y) (λ d y. y) (λ y. y)) refl (λ z. cc)

-- each event keeps it
pub keeps : (s : State) (e : Event) → Kept s → (step s e).may → Kept (step s e).after
keeps s (Counts t x) k may = counts s t x k may
keeps s (TakesLatch t p) k may =
    let way = taking_way p (subst (λ r. proper r ≡ true) may.0 (k.sound t).lawful) in
    takes_latch s t p k may.0 may.1 way.0 way.1
keeps s (GivesLatch t p) k may =
    let way = giving_way p (subst (λ r. proper r ≡ true) may (k.sound t).lawful) in
    gives_latch s t p k may way.0 way.1 way.2
keeps s (LooksSame t) k may = looks_same s t k may.0 may.1
keeps s (LooksOther t) k may = walks s t ToLook (ToGive Out) k may.0 (way refl refl (λ y. y) (λ y. y) (λ d y. y) (λ y. y)) refl (λ z. cc)
keeps s (Parks t) k may = parks s t k may
keeps s (FallsAsleep t) k may = dozes s t k may (s.seats t).parked refl
keeps s (Stirs t) k may = walks s t Asleep ToLoad k may (way refl refl (λ y. y) (λ y. y) (λ d y. y) (λ y. y)) refl (λ z. cc)
keeps s (Restarts t) k may = walks s t Asleep ToSleep k may (way refl refl (λ y. y) (λ y. y) (λ d y. y) (λ y. y)) refl (λ z. cc)
keeps s (Reads t) k may = reads s t k may (s.seats t).parked refl
keeps s (TimesOut t) k may = walks s t ToSleep (ToTake ToLeave) k may (way refl refl (λ y. y) (λ y. y) (λ d y. y) (λ y. y)) refl (λ z. cc)
keeps s (Leaves t) k may = leaves s t k may (s.seats t).parked refl
keeps s (Changes t v) k may = changes s t v k may
keeps s (Calls t) k may = walks s t Out (ToCheck false) k may (way refl refl (λ y. y) (λ y. y) (λ d y. y) (λ y. y)) refl (λ z. cc)
keeps s (SeesNobody t all) k may = sees_nobody s t all k may.0 may.1
keeps s (SeesSome t all) k may = walks s t (ToCheck all) (ToTake (Unparking all)) k may (way refl refl (λ y. y) (λ y. y) (λ d y. y) (λ y. y)) refl (λ z. cc)
keeps s (TakesOff t u all) k may = takes_off s t u all k may.0 may.1
keeps s (Unparks t u) k may = unparked s t u k may
keeps s (Finishes t all) k may = finishes s t all k may.0 may.1
keeps s (Wakes t u) k may = wakes s t u k
keeps s (Returns t) k may = returns s t k may.0 may.1

opens : Kept opening
opens = record {
  sound = λ u. record { lawful = refl; outside = λ x. refl; filed = λ x. absurd (cc); counted = refl };
  waking = λ t u x. absurd (cc);
  taken = λ u t x. absurd (cc);
  sleeping = λ u x. absurd (cc);
  one = λ t u x. absurd (cc);
  held = λ t x. absurd (cc);
  minded = λ u x. absurd (cc);
}

pub always : (es : List Event) → Can step opening es → Kept (after_all step opening es)
always es can = kept_all step Kept keeps es opening opens can

-- ---- the laws

-- who stands somewhere stands in the list, or was taken off
standing_cases : (d : Standing) → is_absent d ≡ false → (d ≡ Listed) ⊎ ((t : ℕ) × (d ≡ Taken t))
standing_cases Listed e = inl refl
standing_cases (Taken t) e = inr (t, refl)
standing_cases Absent e = absurd (cc)

pub in_vain : (s : State) → Kept s → (u : ℕ) → IsAt s u Asleep → ((s.seats u).standing ≡ Listed)
    ⊎ ((t : ℕ) × (is_waking (s.seats t).place ≡ true) × (((s.seats u).standing ≡ Taken t) ⊎ (s.owes t u ≡ true)))
in_vain s k u at = elim (k.sleeping u at) [
  | inl e ↦ elim (standing_cases (s.seats u).standing ((k.sound u).filed (ap waits at) ∙ ap not e)) [
    | inl l ↦ inl l
    | inr x ↦ let x1 = x.1 in inr (x.0, takes_wakes (s.seats x.0).place (k.taken u x.0 x1), inl x1)
  ]
  | inr o ↦ let o1 = o.1 in inr (o.0, k.waking o.0 u o1, inr o1)
]

pub no_change_lost : (s : State) → Kept s → (u : ℕ) → (s.seats u).standing ≡ Listed → s.value ≢ (s.seats u).expected → (t : ℕ) × (unparks_all (s.seats t).place ≡ true)
no_change_lost s k u e ne = k.minded u (ap (λ d. cares (s.seats u).place d) e ∙ listed_cares (s.seats u).place) ne

pub leaves_listed : (s : State) → Kept s → (u : ℕ) → IsAt s u ToLeave → (s.seats u).parked ≡ true → (s.seats u).standing ≡ Listed
leaves_listed s k u at e = elim (standing_cases (s.seats u).standing ((k.sound u).filed (ap waits at) ∙ ap not e)) [
  | inl l ↦ l
  | inr x ↦
      let x1 = x.1 in
      let taking : takes (s.seats x.0).place ≡ true = k.taken u x.0 x1 in
      let same : x.0 ≡ u = k.one x.0 u (takes_holds (s.seats x.0).place taking) (ap holds at) in
      let z : true ≡ false = sym taking ∙ (ap (λ (y : ℕ). takes (s.seats y).place) same ∙ ap takes at) in absurd (cc)
]
