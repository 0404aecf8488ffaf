-- What each event of the favoured lock keeps.
use Rattle.std.proofs.Common.{◌≡◌, ◌≢◌, ◌⊎◌, ℕ, Bool, true, false, refl, sym, ◌∙◌, subst, ap, inl, inr, List, ◌∷◌, Some, None}
use Rattle.std.specs.Prelude.{◌==◌}
use Rattle.std.proofs.lemmas.Bool.Decides.{eqb_tells}
use Rattle.nt_protocols.specs.Threads.{put}
use Rattle.nt_protocols.specs.Lock.{Lock, Free, Taken, Wanted, Favours, Buffer, Empty, Holds, Place, Out, ToReload, ToWakeRevoker, ToMark, ToPay, ToSleep, Asleep, ToLook, ToSleepOn, AsleepOn, Owner, ToWake}
use Rattle.nt_protocols.specs.Lock.{Frame, frame_place, Seat, State}
use Rattle.nt_protocols.specs.Lock.{WakesRevoker, PaysOne, WakesOne, Interrupts, Resumes, StoreArrives}
use Rattle.nt_protocols.specs.Lock.{is_held, revoking, given, moves, IsDrained, step, step, view, claims, will_wake, leads, leads_under}
use Rattle.nt_protocols.proofs.Putting.{put_same, put_other, each_put, some_put, one_put}
use Rattle.nt_protocols.proofs.LockPlaces.{stored, target, barred, naps, is_inside, sleeps, target_claims, is_naps, barred_claims, naps_claims, inside_not_claims, inside_stored, stored_wakes, held_not_favours, revoking_claims, revoking_target, revoking_inside, revoking_naps, revoking_sleeps, revoking_stored, revoking_barred, frame_facts, frame_wakes, frame_leads, interrupted_wakes, interrupted_leads}

-- what holds of one thread by itself: what it sees of its `inside` is what its place says, and its buffer clears `inside` only while it has the lock
-- as all have it
pub record Sound (p : Place) (inside : Bool) (buffer : Buffer) : Type 0 where
  pub viewed : view buffer inside ≡ stored p
  pub cleared : buffer ≡ Holds false → p ≡ Owner

-- a thread is to wake who sleeps on its `inside`; and one that sleeps on the lock
abbrev pub wakes : Seat → Bool
wakes a = will_wake a.place a.under

abbrev pub leads_on : Seat → Bool
leads_on a = leads a.place a.under

abbrev pub IsSound : Seat → Type 0
IsSound a = Sound a.place a.inside a.buffer

-- between the events, whatever came before
pub record Kept (s : State) : Type 0 where
  pub sound : (t : ℕ) → IsSound (s.seats t)
  -- one thread at most claims the lock, and one does exactly while it is taken or wanted
  pub one : (t u : ℕ) → claims (s.seats t).place ≡ true → claims (s.seats u).place ≡ true → t ≡ u
  pub held : (t : ℕ) → claims (s.seats t).place ≡ true → is_held s.lock ≡ true
  pub owned : is_held s.lock ≡ true → (t : ℕ) × (claims (s.seats t).place ≡ true)
  -- a thread that is inside is favoured, or a thread has revoked that
  pub inside : (t : ℕ) → is_inside (s.seats t).place ≡ true → (s.lock ≡ Favours t) ⊎ ((u : ℕ) × (target (s.seats u).place ≡ Some t))
  -- and its store has arrived, once it has passed that one's barrier
  pub arrived : (u n : ℕ) → barred (s.seats u).place ≡ Some n → is_inside (s.seats n).place ≡ true → (s.seats n).buffer ≡ Empty
  -- who sleeps on a thread's `inside` is owed a wake-up by it
  pub napping : (u n : ℕ) → naps (s.seats u).place ≡ Some n → wakes (s.seats n) ≡ true
  -- who sleeps on the lock finds it wanted, or a thread leads to that
  pub sleeping : (u : ℕ) → sleeps (s.seats u).place ≡ true → (s.lock ≡ Wanted) ⊎ ((t : ℕ) × (leads_on (s.seats t) ≡ true))

pub not_favoured : (s : State) (t n : ℕ) → Kept s → claims (s.seats t).place ≡ true → s.lock ≢ Favours n
not_favoured s t n k c = held_not_favours s.lock (k.held t c) n

-- thread t alone changes, and the lock does not
pub moved : (s : State) (t : ℕ) (a : Seat) → Kept s → IsSound a
    → claims a.place ≡ claims (s.seats t).place
    → ((x : ℕ) → is_inside (s.seats x).place ≡ true → target (s.seats t).place ≡ Some x → target a.place ≡ Some x)
    → (is_inside a.place ≡ true → ((is_inside (s.seats t).place ≡ true) × ((s.seats t).buffer ≡ Empty → a.buffer ≡ Empty)) ⊎ (s.lock ≡ Favours t))
    → ((n : ℕ) → barred a.place ≡ Some n → is_inside (s.seats n).place ≡ true → (s.seats n).buffer ≡ Empty)
    → ((n : ℕ) → naps a.place ≡ Some n → (n ≢ t) × (wakes (s.seats n) ≡ true))
    → ((u : ℕ) → u ≢ t → naps (s.seats u).place ≡ Some t → wakes a ≡ true)
    → (sleeps a.place ≡ true → (s.lock ≡ Wanted) ⊎ ((x : ℕ) × (leads_on (put s.seats t a x) ≡ true)))
    → ((v : ℕ) → v ≢ t → sleeps (s.seats v).place ≡ true → (s.lock ≡ Wanted) ⊎ ((x : ℕ) × (leads_on (put s.seats t a x) ≡ true)))
    → Kept (record s { seats = put s.seats t a })
moved s t a k sound same aims ins bar nap end slp lead =
    let here : (n : ℕ) → barred a.place ≡ Some n → is_inside (put s.seats t a n).place ≡ true → (put s.seats t a n).buffer ≡ Empty =
    each_put (λ n b. barred a.place ≡ Some n → is_inside b.place ≡ true → b.buffer ≡ Empty) s.seats t a
    (λ e h. absurd (inside_not_claims a.place h (barred_claims a.place t e)))
    (λ n m e h. bar n e h) in
    let there : (u : ℕ) → u ≢ t → (n : ℕ) → barred (s.seats u).place ≡ Some n → is_inside (put s.seats t a n).place ≡ true → (put s.seats t a n).buffer ≡ Empty = λ u m.
    each_put (λ n b. barred (s.seats u).place ≡ Some n → is_inside b.place ≡ true → b.buffer ≡ Empty) s.seats t a
    (λ e h. elim (ins h) [ inl w ↦ w.1 (k.arrived u t e w.0) | inr l ↦ absurd (not_favoured s u t k (barred_claims (s.seats u).place t e) l) ])
    (λ n m' e h. k.arrived u n e h) in
    let napping_here : (n : ℕ) → naps a.place ≡ Some n → wakes (put s.seats t a n) ≡ true =
    each_put (λ n b. naps a.place ≡ Some n → wakes b ≡ true) s.seats t a (λ e. absurd ((nap t e).0 refl)) (λ n m e. (nap n e).1) in
    let napping_there : (u : ℕ) → u ≢ t → (n : ℕ) → naps (s.seats u).place ≡ Some n → wakes (put s.seats t a n) ≡ true = λ u m.
    each_put (λ n b. naps (s.seats u).place ≡ Some n → wakes b ≡ true) s.seats t a (λ e. end u m e) (λ n m' e. k.napping u n e) in
    record {
      sound = each_put (λ u b. IsSound b) s.seats t a sound (λ u n. k.sound u);
      one = one_put (λ (b : Seat). claims b.place) s.seats t a k.one (λ h u o. k.one u t o (sym same ∙ h));
      held = each_put (λ u b. claims b.place ≡ true → is_held s.lock ≡ true) s.seats t a (λ h. k.held t (sym same ∙ h)) (λ u n. k.held u);
      owned = λ w. some_put (λ b. claims b.place ≡ true) s.seats t a (λ h. same ∙ h) (k.owned w);
      inside = each_put (λ v b. is_inside b.place ≡ true → (s.lock ≡ Favours v) ⊎ ((u : ℕ) × (target (put s.seats t a u).place ≡ Some v))) s.seats t a
          (λ h. elim (ins h) [
            | inl w ↦ elim (k.inside t w.0) [ inl e ↦ inl e | inr o ↦ inr (some_put (λ b. target b.place ≡ Some t) s.seats t a (λ e. aims t w.0 e) o) ]
            | inr l ↦ inl l
          ])
          (λ v n h. elim (k.inside v h) [ inl e ↦ inl e | inr o ↦ inr (some_put (λ b. target b.place ≡ Some v) s.seats t a (λ e. aims v h e) o) ]);
      arrived = each_put (λ u b. (n : ℕ) → barred b.place ≡ Some n → is_inside (put s.seats t a n).place ≡ true → (put s.seats t a n).buffer ≡ Empty) s.seats t a here there;
      napping = each_put (λ u b. (n : ℕ) → naps b.place ≡ Some n → wakes (put s.seats t a n) ≡ true) s.seats t a napping_here napping_there;
      sleeping = each_put (λ v b. sleeps b.place ≡ true → (s.lock ≡ Wanted) ⊎ ((x : ℕ) × (leads_on (put s.seats t a x) ≡ true))) s.seats t a slp lead;
    }

-- who leads still does if this thread still does
pub lead_on : (s : State) (t : ℕ) (a : Seat) → Kept s → (leads_on (s.seats t) ≡ true → leads_on a ≡ true)
    → (v : ℕ) → v ≢ t → sleeps (s.seats v).place ≡ true → (s.lock ≡ Wanted) ⊎ ((x : ℕ) × (leads_on (put s.seats t a x) ≡ true))
lead_on s t a k l v m h = elim (k.sleeping v h) [ inl e ↦ inl e | inr o ↦ inr (some_put (λ b. leads_on b ≡ true) s.seats t a l o) ]

-- nobody sleeps on the `inside` of a thread that is at no place where it is to wake it
pub end_on : (s : State) (t : ℕ) (p q : Place) → Kept s → (s.seats t).place ≡ p → ((fs : List Frame) → will_wake p fs ≡ true → will_wake q fs ≡ true)
    → (u : ℕ) → u ≢ t → naps (s.seats u).place ≡ Some t → wakes (record (s.seats t) { place = q }) ≡ true
end_on s t p q k at still u m n = still (s.seats t).under (subst (λ r. will_wake r (s.seats t).under ≡ true) at (k.napping u t n))

-- who leads still does where this thread goes from p to q
pub leads_still : (s : State) (t : ℕ) (p q : Place) → (s.seats t).place ≡ p → ((fs : List Frame) → leads p fs ≡ true → leads q fs ≡ true)
    → leads_on (s.seats t) ≡ true → leads_on (record (s.seats t) { place = q }) ≡ true
leads_still s t p q at still y = still (s.seats t).under (subst (λ r. leads r (s.seats t).under ≡ true) at y)

pub sound_on : (s : State) (t : ℕ) (p q : Place) → Kept s → (s.seats t).place ≡ p → stored q ≡ stored p → p ≢ Owner → Sound q (s.seats t).inside (s.seats t).buffer
sound_on s t p q k at same never = record {
  viewed = (k.sound t).viewed ∙ (ap stored at ∙ sym same);
  cleared = λ e. absurd (never (sym at ∙ (k.sound t).cleared e));
}

pub drained : (s : State) (t : ℕ) (p q : Place) → Kept s → (s.seats t).place ≡ p → stored q ≡ stored p → IsDrained s t → Sound q (s.seats t).inside (s.seats t).buffer
drained s t p q k at same empty = record {
  viewed = (k.sound t).viewed ∙ (ap stored at ∙ sym same);
  cleared = λ e. let e' : Empty ≡ Holds false = sym empty ∙ e in absurd (cc);
}

-- thread t goes from p to q, where it neither takes nor gives
pub goes : (s : State) (t : ℕ) (p q : Place) → Kept s → (s.seats t).place ≡ p
    → Sound q (s.seats t).inside (s.seats t).buffer
    → claims q ≡ claims p → target q ≡ target p → is_inside q ≡ false → barred q ≡ barred p → naps q ≡ None
    → ((u : ℕ) → u ≢ t → naps (s.seats u).place ≡ Some t → wakes (record (s.seats t) { place = q }) ≡ true)
    → (sleeps q ≡ true → (s.lock ≡ Wanted) ⊎ ((x : ℕ) × (leads_on (moves s.seats t q x) ≡ true)))
    → ((v : ℕ) → v ≢ t → sleeps (s.seats v).place ≡ true → (s.lock ≡ Wanted) ⊎ ((x : ℕ) × (leads_on (moves s.seats t q x) ≡ true)))
    → Kept (record s { seats = moves s.seats t q })
goes s t p q k at sound c tg i b n end slp lead = moved s t (record (s.seats t) { place = q }) k sound
    (c ∙ ap claims (sym at))
    (λ x h e. tg ∙ (ap target (sym at) ∙ e))
    (λ h. absurd (cc))
    (λ x e h. k.arrived t x (ap barred at ∙ (sym b ∙ e)) h)
    (λ x e. absurd (cc))
    end slp lead

-- thread t has made the lock so, which nobody had, or which favoured whom it waits for now
pub taken : (s : State) (t : ℕ) (p q : Place) (l : Lock) → Kept s → (s.seats t).place ≡ p → is_held s.lock ≡ false → is_held l ≡ true → IsDrained s t
    → claims q ≡ true → is_inside q ≡ false → naps q ≡ None → sleeps q ≡ false → stored q ≡ stored p
    → ((v : ℕ) → s.lock ≡ Favours v → target q ≡ Some v)
    → ((n : ℕ) → barred q ≡ Some n → n ≡ t)
    → (l ≡ Wanted) ⊎ ((fs : List Frame) → leads p fs ≡ true → leads q fs ≡ true)
    → Kept (record { lock = l; seats = moves s.seats t q })
taken s t p q l k at free held empty c i n slp same aims bar lead =
    let a : Seat = record (s.seats t) { place = q } in
    let nobody : (u : ℕ) → claims (s.seats u).place ≡ true → ⊥ = λ u o. let h = k.held u o in absurd (cc) in
    record {
      sound = each_put (λ u b. IsSound b) s.seats t a (drained s t p q k at same empty) (λ u m. k.sound u);
      one = one_put (λ (b : Seat). claims b.place) s.seats t a k.one (λ h u o. absurd (nobody u o));
      held = λ u o. held;
      owned = λ w. (t, ap (λ (b : Seat). claims b.place) (put_same s.seats t a) ∙ c);
      inside = each_put (λ v b. is_inside b.place ≡ true → (l ≡ Favours v) ⊎ ((u : ℕ) × (target (put s.seats t a u).place ≡ Some v))) s.seats t a
          (λ h. absurd (cc))
          (λ v m h. elim (k.inside v h) [
            | inl e ↦ inr (t, ap (λ (b : Seat). target b.place) (put_same s.seats t a) ∙ aims v e)
            | inr o ↦ absurd (nobody o.0 (target_claims (s.seats o.0).place v o.1))
          ]);
      arrived = each_put (λ u b. (x : ℕ) → barred b.place ≡ Some x → is_inside (put s.seats t a x).place ≡ true → (put s.seats t a x).buffer ≡ Empty) s.seats t a
          (each_put (λ x b. barred q ≡ Some x → is_inside b.place ≡ true → b.buffer ≡ Empty) s.seats t a (λ e h. absurd (cc)) (λ x m e h. absurd (m (bar x e))))
          (λ u m x e h. absurd (nobody u (barred_claims (s.seats u).place x e)));
      napping = each_put (λ u b. (x : ℕ) → naps b.place ≡ Some x → wakes (put s.seats t a x) ≡ true) s.seats t a
          (λ x e. absurd (cc))
          (λ u m x e. absurd (nobody u (naps_claims (s.seats u).place x e)));
      sleeping = each_put (λ v b. sleeps b.place ≡ true → (l ≡ Wanted) ⊎ ((x : ℕ) × (leads_on (put s.seats t a x) ≡ true))) s.seats t a
          (λ h. absurd (cc))
          (λ v m h. elim lead [
            | inl e ↦ inl e
            | inr still ↦ elim (k.sleeping v h) [
              | inl e ↦ let f = ap is_held e in absurd (cc)
              | inr o ↦ inr (some_put (λ b. leads_on b ≡ true) s.seats t a (leads_still s t p q at still) o)
            ]
          ]);
    }

-- thread t, which claimed the lock, does so no more
pub released : (s : State) (t : ℕ) (p q : Place) (l : Lock) → Kept s → (s.seats t).place ≡ p → claims p ≡ true → is_held l ≡ false → IsDrained s t
    → claims q ≡ false → naps q ≡ None → sleeps q ≡ false → stored q ≡ stored p
    → (is_inside q ≡ true → l ≡ Favours t)
    → ((v : ℕ) → target p ≡ Some v → l ≡ Favours v)
    → (s.lock ≡ Wanted → (fs : List Frame) → leads q fs ≡ true)
    → ((fs : List Frame) → leads p fs ≡ true → leads q fs ≡ true)
    → Kept (record { lock = l; seats = moves s.seats t q })
released s t p q l k at mine free empty c n slp same ins back lead still =
    let a : Seat = record (s.seats t) { place = q } in
    let mine' : claims (s.seats t).place ≡ true = ap claims at ∙ mine in
    let nobody : (u : ℕ) → claims (put s.seats t a u).place ≡ true → ⊥ =
    each_put (λ u b. claims b.place ≡ true → ⊥) s.seats t a (λ h. absurd (cc)) (λ u m h. m (k.one u t h mine')) in
    record {
      sound = each_put (λ u b. IsSound b) s.seats t a (drained s t p q k at same empty) (λ u m. k.sound u);
      one = λ u v o. absurd (nobody u o);
      held = λ u o. absurd (nobody u o);
      owned = λ w. absurd (cc);
      inside = each_put (λ v b. is_inside b.place ≡ true → (l ≡ Favours v) ⊎ ((u : ℕ) × (target (put s.seats t a u).place ≡ Some v))) s.seats t a
          (λ h. inl (ins h))
          (λ v m h. elim (k.inside v h) [
            | inl e ↦ absurd (not_favoured s t v k mine' e)
            | inr o ↦
                let o1 = o.1 in
                let is : o.0 ≡ t = k.one o.0 t (target_claims (s.seats o.0).place v o1) mine' in
                inl (back v (ap target (sym at) ∙ (ap (λ (u : ℕ). target (s.seats u).place) (sym is) ∙ o1)))
          ]);
      arrived = λ u x e. absurd (nobody u (barred_claims (put s.seats t a u).place x e));
      napping = λ u x e. absurd (nobody u (naps_claims (put s.seats t a u).place x e));
      sleeping = each_put (λ v b. sleeps b.place ≡ true → (l ≡ Wanted) ⊎ ((x : ℕ) × (leads_on (put s.seats t a x) ≡ true))) s.seats t a
          (λ h. absurd (cc))
          (λ v m h. elim (k.sleeping v h) [
            | inl e ↦ inr (t, ap (λ (b : Seat). leads_on b) (put_same s.seats t a) ∙ lead e (s.seats t).under)
            | inr o ↦ inr (some_put (λ b. leads_on b ≡ true) s.seats t a (leads_still s t p q at still) o)
          ]);
    }

-- the lock, which some thread claims, is wanted from now on
pub wanted : (s : State) → Kept s → is_held s.lock ≡ true → Kept (record s { lock = Wanted })
wanted s k held = record {
  sound = k.sound;
  one = k.one;
  held = λ t c. refl;
  owned = λ w. k.owned held;
  inside = λ t h. elim (k.inside t h) [ inl e ↦ absurd (held_not_favours s.lock held t e) | inr o ↦ inr o ];
  arrived = k.arrived;
  napping = k.napping;
  sleeping = λ u h. inl refl;
}

-- ---- the events

pub given_facts : (l : Lock) → (claims (given l) ≡ false) × (naps (given l) ≡ None) × (sleeps (given l) ≡ false) × (stored (given l) ≡ false) × (is_inside (given l) ≡ false)
given_facts Free = (refl, refl, refl, refl, refl)
given_facts Taken = (refl, refl, refl, refl, refl)
given_facts Wanted = (refl, refl, refl, refl, refl)
given_facts (Favours n) = (refl, refl, refl, refl, refl)

pub given_leads : (l : Lock) → l ≡ Wanted → (fs : List Frame) → leads (given l) fs ≡ true
given_leads l e fs = ap (λ x. leads (given x) fs) e

pub given_still : (l : Lock) (fs : List Frame) → leads_under fs ≡ true → leads (given l) fs ≡ true
given_still Free fs y = y
given_still Taken fs y = y
given_still Wanted fs y = refl
given_still (Favours n) fs y = y

pub comes_out : (s : State) (t : ℕ) (p : Place) → Kept s → (s.seats t).place ≡ p → stored p ≡ false → p ≢ Owner
    → claims p ≡ false → target p ≡ None → barred p ≡ None → ((fs : List Frame) → leads p fs ≡ true → leads_under fs ≡ true)
    → ((u : ℕ) → u ≢ t → naps (s.seats u).place ≡ Some t → ⊥)
    → Kept (record s { seats = moves s.seats t Out })
comes_out s t p k at st never c tg b still nobody =
    goes s t p Out k at (sound_on s t p Out k at (sym st) never)
    (sym c) (sym tg) refl (sym b) refl
    (λ u m e. absurd (nobody u m e))
    (λ h. absurd (cc))
    (lead_on s t (record (s.seats t) { place = Out }) k (leads_still s t p Out at still))

pub revokes : (s : State) (t n : ℕ) (p : Place) (once : Bool) (l : Lock) → Kept s → (s.seats t).place ≡ p → s.lock ≡ Favours n → is_held l ≡ true → IsDrained s t → stored p ≡ false
    → (l ≡ Wanted) ⊎ ((fs : List Frame) → leads p fs ≡ true → leads (revoking (n == t) n once) fs ≡ true)
    → Kept (record { lock = l; seats = moves s.seats t (revoking (n == t) n once) })
revokes s t n p once l k at is held empty st lead =
    let c : Bool = n == t in
    taken s t p (revoking c n once) l k at (ap is_held is) held empty
    (revoking_claims c n once) (revoking_inside c n once) (revoking_naps c n once) (revoking_sleeps c n once) (revoking_stored c n once ∙ sym st)
    (λ v e. let e' : Favours n ≡ Favours v = sym is ∙ e in let e'' : n ≡ v = cc in revoking_target c n once ∙ ap (λ (x : ℕ). Some x) e'')
    (revoking_barred c n once t (λ e. elim (eqb_tells n t) [ inl y ↦ y.1 | inr z ↦ let z0 = z.0 in absurd (cc) ]))
    lead

pub is_free : (s : State) (v : ℕ) (q : Place) → s.lock ≡ Free → s.lock ≡ Favours v → target q ≡ Some v
is_free s v q free e = let e' : Free ≡ Favours v = sym free ∙ e in absurd (cc)

-- t loads n's `inside`, which is clear: n is not inside
pub outside : (s : State) (t n : ℕ) (once : Bool) → Kept s → (s.seats t).place ≡ ToLook n once → (s.seats n).inside ≡ false → is_inside (s.seats n).place ≡ true → ⊥
outside s t n once k at clear h =
    let empty : (s.seats n).buffer ≡ Empty = k.arrived t n (ap barred at) h in
    let seen : view (s.seats n).buffer (s.seats n).inside ≡ false = ap (λ (b : Buffer). view b (s.seats n).inside) empty ∙ clear in
    let e : true ≡ false = sym (inside_stored (s.seats n).place h) ∙ (sym (k.sound n).viewed ∙ seen) in
    absurd (cc)

pub view_cases : (b : Buffer) (i : Bool) (p : Place) → i ≡ true → view b i ≡ stored p → (b ≡ Holds false → p ≡ Owner) → (stored p ≡ true) ⊎ (p ≡ Owner)
view_cases Empty i p e v c = inl (sym v ∙ e)
view_cases (Holds true) i p e v c = inl (sym v)
view_cases (Holds false) i p e v c = inr (c refl)

-- t, which has revoked n's favour, finds n's `inside` set: n is about to leave
pub is_ending : (s : State) (t n : ℕ) → Kept s → (s.seats t).place ≡ ToSleepOn n → (s.seats n).inside ≡ true → (n ≢ t) × (wakes (s.seats n) ≡ true)
is_ending s t n k at set =
    let p = (s.seats n).place in
    let fs = (s.seats n).under in
    let claimed : (claims p ≡ true) × (target p ≡ None) → ⊥ = λ w.
    let same : t ≡ n = k.one t n (ap claims at) w.0 in
    let e : Some n ≡ None = sym (ap target at) ∙ (ap (λ (u : ℕ). target (s.seats u).place) same ∙ w.1) in absurd (cc) in
    let ending : will_wake p fs ≡ true = elim (view_cases (s.seats n).buffer (s.seats n).inside p set (k.sound n).viewed (k.sound n).cleared) [
      | inl st ↦ elim (stored_wakes p fs st) [ inl e ↦ e | inr w ↦ absurd (claimed w) ]
      | inr o ↦ absurd (claimed (ap claims o, ap target o))
    ] in
    (λ e. let z : will_wake (ToSleepOn n) (s.seats t).under ≡ true = ap (λ p. will_wake p (s.seats t).under) (sym at) ∙ (ap (λ (u : ℕ). wakes (s.seats u)) (sym e) ∙ ending) in absurd (cc), ending)

-- the plain store of thread t arrives
pub drains : (s : State) (t : ℕ) (inside : Bool) → Kept s → (s.seats t).buffer ≡ Holds inside → Kept (step s (StoreArrives t inside)).after
drains s t inside k is =
    let old = s.seats t in
    let a : Seat = record old { inside = inside; buffer = Empty } in
    moved s t a k
    (record { viewed = ap (λ (b : Buffer). view b old.inside) (sym is) ∙ (k.sound t).viewed; cleared = λ e. absurd (cc) })
    refl
    (λ x h e. e)
    (λ h. inl (h, λ e. refl))
    (λ x e h. k.arrived t x e h)
    (λ x e. (
      λ same.
          let z : will_wake (AsleepOn x) old.under ≡ true = subst (λ q. will_wake q old.under ≡ true) (is_naps old.place x e) (subst (λ (u : ℕ). wakes (s.seats u) ≡ true) same (k.napping t x e)) in absurd (cc),
      k.napping t x e,
    ))
    (λ u m e. k.napping u t e)
    (λ h. elim (k.sleeping t h) [ inl e ↦ inl e | inr o ↦ inr (some_put (λ b. leads_on b ≡ true) s.seats t a (λ y. y) o) ])
    (lead_on s t a k (λ y. y))

-- thread t goes from p to q, and still is to wake whom it was to wake at p
pub walks : (s : State) (t : ℕ) (p q : Place) → Kept s → (s.seats t).place ≡ p
    → stored q ≡ stored p → p ≢ Owner
    → claims q ≡ claims p → target q ≡ target p → is_inside q ≡ false → barred q ≡ barred p → naps q ≡ None → sleeps q ≡ false
    → ((fs : List Frame) → will_wake p fs ≡ true → will_wake q fs ≡ true)
    → ((fs : List Frame) → leads p fs ≡ true → leads q fs ≡ true)
    → Kept (record s { seats = moves s.seats t q })
walks s t p q k at same never c tg i b n slp end lead =
    goes s t p q k at (sound_on s t p q k at same never) c tg i b n
    (end_on s t p q k at end)
    (λ h. absurd (cc))
    (lead_on s t (record (s.seats t) { place = q }) k (leads_still s t p q at lead))

-- u, which sleeps on t's `inside`, is awake from now on, and nobody else sleeps on that
pub awakens : (s : State) (t u : ℕ) → Kept s → (s.seats u).place ≡ AsleepOn t → Kept (record s { seats = moves s.seats u (ToLook t false) })
awakens s t u k asleep =
    walks s u (AsleepOn t) (ToLook t false) k asleep refl (λ e. cc) refl refl refl refl refl refl (λ fs y. absurd (cc)) (λ fs y. y)

pub alone_on : (s : State) (t u : ℕ) → Kept s → (s.seats u).place ≡ ToLook t false → (v : ℕ) → naps (s.seats v).place ≡ Some t → ⊥
alone_on s t u k there v e =
    let same : v ≡ u = k.one v u (naps_claims (s.seats v).place t e) (ap claims there) in
    let z : Some t ≡ None = sym e ∙ (ap (λ (x : ℕ). naps (s.seats x).place) same ∙ ap naps there) in absurd (cc)

-- t wakes u, which sleeps on t's `inside`
pub frees : (s : State) (t u : ℕ) → Kept s → (s.seats t).place ≡ ToWakeRevoker → (s.seats u).place ≡ AsleepOn t → Kept (step s (WakesRevoker t u)).after
frees s t u k at asleep =
    let b : Seat = record (s.seats u) { place = ToLook t false } in
    let s1 : State = record s { seats = moves s.seats u (ToLook t false) } in
    let k1 : Kept s1 = awakens s t u k asleep in
    let other : t ≢ u = λ e. let e' : ToWakeRevoker ≡ AsleepOn t = sym at ∙ (ap (λ (x : ℕ). (s.seats x).place) e ∙ asleep) in cc in
    let at1 : (s1.seats t).place ≡ ToWakeRevoker = ap (λ (x : Seat). x.place) (put_other s.seats u b t other) ∙ at in
    let there : (s1.seats u).place ≡ ToLook t false = ap (λ (x : Seat). x.place) (put_same s.seats u b) in
    comes_out s1 t ToWakeRevoker k1 at1 refl (λ e. cc) refl refl refl (λ fs y. y) (λ v m e. alone_on s1 t u k1 there v e)

-- t, which is to sleep on the lock, wakes u first, which sleeps on t's `inside`
pub pays_one : (s : State) (t u : ℕ) → Kept s → (s.seats t).place ≡ ToPay → (s.seats u).place ≡ AsleepOn t → Kept (step s (PaysOne t u)).after
pays_one s t u k at asleep =
    let b : Seat = record (s.seats u) { place = ToLook t false } in
    let s1 : State = record s { seats = moves s.seats u (ToLook t false) } in
    let k1 : Kept s1 = awakens s t u k asleep in
    let other : t ≢ u = λ e. let e' : ToPay ≡ AsleepOn t = sym at ∙ (ap (λ (x : ℕ). (s.seats x).place) e ∙ asleep) in cc in
    let at1 : (s1.seats t).place ≡ ToPay = ap (λ (x : Seat). x.place) (put_other s.seats u b t other) ∙ at in
    let there : (s1.seats u).place ≡ ToLook t false = ap (λ (x : Seat). x.place) (put_same s.seats u b) in
    goes s1 t ToPay ToSleep k1 at1 (sound_on s1 t ToPay ToSleep k1 at1 refl (λ e. cc)) refl refl refl refl refl
    (λ v m e. absurd (alone_on s1 t u k1 there v e))
    (λ h. absurd (cc))
    (lead_on s1 t (record (s1.seats t) { place = ToSleep }) k1 (leads_still s1 t ToPay ToSleep at1 (λ fs y. y)))

-- t wakes u, which sleeps on the lock
pub rouses : (s : State) (t u : ℕ) → Kept s → (s.seats t).place ≡ ToWake → (s.seats u).place ≡ Asleep → Kept (step s (WakesOne t u)).after
rouses s t u k at asleep =
    let b : Seat = record (s.seats u) { place = ToMark } in
    let s1 : State = record s { seats = moves s.seats u ToMark } in
    let k1 : Kept s1 = walks s u Asleep ToMark k asleep refl (λ e. cc) refl refl refl refl refl refl (λ fs y. absurd (cc)) (λ fs y. refl) in
    let other : t ≢ u = λ e. let e' : ToWake ≡ Asleep = sym at ∙ (ap (λ (x : ℕ). (s.seats x).place) e ∙ asleep) in cc in
    let at1 : (s1.seats t).place ≡ ToWake = ap (λ (x : Seat). x.place) (put_other s.seats u b t other) ∙ at in
    let there : (s1.seats u).place ≡ ToMark = ap (λ (x : Seat). x.place) (put_same s.seats u b) in
    goes s1 t ToWake Out k1 at1 (sound_on s1 t ToWake Out k1 at1 refl (λ e. cc)) refl refl refl refl refl
    (end_on s1 t ToWake Out k1 at1 (λ fs y. absurd (cc)))
    (λ h. absurd (cc))
    (λ v m h. inr (u, ap (λ (x : Seat). leads_on x) (put_other s1.seats t (record (s1.seats t) { place = Out }) u (λ e. other (sym e))) ∙ ap (λ p. leads p (s1.seats u).under) there))

-- a handler interrupts t
pub interrupts : (s : State) (t : ℕ) (f : Frame) → Kept s → (s.seats t).place ≡ frame_place f → Kept (step s (Interrupts t f)).after
interrupts s t f k at =
    let a : Seat = record (s.seats t) { place = Out; under = f ∷ (s.seats t).under } in
    let fact = frame_facts f in
    moved s t a k (sound_on s t (frame_place f) Out k at (sym fact.0) fact.1) (sym (ap claims at ∙ fact.2))
    (λ x h e. let e' : None ≡ Some x = sym fact.3 ∙ (ap target (sym at) ∙ e) in absurd (cc)) (λ h. absurd (cc)) (λ x e. absurd (cc)) (λ x e. absurd (cc))
    (λ u m e. interrupted_wakes f (s.seats t).under (subst (λ p. will_wake p (s.seats t).under ≡ true) at (k.napping u t e)))
    (λ h. absurd (cc))
    (lead_on s t a k (λ y. interrupted_leads f (s.seats t).under (subst (λ p. leads p (s.seats t).under ≡ true) at y)))

-- and ends
pub resumes : (s : State) (t : ℕ) (f : Frame) (fs : List Frame) → Kept s → (s.seats t).place ≡ Out → (s.seats t).under ≡ f ∷ fs → Kept (step s (Resumes t f fs)).after
resumes s t f fs k at was =
    let a : Seat = record (s.seats t) { place = frame_place f; under = fs } in
    let fact = frame_facts f in
    let under_was : (g : Place → List Frame → Bool) → g (s.seats t).place (s.seats t).under ≡ true → g Out (f ∷ fs) ≡ true =
    λ g y. subst (λ us. g Out us ≡ true) was (subst (λ p. g p (s.seats t).under ≡ true) at y) in
    moved s t a k (sound_on s t Out (frame_place f) k at fact.0 (λ e. cc)) (fact.2 ∙ ap claims (sym at))
    (λ x h e. let e' : None ≡ Some x = ap target (sym at) ∙ e in absurd (cc))
    (λ h. let z = fact.4 in absurd (cc)) (λ x e. let z = fact.5 in absurd (cc)) (λ x e. let z = fact.6 in absurd (cc))
    (λ u m e. frame_wakes f fs (under_was will_wake (k.napping u t e)))
    (λ h. let z = fact.7 in absurd (cc))
    (lead_on s t a k (λ y. frame_leads f fs (under_was leads y)))

-- t clears its `inside` by an exchange
pub clears : (s : State) (t : ℕ) (p : Place) → Kept s → (s.seats t).place ≡ p → claims p ≡ false → target p ≡ None
    → ((fs : List Frame) → leads p fs ≡ true → leads_under fs ≡ true) → IsDrained s t
    → Kept (record s { seats = put s.seats t (record (s.seats t) { place = ToReload; inside = false }) })
clears s t p k at c tg lead empty = let a : Seat = record (s.seats t) { place = ToReload; inside = false } in
    moved s t a k (record { viewed = ap (λ (b : Buffer). view b false) empty; cleared = λ e. let e' : Empty ≡ Holds false = sym empty ∙ e in absurd (cc) })
    (sym (ap claims at ∙ c))
    (λ x h e. let e' : None ≡ Some x = sym tg ∙ (ap target (sym at) ∙ e) in absurd (cc))
    (λ h. absurd (cc)) (λ x e. absurd (cc)) (λ x e. absurd (cc)) (λ u m e. refl) (λ h. absurd (cc))
    (lead_on s t a k (leads_still s t p ToReload at lead))
