-- Each step of the favoured lock keeps the invariant; and the laws.
use Rattle.std.proofs.Common.{◌≡◌, ◌≢◌, ◌⊎◌, ℕ, true, false, refl, sym, ◌∙◌, subst, ap, inl, inr, List, Some, None}
use Rattle.std.specs.Prelude.{◌==◌}
use Rattle.nt_protocols.specs.Threads.{Can, after_all}
use Rattle.nt_protocols.specs.Lock.{Free, Taken, Wanted, Favours, Holds, Out, ToStore, ToCheck, Inside, ToStepBack, ToReload, ToWakeRevoker, ToTake, ToMark, ToPay, ToSleep, Asleep, ToBar, ToLook, ToSleepOn, AsleepOn, ToPutBack, Owner, ToFavour, ToUnset, ToWake}
use Rattle.nt_protocols.specs.Lock.{Seat, State}
use Rattle.nt_protocols.specs.Lock.{Event, SeesFavour, StoresInside, Enters, MissesFavour, StepsBack, StepsOut, KeepsFavour, FindsRevoked, WakesRevoker, WakesNoRevoker, Asks, TakesFree, TriesFree, Revokes, TriesFavoured, StopsLooking, MarksFree, MarksFavoured, MarksHeld, PaysOne, PaysNobody, FallsAsleep, FindsUnwanted, Stirs, Restarts, PassesBarrier, FindsOutside, FindsInside, Declines, FallsAsleepOn, FindsLeft, StirsOn, RestartsOn, PutsBack, StoresFirst, GainsFavour, MissesTaken, UnstoresInside, GivesBack, WakesOne, WakesNobody, Interrupts, Resumes, StoreArrives}
use Rattle.nt_protocols.specs.Lock.{is_held, given, place_of, step, opening, step, has, view, claims, will_wake, leads, is_awake, ComesToWake, IsFavouring}
use Rattle.nt_protocols.proofs.Putting.{kept_all}
use Rattle.nt_protocols.proofs.LockPlaces.{stored, target, barred, naps, is_inside, sleeps, target_claims, is_naps, is_sleeps, naps_claims, has_either, claims_awake, revoking_leads}
use Rattle.nt_protocols.proofs.Locking.{wakes, Kept, not_favoured, moved, lead_on, end_on, leads_still, sound_on, drained, goes, taken, released, wanted, given_facts, given_leads, given_still, comes_out, revokes, is_free, outside, is_ending, drains, walks, frees, pays_one, rouses, interrupts, resumes, clears}

-- each event keeps it
pub keeps : (s : State) (e : Event) → Kept s → (step s e).may → Kept (step s e).after
keeps s (SeesFavour t) k may = goes s t Out ToStore k may.0 (sound_on s t Out ToStore k may.0 refl (λ e. cc)) refl refl refl refl refl
    (λ u m e. absurd (not_favoured s u t k (naps_claims (s.seats u).place t e) may.1)) (λ h. absurd (cc))
    (lead_on s t (record (s.seats t) { place = ToStore }) k (leads_still s t Out ToStore may.0 (λ fs y. y)))
keeps s (StoresInside t) k may = let a : Seat = record (s.seats t) { place = ToCheck; buffer = Holds true } in
    moved s t a k (record { viewed = refl; cleared = λ e. absurd (cc) }) (ap claims (sym may.0))
    (λ x h e. let e' = rw may.0 at e in absurd (cc)) (λ h. absurd (cc)) (λ x e. absurd (cc)) (λ x e. absurd (cc)) (λ u m e. refl) (λ h. absurd (cc))
    (lead_on s t a k (leads_still s t ToStore ToCheck may.0 (λ fs y. y)))
keeps s (Enters t) k may = let a : Seat = record (s.seats t) { place = Inside } in
    moved s t a k (sound_on s t ToCheck Inside k may.0 refl (λ e. cc)) (ap claims (sym may.0))
    (λ x h e. let e' = rw may.0 at e in absurd (cc)) (λ h. inr may.1) (λ x e. absurd (cc)) (λ x e. absurd (cc)) (λ u m e. refl) (λ h. absurd (cc))
    (lead_on s t a k (leads_still s t ToCheck Inside may.0 (λ fs y. y)))
keeps s (MissesFavour t) k may = walks s t ToCheck ToStepBack k may.0 refl (λ e. cc) refl refl refl refl refl refl (λ fs y. refl) (λ fs y. y)
keeps s (StepsBack t) k may = clears s t ToStepBack k may.0 refl refl (λ fs y. y) may.1
keeps s (StepsOut t) k may = clears s t Inside k may.0 refl refl (λ fs y. y) may.1
keeps s (KeepsFavour t) k may = comes_out s t ToReload k may.0 refl (λ e. cc) refl refl refl (λ fs y. y) (λ u m e. not_favoured s u t k (naps_claims (s.seats u).place t e) may.1)
keeps s (FindsRevoked t) k may = walks s t ToReload ToWakeRevoker k may.0 refl (λ e. cc) refl refl refl refl refl refl (λ fs y. refl) (λ fs y. y)
keeps s (WakesRevoker t u) k may = frees s t u k may.0 may.1
keeps s (WakesNoRevoker t) k may = comes_out s t ToWakeRevoker k may.0 refl (λ e. cc) refl refl refl (λ fs y. y) (λ u m e. may.1 u (is_naps (s.seats u).place t e))
keeps s (Asks t) k may = walks s t Out ToTake k may refl (λ e. cc) refl refl refl refl refl refl (λ fs y. y) (λ fs y. y)
keeps s (TakesFree t) k may = taken s t ToTake Owner Taken k may.0 (ap is_held may.2) refl may.1 refl refl refl refl refl (λ v e. is_free s v Owner may.2 e) (λ n e. absurd (cc)) (inr (λ fs y. y))
keeps s (TriesFree t) k may = taken s t Out Owner Taken k may.0 (ap is_held may.2) refl may.1 refl refl refl refl refl (λ v e. is_free s v Owner may.2 e) (λ n e. absurd (cc)) (inr (λ fs y. y))
keeps s (Revokes t n) k may = revokes s t n ToTake false Taken k may.0 may.2 refl may.1 refl (inr (λ fs y. revoking_leads (n == t) n false fs y))
keeps s (TriesFavoured t n) k may = revokes s t n Out true Taken k may.0 may.2 refl may.1 refl (inr (λ fs y. revoking_leads (n == t) n true fs y))
keeps s (StopsLooking t) k may = walks s t ToTake ToMark k may refl (λ e. cc) refl refl refl refl refl refl (λ fs y. y) (λ fs y. refl)
keeps s (MarksFree t) k may = taken s t ToMark Owner Wanted k may.0 (ap is_held may.2) refl may.1 refl refl refl refl refl (λ v e. is_free s v Owner may.2 e) (λ n e. absurd (cc)) (inl refl)
keeps s (MarksFavoured t n) k may = revokes s t n ToMark false Wanted k may.0 may.2 refl may.1 refl (inl refl)
keeps s (MarksHeld t) k may = let s1 : State = record s { lock = Wanted } in
    let k1 : Kept s1 = wanted s k may.2 in
    goes s1 t ToMark ToPay k1 may.0 (drained s1 t ToMark ToPay k1 may.0 refl may.1) refl refl refl refl refl (end_on s1 t ToMark ToPay k1 may.0 (λ fs y. refl)) (λ h. inl refl) (λ v m h. inl refl)
keeps s (PaysOne t u) k may = pays_one s t u k may.0 may.1
keeps s (PaysNobody t) k may = goes s t ToPay ToSleep k may.0 (sound_on s t ToPay ToSleep k may.0 refl (λ e. cc)) refl refl refl refl refl
    (λ u m e. absurd (may.1 u (is_naps (s.seats u).place t e))) (λ h. absurd (cc))
    (lead_on s t (record (s.seats t) { place = ToSleep }) k (leads_still s t ToPay ToSleep may.0 (λ fs y. y)))
keeps s (FallsAsleep t) k may = goes s t ToSleep Asleep k may.0 (sound_on s t ToSleep Asleep k may.0 refl (λ e. cc)) refl refl refl refl refl
    (end_on s t ToSleep Asleep k may.0 (λ fs y. absurd (cc))) (λ h. inl may.1) (λ v m h. inl may.1)
keeps s (FindsUnwanted t) k may = walks s t ToSleep ToMark k may.0 refl (λ e. cc) refl refl refl refl refl refl (λ fs y. absurd (cc)) (λ fs y. refl)
keeps s (Stirs t) k may = walks s t Asleep ToMark k may refl (λ e. cc) refl refl refl refl refl refl (λ fs y. absurd (cc)) (λ fs y. refl)
keeps s (Restarts t) k may = walks s t Asleep ToSleep k may refl (λ e. cc) refl refl refl refl refl refl (λ fs y. absurd (cc)) (λ fs y. absurd (cc))
keeps s (PassesBarrier t n once) k may = let a : Seat = record (s.seats t) { place = ToLook n once } in
    moved s t a k (sound_on s t (ToBar n once) (ToLook n once) k may.0 refl (λ e. cc)) (ap claims (sym may.0))
    (λ x h e. rw may.0 at e) (λ h. absurd (cc))
    (λ x e h. let e' : n ≡ x = cc in ap (λ (u : ℕ). (s.seats u).buffer) (sym e') ∙ may.1)
    (λ x e. absurd (cc)) (end_on s t (ToBar n once) (ToLook n once) k may.0 (λ fs y. absurd (cc))) (λ h. absurd (cc))
    (lead_on s t a k (leads_still s t (ToBar n once) (ToLook n once) may.0 (λ fs y. y)))
keeps s (FindsOutside t n once) k may = let a : Seat = record (s.seats t) { place = Owner } in
    moved s t a k (sound_on s t (ToLook n once) Owner k may.0 refl (λ e. cc)) (ap claims (sym may.0))
    (λ x h e. let e' : Some n ≡ Some x = sym (ap target may.0) ∙ e in let e'' : x ≡ n = cc in
    absurd (outside s t n once k may.0 may.1 (ap (λ (u : ℕ). is_inside (s.seats u).place) (sym e'') ∙ h)))
    (λ h. absurd (cc)) (λ x e. absurd (cc)) (λ x e. absurd (cc)) (end_on s t (ToLook n once) Owner k may.0 (λ fs y. absurd (cc))) (λ h. absurd (cc))
    (lead_on s t a k (leads_still s t (ToLook n once) Owner may.0 (λ fs y. y)))
keeps s (FindsInside t n) k may = walks s t (ToLook n false) (ToSleepOn n) k may.0 refl (λ e. cc) refl refl refl refl refl refl (λ fs y. absurd (cc)) (λ fs y. y)
keeps s (Declines t n) k may = walks s t (ToLook n true) (ToPutBack n) k may.0 refl (λ e. cc) refl refl refl refl refl refl (λ fs y. absurd (cc)) (λ fs y. y)
keeps s (FallsAsleepOn t n) k may = let a : Seat = record (s.seats t) { place = AsleepOn n } in
    moved s t a k (sound_on s t (ToSleepOn n) (AsleepOn n) k may.0 refl (λ e. cc)) (ap claims (sym may.0))
    (λ x h e. rw may.0 at e) (λ h. absurd (cc))
    (λ x e h. k.arrived t x (ap barred may.0 ∙ e) h)
    (λ x e. let e' : n ≡ x = cc in subst (λ y. (y ≢ t) × (wakes (s.seats y) ≡ true)) e' (is_ending s t n k may.0 may.1))
    (end_on s t (ToSleepOn n) (AsleepOn n) k may.0 (λ fs y. absurd (cc))) (λ h. absurd (cc))
    (lead_on s t a k (leads_still s t (ToSleepOn n) (AsleepOn n) may.0 (λ fs y. y)))
keeps s (FindsLeft t n) k may = walks s t (ToSleepOn n) (ToLook n false) k may.0 refl (λ e. cc) refl refl refl refl refl refl (λ fs y. absurd (cc)) (λ fs y. y)
keeps s (StirsOn t n) k may = walks s t (AsleepOn n) (ToLook n false) k may refl (λ e. cc) refl refl refl refl refl refl (λ fs y. absurd (cc)) (λ fs y. y)
keeps s (RestartsOn t n) k may = walks s t (AsleepOn n) (ToSleepOn n) k may refl (λ e. cc) refl refl refl refl refl refl (λ fs y. absurd (cc)) (λ fs y. y)
keeps s (PutsBack t n) k may = let f = given_facts s.lock in
    released s t (ToPutBack n) (given s.lock) (Favours n) k may.0 refl refl may.1 f.0 f.1 f.2 f.3 (λ h. let g = f.4 in absurd (cc)) (λ v e. let e' : n ≡ v = cc in ap Favours e') (given_leads s.lock) (given_still s.lock)
keeps s (StoresFirst t) k may = let a : Seat = record (s.seats t) { place = ToFavour; buffer = Holds true } in
    moved s t a k (record { viewed = refl; cleared = λ e. absurd (cc) }) (ap claims (sym may.0))
    (λ x h e. let e' = rw may.0 at e in absurd (cc)) (λ h. absurd (cc)) (λ x e. absurd (cc)) (λ x e. absurd (cc)) (end_on s t Owner ToFavour k may.0 (λ fs y. absurd (cc))) (λ h. absurd (cc))
    (lead_on s t a k (leads_still s t Owner ToFavour may.0 (λ fs y. y)))
keeps s (GainsFavour t) k may = released s t ToFavour Inside (Favours t) k may.0 refl refl may.1 refl refl refl refl (λ h. refl) (λ v e. absurd (cc)) (λ w. let w' : Taken ≡ Wanted = sym may.2 ∙ w in absurd (cc)) (λ fs y. y)
keeps s (MissesTaken t) k may = walks s t ToFavour ToUnset k may.0 refl (λ e. cc) refl refl refl refl refl refl (λ fs y. absurd (cc)) (λ fs y. y)
keeps s (UnstoresInside t) k may = let a : Seat = record (s.seats t) { place = Owner; buffer = Holds false } in
    moved s t a k (record { viewed = refl; cleared = λ e. refl }) (ap claims (sym may.0))
    (λ x h e. let e' = rw may.0 at e in absurd (cc)) (λ h. absurd (cc)) (λ x e. absurd (cc)) (λ x e. absurd (cc)) (end_on s t ToUnset Owner k may.0 (λ fs y. absurd (cc))) (λ h. absurd (cc))
    (lead_on s t a k (leads_still s t ToUnset Owner may.0 (λ fs y. y)))
keeps s (GivesBack t) k may = let f = given_facts s.lock in
    released s t Owner (given s.lock) Free k may.0 refl refl may.1 f.0 f.1 f.2 f.3 (λ h. let g = f.4 in absurd (cc)) (λ v e. absurd (cc)) (given_leads s.lock) (given_still s.lock)
keeps s (WakesOne t u) k may = rouses s t u k may.0 may.1
keeps s (WakesNobody t) k may = goes s t ToWake Out k may.0 (sound_on s t ToWake Out k may.0 refl (λ e. cc)) refl refl refl refl refl (end_on s t ToWake Out k may.0 (λ fs y. absurd (cc))) (λ h. absurd (cc))
    (λ v m h. absurd (may.1 v (is_sleeps (s.seats v).place h)))
keeps s (Interrupts t f) k may = interrupts s t f k may
keeps s (Resumes t f fs) k may = resumes s t f fs k may.0 may.1
keeps s (StoreArrives t inside) k may = drains s t inside k may

opens : Kept opening
opens = record {
  sound = λ t. record { viewed = refl; cleared = λ e. absurd (cc) };
  one = λ t u x. absurd (cc);
  held = λ t x. absurd (cc);
  owned = λ x. absurd (cc);
  inside = λ t x. absurd (cc);
  arrived = λ u n x. absurd (cc);
  napping = λ u n x. absurd (cc);
  sleeping = λ u x. absurd (cc);
}

pub always : (es : List Event) → Can step opening es → Kept (after_all step opening es)
always es can = kept_all step Kept keeps es opening opens can

-- ---- the laws

inside_and_claims : (s : State) → Kept s → (t u : ℕ) → is_inside (s.seats t).place ≡ true → claims (s.seats u).place ≡ true → target (s.seats u).place ≡ None → ⊥
inside_and_claims s k t u i c tg = elim (k.inside t i) [
  | inl e ↦ not_favoured s u t k c e
  | inr o ↦
      let o1 = o.1 in
      let same : o.0 ≡ u = k.one o.0 u (target_claims (s.seats o.0).place t o1) c in
      let z : Some t ≡ None = sym o1 ∙ (ap (λ (x : ℕ). target (s.seats x).place) same ∙ tg) in absurd (cc)
]

both_inside : (s : State) → Kept s → (t u : ℕ) → is_inside (s.seats t).place ≡ true → is_inside (s.seats u).place ≡ true → t ≡ u
both_inside s k t u i j = elim (k.inside t i) [
  | inl e ↦ elim (k.inside u j) [
    | inl f ↦ let z : Favours t ≡ Favours u = sym e ∙ f in cc
    | inr o ↦ absurd (not_favoured s o.0 t k (target_claims (s.seats o.0).place u o.1) e)
  ]
  | inr o ↦ elim (k.inside u j) [
    | inl f ↦ absurd (not_favoured s o.0 u k (target_claims (s.seats o.0).place t o.1) f)
    | inr q ↦
        let o1 = o.1 in
        let q1 = q.1 in
        let same : o.0 ≡ q.0 = k.one o.0 q.0 (target_claims (s.seats o.0).place t o1) (target_claims (s.seats q.0).place u q1) in
        let z : Some t ≡ Some u = sym o1 ∙ (ap (λ (x : ℕ). target (s.seats x).place) same ∙ q1) in cc
  ]
]

pub one_owner : (s : State) → Kept s → (t u : ℕ) → has (place_of s t) ≡ true → has (place_of s u) ≡ true → t ≡ u
one_owner s k t u a b = elim (has_either (place_of s t) a) [
  | inl i ↦ elim (has_either (place_of s u) b) [
    | inl j ↦ both_inside s k t u i j
    | inr w ↦ absurd (inside_and_claims s k t u i w.0 w.1)
  ]
  | inr v ↦ elim (has_either (place_of s u) b) [
    | inl j ↦ absurd (inside_and_claims s k u t j v.0 v.1)
    | inr w ↦ k.one t u v.0 w.0
  ]
]

pub naps_in_vain : (s : State) → Kept s → (u n : ℕ) → place_of s u ≡ AsleepOn n → (will_wake (place_of s n) (s.seats n).under ≡ true) × (s.lock ≢ Favours n)
naps_in_vain s k u n at = (k.napping u n (ap naps at), not_favoured s u n k (ap claims at))

-- who comes to a step that wakes a sleeper is awake, or who is to wake it is
is_on_its_way : (s : State) (v : ℕ) → Kept s → place_of s v ≢ Asleep
    → (is_awake (place_of s v) ≡ true) ⊎ ((n : ℕ) × (place_of s v ≡ AsleepOn n) × (will_wake (place_of s n) (s.seats n).under ≡ true))
is_on_its_way s v k awake = elim (claims_awake (place_of s v) awake) [
  | inl a ↦ inl a
  | inr n ↦ inr (n.0, n.1, k.napping v n.0 (ap naps n.1))
]

-- who leads does not sleep on the lock
leads_awake : (s : State) (v : ℕ) → leads (place_of s v) (s.seats v).under ≡ true → place_of s v ≢ Asleep
leads_awake s v l e = let l' : leads Asleep (s.seats v).under ≡ true = subst (λ p. leads p (s.seats v).under ≡ true) e l in absurd (cc)

pub in_vain : (s : State) → Kept s → (u : ℕ) → place_of s u ≡ Asleep → (v : ℕ) × ComesToWake s v
    × ((is_awake (place_of s v) ≡ true) ⊎ ((n : ℕ) × (place_of s v ≡ AsleepOn n) × (will_wake (place_of s n) (s.seats n).under ≡ true)))
in_vain s k u at = elim (k.sleeping u (ap sleeps at)) [
  | inl e ↦
      let o = k.owned (ap is_held e) in
      let o1 = o.1 in
      (o.0, inr (e, o1), is_on_its_way s o.0 k (λ a. let z : claims Asleep ≡ true = ap claims (sym a) ∙ o1 in absurd (cc)))
  | inr o ↦ let o1 = o.1 in (o.0, inl o1, is_on_its_way s o.0 k (leads_awake s o.0 o1))
]

pub one_claimer : (s : State) → Kept s → (t u : ℕ) → claims (place_of s t) ≡ true → (is_held s.lock ≡ true) × (claims (place_of s u) ≡ true → t ≡ u)
one_claimer s k t u c = (k.held t c, λ d. k.one t u c d)

pub inside_tells : (s : State) → Kept s → (t : ℕ) → (place_of s t ≡ Inside → view (s.seats t).buffer (s.seats t).inside ≡ true) × (place_of s t ≡ Owner → view (s.seats t).buffer (s.seats t).inside ≡ false)
inside_tells s k t = (λ e. (k.sound t).viewed ∙ ap stored e, λ e. (k.sound t).viewed ∙ ap stored e)

-- a favour is made by one of two steps
pub favours_made : (s : State) (e : Event) → (step s e).may → (n : ℕ) → (step s e).after.lock ≡ Favours n → (s.lock ≡ Favours n) ⊎ IsFavouring s n
favours_made s (TakesFree t) may n h = absurd (cc)
favours_made s (TriesFree t) may n h = absurd (cc)
favours_made s (Revokes t m) may n h = absurd (cc)
favours_made s (TriesFavoured t m) may n h = absurd (cc)
favours_made s (MarksFree t) may n h = absurd (cc)
favours_made s (MarksFavoured t m) may n h = absurd (cc)
favours_made s (MarksHeld t) may n h = absurd (cc)
favours_made s (GivesBack t) may n h = absurd (cc)
favours_made s (PutsBack t m) may n h = let e : m ≡ n = cc in inr (inr (t, subst (λ (x : ℕ). place_of s t ≡ ToPutBack x) e may.0))
favours_made s (GainsFavour t) may n h = let e : t ≡ n = cc in inr (inl (subst (λ (x : ℕ). place_of s x ≡ ToFavour) e may.0))
favours_made s (SeesFavour t) may n h = inl h
favours_made s (StoresInside t) may n h = inl h
favours_made s (Enters t) may n h = inl h
favours_made s (MissesFavour t) may n h = inl h
favours_made s (StepsBack t) may n h = inl h
favours_made s (StepsOut t) may n h = inl h
favours_made s (KeepsFavour t) may n h = inl h
favours_made s (FindsRevoked t) may n h = inl h
favours_made s (WakesRevoker t u) may n h = inl h
favours_made s (WakesNoRevoker t) may n h = inl h
favours_made s (Asks t) may n h = inl h
favours_made s (StopsLooking t) may n h = inl h
favours_made s (PaysOne t u) may n h = inl h
favours_made s (PaysNobody t) may n h = inl h
favours_made s (FallsAsleep t) may n h = inl h
favours_made s (FindsUnwanted t) may n h = inl h
favours_made s (Stirs t) may n h = inl h
favours_made s (Restarts t) may n h = inl h
favours_made s (PassesBarrier t m once) may n h = inl h
favours_made s (FindsOutside t m once) may n h = inl h
favours_made s (FindsInside t m) may n h = inl h
favours_made s (Declines t m) may n h = inl h
favours_made s (FallsAsleepOn t m) may n h = inl h
favours_made s (FindsLeft t m) may n h = inl h
favours_made s (StirsOn t m) may n h = inl h
favours_made s (RestartsOn t m) may n h = inl h
favours_made s (StoresFirst t) may n h = inl h
favours_made s (MissesTaken t) may n h = inl h
favours_made s (UnstoresInside t) may n h = inl h
favours_made s (WakesOne t u) may n h = inl h
favours_made s (WakesNobody t) may n h = inl h
favours_made s (Interrupts t f) may n h = inl h
favours_made s (Resumes t f fs) may n h = inl h
favours_made s (StoreArrives t inside) may n h = inl h
