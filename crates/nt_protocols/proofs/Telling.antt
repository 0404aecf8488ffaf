-- What each event of the word's protocol keeps.
use Rattle.std.proofs.Common.{◌≡◌, ◌≢◌, ◌⊎◌, ℕ, ◌+◌, Bool, true, false, refl, sym, ◌∙◌, ap, inl, inr, arith, List}
use Rattle.std.specs.Prelude.{if◌then◌else◌, ◌||◌, ◌&&◌, not}
use Rattle.nt_protocols.specs.Threads.{put, Can, after_all}
use Rattle.nt_protocols.specs.Word.{Word, Awake, Asleep, Called, Granted, Place, Outside, InCall, InWait, ToCompare, ToSleep, Sleeping, ToLoad, ToLookAtTime, Passing, Seat, State}
use Rattle.nt_protocols.specs.Word.{Event, Enters, Returns, Begins, TurnsToSleep, Marks, FallsAsleep, Stirs, Restarts, FindsItLate, Reads, LooksAtTime, Rearms, Grants, Calls, Wakes}
use Rattle.nt_protocols.specs.Word.{is_waking, waits, told, marked, dozed, woken, is_asleep, in_time, looked, tells, step, opening, step, IsOwed}
use Rattle.nt_protocols.proofs.Putting.{put_same, each_put, each_put_two, kept_all}

-- the word was told something that its thread has not acted upon
abbrev pub is_told : Word → Bool
is_told Called = true
is_told Granted = true
is_told _ = false

-- what holds of one thread by itself
pub record Sound (w : Word) (p : Place) (pends due : Bool) (g n : ℕ) : Type 0 where
  pub outside : waits p ≡ false → pends ≡ false
  pub granted : waits p ≡ true → pends ≡ false → w ≡ Granted
  pub pending : pends ≡ true → w ≢ Granted
  pub called : due ≡ true → is_told w ≡ true
  pub counted : g ≡ n + (if waits p && not pends then 1 else 0)

abbrev pub IsSound : Seat → Type 0
IsSound a = Sound a.word a.place a.pends a.due a.grants a.answers

-- between the events, whatever came before
pub record Kept (s : State) : Type 0 where
  pub sound : (u : ℕ) → IsSound (s.seats u)
  pub owing : (t u : ℕ) → s.owes t u ≡ true → is_waking (s.seats t).place ≡ true
  pub sleeping : (u : ℕ) → (s.seats u).place ≡ Sleeping → ((s.seats u).word ≡ Asleep) ⊎ ((t : ℕ) × (s.owes t u ≡ true))

-- ---- one thread by itself

enters : (w : Word) (b d : Bool) (g n : ℕ) → Sound w Outside b d g n → Sound w InCall b d g n
enters w b d g n h = record { outside = h.outside; granted = λ x. absurd (cc); pending = h.pending; called = h.called; counted = h.counted }

returns : (w : Word) (b d : Bool) (g n : ℕ) → Sound w InCall b d g n → Sound w Outside b d g n
returns w b d g n h = record { outside = h.outside; granted = λ x. absurd (cc); pending = h.pending; called = h.called; counted = h.counted }

begins : (w : Word) (b d : Bool) (g n : ℕ) → Sound w InCall b d g n → Sound Awake InWait true false g n
begins w b d g n h = record { outside = λ x. absurd (cc); granted = λ x y. absurd (cc); pending = λ x y. cc; called = λ x. absurd (cc); counted = h.counted }

-- between two places of a wait
goes_on : (p q : Place) (w : Word) (b d : Bool) (g n : ℕ) → waits p ≡ true → waits q ≡ true → Sound w p b d g n → Sound w q b d g n
goes_on p q w b d g n hp hq h = record {
  outside = λ x. absurd (cc);
  granted = λ x y. h.granted hp y;
  pending = h.pending;
  called = h.called;
  counted = rw hq (rw hp at h.counted);
}

told_sound : (p : Place) (w : Word) (b d : Bool) (g n : ℕ) → waits p ≡ true → Sound w p b d g n → IsSound (told (record { word = w; place = p; pends = b; due = d; grants = g; answers = n }) w)
told_sound p Granted true d g n hp h = absurd (h.pending refl refl)
told_sound p Granted false d g n hp h = record {
  outside = λ x. refl;
  granted = λ x y. refl;
  pending = λ x. absurd (cc);
  called = λ x. refl;
  counted = omega (arith, rw hp at h.counted);
}
told_sound p Asleep b d g n hp h = goes_on p ToSleep Asleep b d g n hp refl h
told_sound p Awake b d g n hp h = goes_on p ToLookAtTime Awake b d g n hp refl h
told_sound p Called b d g n hp h = goes_on p ToLookAtTime Called b d g n hp refl h

marked_sound : (p : Place) (w : Word) (b d : Bool) (g n : ℕ) → waits p ≡ true → Sound w p b d g n → IsSound (marked (record { word = w; place = p; pends = b; due = d; grants = g; answers = n }) w)
marked_sound p Awake b d g n hp h = record {
  outside = λ x. absurd (cc);
  granted = λ x y. let z = h.granted hp y in absurd (cc);
  pending = λ x y. cc;
  called = λ x. let z = h.called x in absurd (cc);
  counted = rw hp at h.counted;
}
marked_sound p Asleep b d g n hp h = told_sound p Asleep b d g n hp h
marked_sound p Called b d g n hp h = told_sound p Called b d g n hp h
marked_sound p Granted b d g n hp h = told_sound p Granted b d g n hp h

times_sound : (p q : Place) (w : Word) (b d : Bool) (g n : ℕ) → waits p ≡ true → waits q ≡ true → Sound w p b d g n → Sound (in_time w) q b false g n
times_sound p q Granted b d g n hp hq h = record { outside = λ x. absurd (cc); granted = λ x y. refl; pending = h.pending; called = λ x. refl; counted = rw hq (rw hp at h.counted) }
times_sound p q Awake b d g n hp hq h = record { outside = λ x. absurd (cc); granted = λ x y. let z = h.granted hp y in absurd (cc); pending = λ x y. cc; called = λ x. absurd (cc); counted = rw hq (rw hp at h.counted) }
times_sound p q Asleep b d g n hp hq h = record { outside = λ x. absurd (cc); granted = λ x y. let z = h.granted hp y in absurd (cc); pending = λ x y. cc; called = λ x. absurd (cc); counted = rw hq (rw hp at h.counted) }
times_sound p q Called b d g n hp hq h = record { outside = λ x. absurd (cc); granted = λ x y. let z = h.granted hp y in absurd (cc); pending = λ x y. cc; called = λ x. absurd (cc); counted = rw hq (rw hp at h.counted) }

-- who waits has a wait
is_in_wait : (w : Word) (p : Place) (d : Bool) (g n : ℕ) → Sound w p true d g n → (b : Bool) → waits p ≡ b → waits p ≡ true
is_in_wait w p d g n h true e = e
is_in_wait w p d g n h false e = let z = h.outside e in absurd (cc)

granted_sound : (w : Word) (p : Place) (d : Bool) (g n : ℕ) → Sound w p true d g n → Sound Granted p false d (g + 1) n
granted_sound w p d g n h =
    let hp = is_in_wait w p d g n h (waits p) refl in
    record { outside = λ x. refl; granted = λ x y. refl; pending = λ x. absurd (cc); called = λ x. refl; counted = rw hp (omega (arith, rw hp at h.counted)) }

called_sound : (w : Word) (p : Place) (d : Bool) (g n : ℕ) → Sound w p true d g n → Sound Called p true true g n
called_sound w p d g n h = record { outside = h.outside; granted = λ x y. absurd (cc); pending = λ x y. cc; called = λ x. refl; counted = h.counted }

-- ---- all threads

-- thread t alone changes
moved : (s : State) (t : ℕ) (a : Seat) → Kept s → IsSound a
    → ((u : ℕ) → s.owes t u ≡ true → is_waking a.place ≡ true)
    → (a.place ≡ Sleeping → (a.word ≡ Asleep) ⊎ ((v : ℕ) × (s.owes v t ≡ true)))
    → Kept (record s { seats = put s.seats t a })
moved s t a k sound owing sleeping = record {
  sound = each_put (λ u b. IsSound b) s.seats t a sound (λ u n. k.sound u);
  owing = each_put (λ v b. (u : ℕ) → s.owes v u ≡ true → is_waking b.place ≡ true) s.seats t a owing (λ v n. k.owing v);
  sleeping = each_put (λ u b. b.place ≡ Sleeping → (b.word ≡ Asleep) ⊎ ((v : ℕ) × (s.owes v u ≡ true))) s.seats t a sleeping (λ u n. k.sleeping u);
}

-- who is at no place where it wakes others owes nothing
owes_nothing : (s : State) (t : ℕ) (p q : Place) → Kept s → (s.seats t).place ≡ p → is_waking p ≡ false → (u : ℕ) → s.owes t u ≡ true → is_waking q ≡ true
owes_nothing s t p q k at never u o = let h = k.owing t u o in let h' = rw at at h in absurd (cc)

or_mine : (b c : Bool) → c ≡ true → (b || c) ≡ true
or_mine true c e = refl
or_mine false c e = e

or_first : (b c : Bool) → b ≡ true → (b || c) ≡ true
or_first true c e = refl
or_first false c e = absurd (cc)

-- what is owed stays owed when somebody is told something
tells_more : (owes : ℕ → ℕ → Bool) (t u : ℕ) (w : Word) (v x : ℕ) → owes v x ≡ true → tells owes t u w v x ≡ true
tells_more owes t u w = each_put_two (λ v x b. owes v x ≡ true → b ≡ true) owes t u (owes t u || is_asleep w) (or_first (owes t u) (is_asleep w)) (λ v x n o. o)

tells_mine : (owes : ℕ → ℕ → Bool) (t u : ℕ) (w : Word) → w ≡ Asleep → tells owes t u w t u ≡ true
tells_mine owes t u w e =
    let row = ap (λ (f : ℕ → Bool). f u) (put_same owes t (put (owes t) u (owes t u || is_asleep w))) in
    row ∙ (put_same (owes t) u (owes t u || is_asleep w) ∙ or_mine (owes t u) (is_asleep w) (ap is_asleep e))

-- t told u something
told_other : (s : State) (t u : ℕ) (a : Seat) → Kept s → IsSound a → a.place ≡ (s.seats u).place → is_waking (s.seats t).place ≡ true
    → Kept (record { seats = put s.seats u a; owes = tells s.owes t u (s.seats u).word })
told_other s t u a k sound same waking =
    let owing : (v x : ℕ) → tells s.owes t u (s.seats u).word v x ≡ true → is_waking (s.seats v).place ≡ true =
    each_put_two (λ v x b. b ≡ true → is_waking (s.seats v).place ≡ true) s.owes t u (s.owes t u || is_asleep (s.seats u).word) (λ o. waking) (λ v x n. k.owing v x) in
    record {
      sound = each_put (λ v b. IsSound b) s.seats u a sound (λ v n. k.sound v);
      owing = each_put (λ v b. (x : ℕ) → tells s.owes t u (s.seats u).word v x ≡ true → is_waking b.place ≡ true) s.seats u a
          (λ x o. ap is_waking same ∙ owing u x o)
          (λ v n. owing v);
      sleeping = each_put (λ v b. b.place ≡ Sleeping → (b.word ≡ Asleep) ⊎ ((x : ℕ) × (tells s.owes t u (s.seats u).word x v ≡ true))) s.seats u a
          (λ at. elim (k.sleeping u (sym same ∙ at)) [
            | inl e ↦ inr (t, tells_mine s.owes t u (s.seats u).word e)
            | inr o ↦ inr (o.0, tells_more s.owes t u (s.seats u).word o.0 u o.1)
          ])
          (λ v n at. elim (k.sleeping v at) [
            | inl e ↦ inl e
            | inr o ↦ inr (o.0, tells_more s.owes t u (s.seats u).word o.0 v o.1)
          ]);
    }

woken_waking : (p : Place) → is_waking (woken p) ≡ is_waking p
woken_waking Outside = refl
woken_waking InCall = refl
woken_waking InWait = refl
woken_waking ToCompare = refl
woken_waking ToSleep = refl
woken_waking Sleeping = refl
woken_waking ToLoad = refl
woken_waking ToLookAtTime = refl
woken_waking Passing = refl

woken_not : (p : Place) → woken p ≢ Sleeping
woken_not Outside = λ e. cc
woken_not InCall = λ e. cc
woken_not InWait = λ e. cc
woken_not ToCompare = λ e. cc
woken_not ToSleep = λ e. cc
woken_not Sleeping = λ e. cc
woken_not ToLoad = λ e. cc
woken_not ToLookAtTime = λ e. cc
woken_not Passing = λ e. cc

woken_waits : (p : Place) → waits (woken p) ≡ waits p
woken_waits Outside = refl
woken_waits InCall = refl
woken_waits InWait = refl
woken_waits ToCompare = refl
woken_waits ToSleep = refl
woken_waits Sleeping = refl
woken_waits ToLoad = refl
woken_waits ToLookAtTime = refl
woken_waits Passing = refl

same_waits : (p q : Place) (w : Word) (b d : Bool) (g n : ℕ) → waits q ≡ waits p → Sound w p b d g n → Sound w q b d g n
same_waits p q w b d g n e h = record {
  outside = λ x. h.outside (sym e ∙ x);
  granted = λ x y. h.granted (sym e ∙ x) y;
  pending = h.pending;
  called = h.called;
  counted = rw e h.counted;
}

-- t wakes u, whom it owed that
woke : (s : State) (t u : ℕ) → Kept s → Kept (step s (Wakes t u)).after
woke s t u k =
    let a = s.seats u in
    let owing : (v x : ℕ) → put s.owes t (put (s.owes t) u false) v x ≡ true → is_waking (s.seats v).place ≡ true =
    each_put_two (λ v x b. b ≡ true → is_waking (s.seats v).place ≡ true) s.owes t u false (λ o. absurd (cc)) (λ v x n. k.owing v x) in
    record {
      sound = each_put (λ v b. IsSound b) s.seats u (record a { place = woken a.place })
          (same_waits a.place (woken a.place) a.word a.pends a.due a.grants a.answers (woken_waits a.place) (k.sound u))
          (λ v n. k.sound v);
      owing = each_put (λ v b. (x : ℕ) → put s.owes t (put (s.owes t) u false) v x ≡ true → is_waking b.place ≡ true) s.seats u (record a { place = woken a.place })
          (λ x o. woken_waking a.place ∙ owing u x o)
          (λ v n. owing v);
      sleeping = each_put (λ v b. b.place ≡ Sleeping → (b.word ≡ Asleep) ⊎ ((x : ℕ) × (put s.owes t (put (s.owes t) u false) x v ≡ true))) s.seats u (record a { place = woken a.place })
          (λ at. absurd (woken_not a.place at))
          (λ v n at. elim (k.sleeping v at) [
            | inl e ↦ inl e
            | inr o ↦ inr (o.0, each_put_two (λ x y b. s.owes x y ≡ true → y ≢ u → b ≡ true) s.owes t u false (λ o' m. absurd (m refl)) (λ x y m o' m'. o') o.0 v o.1 n)
          ]);
    }

dozed_place : (w : Word) → dozed w ≡ Sleeping → w ≡ Asleep
dozed_place Asleep e = refl
dozed_place Awake e = cc
dozed_place Called e = cc
dozed_place Granted e = cc

dozed_waits : (w : Word) → waits (dozed w) ≡ true
dozed_waits Asleep = refl
dozed_waits Awake = refl
dozed_waits Called = refl
dozed_waits Granted = refl

told_awake : (a : Seat) (w : Word) → (told a w).place ≢ Sleeping
told_awake a Awake = λ e. cc
told_awake a Asleep = λ e. cc
told_awake a Called = λ e. cc
told_awake a Granted = λ e. cc

marked_awake : (a : Seat) (w : Word) → (marked a w).place ≢ Sleeping
marked_awake a Awake = λ e. cc
marked_awake a Asleep = λ e. cc
marked_awake a Called = λ e. cc
marked_awake a Granted = λ e. cc

-- each event keeps it
pub keeps : (s : State) (e : Event) → Kept s → (step s e).may → Kept (step s e).after
keeps s (Enters t) k may = let a = s.seats t in
    moved s t (record a { place = InCall }) k (enters a.word a.pends a.due a.grants a.answers (rw may at (k.sound t))) (λ u o. refl) (λ e. absurd (cc))
keeps s (Returns t) k may = let a = s.seats t in
    moved s t (record a { place = Outside }) k (returns a.word a.pends a.due a.grants a.answers (rw may.0 at (k.sound t))) (λ u o. let n = may.1 u in absurd (cc)) (λ e. absurd (cc))
keeps s (Begins t) k may = let a = s.seats t in
    moved s t (record a { word = Awake; place = InWait; pends = true; due = false }) k (begins a.word a.pends a.due a.grants a.answers (rw may at (k.sound t))) (λ u o. refl) (λ e. absurd (cc))
keeps s (TurnsToSleep t) k may = let a = s.seats t in
    moved s t (record a { place = ToCompare }) k (goes_on InWait ToCompare a.word a.pends a.due a.grants a.answers refl refl (rw may.0 at (k.sound t))) (λ u o. let n = may.1 u in absurd (cc)) (λ e. absurd (cc))
keeps s (Marks t) k may = let a = s.seats t in
    moved s t (marked a a.word) k (marked_sound a.place a.word a.pends a.due a.grants a.answers (ap waits may) (k.sound t)) (owes_nothing s t ToCompare (marked a a.word).place k may refl) (λ e. absurd (marked_awake a a.word e))
keeps s (FallsAsleep t) k may = let a = s.seats t in
    moved s t (record a { place = dozed a.word }) k (goes_on ToSleep (dozed a.word) a.word a.pends a.due a.grants a.answers refl (dozed_waits a.word) (rw may at (k.sound t))) (owes_nothing s t ToSleep (dozed a.word) k may refl) (λ e. inl (dozed_place a.word e))
keeps s (Stirs t) k may = let a = s.seats t in
    moved s t (record a { place = ToLoad }) k (goes_on Sleeping ToLoad a.word a.pends a.due a.grants a.answers refl refl (rw may at (k.sound t))) (owes_nothing s t Sleeping ToLoad k may refl) (λ e. absurd (cc))
keeps s (Restarts t) k may = let a = s.seats t in
    moved s t (record a { place = ToSleep }) k (goes_on Sleeping ToSleep a.word a.pends a.due a.grants a.answers refl refl (rw may at (k.sound t))) (owes_nothing s t Sleeping ToSleep k may refl) (λ e. absurd (cc))
keeps s (FindsItLate t) k may = let a = s.seats t in
    moved s t (record a { place = ToLookAtTime }) k (goes_on ToSleep ToLookAtTime a.word a.pends a.due a.grants a.answers refl refl (rw may at (k.sound t))) (owes_nothing s t ToSleep ToLookAtTime k may refl) (λ e. absurd (cc))
keeps s (Reads t) k may = let a = s.seats t in
    moved s t (told a a.word) k (told_sound a.place a.word a.pends a.due a.grants a.answers (ap waits may) (k.sound t)) (owes_nothing s t ToLoad (told a a.word).place k may refl) (λ e. absurd (told_awake a a.word e))
keeps s (LooksAtTime t) k may = let a = s.seats t in
    moved s t (looked a Passing) k (times_sound a.place Passing a.word a.pends a.due a.grants a.answers (ap waits may) refl (k.sound t)) (λ u o. refl) (λ e. absurd (cc))
keeps s (Rearms t) k may = let a = s.seats t in
    moved s t (looked a InWait) k (times_sound a.place InWait a.word a.pends a.due a.grants a.answers (ap waits may) refl (k.sound t)) (λ u o. refl) (λ e. absurd (cc))
keeps s (Grants t u) k may = let a = s.seats u in
    told_other s t u (record a { word = Granted; pends = false; grants = a.grants + 1 }) k (granted_sound a.word a.place a.due a.grants a.answers (rw may.1 at (k.sound u))) refl may.0
keeps s (Calls t u) k may = let a = s.seats u in
    told_other s t u (record a { word = Called; due = true }) k (rw may.1 (called_sound a.word a.place a.due a.grants a.answers (rw may.1 at (k.sound u)))) refl may.0
keeps s (Wakes t u) k may = woke s t u k

opens : Kept opening
opens = record {
  sound = λ u. record { outside = λ x. refl; granted = λ x. absurd (cc); pending = λ x. absurd (cc); called = λ x. absurd (cc); counted = refl };
  owing = λ t u x. absurd (cc);
  sleeping = λ u x. absurd (cc);
}

pub always : (es : List Event) → Can step opening es → Kept (after_all step opening es)
always es can = kept_all step Kept keeps es opening opens can

-- ---- the laws

asleep_pends : (w : Word) (p : Place) (b d : Bool) (g n : ℕ) → Sound w p b d g n → p ≡ Sleeping → w ≡ Asleep → (b ≡ true) × (d ≡ false)
asleep_pends w p true true g n h at e = let z = h.called refl in let z' = rw e at z in absurd (cc)
asleep_pends w p true false g n h at e = (refl, refl)
asleep_pends w p false d g n h at e = let z = h.granted (ap waits at) refl in absurd (cc)

pub in_vain : (s : State) → Kept s → (u : ℕ) → (s.seats u).place ≡ Sleeping → (((s.seats u).pends ≡ true) × ((s.seats u).due ≡ false)) ⊎ IsOwed s u
in_vain s k u at = let a = s.seats u in
    elim (k.sleeping u at) [
      | inl e ↦ inl (asleep_pends a.word a.place a.pends a.due a.grants a.answers (k.sound u) at e)
      | inr o ↦ inr (o.0, o.1, k.owing o.0 u o.1)
    ]

pending_or_not : (b : Bool) (w : Word) → (b ≡ true → w ≢ Granted) → w ≡ Granted → b ≡ false
pending_or_not true w h e = absurd (h refl e)
pending_or_not false w h e = refl

pub are_told : (s : State) → Kept s → (u : ℕ) → waits (s.seats u).place ≡ true → ((s.seats u).pends ≡ false → (s.seats u).word ≡ Granted) × ((s.seats u).word ≡ Granted → (s.seats u).pends ≡ false)
are_told s k u at = ((k.sound u).granted at, pending_or_not (s.seats u).pends (s.seats u).word (k.sound u).pending)
