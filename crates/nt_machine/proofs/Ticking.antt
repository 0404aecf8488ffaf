-- Deadlines that come.
use Rattle.std.proofs.Common.{◌≡◌, ◌≢◌, ◌<◌, ◌≤◌, ℕ, ◌+◌, Bool, true, false, List, [], ◌∷◌, ◌++◌, length, length-append, append_assoc, refl, sym, ap, ◌∙◌, subst, arith, Option, Some, None, inl, inr, ◌⊎◌, map, Contains}
use Rattle.std.specs.FinMap as fin
use Rattle.std.proofs.lemmas.Bool.{cases_eq}
use Rattle.std.proofs.lemmas.List.{append-nil}
use Rattle.std.specs.Prelude.{nat_le}
use Rattle.std.proofs.lemmas.Bool.Decides.{nat_tests}
use Rattle.nt_waits.specs.declared.wait.Wait.{Wait}
use Rattle.nt_waits.specs.Deadlines.{deadline_in, deadline_of, NoneEarlier, NoneWithDeadline, IsEarliestDeadline, IsFirstWithDeadline, NoDeadline}
use Rattle.nt_calls.specs.declared.call.Grant.{Grant}
use Rattle.nt_calls.specs.Rising.{IsRising}
use Rattle.nt_calls.specs.State.{State, wait_over, waits_over}
use Rattle.nt_machine.specs.Dispatcher.{Dispatcher, state}
use Rattle.nt_calls.specs.Serving.{IsLate, ending, late_status, sleeps}
use Rattle.nt_calls.specs.Steps.{IsAwaited, IsNextMoment, NothingDue, MomentPasses, MomentsPass}
use Rattle.nt_machine.specs.Lawful.{IsMachineSound}
use Rattle.nt_machine.specs.Accepts.{IsTimedOutAfter}
use Rattle.std.specs.Prelude.{MatchOption, if◌then◌else◌}
use Rattle.std.proofs.lemmas.List.Elements.{Contains-push_cases}
use Rattle.nt_status.proofs.Lists.{contains_none, contains_first, contains_later}
use Rattle.nt_alarms.specs.Alarms.{alarm_at, IsQuiet, IsEarliest}
use Rattle.nt_machine.specs.Due.{earlier_moment}
use Rattle.nt_machine.proofs.Visiting.{len_removed}
use Rattle.nt_machine.proofs.Walks.{get_other}
use Rattle.nt_machine.proofs.Alerting.{over_pending}

-- ---- deadlines in the map

pub late_of : (s : State) (u t : ℕ) → deadline_of s.waits t ≡ Some u → IsLate s u t
late_of s u t has = go (fin.get s.waits t) refl has
  where
    go : (o : Option Wait) → fin.get s.waits t ≡ o → deadline_in o ≡ Some u → IsLate s u t
    go None e h = (cc)
    go (Some w) e h = (w, e, h)

pub deadline_late : (s : State) (u t : ℕ) → IsLate s u t → deadline_of s.waits t ≡ Some u
deadline_late s u t late = ap deadline_in late.1 ∙ late.2

-- what is awaited is the alarm of a timer or a deadline
pub awaited_alarm : (d : Dispatcher) (v : ℕ) → IsMachineSound d → IsAwaited (state d) v → ((h : ℕ) × (alarm_at d.alarms h ≡ Some v)) ⊎ ((t : ℕ) × (deadline_of d.table.pending t ≡ Some v))
awaited_alarm d v sound (inl timer) = inl (timer.0, sound.timers.alarm timer.0 ∙ timer.1)
awaited_alarm d v sound (inr late) = inr (late.0, deadline_late (state d) v late.0 (late.1, late.2, late.3))

-- the next of the alarms and deadlines: none, or one that is awaited and none before it
abbrev pub IsNext : Dispatcher → Option ℕ → Type 0
IsNext d next = MatchOption next ((v : ℕ) → IsAwaited (state d) v → ⊥) (λ u. IsAwaited (state d) u × ((v : ℕ) → IsAwaited (state d) v → u ≤ v))

pub next_of : (d : Dispatcher) (due deadline : Option ℕ) → IsMachineSound d → MatchOption due (IsQuiet d.alarms) (λ u. IsEarliest d.alarms u) → MatchOption deadline (NoDeadline d.table.pending) (λ u. IsEarliestDeadline d.table.pending u) → IsNext d (earlier_moment due deadline)
next_of d None None sound quiet none = λ v awaited. elim (awaited_alarm d v sound awaited) [
  | inl timer ↦ absurd_none v (sym (quiet timer.0) ∙ timer.1)
  | inr late ↦ absurd_none v (sym (none late.0) ∙ late.1)
]
  where
    absurd_none : {P : Type 0} (v : ℕ) → None ≡ Some v → P
    absurd_none v h = (cc)
next_of d None (Some u) sound quiet first =
    let late = late_of (state d) u (first.has).0 (first.has).1 in (
      inr ((first.has).0, late.0, late.1, late.2),
      λ v awaited. elim (awaited_alarm d v sound awaited) [
        | inl timer ↦ absurd_none v (sym (quiet timer.0) ∙ timer.1)
        | inr late ↦ first.least late.0 v late.1
      ],
    )
  where
    absurd_none : {P : Type 0} (v : ℕ) → None ≡ Some v → P
    absurd_none v h = (cc)
next_of d (Some u) None sound first none = (
  inl ((first.set).0, sym (sound.timers.alarm (first.set).0) ∙ (first.set).1),
  λ v awaited. elim (awaited_alarm d v sound awaited) [
    | inl timer ↦ first.least timer.0 v timer.1
    | inr late ↦ absurd_none v (sym (none late.0) ∙ late.1)
  ],
)
  where
    absurd_none : {P : Type 0} (v : ℕ) → None ≡ Some v → P
    absurd_none v h = (cc)
next_of d (Some a) (Some b) sound first second = go (nat_le a b) refl
  where
    go : (c : Bool) → nat_le a b ≡ c → IsNext d (if c then Some a else Some b)
    go true is =
        let le : a ≤ b = grind (arith, nat_tests, is) in (
          inl ((first.set).0, sym (sound.timers.alarm (first.set).0) ∙ (first.set).1),
          λ v awaited. elim (awaited_alarm d v sound awaited) [
            | inl timer ↦ first.least timer.0 v timer.1
            | inr late ↦ let least = second.least late.0 v late.1 in omega (arith, le, least)
          ],
        )
    go false is =
        let lt : b < a = grind (arith, nat_tests, is) in
        let late = late_of (state d) b (second.has).0 (second.has).1 in (
          inr ((second.has).0, late.0, late.1, late.2),
          λ v awaited. elim (awaited_alarm d v sound awaited) [
            | inl timer ↦ let least = first.least timer.0 v timer.1 in omega (arith, lt, least)
            | inr late ↦ second.least late.0 v late.1
          ],
        )

-- ---- the waits with one deadline, one after another

-- the waits of these threads have timed out so far; all that are late still are of greater threads
pub record LateSoFar (old now : Dispatcher) (u : ℕ) : Type 0 where
  pub threads : List ℕ
  pub rising : IsRising threads
  pub late : (x : ℕ) → Contains threads x → IsLate (state old) u x
  pub grants : now.grants ≡ old.grants ++ map (λ t. ending (late_status (sleeps (fin.get old.table.pending t))) t) threads
  pub over : state now ≡ waits_over (state old) threads false
  pub above : (x : ℕ) → IsLate (state now) u x → (y : ℕ) → Contains threads y → y < x
  pub looked : now.table.looked ≡ old.table.looked
  pub count : fin.len now.table.pending + length threads ≡ fin.len old.table.pending
  pub marked : now.marked ≡ old.marked
  pub sound : IsMachineSound now

pub rising_append : (xs : List ℕ) (t : ℕ) → IsRising xs → ((y : ℕ) → Contains xs y → y < t) → IsRising (xs ++ t ∷ [])
rising_append [] t rising below = (λ y m. absurd (contains_none y m), tt)
rising_append (x ∷ xs) t rising below = (λ y m. after y (Contains-push_cases xs t y m), rising_append xs t rising.1 (λ y m. below y (contains_later x xs y m)))
  where
    after : (y : ℕ) → Contains xs y ⊎ (t ≡ y) → x < y
    after y (inl m) = rising.0 y m
    after y (inr same) = subst (λ (k : ℕ). x < k) same (below x (contains_first x xs x refl))

pub over_append : (s : State) (ts : List ℕ) (t : ℕ) (may : Bool) → waits_over s (ts ++ t ∷ []) may ≡ wait_over (waits_over s ts may) t may
over_append s [] t may = refl
over_append s (x ∷ ts) t may = over_append (wait_over s x may) ts t may

pub map_append : (f : ℕ → Grant) (xs : List ℕ) (t : ℕ) → map f (xs ++ t ∷ []) ≡ map f xs ++ f t ∷ []
map_append f [] t = refl
map_append f (x ∷ xs) t = ap (λ ys. f x ∷ ys) (map_append f xs t)

pub late_next : (old now new : Dispatcher) (u t : ℕ) → LateSoFar old now u → IsFirstWithDeadline now.table.pending u t → state new ≡ wait_over (state now) t false → new.grants ≡ now.grants ++ ending (late_status (sleeps (fin.get now.table.pending t))) t ∷ [] → new.table.looked ≡ now.table.looked → new.marked ≡ now.marked → IsMachineSound new → LateSoFar old new u
late_next old now new u t far first over grants looked marked sound =
    let here = late_of (state now) u t first.has in
    let before = over_pending (state old) far.threads false t here.0 (ap (λ (s : State). fin.get s.waits t) (sym far.over) ∙ here.1) in
    let same : fin.get now.table.pending t ≡ fin.get old.table.pending t = here.1 ∙ sym before.0 in
    let f : ℕ → Grant = λ x. ending (late_status (sleeps (fin.get old.table.pending x))) x in
    let waits : new.table.pending ≡ fin.remove now.table.pending t = ap (λ (s : State). s.waits) over in
    let fewer = len_removed now.table.pending t here.0 here.1 in
    let len : fin.len new.table.pending ≡ fin.len (fin.remove now.table.pending t) = ap (λ m. fin.len m) waits in
    let longer = length-append far.threads (t ∷ []) in
    let counted = far.count in
    record {
      threads = far.threads ++ t ∷ [];
      rising = rising_append far.threads t far.rising (far.above t here);
      late = λ x m. elim (Contains-push_cases far.threads t x m) [
        | inl earlier ↦ far.late x earlier
        | inr last ↦ subst (λ (k : ℕ). IsLate (state old) u k) last (here.0, before.0, here.2)
      ];
      grants = grants ∙ (ap (λ (o : Option Wait). now.grants ++ ending (late_status (sleeps o)) t ∷ []) same ∙ (ap (λ gs. gs ++ f t ∷ []) far.grants ∙ (append_assoc old.grants (map f far.threads) (f t ∷ []) ∙ ap (λ gs. old.grants ++ gs) (sym (map_append f far.threads t)))));
      over = over ∙ (ap (λ (s : State). wait_over s t false) far.over ∙ sym (over_append (state old) far.threads t false));
      above = λ x late y m.
          let still = over_pending (state now) (t ∷ []) false x late.0 (ap (λ (s : State). fin.get s.waits x) (sym over) ∙ late.1) in
          let differs : x ≢ t = λ e. still.1 (contains_first t [] x (sym e)) in
          let lates : IsLate (state now) u x = (late.0, still.0, late.2) in
          let least : t ≤ x = not_below first x (deadline_late (state now) u x lates) in
          elim (Contains-push_cases far.threads t y m) [
            | inl earlier ↦ far.above x lates y earlier
            | inr last ↦ subst (λ (k : ℕ). k < x) last (omega (arith, least, differs))
          ];
      looked = looked ∙ far.looked;
      marked = marked ∙ far.marked;
      count = omega (arith, fewer, len, longer, counted);
      sound = sound;
    }
  where
    not_below : IsFirstWithDeadline now.table.pending u t → (x : ℕ) → deadline_of now.table.pending x ≡ Some u → t ≤ x
    not_below is x has = go (nat_le t x) refl
      where
        go : (b : Bool) → nat_le t x ≡ b → t ≤ x
        go true le = grind (arith, nat_tests, le)
        go false gt = let below : x < t = grind (arith, nat_tests, gt) in absurd (is.none_below x below has)

-- who waits no more had timed out
pub gone_member : (s : State) (ts : List ℕ) (may : Bool) (x : ℕ) (v : Wait) → fin.get s.waits x ≡ Some v → fin.get (waits_over s ts may).waits x ≡ None → Contains ts x
gone_member s [] may x v has none = let h : Some v ≡ None = sym has ∙ none in absurd_some h
  where
    absurd_some : {P : Type 0} → Some v ≡ None → P
    absurd_some h = (cc)
gone_member s (t ∷ ts) may x v has none = elim (cases_eq x t) [
  | inl same ↦ contains_first t ts x (sym same)
  | inr differs ↦ contains_later t ts x (gone_member (wait_over s t may) ts may x v (get_other s.waits t x differs ∙ has) none)
]

-- none is late any more
pub late_end : (old now : Dispatcher) (u : ℕ) → LateSoFar old now u → NoneWithDeadline now.table.pending u → IsTimedOutAfter old u now
late_end old now u far none = record {
  ended = map (λ t. ending (late_status (sleeps (fin.get old.table.pending t))) t) far.threads;
  timed = record {
    threads = far.threads;
    late = record { rising = far.rising; exactly = λ x. (λ m. far.late x m, λ late. gone x late (fin.get now.table.pending x) refl) };
    ends = refl;
    leaves = far.over;
  };
  grants = far.grants;
  looked = far.looked;
  marked = far.marked;
  fewer = λ t late. some t (gone t late (fin.get now.table.pending t) refl) far.count;
}
  where
    gone : (x : ℕ) → IsLate (state old) u x → (o : Option Wait) → fin.get now.table.pending x ≡ o → Contains far.threads x
    gone x late None e = gone_member (state old) far.threads false x late.0 late.1 (ap (λ (s : State). fin.get s.waits x) (sym far.over) ∙ e)
    gone x late (Some v) e =
        let before = over_pending (state old) far.threads false x v (ap (λ (s : State). fin.get s.waits x) (sym far.over) ∙ e) in
        let both : Some v ≡ Some late.0 = sym before.0 ∙ late.1 in
        let same : v ≡ late.0 = (cc) in
        absurd (none x (ap deadline_in e ∙ (ap (λ (w : Wait). w.deadline) same ∙ late.2)))

    some : (x : ℕ) → Contains far.threads x → fin.len now.table.pending + length far.threads ≡ fin.len old.table.pending → fin.len now.table.pending < fin.len old.table.pending
    some x m count = let longer = m.1 in omega (arith, longer, count)

pub none_earlier_kept : (old now : Dispatcher) (u : ℕ) → LateSoFar old now u → NoneEarlier old.table.pending u → NoneEarlier now.table.pending u
none_earlier_kept old now u far none t v has =
    let late = late_of (state now) v t has in
    let before = over_pending (state old) far.threads false t late.0 (ap (λ (s : State). fin.get s.waits t) (sym far.over) ∙ late.1) in
    none t v (ap deadline_in before.0 ∙ late.2)

-- ---- a tick

-- these moments have passed on the way to m
abbrev pub Passed : State → ℕ → List ℕ → List Grant → State → Type 0
Passed old m [] grants new = (grants ≡ []) × (new ≡ old)
Passed old m (u ∷ us) grants new =
    (here later : List Grant) × (mid : State) × IsNextMoment old m u × MomentPasses old m u here mid × Passed mid m us later new × (grants ≡ here ++ later)

pub Passed-then : (us : List ℕ) (old mid new : State) (m u : ℕ) (gs here : List Grant) → Passed old m us gs mid → IsNextMoment mid m u → MomentPasses mid m u here new → Passed old m (us ++ u ∷ []) (gs ++ here) new
Passed-then [] old mid new m u gs here far next passes =
    (here, [], new, subst (λ (s : State). IsNextMoment s m u) far.1 next, subst (λ (s : State). MomentPasses s m u here new) far.1 passes, (refl, refl), ap (λ xs. xs ++ here) far.0 ∙ sym (append-nil here))
Passed-then (v ∷ us) old mid new m u gs here far next passes =
    (far.0, far.1 ++ here, far.2, far.3, far.4, Passed-then us far.2 mid new m u far.1 here far.5 next passes, ap (λ xs. xs ++ here) far.6 ∙ append_assoc far.0 far.1 here)

pub Passed-end : (us : List ℕ) (old mid : State) (m : ℕ) (gs : List Grant) → Passed old m us gs mid → NothingDue mid m → MomentsPass old m us gs (record mid { now = m })
Passed-end [] old mid m gs far none = (subst (λ (s : State). NothingDue s m) far.1 none, far.0, ap (λ (s : State). record s { now = m }) far.1)
Passed-end (u ∷ us) old mid m gs far none = (far.0, far.1, far.2, far.3, far.4, Passed-end us far.2 mid m far.1 far.5 none, far.6)
