-- One moment of a tick: timers expire, waits are served, alerted and timed out.
use Rattle.std.proofs.Common.{◌≡◌, ◌≢◌, ◌<◌, ◌≤◌, ◌-◌, ℕ, zero, suc, ◌+◌, Bool, true, false, ◌&&◌, List, [], ◌∷◌, ◌++◌, length, length-append, set, refl, sym, ap, ◌∙◌, subst, arith, Option, Some, None, inl, inr, ◌⊎◌, Contains, nat_eq}
use Rattle.std.specs.Prelude.{nat_le, IsSomeAnd}
use Rattle.std.proofs.lemmas.Bool.{cases_eq, false≢true}
use Rattle.std.proofs.lemmas.Bool.Decides.{nat_tests}
use Rattle.std.proofs.lemmas.List.{length-set}
use Rattle.std.specs.List.{IsDistinct}
use Rattle.std.proofs.lemmas.List.Elements.{Contains-push_cases, Contains-append_left, Contains-append_right}
use Rattle.nt_status.proofs.Lists.{contains_none, contains_first, contains_or_not, distinct_cons, distinct_none, few_below}
use Rattle.nt_objects.specs.declared.object.Object.{Object}
use Rattle.nt_objects.specs.declared.object.Object.TheVariants.{Timer}
use Rattle.nt_objects.specs.declared.object.Armed.{Armed}
use Rattle.nt_objects.specs.declared.object.Routine.{Routine}
use Rattle.nt_objects.specs.Object.{due_of, setter_of, is_timer, rearmed}
use Rattle.nt_alarms.specs.Alarms.{alarm_at, NoneBefore, NoneAt, IsLowestAt}
use Rattle.nt_marks.specs.Marks.{is_marked, with_mark, marked_places}
use Rattle.nt_apc.specs.Queues.{has_apc}
use Rattle.nt_calls.specs.Rising.{IsRising}
use Rattle.nt_calls.specs.State.{State, object_at}
use Rattle.nt_machine.specs.Dispatcher.{Dispatcher, Marked, state, due_marked}
use Rattle.nt_machine.specs.Due.{is_up_to, due_weight, total_weight}
use Rattle.nt_calls.specs.Serving.{IsAlerted}
use Rattle.nt_calls.specs.Change.{notified, expired, all_expired, IsTimerDue}
use Rattle.nt_machine.specs.Lawful.{IsMachineSound}
use Rattle.nt_machine.specs.Accepts.{IsExpiredAfter}
use Rattle.nt_machine.proofs.Changing.{object_at-set_same, object_at-set_other}
use Rattle.nt_machine.proofs.Accepting.{IsCalm}
use Rattle.nt_machine.proofs.Arming.{expired_one, setting_parts, due_setting, later_rung, has_notified, rung}
use Rattle.nt_machine.proofs.Places.{sound_marked, marked_last, set_mark, set_kept}
use Rattle.nt_machine.proofs.Ticking.{rising_append}
use Rattle.nt_machine.proofs.Timing.{known_timer, and_kept}

-- ---- the timers of one moment, one after another

all_expired_append : (v : ℕ) (s : State) (timers : List ℕ) (h : ℕ) → all_expired v s (timers ++ h ∷ []) ≡ expired v (all_expired v s timers) h
all_expired_append v s [] h = refl
all_expired_append v s (k ∷ timers) h = all_expired_append v (expired v s k) timers h

-- the timers that have expired so far; those that are due still have greater handles
pub record ExpiredSoFar (old now : Dispatcher) (m u : ℕ) (timers : List ℕ) (marks : List Bool) : Type 0 where
  pub rising : IsRising timers
  pub due : (h : ℕ) → Contains timers h → IsTimerDue (state old) u h
  pub expired : state now ≡ all_expired m (state old) timers
  pub others : (h : ℕ) → (Contains timers h → ⊥) → object_at now.objects h ≡ object_at old.objects h
  pub above : (h : ℕ) → IsTimerDue (state now) u h → (k : ℕ) → Contains timers k → k < h
  pub none_before : NoneBefore now.alarms u
  pub marked : (t : ℕ) → IsAlerted (state now) t → is_marked marks t ≡ true
  pub known : (h : ℕ) → Contains timers h → h < length old.objects
  pub fewer : (weight : ℕ → ℕ) → due_weight weight m 0 now.objects + total_weight weight timers ≡ due_weight weight m 0 old.objects
  pub count : length now.objects ≡ length old.objects
  pub grants : now.grants ≡ old.grants
  pub table : now.table ≡ old.table
  pub sound : IsMachineSound now

pub expired_none : (d : Dispatcher) (m u : ℕ) (marks : List Bool) → IsMachineSound d → IsCalm (state d) → NoneBefore d.alarms u → ExpiredSoFar d d m u [] marks
expired_none d m u marks sound calm before = record {
  rising = tt;
  due = λ h member. absurd (contains_none h member);
  expired = refl;
  others = λ h out. refl;
  above = λ h due k member. absurd (contains_none k member);
  none_before = before;
  marked = λ t alerted. absurd (calm t alerted);
  known = λ h member. absurd (contains_none h member);
  fewer = λ weight. omega arith;
  count = refl;
  grants = refl;
  table = refl;
  sound = sound;
}

-- a place with an alarm is there
pub alarm_known : (alarms : List (Option ℕ)) (h u : ℕ) → alarm_at alarms h ≡ Some u → h < length alarms
alarm_known [] h u is = let e : None ≡ Some u = is in (cc)
alarm_known (a ∷ alarms) zero u is = omega arith
alarm_known (a ∷ alarms) (suc h) u is = let rest = alarm_known alarms h u is in omega (arith, rest)

-- the object at the lowest place with this alarm is a timer that is due
pub lowest_due : (d : Dispatcher) (u h : ℕ) → IsMachineSound d → IsLowestAt d.alarms u h → due_of (object_at d.objects h) ≡ Some u
lowest_due d u h sound lowest = sym (sound.timers.alarm h) ∙ lowest.here

-- a rising list has no number twice
pub rising_once : (xs : List ℕ) → IsRising xs → IsDistinct nat_eq xs
rising_once [] rising = distinct_none
rising_once (x ∷ xs) rising = distinct_cons x xs (λ member. let less = rising.0 x member in absurd (omega (arith, less))) (rising_once xs rising.1)

-- ---- the weights of the timers that are due

due_set_less : (weight : ℕ → ℕ) (m k : ℕ) (os : List Object) (h : ℕ) (o : Object) → is_up_to m (due_of (object_at os h)) ≡ true → is_up_to m (due_of o) ≡ false → due_weight weight m k (set os h o) + weight (k + h) ≡ due_weight weight m k os
due_set_less weight m k [] h o due later = absurd (false≢true due)
due_set_less weight m k (x ∷ os) zero o due later =
    let here : weight (k + 0) ≡ weight k = ap weight (omega arith) in
    rw later (rw due (omega (arith, here)))
due_set_less weight m k (x ∷ os) (suc h) o due later =
    let rest = due_set_less weight m (k + 1) os h o due later in
    let here : weight (k + suc h) ≡ weight (k + 1 + h) = ap weight (omega arith) in
    omega (arith, rest, here)

pub total_append : (weight : ℕ → ℕ) (hs : List ℕ) (h : ℕ) → total_weight weight (hs ++ h ∷ []) ≡ total_weight weight hs + weight h
total_append weight [] h = omega arith
total_append weight (k ∷ hs) h = let rest = total_append weight hs h in omega (arith, rest)

is_past : (u m : ℕ) → u ≤ m → is_up_to m (Some u) ≡ true
is_past u m le = grind (arith, nat_tests, le)

is_later : (m : ℕ) (due : Option ℕ) → ((v : ℕ) → due ≡ Some v → m < v) → is_up_to m due ≡ false
is_later m None later = refl
is_later m (Some v) later = let lt = later v refl in grind (arith, nat_tests, lt)

-- ---- one more timer expires

-- what an expiry of the timer at h leaves
pub expired_objects : (m : ℕ) (s : State) (h u : ℕ) → due_of (object_at s.objects h) ≡ Some u → (armed : Armed) × (manual : Bool) × (was : Bool) × (object_at s.objects h ≡ Timer manual was (Some armed)) × (armed.due ≡ u) × (expired m s h ≡ rung m s h manual armed)
expired_objects m s h u due =
    let own = due_setting (object_at s.objects h) u due in
    let parts = setting_parts (object_at s.objects h) own.0 own.1 in
    (own.0, parts.0, parts.1, parts.2, own.2, expired_one m s h parts.0 parts.1 own.0 parts.2)

setter_parts : (o : Object) (manual was : Bool) (armed : Armed) → o ≡ Timer manual was (Some armed) → (r : Routine) → armed.routine ≡ Some r → setter_of o ≡ Some r.thread
setter_parts o manual was armed is r has = ap setter_of is ∙ ap (λ (routine : Option Routine). setter_of (Timer manual was (Some (record armed { routine = routine })))) has

-- the marks after the setter of an expired timer, if any, has one
pub record IsMarked (marks new : List Bool) (setter : Option ℕ) : Type 0 where
  pub kept : (t : ℕ) → is_marked marks t ≡ true → is_marked new t ≡ true
  pub own : (t : ℕ) → setter ≡ Some t → is_marked new t ≡ true

pub marked_none : (marks : List Bool) → IsMarked marks marks None
marked_none marks = record { kept = λ t is. is; own = λ t e. no t e }
  where
    no : {P : Type 0} (t : ℕ) → None ≡ Some t → P
    no t e = (cc)

pub marked_some : (marks : List Bool) (t : ℕ) → t < length marks → IsMarked marks (set marks t true) (Some t)
marked_some marks t below = record {
  kept = λ k is. set_kept marks t k is;
  own = λ k e. let same : t ≡ k = some_same k e in subst (λ (j : ℕ). is_marked (set marks t true) j ≡ true) same (set_mark marks t below);
}
  where
    some_same : (k : ℕ) → Some t ≡ Some k → t ≡ k
    some_same k e = (cc)

-- which other thread than the setter is to be alerted was so before
alerted_before : (m : ℕ) (s : State) (h u t : ℕ) → due_of (object_at s.objects h) ≡ Some u → IsAlerted (expired m s h) t → (setter_of (object_at s.objects h) ≡ Some t) ⊎ IsAlerted s t
alerted_before m s h u t due alerted =
    let own = expired_objects m s h u due in
    by_routine own.0 own.1 own.2 own.3 (subst (λ (x : State). IsAlerted x t) own.5 alerted) (own.0).routine refl
  where
    by_routine : (armed : Armed) (manual was : Bool) → object_at s.objects h ≡ Timer manual was (Some armed) → IsAlerted (rung m s h manual armed) t → (r : Option Routine) → armed.routine ≡ r → (setter_of (object_at s.objects h) ≡ Some t) ⊎ IsAlerted s t
    by_routine armed manual was is alerted None none = inr (alerted.0, alerted.1, subst (λ (r : Option Routine). ((alerted.0).alertable && has_apc (notified s.apcs h armed.due r) t) ≡ true) none alerted.2)
    by_routine armed manual was is alerted (Some r) some = go (cases_eq t r.thread)
      where
        go : (t ≡ r.thread) ⊎ (t ≢ r.thread) → (setter_of (object_at s.objects h) ≡ Some t) ⊎ IsAlerted s t
        go (inl same) = inl (setter_parts (object_at s.objects h) manual was armed is r some ∙ ap (λ (k : ℕ). Some k) (sym same))
        go (inr other) = inr (alerted.0, alerted.1, and_kept (alerted.0).alertable (has_apc (notified s.apcs h armed.due (Some r)) t) (has_apc s.apcs t) (has_notified s.apcs h armed.due (Some r) r.thread t refl other) (subst (λ (x : Option Routine). ((alerted.0).alertable && has_apc (notified s.apcs h armed.due x) t) ≡ true) some alerted.2))

pub expired_next : (old now new : Dispatcher) (m u h : ℕ) (timers : List ℕ) (marks marked : List Bool) → u ≤ m → ExpiredSoFar old now m u timers marks → IsLowestAt now.alarms u h → IsMarked marks marked (setter_of (object_at now.objects h)) → state new ≡ expired m (state now) h → new.grants ≡ now.grants → new.table ≡ now.table → IsMachineSound new → ExpiredSoFar old new m u (timers ++ h ∷ []) marked
expired_next old now new m u h timers marks marked le far lowest mark becomes grants table sound =
    let due = lowest_due now u h far.sound lowest in
    let own = expired_objects m (state now) h u due in
    let armed = own.0 in
    let objects : new.objects ≡ set now.objects h (Timer own.1 true (rearmed m armed)) = ap (λ (s : State). s.objects) (becomes ∙ own.5) in
    let known : h < length now.objects = known_timer now.objects h (ap is_timer own.3) in
    let out : Contains timers h → ⊥ = λ member. let lt = far.above h due h member in absurd (omega (arith, lt)) in
    let count : length new.objects ≡ length now.objects = ap (λ os. length os) objects ∙ length-set now.objects h (Timer own.1 true (rearmed m armed)) in
    let elsewhere : (k : ℕ) → k ≢ h → object_at new.objects k ≡ object_at now.objects k = λ k other. ap (λ os. object_at os k) objects ∙ object_at-set_other now.objects h k (Timer own.1 true (rearmed m armed)) other in
    let here : object_at new.objects h ≡ Timer own.1 true (rearmed m armed) = ap (λ os. object_at os h) objects ∙ object_at-set_same now.objects h (Timer own.1 true (rearmed m armed)) known in
    let past : armed.due ≤ m = let e = own.4 in omega (arith, e, le) in
    let later : (v : ℕ) → due_of (object_at new.objects h) ≡ Some v → m < v = λ v is. later_rung m own.1 armed past v (sym (ap due_of here) ∙ is) in
    record {
      rising = rising_append timers h far.rising (far.above h due);
      due = λ k member. elim (Contains-push_cases timers h k member) [
        | inl before ↦ far.due k before
        | inr last ↦ subst (λ (j : ℕ). IsTimerDue (state old) u j) last (sym (ap due_of (far.others h out)) ∙ due)
      ];
      expired = becomes ∙ (ap (λ (s : State). expired m s h) far.expired ∙ sym (all_expired_append m (state old) timers h));
      others = λ k outside. elsewhere k (λ same. outside (Contains-append_right timers (h ∷ []) k (contains_first h [] k (sym same)))) ∙ far.others k (λ member. outside (Contains-append_left timers (h ∷ []) k member));
      above = λ k is j member. above_more k is j (Contains-push_cases timers h j member) (cases_eq k h) later elsewhere due;
      none_before = λ k v is. before k v (sym (sound.timers.alarm k) ∙ is) (cases_eq k h) later elsewhere;
      marked = λ t alerted. elim (alerted_before m (state now) h u t due (subst (λ (s : State). IsAlerted s t) becomes alerted)) [
        | inl setter ↦ mark.own t setter
        | inr before ↦ mark.kept t (far.marked t before)
      ];
      known = λ k member. elim (Contains-push_cases timers h k member) [
        | inl before ↦ far.known k before
        | inr last ↦ let same = far.count in omega (arith, same, known, last)
      ];
      fewer = λ weight.
          let less = due_set_less weight m 0 now.objects h (Timer own.1 true (rearmed m armed)) (ap (λ (o : Option ℕ). is_up_to m o) due ∙ is_past u m le) (is_later m (due_of (Timer own.1 true (rearmed m armed))) (λ v is. later_rung m own.1 armed past v is)) in
          let same : due_weight weight m 0 new.objects ≡ due_weight weight m 0 (set now.objects h (Timer own.1 true (rearmed m armed))) = ap (λ os. due_weight weight m 0 os) objects in
          let more = total_append weight timers h in
          let before = far.fewer weight in
          let here : weight (0 + h) ≡ weight h = ap weight (omega arith) in
          omega (arith, less, same, more, before, here);
      count = count ∙ far.count;
      grants = grants ∙ far.grants;
      table = table ∙ far.table;
      sound = sound;
    }
  where
    above_more : (k : ℕ) → IsTimerDue (state new) u k → (j : ℕ) → Contains timers j ⊎ (h ≡ j) → (k ≡ h) ⊎ (k ≢ h) → ((v : ℕ) → due_of (object_at new.objects h) ≡ Some v → m < v) → ((i : ℕ) → i ≢ h → object_at new.objects i ≡ object_at now.objects i) → due_of (object_at now.objects h) ≡ Some u → j < k
    above_more k is j member (inl same) later elsewhere due = let lt = later u (ap (λ (i : ℕ). due_of (object_at new.objects i)) (sym same) ∙ is) in absurd (omega (arith, lt, le))
    above_more k is j (inl member) (inr other) later elsewhere due = far.above k (sym (ap due_of (elsewhere k other)) ∙ is) j member
    above_more k is j (inr last) (inr other) later elsewhere due =
        let at : alarm_at now.alarms k ≡ Some u = far.sound.timers.alarm k ∙ (sym (ap due_of (elsewhere k other)) ∙ is) in
        let least : h ≤ k = not_below k at in
        omega (arith, least, other, last)
      where
        not_below : (k : ℕ) → alarm_at now.alarms k ≡ Some u → h ≤ k
        not_below k at = go (nat_le h k) refl
          where
            go : (b : Bool) → nat_le h k ≡ b → h ≤ k
            go true is = grind (arith, nat_tests, is)
            go false is = let below : k < h = grind (arith, nat_tests, is) in absurd (lowest.none_below k below at)

    before : (k v : ℕ) → due_of (object_at new.objects k) ≡ Some v → (k ≡ h) ⊎ (k ≢ h) → ((w : ℕ) → due_of (object_at new.objects h) ≡ Some w → m < w) → ((i : ℕ) → i ≢ h → object_at new.objects i ≡ object_at now.objects i) → u ≤ v
    before k v is (inl same) later elsewhere = let lt = later v (ap (λ (i : ℕ). due_of (object_at new.objects i)) (sym same) ∙ is) in omega (arith, lt, le)
    before k v is (inr other) later elsewhere = far.none_before k v (far.sound.timers.alarm k ∙ (sym (ap due_of (elsewhere k other)) ∙ is))

-- none is due then any more
pub expired_end : (old now : Dispatcher) (m u : ℕ) (timers : List ℕ) (marks : List Bool) → ExpiredSoFar old now m u timers marks → NoneAt now.alarms u → IsExpiredAfter old m u now timers marks
expired_end old now m u timers marks far none = record {
  due = record { rising = far.rising; exactly = λ h. (λ member. far.due h member, λ due. listed h due (contains_or_not timers h)) };
  expired = far.expired;
  marked = far.marked;
  grants = far.grants;
  fewer = far.fewer;
  others = far.others;
  table = far.table;
}
  where
    listed : (h : ℕ) → IsTimerDue (state old) u h → Contains timers h ⊎ (Contains timers h → ⊥) → Contains timers h
    listed h due (inl member) = member
    listed h due (inr out) = absurd (none h (far.sound.timers.alarm h ∙ (ap due_of (far.others h out) ∙ due)))

-- there is room to list the next one
pub room_more : (old now : Dispatcher) (m u h : ℕ) (timers : List ℕ) (marks : List Bool) → ExpiredSoFar old now m u timers marks → IsLowestAt now.alarms u h → length timers + 1 ≤ length old.objects
room_more old now m u h timers marks far lowest =
    let due = lowest_due now u h far.sound lowest in
    let known = alarm_known now.alarms h u lowest.here in
    let clocks = far.sound.timers.count in
    let count = far.count in
    let few = few_below (length old.objects) (timers ++ h ∷ []) (rising_once (timers ++ h ∷ []) (rising_append timers h far.rising (far.above h due))) (λ x member. elim (Contains-push_cases timers h x member) [
      | inl before ↦ far.known x before
      | inr last ↦ omega (arith, last, known, clocks, count)
    ]) in
    let longer = length-append timers (h ∷ []) in
    omega (arith, few, longer)

-- with the mark of its setter, if it has one
pub setter_marked : (marks : List Bool) (setter : Option ℕ) → ((t : ℕ) → setter ≡ Some t → t < length marks) → IsMarked marks (with_mark setter marks) setter
setter_marked marks None known = marked_none marks
setter_marked marks (Some t) known = marked_some marks t (known t refl)

pub setter_known : (d : Dispatcher) (h t : ℕ) → IsMachineSound d → setter_of (object_at d.objects h) ≡ Some t → t < length d.marked.alerted
setter_known d h t sound sets = let known = (sound.timers.runs h t sets).0 in let places = sound.places.alerted in omega (arith, known, places)

pub lowest_known : (d : Dispatcher) (u h : ℕ) → IsMachineSound d → IsLowestAt d.alarms u h → h < length d.objects
lowest_known d u h sound lowest = let known = alarm_known d.alarms h u lowest.here in let clocks = sound.timers.count in omega (arith, known, clocks)

pub marked_sound : (now mid : Dispatcher) (h : ℕ) → IsMachineSound now → mid ≡ due_marked now h → IsMachineSound mid
marked_sound now mid h sound is = subst IsMachineSound (sym is) (sound_marked now marks sound (record {
  changed = length-set now.marked.changed h true ∙ sound.places.changed;
  alerted = as_long (setter_of (object_at now.objects h)) ∙ sound.places.alerted;
}))
  where
    as_long : (setter : Option ℕ) → length (with_mark setter now.marked.alerted) ≡ length now.marked.alerted
    as_long None = refl
    as_long (Some t) = length-set now.marked.alerted t true

    marks : Marked
    marks = record { changed = set now.marked.changed h true; alerted = with_mark (setter_of (object_at now.objects h)) now.marked.alerted }

pub due_by : (now mid : Dispatcher) (m u h : ℕ) → u ≤ m → IsMachineSound now → IsLowestAt now.alarms u h → mid ≡ due_marked now h → IsSomeAnd (due_of (object_at mid.objects h)) (λ due. due ≤ m)
due_by now mid m u h le sound lowest is =
    subst (λ (o : Option ℕ). IsSomeAnd o (λ due. due ≤ m)) (sym (ap (λ (d : Dispatcher). due_of (object_at d.objects h)) is ∙ lowest_due now u h sound lowest)) le

mark_places : (now mid new : Dispatcher) (m u h : ℕ) (old : Dispatcher) → ExpiredSoFar old now m u (marked_places now.marked.changed) now.marked.alerted → IsLowestAt now.alarms u h → mid ≡ due_marked now h → new.marked ≡ mid.marked → marked_places new.marked.changed ≡ marked_places now.marked.changed ++ h ∷ []
mark_places now mid new m u h old far lowest is stays =
    let known = lowest_known now u h far.sound lowest in
    let places = far.sound.places.changed in
    ap (λ (mk : Marked). marked_places mk.changed) (stays ∙ ap (λ (d : Dispatcher). d.marked) is)
    ∙ marked_last now.marked.changed h (omega (arith, known, places)) (λ x member. far.above h (lowest_due now u h far.sound lowest) x member)

-- the timer with the lowest number is marked, and expires
pub expired_marked : (old now mid new : Dispatcher) (m u h : ℕ) → u ≤ m → ExpiredSoFar old now m u (marked_places now.marked.changed) now.marked.alerted → IsLowestAt now.alarms u h → mid ≡ due_marked now h → state new ≡ expired m (state mid) h → new.grants ≡ mid.grants → new.table ≡ mid.table → new.marked ≡ mid.marked → IsMachineSound new → ExpiredSoFar old new m u (marked_places new.marked.changed) new.marked.alerted
expired_marked old now mid new m u h le far lowest is becomes grants table stays sound =
    let setter = setter_of (object_at now.objects h) in
    let alerted : new.marked.alerted ≡ with_mark setter now.marked.alerted = ap (λ (mk : Marked). mk.alerted) (stays ∙ ap (λ (d : Dispatcher). d.marked) is) in
    subst (λ (timers : List ℕ). ExpiredSoFar old new m u timers new.marked.alerted) (sym (mark_places now mid new m u h old far lowest is stays))
    (subst (λ (marks : List Bool). ExpiredSoFar old new m u (marked_places now.marked.changed ++ h ∷ []) marks) (sym alerted)
    (expired_next old now new m u h (marked_places now.marked.changed) now.marked.alerted (with_mark setter now.marked.alerted) le far lowest
    (setter_marked now.marked.alerted setter (λ t sets. setter_known now h t far.sound sets))
    (becomes ∙ ap (λ (d : Dispatcher). expired m (state d) h) is) (grants ∙ ap (λ (d : Dispatcher). d.grants) is) (table ∙ ap (λ (d : Dispatcher). d.table) is) sound))

-- fewer objects are left without a mark
pub expired_fewer : (old now mid new : Dispatcher) (m u h : ℕ) → ExpiredSoFar old now m u (marked_places now.marked.changed) now.marked.alerted → IsLowestAt now.alarms u h → mid ≡ due_marked now h → new.marked ≡ mid.marked → length new.objects ≡ length now.objects → length new.objects - length (marked_places new.marked.changed) < length now.objects - length (marked_places now.marked.changed)
expired_fewer old now mid new m u h far lowest is stays same =
    let room = room_more old now m u h (marked_places now.marked.changed) now.marked.alerted far lowest in
    let longer : length (marked_places new.marked.changed) ≡ length (marked_places now.marked.changed) + 1 = ap (λ (xs : List ℕ). length xs) (mark_places now mid new m u h old far lowest is stays) ∙ length-append (marked_places now.marked.changed) (h ∷ []) in
    let count = far.count in
    omega (arith, room, longer, count, same)
