-- A tick: its moments, one after another.
use Rattle.std.proofs.Common.{◌≡◌, ◌<◌, ◌≤◌, ◌^◌, ℕ, zero, suc, ◌+◌, Bool, true, false, not, ◌&&◌, List, [], ◌∷◌, ◌++◌, length, length-append, map, refl, sym, ap, ◌∙◌, subst, arith, Option, Some, None, inl, inr, Contains}
use Rattle.std.specs.Prelude.{Ok, if◌then◌else◌}
use Rattle.std.specs.List.{filter}
use Rattle.std.specs.FinMap as fin
use Rattle.std.proofs.lemmas.Bool.{false≢true}
use Rattle.std.proofs.lemmas.Bool.Decides.{nat_tests}
use Rattle.nt_status.proofs.Lists.{contains_none, contains_first, contains_later, contains_cases}
use Rattle.nt_status.specs.Status.{io_completion_code}
use Rattle.nt_waits.specs.declared.wait.Wait.{Wait}
use Rattle.nt_objects.specs.declared.object.Object.{Object}
use Rattle.nt_objects.specs.Object.{due_of}
use Rattle.nt_calls.specs.declared.call.Grant.{Grant}
use Rattle.nt_calls.specs.declared.call.Reply.{Reply}
use Rattle.nt_calls.specs.Rising.{IsRising, AreRising}
use Rattle.nt_calls.specs.State.{State, Pending, object_at, waits_over}
use Rattle.nt_machine.specs.Dispatcher.{Dispatcher, state}
use Rattle.nt_machine.specs.Due.{is_up_to, due_weight, total_weight}
use Rattle.nt_calls.specs.Serving.{satisfied, sequence, IsServed, ending, late_status, sleeps}
use Rattle.nt_calls.specs.Change.{all_expired}
use Rattle.nt_calls.specs.Steps.{IsAwaited, IsNextMoment, NothingDue, MomentPasses, MomentsPass, Ticked}
use Rattle.nt_calls.specs.Living.{Ends}
use Rattle.nt_machine.specs.Lawful.{IsMachineSound, IsSteady, IsUnmarked}
use Rattle.nt_machine.specs.Accepts.{IsFresh, IsPassedAfter, IsDueBy, is_by_objects, ended_by_objects, IsTickLocal}
use Rattle.nt_machine.proofs.Accepting.{IsCalm}
use Rattle.nt_machine.proofs.Alerting.{over_pending, over_objects}
use Rattle.nt_machine.proofs.Replacing.{queue_few}
use Rattle.nt_machine.proofs.Ticking.{Passed, Passed-then, Passed-end}
use Rattle.nt_machine.proofs.Marking.{marks_along}
use Rattle.nt_core.proofs.Moments.{Grants_pending, Grants_len, over_len, Grants_queues, over_queues, queues_expired, waits_expired, due_weight_less, due_weight_bound, sequence_weight}
use Rattle.nt_machine.proofs.Rousing.{still_alerted}

-- how many wait blocks stand in the queue of a handle
abbrev pub blocks_in : State → ℕ → ℕ
blocks_in s h = length (s.queues h)

-- the tick from `old` to m has come to `now`
pub record TickSoFar (old now : Dispatcher) (m : ℕ) : Type 0 where
  pub moments : List ℕ
  pub passed : Passed (state old) m moments now.grants (state now)
  pub sound : IsMachineSound now
  pub served : IsServed (state now)
  pub calm : IsCalm (state now)
  pub kept : (t : ℕ) (w : Wait) → fin.get (state now).waits t ≡ Some w → fin.get (state old).waits t ≡ Some w
  pub most : now.table.looked + due_weight (blocks_in (state now)) m 0 now.objects ≤ due_weight (blocks_in (state old)) m 0 old.objects
  pub least : length (filter (ended_by_objects (state old)) now.grants) ≤ now.table.looked
  pub unmarked : IsUnmarked now.marked

pub tick_first : (d : Dispatcher) (m : ℕ) → IsFresh d → TickSoFar d d m
tick_first d m fresh = record {
  moments = [];
  passed = (fresh.no_grants, refl);
  sound = fresh.steady.sound;
  served = fresh.steady.settled.served;
  calm = fresh.steady.settled.alerted;
  kept = λ t w pends. pends;
  most = let none = fresh.untested in omega (arith, none);
  least = subst (λ (gs : List Grant). length (filter (ended_by_objects (state d)) gs) ≤ d.table.looked) (sym fresh.no_grants) (omega arith);
  unmarked = fresh.steady.unmarked;
}

-- what is left to test fits the counter
pub tick_countable : (old now : Dispatcher) (m : ℕ) → IsMachineSound old → TickSoFar old now m → now.table.looked + due_weight (blocks_in (state now)) m 0 now.objects < 2 ^ 64
tick_countable old now m sound far =
    let bound = due_weight_bound (blocks_in (state old)) m 0 4096 old.objects (λ h. queue_few old h sound) in
    let most = far.most in
    let handles = sound.handles.few in
    let enough = sound.handles.enough in
    omega (arith, bound, most, handles, enough)

-- ---- what a moment keeps

served_over : (s : State) (ts : List ℕ) (may : Bool) → IsServed s → IsServed (waits_over s ts may)
served_over s ts may served x = go (fin.get (waits_over s ts may).waits x) refl
  where
    go : (o : Option Wait) → fin.get (waits_over s ts may).waits x ≡ o → satisfied (waits_over s ts may).objects x o ≡ false
    go None e = refl
    go (Some w) e =
        let before = over_pending s ts may x w e in
        ap (λ os. satisfied os x (Some w)) (over_objects s ts may) ∙ (ap (λ o. satisfied s.objects x o) (sym before.0) ∙ served x)

passed_served : (old new : State) (m u : ℕ) (gs : List Grant) → MomentPasses old m u gs new → IsServed new
passed_served old new m u gs passes =
    subst IsServed (sym passes.times_out.leaves) (served_over passes.woken passes.times_out.threads false
    (subst IsServed (sym passes.alerts.leaves) (served_over passes.calm passes.alerts.threads true passes.serves.1)))

passed_calm : (old new : State) (m u : ℕ) (gs : List Grant) → MomentPasses old m u gs new → IsCalm new
passed_calm old new m u gs passes =
    subst IsCalm (sym passes.times_out.leaves) (λ x alerted. woken x (still_alerted passes.woken passes.times_out.threads false x alerted).0)
  where
    woken : IsCalm passes.woken
    woken = subst IsCalm (sym passes.alerts.leaves) (λ x alerted.
        let before = still_alerted passes.calm passes.alerts.threads true x alerted in
        before.1 (((passes.alerts.alerted).exactly x).1 before.0))

-- who pends after the alerts of a moment pended before it
woken_pending : (old new : State) (m u : ℕ) (gs : List Grant) → (passes : MomentPasses old m u gs new) → (t : ℕ) (w : Wait) → fin.get passes.woken.waits t ≡ Some w → fin.get old.waits t ≡ Some w
woken_pending old new m u gs passes t w pends =
    let calm = (over_pending passes.calm passes.alerts.threads true t w (ap (λ (s : State). fin.get s.waits t) (sym passes.alerts.leaves) ∙ pends)).0 in
    let rung = Grants_pending (sequence old passes.timers) (all_expired m old passes.timers) passes.calm passes.served passes.serves.0 t w calm in
    ap (λ p. fin.get p t) (sym (waits_expired m old passes.timers)) ∙ rung

passed_pending : (old new : State) (m u : ℕ) (gs : List Grant) → MomentPasses old m u gs new → (t : ℕ) (w : Wait) → fin.get new.waits t ≡ Some w → fin.get old.waits t ≡ Some w
passed_pending old new m u gs passes t w pends =
    woken_pending old new m u gs passes t w (over_pending passes.woken passes.times_out.threads false t w (ap (λ (s : State). fin.get s.waits t) (sym passes.times_out.leaves) ∙ pends)).0

passed_blocks : (old new : State) (m u : ℕ) (gs : List Grant) → MomentPasses old m u gs new → (h : ℕ) → blocks_in new h ≤ blocks_in old h
passed_blocks old new m u gs passes h =
    let a : blocks_in new h ≡ blocks_in (waits_over passes.woken passes.times_out.threads false) h = ap (λ (s : State). blocks_in s h) passes.times_out.leaves in
    let b = over_queues passes.woken passes.times_out.threads false h in
    let c : blocks_in passes.woken h ≡ blocks_in (waits_over passes.calm passes.alerts.threads true) h = ap (λ (s : State). blocks_in s h) passes.alerts.leaves in
    let d = over_queues passes.calm passes.alerts.threads true h in
    let e = Grants_queues (sequence old passes.timers) (all_expired m old passes.timers) passes.calm passes.served passes.serves.0 h in
    let f : blocks_in (all_expired m old passes.timers) h ≡ blocks_in old h = ap (λ (q : ℕ → List ℕ). length (q h)) (queues_expired m old passes.timers) in
    omega (arith, a, b, c, d, e, f)

-- ---- which waits ended by objects

filter_append : (p : Grant → Bool) (xs ys : List Grant) → length (filter p (xs ++ ys)) ≡ length (filter p xs) + length (filter p ys)
filter_append p [] ys = omega arith
filter_append p (x ∷ xs) ys = go (p x) (filter_append p xs ys)
  where
    go : (b : Bool) → length (filter p (xs ++ ys)) ≡ length (filter p xs) + length (filter p ys) → length (if b then x ∷ filter p (xs ++ ys) else filter p (xs ++ ys)) ≡ length (if b then x ∷ filter p xs else filter p xs) + length (filter p ys)
    go true rest = omega (arith, rest)
    go false rest = rest

filter_le : (p : Grant → Bool) (xs : List Grant) → length (filter p xs) ≤ length xs
filter_le p [] = omega arith
filter_le p (x ∷ xs) = go (p x) (filter_le p xs)
  where
    go : (b : Bool) → length (filter p xs) ≤ length xs → length (if b then x ∷ filter p xs else filter p xs) ≤ length (x ∷ xs)
    go true rest = omega (arith, rest)
    go false rest = omega (arith, rest)

no_alerts : (s : State) (ts : List ℕ) → length (filter (ended_by_objects s) (map (ending io_completion_code) ts)) ≡ 0
no_alerts s [] = refl
no_alerts s (t ∷ ts) = no_alerts s ts

late_no_objects : (sleeping : Bool) → (is_by_objects (ending (late_status sleeping) 0) && not sleeping) ≡ false
late_no_objects true = refl
late_no_objects false = refl

no_lates : (s woken : State) (ts : List ℕ) → ((t : ℕ) → Contains ts t → sleeps (fin.get woken.waits t) ≡ sleeps (fin.get s.waits t)) → length (filter (ended_by_objects s) (map (λ t. ending (late_status (sleeps (fin.get woken.waits t))) t) ts)) ≡ 0
no_lates s woken [] same = refl
no_lates s woken (t ∷ ts) same =
    let here : ended_by_objects s (ending (late_status (sleeps (fin.get woken.waits t))) t) ≡ false =
    ap (λ b. is_by_objects (ending (late_status b) t) && not (sleeps (fin.get s.waits t))) (same t (contains_first t ts t refl)) ∙ late_no_objects (sleeps (fin.get s.waits t)) in
    rw here (no_lates s woken ts (λ x m. same x (contains_later t ts x m)))

passed_least : (first old new : State) (m u : ℕ) (gs : List Grant) → (passes : MomentPasses old m u gs new) → ((t : ℕ) (w : Wait) → fin.get old.waits t ≡ Some w → fin.get first.waits t ≡ Some w) → length (filter (ended_by_objects first) gs) ≤ length passes.served
passed_least first old new m u gs passes kept =
    let p = ended_by_objects first in
    let all : length (filter p gs) ≡ length (filter p (passes.served ++ passes.alerted ++ passes.timed)) = ap (λ xs. length (filter p xs)) passes.in_order in
    let a = filter_append p (passes.served ++ passes.alerted) passes.timed in
    let b = filter_append p passes.served passes.alerted in
    let c : length (filter p passes.alerted) ≡ 0 = ap (λ xs. length (filter p xs)) passes.alerts.ends ∙ no_alerts first passes.alerts.threads in
    let d : length (filter p passes.timed) ≡ 0 = ap (λ xs. length (filter p xs)) passes.times_out.ends ∙ no_lates first passes.woken passes.times_out.threads (λ t member.
    let late = ((passes.times_out.late).exactly t).0 member in
    ap sleeps (late.1 ∙ sym (kept t late.0 (woken_pending old new m u gs passes t late.0 late.1)))) in
    let e = filter_le p passes.served in
    omega (arith, all, a, b, c, d, e)

-- ---- one more moment

pub tick_next : (old now new : Dispatcher) (m u : ℕ) → TickSoFar old now m → IsNextMoment (state now) m u → IsPassedAfter now m u new → TickSoFar old new m
tick_next old now new m u far next after =
    let passes = after.passes in
    let weight = blocks_in (state now) in
    let gone = after.fewer weight in
    let tested = after.most in
    let placed = sequence_weight (state now) passes.timers in
    let lighter = due_weight_less (blocks_in (state new)) weight m 0 new.objects (passed_blocks (state now) (state new) m u after.here passes) in
    let before = far.most in
    record {
      moments = far.moments ++ u ∷ [];
      passed = subst (λ (gs : List Grant). Passed (state old) m (far.moments ++ u ∷ []) gs (state new)) (sym after.grants) (Passed-then far.moments (state old) (state now) (state new) m u now.grants after.here far.passed next passes);
      sound = after.sound;
      unmarked = after.unmarked;
      served = passed_served (state now) (state new) m u after.here passes;
      calm = passed_calm (state now) (state new) m u after.here passes;
      kept = λ t w pends. far.kept t w (passed_pending (state now) (state new) m u after.here passes t w pends);
      most = omega (arith, gone, tested, placed, lighter, before);
      least =
          let p = ended_by_objects (state old) in
          let all : length (filter p new.grants) ≡ length (filter p (now.grants ++ after.here)) = ap (λ gs. length (filter p gs)) after.grants in
          let a = filter_append p now.grants after.here in
          let b = passed_least (state old) (state now) (state new) m u after.here passes far.kept in
          let c = far.least in
          let d = after.least in
          omega (arith, all, a, b, c, d);
    }

-- how much is left to happen: timers that are due and waits that pend
abbrev pub left_to_come : ℕ → Dispatcher → ℕ
left_to_come m d = due_weight (λ _. 1) m 0 d.objects + fin.len d.table.pending

some_weight : (hs : List ℕ) (h : ℕ) → Contains hs h → 0 < total_weight (λ _. 1) hs
some_weight [] h member = absurd (contains_none h member)
some_weight (x ∷ hs) h member = omega arith

pending_fewer : (old new : Dispatcher) (m u : ℕ) → IsPassedAfter old m u new → fin.len new.table.pending ≤ fin.len old.table.pending
pending_fewer old new m u after =
    let passes = after.passes in
    let a : fin.len (state new).waits ≡ fin.len (waits_over passes.woken passes.times_out.threads false).waits = ap (λ (s : State). fin.len s.waits) passes.times_out.leaves in
    let b = over_len passes.woken passes.times_out.threads false in
    let c : fin.len passes.woken.waits ≡ fin.len (waits_over passes.calm passes.alerts.threads true).waits = ap (λ (s : State). fin.len s.waits) passes.alerts.leaves in
    let d = over_len passes.calm passes.alerts.threads true in
    let e = Grants_len (sequence (state old) passes.timers) (all_expired m (state old) passes.timers) passes.calm passes.served passes.serves.0 in
    let f : fin.len (all_expired m (state old) passes.timers).waits ≡ fin.len (state old).waits = ap (λ (p : Pending). fin.len p) (waits_expired m (state old) passes.timers) in
    omega (arith, a, b, c, d, e, f)

pub left_smaller : (now new : Dispatcher) (m u : ℕ) → IsNextMoment (state now) m u → IsPassedAfter now m u new → left_to_come m new < left_to_come m now
left_smaller now new m u next after = go next.0
  where
    go : IsAwaited (state now) u → left_to_come m new < left_to_come m now
    go (inl timer) =
        let fewer = after.fewer (λ _. 1) in
        let some = some_weight after.passes.timers timer.0 (((after.passes.due).exactly timer.0).1 timer.1) in
        let waits = pending_fewer now new m u after in
        omega (arith, fewer, some, waits)
    go (inr late) =
        let fewer = after.fewer (λ _. 1) in
        let less = after.late late.0 (late.1, late.2, late.3) in
        omega (arith, fewer, less)

-- ---- the end

-- the handles, from k on, of the timers that are due up to m
abbrev due_list : ℕ → ℕ → List Object → List ℕ
due_list m k [] = []
due_list m k (o ∷ os) = if is_up_to m (due_of o) then k ∷ due_list m (k + 1) os else due_list m (k + 1) os

due_to : (m k : ℕ) (os : List Object) (x : ℕ) → Contains (due_list m k os) x → (j : ℕ) × (x ≡ k + j) × (is_up_to m (due_of (object_at os j)) ≡ true)
due_to m k [] x member = absurd (contains_none x member)
due_to m k (o ∷ os) x member = go (is_up_to m (due_of o)) refl (due_to m (k + 1) os x) member
  where
    later : (j : ℕ) × (x ≡ k + 1 + j) × (is_up_to m (due_of (object_at os j)) ≡ true) → (j : ℕ) × (x ≡ k + j) × (is_up_to m (due_of (object_at (o ∷ os) j)) ≡ true)
    later own = (suc own.0, let e = own.1 in omega (arith, e), own.2)

    go : (b : Bool) → is_up_to m (due_of o) ≡ b → (Contains (due_list m (k + 1) os) x → (j : ℕ) × (x ≡ k + 1 + j) × (is_up_to m (due_of (object_at os j)) ≡ true)) → Contains (if b then k ∷ due_list m (k + 1) os else due_list m (k + 1) os) x → (j : ℕ) × (x ≡ k + j) × (is_up_to m (due_of (object_at (o ∷ os) j)) ≡ true)
    go true is rest member = elim (contains_cases k (due_list m (k + 1) os) x member) [
      | inl same ↦ (zero, omega (arith, same), is)
      | inr behind ↦ later (rest behind)
    ]
    go false is rest member = later (rest member)

due_from : (m k : ℕ) (os : List Object) (j x : ℕ) → x ≡ k + j → is_up_to m (due_of (object_at os j)) ≡ true → Contains (due_list m k os) x
due_from m k [] j x is due = absurd (false≢true due)
due_from m k (o ∷ os) zero x is due = rw due (contains_first k (due_list m (k + 1) os) x (omega (arith, is)))
due_from m k (o ∷ os) (suc j) x is due = go (is_up_to m (due_of o)) (due_from m (k + 1) os j x (omega (arith, is)) due)
  where
    go : (b : Bool) → Contains (due_list m (k + 1) os) x → Contains (if b then k ∷ due_list m (k + 1) os else due_list m (k + 1) os) x
    go true member = contains_later k (due_list m (k + 1) os) x member
    go false member = member

due_rises : (m k : ℕ) (os : List Object) → IsRising (due_list m k os)
due_rises m k [] = tt
due_rises m k (o ∷ os) = go (is_up_to m (due_of o)) (due_rises m (k + 1) os)
  where
    go : (b : Bool) → IsRising (due_list m (k + 1) os) → IsRising (if b then k ∷ due_list m (k + 1) os else due_list m (k + 1) os)
    go true rest = (λ y member. let own = due_to m (k + 1) os y member in let e = own.1 in omega (arith, e), rest)
    go false rest = rest

due_blocks : (s : State) (m k : ℕ) (os : List Object) → length (sequence s (due_list m k os)) ≡ due_weight (blocks_in s) m k os
due_blocks s m k [] = refl
due_blocks s m k (o ∷ os) = go (is_up_to m (due_of o)) (due_blocks s m (k + 1) os)
  where
    go : (b : Bool) → length (sequence s (due_list m (k + 1) os)) ≡ due_weight (blocks_in s) m (k + 1) os → length (sequence s (if b then k ∷ due_list m (k + 1) os else due_list m (k + 1) os)) ≡ (if b then blocks_in s k else 0) + due_weight (blocks_in s) m (k + 1) os
    go true rest = let joined : length (sequence s (k ∷ due_list m (k + 1) os)) ≡ length (s.queues k) + length (sequence s (due_list m (k + 1) os)) = length-append (s.queues k) (sequence s (due_list m (k + 1) os)) in omega (arith, joined, rest)
    go false rest = omega (arith, rest)

up_to : (m : ℕ) (o : Option ℕ) → is_up_to m o ≡ true → (u : ℕ) × (o ≡ Some u) × (u ≤ m)
up_to m None is = absurd (false≢true is)
up_to m (Some u) is = (u, refl, grind (arith, nat_tests, is))

within : (m u : ℕ) → u ≤ m → is_up_to m (Some u) ≡ true
within m u le = grind (arith, nat_tests, le)

all_due : (s : State) (m : ℕ) → AreRising (IsDueBy s m) (due_list m 0 s.objects)
all_due s m = record {
  rising = due_rises m 0 s.objects;
  exactly = λ x. (
    λ member.
        let own = due_to m 0 s.objects x member in
        let same : own.0 ≡ x = let e = own.1 in omega (arith, e) in
        up_to m (due_of (object_at s.objects x)) (ap (λ (j : ℕ). is_up_to m (due_of (object_at s.objects j))) (sym same) ∙ own.2),
    λ due. due_from m 0 s.objects x x (omega arith) (ap (λ (o : Option ℕ). is_up_to m o) due.1 ∙ within m due.0 due.2),
  );
}

-- nothing up to m is due any more
pub tick_end : (old now : Dispatcher) (m : ℕ) → TickSoFar old now m → NothingDue (state now) m → IsSteady (record now { now = m }) × IsTickLocal (state old) m now.table.looked now.grants
tick_end old now m far none = (
  record {
    sound = record {
      few = far.sound.few;
      waits = far.sound.waits;
      blocks = far.sound.blocks;
      hands = far.sound.hands;
      standings = far.sound.standings;
      inboxes = far.sound.inboxes;
      objects = far.sound.objects;
      own = far.sound.own;
      none_else = far.sound.none_else;
      timers = far.sound.timers;
      handles = far.sound.handles;
      marks = marks_along refl refl refl (λ o. refl) refl far.sound.marks;
      places = far.sound.places;
      room = far.sound.room;
    };
    settled = record { served = far.served; alerted = far.calm; passed = none };
    unmarked = far.unmarked;
  },
  record {
    timers = due_list m 0 old.objects;
    due = all_due (state old) m;
    most = let most = far.most in let all = due_blocks (state old) m 0 old.objects in omega (arith, most, all);
    least = far.least;
  },
)

-- and then the objects end that nothing keeps any more
pub tick_ended : (old now new : Dispatcher) (m : ℕ) → old.now ≤ m → TickSoFar old now m → NothingDue (state now) m → Ends (state (record now { now = m })) (state new) → new.grants ≡ now.grants → Ticked (state old) m (Ok Reply.Done) new.grants (state new)
tick_ended old now new m forward far none ends same =
    let left : State = state (record now { now = m }) in
    let passed = Passed-end far.moments (state old) (state now) m now.grants far.passed none in
    (forward, refl, (far.moments, left, subst (λ (gs : List Grant). MomentsPass (state old) m far.moments gs left) (sym same) passed, ends))
