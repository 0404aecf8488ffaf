-- What one moment of a tick leaves.
use Rattle.std.proofs.Common.{◌≡◌, ◌<◌, ◌≤◌, ◌^◌, ℕ, suc, ◌+◌, ◌*◌, Bool, true, false, ◌&&◌, List, [], ◌∷◌, ◌++◌, length, length-append, refl, sym, ap, ◌∙◌, subst, arith, Option, Some, None, inl, inr, ◌⊎◌, append_assoc, is_some, Contains}
use Rattle.std.specs.Prelude.{if◌then◌else◌, ◌==◌}
use Rattle.std.specs.List.{flat_map}
use Rattle.std.specs.FinMap as fin
use Rattle.std.specs.Cmp.{nat_cmp_total}
use Rattle.nt_waits.specs.declared.wait.Wait.{Wait}
use Rattle.nt_status.proofs.Lists.{contains_first, contains_or_not}
use Rattle.nt_waits.specs.Waits.{Waits, others, queue_of}
use Rattle.nt_objects.specs.declared.object.Object.{Object}
use Rattle.nt_objects.specs.declared.object.Armed.{Armed}
use Rattle.nt_objects.specs.Object.{due_of, setting_of}
use Rattle.nt_apc.specs.declared.apc.Queued.{Queued}
use Rattle.nt_apc.specs.Queues.{has_apc}
use Rattle.nt_calls.specs.declared.call.Grant.{Grant}
use Rattle.nt_calls.specs.State.{State, object_at, waits_over, wait_over, Pending}
use Rattle.nt_machine.specs.Dispatcher.{Dispatcher, state, Marked, with_marked}
use Rattle.nt_machine.specs.Due.{is_up_to, due_weight, total_weight}
use Rattle.nt_calls.specs.Serving.{wait_granted, sequence, IsServed, IsAlerted, Grants, IsLate}
use Rattle.nt_calls.specs.Change.{expired_as, expired, all_expired}
use Rattle.nt_calls.specs.Steps.{IsNextMoment}
use Rattle.nt_machine.specs.Visits.{FitOnlyIn, Visits}
use Rattle.nt_machine.specs.Lawful.{IsMachineSound, IsUnmarked}
use Rattle.nt_machine.specs.Accepts.{IsExpiredAfter, IsAlertedAfter, IsTimedOutAfter, IsPassedAfter}
use Rattle.nt_machine.proofs.Walks.{get_removed, served}
use Rattle.nt_machine.proofs.Visiting.{len_removed}
use Rattle.nt_machine.proofs.Changing.{fit_only_in}
use Rattle.nt_machine.proofs.Accepting.{due_taken_by}
use Rattle.nt_machine.proofs.Alerting.{over_pending, over_objects}
use Rattle.nt_core.proofs.Lengths.{Grants_length}
use Rattle.nt_waits.specs.Deadlines.{NoneEarlier}
use Rattle.nt_machine.proofs.Ticking.{late_of}

-- ---- what expiry and grants leave

pub queues_expired : (v : ℕ) (s : State) (timers : List ℕ) → (all_expired v s timers).queues ≡ s.queues
queues_expired v s [] = refl
queues_expired v s (h ∷ timers) = queues_expired v (expired v s h) timers ∙ one (setting_of (object_at s.objects h))
  where
    one : (setting : Option Armed) → (expired_as s v h setting).queues ≡ s.queues
    one None = refl
    one (Some armed) = refl

pub waits_expired : (v : ℕ) (s : State) (timers : List ℕ) → (all_expired v s timers).waits ≡ s.waits
waits_expired v s [] = refl
waits_expired v s (h ∷ timers) = waits_expired v (expired v s h) timers ∙ one (setting_of (object_at s.objects h))
  where
    one : (setting : Option Armed) → (expired_as s v h setting).waits ≡ s.waits
    one None = refl
    one (Some armed) = refl

pub Grants_pending : (threads : List ℕ) (s new : State) (gs : List Grant) → Grants threads s gs new → (t : ℕ) (w : Wait) → fin.get new.waits t ≡ Some w → fin.get s.waits t ≡ Some w
Grants_pending threads s new [] is t w pends = ap (λ (x : State). fin.get x.waits t) (sym is) ∙ pends
Grants_pending threads s new (g ∷ gs) has t w pends =
    (get_removed s.waits g.thread t w (Grants_pending threads (wait_granted s g.thread has.1) new gs has.3 t w pends)).1

Grants_apcs : (threads : List ℕ) (s new : State) (gs : List Grant) → Grants threads s gs new → new.apcs ≡ s.apcs
Grants_apcs threads s new [] is = ap (λ (x : State). x.apcs) is
Grants_apcs threads s new (g ∷ gs) has = Grants_apcs threads (wait_granted s g.thread has.1) new gs has.3

Grants_undue : (threads : List ℕ) (s new : State) (gs : List Grant) → Grants threads s gs new → (k : ℕ) → due_of (object_at new.objects k) ≡ due_of (object_at s.objects k)
Grants_undue threads s new [] is k = ap (λ (x : State). due_of (object_at x.objects k)) is
Grants_undue threads s new (g ∷ gs) has k = Grants_undue threads (wait_granted s g.thread has.1) new gs has.3 k ∙ due_taken_by s.objects g.thread has.1 k

length-others-le : (t : ℕ) (q : List ℕ) → length (others t q) ≤ length q
length-others-le t [] = omega arith
length-others-le t (x ∷ q) = go (x == t) (length-others-le t q)
  where
    go : (b : Bool) → length (others t q) ≤ length q → length (if b then others t q else x ∷ others t q) ≤ length (x ∷ q)
    go true rest = omega (arith, rest)
    go false rest = omega (arith, rest)

pub Grants_queues : (threads : List ℕ) (s new : State) (gs : List Grant) → Grants threads s gs new → (h : ℕ) → length (new.queues h) ≤ length (s.queues h)
Grants_queues threads s new [] is h = let same : length (new.queues h) ≡ length (s.queues h) = ap (λ (x : State). length (x.queues h)) is in omega (arith, same)
Grants_queues threads s new (g ∷ gs) has h =
    let rest = Grants_queues threads (wait_granted s g.thread has.1) new gs has.3 h in
    let one = length-others-le g.thread (s.queues h) in
    omega (arith, rest, one)

pub over_queues : (s : State) (ts : List ℕ) (may : Bool) (h : ℕ) → length ((waits_over s ts may).queues h) ≤ length (s.queues h)
over_queues s [] may h = omega arith
over_queues s (t ∷ ts) may h =
    let rest = over_queues (wait_over s t may) ts may h in
    let one = length-others-le t (s.queues h) in
    omega (arith, rest, one)

pub Grants_len : (threads : List ℕ) (s new : State) (gs : List Grant) → Grants threads s gs new → fin.len new.waits + length gs ≡ fin.len s.waits
Grants_len threads s new [] is = let same : fin.len new.waits ≡ fin.len s.waits = ap (λ (x : State). fin.len x.waits) is in omega (arith, same)
Grants_len threads s new (g ∷ gs) has =
    let rest = Grants_len threads (wait_granted s g.thread has.1) new gs has.3 in
    let one = len_removed s.waits g.thread has.1 has.2.pends in
    omega (arith, rest, one)

len_removed_le : (m : Pending) (t : ℕ) → fin.len (fin.remove m t) ≤ fin.len m
len_removed_le m t = go (fin.get m t) refl
  where
    go : (o : Option Wait) → fin.get m t ≡ o → fin.len (fin.remove m t) ≤ fin.len m
    go (Some w) e = let one = len_removed m t w e in omega (arith, one)
    go None e =
        let has : fin.contains_key m t ≡ false = ap (λ (o : Option Wait). is_some o) e in
        let same : fin.len (fin.remove m t) ≡ fin.len m = fin.len-remove nat_cmp_total m t ∙ rw has refl in
        omega (arith, same)

pub over_len : (s : State) (ts : List ℕ) (may : Bool) → fin.len (waits_over s ts may).waits ≤ fin.len s.waits
over_len s [] may = omega arith
over_len s (t ∷ ts) may =
    let rest = over_len (wait_over s t may) ts may in
    let one = len_removed_le s.waits t in
    omega (arith, rest, one)

-- ---- weights

pub due_weight_same : (weight : ℕ → ℕ) (m k : ℕ) (old new : List Object) → length new ≡ length old → ((h : ℕ) → due_of (object_at new h) ≡ due_of (object_at old h)) → due_weight weight m k new ≡ due_weight weight m k old
due_weight_same weight m k [] [] len same = refl
due_weight_same weight m k [] (y ∷ new) len same = absurd (omega (arith, len))
due_weight_same weight m k (x ∷ old) [] len same = absurd (omega (arith, len))
due_weight_same weight m k (x ∷ old) (y ∷ new) len same =
    let here : (if is_up_to m (due_of y) then weight k else 0) ≡ (if is_up_to m (due_of x) then weight k else 0) = ap (λ (o : Option ℕ). if is_up_to m o then weight k else 0) (same 0) in
    let rest = due_weight_same weight m (k + 1) old new (omega (arith, len)) (λ h. same (suc h)) in
    omega (arith, here, rest)

pub due_weight_less : (light heavy : ℕ → ℕ) (m k : ℕ) (os : List Object) → ((h : ℕ) → light h ≤ heavy h) → due_weight light m k os ≤ due_weight heavy m k os
due_weight_less light heavy m k [] less = omega arith
due_weight_less light heavy m k (o ∷ os) less = go (is_up_to m (due_of o)) (due_weight_less light heavy m (k + 1) os less) (less k)
  where
    go : (b : Bool) → due_weight light m (k + 1) os ≤ due_weight heavy m (k + 1) os → light k ≤ heavy k → (if b then light k else 0) + due_weight light m (k + 1) os ≤ (if b then heavy k else 0) + due_weight heavy m (k + 1) os
    go true rest here = omega (arith, rest, here)
    go false rest here = omega (arith, rest)

pub due_weight_bound : (weight : ℕ → ℕ) (m k bound : ℕ) (os : List Object) → ((h : ℕ) → weight h ≤ 4096) → due_weight weight m k os ≤ 4096 * length os
due_weight_bound weight m k bound [] below = omega arith
due_weight_bound weight m k bound (o ∷ os) below = go (is_up_to m (due_of o)) (due_weight_bound weight m (k + 1) bound os below) (below k)
  where
    go : (b : Bool) → due_weight weight m (k + 1) os ≤ 4096 * length os → weight k ≤ 4096 → (if b then weight k else 0) + due_weight weight m (k + 1) os ≤ 4096 * length (o ∷ os)
    go true rest here = omega (arith, rest, here)
    go false rest here = omega (arith, rest)

pub sequence_weight : (s : State) (hs : List ℕ) → length (sequence s hs) ≡ total_weight (λ h. length (s.queues h)) hs
sequence_weight s [] = refl
sequence_weight s (h ∷ hs) =
    let joined : length (sequence s (h ∷ hs)) ≡ length (s.queues h) + length (sequence s hs) = length-append (s.queues h) (flat_map s.queues hs) in
    let rest = sequence_weight s hs in
    omega (arith, joined, rest)

-- ---- one moment

same_sequence : (old new : Dispatcher) (timers : List ℕ) → new.table ≡ old.table → sequence (state new) timers ≡ sequence (state old) timers
same_sequence old new timers table = ap (λ (v : Waits). flat_map (λ h. queue_of v h) timers) table

-- what expired tells nothing of the marks that are left now
pub expired_remarked : (old new : Dispatcher) (m u : ℕ) (timers : List ℕ) (marks : List Bool) (marked : Marked) → IsExpiredAfter old m u new timers marks → IsExpiredAfter old m u (with_marked new marked) timers marks
expired_remarked old new m u timers marks marked after = record {
  due = after.due;
  expired = after.expired;
  marked = after.marked;
  others = after.others;
  fewer = after.fewer;
  grants = after.grants;
  table = after.table;
}

-- what fits after timers expired names one of them
pub expired_fit : (old new : Dispatcher) (m u : ℕ) (timers : List ℕ) (marks : List Bool) → IsMachineSound old → IsServed (state old) → IsExpiredAfter old m u new timers marks → FitOnlyIn (sequence (state new) timers) (state new)
expired_fit old new m u timers marks sound served after =
    subst (λ (v : Waits). FitOnlyIn (flat_map (λ h. queue_of v h) timers) (state (record new { table = v }))) (sym after.table)
    (fit_only_in timers old new.objects sound served (λ h known. in_or_same h (contains_or_not timers h)))
  where
    in_or_same : (h : ℕ) → Contains timers h ⊎ (Contains timers h → ⊥) → (object_at new.objects h ≡ object_at old.objects h) ⊎ Contains timers h
    in_or_same h (inl member) = inr member
    in_or_same h (inr out) = inl (after.others h out)

-- whoever is to be alerted after grants was so before
pub Grants_alerted : (threads : List ℕ) (s new : State) (gs : List Grant) → Grants threads s gs new → (t : ℕ) → IsAlerted new t → IsAlerted s t
Grants_alerted threads s new gs has t alerted =
    (alerted.0, Grants_pending threads s new gs has t alerted.0 alerted.1, subst (λ (qs : List (List Queued)). ((alerted.0).alertable && has_apc qs t) ≡ true) (Grants_apcs threads s new gs has) alerted.2)

-- the late wait has ended, or others have
late_fewer : (d1 d2 d3 d4 : Dispatcher) (u : ℕ) (threads : List ℕ) (gs : List Grant) → Grants threads (state d1) gs (state d2) → (rouse : IsAlertedAfter d2 d3) → IsTimedOutAfter d3 u d4 → (t : ℕ) → IsLate (state d1) u t → fin.len (state d4).waits < fin.len (state d1).waits
late_fewer d1 d2 d3 d4 u threads gs has rouse timed t late = by_grants gs has
  where
    out : fin.len (state d4).waits ≤ fin.len (state d3).waits
    out =
        let same : fin.len (state d4).waits ≡ fin.len (waits_over (state d3) timed.timed.threads false).waits = ap (λ (s : State). fin.len s.waits) timed.timed.leaves in
        let le = over_len (state d3) timed.timed.threads false in
        omega (arith, same, le)

    roused : fin.len (state d3).waits ≤ fin.len (state d2).waits
    roused =
        let same : fin.len (state d3).waits ≡ fin.len (waits_over (state d2) rouse.alerts.threads true).waits = ap (λ (s : State). fin.len s.waits) rouse.alerts.leaves in
        let le = over_len (state d2) rouse.alerts.threads true in
        omega (arith, same, le)

    by_alerts : (ts : List ℕ) → rouse.alerts.threads ≡ ts → IsLate (state d2) u t → fin.len (state d4).waits < fin.len (state d2).waits
    by_alerts [] none late =
        let calm : state d3 ≡ state d2 = rouse.alerts.leaves ∙ ap (λ ts. waits_over (state d2) ts true) none in
        let fewer = timed.fewer t (subst (λ (s : State). IsLate s u t) (sym calm) late) in
        let same : fin.len (state d3).waits ≡ fin.len (state d2).waits = ap (λ (s : State). fin.len s.waits) calm in
        omega (arith, fewer, same)
    by_alerts (x ∷ ts) some late =
        let own = ((rouse.alerts.alerted).exactly x).0 (subst (λ (l : List ℕ). Contains l x) (sym some) (contains_first x ts x refl)) in
        let one = len_removed (state d2).waits x own.0 own.1 in
        let rest = over_len (wait_over (state d2) x true) ts true in
        let same : fin.len (state d3).waits ≡ fin.len (waits_over (wait_over (state d2) x true) ts true).waits = ap (λ (s : State). fin.len s.waits) (rouse.alerts.leaves ∙ ap (λ l. waits_over (state d2) l true) some) in
        omega (arith, out, one, rest, same)

    by_grants : (gs : List Grant) → Grants threads (state d1) gs (state d2) → fin.len (state d4).waits < fin.len (state d1).waits
    by_grants [] is =
        let same : fin.len (state d2).waits ≡ fin.len (state d1).waits = ap (λ (s : State). fin.len s.waits) is in
        let less = by_alerts rouse.alerts.threads refl (subst (λ (s : State). IsLate s u t) (sym is) late) in
        omega (arith, same, less)
    by_grants (g ∷ gs) has =
        let count = Grants_len threads (state d1) (state d2) (g ∷ gs) has in
        omega (arith, count, out, roused)

pub passed_whole : (old d1 d2 d3 d4 : Dispatcher) (m u : ℕ) (timers : List ℕ) (marks : List Bool) → IsExpiredAfter old m u d1 timers marks → FitOnlyIn (sequence (state d1) timers) (state d1) → Visits (sequence (state d1) timers) d1 d2 → IsAlertedAfter d2 d3 → IsTimedOutAfter d3 u d4 → IsMachineSound d4 → IsPassedAfter old m u d4
passed_whole old d1 d2 d3 d4 m u timers marks after local visits rouse timed sound =
    let same = same_sequence old d1 timers after.table in
    let grants : Grants (sequence (state old) timers) (all_expired m (state old) timers) visits.ended (state d2) =
    subst (λ (s : State). Grants (sequence (state old) timers) s visits.ended (state d2)) after.expired (subst (λ (q : List ℕ). Grants q (state d1) visits.ended (state d2)) same visits.granted) in
    let looked : d1.table.looked ≡ old.table.looked = ap (λ (v : Waits). v.looked) after.table in
    let length_same : length (sequence (state d1) timers) ≡ length (sequence (state old) timers) = ap (λ q. length q) same in
    let objects : d4.objects ≡ d2.objects =
    ap (λ (s : State). s.objects) timed.timed.leaves ∙ (over_objects (state d3) timed.timed.threads false ∙ (ap (λ (s : State). s.objects) rouse.alerts.leaves ∙ over_objects (state d2) rouse.alerts.threads true)) in
    record {
      here = visits.ended ++ rouse.ended ++ timed.ended;
      passes = record {
        timers = timers;
        served = visits.ended;
        calm = state d2;
        alerted = rouse.ended;
        woken = state d3;
        timed = timed.ended;
        due = after.due;
        serves = (grants, served (sequence (state d1) timers) d1 d2 local visits);
        alerts = rouse.alerts;
        times_out = timed.timed;
        in_order = refl;
      };
      grants =
          timed.grants ∙ (ap (λ gs. gs ++ timed.ended) (rouse.grants ∙ ap (λ gs. gs ++ rouse.ended) (visits.grants ∙ ap (λ gs. gs ++ visits.ended) after.grants))
          ∙ (ap (λ gs. gs ++ timed.ended) (append_assoc old.grants visits.ended rouse.ended) ∙ append_assoc old.grants (visits.ended ++ rouse.ended) timed.ended));
      most = let most = visits.most in let a = timed.looked in let b = rouse.looked in omega (arith, most, a, b, looked, length_same);
      least = let least = visits.least in let a = timed.looked in let b = rouse.looked in omega (arith, least, a, b, looked);
      fewer = λ weight.
          let same : due_weight weight m 0 d4.objects ≡ due_weight weight m 0 d1.objects =
          ap (λ os. due_weight weight m 0 os) objects ∙ due_weight_same weight m 0 d1.objects d2.objects (Grants_length (sequence (state d1) timers) (state d1) (state d2) visits.ended visits.granted) (Grants_undue (sequence (state d1) timers) (state d1) (state d2) visits.ended visits.granted) in
          let before = after.fewer weight in
          omega (arith, same, before);
      late = λ t late.
          let waits : (state d1).waits ≡ (state old).waits = ap (λ (v : Waits). v.pending) after.table in
          let less = late_fewer d1 d2 d3 d4 u (sequence (state d1) timers) visits.ended visits.granted rouse timed t (late.0, ap (λ (p : Pending). fin.get p t) waits ∙ late.1, late.2) in
          let same : fin.len (state d1).waits ≡ fin.len (state old).waits = ap (λ (p : Pending). fin.len p) waits in
          omega (arith, less, same);
      sound = sound;
      unmarked = subst IsUnmarked (sym timed.marked) rouse.unmarked;
    }

-- what is served then fits the counter
pub expired_countable : (old new : Dispatcher) (m u : ℕ) (timers : List ℕ) (marks : List Bool) → IsExpiredAfter old m u new timers marks → old.table.looked + due_weight (λ h. length ((state old).queues h)) m 0 old.objects < 2 ^ 64 → new.table.looked + length (sequence (state new) timers) < 2 ^ 64
expired_countable old new m u timers marks after few =
    let looked : new.table.looked ≡ old.table.looked = ap (λ (v : Waits). v.looked) after.table in
    let same : length (sequence (state new) timers) ≡ length (sequence (state old) timers) = ap (λ q. length q) (same_sequence old new timers after.table) in
    let placed = sequence_weight (state old) timers in
    let gone = after.fewer (λ h. length ((state old).queues h)) in
    omega (arith, few, looked, same, placed, gone)

-- no deadline is before this moment
pub none_earlier_left : (old d1 d2 d3 : Dispatcher) (m u : ℕ) (timers : List ℕ) (marks : List Bool) → IsNextMoment (state old) m u → IsExpiredAfter old m u d1 timers marks → Visits (sequence (state d1) timers) d1 d2 → IsAlertedAfter d2 d3 → NoneEarlier d3.table.pending u
none_earlier_left old d1 d2 d3 m u timers marks next after visits rouse t v has =
    let late = late_of (state d3) v t has in
    let a = (over_pending (state d2) rouse.alerts.threads true t late.0 (ap (λ (s : State). fin.get s.waits t) (sym rouse.alerts.leaves) ∙ late.1)).0 in
    let b = Grants_pending (sequence (state d1) timers) (state d1) (state d2) visits.ended visits.granted t late.0 a in
    let c : fin.get (state old).waits t ≡ Some late.0 = ap (λ (x : Waits). fin.get x.pending t) (sym after.table) ∙ b in
    next.2 v (inr (t, late.0, c, late.2))
