-- A call ends no more waits than pended before it, and begins one at most; a tick ends as many as are gone after it.
use Rattle.std.proofs.Common.{◌≡◌, ◌≢◌, ℕ, ◌+◌, ◌-◌, ◌≤◌, ◌<◌, Bool, true, false, cond, List, [], ◌∷◌, ◌++◌, length, length-append, refl, sym, ap, ◌∙◌, arith, Option, Some, None, Ok, Err, Result, is_some, ◌&&◌, ◌==◌, Contains}
use Rattle.std.proofs.lemmas.List.{length-map}
use Rattle.std.proofs.lemmas.Bool.{le-ltb, ne_eqb}
use Rattle.std.specs.Ordering.{nat_cmp, eq_by_cmp}
use Rattle.std.specs.Cmp.{nat_cmp_total}
use Rattle.std.specs.FinMap as map
use Rattle.nt_status.proofs.Lists.{contains_first, contains_later}
use Rattle.nt_status.specs.declared.refusal.Refusal.{Refusal}
use Rattle.nt_waits.specs.declared.wait.Wait.{Wait}
use Rattle.nt_apc.specs.Queues.{has_apc}
use Rattle.nt_calls.specs.declared.call.Act.{Act}
use Rattle.nt_calls.specs.declared.call.Call.{Call}
use Rattle.nt_calls.specs.declared.call.WaitCall.{WaitCall}
use Rattle.nt_calls.specs.declared.call.Grant.{Grant}
use Rattle.nt_calls.specs.declared.call.Reply.{Reply}
use Rattle.nt_calls.specs.Calls.{timeout_of}
use Rattle.nt_calls.specs.Naming.{call_named}
use Rattle.nt_calls.specs.Rising.{IsRising}
use Rattle.nt_calls.specs.State.{State, Pending, wait_over, waits_over}
use Rattle.nt_calls.specs.Serving.{fits, wait_granted, Grants, Alert, TimeOut}
use Rattle.nt_calls.specs.Change.{change, may_take, expired, expired_as, all_expired}
use Rattle.nt_calls.specs.Steps.{Called, Step, Ticked, MomentPasses, MomentsPass, after_serving, answered, begun, asked_wait}
use Rattle.nt_machine.proofs.Remaining.{ends_waits}

len_removed : (m : Pending) (t : ℕ) (w : Wait) → map.get m t ≡ Some w → map.len (map.remove m t) + 1 ≡ map.len m
len_removed m t w e =
    let has : map.contains_key m t ≡ true = ap (λ (o : Option Wait). is_some o) e in
    let fewer : map.len (map.remove m t) + 1 ≡ (map.len m - 1) + 1 = ap (λ (n : ℕ). n + 1) (map.len-remove nat_cmp_total m t ∙ rw has refl) in
    let some : map.len m ≢ 0 = λ none.
    let absent : Some w ≡ None = sym e ∙ (ap (λ n. map.get n t) (map.empty_of_len m none) ∙ map.get-empty nat_cmp t) in
    (cc) in
    omega arith

-- ---- serving

grants-len : (threads : List ℕ) (gs : List Grant) (old new : State) → Grants threads old gs new → length gs + map.len new.waits ≡ map.len old.waits
grants-len threads [] old new h = let e = ap (λ (s : State). map.len s.waits) h in omega arith
grants-len threads (g ∷ gs) old new h =
    let rest = grants-len threads gs (wait_granted old g.thread h.1) new h.3 in
    let one = len_removed old.waits g.thread h.1 h.2.pends in
    omega (arith, rest, one)

-- ---- alerts

other_thread : (t x : ℕ) → t < x → eq_by_cmp nat_cmp x t ≡ false
other_thread t x h =
    let ne : x ≡ t → ⊥ = λ e. absurd (omega arith) in
    rw (le-ltb x t (omega arith), ne_eqb x t ne) refl

Pends : State → ℕ → Type 0
Pends s t = (w : Wait) × (map.get s.waits t ≡ Some w)

still_pends : (s : State) (t x : ℕ) (may : Bool) → t < x → Pends s x → Pends (wait_over s t may) x
unfolding Pends
still_pends s t x may h p = (p.0, map.get-remove nat_cmp_total s.waits t x ∙ rw (other_thread t x h) p.1)

waits_over-len : (ts : List ℕ) (s : State) (may : Bool) → IsRising ts → ((x : ℕ) → Contains ts x → Pends s x) → length ts + map.len (waits_over s ts may).waits ≡ map.len s.waits
unfolding Pends
waits_over-len [] s may rising pend = omega arith
waits_over-len (t ∷ ts) s may rising pend =
    let here = pend t (contains_first t ts t refl) in
    let one = len_removed s.waits t here.0 here.1 in
    let rest = waits_over-len ts (wait_over s t may) may rising.1 (λ x member. still_pends s t x may (rising.0 x member) (pend x (contains_later t ts x member))) in
    omega (arith, one, rest)

alert-len : (old new : State) (grants : List Grant) → Alert old grants new → length grants + map.len new.waits ≡ map.len old.waits
unfolding Pends
alert-len old new grants h =
    let over = waits_over-len h.threads old true h.alerted.rising (λ x member. let is = (h.alerted.exactly x).0 member in (is.0, is.1)) in
    let left : map.len new.waits ≡ map.len (waits_over old h.threads true).waits = ap (λ (s : State). map.len s.waits) h.leaves in
    let ended : length grants ≡ length h.threads = ap length h.ends ∙ length-map h.threads _ in
    omega arith

-- ---- a call

either-len : (b : Bool) (n : ℕ) (x y : State) → map.len x.waits ≡ n → map.len y.waits ≡ n → map.len (cond b x y).waits ≡ n
either-len true n x y p q = p
either-len false n x y p q = q

expired-waits : (v : ℕ) (s : State) (timer : ℕ) → (expired v s timer).waits ≡ s.waits
expired-waits v s timer = by _
  where
    by : (armed : Option _) → (expired_as s v timer armed).waits ≡ s.waits
    by None = refl
    by (Some armed) = refl

change-len : (s : State) (t : ℕ) (call : Call) → map.len (change s t call).waits ≡ map.len s.waits
change-len s t (Call.Act (Act.CreateEvent flags)) = refl
change-len s t (Call.Act Act.NextApc) = either-len (may_take s t) (map.len s.waits) _ _ refl refl
change-len s t (Call.Act (Act.SetTimer h due period routine)) = either-len _ (map.len s.waits) _ _ (ap (λ (p : Pending). map.len p) (expired-waits s.now _ h)) refl
change-len s t (Call.Wait (WaitCall.Swap signal object mode)) = refl
change-len s t call = refl

after-len : (call : Call) (s : State) → map.len (after_serving call s).waits ≡ map.len s.waits
after-len (Call.Act (Act.PulseEvent h)) s = refl
after-len _ s = refl

insert-len : (m : Pending) (t : ℕ) (w : Wait) → map.len (map.insert m t w) ≤ map.len m + 1
insert-len m t w = by (map.contains_key m t) refl
  where
    by : (b : Bool) → map.contains_key m t ≡ b → map.len (map.insert m t w) ≤ map.len m + 1
    by true e = let h : map.len (map.insert m t w) ≡ map.len m = map.len-insert nat_cmp_total m t w ∙ rw e refl in omega arith
    by false e = let h : map.len (map.insert m t w) ≡ map.len m + 1 = map.len-insert nat_cmp_total m t w ∙ rw e refl in omega arith

begun-len : (s new : State) (t : ℕ) (w : Wait) (ms : ℕ) (reply : Reply) → (reply, new) ≡ begun s t w ms → map.len new.waits ≤ map.len s.waits + 1
begun-len s new t w ms reply e = by (fits s.objects t w) (w.alertable && has_apc s.apcs t) (ms == 0) refl refl refl
  where
    by : (a b c : Bool) → fits s.objects t w ≡ a → (w.alertable && has_apc s.apcs t) ≡ b → (ms == 0) ≡ c → map.len new.waits ≤ map.len s.waits + 1
    by true b c p q r = let h : map.len new.waits ≡ map.len s.waits = ap (λ (x : Reply × State). map.len (x.1).waits) e ∙ rw p refl in omega arith
    by false true c p q r = let h : map.len new.waits ≡ map.len s.waits = ap (λ (x : Reply × State). map.len (x.1).waits) e ∙ rw p (rw q refl) in omega arith
    by false false true p q r = let h : map.len new.waits ≡ map.len s.waits = ap (λ (x : Reply × State). map.len (x.1).waits) e ∙ rw p (rw q (rw r refl)) in omega arith
    by false false false p q r =
        let h : map.len new.waits ≡ map.len (map.insert s.waits t w) = ap (λ (x : Reply × State). map.len (x.1).waits) e ∙ rw p (rw q (rw r refl)) in
        omega (arith, insert-len s.waits t w)

answered-len : (old s new : State) (t : ℕ) (call : Call) (reply : Reply) → (reply, new) ≡ answered old s t call → map.len new.waits ≤ map.len s.waits + 1
answered-len old s new t (Call.Act act) reply e = let same = ap (λ (x : Reply × State). map.len (x.1).waits) e in omega arith
answered-len old s new t Call.Exit reply e = let same = ap (λ (x : Reply × State). map.len (x.1).waits) e in omega arith
answered-len old s new t (Call.Wait wait) reply e = begun-len s new t (asked_wait s.now wait) (timeout_of wait) reply e

-- the waits that pend when the caller's own comes are those from before without the granted ones
woken_len : (old : State) (who : ℕ) (call : Call) (reply : Reply) (grants : List Grant) (new : State) (step : Step old who call reply grants new) → length grants + map.len (step.woken).waits ≡ map.len old.waits
woken_len old who call reply grants new step =
    let served = grants-len _ step.served (change old who call) step.calm step.serves.0 in
    let alerted = alert-len (after_serving call step.calm) step.woken step.alerted step.alerts in
    let both : length grants ≡ length step.served + length step.alerted = ap length step.in_order ∙ length-append step.served step.alerted in
    omega (arith, served, alerted, both, change-len old who call, after-len call step.calm)

pub called_most : (old : State) (who : ℕ) (call : Call) (result : Result Reply Refusal) (grants : List Grant) (new : State) → Called old who call result grants new → length grants ≤ map.len old.waits
called_most old who call (Err r) grants new h = let none = ap length h.1 in omega arith
called_most old who call (Ok reply) grants new h = omega (arith, woken_len old who (call_named old.handles call) reply grants h.0 h.1.1)

pub called_few : (old : State) (who : ℕ) (call : Call) (result : Result Reply Refusal) (grants : List Grant) (new : State) → Called old who call result grants new → length grants + map.len new.waits ≤ map.len old.waits + 1
called_few old who call (Err r) grants new h =
    let none = ap length h.1 in
    let same = ap (λ (s : State). map.len s.waits) h.2 in
    omega arith
called_few old who call (Ok reply) grants new h =
    let named : Call = call_named old.handles call in
    let ends = ap (λ (p : Pending). map.len p) (ends_waits h.0 new h.2) in
    omega (arith, ends, woken_len old who named reply grants h.0 h.1.1, answered-len old (h.1.1).woken h.0 who named reply (h.1.1).answers)

-- ---- a tick

time_out-len : (old new : State) (u : ℕ) (grants : List Grant) → TimeOut old u grants new → length grants + map.len new.waits ≡ map.len old.waits
unfolding Pends
time_out-len old new u grants h =
    let over = waits_over-len h.threads old false h.late.rising (λ x member. let is = (h.late.exactly x).0 member in (is.0, is.1)) in
    let left : map.len new.waits ≡ map.len (waits_over old h.threads false).waits = ap (λ (s : State). map.len s.waits) h.leaves in
    let ended : length grants ≡ length h.threads = ap length h.ends ∙ length-map h.threads _ in
    omega arith

all_expired-waits : (v : ℕ) (s : State) (timers : List ℕ) → (all_expired v s timers).waits ≡ s.waits
all_expired-waits v s [] = refl
all_expired-waits v s (timer ∷ timers) = all_expired-waits v (expired v s timer) timers ∙ expired-waits v s timer

moment-len : (old new : State) (m u : ℕ) (grants : List Grant) → MomentPasses old m u grants new → length grants + map.len new.waits ≡ map.len old.waits
moment-len old new m u grants h =
    let same : map.len (all_expired m old h.timers).waits ≡ map.len old.waits = ap (λ (p : Pending). map.len p) (all_expired-waits m old h.timers) in
    let served = grants-len _ h.served (all_expired m old h.timers) h.calm h.serves.0 in
    let alerted = alert-len h.calm h.woken h.alerted h.alerts in
    let timed = time_out-len h.woken new u h.timed h.times_out in
    let all : length grants ≡ (length h.served + length h.alerted) + length h.timed =
    ap length h.in_order ∙ length-append (h.served ++ h.alerted) h.timed ∙ ap (λ (n : ℕ). n + length h.timed) (length-append h.served h.alerted) in
    omega (arith, same, served, alerted, timed, all)

moments-len : (m : ℕ) (us : List ℕ) (old new : State) (grants : List Grant) → MomentsPass old m us grants new → length grants + map.len new.waits ≡ map.len old.waits
moments-len m [] old new grants h =
    let none = ap length h.1 in
    let same = ap (λ (s : State). map.len s.waits) h.2 in
    omega arith
moments-len m (u ∷ us) old new grants (here, later, mid, next, passes, rest, e) =
    let first = moment-len old mid m u here passes in
    let more = moments-len m us mid new later rest in
    let both : length grants ≡ length here + length later = ap length e ∙ length-append here later in
    omega (arith, first, more, both)

pub ticked_few : (old : State) (m : ℕ) (result : Result Reply Refusal) (grants : List Grant) (new : State) → Ticked old m result grants new
    → length grants + map.len new.waits ≡ map.len old.waits
ticked_few old m (Err r) grants new h =
    let none = ap length h.2 in
    let same = ap (λ (s : State). map.len s.waits) h.3 in
    omega arith
ticked_few old m (Ok reply) grants new h =
    let ends = ap (λ (p : Pending). map.len p) (ends_waits h.2.1 new h.2.3) in
    let passed = moments-len m h.2.0 old h.2.1 grants h.2.2 in
    omega (arith, ends, passed)
