-- Acts on objects for which no wait pends: as whole calls, and beside a wait that begins.
use Rattle.std.proofs.Common.{◌≡◌, ◌≢◌, ℕ, zero, suc, Bool, true, false, not, ◌&&◌, ◌||◌, List, [], ◌∷◌, length, refl, sym, ap, ◌∙◌, subst, None, cond, ◌++◌, Some}
use Rattle.std.specs.Prelude.{slice_set, nat_lt, nat_le, int_le, pos, if◌then◌else◌, Ok, ℤ, ◌-◌, slice_index, ◌==◌}
use Rattle.std.proofs.lemmas.List.{length-set, get_or-set_other}
use Rattle.nt_status.proofs.Lists.{contains_first, contains_none}
use Rattle.nt_status.specs.declared.refusal.Refusal.TheVariants.{AccessDenied, InvalidHandle, InvalidParameter, NotOwner, TooManyPosts, ThreadWaiting, ThreadEnded, UnknownThread}
use Rattle.nt_objects.specs.declared.object.Object.{Object}
use Rattle.nt_objects.specs.declared.object.Object.TheVariants.{Event, Semaphore, Mutex, Timer, Thread, Gone}
use Rattle.nt_objects.specs.Object.{is_gone, has_ended, is_event, is_semaphore, is_mutex, owned_by, overflows, with_set, released, unlocked}
use Rattle.nt_calls.specs.declared.call.Call.{Call}
use Rattle.nt_calls.specs.declared.call.Act.{Act}
use Rattle.nt_calls.specs.declared.call.Reply.{Reply}
use Rattle.nt_calls.specs.declared.call.Grant.{Grant}
use Rattle.nt_calls.specs.Rising.{AreRising}
use Rattle.nt_calls.specs.State.{State, object_at, with_object, pends, wait_names, pending_too}
use Rattle.nt_calls.specs.Serving.{IsServed, is_ready, least, status, taken_by, take_at, take_each, fits, satisfied, objects_taken, IsAlerted, Serve, Alert, IsChanged, sequence}
use Rattle.nt_calls.specs.Change.{at, change, act_reply}
use Rattle.nt_calls.specs.Living.{is_opened, is_awaited, is_forgotten, is_kept, Ends, LivesWhileKept, all_gone}
use Rattle.nt_calls.specs.Naming.{act_named}
use Rattle.nt_calls.specs.Rights.{act_denied}
use Rattle.nt_calls.specs.Refusals.{refusal, first_of_causes, act_causes}
use Rattle.nt_calls.specs.Steps.{Step, Called, begun, asked_wait, timeout_of}
use Rattle.nt_apart.specs.Apart.{changes_one, changed_one, AreStepsOnTwoObjects, StepsGoOtherwise, AreCallsOnTwoObjects, CallsGoOtherwise, only_waits, IsUnawaited, IsQuiet, AreChangeAndWait, WaitGoesFirst}
use Rattle.nt_apart.proofs.Quiet.{change_of_one, two_changes, step_is, served_other, fits_other, serve_none, alert_none, none_to_alert, change_is, make_step, changed_along, rising_along}
use Rattle.std.specs.Cmp.{nat_cmp_total, unsigned_tied}
use Rattle.std.specs.Ordering.{nat_cmp, eq_by_cmp}
use Rattle.std.specs.FinMap as map
use Rattle.std.proofs.lemmas.Bool.{eqb-true}
use Rattle.nt_objects.proofs.Taking.{unsignaled_taken}
use Rattle.nt_machine.proofs.Changing.{served_fewer}
use Rattle.nt_core.proofs.Lengths.{length_taken}
use Rattle.nt_waits.specs.declared.wait.Wait.{Wait}
use Rattle.nt_apc.specs.Queues.{has_apc}
use Rattle.nt_calls.specs.declared.call.WaitCall.{WaitCall}
use Rattle.nt_apart.proofs.Waking.{taken_leaves, same_taking, reply_at}
use Rattle.nt_apart.proofs.Waits.{begins}

-- ---- such a change makes no object another kind, ends no thread, and lets no object go

set_gone : (b : Bool) (o : Object) → is_gone (with_set b o) ≡ is_gone o
set_gone b (Event manual set) = refl
set_gone b (Timer manual set armed) = refl
set_gone b (Semaphore count maximum) = refl
set_gone b (Mutex owner depth abandoned) = refl
set_gone b (Thread ended) = refl
set_gone b Gone = refl

set_ended : (b : Bool) (o : Object) → has_ended (with_set b o) ≡ has_ended o
set_ended b (Event manual set) = refl
set_ended b (Timer manual set armed) = refl
set_ended b (Semaphore count maximum) = refl
set_ended b (Mutex owner depth abandoned) = refl
set_ended b (Thread ended) = refl
set_ended b Gone = refl

released_gone : (n : ℤ) (o : Object) → is_gone (released n o) ≡ is_gone o
released_gone n (Event manual set) = refl
released_gone n (Timer manual set armed) = refl
released_gone n (Semaphore count maximum) = refl
released_gone n (Mutex owner depth abandoned) = refl
released_gone n (Thread ended) = refl
released_gone n Gone = refl

released_ended : (n : ℤ) (o : Object) → has_ended (released n o) ≡ has_ended o
released_ended n (Event manual set) = refl
released_ended n (Timer manual set armed) = refl
released_ended n (Semaphore count maximum) = refl
released_ended n (Mutex owner depth abandoned) = refl
released_ended n (Thread ended) = refl
released_ended n Gone = refl

unlocked_gone : (o : Object) → is_gone (unlocked o) ≡ is_gone o
unlocked_gone (Event manual set) = refl
unlocked_gone (Timer manual set armed) = refl
unlocked_gone (Semaphore count maximum) = refl
unlocked_gone (Mutex owner depth abandoned) = go (nat_le depth 1)
  where
    go : (b : Bool) → is_gone (if b then Mutex None 0 false else Mutex owner (depth - 1) abandoned) ≡ false
    go true = refl
    go false = refl
unlocked_gone (Thread ended) = refl
unlocked_gone Gone = refl

unlocked_ended : (o : Object) → has_ended (unlocked o) ≡ has_ended o
unlocked_ended (Event manual set) = refl
unlocked_ended (Timer manual set armed) = refl
unlocked_ended (Semaphore count maximum) = refl
unlocked_ended (Mutex owner depth abandoned) = go (nat_le depth 1)
  where
    go : (b : Bool) → has_ended (if b then Mutex None 0 false else Mutex owner (depth - 1) abandoned) ≡ false
    go true = refl
    go false = refl
unlocked_ended (Thread ended) = refl
unlocked_ended Gone = refl

change_gone : (a : Act) (o : Object) → is_gone (change_of_one a o) ≡ is_gone o
change_gone (Act.SetEvent h) o = set_gone true o
change_gone (Act.ResetEvent h) o = set_gone false o
change_gone (Act.ReleaseSemaphore h n) o = released_gone n o
change_gone (Act.ReleaseMutex h) o = unlocked_gone o
change_gone _ o = refl

change_ended : (a : Act) (o : Object) → has_ended (change_of_one a o) ≡ has_ended o
change_ended (Act.SetEvent h) o = set_ended true o
change_ended (Act.ResetEvent h) o = set_ended false o
change_ended (Act.ReleaseSemaphore h n) o = released_ended n o
change_ended (Act.ReleaseMutex h) o = unlocked_ended o
change_ended _ o = refl

set_keeps : (p : Object → Bool) (os : List Object) (h x : ℕ) (v : Object) → p v ≡ p (object_at os h) → p (object_at (slice_set os h v) x) ≡ p (object_at os x)
set_keeps p [] h x v same = refl
set_keeps p (o ∷ os) zero zero v same = same
set_keeps p (o ∷ os) zero (suc x) v same = refl
set_keeps p (o ∷ os) (suc h) zero v same = refl
set_keeps p (o ∷ os) (suc h) (suc x) v same = set_keeps p os h x v same

-- ---- what refuses a call is not changed by another's object

causes_other : (s : State) (u : ℕ) (denied : Bool) (b : Act) (h : ℕ) (f : Object → Object) → changes_one b ≡ true → changed_one b ≢ h → act_causes s.handles (with_object s.objects h f) u denied b ≡ act_causes s.handles s.objects u denied b
causes_other s u denied (Act.SetEvent k) h f kind differ = ap (λ o. (not (is_event o), InvalidHandle) ∷ (denied, AccessDenied) ∷ []) (get_or-set_other s.objects h k (f (object_at s.objects h)) (Thread false) differ)
causes_other s u denied (Act.ResetEvent k) h f kind differ = ap (λ o. (not (is_event o), InvalidHandle) ∷ (denied, AccessDenied) ∷ []) (get_or-set_other s.objects h k (f (object_at s.objects h)) (Thread false) differ)
causes_other s u denied (Act.ReleaseSemaphore k n) h f kind differ = ap (λ o. (not (is_semaphore o), InvalidHandle) ∷ (denied, AccessDenied) ∷ (int_le n (pos 0), InvalidParameter) ∷ (overflows n o, TooManyPosts) ∷ []) (get_or-set_other s.objects h k (f (object_at s.objects h)) (Thread false) differ)
causes_other s u denied (Act.ReleaseMutex k) h f kind differ = ap (λ o. (not (is_mutex o), InvalidHandle) ∷ (is_mutex o && not (owned_by o u), NotOwner) ∷ []) (get_or-set_other s.objects h k (f (object_at s.objects h)) (Thread false) differ)
causes_other s u denied _ h f kind differ = (cc)

refusal_other : (s : State) (u : ℕ) (denied : Bool) (a b : Act) → changes_one b ≡ true → changed_one b ≢ changed_one a → refusal (at s (changed_one a) (change_of_one a)) u denied (Call.Act b) ≡ refusal s u denied (Call.Act b)
refusal_other s u denied a b kind differ =
    let h = changed_one a in
    let f = change_of_one a in
    ap (λ e. first_of_causes ((nat_le s.threads u, UnknownThread) ∷ (e, ThreadEnded) ∷ (pends s u, ThreadWaiting) ∷ act_causes s.handles (with_object s.objects h f) u denied b)) (set_keeps has_ended s.objects h u (f (object_at s.objects h)) (change_ended a (object_at s.objects h)))
    ∙ ap (λ cs. first_of_causes ((nat_le s.threads u, UnknownThread) ∷ (has_ended (object_at s.objects u), ThreadEnded) ∷ (pends s u, ThreadWaiting) ∷ cs)) (causes_other s u denied b h f kind differ)

-- ---- no object ends

kept_or_gone : (b : Bool) → (b && not b) ≡ false
kept_or_gone true = refl
kept_or_gone false = refl

-- such a change leaves which objects live and which are kept
forgotten_other : (s : State) (a : Act) (o : ℕ) → is_forgotten (at s (changed_one a) (change_of_one a)) o ≡ is_forgotten s o
forgotten_other s a o =
    let h = changed_one a in
    let f = change_of_one a in
    let v : Object = f (object_at s.objects h) in
    let new : List Object = slice_set s.objects h v in
    let count : length new ≡ length s.objects = length-set s.objects h v in
    let gone : is_gone (object_at new o) ≡ is_gone (object_at s.objects o) = set_keeps is_gone s.objects h o v (change_gone a (object_at s.objects h)) in
    let ended : has_ended (object_at new o) ≡ has_ended (object_at s.objects o) = set_keeps has_ended s.objects h o v (change_ended a (object_at s.objects h)) in
    ap (λ n. (nat_lt o n && not (is_gone (object_at new o))) && not (is_opened s o || (is_awaited s o || (nat_lt o s.threads && not (has_ended (object_at new o)))))) count
    ∙ (ap (λ g. (nat_lt o (length s.objects) && not g) && not (is_opened s o || (is_awaited s o || (nat_lt o s.threads && not (has_ended (object_at new o)))))) gone
    ∙ ap (λ e. (nat_lt o (length s.objects) && not (is_gone (object_at s.objects o))) && not (is_opened s o || (is_awaited s o || (nat_lt o s.threads && not e)))) ended)

pub none_forgotten : (s : State) → LivesWhileKept s → (o : ℕ) → is_forgotten s o ≡ false
none_forgotten s living o = ap (λ b. b && not (is_kept s o)) (living o) ∙ kept_or_gone (is_kept s o)

ends_go : (left new : State) (os : List ℕ) → ((o : ℕ) → is_forgotten left o ≡ false) → AreRising (λ o. is_forgotten left o ≡ true) os → new ≡ all_gone left os → new ≡ left
ends_go left new [] none rising leaves = leaves
ends_go left new (o ∷ os) none rising leaves = let h : true ≡ false = sym ((rising.exactly o).0 (contains_first o os o refl)) ∙ none o in (cc)

ends_none : (left new : State) → ((o : ℕ) → is_forgotten left o ≡ false) → Ends left new → new ≡ left
ends_none left new none ends = ends_go left new ends.objects none ends.forgotten ends.leaves

unlike : (b : Bool) {P : Type 0} → b ≡ false → b ≡ true → P
unlike b n y = let h : true ≡ false = sym y ∙ n in (cc)

nothing_ends : (s : State) → ((o : ℕ) → is_forgotten s o ≡ false) → Ends s s
nothing_ends s none = record {
  objects = [];
  forgotten = record { rising = tt; exactly = λ o. (λ m. absurd (contains_none o m), λ y. unlike (is_forgotten s o) (none o) y) };
  leaves = refl;
}

-- ---- both calls, in either order

pub two_calls : (s mid new : State) (t u : ℕ) (a b : Act) (ra rb : Reply) (ga gb : List Grant) → AreCallsOnTwoObjects s mid new t u a b ra rb ga gb → CallsGoOtherwise s new t u a b ra rb ga gb
two_calls s mid new t u a b ra rb ga gb two =
    let a' : Act = act_named s.handles a in
    let b' : Act = act_named s.handles b in
    let h = changed_one a' in
    let k = changed_one b' in
    let f = change_of_one a' in
    let g = change_of_one b' in
    let none = none_forgotten s two.living in
    let none_a : (o : ℕ) → is_forgotten (at s h f) o ≡ false = λ o. forgotten_other s a' o ∙ none o in
    let none_b : (o : ℕ) → is_forgotten (at s k g) o ≡ false = λ o. forgotten_other s b' o ∙ none o in
    let calm = two.quiet.calm in
    let served_a : IsServed (at s h f) = served_other s h f two.first_free two.quiet.served in
    let served_b : IsServed (at s k g) = served_other s k g two.second_free two.quiet.served in
    let left1 : State = two.first.0 in
    let one = step_is s left1 t a' ra ga two.first_kind served_a calm two.first.1.1 in
    let none1 : (o : ℕ) → is_forgotten left1 o ≡ false = subst (λ (x : State). (o : ℕ) → is_forgotten x o ≡ false) (sym one.state) none_a in
    let mid_is : mid ≡ at s h f = ends_none left1 mid none1 two.first.2 ∙ one.state in
    let second : Called (at s h f) u (Call.Act b) (Ok rb) gb new = subst (λ (x : State). Called x u (Call.Act b) (Ok rb) gb new) mid_is two.second in
    let left2 : State = second.0 in
    let first_step : Step s t (Call.Act a') ra ga (at s h f) = subst (λ (x : State). Step s t (Call.Act a') ra ga x) one.state two.first.1.1 in
    let pair : AreStepsOnTwoObjects s (at s h f) left2 t u a' b' ra rb ga gb = record {
      quiet = two.quiet;
      first_kind = two.first_kind;
      second_kind = two.second_kind;
      differ = two.differ;
      first_free = two.first_free;
      second_free = two.second_free;
      first = first_step;
      second = second.1.1;
    } in
    let other : StepsGoOtherwise s left2 t u a' b' ra rb ga gb = two_changes s (at s h f) left2 t u a' b' ra rb ga gb pair in
    let two_is = step_is s other.mid u b' rb gb two.second_kind served_b calm other.first in
    let step_b : Step s u (Call.Act b') rb gb (at s k g) = subst (λ (x : State). Step s u (Call.Act b') rb gb x) two_is.state other.first in
    let step_a : Step (at s k g) t (Call.Act a') ra ga left2 = subst (λ (x : State). Step x t (Call.Act a') ra ga left2) two_is.state other.second in
    let fine_b : refusal s u (act_denied s.handles b) (Call.Act b') ≡ None = sym (refusal_other s u (act_denied s.handles b) a' b' two.second_kind (λ e. two.differ (sym e))) ∙ second.1.0 in
    let fine_a : refusal (at s k g) t (act_denied s.handles a) (Call.Act a') ≡ None = refusal_other s t (act_denied s.handles a) b' a' two.first_kind two.differ ∙ two.first.1.0 in
    record {
      mid = at s k g;
      first = (at s k g, (fine_b, step_b), nothing_ends (at s k g) none_b);
      second = (left2, (fine_a, step_a), second.2);
    }

-- ---- a wait that begins, and the change of an object that it does not name

pub beside : (s : State) (t h : ℕ) (w : Wait) (ms : ℕ) (f : Object → Object) → wait_names w h ≡ false → ◌≡◌ {A = Reply × State} (begun (at s h f) t w ms) ((begun s t w ms).0, at (begun s t w ms).1 h f)
beside s t h w ms f free =
    ap {B = Reply × State} (λ (a : Bool). begins a (w.alertable && has_apc s.apcs t) (ms == 0) (at s h f) t w) (fits_other s.objects h (f (object_at s.objects h)) t w free)
    ∙ go (fits s.objects t w) (w.alertable && has_apc s.apcs t) (ms == 0) (λ e. e)
  where
    go : (a b c : Bool) → (a ≡ true → fits s.objects t w ≡ true) → ◌≡◌ {A = Reply × State} (begins a b c (at s h f) t w) ((begins a b c s t w).0, at (begins a b c s t w).1 h f)
    go true b c fit =
        let same = same_taking s.objects h f t w free (fit refl) in
        ap {B = Reply × State} (λ (n : ℕ). (Reply.Status n, taken_by (at s h f) t w)) same.status
        ∙ ap {B = Reply × State} (λ (os : List Object). (Reply.Status (status s.objects t w), record (taken_by s t w) { objects = os })) same.objects
    go false true c fit = refl
    go false false true fit = refl
    go false false false fit = refl

pub beside_both : (s : State) (t h : ℕ) (w : Wait) (ms : ℕ) (f : Object → Object) → wait_names w h ≡ false → ((begun (at s h f) t w ms).0 ≡ (begun s t w ms).0) × ((begun (at s h f) t w ms).1 ≡ at (begun s t w ms).1 h f)
beside_both s t h w ms f free = let e = beside s t h w ms f free in (ap (λ (x : Reply × State). x.0) e, ap (λ (x : Reply × State). x.1) e)

-- ---- the step of a call that only waits

wait_unchanged : (s : State) (u : ℕ) (wait : WaitCall) → only_waits wait ≡ true → change s u (Call.Wait wait) ≡ s
wait_unchanged s u (WaitCall.Objects all mode handles) only = refl
wait_unchanged s u (WaitCall.Sleep mode) only = refl
wait_unchanged s u (WaitCall.Swap signal object mode) only = (cc)

pub record IsWaitStep (s new : State) (u : ℕ) (wait : WaitCall) (r : Reply) (gs : List Grant) : Type 0 where
  pub grants : gs ≡ []
  pub answers : ◌≡◌ {A = Reply × State} (r, new) (begun s u (asked_wait s.now wait) (timeout_of wait))

pub wait_step : (s new : State) (u : ℕ) (wait : WaitCall) (r : Reply) (gs : List Grant) → only_waits wait ≡ true → IsQuiet s → Step s u (Call.Wait wait) r gs new → IsWaitStep s new u wait r gs
wait_step s new u wait r gs only quiet step =
    let same = wait_unchanged s u wait only in
    let serves : Serve (sequence s step.numbers) s step.served step.calm = subst (λ (x : State). Serve (sequence s step.numbers) x step.served step.calm) same step.serves in
    let one = serve_none (sequence s step.numbers) s step.calm step.served quiet.served serves in
    let alerts : Alert s step.alerted step.woken = subst (λ (x : State). Alert x step.alerted step.woken) one.1 step.alerts in
    let two = alert_none s step.woken step.alerted quiet.calm alerts in
    record {
      grants = step.in_order ∙ (ap (λ (x : List Grant). x ++ step.alerted) one.0 ∙ two.0);
      answers = step.answers ∙ ap {B = Reply × State} (λ (x : State). begun x u (asked_wait x.now wait) (timeout_of wait)) two.1;
    }

pub none_changed : (os : List Object) → AreRising (IsChanged os os) []
none_changed os = record { rising = tt; exactly = λ x. (λ m. absurd (contains_none x m), λ changed. absurd (changed.1 refl)) }

pub make_wait : (s : State) (u : ℕ) (wait : WaitCall) → only_waits wait ≡ true → IsQuiet s →
    Step s u (Call.Wait wait) (begun s u (asked_wait s.now wait) (timeout_of wait)).0 [] (begun s u (asked_wait s.now wait) (timeout_of wait)).1
make_wait s u wait only quiet =
    let same = sym (wait_unchanged s u wait only) in
    record {
      numbers = [];
      served = [];
      calm = s;
      alerted = [];
      woken = s;
      changed = subst (λ (x : State). AreRising (IsChanged s.objects x.objects) []) same (none_changed s.objects);
      serves = subst (λ (x : State). Serve (sequence s []) x [] s) same (refl, quiet.served);
      alerts = none_to_alert s quiet.calm;
      in_order = refl;
      answers = refl;
    }

-- ---- what a wait leaves that has begun

unready_taken : (os : List Object) (t h u k : ℕ) → is_ready os u k ≡ false → is_ready (take_at os t h) u k ≡ false
unready_taken [] t h u k e = refl
unready_taken (o ∷ os) t zero u zero e = unsignaled_taken o t u e
unready_taken (o ∷ os) t zero u (suc k) e = e
unready_taken (o ∷ os) t (suc h) u zero e = e
unready_taken (o ∷ os) t (suc h) u (suc k) e = unready_taken os t h u k e

pub unready_each : (os : List Object) (t : ℕ) (hs : List ℕ) (u k : ℕ) → is_ready os u k ≡ false → is_ready (take_each os t hs) u k ≡ false
unready_each os t [] u k e = e
unready_each os t (h ∷ hs) u k e = unready_each (take_at os t h) t hs u k (unready_taken os t h u k e)

-- what is taken makes no object ready
unready_after : (os : List Object) (t : ℕ) (w : Wait) (u k : ℕ) → is_ready os u k ≡ false → is_ready (objects_taken os t w) u k ≡ false
unready_after os t w u k e = go w.all
  where
    go : (all : Bool) → is_ready (cond all (take_each os t w.objects) (take_at os t (slice_index w.objects (least os t w)))) u k ≡ false
    go true = unready_each os t w.objects u k e
    go false = unready_taken os t (slice_index w.objects (least os t w)) u k e

same_thread : (u v : ℕ) → eq_by_cmp nat_cmp v u ≡ true → v ≡ u
same_thread u v is = eqb-true v u (sym (unsigned_tied v u) ∙ is)

pend_served : (s : State) (u : ℕ) (w : Wait) → fits s.objects u w ≡ false → IsServed s → IsServed (pending_too s u w)
pend_served s u w unfit served v = ap (satisfied s.objects v) (map.get-insert nat_cmp_total s.waits u w v) ∙ go (eq_by_cmp nat_cmp v u) refl
  where
    go : (b : Bool) → eq_by_cmp nat_cmp v u ≡ b → satisfied s.objects v (cond b (Some w) (map.get s.waits v)) ≡ false
    go true is = ap (λ (x : ℕ). fits s.objects x w) (same_thread u v is) ∙ unfit
    go false is = served v

pend_calm : (s : State) (u : ℕ) (w : Wait) → (w.alertable && has_apc s.apcs u) ≡ false → ((v : ℕ) → IsAlerted s v → ⊥) → (v : ℕ) → IsAlerted (pending_too s u w) v → ⊥
pend_calm s u w quiet calm v alerted = go (eq_by_cmp nat_cmp v u) refl (sym (map.get-insert nat_cmp_total s.waits u w v) ∙ alerted.1)
  where
    go : (b : Bool) → eq_by_cmp nat_cmp v u ≡ b → cond b (Some w) (map.get s.waits v) ≡ Some alerted.0 → ⊥
    go true is e =
        let same : w ≡ alerted.0 = cc in
        let h : false ≡ true = sym quiet ∙ (ap (λ (x : Wait). x.alertable && has_apc s.apcs u) same ∙ (ap (λ (x : ℕ). alerted.0.alertable && has_apc s.apcs x) (sym (same_thread u v is)) ∙ alerted.2)) in
        (cc)
    go false is e = calm v (alerted.0, e, alerted.2)

pend_free : (s : State) (u h : ℕ) (w : Wait) → wait_names w h ≡ false → IsUnawaited s h → IsUnawaited (pending_too s u w) h
pend_free s u h w unnamed free v x e = go (eq_by_cmp nat_cmp v u) (sym (map.get-insert nat_cmp_total s.waits u w v) ∙ e)
  where
    go : (b : Bool) → cond b (Some w) (map.get s.waits v) ≡ Some x → wait_names x h ≡ false
    go true e = let same : w ≡ x = cc in ap (λ (y : Wait). wait_names y h) (sym same) ∙ unnamed
    go false e = free v x e

-- it is quiet after the wait has begun too
pub quiet_begun : (s : State) (u : ℕ) (w : Wait) (ms : ℕ) → IsQuiet s → IsQuiet (begun s u w ms).1
quiet_begun s u w ms quiet = go (fits s.objects u w) refl (w.alertable && has_apc s.apcs u) refl (ms == 0)
  where
    go : (a : Bool) → fits s.objects u w ≡ a → (b : Bool) → (w.alertable && has_apc s.apcs u) ≡ b → (c : Bool) → IsQuiet (begins a b c s u w).1
    go true ia b ib c = record { served = served_fewer s (objects_taken s.objects u w) quiet.served (λ v k e. unready_after s.objects u w v k e); calm = quiet.calm }
    go false ia true ib c = record { served = quiet.served; calm = quiet.calm }
    go false ia false ib true = record { served = quiet.served; calm = quiet.calm }
    go false ia false ib false = record { served = pend_served s u w ia quiet.served; calm = pend_calm s u w ib quiet.calm }

-- it is quiet, no pending wait names the object, and that is as it was
record IsLeft (s new : State) (h : ℕ) : Type 0 where
  quiet : IsQuiet new
  free : IsUnawaited new h
  kept : object_at new.objects h ≡ object_at s.objects h
  long : length new.objects ≡ length s.objects

left_by : (s : State) (u h : ℕ) (w : Wait) (ms : ℕ) → IsQuiet s → IsUnawaited s h → wait_names w h ≡ false → IsLeft s (begun s u w ms).1 h
left_by s u h w ms quiet free unnamed = go (fits s.objects u w) refl (w.alertable && has_apc s.apcs u) refl (ms == 0) (quiet_begun s u w ms quiet)
  where
    go : (a : Bool) → fits s.objects u w ≡ a → (b : Bool) → (w.alertable && has_apc s.apcs u) ≡ b → (c : Bool) → IsQuiet (begins a b c s u w).1 → IsLeft s (begins a b c s u w).1 h
    go true ia b ib c after = record { quiet = after; free = free; kept = taken_leaves s.objects u h w unnamed ia; long = length_taken s.objects u w }
    go false ia true ib c after = record { quiet = after; free = free; kept = refl; long = refl }
    go false ia false ib true after = record { quiet = after; free = free; kept = refl; long = refl }
    go false ia false ib false after = record { quiet = after; free = pend_free s u h w unnamed free; kept = refl; long = refl }

-- ---- both, in either order

pub change_and_wait : (s mid new : State) (t u : ℕ) (a : Act) (wait : WaitCall) (ra rb : Reply) (ga gb : List Grant) → AreChangeAndWait s mid new t u a wait ra rb ga gb → WaitGoesFirst s new t u a wait ra rb ga gb
change_and_wait s mid new t u a wait ra rb ga gb two =
    let h = changed_one a in
    let f = change_of_one a in
    let w : Wait = asked_wait s.now wait in
    let ms = timeout_of wait in
    let calm = two.quiet.calm in
    let served_a : IsServed (at s h f) = served_other s h f two.free two.quiet.served in
    let one = step_is s mid t a ra ga two.kind served_a calm two.first in
    let second : Step (at s h f) u (Call.Wait wait) rb gb new = subst (λ (x : State). Step x u (Call.Wait wait) rb gb new) one.state two.second in
    let next = wait_step (at s h f) new u wait rb gb two.waits (record { served = served_a; calm = calm }) second in
    let both : ◌≡◌ {A = Reply × State} (rb, new) ((begun s u w ms).0, at (begun s u w ms).1 h f) = next.answers ∙ beside s u h w ms f two.unnamed in
    -- the wait first
    let begins_first : State = (begun s u w ms).1 in
    let left = left_by s u h w ms two.quiet two.free two.unnamed in
    let made_b = make_wait s u wait two.waits two.quiet in
    let reply_b : (begun s u w ms).0 ≡ rb = sym (ap (λ (x : Reply × State). x.0) both) in
    -- and then the change
    let served_w : IsServed (at begins_first h f) = served_other begins_first h f left.free left.quiet.served in
    let numbers_s : AreRising (IsChanged s.objects (with_object s.objects h f)) two.first.numbers = subst (λ (x : State). AreRising (IsChanged s.objects x.objects) two.first.numbers) (change_is s t a two.kind) two.first.changed in
    let numbers_w : AreRising (IsChanged begins_first.objects (with_object begins_first.objects h f)) two.first.numbers = rising_along (IsChanged s.objects (with_object s.objects h f)) (IsChanged begins_first.objects (with_object begins_first.objects h f)) two.first.numbers (changed_along s.objects begins_first.objects h f left.long (sym left.kept)) (changed_along begins_first.objects s.objects h f (sym left.long) left.kept) numbers_s in
    let made_a = make_step begins_first t a two.first.numbers two.kind served_w left.quiet.calm numbers_w in
    let reply_a : act_reply begins_first t a ≡ ra = reply_at begins_first s t a two.kind left.kept ∙ sym one.reply in
    let last : at begins_first h f ≡ new = sym (ap (λ (x : Reply × State). x.1) both) in
    record {
      mid = begins_first;
      first = subst (λ (r : Reply). Step s u (Call.Wait wait) r gb begins_first) reply_b (subst (λ (gs : List Grant). Step s u (Call.Wait wait) (begun s u w ms).0 gs begins_first) (sym next.grants) made_b);
      second = subst (λ (x : State). Step begins_first t (Call.Act a) ra ga x) last (subst (λ (r : Reply). Step begins_first t (Call.Act a) r ga (at begins_first h f)) reply_a (subst (λ (gs : List Grant). Step begins_first t (Call.Act a) (act_reply begins_first t a) gs (at begins_first h f)) (sym one.grants) made_a));
    }
