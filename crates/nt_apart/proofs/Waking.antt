-- An act that may end waits, and one whose object no pending wait names, in either order.
use Rattle.std.proofs.Common.{◌≡◌, ◌≢◌, ℕ, suc, ◌+◌, Bool, true, false, cond, not, ◌&&◌, ◌||◌, List, [], ◌∷◌, ◌++◌, length, refl, sym, ap, ◌∙◌, subst, arith, Some}
use Rattle.std.specs.Prelude.{slice_set, slice_index, ◌==◌, if◌then◌else◌}
use Rattle.std.specs.List.{list_any, list_all, find, position_or_len}
use Rattle.std.proofs.lemmas.List.{length-set, get_or-set_other}
use Rattle.nt_machine.proofs.Walks.{get_removed}
use Rattle.nt_machine.proofs.Accepting.{Grants-calm}
use Rattle.nt_core.proofs.Lengths.{Grants_length}
use Rattle.nt_objects.specs.declared.object.Object.{Object}
use Rattle.nt_objects.specs.declared.object.Object.TheVariants.{Thread}
use Rattle.nt_objects.specs.Object.{signaled, taken, is_abandoned, count_of}
use Rattle.nt_waits.specs.declared.wait.Wait.{Wait}
use Rattle.nt_calls.specs.declared.call.Call.{Call}
use Rattle.nt_calls.specs.declared.call.Act.{Act}
use Rattle.nt_calls.specs.declared.call.Reply.{Reply}
use Rattle.nt_calls.specs.declared.call.Grant.{Grant}
use Rattle.nt_calls.specs.Rising.{AreRising}
use Rattle.nt_calls.specs.State.{State, object_at, with_object, wait_names}
use Rattle.nt_calls.specs.Serving.{is_ready, is_sleep, fits, is_due, IsDue, least, status, status_at, is_abandoned_at, take_at, take_each, objects_taken, wait_granted, Grants, IsServed, Serve, Alert, IsAlerted, IsChanged, sequence}
use Rattle.nt_calls.specs.Change.{at, act_reply}
use Rattle.nt_calls.specs.Steps.{Step}
use Rattle.nt_apart.specs.Apart.{changes_one, changed_one, IsUnawaited, AreStepsOfWhichOneWakes, StepsGoOtherwise}
use Rattle.nt_apart.proofs.Quiet.{change_of_one, neither, unequal, due_other, fits_other, served_other, change_is, settled_is, reply_is, make_step, step_is, objects_commute, changes_commute, numbers_before, alert_none, none_to_alert, changed_along, rising_along}

-- ---- what a wait finds and takes, where an object that it does not name is another

pub any_of : (p : Object → Bool) (os : List Object) (k : ℕ) (v : Object) (hs : List ℕ) → list_any (λ n. n == k) hs ≡ false → list_any (λ h. p (object_at (slice_set os k v) h)) hs ≡ list_any (λ h. p (object_at os h)) hs
any_of p os k v [] free = refl
any_of p os k v (h ∷ hs) free =
    let parts = neither (h == k) (list_any (λ n. n == k) hs) free in
    ap (λ b. b || list_any (λ x. p (object_at (slice_set os k v) x)) hs) (ap p (get_or-set_other os k h v (Thread false) (unequal h k parts.0)))
    ∙ ap (λ b. p (object_at os h) || b) (any_of p os k v hs parts.1)

pub place_of : (os : List Object) (k : ℕ) (v : Object) (t : ℕ) (hs : List ℕ) → list_any (λ n. n == k) hs ≡ false → position_or_len (is_ready (slice_set os k v) t) hs ≡ position_or_len (is_ready os t) hs
place_of os k v t [] free = refl
place_of os k v t (h ∷ hs) free =
    let parts = neither (h == k) (list_any (λ n. n == k) hs) free in
    ap (λ b. cond (not b) (1 + position_or_len (is_ready (slice_set os k v) t) hs) 0) (ap (λ o. signaled o t) (get_or-set_other os k h v (Thread false) (unequal h k parts.0)))
    ∙ ap (λ n. cond (not (is_ready os t h)) (1 + n) 0) (place_of os k v t hs parts.1)

-- the object that satisfies it is another than k
pick_go : (p : ℕ → Bool) (k h : ℕ) (hs : List ℕ) (b : Bool) → p h ≡ b → (h == k) ≡ false → ((list_any p hs ≡ true) → slice_index hs (position_or_len p hs) ≢ k) → list_any p (h ∷ hs) ≡ true → slice_index (h ∷ hs) (cond (not b) (1 + position_or_len p hs) 0) ≢ k
pick_go p k h hs true is other rest some = unequal h k other
pick_go p k h hs false is other rest some =
    let some' : list_any p hs ≡ true = ap (λ b. b || list_any p hs) (sym is) ∙ some in
    let n = position_or_len p hs in
    let e : 1 + n ≡ suc n = omega arith in
    λ same. rest some' (ap (λ i. slice_index (h ∷ hs) i) (sym e) ∙ same)

pub pick_apart : (p : ℕ → Bool) (k : ℕ) (hs : List ℕ) → list_any p hs ≡ true → list_any (λ n. n == k) hs ≡ false → slice_index hs (position_or_len p hs) ≢ k
pick_apart p k [] some free = let h : true ≡ false = sym some in λ e. (cc)
pick_apart p k (h ∷ hs) some free =
    let parts = neither (h == k) (list_any (λ n. n == k) hs) free in
    pick_go p k h hs (p h) refl parts.0 (λ rest. pick_apart p k hs rest parts.1) some

-- ---- where it fits

-- what a wait that fits takes of the objects, and with which status, does not depend on k, and leaves k
pub record IsSameTaking (os : List Object) (k : ℕ) (g : Object → Object) (t : ℕ) (w : Wait) : Type 0 where
  pub status : status (with_object os k g) t w ≡ status os t w
  pub objects : objects_taken (with_object os k g) t w ≡ with_object (objects_taken os t w) k g

pub take_one : (os : List Object) (k : ℕ) (g : Object → Object) (t h : ℕ) → h ≢ k → take_at (with_object os k g) t h ≡ with_object (take_at os t h) k g
take_one os k g t h differ = objects_commute os h k (λ o. taken o t) g differ

pub take_all : (os : List Object) (k : ℕ) (g : Object → Object) (t : ℕ) (hs : List ℕ) → list_any (λ n. n == k) hs ≡ false → take_each (with_object os k g) t hs ≡ with_object (take_each os t hs) k g
take_all os k g t [] free = refl
take_all os k g t (h ∷ hs) free =
    let parts = neither (h == k) (list_any (λ n. n == k) hs) free in
    ap (λ (x : List Object). take_each x t hs) (take_one os k g t h (unequal h k parts.0)) ∙ take_all (take_at os t h) k g t hs parts.1

pub same_taking : (os : List Object) (k : ℕ) (g : Object → Object) (t : ℕ) (w : Wait) → wait_names w k ≡ false → fits os t w ≡ true → IsSameTaking os k g t w
same_taking os k g t w free fit = go w.all refl
  where
    v : Object
    v = g (object_at os k)

    new : List Object
    new = slice_set os k (g (object_at os k))

    place : least (slice_set os k (g (object_at os k))) t w ≡ least os t w
    place = place_of os k (g (object_at os k)) t w.objects free

    both : (all : Bool) → w.all ≡ all →
        ((if all then status_at (list_any (is_abandoned_at (slice_set os k (g (object_at os k)))) w.objects) 0 else status_at (is_abandoned_at (slice_set os k (g (object_at os k))) (slice_index w.objects (least (slice_set os k (g (object_at os k))) t w))) (least (slice_set os k (g (object_at os k))) t w))
        ≡ (if all then status_at (list_any (is_abandoned_at os) w.objects) 0 else status_at (is_abandoned_at os (slice_index w.objects (least os t w))) (least os t w)))
        × ((if all then take_each (slice_set os k (g (object_at os k))) t w.objects else take_at (slice_set os k (g (object_at os k))) t (slice_index w.objects (least (slice_set os k (g (object_at os k))) t w)))
        ≡ with_object (if all then take_each os t w.objects else take_at os t (slice_index w.objects (least os t w))) k g)
    both true is = (ap (λ b. status_at b 0) (any_of is_abandoned os k (g (object_at os k)) w.objects free), take_all os k g t w.objects free)
    both false is =
        let some : list_any (is_ready os t) w.objects ≡ true = ap (λ b. if b then not (is_sleep w) && list_all (is_ready os t) w.objects else list_any (is_ready os t) w.objects) (sym is) ∙ fit in
        let apart = pick_apart (is_ready os t) k w.objects some free in
        let i = least os t w in (
          ap (λ n. status_at (is_abandoned_at (slice_set os k (g (object_at os k))) (slice_index w.objects n)) n) place
              ∙ ap (λ o. status_at (is_abandoned o) (least os t w)) (get_or-set_other os k (slice_index w.objects (least os t w)) (g (object_at os k)) (Thread false) apart),
          ap (λ n. take_at (slice_set os k (g (object_at os k))) t (slice_index w.objects n)) place ∙ take_one os k g t (slice_index w.objects (least os t w)) apart,
        )

    go : (all : Bool) → w.all ≡ all → IsSameTaking os k g t w
    go all is = let x = both w.all refl in record { status = x.0; objects = x.1 }

-- ---- grants

granted_other : (s : State) (k : ℕ) (g : Object → Object) (t : ℕ) (w : Wait) → IsSameTaking s.objects k g t w → wait_granted (at s k g) t w ≡ at (wait_granted s t w) k g
granted_other s k g t w same = ap (λ (os : List Object). record (wait_granted s t w) { objects = os }) same.objects

free_after : (s : State) (k t : ℕ) (w : Wait) → IsUnawaited s k → IsUnawaited (wait_granted s t w) k
free_after s k t w free u x is = free u x (get_removed s.waits t u x is).1

pub find_same : (p q : ℕ → Bool) (xs : List ℕ) → ((x : ℕ) → p x ≡ q x) → find p xs ≡ find q xs
find_same p q [] same = refl
find_same p q (x ∷ xs) same = ap (λ b. if b then Some x else find p xs) (same x) ∙ ap (λ o. if q x then Some x else o) (find_same p q xs same)

grants_other : (threads : List ℕ) (old new : State) (gs : List Grant) (k : ℕ) (f : Object → Object) → IsUnawaited old k → Grants threads old gs new → Grants threads (at old k f) gs (at new k f)
grants_other threads old new [] k f free grants = ap (λ (x : State). at x k f) grants
grants_other threads old new (g ∷ gs) k f free grants =
    let w : Wait = grants.1 in
    let due : IsDue old g w = grants.2 in
    let same = same_taking old.objects k f g.thread w (free g.thread w due.pends) due.fits in
    let rest = grants_other threads (wait_granted old g.thread w) new gs k f (free_after old k g.thread w free) grants.3 in (
      find_same (is_due (at old k f)) (is_due old) threads (due_other old k f free) ∙ grants.0,
      w,
      record { pends = due.pends; fits = fits_other old.objects k (f (object_at old.objects k)) g.thread w (free g.thread w due.pends) ∙ due.fits; status = due.status ∙ sym same.status },
      subst (λ (x : State). Grants threads x gs (at new k f)) (sym (granted_other old k f g.thread w same)) rest,
    )

free_along : (threads : List ℕ) (old new : State) (gs : List Grant) (k : ℕ) → IsUnawaited old k → Grants threads old gs new → IsUnawaited new k
free_along threads old new [] k free grants = subst (λ (x : State). IsUnawaited x k) (sym grants) free
free_along threads old new (g ∷ gs) k free grants = free_along threads (wait_granted old g.thread grants.1) new gs k (free_after old k g.thread grants.1 free) grants.3

-- ---- what grants leave as it is

pub each_leaves : (os : List Object) (t k : ℕ) (hs : List ℕ) → list_any (λ n. n == k) hs ≡ false → object_at (take_each os t hs) k ≡ object_at os k
each_leaves os t k [] free = refl
each_leaves os t k (h ∷ hs) free =
    let parts = neither (h == k) (list_any (λ n. n == k) hs) free in
    each_leaves (take_at os t h) t k hs parts.1 ∙ get_or-set_other os h k (taken (object_at os h) t) (Thread false) (λ e. unequal h k parts.0 (sym e))

pub taken_leaves : (os : List Object) (t k : ℕ) (w : Wait) → wait_names w k ≡ false → fits os t w ≡ true → object_at (objects_taken os t w) k ≡ object_at os k
taken_leaves os t k w free fit = go w.all refl
  where
    go : (all : Bool) → w.all ≡ all → object_at (if all then take_each os t w.objects else take_at os t (slice_index w.objects (least os t w))) k ≡ object_at os k
    go true is = each_leaves os t k w.objects free
    go false is =
        let some : list_any (is_ready os t) w.objects ≡ true = ap (λ b. if b then not (is_sleep w) && list_all (is_ready os t) w.objects else list_any (is_ready os t) w.objects) (sym is) ∙ fit in
        let apart = pick_apart (is_ready os t) k w.objects some free in
        let o = slice_index w.objects (least os t w) in
        get_or-set_other os o k (taken (object_at os o) t) (Thread false) (λ e. apart (sym e))

grants_leave : (threads : List ℕ) (old new : State) (gs : List Grant) (k : ℕ) → IsUnawaited old k → Grants threads old gs new → object_at new.objects k ≡ object_at old.objects k
grants_leave threads old new [] k free grants = ap (λ (x : State). object_at x.objects k) grants
grants_leave threads old new (g ∷ gs) k free grants =
    let w : Wait = grants.1 in
    let due : IsDue old g w = grants.2 in
    grants_leave threads (wait_granted old g.thread w) new gs k (free_after old k g.thread w free) grants.3
    ∙ taken_leaves old.objects g.thread k w (free g.thread w due.pends) due.fits

pub reply_at : (x y : State) (u : ℕ) (b : Act) → changes_one b ≡ true → object_at x.objects (changed_one b) ≡ object_at y.objects (changed_one b) → act_reply x u b ≡ act_reply y u b
reply_at x y u (Act.SetEvent h) kind same = refl
reply_at x y u (Act.ResetEvent h) kind same = refl
reply_at x y u (Act.ReleaseSemaphore h n) kind same = ap (λ o. Reply.Previous (count_of o)) same
reply_at x y u (Act.ReleaseMutex h) kind same = refl
reply_at x y u _ kind same = (cc)

-- ---- a step that may end waits

-- what comes of it: its change, then grants, and nothing else
pub record IsWaking (s mid : State) (t : ℕ) (a : Act) (r : Reply) (gs : List Grant) : Type 0 where
  pub numbers : List ℕ
  pub served : List Grant
  pub changed : AreRising (IsChanged s.objects (with_object s.objects (changed_one a) (change_of_one a))) numbers
  pub grants : Grants (sequence s numbers) (at s (changed_one a) (change_of_one a)) served mid
  pub done : IsServed mid
  pub calm : (u : ℕ) → IsAlerted mid u → ⊥
  pub told : gs ≡ served ++ []
  pub reply : r ≡ act_reply s t a

waking_step : (s mid : State) (t : ℕ) (a : Act) (r : Reply) (gs : List Grant) → changes_one a ≡ true → ((u : ℕ) → IsAlerted s u → ⊥) → Step s t (Call.Act a) r gs mid → IsWaking s mid t a r gs
waking_step s mid t a r gs kind calm step =
    let first : State = at s (changed_one a) (change_of_one a) in
    let threads = sequence s step.numbers in
    let serves : Serve threads first step.served step.calm = subst (λ (x : State). Serve threads x step.served step.calm) (change_is s t a kind) step.serves in
    let still : (u : ℕ) → IsAlerted step.calm u → ⊥ = Grants-calm threads first step.calm step.served serves.0 calm in
    let alerts : Alert step.calm step.alerted step.woken = subst (λ (x : State). Alert x step.alerted step.woken) (settled_is step.calm a kind) step.alerts in
    let none = alert_none step.calm step.woken step.alerted still alerts in
    let state : mid ≡ step.calm = ap (λ (x : Reply × State). x.1) step.answers ∙ none.1 in
    record {
      numbers = step.numbers;
      served = step.served;
      changed = subst (λ (x : State). AreRising (IsChanged s.objects x.objects) step.numbers) (change_is s t a kind) step.changed;
      grants = subst (λ (x : State). Grants threads first step.served x) (sym state) serves.0;
      done = subst IsServed (sym state) serves.1;
      calm = subst (λ (x : State). (u : ℕ) → IsAlerted x u → ⊥) (sym state) still;
      told = step.in_order ∙ ap (λ (x : List Grant). step.served ++ x) none.0;
      reply = ap (λ (x : Reply × State). x.0) step.answers;
    }

make_waking : (s mid : State) (t : ℕ) (a : Act) (r : Reply) (gs : List Grant) → changes_one a ≡ true → IsWaking s mid t a r gs → Step s t (Call.Act a) r gs mid
make_waking s mid t a r gs kind waking =
    let first : State = at s (changed_one a) (change_of_one a) in
    record {
      numbers = waking.numbers;
      served = waking.served;
      calm = mid;
      alerted = [];
      woken = mid;
      changed = subst (λ (x : State). AreRising (IsChanged s.objects x.objects) waking.numbers) (sym (change_is s t a kind)) waking.changed;
      serves = subst (λ (x : State). Serve (sequence s waking.numbers) x waking.served mid) (sym (change_is s t a kind)) (waking.grants, waking.done);
      alerts = subst (λ (x : State). Alert x [] mid) (sym (settled_is mid a kind)) (none_to_alert mid waking.calm);
      in_order = waking.told;
      answers = ap (λ (x : Reply). (x, mid)) waking.reply;
    }

pub waking : (s mid new : State) (t u : ℕ) (a b : Act) (ra rb : Reply) (ga gb : List Grant) → AreStepsOfWhichOneWakes s mid new t u a b ra rb ga gb → StepsGoOtherwise s new t u a b ra rb ga gb
waking s mid new t u a b ra rb ga gb two =
    let h = changed_one a in
    let k = changed_one b in
    let f = change_of_one a in
    let g = change_of_one b in
    let calm = two.quiet.calm in
    let one = waking_step s mid t a ra ga two.first_kind calm two.first in
    let threads = sequence s one.numbers in
    let free : IsUnawaited mid k = free_along threads (at s h f) mid one.served k two.second_free one.grants in
    let next = step_is mid new u b rb gb two.second_kind (served_other mid k g free one.done) one.calm two.second in
    -- the second one first
    let served_b : IsServed (at s k g) = served_other s k g two.second_free two.quiet.served in
    let kept : object_at mid.objects k ≡ object_at s.objects k = grants_leave threads (at s h f) mid one.served k two.second_free one.grants ∙ get_or-set_other s.objects h k (f (object_at s.objects h)) (Thread false) (λ e. two.differ (sym e)) in
    let long : length mid.objects ≡ length s.objects = Grants_length threads (at s h f) mid one.served one.grants ∙ length-set s.objects h (f (object_at s.objects h)) in
    let numbers_mid : AreRising (IsChanged mid.objects (with_object mid.objects k g)) two.second.numbers = subst (λ (x : State). AreRising (IsChanged mid.objects x.objects) two.second.numbers) (change_is mid u b two.second_kind) two.second.changed in
    let numbers_b : AreRising (IsChanged s.objects (with_object s.objects k g)) two.second.numbers = rising_along (IsChanged mid.objects (with_object mid.objects k g)) (IsChanged s.objects (with_object s.objects k g)) two.second.numbers (changed_along mid.objects s.objects k g (sym long) kept) (changed_along s.objects mid.objects k g long (sym kept)) numbers_mid in
    let made_b = make_step s u b two.second.numbers two.second_kind served_b calm numbers_b in
    let reply_b : act_reply s u b ≡ rb = sym (reply_at mid s u b two.second_kind kept) ∙ sym next.reply in
    -- and then the first
    let grants : Grants threads (at (at s k g) h f) one.served (at mid k g) = subst (λ (x : State). Grants threads x one.served (at mid k g)) (sym (changes_commute s h k f g two.differ)) (grants_other threads (at s h f) mid one.served k g two.second_free one.grants) in
    let again : IsWaking (at s k g) (at mid k g) t a ra ga = record {
      numbers = one.numbers;
      served = one.served;
      changed = numbers_before s.objects h k f (g (object_at s.objects k)) one.numbers two.differ one.changed;
      grants = grants;
      done = served_other mid k g free one.done;
      calm = one.calm;
      told = one.told;
      reply = one.reply ∙ sym (reply_is s t a k g two.first_kind two.differ);
    } in
    let made_a = make_waking (at s k g) (at mid k g) t a ra ga two.first_kind again in
    record {
      mid = at s k g;
      first = subst (λ (r : Reply). Step s u (Call.Act b) r gb (at s k g)) reply_b (subst (λ (gs : List Grant). Step s u (Call.Act b) (act_reply s u b) gs (at s k g)) (sym next.grants) made_b);
      second = subst (λ (x : State). Step (at s k g) t (Call.Act a) ra ga x) (sym next.state) made_a;
    }
