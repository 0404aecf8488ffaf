-- Two acts that change one object each, in either order.
use Rattle.std.proofs.Common.{◌≡◌, ◌≢◌, ◌<◌, ℕ, Bool, true, false, not, ◌&&◌, ◌||◌, List, [], ◌∷◌, ◌++◌, length, refl, sym, ap, ◌∙◌, subst, Option, Some, None}
use Rattle.std.specs.Prelude.{map, slice_set, ◌==◌, if◌then◌else◌}
use Rattle.std.specs.List.{list_any, list_all, find}
use Rattle.std.specs.FinMap.{get}
use Rattle.std.proofs.lemmas.Bool.{eqb-true, eq-eqb}
use Rattle.std.proofs.lemmas.List.{length-set, get_or-set_same, get_or-set_other, set_comm}
use Rattle.nt_objects.specs.declared.object.Object.{Object}
use Rattle.nt_objects.specs.declared.object.Object.TheVariants.{Thread}
use Rattle.nt_objects.specs.Object.{signaled, count_of, with_set, released, unlocked}
use Rattle.nt_waits.specs.declared.wait.Wait.{Wait}
use Rattle.nt_calls.specs.declared.call.Call.{Call}
use Rattle.nt_calls.specs.declared.call.Act.{Act}
use Rattle.nt_calls.specs.declared.call.Reply.{Reply}
use Rattle.nt_calls.specs.declared.call.Grant.{Grant}
use Rattle.nt_status.proofs.Lists.{contains_first, contains_none}
use Rattle.nt_status.specs.Status.{io_completion_code}
use Rattle.nt_calls.specs.Rising.{AreRising}
use Rattle.nt_calls.specs.State.{State, object_at, with_object, wait_names, waits_over}
use Rattle.nt_calls.specs.Serving.{is_ready, is_sleep, fits, satisfied, is_due, IsServed, Serve, Alert, IsAlerted, IsChanged, sequence, ending}
use Rattle.nt_calls.specs.Change.{at, change, act_reply}
use Rattle.nt_calls.specs.Steps.{Step, after_serving}
use Rattle.nt_apart.specs.Apart.{changes_one, changed_one, IsUnawaited, AreStepsOnTwoObjects, StepsGoOtherwise}

-- ---- what becomes of the object that such an act changes

abbrev pub change_of_one : Act → Object → Object
change_of_one (Act.SetEvent h) o = with_set true o
change_of_one (Act.ResetEvent h) o = with_set false o
change_of_one (Act.ReleaseSemaphore h n) o = released n o
change_of_one (Act.ReleaseMutex h) o = unlocked o
change_of_one _ o = o

-- ---- waits that do not name the object that was changed

pub neither : (a b : Bool) → (a || b) ≡ false → (a ≡ false) × (b ≡ false)
neither false b e = (refl, e)
neither true b e = (cc)

pub unequal : (h k : ℕ) → (h == k) ≡ false → h ≢ k
unequal h k free same = let yes : (h == k) ≡ true = eq-eqb h k same in let both : true ≡ false = sym yes ∙ free in (cc)

ready_other : (os : List Object) (k : ℕ) (v : Object) (t h : ℕ) → (h == k) ≡ false → is_ready (slice_set os k v) t h ≡ is_ready os t h
ready_other os k v t h free = ap (λ o. signaled o t) (get_or-set_other os k h v (Thread false) (unequal h k free))

any_other : (os : List Object) (k : ℕ) (v : Object) (t : ℕ) (hs : List ℕ) → list_any (λ n. n == k) hs ≡ false → list_any (is_ready (slice_set os k v) t) hs ≡ list_any (is_ready os t) hs
any_other os k v t [] free = refl
any_other os k v t (h ∷ hs) free =
    let parts = neither (h == k) (list_any (λ n. n == k) hs) free in
    ap (λ b. b || list_any (is_ready (slice_set os k v) t) hs) (ready_other os k v t h parts.0) ∙ ap (λ b. is_ready os t h || b) (any_other os k v t hs parts.1)

all_other : (os : List Object) (k : ℕ) (v : Object) (t : ℕ) (hs : List ℕ) → list_any (λ n. n == k) hs ≡ false → list_all (is_ready (slice_set os k v) t) hs ≡ list_all (is_ready os t) hs
all_other os k v t [] free = refl
all_other os k v t (h ∷ hs) free =
    let parts = neither (h == k) (list_any (λ n. n == k) hs) free in
    ap (λ b. b && list_all (is_ready (slice_set os k v) t) hs) (ready_other os k v t h parts.0) ∙ ap (λ b. is_ready os t h && b) (all_other os k v t hs parts.1)

pub fits_other : (os : List Object) (k : ℕ) (v : Object) (t : ℕ) (w : Wait) → wait_names w k ≡ false → fits (slice_set os k v) t w ≡ fits os t w
fits_other os k v t w free =
    ap (λ b. if w.all then not (is_sleep w) && b else list_any (is_ready (slice_set os k v) t) w.objects) (all_other os k v t w.objects free)
    ∙ ap (λ b. if w.all then not (is_sleep w) && list_all (is_ready os t) w.objects else b) (any_other os k v t w.objects free)

pub due_other : (s : State) (k : ℕ) (f : Object → Object) → IsUnawaited s k → (t : ℕ) → is_due (at s k f) t ≡ is_due s t
due_other s k f unnamed t = go (get s.waits t) refl
  where
    go : (o : Option Wait) → get s.waits t ≡ o → satisfied (with_object s.objects k f) t o ≡ satisfied s.objects t o
    go None is = refl
    go (Some w) is = fits_other s.objects k (f (object_at s.objects k)) t w (unnamed t w is)

pub served_other : (s : State) (k : ℕ) (f : Object → Object) → IsUnawaited s k → IsServed s → IsServed (at s k f)
served_other s k f unnamed served t = due_other s k f unnamed t ∙ served t

-- ---- where free wait fits, and none is to be alerted, nothing is served and nothing alerted

find_passes : {X : Type 0} (p : X → Bool) (xs : List X) (x : X) → find p xs ≡ Some x → p x ≡ true
find_passes p [] x e = (cc)
find_passes p (y ∷ xs) x e = go (find_passes p xs x) (p y) refl
  where
    go : (find p xs ≡ Some x → p x ≡ true) → (b : Bool) → p y ≡ b → p x ≡ true
    go rest true is = let h : Some y ≡ Some x = rw is at e in let same : y ≡ x = (cc) in ap p (sym same) ∙ is
    go rest false is = let h : find p xs ≡ Some x = rw is at e in rest h

pub serve_none : (threads : List ℕ) (old new : State) (gs : List Grant) → IsServed old → Serve threads old gs new → (gs ≡ []) × (new ≡ old)
serve_none threads old new [] served serves = (refl, serves.0)
serve_none threads old new (g ∷ gs) served serves = let h : true ≡ false = sym (find_passes (is_due old) threads g.thread serves.0.0) ∙ served g.thread in (cc)

pub none_alerted : (s : State) (ts : List ℕ) → ((t : ℕ) → IsAlerted s t → ⊥) → AreRising (IsAlerted s) ts → ts ≡ []
none_alerted s [] calm rising = refl
none_alerted s (t ∷ ts) calm rising = absurd (calm t ((rising.exactly t).0 (contains_first t ts t refl)))

alerts_go : (old new : State) (gs : List Grant) (ts : List ℕ) → ts ≡ [] → gs ≡ map (ending io_completion_code) ts → new ≡ waits_over old ts true → (gs ≡ []) × (new ≡ old)
alerts_go old new gs [] none ends leaves = (ends, leaves)
alerts_go old new gs (t ∷ ts) none ends leaves = (cc)

pub alert_none : (old new : State) (gs : List Grant) → ((t : ℕ) → IsAlerted old t → ⊥) → Alert old gs new → (gs ≡ []) × (new ≡ old)
alert_none old new gs calm alert = alerts_go old new gs alert.threads (none_alerted old alert.threads calm alert.alerted) alert.ends alert.leaves

pub none_to_alert : (s : State) → ((t : ℕ) → IsAlerted s t → ⊥) → Alert s [] s
none_to_alert s calm = record {
  threads = [];
  alerted = record { rising = tt; exactly = λ t. (λ m. absurd (contains_none t m), λ a. absurd (calm t a)) };
  ends = refl;
  leaves = refl;
}

-- ---- what such an act changes

pub change_is : (s : State) (t : ℕ) (a : Act) → changes_one a ≡ true → change s t (Call.Act a) ≡ at s (changed_one a) (change_of_one a)
change_is s t (Act.SetEvent h) kind = refl
change_is s t (Act.ResetEvent h) kind = refl
change_is s t (Act.ReleaseSemaphore h n) kind = refl
change_is s t (Act.ReleaseMutex h) kind = refl
change_is s t _ kind = (cc)

pub settled_is : (s : State) (a : Act) → changes_one a ≡ true → after_serving (Call.Act a) s ≡ s
settled_is s (Act.SetEvent h) kind = refl
settled_is s (Act.ResetEvent h) kind = refl
settled_is s (Act.ReleaseSemaphore h n) kind = refl
settled_is s (Act.ReleaseMutex h) kind = refl
settled_is s _ kind = (cc)

pub reply_is : (s : State) (t : ℕ) (a : Act) (k : ℕ) (g : Object → Object) → changes_one a ≡ true → changed_one a ≢ k → act_reply (at s k g) t a ≡ act_reply s t a
reply_is s t (Act.SetEvent h) k g kind differ = refl
reply_is s t (Act.ResetEvent h) k g kind differ = refl
reply_is s t (Act.ReleaseSemaphore h n) k g kind differ = ap (λ o. Reply.Previous (count_of o)) (get_or-set_other s.objects k h (g (object_at s.objects k)) (Thread false) differ)
reply_is s t (Act.ReleaseMutex h) k g kind differ = refl
reply_is s t _ k g kind differ = (cc)

-- what comes of its step where no wait fits after it
pub record IsQuietStep (s new : State) (t : ℕ) (a : Act) (r : Reply) (gs : List Grant) : Type 0 where
  pub grants : gs ≡ []
  pub state : new ≡ at s (changed_one a) (change_of_one a)
  pub reply : r ≡ act_reply s t a

pub step_is : (s new : State) (t : ℕ) (a : Act) (r : Reply) (gs : List Grant) → changes_one a ≡ true → IsServed (at s (changed_one a) (change_of_one a)) → ((u : ℕ) → IsAlerted s u → ⊥) → Step s t (Call.Act a) r gs new → IsQuietStep s new t a r gs
step_is s new t a r gs kind served calm step =
    let first : State = at s (changed_one a) (change_of_one a) in
    let serves : Serve (sequence s step.numbers) first step.served step.calm = subst (λ (x : State). Serve (sequence s step.numbers) x step.served step.calm) (change_is s t a kind) step.serves in
    let one = serve_none (sequence s step.numbers) first step.calm step.served served serves in
    let alerts : Alert first step.alerted step.woken = subst (λ (x : State). Alert x step.alerted step.woken) (settled_is step.calm a kind ∙ one.1) step.alerts in
    let two = alert_none first step.woken step.alerted calm alerts in
    let reply : r ≡ act_reply s t a = ap (λ (x : Reply × State). x.0) step.answers in
    let state : new ≡ step.woken = ap (λ (x : Reply × State). x.1) step.answers in
    record {
      grants = step.in_order ∙ (ap (λ (x : List Grant). x ++ step.alerted) one.0 ∙ two.0);
      state = state ∙ two.1;
      reply = reply;
    }

pub make_step : (s : State) (t : ℕ) (a : Act) (numbers : List ℕ) → changes_one a ≡ true → IsServed (at s (changed_one a) (change_of_one a)) → ((u : ℕ) → IsAlerted s u → ⊥) → AreRising (IsChanged s.objects (with_object s.objects (changed_one a) (change_of_one a))) numbers → Step s t (Call.Act a) (act_reply s t a) [] (at s (changed_one a) (change_of_one a))
make_step s t a numbers kind served calm changed =
    let first : State = at s (changed_one a) (change_of_one a) in
    record {
      numbers = numbers;
      served = [];
      calm = first;
      alerted = [];
      woken = first;
      changed = subst (λ (x : State). AreRising (IsChanged s.objects x.objects) numbers) (sym (change_is s t a kind)) changed;
      serves = subst (λ (x : State). Serve (sequence s numbers) x [] first) (sym (change_is s t a kind)) (refl, served);
      alerts = subst (λ (x : State). Alert x [] first) (sym (settled_is first a kind)) (none_to_alert first calm);
      in_order = refl;
      answers = refl;
    }

-- ---- the numbers of the objects that it changes, where another object is another

pub changed_along : (os ps : List Object) (h : ℕ) (f : Object → Object) → length ps ≡ length os → object_at os h ≡ object_at ps h → (x : ℕ) → IsChanged os (with_object os h f) x → IsChanged ps (with_object ps h f) x
changed_along os ps h f long same x changed =
    let below : x < length ps = subst (λ (n : ℕ). x < n) (sym long) changed.0 in
    (below, λ e. changed.1 (go e (x == h) refl))
  where
    go : object_at (with_object ps h f) x ≡ object_at ps x → (b : Bool) → (x == h) ≡ b → object_at (with_object os h f) x ≡ object_at os x
    go e true is =
        let here : x ≡ h = eqb-true x h is in
        let low : h < length os = subst (λ (n : ℕ). n < length os) here changed.0 in
        let low' : h < length ps = subst (λ (n : ℕ). h < n) (sym long) low in
        let a : object_at (with_object os h f) h ≡ f (object_at os h) = get_or-set_same os h (f (object_at os h)) (Thread false) low in
        let b : object_at (with_object ps h f) h ≡ f (object_at ps h) = get_or-set_same ps h (f (object_at ps h)) (Thread false) low' in
        let e' : object_at (with_object ps h f) h ≡ object_at ps h = subst (λ (n : ℕ). object_at (with_object ps h f) n ≡ object_at ps n) here e in
        let at_h : object_at (with_object os h f) h ≡ object_at os h = a ∙ (ap f same ∙ (sym b ∙ (e' ∙ sym same))) in
        subst (λ (n : ℕ). object_at (with_object os h f) n ≡ object_at os n) (sym here) at_h
    go e false is = get_or-set_other os h x (f (object_at os h)) (Thread false) (unequal x h is)

pub rising_along : (p q : ℕ → Type 0) (xs : List ℕ) → ((x : ℕ) → p x → q x) → ((x : ℕ) → q x → p x) → AreRising p xs → AreRising q xs
rising_along p q xs there back rising = record { rising = rising.rising; exactly = λ x. (λ m. there x ((rising.exactly x).0 m), λ here. (rising.exactly x).1 (back x here)) }

-- the same numbers, with another object changed before
pub numbers_before : (os : List Object) (h k : ℕ) (f : Object → Object) (v : Object) (numbers : List ℕ) → h ≢ k → AreRising (IsChanged os (with_object os h f)) numbers → AreRising (IsChanged (slice_set os k v) (with_object (slice_set os k v) h f)) numbers
numbers_before os h k f v numbers differ rising =
    let same : object_at (slice_set os k v) h ≡ object_at os h = get_or-set_other os k h v (Thread false) differ in
    rising_along (IsChanged os (with_object os h f)) (IsChanged (slice_set os k v) (with_object (slice_set os k v) h f)) numbers
    (changed_along os (slice_set os k v) h f (length-set os k v) (sym same))
    (changed_along (slice_set os k v) os h f (sym (length-set os k v)) same)
    rising

-- and without it
pub numbers_without : (os : List Object) (h k : ℕ) (f : Object → Object) (v : Object) (numbers : List ℕ) → h ≢ k → AreRising (IsChanged (slice_set os k v) (with_object (slice_set os k v) h f)) numbers → AreRising (IsChanged os (with_object os h f)) numbers
numbers_without os h k f v numbers differ rising =
    let same : object_at (slice_set os k v) h ≡ object_at os h = get_or-set_other os k h v (Thread false) differ in
    rising_along (IsChanged (slice_set os k v) (with_object (slice_set os k v) h f)) (IsChanged os (with_object os h f)) numbers
    (changed_along (slice_set os k v) os h f (sym (length-set os k v)) same)
    (changed_along os (slice_set os k v) h f (length-set os k v) (sym same))
    rising

-- ---- both changes, in either order

pub objects_commute : (os : List Object) (h k : ℕ) (f g : Object → Object) → h ≢ k → with_object (with_object os k g) h f ≡ with_object (with_object os h f) k g
objects_commute os h k f g differ =
    let a : object_at (with_object os k g) h ≡ object_at os h = get_or-set_other os k h (g (object_at os k)) (Thread false) differ in
    let b : object_at (with_object os h f) k ≡ object_at os k = get_or-set_other os h k (f (object_at os h)) (Thread false) (λ e. differ (sym e)) in
    ap (λ o. slice_set (with_object os k g) h (f o)) a
    ∙ (set_comm os k h (g (object_at os k)) (f (object_at os h)) (λ e. differ (sym e))
    ∙ ap (λ o. slice_set (with_object os h f) k (g o)) (sym b))

pub changes_commute : (s : State) (h k : ℕ) (f g : Object → Object) → h ≢ k → at (at s k g) h f ≡ at (at s h f) k g
changes_commute s h k f g differ = ap (λ (os : List Object). record s { objects = os }) (objects_commute s.objects h k f g differ)

pub two_changes : (s mid new : State) (t u : ℕ) (a b : Act) (ra rb : Reply) (ga gb : List Grant) → AreStepsOnTwoObjects s mid new t u a b ra rb ga gb → StepsGoOtherwise s new t u a b ra rb ga gb
two_changes s mid new t u a b ra rb ga gb two =
    let h = changed_one a in
    let k = changed_one b in
    let f = change_of_one a in
    let g = change_of_one b in
    let calm = two.quiet.calm in
    let served_a : IsServed (at s h f) = served_other s h f two.first_free two.quiet.served in
    let served_b : IsServed (at s k g) = served_other s k g two.second_free two.quiet.served in
    let served_ab : IsServed (at (at s h f) k g) = served_other (at s h f) k g two.second_free served_a in
    let served_ba : IsServed (at (at s k g) h f) = served_other (at s k g) h f two.first_free served_b in
    let one = step_is s mid t a ra ga two.first_kind served_a calm two.first in
    let second : Step (at s h f) u (Call.Act b) rb gb new = subst (λ (x : State). Step x u (Call.Act b) rb gb new) one.state two.second in
    let next = step_is (at s h f) new u b rb gb two.second_kind served_ab calm second in
    let numbers_a : AreRising (IsChanged s.objects (with_object s.objects h f)) two.first.numbers = subst (λ (x : State). AreRising (IsChanged s.objects x.objects) two.first.numbers) (change_is s t a two.first_kind) two.first.changed in
    let numbers_b : AreRising (IsChanged (at s h f).objects (with_object (at s h f).objects k g)) second.numbers = subst (λ (x : State). AreRising (IsChanged (at s h f).objects x.objects) second.numbers) (change_is (at s h f) u b two.second_kind) second.changed in
    let made_b = make_step s u b second.numbers two.second_kind served_b calm (numbers_without s.objects k h g (f (object_at s.objects h)) second.numbers (λ e. two.differ (sym e)) numbers_b) in
    let made_a = make_step (at s k g) t a two.first.numbers two.first_kind served_ba calm (numbers_before s.objects h k f (g (object_at s.objects k)) two.first.numbers two.differ numbers_a) in
    let reply_b : act_reply s u b ≡ rb = sym (reply_is s u b h f two.second_kind (λ e. two.differ (sym e))) ∙ sym next.reply in
    let reply_a : act_reply (at s k g) t a ≡ ra = reply_is s t a k g two.first_kind two.differ ∙ sym one.reply in
    let last : at (at s k g) h f ≡ new = changes_commute s h k f g two.differ ∙ sym next.state in
    record {
      mid = at s k g;
      first = subst (λ (r : Reply). Step s u (Call.Act b) r gb (at s k g)) reply_b (subst (λ (gs : List Grant). Step s u (Call.Act b) (act_reply s u b) gs (at s k g)) (sym next.grants) made_b);
      second = subst (λ (x : State). Step (at s k g) t (Call.Act a) ra ga x) last (subst (λ (r : Reply). Step (at s k g) t (Call.Act a) r ga (at (at s k g) h f)) reply_a (subst (λ (gs : List Grant). Step (at s k g) t (Call.Act a) (act_reply (at s k g) t a) gs (at (at s k g) h f)) (sym one.grants) made_a));
    }
