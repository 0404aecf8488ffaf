-- The end of objects that nothing keeps leaves a settled state settled: nobody has to be served again.
use Rattle.std.proofs.Common.{◌≡◌, ℕ, zero, suc, ◌<◌, Bool, true, false, not, ◌&&◌, ◌||◌, cond, List, [], ◌∷◌, length, get_or, refl, sym, ap, ◌∙◌, subst, arith, Option, Some, None, inl, inr, Contains}
use Rattle.std.specs.Prelude.{nat_lt}
use Rattle.std.specs.List.{list_any, list_all}
use Rattle.std.specs.FinMap.{get}
use Rattle.std.proofs.lemmas.Bool.{false≢true}
use Rattle.std.proofs.lemmas.Bool.Decides.{nat_tests}
use Rattle.nt_objects.specs.declared.object.Object.{Object}
use Rattle.nt_objects.specs.Object.{is_gone, due_of}
use Rattle.nt_apc.specs.declared.apc.Queued.{Queued}
use Rattle.nt_apc.specs.Queues.{has_apc, withdrawn, without_from}
use Rattle.nt_waits.specs.declared.wait.Wait.{Wait}
use Rattle.nt_status.proofs.Lists.{contains_none, contains_or_not}
use Rattle.nt_waits.specs.Waits.{Names, Agrees, queue_of}
use Rattle.nt_calls.specs.State.{State, Pending, object_at}
use Rattle.nt_machine.specs.Dispatcher.{Dispatcher, state}
use Rattle.nt_calls.specs.Serving.{is_ready, is_sleep, fits, satisfied, is_due, IsAlerted}
use Rattle.nt_calls.specs.Steps.{IsAwaited}
use Rattle.nt_calls.specs.Living.{is_opened, is_awaited, runs, is_kept, lives, is_forgotten, gone, all_gone, Ends}
use Rattle.nt_machine.specs.Lawful.{IsSettled}
use Rattle.nt_machine.proofs.Remaining.{same_waits, stays, goes, both, turned}

-- ---- what waits name stays

pub queue_there : (queue : List ℕ) (t : ℕ) → Contains queue t → nat_lt 0 (length queue) ≡ true
queue_there [] t m = absurd (contains_none t m)
queue_there (x ∷ queue) t m = let some : 0 < length (x ∷ queue) = omega arith in grind (arith, nat_tests, some)

middle : (a b c : Bool) → b ≡ true → (a || (b || c)) ≡ true
middle true b c e = refl
middle false true c e = refl
middle false false c e = absurd (false≢true e)

named_stays : (d : Dispatcher) (os : List ℕ) → Agrees d.table.pending d.table.queues → ((x : ℕ) → Contains os x → is_forgotten (state d) x ≡ true) → (t : ℕ) (w : Wait) → get d.table.pending t ≡ Some w → (o : ℕ) → Names w o → object_at (all_gone (state d) os).objects o ≡ object_at d.objects o
named_stays d os blocks forgotten t w pends o named =
    stays (state d) os o (λ m.
    let left = turned (is_kept (state d) o) (both (lives (state d) o) (not (is_kept (state d) o)) (forgotten o m)).1 in
    let kept : is_kept (state d) o ≡ true = middle (is_opened (state d) o) (is_awaited (state d) o) (runs (state d) o) (queue_there (queue_of d.table o) t (blocks.listed t o w pends named)) in
    false≢true (sym left ∙ kept))

-- ---- what fits

any_same : (p q : ℕ → Bool) (hs : List ℕ) → ((j : ℕ) → j < length hs → p (get_or hs j 0) ≡ q (get_or hs j 0)) → list_any p hs ≡ list_any q hs
any_same p q [] same = refl
any_same p q (h ∷ hs) same = ap (λ b. b || list_any p hs) (same 0 (omega arith)) ∙ ap (λ b. q h || b) (any_same p q hs (λ j below. same (suc j) (omega (arith, below))))

all_same : (p q : ℕ → Bool) (hs : List ℕ) → ((j : ℕ) → j < length hs → p (get_or hs j 0) ≡ q (get_or hs j 0)) → list_all p hs ≡ list_all q hs
all_same p q [] same = refl
all_same p q (h ∷ hs) same = ap (λ b. b && list_all p hs) (same 0 (omega arith)) ∙ ap (λ b. q h && b) (all_same p q hs (λ j below. same (suc j) (omega (arith, below))))

fits_same : (old new : List Object) (t : ℕ) (w : Wait) → ((j : ℕ) → j < length w.objects → is_ready new t (get_or w.objects j 0) ≡ is_ready old t (get_or w.objects j 0)) → fits new t w ≡ fits old t w
fits_same old new t w same =
    ap (λ b. cond w.all (not (is_sleep w) && b) (list_any (is_ready new t) w.objects)) (all_same (is_ready new t) (is_ready old t) w.objects same)
    ∙ ap (λ b. cond w.all (not (is_sleep w) && list_all (is_ready old t) w.objects) b) (any_same (is_ready new t) (is_ready old t) w.objects same)

-- ---- APCs grow fewer

some_before : (timer : ℕ) (queue : List Queued) → list_any (λ _. true) (without_from timer queue) ≡ true → list_any (λ _. true) queue ≡ true
some_before timer [] is = is
some_before timer (q ∷ queue) is = refl

fewer_here : (queues : List (List Queued)) (timer t : ℕ) → has_apc (withdrawn queues timer) t ≡ true → has_apc queues t ≡ true
fewer_here [] timer t is = is
fewer_here (queue ∷ queues) timer zero is = some_before timer queue is
fewer_here (queue ∷ queues) timer (suc t) is = fewer_here queues timer t is

fewer_apcs : (s : State) (os : List ℕ) (t : ℕ) → has_apc (all_gone s os).apcs t ≡ true → has_apc s.apcs t ≡ true
fewer_apcs s [] t is = is
fewer_apcs s (o ∷ os) t is = fewer_here s.apcs o t (fewer_apcs (gone s o) os t is)

pub same_now : (s : State) (os : List ℕ) → (all_gone s os).now ≡ s.now
same_now s [] = refl
same_now s (o ∷ os) = same_now (gone s o) os

-- ---- settled

pub ends_settled : (d : Dispatcher) (new : State) → Agrees d.table.pending d.table.queues → IsSettled (state d) → Ends (state d) new → IsSettled new
ends_settled d new blocks settled ends = subst IsSettled (sym ends.leaves) (record { served = served; alerted = alerted; passed = passed })
  where
    left : State
    left = all_gone (state d) ends.objects

    forgotten : (x : ℕ) → Contains ends.objects x → is_forgotten (state d) x ≡ true
    forgotten x m = (ends.forgotten.exactly x).0 m

    waits : left.waits ≡ (state d).waits
    waits = same_waits (state d) ends.objects

    served : (t : ℕ) → is_due left t ≡ false
    served t = ap (λ (ws : Pending). satisfied left.objects t (get ws t)) waits ∙ go (get d.table.pending t) refl
      where
        go : (o : Option Wait) → get d.table.pending t ≡ o → satisfied left.objects t (get d.table.pending t) ≡ false
        go None e = ap (λ x. satisfied left.objects t x) e
        go (Some w) e =
            ap (λ x. satisfied left.objects t x) e
            ∙ (fits_same d.objects left.objects t w (λ j below. ap (λ (o : Object). is_ready (o ∷ []) t 0) (named_stays d ends.objects blocks forgotten t w e (get_or w.objects j 0) (j, below, refl)))
            ∙ (ap (λ x. satisfied d.objects t x) (sym e) ∙ settled.served t))

    alerted : (t : ℕ) → IsAlerted left t → ⊥
    alerted t is =
        let two = both is.0.alertable (has_apc left.apcs t) is.2 in
        settled.alerted t (is.0, ap (λ (ws : Pending). get ws t) (sym waits) ∙ is.1, ap (λ b. b && has_apc (state d).apcs t) two.0 ∙ fewer_apcs (state d) ends.objects t two.1)

    due_before : (h v : ℕ) → due_of (object_at left.objects h) ≡ Some v → due_of (object_at d.objects h) ≡ Some v
    due_before h v due = elim (contains_or_not ends.objects h) [
      | inl member ↦
          let living = (both (lives (state d) h) (not (is_kept (state d) h)) (forgotten h member)).0 in
          let test = (both (nat_lt h (length d.objects)) (not (is_gone (object_at d.objects h))) living).0 in
          let there = goes (state d) ends.objects h member (grind (arith, nat_tests, test)) in
          let no : None ≡ Some v = sym (ap due_of there) ∙ due in (cc)
      | inr never ↦ ap due_of (sym (stays (state d) ends.objects h never)) ∙ due
    ]

    passed : (v : ℕ) → IsAwaited left v → left.now < v
    passed v awaited = subst (λ n. n < v) (sym (same_now (state d) ends.objects)) (settled.passed v (before awaited))
      where
        before : IsAwaited left v → IsAwaited (state d) v
        before (inl timer) = inl (timer.0, due_before timer.0 v timer.1)
        before (inr wait) = inr (wait.0, wait.1, ap (λ (ws : Pending). get ws wait.0) (sym waits) ∙ wait.2, wait.3)
