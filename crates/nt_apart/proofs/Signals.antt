-- Steps that may both end waits, where no object is within reach of both.
use Rattle.std.proofs.Common.{◌≡◌, inl, ℕ, zero, suc, true, false, List, [], ◌∷◌, ◌++◌, length, refl, sym, ap, ◌∙◌, subst, Some}
use Rattle.std.specs.FinMap.{get}
use Rattle.nt_machine.proofs.Accepting.{Grants-calm}
use Rattle.nt_machine.proofs.Changing.{served_fewer}
use Rattle.nt_objects.specs.declared.object.Object.{Object}
use Rattle.nt_objects.specs.declared.object.Object.TheVariants.{Event, Semaphore, Mutex, Timer, Thread, Gone}
use Rattle.nt_objects.specs.Object.{signaled, count_of, with_set, released, unlocked}
use Rattle.nt_waits.specs.declared.wait.Wait.{Wait}
use Rattle.nt_calls.specs.declared.call.Call.{Call}
use Rattle.nt_calls.specs.declared.call.Act.{Act}
use Rattle.nt_calls.specs.declared.call.Reply.{Reply}
use Rattle.nt_calls.specs.declared.call.Grant.{Grant}
use Rattle.nt_calls.specs.Rising.{AreRising}
use Rattle.nt_calls.specs.State.{State, object_at, with_object}
use Rattle.nt_calls.specs.Serving.{is_ready, Grants, IsServed, Serve, Alert, IsAlerted, IsChanged, sequence}
use Rattle.nt_calls.specs.Change.{at, change, act_reply}
use Rattle.nt_calls.specs.Steps.{Step, after_serving}
use Rattle.nt_apart.specs.Apart.{StepsGoOtherwise, signals_one, signaled_one, ReachNothingInCommon, AreStepsThatWake}
use Rattle.nt_apart.proofs.Quiet.{alert_none, none_to_alert, changed_along, rising_along}
use Rattle.nt_apart.proofs.Pieces.{Piece, Alters, all_made, all_made_append, lists_commute, long_along, pended, alerted_before, queue_along, find_flat}
use Rattle.nt_apart.proofs.Reach.{AreOf, are_append, reached, pieces_of, source_is, IsBeside, beside_back, beside_itself, due_beside, AlikeInBoth, granted_beside, only_one, left_alone, begins_beside}

-- ---- what such an act changes, before waits are served and after

abbrev pub signaling : Act → Object → Object
signaling (Act.SetEvent h) o = with_set true o
signaling (Act.ResetEvent h) o = with_set false o
signaling (Act.PulseEvent h) o = with_set true o
signaling (Act.ReleaseSemaphore h n) o = released n o
signaling (Act.ReleaseMutex h) o = unlocked o
signaling _ o = o

abbrev pub settling : Act → List Piece
settling (Act.PulseEvent h) = Alters h (with_set false) ∷ []
settling _ = []

change_is : (s : State) (t : ℕ) (a : Act) → signals_one a ≡ true → change s t (Call.Act a) ≡ at s (signaled_one a) (signaling a)
change_is s t (Act.SetEvent h) kind = refl
change_is s t (Act.ResetEvent h) kind = refl
change_is s t (Act.PulseEvent h) kind = refl
change_is s t (Act.ReleaseSemaphore h n) kind = refl
change_is s t (Act.ReleaseMutex h) kind = refl
change_is s t _ kind = (cc)

settled_is : (s : State) (a : Act) → signals_one a ≡ true → after_serving (Call.Act a) s ≡ all_made (settling a) s
settled_is s (Act.SetEvent h) kind = refl
settled_is s (Act.ResetEvent h) kind = refl
settled_is s (Act.PulseEvent h) kind = refl
settled_is s (Act.ReleaseSemaphore h n) kind = refl
settled_is s (Act.ReleaseMutex h) kind = refl
settled_is s _ kind = (cc)

reply_at : (x y : State) (u : ℕ) (b : Act) → signals_one b ≡ true → object_at x.objects (signaled_one b) ≡ object_at y.objects (signaled_one b) → act_reply x u b ≡ act_reply y u b
reply_at x y u (Act.SetEvent h) kind same = refl
reply_at x y u (Act.ResetEvent h) kind same = refl
reply_at x y u (Act.PulseEvent h) kind same = refl
reply_at x y u (Act.ReleaseSemaphore h n) kind same = ap (λ o. Reply.Previous (count_of o)) same
reply_at x y u (Act.ReleaseMutex h) kind same = refl
reply_at x y u _ kind same = (cc)

settling_of : (s : State) (a : Act) → AreOf s (signaled_one a) (settling a)
settling_of s (Act.PulseEvent h) = (refl, tt)
settling_of s _ = tt

-- ---- after a pulse too no wait fits

unset_signaled : (o : Object) (u : ℕ) → signaled o u ≡ false → signaled (with_set false o) u ≡ false
unset_signaled (Event manual set) u e = refl
unset_signaled (Timer manual set armed) u e = refl
unset_signaled (Semaphore count maximum) u e = e
unset_signaled (Mutex owner depth abandoned) u e = e
unset_signaled (Thread ended) u e = e
unset_signaled Gone u e = e

unset_ready : (os : List Object) (h u k : ℕ) → is_ready os u k ≡ false → is_ready (with_object os h (with_set false)) u k ≡ false
unset_ready [] h u k e = e
unset_ready (o ∷ os) zero u zero e = unset_signaled o u e
unset_ready (o ∷ os) zero u (suc k) e = e
unset_ready (o ∷ os) (suc h) u zero e = e
unset_ready (o ∷ os) (suc h) u (suc k) e = unset_ready os h u k e

pub settled_served : (s : State) (a : Act) → IsServed s → IsServed (all_made (settling a) s)
settled_served s (Act.PulseEvent h) served = served_fewer s (with_object s.objects h (with_set false)) served (λ u k e. unset_ready s.objects h u k e)
settled_served s _ served = served

-- ---- a step that may end waits

-- what comes of it: its change, then grants, and what a pulse unsets
pub record IsSignal (s mid : State) (t : ℕ) (a : Act) (r : Reply) (gs : List Grant) : Type 0 where
  pub numbers : List ℕ
  pub served : List Grant
  pub calm : State
  pub changed : AreRising (IsChanged s.objects (with_object s.objects (signaled_one a) (signaling a))) numbers
  pub grants : Grants (sequence s numbers) (at s (signaled_one a) (signaling a)) served calm
  pub done : IsServed calm
  pub still : (u : ℕ) → IsAlerted calm u → ⊥
  pub state : mid ≡ all_made (settling a) calm
  pub told : gs ≡ served ++ []
  pub reply : r ≡ act_reply s t a

pub signal_step : (s mid : State) (t : ℕ) (a : Act) (r : Reply) (gs : List Grant) → signals_one a ≡ true → ((u : ℕ) → IsAlerted s u → ⊥) → Step s t (Call.Act a) r gs mid → IsSignal s mid t a r gs
signal_step s mid t a r gs kind calm step =
    let first : State = at s (signaled_one a) (signaling a) in
    let threads = sequence s step.numbers in
    let serves : Serve threads first step.served step.calm = subst (λ (x : State). Serve threads x step.served step.calm) (change_is s t a kind) step.serves in
    let still : (u : ℕ) → IsAlerted step.calm u → ⊥ = Grants-calm threads first step.calm step.served serves.0 calm in
    let alerts : Alert (all_made (settling a) step.calm) step.alerted step.woken = subst (λ (x : State). Alert x step.alerted step.woken) (settled_is step.calm a kind) step.alerts in
    let none = alert_none (all_made (settling a) step.calm) step.woken step.alerted (λ u alerted. still u (alerted_before (settling a) step.calm u alerted)) alerts in
    record {
      numbers = step.numbers;
      served = step.served;
      calm = step.calm;
      changed = subst (λ (x : State). AreRising (IsChanged s.objects x.objects) step.numbers) (change_is s t a kind) step.changed;
      grants = serves.0;
      done = serves.1;
      still = still;
      state = ap (λ (x : Reply × State). x.1) step.answers ∙ none.1;
      told = step.in_order ∙ ap (λ (x : List Grant). step.served ++ x) none.0;
      reply = ap (λ (x : Reply × State). x.0) step.answers;
    }

pub make_signal : (s mid : State) (t : ℕ) (a : Act) (r : Reply) (gs : List Grant) → signals_one a ≡ true → IsSignal s mid t a r gs → Step s t (Call.Act a) r gs mid
make_signal s mid t a r gs kind signal =
    let last : State = all_made (settling a) signal.calm in
    let quiet : Alert last [] last = none_to_alert last (λ u alerted. signal.still u (alerted_before (settling a) signal.calm u alerted)) in
    record {
      numbers = signal.numbers;
      served = signal.served;
      calm = signal.calm;
      alerted = [];
      woken = last;
      changed = subst (λ (x : State). AreRising (IsChanged s.objects x.objects) signal.numbers) (sym (change_is s t a kind)) signal.changed;
      serves = subst (λ (x : State). Serve (sequence s signal.numbers) x signal.served signal.calm) (sym (change_is s t a kind)) (signal.grants, signal.done);
      alerts = subst (λ (x : State). Alert x [] last) (sym (settled_is signal.calm a kind)) quiet;
      in_order = signal.told;
      answers = ap {B = Reply × State} (λ (x : Reply). (x, mid)) signal.reply ∙ ap {B = Reply × State} (λ (x : State). (act_reply s t a, x)) signal.state;
    }

-- ---- the pieces of such a step

abbrev pub pieces_in : (s mid : State) (t : ℕ) (a : Act) (r : Reply) (gs : List Grant) → IsSignal s mid t a r gs → List Piece
pieces_in s mid t a r gs signal = pieces_of (sequence s signal.numbers) (at s (signaled_one a) (signaling a)) signal.calm signal.served signal.grants

-- the change, the grants, and what a pulse unsets
abbrev pub whole : Act → List Piece → List Piece
whole a ps = Alters (signaled_one a) (signaling a) ∷ (ps ++ settling a)

pub whole_of : (s : State) (a : Act) (ps : List Piece) → AreOf s (signaled_one a) ps → AreOf s (signaled_one a) (whole a ps)
whole_of s a ps are = (refl, are_append s (signaled_one a) ps (settling a) are (settling_of s a))

pub whole_is : (s mid : State) (t : ℕ) (a : Act) (r : Reply) (gs : List Grant) → (signal : IsSignal s mid t a r gs) → mid ≡ all_made (whole a (pieces_in s mid t a r gs signal)) s
whole_is s mid t a r gs signal =
    let first : State = at s (signaled_one a) (signaling a) in
    signal.state
    ∙ (ap (λ (x : State). all_made (settling a) x) (source_is (sequence s signal.numbers) first signal.calm signal.served signal.grants)
    ∙ sym (all_made_append (pieces_in s mid t a r gs signal) (settling a) first))

-- its grants alone, in the state in which it is made
pub own_pieces : (s mid : State) (t : ℕ) (a : Act) (r : Reply) (gs : List Grant) → IsServed s → (signal : IsSignal s mid t a r gs) → AreOf s (signaled_one a) (pieces_in s mid t a r gs signal)
own_pieces s mid t a r gs served signal =
    let h = signaled_one a in
    let first : State = at s h (signaling a) in
    let threads = sequence s signal.numbers in
    (granted_beside s h threads threads first first signal.calm signal.served (λ u w e. e) (λ p ix iy. refl) (beside_itself h first (only_one s h (signaling a) served)) signal.grants).are

-- ---- the same step in another state

-- a step is made in y as in x, where both have the same waits for its object and these find the same
pub moved : (s x mid y : State) (t : ℕ) (a : Act) (r : Reply) (gs : List Grant) (signal : IsSignal x mid t a r gs) → signals_one a ≡ true → ((u : ℕ) (w : Wait) → get x.waits u ≡ Some w → get s.waits u ≡ Some w) → ((ns : List ℕ) → AlikeInBoth (sequence x ns) (sequence y ns) x y) → IsBeside (signaled_one a) (at x (signaled_one a) (signaling a)) (at y (signaled_one a) (signaling a)) → length y.objects ≡ length x.objects → object_at y.objects (signaled_one a) ≡ object_at x.objects (signaled_one a) → ((u : ℕ) → IsAlerted y u → ⊥) →
    AreOf s (signaled_one a) (pieces_in x mid t a r gs signal)
    × IsSignal y (all_made (whole a (pieces_in x mid t a r gs signal)) y) t a r gs
    × IsServed (all_made (whole a (pieces_in x mid t a r gs signal)) y)
moved s x mid y t a r gs signal kind below alike beside long same calm =
    let h = signaled_one a in
    let f = signaling a in
    let ps = pieces_in x mid t a r gs signal in
    let go = granted_beside s h (sequence x signal.numbers) (sequence y signal.numbers) (at x h f) (at y h f) signal.calm signal.served below (alike signal.numbers) beside signal.grants in
    let last : State = all_made ps (at y h f) in
    let served : IsServed last = λ u. due_beside h signal.calm last go.beside u ∙ signal.done u in
    let state : all_made (whole a ps) y ≡ all_made (settling a) last = all_made_append ps (settling a) (at y h f) in (
      go.are,
      record {
        numbers = signal.numbers;
        served = signal.served;
        calm = last;
        changed = rising_along (IsChanged x.objects (with_object x.objects h f)) (IsChanged y.objects (with_object y.objects h f)) signal.numbers (changed_along x.objects y.objects h f long (sym same)) (changed_along y.objects x.objects h f (sym long) same) signal.changed;
        grants = go.grants;
        done = served;
        still = λ u alerted. calm u (alerted_before ps (at y h f) u alerted);
        state = state;
        told = signal.told;
        reply = signal.reply ∙ reply_at x y t a kind (sym same);
      },
      subst IsServed (sym state) (settled_served last a served),
    )

-- ---- both, in either order

swapped : (s : State) (h k : ℕ) → ReachNothingInCommon s h k → ReachNothingInCommon s k h
swapped s h k apart o m n = apart o n m

pub both_signal : (s mid new : State) (t u : ℕ) (a b : Act) (ra rb : Reply) (ga gb : List Grant) → AreStepsThatWake s mid new t u a b ra rb ga gb → StepsGoOtherwise s new t u a b ra rb ga gb
both_signal s mid new t u a b ra rb ga gb two =
    let h = signaled_one a in
    let k = signaled_one b in
    let f = signaling a in
    let g = signaling b in
    let served = two.quiet.served in
    let calm = two.quiet.calm in
    let apart_b : ReachNothingInCommon s k h = swapped s h k two.apart in
    let one = signal_step s mid t a ra ga two.first_kind calm two.first in
    let ps : List Piece = whole a (pieces_in s mid t a ra ga one) in
    let of_a : AreOf s h ps = whole_of s a (pieces_in s mid t a ra ga one) (own_pieces s mid t a ra ga served one) in
    let m : State = all_made ps s in
    let mid_is : mid ≡ m = whole_is s mid t a ra ga one in
    let served_m : IsServed m = subst IsServed (sym one.state ∙ mid_is) (settled_served one.calm a one.done) in
    let calm_m : (v : ℕ) → IsAlerted m v → ⊥ = λ v alerted. calm v (alerted_before ps s v alerted) in
    let next = signal_step m new u b rb gb two.second_kind calm_m (subst (λ (x : State). Step x u (Call.Act b) rb gb new) mid_is two.second) in
    -- the second one first
    let qs : List Piece = whole b (pieces_in m new u b rb gb next) in
    let second = moved s m new s u b rb gb next two.second_kind
    (λ v w e. pended ps s v w e)
    (λ ns p ix iy. sym (find_flat p m.queues s.queues ns (λ n. queue_along ps s p ix n)))
    (beside_back k (at s k g) (at m k g) (begins_beside s k h g ps apart_b of_a served served_m))
    (sym (long_along ps s))
    (sym (left_alone s k h ps k apart_b of_a (inl refl)))
    calm in
    let n : State = all_made qs s in
    let of_b : AreOf s k qs = whole_of s b (pieces_in m new u b rb gb next) second.0 in
    -- and then the first
    let first = moved s s mid n t a ra ga one two.first_kind
    (λ v w e. e)
    (λ ns p ix iy. find_flat p n.queues s.queues ns (λ i. queue_along qs s p iy i))
    (begins_beside s h k f qs two.apart of_b served second.2)
    (long_along qs s)
    (left_alone s h k qs h two.apart of_b (inl refl))
    (λ v alerted. calm v (alerted_before qs s v alerted)) in
    let last : all_made ps n ≡ new = lists_commute qs ps s (λ o m n. two.apart o (reached s h ps o of_a n) (reached s k qs o of_b m)) ∙ sym (whole_is m new u b rb gb next) in
    record {
      mid = n;
      first = make_signal s n u b rb gb two.second_kind second.1;
      second = subst (λ (x : State). Step n t (Call.Act a) ra ga x) last (make_signal n (all_made ps n) t a ra ga two.first_kind first.1);
    }
