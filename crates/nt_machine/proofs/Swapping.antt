-- A signal, and the wait that begins after it.
use Rattle.std.proofs.Common.{◌≡◌, ◌≢◌, ◌<◌, ℕ, zero, suc, ◌+◌, length-set, Bool, true, false, not, ◌&&◌, List, [], ◌∷◌, length, refl, sym, ap, ◌∙◌, subst, arith, Option, Some, None}
use Rattle.std.specs.Prelude.{pos, slice_index}
use Rattle.std.specs.List.{IsDistinct}
use Rattle.std.specs.FinMap as fin
use Rattle.std.proofs.lemmas.Bool.{false≢true}
use Rattle.std.proofs.lemmas.Bool.Decides.{nat_tests}
use Rattle.std.proofs.lemmas.Int.{ints}
use Rattle.std.proofs.lemmas.List.{append-nil}
use Rattle.nt_status.specs.declared.refusal.Refusal.TheVariants.{InvalidHandle, NotOwner, TooManyPosts, RecursionLimit}
use Rattle.nt_objects.specs.declared.object.Object.{Object}
use Rattle.nt_objects.specs.declared.object.Object.TheVariants.{Event, Semaphore, Mutex, Timer, Thread, Gone}
use Rattle.nt_objects.specs.Object.{is_mutex, owned_by, overflows, has_ended, is_gone, IsLawfulObject}
use Rattle.nt_waits.specs.declared.wait.Wait.{Wait}
use Rattle.nt_calls.specs.declared.call.Call.{Call}
use Rattle.nt_calls.specs.declared.call.WaitCall.{WaitCall}
use Rattle.nt_calls.specs.declared.call.WaitMode.{WaitMode}
use Rattle.nt_calls.specs.declared.call.Reply.{Reply}
use Rattle.nt_calls.specs.declared.call.Grant.{Grant}
use Rattle.nt_calls.specs.State.{State, object_at}
use Rattle.nt_machine.specs.Dispatcher.{Dispatcher, state}
use Rattle.nt_calls.specs.Serving.{wait_on, sequence, Grants, wait_granted, objects_taken}
use Rattle.nt_calls.specs.Change.{at, signal}
use Rattle.nt_calls.specs.Refusals.{may_signal, is_foreign, is_no, is_unknown, is_at_limit, refusal}
use Rattle.nt_calls.specs.Steps.{begun, asked_wait}
use Rattle.nt_machine.specs.Lawful.{IsSoundWait, IsSteady, MayReplace}
use Rattle.nt_machine.specs.Accepts.{is_by_objects, IsFresh, IsServedAfter, Accepts}
use Rattle.nt_objects.proofs.Lawful.{lawful_released, lawful_unlocked}
use Rattle.nt_machine.proofs.Accepting.{next_causes, own_causes, free_caller, no_alert}
use Rattle.nt_machine.proofs.Orders.{length-filter-le}
use Rattle.nt_machine.proofs.Keeping.{TakesWell, objects_taken_well}
use Rattle.nt_machine.proofs.Visiting.{can_take, len_removed}
use Rattle.nt_machine.proofs.Walks.{get_removed}
use Rattle.nt_machine.proofs.Changing.{reading_set, limit_set, sound_replaced}
use Rattle.nt_machine.proofs.Beginning.{room_to_begin}
use Rattle.nt_machine.proofs.Replacing.{set_may_replace, released_may_replace, unlocked_may_replace, replaced_settled}

-- ---- one object that may be signaled

-- it is an event, a semaphore, or a mutex of this thread
pub signal_may_replace : (o : Object) (t : ℕ) → may_signal o ≡ true → (is_mutex o && not (owned_by o t)) ≡ false → IsLawfulObject o → IsLawfulObject (signal o) → MayReplace o (signal o)
signal_may_replace (Event manual set) t may owner lawful after = set_may_replace true (Event manual set) refl
signal_may_replace (Semaphore count maximum) t may owner lawful after = released_may_replace (pos 1) (Semaphore count maximum) refl after
signal_may_replace (Mutex held depth abandoned) t may owner lawful after = unlocked_may_replace (Mutex held depth abandoned) t (owned (owned_by (Mutex held depth abandoned) t) owner) lawful after
  where
    owned : (b : Bool) → (true && not b) ≡ false → b ≡ true
    owned true e = refl
    owned false e = absurd (false≢true (sym e))
signal_may_replace (Timer manual set armed) t may owner lawful after = absurd (false≢true may)
signal_may_replace (Thread ended) t may owner lawful after = absurd (false≢true may)
signal_may_replace Gone t may owner lawful after = absurd (false≢true may)

-- the causes of a swap, where none holds
pub record MaySwap (objects : List Object) (t h object : ℕ) : Type 0 where
  pub may : may_signal (object_at objects h) ≡ true
  pub known : object < length objects
  pub owner : is_foreign objects t h ≡ false
  pub within : overflows (pos 1) (object_at objects h) ≡ false
  pub below : is_at_limit objects t object ≡ false

pub may_swap : (s : State) (t h object : ℕ) (mode : WaitMode) → refusal s t false (Call.Wait (WaitCall.Swap h object mode)) ≡ None → MaySwap s.objects t h object
may_swap s t h object mode none =
    let own = own_causes s t (Call.Wait (WaitCall.Swap h object mode)) none in
    let first = next_causes (is_no may_signal s.objects h) InvalidHandle ((is_unknown s.objects object, InvalidHandle) ∷ (is_foreign s.objects t h, NotOwner) ∷ (overflows (pos 1) (object_at s.objects h), TooManyPosts) ∷ (is_at_limit s.objects t object, RecursionLimit) ∷ []) own in
    let second = next_causes (is_unknown s.objects object) InvalidHandle ((is_foreign s.objects t h, NotOwner) ∷ (overflows (pos 1) (object_at s.objects h), TooManyPosts) ∷ (is_at_limit s.objects t object, RecursionLimit) ∷ []) first.1 in
    let third = next_causes (is_foreign s.objects t h) NotOwner ((overflows (pos 1) (object_at s.objects h), TooManyPosts) ∷ (is_at_limit s.objects t object, RecursionLimit) ∷ []) second.1 in
    let fourth = next_causes (overflows (pos 1) (object_at s.objects h)) TooManyPosts ((is_at_limit s.objects t object, RecursionLimit) ∷ []) third.1 in
    let fifth = next_causes (is_at_limit s.objects t object) RecursionLimit [] fourth.1 in
    record {
      may = not_no (may_signal (object_at s.objects h)) first.0;
      known = let known = second.0 in grind (arith, nat_tests, known);
      owner = third.0;
      within = fourth.0;
      below = fifth.0;
    }
  where
    not_no : (b : Bool) → not b ≡ false → b ≡ true
    not_no true e = refl
    not_no false e = absurd (false≢true (sym e))

-- ---- what serving leaves of the thread that does not wait

-- each pending wait is sound, and each object lawful
abbrev pub AreSound : ℕ → State → Type 0
AreSound n s = ((h : ℕ) → IsLawfulObject (object_at s.objects h)) × ((u : ℕ) (w : Wait) → fin.get s.waits u ≡ Some w → IsSoundWait n s.objects u w)

-- the thread still does not wait, holds no more mutexes at the limit, and each grant was of a wait that pended
pub record LeavesCaller (s new : State) (gs : List Grant) (t : ℕ) : Type 0 where
  pub threads : new.threads ≡ s.threads
  pub now : new.now ≡ s.now
  pub idle : fin.get new.waits t ≡ None
  pub as_long : length new.objects ≡ length s.objects
  pub ended : (k : ℕ) → has_ended (object_at new.objects k) ≡ has_ended (object_at s.objects k)
  pub gone : (k : ℕ) → is_gone (object_at new.objects k) ≡ is_gone (object_at s.objects k)
  pub unlimited : (h : ℕ) → is_at_limit s.objects t h ≡ false → is_at_limit new.objects t h ≡ false
  pub fewer : fin.len new.waits + length gs ≡ fin.len s.waits

removed_idle : (s : State) (t u : ℕ) → fin.get s.waits t ≡ None → fin.get (fin.remove s.waits u) t ≡ None
removed_idle s t u idle = go (fin.get (fin.remove s.waits u) t) refl
  where
    go : (o : Option Wait) → fin.get (fin.remove s.waits u) t ≡ o → fin.get (fin.remove s.waits u) t ≡ None
    go None e = e
    go (Some w) e = let h : None ≡ Some w = sym idle ∙ (get_removed s.waits u t w e).1 in (cc)

pub serving_leaves : (n : ℕ) (threads : List ℕ) (s new : State) (gs : List Grant) (t : ℕ) → Grants threads s gs new → AreSound n s → fin.get s.waits t ≡ None → LeavesCaller s new gs t
serving_leaves n threads s new [] t is sound idle = subst (λ (x : State). LeavesCaller s x [] t) (sym is) (record {
  threads = refl;
  now = refl;
  idle = idle;
  as_long = refl;
  ended = λ k. refl;
  gone = λ k. refl;
  unlimited = λ h below. below;
  fewer = omega arith;
})
serving_leaves n threads s new (g ∷ gs) t has sound idle =
    let w = has.1 in
    let due = has.2 in
    let own = sound.1 g.thread w due.pends in
    let well = objects_taken_well s.objects g.thread w own.apart (can_take s.objects g.thread n w sound.0 own) due.fits in
    let differs : t ≢ g.thread = λ e. let h : None ≡ Some w = sym idle ∙ (ap (λ x. fin.get s.waits x) e ∙ due.pends) in absurd_none w h in
    let mid = wait_granted s g.thread w in
    let rest = serving_leaves n threads mid new gs t has.3 (well.lawful sound.0, λ u v pends. kept u v well (get_removed s.waits g.thread u v pends)) (removed_idle s t g.thread idle) in
    let one = len_removed s.waits g.thread w due.pends in
    record {
      threads = rest.threads;
      now = rest.now;
      idle = rest.idle;
      as_long = rest.as_long ∙ well.length;
      ended = λ k. rest.ended k ∙ well.ended k;
      gone = λ k. rest.gone k ∙ well.gone k;
      unlimited = λ h below. rest.unlimited h (well.unlimited t differs h below);
      fewer = let fewer = rest.fewer in omega (arith, fewer, one);
    }
  where
    absurd_none : {P : Type 0} (w : Wait) → None ≡ Some w → P
    absurd_none w h = (cc)

    kept : (u : ℕ) (v : Wait) → TakesWell s.objects (objects_taken s.objects g.thread has.1) g.thread → (u ≢ g.thread) × (fin.get s.waits u ≡ Some v) → IsSoundWait n (objects_taken s.objects g.thread has.1) u v
    kept u v well before =
        let other = sound.1 u v before.1 in
        record {
          known = other.known;
          runs = well.ended u ∙ other.runs;
          few = other.few;
          apart = other.apart;
          named = λ h names. (subst (λ (n : ℕ). h < n) (sym well.length) (other.named h names).0, well.unlimited u before.0 h (other.named h names).1);
          living = λ h names. well.gone h ∙ other.living h names;
        }

-- ---- the dispatcher once the others are served

lawful_signal : (o : Object) → overflows (pos 1) o ≡ false → IsLawfulObject o → IsLawfulObject (signal o)
lawful_signal (Event manual set) within lawful = tt
lawful_signal (Semaphore count maximum) within lawful = lawful_released (pos 1) (Semaphore count maximum) (omega (arith, ints)) within lawful
lawful_signal (Mutex owner depth abandoned) within lawful = lawful_unlocked (Mutex owner depth abandoned) lawful
lawful_signal (Timer manual set armed) within lawful = lawful
lawful_signal (Thread ended) within lawful = lawful
lawful_signal Gone within lawful = lawful

module _ (old calm : Dispatcher) (t h object : ℕ) (mode : WaitMode)
    (fresh : IsFresh old)
    (free : refusal (state old) t false (Call.Wait (WaitCall.Swap h object mode)) ≡ None)
    (living : object < length old.objects → is_gone (object_at old.objects object) ≡ false)
    (served : IsServedAfter old (at (state old) h signal) calm) where
  caller : (t < old.threads) × (has_ended (object_at old.objects t) ≡ false) × (fin.get old.table.pending t ≡ None)
  caller = free_caller (state old) t (Call.Wait (WaitCall.Swap h object mode)) free

  may : MaySwap old.objects t h object
  may = may_swap (state old) t h object mode free

  replaced : MayReplace (object_at old.objects h) (signal (object_at old.objects h))
  replaced = let lawful = fresh.steady.sound.objects h in signal_may_replace (object_at old.objects h) t may.may may.owner lawful (lawful_signal (object_at old.objects h) may.within lawful)

  pub calm_steady : IsSteady calm
  calm_steady = replaced_settled old calm h (signal (object_at old.objects h)) fresh replaced served

  left : LeavesCaller (at (state old) h signal) (state calm) calm.grants t
  left =
      let sound = sound_replaced old h (signal (object_at old.objects h)) old.owned fresh.steady.sound replaced in
      serving_leaves old.threads (sequence (state old) served.numbers) (at (state old) h signal) (state calm) calm.grants t served.serves.0 (sound.objects, sound.waits) caller.2

  pub calm_idle : fin.get calm.table.pending t ≡ None
  calm_idle = left.idle

  pub calm_now : calm.now ≡ old.now
  calm_now = left.now

  pub calm_able : (w : Wait) → w.objects ≡ object ∷ [] → IsSoundWait calm.threads calm.objects t w
  unfolding IsDistinct
  calm_able w is = record {
    known = subst (λ (n : ℕ). t < n) (sym left.threads) caller.0;
    runs = left.ended t ∙ (reading_set has_ended old.objects h (signal (object_at old.objects h)) replaced.ended t ∙ caller.1);
    few = rw is (omega arith);
    apart = rw is (tt, tt);
    named = λ k names. subst (λ (k : ℕ). (k < length calm.objects) × (is_at_limit calm.objects t k ≡ false)) (only k (subst (λ (hs : List ℕ). (j : ℕ) × (j < length hs) × (slice_index hs j ≡ k)) is names)) (
      subst (λ (n : ℕ). object < n) (sym (left.as_long ∙ length-set old.objects h (signal (object_at old.objects h)))) may.known,
      left.unlimited object (limit_set old.objects h (signal (object_at old.objects h)) t (replaced.unlimited t) object may.below),
    );
    living = λ k names. subst (λ (k : ℕ). is_gone (object_at calm.objects k) ≡ false) (only k (subst (λ (hs : List ℕ). (j : ℕ) × (j < length hs) × (slice_index hs j ≡ k)) is names)) (left.gone object ∙ (reading_set is_gone old.objects h (signal (object_at old.objects h)) replaced.gone object ∙ living may.known));
  }
    where
      only : (k : ℕ) → (j : ℕ) × (j < 1) × (slice_index (object ∷ []) j ≡ k) → object ≡ k
      only k (zero, below, e) = e
      only k (suc j, below, e) = absurd (omega (arith, below))

  pub calm_room : length calm.grants + fin.len calm.table.pending < calm.threads
  calm_room =
      let room = room_to_begin old t (wait_on [] false) fresh.steady.sound caller.0 caller.2 in
      let fewer = left.fewer in
      let threads = left.threads in
      omega (arith, room, fewer, threads)

  -- the whole call
  pub swap_accepted : (new : Dispatcher) (reply : Reply) → new.grants ≡ calm.grants → new.table.looked ≡ calm.table.looked → IsSteady new → (reply, state new) ≡ begun (state calm) t (asked_wait calm.now (WaitCall.Swap h object mode)) mode.ms → Accepts old new t (Call.Wait (WaitCall.Swap h object mode)) reply
  swap_accepted new reply same looked steady answers = record {
    step = record {
      numbers = served.numbers;
      served = calm.grants;
      calm = state calm;
      alerted = [];
      woken = state calm;
      changed = served.changed;
      serves = served.serves;
      alerts = no_alert (state calm) (state calm) refl calm_steady.settled.alerted;
      in_order = same ∙ sym (append-nil calm.grants);
      answers = answers;
    };
    steady = steady;
    local = record {
      numbers = served.numbers;
      changed = served.changed;
      most = rw looked served.most;
      least = let fewer = length-filter-le is_by_objects new.grants in let len : length new.grants ≡ length calm.grants = ap (λ gs. length gs) same in let least = served.least in omega (arith, fewer, len, least, looked);
    };
  }
