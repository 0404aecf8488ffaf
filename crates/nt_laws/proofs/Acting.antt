-- What a call does to one object, before and after waits are served. A new call asks for a line in `acted` or `changed_at` where it
-- changes an object that is no timer, one in `act_object` or `change_object`, and one in each of Giving, Owing and Setting that it
-- concerns.
use Rattle.std.proofs.Common.{◌≡◌, ℕ, zero, suc, Bool, true, false, cond, not, ◌==◌, List, [], ◌∷◌, ◌++◌, length, set, refl, sym, ap, ◌∙◌, arith, Option, Some, None, inl, inr, ◌⊎◌}
use Rattle.std.specs.Prelude.{pos, nat_le, int_lt, unsigned_abs, map, slice_set}
use Rattle.std.proofs.lemmas.Bool.{cases_eq, false≢true}
use Rattle.nt_status.specs.declared.refusal.Refusal.TheVariants.{InvalidHandle, InvalidParameter, NotOwner, TooManyPosts, RecursionLimit}
use Rattle.nt_objects.specs.declared.object.Object.{Object}
use Rattle.nt_objects.specs.declared.object.Object.TheVariants.{Event, Semaphore, Mutex, Timer, Thread, Gone}
use Rattle.nt_objects.specs.declared.object.Armed.{Armed}
use Rattle.nt_objects.specs.Object.{is_timer, event_of, mutex_of, timer_of, with_set, released, overflows, unlocked, armed_with, setting_of, rearmed}
use Rattle.nt_apc.specs.Queues.{oldest_taken}
use Rattle.nt_calls.specs.declared.call.Call.{Call}
use Rattle.nt_calls.specs.declared.call.Act.{Act}
use Rattle.nt_calls.specs.declared.call.WaitCall.{WaitCall}
use Rattle.nt_calls.specs.declared.call.WaitMode.{WaitMode}
use Rattle.nt_calls.specs.State.{State, object_at, with_object, with_handing}
use Rattle.nt_calls.specs.Change.{created, signal, change, act_change, may_take, expired, expired_as, armed_anew, timer_set, timer_cancelled, due_moment, routine_for, exited}
use Rattle.nt_calls.specs.Refusals.{Cause, first_of_causes, refusal, is_no, is_unknown, is_foreign, is_at_limit, may_signal}
use Rattle.nt_calls.specs.Steps.{after_serving}
use Rattle.nt_machine.proofs.Changing.{object_at-set_other}
use Rattle.nt_machine.proofs.Accepting.{next_causes, own_causes}
use Rattle.nt_machine.proofs.Listing.{same_yes, same_no}
use Rattle.nt_machine.proofs.Exiting.{left}

-- ---- one object among those that a call changes

with_object_here : (os : List Object) (g : ℕ) (f : Object → Object) → f (Thread false) ≡ Thread false → object_at (with_object os g f) g ≡ f (object_at os g)
with_object_here [] g f still = sym still
with_object_here (o ∷ os) zero f still = refl
with_object_here (o ∷ os) (suc g) f still = with_object_here os g f still

-- a change that leaves running threads alone
with_object_at : (os : List Object) (g h : ℕ) (f : Object → Object) → f (Thread false) ≡ Thread false → object_at (with_object os g f) h ≡ cond (g == h) (f (object_at os h)) (object_at os h)
with_object_at os g h f still = elim (cases_eq g h) [
  | inl same ↦ rw (same_yes g h same) (ap (λ x. object_at (with_object os x f) h) same ∙ with_object_here os h f still)
  | inr differs ↦ rw (same_no g h differs) (object_at-set_other os g h (f (object_at os g)) (λ e. differs (sym e)))
]

pub created_at : (os : List Object) (o : Object) (h : ℕ) → object_at (os ++ o ∷ []) h ≡ cond (length os == h) o (object_at os h)
created_at [] o zero = refl
created_at [] o (suc h) = rw (same_no 0 (suc h) (omega arith)) refl
created_at (x ∷ os) o zero = rw (same_no (suc (length os)) 0 (omega arith)) refl
created_at (x ∷ os) o (suc h) = elim (cases_eq (length os) h) [
  | inl same ↦ rw (same_yes (suc (length os)) (suc h) (ap suc same)) (created_at os o h ∙ rw (same_yes (length os) h same) refl)
  | inr differs ↦ rw (same_no (suc (length os)) (suc h) (omega (arith, differs))) (created_at os o h ∙ rw (same_no (length os) h differs) refl)
]

-- no object stands past the last
pub past_last : (os : List Object) (h : ℕ) → length os ≡ h → object_at os h ≡ Thread false
past_last [] h e = refl
past_last (o ∷ os) zero e = absurd (omega (arith, e))
past_last (o ∷ os) (suc h) e = past_last os h (omega (arith, e))

-- neither a timer, nor a thread that has ended, nor gone: the laws are on others
abbrev pub is_plain : Object → Bool
is_plain (Timer manual set armed) = false
is_plain (Thread ended) = not ended
is_plain Gone = false
is_plain _ = true

-- what an act of thread t does to the object at h, where there are n objects and it is no timer; an act on timers alone
-- needs no line here
abbrev pub acted : ℕ → ℕ → Act → ℕ → Object → Object
acted n t (Act.CreateEvent flags) h o = cond (n == h) (event_of flags) o
acted n t (Act.CreateSemaphore initial maximum) h o = cond (n == h) (Semaphore initial maximum) o
acted n t (Act.CreateMutex flags) h o = cond (n == h) (mutex_of flags t) o
acted n t (Act.SetEvent g) h o = cond (g == h) (with_set true o) o
acted n t (Act.ResetEvent g) h o = cond (g == h) (with_set false o) o
acted n t (Act.PulseEvent g) h o = cond (g == h) (with_set true o) o
acted n t (Act.ReleaseSemaphore g count) h o = cond (g == h) (released count o) o
acted n t (Act.ReleaseMutex g) h o = cond (g == h) (unlocked o) o
acted n t _ h o = o

-- ---- what changes timers leaves all others alone

-- a timer stays one
abbrev pub KeepsTimers : (Object → Object) → Type 0
KeepsTimers f = (o : Object) → is_timer o ≡ true → is_plain (f o) ≡ false

pub made_timer : (s : State) (flags h : ℕ) → is_plain (object_at (created s (timer_of flags)).objects h) ≡ true → object_at (created s (timer_of flags)).objects h ≡ object_at s.objects h
made_timer s flags h plain = go (length s.objects == h) (created_at s.objects (timer_of flags) h)
  where
    go : (b : Bool) → object_at (s.objects ++ timer_of flags ∷ []) h ≡ cond b (timer_of flags) (object_at s.objects h) → object_at (s.objects ++ timer_of flags ∷ []) h ≡ object_at s.objects h
    go true e = absurd (false≢true (sym (ap is_plain e) ∙ plain))
    go false e = e

pub changed_timer : (os : List Object) (g h : ℕ) (f : Object → Object) → is_timer (object_at os g) ≡ true → KeepsTimers f → f (Thread false) ≡ Thread false → is_plain (object_at (with_object os g f) h) ≡ true → object_at (with_object os g f) h ≡ object_at os h
changed_timer os g h f timer keeps still plain = elim (cases_eq g h) [
  | inl same ↦
      let there : object_at (with_object os g f) h ≡ f (object_at os g) = ap (λ x. object_at (with_object os g f) x) (sym same) ∙ with_object_here os g f still in
      absurd (false≢true (sym (keeps (object_at os g) timer) ∙ (sym (ap is_plain there) ∙ plain)))
  | inr differs ↦ object_at-set_other os g h (f (object_at os g)) (λ e. differs (sym e))
]

timer_armed : (armed : Option Armed) → KeepsTimers (armed_with armed)
timer_armed armed (Timer manual set own) is = refl
timer_armed armed (Event manual set) is = absurd (false≢true is)
timer_armed armed (Semaphore count maximum) is = absurd (false≢true is)
timer_armed armed (Mutex owner depth abandoned) is = absurd (false≢true is)
timer_armed armed (Thread ended) is = absurd (false≢true is)
timer_armed armed Gone is = absurd (false≢true is)

timer_armed_anew : (armed : Option Armed) (b : Bool) → KeepsTimers (λ o. armed_with armed (with_set b o))
timer_armed_anew armed b (Timer manual set own) is = refl
timer_armed_anew armed b (Event manual set) is = absurd (false≢true is)
timer_armed_anew armed b (Semaphore count maximum) is = absurd (false≢true is)
timer_armed_anew armed b (Mutex owner depth abandoned) is = absurd (false≢true is)
timer_armed_anew armed b (Thread ended) is = absurd (false≢true is)
timer_armed_anew armed b Gone is = absurd (false≢true is)

is_armed : (o : Object) (armed : Armed) → setting_of o ≡ Some armed → is_timer o ≡ true
is_armed (Timer manual set own) armed e = refl
is_armed (Event manual set) armed e = let h : None ≡ Some armed = e in (cc)
is_armed (Semaphore count maximum) armed e = let h : None ≡ Some armed = e in (cc)
is_armed (Mutex owner depth abandoned) armed e = let h : None ≡ Some armed = e in (cc)
is_armed (Thread ended) armed e = let h : None ≡ Some armed = e in (cc)
is_armed Gone armed e = let h : None ≡ Some armed = e in (cc)

pub expired_object : (v : ℕ) (s : State) (timer h : ℕ) → is_plain (object_at (expired v s timer).objects h) ≡ true → object_at (expired v s timer).objects h ≡ object_at s.objects h
expired_object v s timer h = go (setting_of (object_at s.objects timer)) refl
  where
    go : (o : Option Armed) → setting_of (object_at s.objects timer) ≡ o → is_plain (object_at (expired_as s v timer o).objects h) ≡ true → object_at (expired_as s v timer o).objects h ≡ object_at s.objects h
    go None e plain = refl
    go (Some armed) e plain = changed_timer s.objects timer h (λ o. armed_with (rearmed v armed) (with_set true o)) (is_armed (object_at s.objects timer) armed e) (timer_armed_anew (rearmed v armed) true) refl plain

pub cancelled_object : (s : State) (timer h : ℕ) → is_timer (object_at s.objects timer) ≡ true → is_plain (object_at (timer_cancelled s timer).objects h) ≡ true → object_at (timer_cancelled s timer).objects h ≡ object_at s.objects h
cancelled_object s timer h is plain = changed_timer s.objects timer h (armed_with None) is (timer_armed None) refl plain

pub timer_set_object : (s : State) (timer h : ℕ) (armed : Armed) → is_timer (object_at s.objects timer) ≡ true → is_plain (object_at (timer_set s timer armed).objects h) ≡ true → object_at (timer_set s timer armed).objects h ≡ object_at s.objects h
timer_set_object s timer h armed is = go (nat_le armed.due s.now)
  where
    anew : is_plain (object_at (armed_anew s timer armed).objects h) ≡ true → object_at (armed_anew s timer armed).objects h ≡ object_at s.objects h
    anew plain = changed_timer s.objects timer h (λ o. armed_with (Some armed) (with_set false o)) is (timer_armed_anew (Some armed) false) refl plain

    go : (b : Bool) → is_plain (object_at (cond b (expired s.now (armed_anew s timer armed) timer) (armed_anew s timer armed)).objects h) ≡ true → object_at (cond b (expired s.now (armed_anew s timer armed) timer) (armed_anew s timer armed)).objects h ≡ object_at s.objects h
    go true plain =
        let same = expired_object s.now (armed_anew s timer armed) timer h plain in
        same ∙ anew (sym (ap is_plain same) ∙ plain)
    go false plain = anew plain

-- a call that was not refused names an object of its kind
known_kind : (kind : Object → Bool) (os : List Object) (g : ℕ) (cs : List Cause) → first_of_causes ((is_no kind os g, InvalidHandle) ∷ cs) ≡ None → kind (object_at os g) ≡ true
known_kind kind os g cs none = unnot (kind (object_at os g)) (next_causes (is_no kind os g) InvalidHandle cs none).0
  where
    unnot : (b : Bool) → not b ≡ false → b ≡ true
    unnot true e = refl
    unnot false e = sym e

-- what a swap that was not refused signals
pub record IsJudged (s : State) (t g : ℕ) : Type 0 where
  pub may : may_signal (object_at s.objects g) ≡ true
  pub fits : overflows (pos 1) (object_at s.objects g) ≡ false
  pub foreign : is_foreign s.objects t g ≡ false

pub swap_judged : (s : State) (t g object : ℕ) (mode : WaitMode) → refusal s t false (Call.Wait (WaitCall.Swap g object mode)) ≡ None → IsJudged s t g
swap_judged s t g object mode none =
    let own = own_causes s t (Call.Wait (WaitCall.Swap g object mode)) none in
    let last : List Cause = (is_at_limit s.objects t object, RecursionLimit) ∷ [] in
    let full : List Cause = (overflows (pos 1) (object_at s.objects g), TooManyPosts) ∷ last in
    let owned : List Cause = (is_foreign s.objects t g, NotOwner) ∷ full in
    let known = next_causes (is_no may_signal s.objects g) InvalidHandle ((is_unknown s.objects object, InvalidHandle) ∷ owned) own in
    let there = next_causes (is_unknown s.objects object) InvalidHandle owned known.1 in
    let foreign = next_causes (is_foreign s.objects t g) NotOwner full there.1 in
    let fits = next_causes (overflows (pos 1) (object_at s.objects g)) TooManyPosts last foreign.1 in
    record {
      may = known_kind may_signal s.objects g ((is_unknown s.objects object, InvalidHandle) ∷ owned) own;
      fits = fits.0;
      foreign = foreign.0;
    }

-- what an act does, object by object; of an act on timers the lemmas above say it
act_object : (s : State) (t : ℕ) (act : Act) (h : ℕ) → refusal s t false (Call.Act act) ≡ None → is_plain (object_at (act_change s t act).objects h) ≡ true → object_at (act_change s t act).objects h ≡ acted (length s.objects) t act h (object_at s.objects h)
act_object s t (Act.CreateEvent flags) h none plain = created_at s.objects (event_of flags) h
act_object s t (Act.CreateSemaphore initial maximum) h none plain = created_at s.objects (Semaphore initial maximum) h
act_object s t (Act.CreateMutex flags) h none plain = created_at s.objects (mutex_of flags t) h
act_object s t (Act.SetEvent g) h none plain = with_object_at s.objects g h (with_set true) refl
act_object s t (Act.ResetEvent g) h none plain = with_object_at s.objects g h (with_set false) refl
act_object s t (Act.PulseEvent g) h none plain = with_object_at s.objects g h (with_set true) refl
act_object s t (Act.ReleaseSemaphore g count) h none plain = with_object_at s.objects g h (released count) refl
act_object s t (Act.ReleaseMutex g) h none plain = with_object_at s.objects g h unlocked refl
act_object s t (Act.CreateTimer flags) h none plain = made_timer s flags h plain
act_object s t (Act.CancelTimer g) h none plain = cancelled_object s g h (known_kind is_timer s.objects g [] (own_causes s t (Call.Act (Act.CancelTimer g)) none)) plain
act_object s t (Act.SetTimer g due period routine) h none plain =
    timer_set_object s g h (record { due = due_moment s.now due; period = unsigned_abs period; routine = routine_for t routine })
    (known_kind is_timer s.objects g ((int_lt period (pos 0), InvalidParameter) ∷ []) (own_causes s t (Call.Act (Act.SetTimer g due period routine)) none)) plain
act_object s t (Act.QueueApc thread routine arg) h none plain = refl
act_object s t (Act.Duplicate object access) h none plain = refl
act_object s t (Act.Close closed) h none plain = refl
act_object s t Act.NextApc h none plain = go (may_take s t)
  where
    go : (b : Bool) → object_at (cond b (record s { apcs = oldest_taken s.apcs t }) (with_handing s t false)).objects h ≡ object_at s.objects h
    go true = refl
    go false = refl

pub expired_waits : (v : ℕ) (s : State) (timer : ℕ) → (expired v s timer).waits ≡ s.waits
expired_waits v s timer = go (setting_of (object_at s.objects timer))
  where
    go : (o : Option Armed) → (expired_as s v timer o).waits ≡ s.waits
    go None = refl
    go (Some armed) = refl

-- a timer that is set changes no waits yet
pub timer_set_waits : (s : State) (timer : ℕ) (armed : Armed) → (timer_set s timer armed).waits ≡ s.waits
timer_set_waits s timer armed = go (nat_le armed.due s.now)
  where
    go : (b : Bool) → (cond b (expired s.now (armed_anew s timer armed) timer) (armed_anew s timer armed)).waits ≡ s.waits
    go true = expired_waits s.now (armed_anew s timer armed) timer
    go false = refl

act_waits : (s : State) (t : ℕ) (act : Act) → (act_change s t act).waits ≡ s.waits
act_waits s t Act.NextApc = go (may_take s t)
  where
    go : (b : Bool) → (cond b (record s { apcs = oldest_taken s.apcs t }) (with_handing s t false)).waits ≡ s.waits
    go true = refl
    go false = refl
act_waits s t (Act.SetTimer g due period routine) = timer_set_waits s g (record { due = due_moment s.now due; period = unsigned_abs period; routine = routine_for t routine })
act_waits s t _ = refl

-- ---- a thread that ends

ended_here : (os : List Object) (t : ℕ) → (object_at (slice_set os t (Thread true)) t ≡ Thread true) ⊎ (object_at (slice_set os t (Thread true)) t ≡ object_at os t)
ended_here [] t = inr refl
ended_here (o ∷ os) zero = inl refl
ended_here (o ∷ os) (suc t) = ended_here os t

left_at : (t : ℕ) (os : List Object) (h : ℕ) → object_at (map (left t) os) h ≡ left t (object_at os h)
left_at t [] h = refl
left_at t (o ∷ os) zero = refl
left_at t (o ∷ os) (suc h) = left_at t os h

pub exited_object : (s : State) (t h : ℕ) → is_plain (object_at (exited s t).objects h) ≡ true → object_at (exited s t).objects h ≡ left t (object_at s.objects h)
exited_object s t h plain = elim (cases_eq h t) [
  | inl same ↦ own same (ended_here (map (left t) s.objects) t)
  | inr differs ↦ object_at-set_other (map (left t) s.objects) t h (Thread true) differs ∙ left_at t s.objects h
]
  where
    own : h ≡ t → (object_at (slice_set (map (left t) s.objects) t (Thread true)) t ≡ Thread true) ⊎ (object_at (slice_set (map (left t) s.objects) t (Thread true)) t ≡ object_at (map (left t) s.objects) t) → object_at (exited s t).objects h ≡ left t (object_at s.objects h)
    own same (inl ended) =
        let here : object_at (exited s t).objects h ≡ Thread true = ap (λ x. object_at (slice_set (map (left t) s.objects) t (Thread true)) x) same ∙ ended in
        absurd (false≢true (sym (ap is_plain here) ∙ plain))
    own same (inr stays) =
        ap (λ x. object_at (slice_set (map (left t) s.objects) t (Thread true)) x) same ∙ (stays ∙ (left_at t s.objects t ∙ ap (λ x. left t (object_at s.objects x)) (sym same)))

-- what a call does to the object at h before waits are served
abbrev pub changed_at : ℕ → ℕ → Call → ℕ → Object → Object
changed_at n t (Call.Act act) h o = acted n t act h o
changed_at n t (Call.Wait (WaitCall.Swap g object mode)) h o = cond (g == h) (signal o) o
changed_at n t Call.Exit h o = left t o
changed_at n t _ h o = o

pub change_object : (s : State) (t : ℕ) (call : Call) (h : ℕ) → refusal s t false call ≡ None → is_plain (object_at (change s t call).objects h) ≡ true → object_at (change s t call).objects h ≡ changed_at (length s.objects) t call h (object_at s.objects h)
change_object s t (Call.Act act) h none plain = act_object s t act h none plain
change_object s t (Call.Wait (WaitCall.Objects all mode handles)) h none plain = refl
change_object s t (Call.Wait (WaitCall.Sleep mode)) h none plain = refl
change_object s t (Call.Wait (WaitCall.Swap g object mode)) h none plain = with_object_at s.objects g h signal refl
change_object s t Call.Exit h none plain = exited_object s t h plain

pub change_waits : (s : State) (t : ℕ) (call : Call) → (change s t call).waits ≡ s.waits
change_waits s t (Call.Act act) = act_waits s t act
change_waits s t (Call.Wait (WaitCall.Objects all mode handles)) = refl
change_waits s t (Call.Wait (WaitCall.Sleep mode)) = refl
change_waits s t (Call.Wait (WaitCall.Swap g object mode)) = refl
change_waits s t Call.Exit = refl

-- what becomes of the object at h once waits are served
abbrev pub settled_at : Call → ℕ → Object → Object
settled_at (Call.Act (Act.PulseEvent g)) h o = cond (g == h) (with_set false o) o
settled_at _ h o = o

pub settled_object : (call : Call) (s : State) (h : ℕ) → object_at (after_serving call s).objects h ≡ settled_at call h (object_at s.objects h)
settled_object (Call.Act (Act.PulseEvent g)) s h = with_object_at s.objects g h (with_set false) refl
settled_object _ s h = refl

pub settled_waits : (call : Call) (s : State) → (after_serving call s).waits ≡ s.waits
settled_waits (Call.Act (Act.PulseEvent g)) s = refl
settled_waits _ s = refl
