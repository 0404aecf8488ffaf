-- An accepted call adds an object with a handle, adds a handle to one that there is, closes a handle, or changes objects of which
-- none ends. A new call asks for a line in `change_kind`.
use Rattle.std.proofs.Common.{◌≡◌, ◌-◌, ◌≤◌, ◌<◌, ℕ, zero, suc, Bool, true, false, cond, not, ◌||◌, ◌==◌, List, [], ◌∷◌, length, refl, sym, ap, ◌∙◌, arith, Option, Some, None, inl, inr, ◌⊎◌}
use Rattle.std.specs.Prelude.{ℤ, nat_le, map, unsigned_abs}
use Rattle.std.proofs.lemmas.Bool.Decides.{nat_tests}
use Rattle.std.proofs.lemmas.List.{length-map}
use Rattle.nt_status.specs.Flags.{has_flag, only_known, mutex_initial_owner}
use Rattle.nt_status.specs.Access.{access_bits}
use Rattle.nt_status.specs.declared.refusal.Refusal.TheVariants.{UnknownThread, ThreadEnded, ThreadWaiting, InvalidHandle, AccessDenied, HandleLimit}
use Rattle.nt_objects.specs.declared.object.Object.{Object}
use Rattle.nt_objects.specs.declared.object.Object.TheVariants.{Event, Semaphore, Mutex, Timer, Thread, Gone}
use Rattle.nt_objects.specs.declared.object.Armed.{Armed}
use Rattle.nt_tables.specs.declared.handles.Opened.{Opened}
use Rattle.nt_tables.specs.Handles.{opened_at}
use Rattle.nt_objects.specs.Object.{is_gone, has_ended, setting_of, rearmed, event_of, mutex_of, timer_of, with_set, released, unlocked, armed_with, abandoned_by, unset_by, set_by}
use Rattle.nt_apc.specs.Queues.{oldest_taken, withdrawn}
use Rattle.nt_apc.specs.declared.apc.Queued.{Queued}
use Rattle.nt_status.specs.declared.limits.TheConstants.{MAX_HANDLES}
use Rattle.nt_calls.specs.declared.call.Call.{Call}
use Rattle.nt_calls.specs.declared.call.Act.{Act}
use Rattle.nt_calls.specs.declared.call.WaitCall.{WaitCall}
use Rattle.nt_calls.specs.State.{State, object_at, pends, with_object, with_handing}
use Rattle.nt_calls.specs.Naming.{call_named, object_named, object_in, access_in, lacks, no_object}
use Rattle.nt_calls.specs.Rights.{is_denied}
use Rattle.nt_calls.specs.Refusals.{Cause, first_of_causes, call_causes, refusal, is_full, is_unknown}
use Rattle.nt_calls.specs.Change.{handle_closed, notified, expired_as, apc_taken, created, opened_too, signal, change, may_take, expired, armed_anew, timer_set, due_moment, routine_for, exited}
use Rattle.nt_laws.specs.Laws.{call_closes}
use Rattle.nt_machine.proofs.Accepting.{next_causes, free_caller}
use Rattle.nt_machine.proofs.Lives.{not_gone}
use Rattle.nt_machine.proofs.Judging.{undenied}
use Rattle.nt_laws.proofs.Lasting.{SameLife, life_set, KeepsLife, life_changed, life_same, life_then, set_life, armed_life, rearmed_life}

-- ---- the kinds of changes

-- an object was created, with a handle
pub record IsCreated (old new : State) : Type 0 where
  pub object : Object
  pub lives : is_gone object ≡ false
  pub is : new ≡ created old object

-- a handle was added, of an object that another handle names, which has each of its rights
pub record IsDuplicated (old new : State) : Type 0 where
  pub source : ℕ
  pub opened : Opened
  pub access : ℕ
  pub named : opened_at old.handles source ≡ Some opened
  pub has : has_flag opened.access access ≡ true
  pub is : new ≡ opened_too old opened.object access

-- objects were changed, and none of them ended
pub record IsSame (old new : State) : Type 0 where
  pub life : SameLife old.objects new.objects
  pub handles : new.handles ≡ old.handles
  pub threads : new.threads ≡ old.threads
  pub waits : new.waits ≡ old.waits
  pub queues : new.queues ≡ old.queues

-- a handle was closed
pub record IsClosed (call : Call) (old new : State) : Type 0 where
  pub handle : ℕ
  pub closes : (h : ℕ) → call_closes h call ≡ (handle == h)
  pub is : new ≡ handle_closed old handle

pub record ClosesNone (call : Call) : Type 0 where
  pub none : (h : ℕ) → call_closes h call ≡ false

abbrev pub Kind : Call → State → State → Type 0
Kind call old new = (ClosesNone call × (IsCreated old new ⊎ (IsDuplicated old new ⊎ IsSame old new))) ⊎ IsClosed call old new

-- ---- what no call ends

released_life : (count : ℤ) → KeepsLife (released count)
released_life count (Event manual set) = refl
released_life count (Semaphore own maximum) = refl
released_life count (Mutex owner depth abandoned) = refl
released_life count (Timer manual set armed) = refl
released_life count (Thread ended) = refl
released_life count Gone = refl

unlocked_life : KeepsLife unlocked
unlocked_life (Event manual set) = refl
unlocked_life (Semaphore count maximum) = refl
unlocked_life (Mutex owner depth abandoned) = go (nat_le depth 1)
  where
    go : (b : Bool) → is_gone (cond b (Mutex None 0 false) (Mutex owner (depth - 1) abandoned)) ≡ false
    go true = refl
    go false = refl
unlocked_life (Timer manual set armed) = refl
unlocked_life (Thread ended) = refl
unlocked_life Gone = refl

signal_life : KeepsLife signal
signal_life (Event manual set) = refl
signal_life (Semaphore count maximum) = refl
signal_life (Mutex owner depth abandoned) = unlocked_life (Mutex owner depth abandoned)
signal_life (Timer manual set armed) = refl
signal_life (Thread ended) = refl
signal_life Gone = refl

left_life : (t : ℕ) → KeepsLife (λ o. unset_by t (abandoned_by t o))
left_life t (Event manual set) = refl
left_life t (Semaphore count maximum) = refl
left_life t (Mutex None depth abandoned) = refl
left_life t (Mutex (Some owner) depth abandoned) = go (owner == t)
  where
    go : (b : Bool) → is_gone (unset_by t (cond b (Mutex None 0 true) (Mutex (Some owner) depth abandoned))) ≡ false
    go true = refl
    go false = refl
left_life t (Timer manual set None) = refl
left_life t (Timer manual set (Some armed)) = go (set_by armed.routine t)
  where
    go : (b : Bool) → is_gone (cond b (Timer manual set None) (Timer manual set (Some armed))) ≡ false
    go true = refl
    go false = refl
left_life t (Thread ended) = refl
left_life t Gone = refl

mutex_lives : (flags t : ℕ) → is_gone (mutex_of flags t) ≡ false
mutex_lives flags t = go (has_flag flags mutex_initial_owner)
  where
    go : (b : Bool) → is_gone (cond b (Mutex (Some t) 1 false) (Mutex None 0 false)) ≡ false
    go true = refl
    go false = refl

-- each object by itself
life_mapped : (f : Object → Object) → KeepsLife f → f (Thread false) ≡ Thread false → (os : List Object) → SameLife os (map f os)
life_mapped f keeps still os = record { count = length-map os f; gone = each os }
  where
    each : (os : List Object) (h : ℕ) → is_gone (object_at (map f os) h) ≡ is_gone (object_at os h)
    each [] h = refl
    each (o ∷ os) zero = keeps o
    each (o ∷ os) (suc h) = each os h

-- a thread that runs ends, and its object stays
exited_life : (s : State) (t : ℕ) → has_ended (object_at s.objects t) ≡ false → SameLife s.objects (exited s t).objects
exited_life s t runs =
    let each = life_mapped (λ o. unset_by t (abandoned_by t o)) (left_life t) refl s.objects in
    life_then s.objects (map (λ o. unset_by t (abandoned_by t o)) s.objects) (exited s t).objects each
    (life_set (map (λ o. unset_by t (abandoned_by t o)) s.objects) t (Thread true) (sym (not_gone (object_at s.objects t) runs) ∙ sym (each.gone t)))

-- ---- changes of objects alone

changed_objects : (s : State) (os : List Object) → SameLife s.objects os → IsSame s (record s { objects = os })
changed_objects s os life = record { life = life; handles = refl; threads = refl; waits = refl; queues = refl }

changed_one : (s : State) (g : ℕ) (f : Object → Object) → KeepsLife f → IsSame s (record s { objects = with_object s.objects g f })
changed_one s g f keeps = changed_objects s (with_object s.objects g f) (life_changed s.objects g f keeps)

nothing_changed : (s : State) → IsSame s s
nothing_changed s = changed_objects s s.objects (life_same s.objects)

same_then : (a b c : State) → IsSame a b → IsSame b c → IsSame a c
same_then a b c p q = record {
  life = life_then a.objects b.objects c.objects p.life q.life;
  handles = q.handles ∙ p.handles;
  threads = q.threads ∙ p.threads;
  waits = q.waits ∙ p.waits;
  queues = q.queues ∙ p.queues;
}

-- objects and APCs
changed_timer : (s : State) (timer : ℕ) (f : Object → Object) (apcs : List (List Queued)) → KeepsLife f → IsSame s (record s { objects = with_object s.objects timer f; apcs = apcs })
changed_timer s timer f apcs keeps = record { life = life_changed s.objects timer f keeps; handles = refl; threads = refl; waits = refl; queues = refl }

expired_same : (v : ℕ) (s : State) (timer : ℕ) → IsSame s (expired v s timer)
expired_same v s timer = go (setting_of (object_at s.objects timer))
  where
    go : (setting : Option Armed) → IsSame s (expired_as s v timer setting)
    go None = nothing_changed s
    go (Some armed) = changed_timer s timer (λ o. armed_with (rearmed v armed) (with_set true o)) (notified s.apcs timer armed.due armed.routine) (rearmed_life (rearmed v armed) true)

timer_set_same : (s : State) (timer : ℕ) (armed : Armed) → IsSame s (timer_set s timer armed)
timer_set_same s timer armed = go (nat_le armed.due s.now)
  where
    anew : IsSame s (armed_anew s timer armed)
    anew = changed_timer s timer (λ o. armed_with (Some armed) (with_set false o)) (withdrawn s.apcs timer) (rearmed_life (Some armed) false)

    go : (b : Bool) → IsSame s (cond b (expired s.now (armed_anew s timer armed) timer) (armed_anew s timer armed))
    go true = same_then s (armed_anew s timer armed) (expired s.now (armed_anew s timer armed) timer) anew (expired_same s.now (armed_anew s timer armed) timer)
    go false = anew

apc_taken_same : (s : State) (t : ℕ) → IsSame s (apc_taken s t)
apc_taken_same s t = go (may_take s t)
  where
    go : (b : Bool) → IsSame s (cond b (record s { apcs = oldest_taken s.apcs t }) (with_handing s t false))
    go true = record { life = life_same s.objects; handles = refl; threads = refl; waits = refl; queues = refl }
    go false = record { life = life_same s.objects; handles = refl; threads = refl; waits = refl; queues = refl }

exited_same : (s : State) (t : ℕ) → has_ended (object_at s.objects t) ≡ false → IsSame s (exited s t)
exited_same s t runs = record { life = exited_life s t runs; handles = refl; threads = refl; waits = refl; queues = refl }

-- ---- a duplicate has a source

pub call_causes_none : (s : State) (who : ℕ) (denied : Bool) (call : Call) → refusal s who denied call ≡ None → first_of_causes (call_causes s who denied call) ≡ None
call_causes_none s who denied call none =
    let first = next_causes (nat_le s.threads who) UnknownThread ((has_ended (object_at s.objects who), ThreadEnded) ∷ (pends s who, ThreadWaiting) ∷ call_causes s who denied call) none in
    let second = next_causes (has_ended (object_at s.objects who)) ThreadEnded ((pends s who, ThreadWaiting) ∷ call_causes s who denied call) first.1 in
    (next_causes (pends s who) ThreadWaiting (call_causes s who denied call) second.1).1

both_false : (a b : Bool) → (a || b) ≡ false → a ≡ false
both_false true b e = e
both_false false b e = refl

unnot : (b : Bool) → not b ≡ false → b ≡ true
unnot true e = refl
unnot false e = sym e

duplicated : (s : State) (t source access : ℕ) → length s.objects ≤ length s.handles → refusal s t (is_denied s (Call.Act (Act.Duplicate source access))) (call_named s.handles (Call.Act (Act.Duplicate source access))) ≡ None → IsDuplicated s (opened_too s (object_named s.handles source) access)
duplicated s t source access enough none = go (opened_at s.handles source) refl known.0 allowed.0 room.0
  where
    object : ℕ
    object = object_named s.handles source

    denied : Bool
    denied = lacks access s.handles source

    last : List Cause
    last = (is_full s.handles, HandleLimit) ∷ []

    beyond : Bool
    beyond = not (only_known access_bits access)

    known : (is_unknown s.objects object ≡ false) × (first_of_causes ((denied || beyond, AccessDenied) ∷ last) ≡ None)
    known =
        next_causes (is_unknown s.objects object) InvalidHandle ((denied || beyond, AccessDenied) ∷ last)
        (call_causes_none s t denied (Call.Act (Act.Duplicate object access)) none)

    allowed : ((denied || beyond) ≡ false) × (first_of_causes last ≡ None)
    allowed = next_causes (denied || beyond) AccessDenied last known.1

    room : (is_full s.handles ≡ false) × (first_of_causes [] ≡ None)
    room = next_causes (is_full s.handles) HandleLimit [] allowed.1

    go : (o : Option Opened) → opened_at s.handles source ≡ o → is_unknown s.objects object ≡ false → (denied || beyond) ≡ false → is_full s.handles ≡ false → IsDuplicated s (opened_too s object access)
    go (Some opened) named there may fits = record {
      source = source;
      opened = opened;
      access = access;
      named = named;
      has = sym (ap (λ o. has_flag (access_in o) access) named) ∙ unnot (has_flag (access_in (opened_at s.handles source)) access) (both_false denied beyond may);
      is = ap (λ o. opened_too s (object_in o) access) named;
    }
    go None named there may fits =
        let unknown : nat_le (length s.objects) no_object ≡ false = sym (ap (λ o. nat_le (length s.objects) (object_in o)) named) ∙ there in
        let more : no_object < length s.objects = grind (arith, nat_tests, unknown) in
        let fewer : length s.handles < MAX_HANDLES = grind (arith, nat_tests, fits) in
        absurd (omega (arith, enough, more, fewer))

-- ---- each call

pub change_kind : (s : State) (t : ℕ) (call : Call) → length s.objects ≤ length s.handles → refusal s t (is_denied s call) (call_named s.handles call) ≡ None → Kind call s (change s t (call_named s.handles call))
change_kind s t (Call.Act (Act.CreateEvent flags)) enough none = inl (record { none = λ h. refl }, inl (record { object = event_of flags; lives = refl; is = refl }))
change_kind s t (Call.Act (Act.CreateSemaphore initial maximum)) enough none = inl (record { none = λ h. refl }, inl (record { object = Semaphore initial maximum; lives = refl; is = refl }))
change_kind s t (Call.Act (Act.CreateMutex flags)) enough none = inl (record { none = λ h. refl }, inl (record { object = mutex_of flags t; lives = mutex_lives flags t; is = refl }))
change_kind s t (Call.Act (Act.CreateTimer flags)) enough none = inl (record { none = λ h. refl }, inl (record { object = timer_of flags; lives = refl; is = refl }))
change_kind s t (Call.Act (Act.Duplicate source access)) enough none = inl (record { none = λ h. refl }, inr (inl (duplicated s t source access enough none)))
change_kind s t (Call.Act (Act.SetEvent h)) enough none = inl (record { none = λ h. refl }, inr (inr (changed_one s (object_named s.handles h) (with_set true) (set_life true))))
change_kind s t (Call.Act (Act.ResetEvent h)) enough none = inl (record { none = λ h. refl }, inr (inr (changed_one s (object_named s.handles h) (with_set false) (set_life false))))
change_kind s t (Call.Act (Act.PulseEvent h)) enough none = inl (record { none = λ h. refl }, inr (inr (changed_one s (object_named s.handles h) (with_set true) (set_life true))))
change_kind s t (Call.Act (Act.ReleaseSemaphore h count)) enough none = inl (record { none = λ h. refl }, inr (inr (changed_one s (object_named s.handles h) (released count) (released_life count))))
change_kind s t (Call.Act (Act.ReleaseMutex h)) enough none = inl (record { none = λ h. refl }, inr (inr (changed_one s (object_named s.handles h) unlocked unlocked_life)))
change_kind s t (Call.Act (Act.SetTimer h due period routine)) enough none =
    inl (record { none = λ h. refl }, inr (inr (timer_set_same s (object_named s.handles h) (record { due = due_moment s.now due; period = unsigned_abs period; routine = routine_for t routine }))))
change_kind s t (Call.Act (Act.CancelTimer h)) enough none = inl (record { none = λ h. refl }, inr (inr (changed_timer s (object_named s.handles h) (armed_with None) (withdrawn s.apcs (object_named s.handles h)) (armed_life None))))
change_kind s t (Call.Act (Act.QueueApc h routine arg)) enough none = inl (record { none = λ h. refl }, inr (inr (record { life = life_same s.objects; handles = refl; threads = refl; waits = refl; queues = refl })))
change_kind s t (Call.Act Act.NextApc) enough none = inl (record { none = λ h. refl }, inr (inr (apc_taken_same s t)))
change_kind s t (Call.Act (Act.Close h)) enough none = inr (record { handle = h; closes = λ g. refl; is = refl })
change_kind s t (Call.Wait (WaitCall.Objects all mode handles)) enough none = inl (record { none = λ h. refl }, inr (inr (nothing_changed s)))
change_kind s t (Call.Wait (WaitCall.Sleep mode)) enough none = inl (record { none = λ h. refl }, inr (inr (nothing_changed s)))
change_kind s t (Call.Wait (WaitCall.Swap h object mode)) enough none = inl (record { none = λ h. refl }, inr (inr (changed_one s (object_named s.handles h) signal signal_life)))
change_kind s t Call.Exit enough none =
    inl (record { none = λ h. refl }, inr (inr (exited_same s t (free_caller s t Call.Exit (undenied s t (is_denied s Call.Exit) Call.Exit none)).1)))
