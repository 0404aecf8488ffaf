-- Refusals, and what handles name, renamed.
use Rattle.std.proofs.Common.{◌≡◌, ℕ, ℤ, pos, Bool, not, ◌&&◌, ◌||◌, List, [], ◌∷◌, length, map, refl, sym, ap, ◌∙◌, subst, arith, Option, Some, None, is_some, is_none}
use Rattle.std.specs.Prelude.{◌==◌, nat_le, nat_lt, int_lt, int_le, if◌then◌else◌, option_map, MatchOption, IsTrue}
use Rattle.std.specs.List.{list_any}
use Rattle.std.specs.FinMap as fin
use Rattle.nt_status.specs.Access.{access_bits, synchronize, modify_state, set_context}
use Rattle.nt_status.specs.Flags.{has_flag, only_known, event_bits, mutex_bits, timer_bits}
use Rattle.nt_status.specs.declared.limits.TheConstants.{MAX_HANDLES, MAX_WAIT_OBJECTS}
use Rattle.nt_status.specs.declared.refusal.Refusal.{Refusal}
use Rattle.nt_status.specs.declared.refusal.Refusal.TheVariants.{AccessDenied, InvalidHandle, Memory, ThreadGone, InvalidParameter, NotOwner, TooManyPosts, ThreadWaiting, ThreadEnded, UnknownThread, RecursionLimit, HandleLimit}
use Rattle.nt_objects.specs.declared.object.Object.{Object}
use Rattle.nt_objects.specs.declared.object.Object.TheVariants.{Mutex, Timer}
use Rattle.nt_objects.specs.declared.object.Armed.{Armed}
use Rattle.nt_objects.specs.Object.{is_event, is_semaphore, is_mutex, is_timer, is_thread, has_ended, owned_by, has_room, overflows, may_count}
use Rattle.nt_tables.specs.declared.handles.Opened.{Opened}
use Rattle.nt_tables.specs.Handles.{opened_at}
use Rattle.nt_waits.specs.declared.wait.Wait.{Wait}
use Rattle.nt_apc.specs.Queues.{has_apc}
use Rattle.nt_calls.specs.declared.call.Call.{Call}
use Rattle.nt_calls.specs.declared.call.Act.{Act}
use Rattle.nt_calls.specs.declared.call.WaitCall.{WaitCall}
use Rattle.nt_calls.specs.Calls.{act_grows}
use Rattle.nt_calls.specs.Naming.{object_in, object_named, access_in, lacks, act_named, call_named}
use Rattle.nt_calls.specs.Rights.{signal_denied, is_denied}
use Rattle.nt_calls.specs.State.{State, object_at, pends}
use Rattle.nt_calls.specs.Serving.{fits}
use Rattle.nt_calls.specs.Steps.{asked_wait, timeout_of}
use Rattle.nt_calls.specs.Refusals.{Cause, first_of_causes, is_full, is_unknown, is_no, has_twice, is_at_limit, is_foreign, may_signal, act_causes, wait_causes, call_causes, refusal, would_pend, grows, IsRefusal}
use Rattle.nt_apart.specs.Fewer.{IsRenaming, IsRenamed, renamed_armed, renamed_opened, renamed_wait, renamed_act, renamed_waiting, renamed_call}
use Rattle.nt_apart.proofs.Renaming.{same_test, le_test, any_renamed, length_map}
use Rattle.nt_apart.proofs.RenamedObjects.{kept_by, owned_renamed, fits_renamed}
use Rattle.nt_apart.proofs.RenamedStates.{objects_of, has_apc_renamed}
use Rattle.nt_apart.proofs.RenamedChanges.{asked_renamed, timeout_renamed}

-- ---- what handles name

object_there : (r : ℕ → ℕ) → r MAX_HANDLES ≡ MAX_HANDLES → (o : Option Opened) → object_in (option_map (renamed_opened r) o) ≡ r (object_in o)
object_there r none None = sym none
object_there r none (Some opened) = refl

access_there : (r : ℕ → ℕ) (o : Option Opened) → access_in (option_map (renamed_opened r) o) ≡ access_in o
access_there r None = refl
access_there r (Some opened) = refl

named_renamed : (r : ℕ → ℕ) (s u : State) → IsRenamed r s u → (h : ℕ) → object_named u.handles (r h) ≡ r (object_named s.handles h)
named_renamed r s u are h = ap (λ (o : Option Opened). object_in o) (are.handles.each h) ∙ object_there r (are.renaming.outside MAX_HANDLES are.few) (opened_at s.handles h)

lacks_renamed : (r : ℕ → ℕ) (s u : State) → IsRenamed r s u → (access h : ℕ) → lacks access u.handles (r h) ≡ lacks access s.handles h
lacks_renamed r s u are access h = ap (λ (k : ℕ). not (has_flag k access)) (ap (λ (o : Option Opened). access_in o) (are.handles.each h) ∙ access_there r (opened_at s.handles h))

pub call_named_renamed : (r : ℕ → ℕ) (s u : State) → IsRenamed r s u → (call : Call) → call_named u.handles (renamed_call r call) ≡ renamed_call r (call_named s.handles call)
call_named_renamed r s u are call = at call
  where
    n : (h : ℕ) → object_named u.handles (r h) ≡ r (object_named s.handles h)
    n h = named_renamed r s u are h

    act : (a : Act) → act_named u.handles (renamed_act r a) ≡ renamed_act r (act_named s.handles a)
    act (Act.CreateEvent flags) = refl
    act (Act.CreateSemaphore initial maximum) = refl
    act (Act.CreateMutex flags) = refl
    act (Act.SetEvent h) = ap (λ (k : ℕ). Act.SetEvent k) (n h)
    act (Act.ResetEvent h) = ap (λ (k : ℕ). Act.ResetEvent k) (n h)
    act (Act.PulseEvent h) = ap (λ (k : ℕ). Act.PulseEvent k) (n h)
    act (Act.ReleaseSemaphore h more) = ap (λ (k : ℕ). Act.ReleaseSemaphore k more) (n h)
    act (Act.ReleaseMutex h) = ap (λ (k : ℕ). Act.ReleaseMutex k) (n h)
    act (Act.CreateTimer flags) = refl
    act (Act.SetTimer h due period routine) = ap (λ (k : ℕ). Act.SetTimer k due period routine) (n h)
    act (Act.CancelTimer h) = ap (λ (k : ℕ). Act.CancelTimer k) (n h)
    act (Act.QueueApc h routine arg) = ap (λ (k : ℕ). Act.QueueApc k routine arg) (n h)
    act Act.NextApc = refl
    act (Act.Duplicate h access) = ap (λ (k : ℕ). Act.Duplicate k access) (n h)
    act (Act.Close h) = refl

    each : (hs : List ℕ) → map (object_named u.handles) (map r hs) ≡ map r (map (object_named s.handles) hs)
    each [] = refl
    each (h ∷ hs) = ap (λ (k : ℕ). k ∷ map (object_named u.handles) (map r hs)) (n h) ∙ ap (λ (l : List ℕ). r (object_named s.handles h) ∷ l) (each hs)

    at : (c : Call) → call_named u.handles (renamed_call r c) ≡ renamed_call r (call_named s.handles c)
    at (Call.Act a) = ap (λ (x : Act). Call.Act x) (act a)
    at (Call.Wait (WaitCall.Objects all mode hs)) = ap (λ (l : List ℕ). Call.Wait (WaitCall.Objects all mode l)) (each hs)
    at (Call.Wait (WaitCall.Sleep mode)) = refl
    at (Call.Wait (WaitCall.Swap h object mode)) =
        ap (λ (k : ℕ). Call.Wait (WaitCall.Swap k (object_named u.handles (r object)) mode)) (n h) ∙ ap (λ (k : ℕ). Call.Wait (WaitCall.Swap (r (object_named s.handles h)) k mode)) (n object)
    at Call.Exit = refl

-- ---- tests of objects

-- a test of an object that does not tell of threads
told : {X : Type 0} (r : ℕ → ℕ) (s u : State) → IsRenamed r s u → (f : Object → X)
    → ((owner : Option ℕ) (depth : ℕ) (abandoned : Bool) → f (Mutex (option_map r owner) depth abandoned) ≡ f (Mutex owner depth abandoned))
    → ((manual set : Bool) (armed : Option Armed) → f (Timer manual set (option_map (renamed_armed r) armed)) ≡ f (Timer manual set armed))
    → (h : ℕ) → f (object_at u.objects (r h)) ≡ f (object_at s.objects h)
told r s u are f m t h = ap (λ (o : Object). f o) (are.objects.each h) ∙ kept_by r f m t (object_at s.objects h)

pub denied_renamed : (r : ℕ → ℕ) (s u : State) → IsRenamed r s u → (call : Call) → is_denied u (renamed_call r call) ≡ is_denied s call
denied_renamed r s u are call = at call
  where
    l : (access h : ℕ) → lacks access u.handles (r h) ≡ lacks access s.handles h
    l access h = lacks_renamed r s u are access h

    mutex : (h : ℕ) → is_mutex (object_at u.objects (object_named u.handles (r h))) ≡ is_mutex (object_at s.objects (object_named s.handles h))
    mutex h = ap (λ (k : ℕ). is_mutex (object_at u.objects k)) (named_renamed r s u are h) ∙ told r s u are is_mutex (λ owner depth abandoned. refl) (λ manual set armed. refl) (object_named s.handles h)

    at : (c : Call) → is_denied u (renamed_call r c) ≡ is_denied s c
    at (Call.Act (Act.CreateEvent flags)) = refl
    at (Call.Act (Act.CreateSemaphore initial maximum)) = refl
    at (Call.Act (Act.CreateMutex flags)) = refl
    at (Call.Act (Act.SetEvent h)) = l modify_state h
    at (Call.Act (Act.ResetEvent h)) = l modify_state h
    at (Call.Act (Act.PulseEvent h)) = l modify_state h
    at (Call.Act (Act.ReleaseSemaphore h more)) = l modify_state h
    at (Call.Act (Act.ReleaseMutex h)) = refl
    at (Call.Act (Act.CreateTimer flags)) = refl
    at (Call.Act (Act.SetTimer h due period routine)) = l modify_state h
    at (Call.Act (Act.CancelTimer h)) = l modify_state h
    at (Call.Act (Act.QueueApc h routine arg)) = l set_context h
    at (Call.Act Act.NextApc) = refl
    at (Call.Act (Act.Duplicate h access)) = l access h
    at (Call.Act (Act.Close h)) = refl
    at (Call.Wait (WaitCall.Objects all mode hs)) = any_renamed r (lacks synchronize s.handles) (lacks synchronize u.handles) (l synchronize) hs
    at (Call.Wait (WaitCall.Sleep mode)) = refl
    at (Call.Wait (WaitCall.Swap h object mode)) =
        ap (λ (b : Bool). (not b && lacks modify_state u.handles (r h)) || lacks synchronize u.handles (r object)) (mutex h)
        ∙ (ap (λ (b : Bool). (not (is_mutex (object_at s.objects (object_named s.handles h))) && b) || lacks synchronize u.handles (r object)) (l modify_state h)
        ∙ ap (λ (b : Bool). signal_denied s.handles s.objects h || b) (l synchronize object))
    at Call.Exit = refl

-- ---- causes

-- the first cause, after one that is tested the same
next_cause : (a b : Bool) (x : Refusal) (cs ds : List Cause) → b ≡ a → first_of_causes ds ≡ first_of_causes cs → first_of_causes ((b, x) ∷ ds) ≡ first_of_causes ((a, x) ∷ cs)
next_cause a b x cs ds same rest = ap (λ (c : Bool). if c then Some x else first_of_causes ds) same ∙ ap (λ (o : Option Refusal). if a then Some x else o) rest

full_renamed : (r : ℕ → ℕ) (s u : State) → IsRenamed r s u → is_full u.handles ≡ is_full s.handles
full_renamed r s u are = ap (λ (k : ℕ). nat_le MAX_HANDLES k) are.handles.count

unknown_renamed : (r : ℕ → ℕ) (s u : State) → IsRenamed r s u → (h : ℕ) → is_unknown u.objects (r h) ≡ is_unknown s.objects h
unknown_renamed r s u are h = ap (λ (k : ℕ). nat_le k (r h)) are.objects.count ∙ le_test s.threads r are.renaming (length s.objects) h are.objects.enough

owner_renamed : (r : ℕ → ℕ) (s u : State) → IsRenamed r s u → (t h : ℕ) → owned_by (object_at u.objects (r h)) (r t) ≡ owned_by (object_at s.objects h) t
owner_renamed r s u are t h = ap (λ (o : Object). owned_by o (r t)) (are.objects.each h) ∙ owned_renamed s.threads r are.renaming (object_at s.objects h) t

limit_renamed : (r : ℕ → ℕ) (s u : State) → IsRenamed r s u → (t h : ℕ) → is_at_limit u.objects (r t) (r h) ≡ is_at_limit s.objects t h
limit_renamed r s u are t h =
    ap (λ (b : Bool). b && not (has_room (object_at u.objects (r h)))) (owner_renamed r s u are t h)
    ∙ ap (λ (b : Bool). owned_by (object_at s.objects h) t && not b) (told r s u are has_room (λ owner depth abandoned. refl) (λ manual set armed. refl) h)

foreign_renamed : (r : ℕ → ℕ) (s u : State) → IsRenamed r s u → (t h : ℕ) → is_foreign u.objects (r t) (r h) ≡ is_foreign s.objects t h
foreign_renamed r s u are t h =
    ap (λ (b : Bool). b && not (owned_by (object_at u.objects (r h)) (r t))) (told r s u are is_mutex (λ owner depth abandoned. refl) (λ manual set armed. refl) h)
    ∙ ap (λ (b : Bool). is_mutex (object_at s.objects h) && not b) (owner_renamed r s u are t h)

twice_renamed : (n : ℕ) (r : ℕ → ℕ) → IsRenaming n r → (hs : List ℕ) → has_twice (map r hs) ≡ has_twice hs
twice_renamed n r ren [] = refl
twice_renamed n r ren (h ∷ hs) =
    ap (λ (b : Bool). b || has_twice (map r hs)) (any_renamed r (λ (x : ℕ). x == h) (λ (x : ℕ). x == r h) (λ x. same_test n r ren x h) hs)
    ∙ ap (λ (b : Bool). list_any (λ (x : ℕ). x == h) hs || b) (twice_renamed n r ren hs)

call_causes_renamed : (r : ℕ → ℕ) (s u : State) → IsRenamed r s u → (t : ℕ) (denied : Bool) (call : Call) → first_of_causes (call_causes u (r t) denied (renamed_call r call)) ≡ first_of_causes (call_causes s t denied call)
call_causes_renamed r s u are t denied call = at call
  where
    creation : (lawful : Bool) → first_of_causes ((not lawful, InvalidParameter) ∷ (is_full u.handles, HandleLimit) ∷ []) ≡ first_of_causes ((not lawful, InvalidParameter) ∷ (is_full s.handles, HandleLimit) ∷ [])
    creation lawful = next_cause (not lawful) (not lawful) InvalidParameter ((is_full s.handles, HandleLimit) ∷ []) ((is_full u.handles, HandleLimit) ∷ []) refl (next_cause (is_full s.handles) (is_full u.handles) HandleLimit [] [] (full_renamed r s u are) refl)

    event : (h : ℕ) → is_no is_event u.objects (r h) ≡ is_no is_event s.objects h
    event h = ap not (told r s u are is_event (λ owner depth abandoned. refl) (λ manual set armed. refl) h)

    timer : (h : ℕ) → is_no is_timer u.objects (r h) ≡ is_no is_timer s.objects h
    timer h = ap not (told r s u are is_timer (λ owner depth abandoned. refl) (λ manual set armed. refl) h)

    over : (n : ℤ) (h : ℕ) → overflows n (object_at u.objects (r h)) ≡ overflows n (object_at s.objects h)
    over n h = told r s u are (overflows n) (λ owner depth abandoned. refl) (λ manual set armed. refl) h

    kind : (f : Object → Bool) (h : ℕ) → is_no f u.objects (r h) ≡ is_no f s.objects h → first_of_causes ((is_no f u.objects (r h), InvalidHandle) ∷ (denied, AccessDenied) ∷ []) ≡ first_of_causes ((is_no f s.objects h, InvalidHandle) ∷ (denied, AccessDenied) ∷ [])
    kind f h same = next_cause (is_no f s.objects h) (is_no f u.objects (r h)) InvalidHandle ((denied, AccessDenied) ∷ []) ((denied, AccessDenied) ∷ []) same refl

    none_in : (o : Option Opened) → is_none (option_map (renamed_opened r) o) ≡ is_none o
    none_in None = refl
    none_in (Some opened) = refl

    act : (a : Act) → first_of_causes (act_causes u.handles u.objects (r t) denied (renamed_act r a)) ≡ first_of_causes (act_causes s.handles s.objects t denied a)
    act (Act.CreateEvent flags) = creation (only_known event_bits flags)
    act (Act.CreateSemaphore initial maximum) = creation (may_count initial maximum)
    act (Act.CreateMutex flags) = creation (only_known mutex_bits flags)
    act (Act.SetEvent h) = kind is_event h (event h)
    act (Act.ResetEvent h) = kind is_event h (event h)
    act (Act.PulseEvent h) = kind is_event h (event h)
    act (Act.ReleaseSemaphore h n) =
        (next_cause (is_no is_semaphore s.objects h) (is_no is_semaphore u.objects (r h)) InvalidHandle
        ((denied, AccessDenied) ∷ (int_le n (pos 0), InvalidParameter) ∷ (overflows n (object_at s.objects h), TooManyPosts) ∷ [])
        ((denied, AccessDenied) ∷ (int_le n (pos 0), InvalidParameter) ∷ (overflows n (object_at u.objects (r h)), TooManyPosts) ∷ [])
        (ap not (told r s u are is_semaphore (λ owner depth abandoned. refl) (λ manual set armed. refl) h))
        (next_cause (denied) (denied) AccessDenied
        ((int_le n (pos 0), InvalidParameter) ∷ (overflows n (object_at s.objects h), TooManyPosts) ∷ [])
        ((int_le n (pos 0), InvalidParameter) ∷ (overflows n (object_at u.objects (r h)), TooManyPosts) ∷ [])
        (refl)
        (next_cause (int_le n (pos 0)) (int_le n (pos 0)) InvalidParameter
        ((overflows n (object_at s.objects h), TooManyPosts) ∷ [])
        ((overflows n (object_at u.objects (r h)), TooManyPosts) ∷ [])
        (refl)
        (next_cause (overflows n (object_at s.objects h)) (overflows n (object_at u.objects (r h))) TooManyPosts
        []
        []
        (over n h)
        refl))))
    act (Act.ReleaseMutex h) =
        (next_cause (is_no is_mutex s.objects h) (is_no is_mutex u.objects (r h)) InvalidHandle
        ((is_foreign s.objects t h, NotOwner) ∷ [])
        ((is_foreign u.objects (r t) (r h), NotOwner) ∷ [])
        (ap not (told r s u are is_mutex (λ owner depth abandoned. refl) (λ manual set armed. refl) h))
        (next_cause (is_foreign s.objects t h) (is_foreign u.objects (r t) (r h)) NotOwner
        []
        []
        (foreign_renamed r s u are t h)
        refl))
    act (Act.CreateTimer flags) = creation (only_known timer_bits flags)
    act (Act.SetTimer h due period routine) =
        (next_cause (is_no is_timer s.objects h) (is_no is_timer u.objects (r h)) InvalidHandle
        ((denied, AccessDenied) ∷ (int_lt period (pos 0), InvalidParameter) ∷ [])
        ((denied, AccessDenied) ∷ (int_lt period (pos 0), InvalidParameter) ∷ [])
        (ap not (told r s u are is_timer (λ owner depth abandoned. refl) (λ manual set armed. refl) h))
        (next_cause (denied) (denied) AccessDenied
        ((int_lt period (pos 0), InvalidParameter) ∷ [])
        ((int_lt period (pos 0), InvalidParameter) ∷ [])
        (refl)
        (next_cause (int_lt period (pos 0)) (int_lt period (pos 0)) InvalidParameter
        []
        []
        (refl)
        refl)))
    act (Act.CancelTimer h) = kind is_timer h (timer h)
    act (Act.QueueApc h routine arg) =
        (next_cause (is_unknown s.objects h || is_no is_thread s.objects h) (is_unknown u.objects (r h) || is_no is_thread u.objects (r h)) InvalidHandle
        ((denied, AccessDenied) ∷ (has_ended (object_at s.objects h), ThreadGone) ∷ [])
        ((denied, AccessDenied) ∷ (has_ended (object_at u.objects (r h)), ThreadGone) ∷ [])
        (ap (λ (b : Bool). b || is_no is_thread u.objects (r h)) (unknown_renamed r s u are h) ∙ ap (λ (b : Bool). is_unknown s.objects h || not b) (told r s u are is_thread (λ owner depth abandoned. refl) (λ manual set armed. refl) h))
        (next_cause (denied) (denied) AccessDenied
        ((has_ended (object_at s.objects h), ThreadGone) ∷ [])
        ((has_ended (object_at u.objects (r h)), ThreadGone) ∷ [])
        (refl)
        (next_cause (has_ended (object_at s.objects h)) (has_ended (object_at u.objects (r h))) ThreadGone
        []
        []
        (told r s u are has_ended (λ owner depth abandoned. refl) (λ manual set armed. refl) h)
        refl)))
    act Act.NextApc = refl
    act (Act.Duplicate object access) =
        (next_cause (is_unknown s.objects object) (is_unknown u.objects (r object)) InvalidHandle
        ((denied || not (only_known access_bits access), AccessDenied) ∷ (is_full s.handles, HandleLimit) ∷ [])
        ((denied || not (only_known access_bits access), AccessDenied) ∷ (is_full u.handles, HandleLimit) ∷ [])
        (unknown_renamed r s u are object)
        (next_cause (denied || not (only_known access_bits access)) (denied || not (only_known access_bits access)) AccessDenied
        ((is_full s.handles, HandleLimit) ∷ [])
        ((is_full u.handles, HandleLimit) ∷ [])
        (refl)
        (next_cause (is_full s.handles) (is_full u.handles) HandleLimit
        []
        []
        (full_renamed r s u are)
        refl)))
    act (Act.Close h) =
        (next_cause (is_none (opened_at s.handles h)) (is_none (opened_at u.handles (r h))) InvalidHandle
        []
        []
        (ap (λ (o : Option Opened). is_none o) (are.handles.each h) ∙ none_in (opened_at s.handles h))
        refl)

    wait : (w : WaitCall) → first_of_causes (wait_causes u.objects (r t) denied (renamed_waiting r w)) ≡ first_of_causes (wait_causes s.objects t denied w)
    wait (WaitCall.Objects all mode hs) =
        (next_cause (length hs == 0 || nat_lt MAX_WAIT_OBJECTS (length hs)) (length (map r hs) == 0 || nat_lt MAX_WAIT_OBJECTS (length (map r hs))) InvalidParameter
        ((list_any (is_unknown s.objects) hs, InvalidHandle) ∷ (denied, AccessDenied) ∷ (has_twice hs, InvalidParameter) ∷ (list_any (is_at_limit s.objects t) hs, RecursionLimit) ∷ [])
        ((list_any (is_unknown u.objects) (map r hs), InvalidHandle) ∷ (denied, AccessDenied) ∷ (has_twice (map r hs), InvalidParameter) ∷ (list_any (is_at_limit u.objects (r t)) (map r hs), RecursionLimit) ∷ [])
        (ap (λ (k : ℕ). (k == 0) || nat_lt MAX_WAIT_OBJECTS k) (length_map r hs))
        (next_cause (list_any (is_unknown s.objects) hs) (list_any (is_unknown u.objects) (map r hs)) InvalidHandle
        ((denied, AccessDenied) ∷ (has_twice hs, InvalidParameter) ∷ (list_any (is_at_limit s.objects t) hs, RecursionLimit) ∷ [])
        ((denied, AccessDenied) ∷ (has_twice (map r hs), InvalidParameter) ∷ (list_any (is_at_limit u.objects (r t)) (map r hs), RecursionLimit) ∷ [])
        (any_renamed r (is_unknown s.objects) (is_unknown u.objects) (unknown_renamed r s u are) hs)
        (next_cause (denied) (denied) AccessDenied
        ((has_twice hs, InvalidParameter) ∷ (list_any (is_at_limit s.objects t) hs, RecursionLimit) ∷ [])
        ((has_twice (map r hs), InvalidParameter) ∷ (list_any (is_at_limit u.objects (r t)) (map r hs), RecursionLimit) ∷ [])
        (refl)
        (next_cause (has_twice hs) (has_twice (map r hs)) InvalidParameter
        ((list_any (is_at_limit s.objects t) hs, RecursionLimit) ∷ [])
        ((list_any (is_at_limit u.objects (r t)) (map r hs), RecursionLimit) ∷ [])
        (twice_renamed s.threads r are.renaming hs)
        (next_cause (list_any (is_at_limit s.objects t) hs) (list_any (is_at_limit u.objects (r t)) (map r hs)) RecursionLimit
        []
        []
        (any_renamed r (is_at_limit s.objects t) (is_at_limit u.objects (r t)) (limit_renamed r s u are t) hs)
        refl)))))
    wait (WaitCall.Sleep mode) = refl
    wait (WaitCall.Swap h object mode) =
        (next_cause (is_no may_signal s.objects h) (is_no may_signal u.objects (r h)) InvalidHandle
        ((is_unknown s.objects object, InvalidHandle) ∷ (denied, AccessDenied) ∷ (is_foreign s.objects t h, NotOwner) ∷ (overflows (pos 1) (object_at s.objects h), TooManyPosts) ∷ (is_at_limit s.objects t object, RecursionLimit) ∷ [])
        ((is_unknown u.objects (r object), InvalidHandle) ∷ (denied, AccessDenied) ∷ (is_foreign u.objects (r t) (r h), NotOwner) ∷ (overflows (pos 1) (object_at u.objects (r h)), TooManyPosts) ∷ (is_at_limit u.objects (r t) (r object), RecursionLimit) ∷ [])
        (ap not (told r s u are may_signal (λ owner depth abandoned. refl) (λ manual set armed. refl) h))
        (next_cause (is_unknown s.objects object) (is_unknown u.objects (r object)) InvalidHandle
        ((denied, AccessDenied) ∷ (is_foreign s.objects t h, NotOwner) ∷ (overflows (pos 1) (object_at s.objects h), TooManyPosts) ∷ (is_at_limit s.objects t object, RecursionLimit) ∷ [])
        ((denied, AccessDenied) ∷ (is_foreign u.objects (r t) (r h), NotOwner) ∷ (overflows (pos 1) (object_at u.objects (r h)), TooManyPosts) ∷ (is_at_limit u.objects (r t) (r object), RecursionLimit) ∷ [])
        (unknown_renamed r s u are object)
        (next_cause (denied) (denied) AccessDenied
        ((is_foreign s.objects t h, NotOwner) ∷ (overflows (pos 1) (object_at s.objects h), TooManyPosts) ∷ (is_at_limit s.objects t object, RecursionLimit) ∷ [])
        ((is_foreign u.objects (r t) (r h), NotOwner) ∷ (overflows (pos 1) (object_at u.objects (r h)), TooManyPosts) ∷ (is_at_limit u.objects (r t) (r object), RecursionLimit) ∷ [])
        (refl)
        (next_cause (is_foreign s.objects t h) (is_foreign u.objects (r t) (r h)) NotOwner
        ((overflows (pos 1) (object_at s.objects h), TooManyPosts) ∷ (is_at_limit s.objects t object, RecursionLimit) ∷ [])
        ((overflows (pos 1) (object_at u.objects (r h)), TooManyPosts) ∷ (is_at_limit u.objects (r t) (r object), RecursionLimit) ∷ [])
        (foreign_renamed r s u are t h)
        (next_cause (overflows (pos 1) (object_at s.objects h)) (overflows (pos 1) (object_at u.objects (r h))) TooManyPosts
        ((is_at_limit s.objects t object, RecursionLimit) ∷ [])
        ((is_at_limit u.objects (r t) (r object), RecursionLimit) ∷ [])
        (over (pos 1) h)
        (next_cause (is_at_limit s.objects t object) (is_at_limit u.objects (r t) (r object)) RecursionLimit
        []
        []
        (limit_renamed r s u are t object)
        refl))))))

    at : (c : Call) → first_of_causes (call_causes u (r t) denied (renamed_call r c)) ≡ first_of_causes (call_causes s t denied c)
    at (Call.Act a) = act a
    at (Call.Wait w) = wait w
    at Call.Exit = refl

some_mapped : (r : ℕ → ℕ) (o : Option Wait) → is_some (option_map (renamed_wait r) o) ≡ is_some o
some_mapped r None = refl
some_mapped r (Some w) = refl

pub pends_renamed : (r : ℕ → ℕ) (s u : State) → IsRenamed r s u → (t : ℕ) → pends u (r t) ≡ pends s t
pends_renamed r s u are t = ap (λ (o : Option Wait). is_some o) (are.waits t) ∙ some_mapped r (fin.get s.waits t)

pub refusal_renamed : (r : ℕ → ℕ) (s u : State) → IsRenamed r s u → (t : ℕ) (denied : Bool) (call : Call) → refusal u (r t) denied (renamed_call r call) ≡ refusal s t denied call
refusal_renamed r s u are t denied call =
    next_cause (nat_le s.threads t) (nat_le u.threads (r t)) UnknownThread
    ((has_ended (object_at s.objects t), ThreadEnded) ∷ (pends s t, ThreadWaiting) ∷ call_causes s t denied call)
    ((has_ended (object_at u.objects (r t)), ThreadEnded) ∷ (pends u (r t), ThreadWaiting) ∷ call_causes u (r t) denied (renamed_call r call))
    (ap (λ (k : ℕ). nat_le k (r t)) are.threads ∙ le_test s.threads r are.renaming s.threads t (omega arith))
    (next_cause (has_ended (object_at s.objects t)) (has_ended (object_at u.objects (r t))) ThreadEnded
    ((pends s t, ThreadWaiting) ∷ call_causes s t denied call)
    ((pends u (r t), ThreadWaiting) ∷ call_causes u (r t) denied (renamed_call r call))
    (told r s u are has_ended (λ owner depth abandoned. refl) (λ manual set armed. refl) t)
    (next_cause (pends s t) (pends u (r t)) ThreadWaiting
    (call_causes s t denied call)
    (call_causes u (r t) denied (renamed_call r call))
    (pends_renamed r s u are t)
    (call_causes_renamed r s u are t denied call)))

would_renamed : (r : ℕ → ℕ) (s u : State) → IsRenamed r s u → (t : ℕ) (w : Wait) (ms : ℕ) → would_pend u (r t) (renamed_wait r w) ms ≡ would_pend s t w ms
would_renamed r s u are t w ms =
    ap (λ (b : Bool). not b && not (w.alertable && has_apc u.apcs (r t)) && not (ms == 0)) (fits_renamed s.threads r s.objects u.objects (objects_of r s u are) t w)
    ∙ ap (λ (b : Bool). not (fits s.objects t w) && not (w.alertable && b) && not (ms == 0)) (has_apc_renamed s.threads r s.apcs u.apcs are.apcs t)

grows_renamed : (r : ℕ → ℕ) (s u : State) → IsRenamed r s u → (t : ℕ) (call : Call) → grows u (r t) (renamed_call r call) ≡ grows s t call
grows_renamed r s u are t (Call.Act a) = act a
  where
    act : (a : Act) → act_grows (renamed_act r a) ≡ act_grows a
    act (Act.CreateEvent flags) = refl
    act (Act.CreateSemaphore initial maximum) = refl
    act (Act.CreateMutex flags) = refl
    act (Act.SetEvent h) = refl
    act (Act.ResetEvent h) = refl
    act (Act.PulseEvent h) = refl
    act (Act.ReleaseSemaphore h n) = refl
    act (Act.ReleaseMutex h) = refl
    act (Act.CreateTimer flags) = refl
    act (Act.SetTimer h due period routine) = refl
    act (Act.CancelTimer h) = refl
    act (Act.QueueApc h routine arg) = refl
    act Act.NextApc = refl
    act (Act.Duplicate h access) = refl
    act (Act.Close h) = refl
grows_renamed r s u are t (Call.Wait wait) =
    ap (λ (w : Wait). would_pend u (r t) w (timeout_of (renamed_waiting r wait)) && not (length w.objects == 1)) (asked_renamed r s u are wait)
    ∙ (ap (λ (ms : ℕ). would_pend u (r t) (renamed_wait r (asked_wait s.now wait)) ms && not (length (map r (asked_wait s.now wait).objects) == 1)) (timeout_renamed r wait)
    ∙ (ap (λ (b : Bool). b && not (length (map r (asked_wait s.now wait).objects) == 1)) (would_renamed r s u are t (asked_wait s.now wait) (timeout_of wait))
    ∙ ap (λ (k : ℕ). would_pend s t (asked_wait s.now wait) (timeout_of wait) && not (k == 1)) (length_map r (asked_wait s.now wait).objects)))
grows_renamed r s u are t Call.Exit = refl

pub is_refusal_renamed : (r : ℕ → ℕ) (s u : State) → IsRenamed r s u → (t : ℕ) (denied : Bool) (call : Call) (x : Refusal) → IsRefusal s t denied call x → IsRefusal u (r t) denied (renamed_call r call) x
is_refusal_renamed r s u are t denied call x is =
    subst (λ (o : Option Refusal). MatchOption o (IsTrue (grows u (r t) (renamed_call r call)) × (x ≡ Memory)) (λ first. x ≡ first)) (sym (refusal_renamed r s u are t denied call))
    (subst (λ (b : Bool). MatchOption (refusal s t denied call) (IsTrue b × (x ≡ Memory)) (λ first. x ≡ first)) (sym (grows_renamed r s u are t call)) is)
