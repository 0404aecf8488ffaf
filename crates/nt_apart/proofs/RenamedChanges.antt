-- What a call changes, renamed.
use Rattle.std.proofs.Common.{◌≡◌, ℕ, ℤ, Bool, true, false, ◌&&◌, List, [], ◌∷◌, ◌++◌, length, map, refl, sym, ap, ◌∙◌, subst, arith, Option, Some, None, ◌<◌, ◌+◌, suc, not, ◌||◌}
use Rattle.std.specs.Prelude.{slice_index_or, slice_set, ◌==◌, nat_le, if◌then◌else◌, option_map, unsigned_abs, nat_lt}
use Rattle.nt_status.specs.Flags.{has_flag, mutex_initial_owner}
use Rattle.nt_objects.specs.declared.object.Object.{Object}
use Rattle.nt_objects.specs.declared.object.Object.TheVariants.{Semaphore, Mutex, Thread}
use Rattle.nt_objects.specs.declared.object.Armed.{Armed}
use Rattle.nt_objects.specs.declared.object.Routine.{Routine}
use Rattle.nt_objects.specs.Object.{event_of, mutex_of, timer_of, with_set, released, unlocked, abandoned_by, unset_by, armed_with, setting_of, rearmed, units, next_above, count_of, full_access, has_ended, is_gone}
use Rattle.nt_tables.specs.declared.handles.Opened.{Opened}
use Rattle.nt_apc.specs.declared.apc.Queued.{Queued}
use Rattle.nt_apc.specs.declared.apc.Apc.{Apc}
use Rattle.nt_apc.specs.Queues.{apc_queue_of, has_apc, is_queued, pushed, withdrawn, cleared, oldest, oldest_taken, apc_of}
use Rattle.nt_calls.specs.declared.call.Call.{Call}
use Rattle.nt_calls.specs.declared.call.Act.{Act}
use Rattle.nt_calls.specs.declared.call.WaitCall.{WaitCall}
use Rattle.nt_calls.specs.declared.call.Reply.{Reply}
use Rattle.nt_calls.specs.State.{State, object_at, with_object, with_handing}
use Rattle.nt_calls.specs.Change.{opened_too, handle_closed, created, notified, expired_as, expired, all_expired, due_moment, routine_for, armed_anew, timer_set, timer_cancelled, apc_queued, may_take, apc_taken, apc_answered, signal, exited, act_change, change, act_reply}
use Rattle.nt_apart.specs.Fewer.{IsRenaming, AreMoved, IsRenamed, renamed_object, renamed_armed, renamed_routine, renamed_opened, renamed_apc, renamed_act, renamed_call, is_own, renamed_wait, renamed_waiting}
use Rattle.nt_apart.proofs.Renaming.{moved_set, moved_map, moved_last, get_front, get_map, same_test, lt_test}
use Rattle.nt_apart.proofs.RenamedObjects.{AreObjects, both, setting, releasing, unlocking, signaling, arming, leaving, changed_objects, setting_renamed, kept_by}
use Rattle.nt_apart.proofs.RenamedStates.{objects_of, with_objects, with_apcs, changed, handed, apcs_pushed, apcs_withdrawn, apcs_cleared, apcs_taken, queued_renamed, has_apc_renamed, any_moved}
use Rattle.std.specs.List.{list_any}
use Rattle.std.proofs.lemmas.Bool.Decides.{nat_tests}
use Rattle.nt_tables.specs.Handles.{names, count_named}
use Rattle.nt_calls.specs.Living.{is_opened, is_awaited, runs, is_kept, lives, is_forgotten}
use Rattle.nt_calls.specs.Steps.{asked_wait, timeout_of}

-- ---- handles and new objects

with_handles : (r : ℕ → ℕ) (s u : State) → IsRenamed r s u → (xs ys : List (Option Opened)) → AreMoved s.threads r (option_map (renamed_opened r)) None xs ys → IsRenamed r (record s { handles = xs }) (record u { handles = ys })
with_handles r s u are xs ys moved = record {
  renaming = are.renaming;
  few = are.few;
  own = are.own;
  threads = are.threads;
  now = are.now;
  handles = moved;
  objects = are.objects;
  waits = are.waits;
  queues = are.queues;
  apcs = are.apcs;
  handing = are.handing;
}

opened_more : (r : ℕ → ℕ) (s u : State) → IsRenamed r s u → (x y access : ℕ) → y ≡ r x → IsRenamed r (opened_too s x access) (opened_too u y access)
opened_more r s u are x y access is =
    with_handles r s u are (s.handles ++ Some (record { object = x; access = access }) ∷ []) (u.handles ++ Some (record { object = y; access = access }) ∷ [])
    (moved_last s.threads r (option_map (renamed_opened r)) None s.handles u.handles are.renaming are.handles
    (Some (record { object = x; access = access })) (Some (record { object = y; access = access })) refl (ap (λ (z : ℕ). Some (record { object = z; access = access })) is))

closed : (r : ℕ → ℕ) (s u : State) → IsRenamed r s u → (h : ℕ) → IsRenamed r (handle_closed s h) (handle_closed u (r h))
closed r s u are h =
    with_handles r s u are (slice_set s.handles h None) (slice_set u.handles (r h) None)
    (moved_set s.threads r (option_map (renamed_opened r)) None s.handles u.handles are.renaming are.handles h None None refl refl)

created_more : (r : ℕ → ℕ) (s u : State) → IsRenamed r s u → (o p : Object) → p ≡ renamed_object r o → IsRenamed r (created s o) (created u p)
created_more r s u are o p is =
    subst (λ (k : ℕ). IsRenamed r (created s o) (opened_too (record u { objects = u.objects ++ p ∷ [] }) (length u.objects) k)) (sym access)
    (opened_more r (record s { objects = s.objects ++ o ∷ [] }) (record u { objects = u.objects ++ p ∷ [] })
    (with_objects r s u are (s.objects ++ o ∷ []) (u.objects ++ p ∷ []) (record {
      renaming = are.renaming;
      own = λ x less. let enough = are.objects.enough in subst (λ (z : Object). is_own z ≡ true) (sym (get_front s.objects o (Thread false) x (omega (arith, less, enough)))) (are.own x less);
      moved = moved_last s.threads r (renamed_object r) (Thread false) s.objects u.objects are.renaming are.objects o p refl is;
    }))
    (length s.objects) (length u.objects) (full_access o) (are.objects.count ∙ sym (are.renaming.outside (length s.objects) are.objects.enough)))
  where
    access : full_access p ≡ full_access o
    access = ap (λ (z : Object). full_access z) is ∙ kept_by r full_access (λ owner depth abandoned. refl) (λ manual set armed. refl) o

new_mutex : (r : ℕ → ℕ) (flags t : ℕ) → mutex_of flags (r t) ≡ renamed_object r (mutex_of flags t)
new_mutex r flags t = go (has_flag flags mutex_initial_owner)
  where
    go : (b : Bool) → (if b then Mutex (Some (r t)) 1 false else Mutex None 0 false) ≡ renamed_object r (if b then Mutex (Some t) 1 false else Mutex None 0 false)
    go true = refl
    go false = refl

-- ---- timers

rearmed_renamed : (r : ℕ → ℕ) (v : ℕ) (armed : Armed) → rearmed v (renamed_armed r armed) ≡ option_map (renamed_armed r) (rearmed v armed)
rearmed_renamed r v armed = go (armed.period == 0)
  where
    go : (b : Bool) → (if b then None else Some (record (renamed_armed r armed) { due = next_above v armed.due (units armed.period) })) ≡ option_map (renamed_armed r) (if b then None else Some (record armed { due = next_above v armed.due (units armed.period) }))
    go true = refl
    go false = refl

notified_renamed : (n : ℕ) (r : ℕ → ℕ) (xs ys : List (List Queued)) → IsRenaming n r → AreMoved n r (map (renamed_apc r)) [] xs ys → (timer due : ℕ) (routine : Option Routine) → AreMoved n r (map (renamed_apc r)) [] (notified xs timer due routine) (notified ys (r timer) due (option_map (renamed_routine r) routine))
notified_renamed n r xs ys ren moved timer due None = moved
notified_renamed n r xs ys ren moved timer due (Some routine) =
    subst (λ (b : Bool). AreMoved n r (map (renamed_apc r)) [] (notified xs timer due (Some routine)) (if b then ys else pushed ys (r routine.thread) (renamed_apc r apc))) (sym (queued_renamed n r xs ys ren moved timer)) (go (is_queued xs timer))
  where
    apc : Queued
    apc = record { apc = record { routine = routine.routine; arg = routine.arg; at = Some due }; timer = Some timer }

    go : (b : Bool) → AreMoved n r (map (renamed_apc r)) [] (if b then xs else pushed xs routine.thread apc) (if b then ys else pushed ys (r routine.thread) (renamed_apc r apc))
    go true = moved
    go false = apcs_pushed n r xs ys ren moved routine.thread apc

expired_once : (r : ℕ → ℕ) (s u : State) → IsRenamed r s u → (v timer : ℕ) (armed : Option Armed) → IsRenamed r (expired_as s v timer armed) (expired_as u v (r timer) (option_map (renamed_armed r) armed))
expired_once r s u are v timer None = are
expired_once r s u are v timer (Some armed) =
    let f = λ (o : Object). armed_with (rearmed v armed) (with_set true o) in
    let g = λ (o : Object). armed_with (rearmed v (renamed_armed r armed)) (with_set true o) in
    let changed = with_objects r s u are (with_object s.objects timer f) (with_object u.objects (r timer) g)
    (changed_objects s.threads r s.objects u.objects timer f g (objects_of r s u are)
    (both r (with_set true) (with_set true) (armed_with (rearmed v armed)) (armed_with (rearmed v (renamed_armed r armed))) (setting r true) (arming r (rearmed v armed) (rearmed v (renamed_armed r armed)) (rearmed_renamed r v armed)))) in
    with_apcs r (record s { objects = with_object s.objects timer f }) (record u { objects = with_object u.objects (r timer) g }) changed
    (notified s.apcs timer armed.due armed.routine) (notified u.apcs (r timer) armed.due (option_map (renamed_routine r) armed.routine))
    (notified_renamed s.threads r s.apcs u.apcs are.renaming are.apcs timer armed.due armed.routine)

pub expired_renamed : (r : ℕ → ℕ) (s u : State) → IsRenamed r s u → (v timer : ℕ) → IsRenamed r (expired v s timer) (expired v u (r timer))
expired_renamed r s u are v timer =
    subst (λ (a : Option Armed). IsRenamed r (expired v s timer) (expired_as u v (r timer) a))
    (sym (ap (λ (o : Object). setting_of o) (are.objects.each timer) ∙ setting_renamed r (object_at s.objects timer)))
    (expired_once r s u are v timer (setting_of (object_at s.objects timer)))

pub all_expired_renamed : (r : ℕ → ℕ) (timers : List ℕ) (s u : State) → IsRenamed r s u → (v : ℕ) → IsRenamed r (all_expired v s timers) (all_expired v u (map r timers))
all_expired_renamed r [] s u are v = are
all_expired_renamed r (timer ∷ timers) s u are v = all_expired_renamed r timers (expired v s timer) (expired v u (r timer)) (expired_renamed r s u are v timer) v

armed_renamed : (r : ℕ → ℕ) (s u : State) → IsRenamed r s u → (timer : ℕ) (armed : Armed) → IsRenamed r (armed_anew s timer armed) (armed_anew u (r timer) (renamed_armed r armed))
armed_renamed r s u are timer armed =
    let f = λ (o : Object). armed_with (Some armed) (with_set false o) in
    let g = λ (o : Object). armed_with (Some (renamed_armed r armed)) (with_set false o) in
    with_apcs r (record s { objects = with_object s.objects timer f }) (record u { objects = with_object u.objects (r timer) g })
    (with_objects r s u are (with_object s.objects timer f) (with_object u.objects (r timer) g)
    (changed_objects s.threads r s.objects u.objects timer f g (objects_of r s u are)
    (both r (with_set false) (with_set false) (armed_with (Some armed)) (armed_with (Some (renamed_armed r armed))) (setting r false) (arming r (Some armed) (Some (renamed_armed r armed)) refl))))
    (withdrawn s.apcs timer) (withdrawn u.apcs (r timer)) (apcs_withdrawn s.threads r s.apcs u.apcs are.renaming are.apcs timer)

timer_set_renamed : (r : ℕ → ℕ) (s u : State) → IsRenamed r s u → (timer : ℕ) (armed : Armed) → IsRenamed r (timer_set s timer armed) (timer_set u (r timer) (renamed_armed r armed))
timer_set_renamed r s u are timer armed =
    subst (λ (now : ℕ). IsRenamed r (timer_set s timer armed) (if nat_le armed.due now then expired now (armed_anew u (r timer) (renamed_armed r armed)) (r timer) else armed_anew u (r timer) (renamed_armed r armed))) (sym are.now) (go (nat_le armed.due s.now))
  where
    go : (b : Bool) → IsRenamed r (if b then expired s.now (armed_anew s timer armed) timer else armed_anew s timer armed) (if b then expired s.now (armed_anew u (r timer) (renamed_armed r armed)) (r timer) else armed_anew u (r timer) (renamed_armed r armed))
    go true = expired_renamed r (armed_anew s timer armed) (armed_anew u (r timer) (renamed_armed r armed)) (armed_renamed r s u are timer armed) s.now timer
    go false = armed_renamed r s u are timer armed

cancelled_renamed : (r : ℕ → ℕ) (s u : State) → IsRenamed r s u → (timer : ℕ) → IsRenamed r (timer_cancelled s timer) (timer_cancelled u (r timer))
cancelled_renamed r s u are timer =
    with_apcs r (record s { objects = with_object s.objects timer (armed_with None) }) (record u { objects = with_object u.objects (r timer) (armed_with None) })
    (with_objects r s u are (with_object s.objects timer (armed_with None)) (with_object u.objects (r timer) (armed_with None))
    (changed_objects s.threads r s.objects u.objects timer (armed_with None) (armed_with None) (objects_of r s u are) (arming r None None refl)))
    (withdrawn s.apcs timer) (withdrawn u.apcs (r timer)) (apcs_withdrawn s.threads r s.apcs u.apcs are.renaming are.apcs timer)

routine_renamed : (r : ℕ → ℕ) (t : ℕ) (routine : Option (ℕ × ℕ)) → routine_for (r t) routine ≡ option_map (renamed_routine r) (routine_for t routine)
routine_renamed r t None = refl
routine_renamed r t (Some routine) = refl

set_timer_renamed : (r : ℕ → ℕ) (s u : State) → IsRenamed r s u → (t timer : ℕ) (due period : ℤ) (routine : Option (ℕ × ℕ)) → IsRenamed r (act_change s t (Act.SetTimer timer due period routine)) (act_change u (r t) (Act.SetTimer (r timer) due period routine))
set_timer_renamed r s u are t timer due period routine =
    subst (λ (a : Armed). IsRenamed r (act_change s t (Act.SetTimer timer due period routine)) (timer_set u (r timer) a))
    (sym (ap (λ (now : ℕ). record { due = due_moment now due; period = unsigned_abs period; routine = routine_for (r t) routine }) are.now
    ∙ ap (λ (x : Option Routine). record { due = due_moment s.now due; period = unsigned_abs period; routine = x }) (routine_renamed r t routine)))
    (timer_set_renamed r s u are timer (record { due = due_moment s.now due; period = unsigned_abs period; routine = routine_for t routine }))

-- ---- APCs and exit

may_take_renamed : (r : ℕ → ℕ) (s u : State) → IsRenamed r s u → (t : ℕ) → may_take u (r t) ≡ may_take s t
may_take_renamed r s u are t =
    ap (λ (b : Bool). b && has_apc u.apcs (r t)) (are.handing.each t) ∙ ap (λ (b : Bool). slice_index_or s.handing t false && b) (has_apc_renamed s.threads r s.apcs u.apcs are.apcs t)

queued_more : (r : ℕ → ℕ) (s u : State) → IsRenamed r s u → (t routine arg : ℕ) → IsRenamed r (apc_queued s t routine arg) (apc_queued u (r t) routine arg)
queued_more r s u are t routine arg =
    let q : Queued = record { apc = record { routine = routine; arg = arg; at = None }; timer = None } in
    with_apcs r s u are (pushed s.apcs t q) (pushed u.apcs (r t) q) (apcs_pushed s.threads r s.apcs u.apcs are.renaming are.apcs t q)

taken_off : (r : ℕ → ℕ) (s u : State) → IsRenamed r s u → (t : ℕ) → IsRenamed r (apc_taken s t) (apc_taken u (r t))
taken_off r s u are t =
    subst (λ (b : Bool). IsRenamed r (apc_taken s t) (if b then record u { apcs = oldest_taken u.apcs (r t) } else with_handing u (r t) false)) (sym (may_take_renamed r s u are t)) (go (may_take s t))
  where
    go : (b : Bool) → IsRenamed r (if b then record s { apcs = oldest_taken s.apcs t } else with_handing s t false) (if b then record u { apcs = oldest_taken u.apcs (r t) } else with_handing u (r t) false)
    go true = with_apcs r s u are (oldest_taken s.apcs t) (oldest_taken u.apcs (r t)) (apcs_taken s.threads r s.apcs u.apcs are.renaming are.apcs t)
    go false = handed r s u are t false

-- an exit changes each object, and then the thread's own
each_left : (r : ℕ → ℕ) (s u : State) → IsRenamed r s u → (t : ℕ) → AreObjects s.threads r (map (λ o. unset_by t (abandoned_by t o)) s.objects) (map (λ o. unset_by (r t) (abandoned_by (r t) o)) u.objects)
each_left r s u are t =
    let fair = leaving s.threads r are.renaming t in
    record {
      renaming = are.renaming;
      own = λ x less. subst (λ (o : Object). is_own o ≡ true) (sym (get_map (λ o. unset_by t (abandoned_by t o)) (Thread false) refl s.objects x)) (fair.own (object_at s.objects x) (are.own x less));
      moved = moved_map s.threads r (renamed_object r) (Thread false) s.objects u.objects are.objects (λ o. unset_by t (abandoned_by t o)) (λ o. unset_by (r t) (abandoned_by (r t) o)) refl refl fair.same;
    }

left : (r : ℕ → ℕ) (s u : State) → IsRenamed r s u → (t : ℕ) → IsRenamed r (exited s t) (exited u (r t))
left r s u are t =
    let xs = map (λ o. unset_by t (abandoned_by t o)) s.objects in
    let ys = map (λ o. unset_by (r t) (abandoned_by (r t) o)) u.objects in
    with_apcs r (record s { objects = slice_set xs t (Thread true) }) (record u { objects = slice_set ys (r t) (Thread true) })
    (with_objects r s u are (slice_set xs t (Thread true)) (slice_set ys (r t) (Thread true))
    (changed_objects s.threads r xs ys t (λ _. Thread true) (λ _. Thread true) (each_left r s u are t) (record { same = λ o. refl; own = λ o is. refl })))
    (cleared s.apcs t) (cleared u.apcs (r t)) (apcs_cleared s.threads r s.apcs u.apcs are.renaming are.apcs t)

-- ---- the table of calls

act_renamed : (r : ℕ → ℕ) (s u : State) → IsRenamed r s u → (t : ℕ) (act : Act) → IsRenamed r (act_change s t act) (act_change u (r t) (renamed_act r act))
act_renamed r s u are t (Act.CreateEvent flags) = created_more r s u are (event_of flags) (event_of flags) refl
act_renamed r s u are t (Act.CreateSemaphore initial maximum) = created_more r s u are (Semaphore initial maximum) (Semaphore initial maximum) refl
act_renamed r s u are t (Act.CreateMutex flags) = created_more r s u are (mutex_of flags t) (mutex_of flags (r t)) (new_mutex r flags t)
act_renamed r s u are t (Act.SetEvent h) = changed r s u are h (with_set true) (with_set true) (setting r true)
act_renamed r s u are t (Act.ResetEvent h) = changed r s u are h (with_set false) (with_set false) (setting r false)
act_renamed r s u are t (Act.PulseEvent h) = changed r s u are h (with_set true) (with_set true) (setting r true)
act_renamed r s u are t (Act.ReleaseSemaphore h n) = changed r s u are h (released n) (released n) (releasing r n)
act_renamed r s u are t (Act.ReleaseMutex h) = changed r s u are h unlocked unlocked (unlocking r)
act_renamed r s u are t (Act.CreateTimer flags) = created_more r s u are (timer_of flags) (timer_of flags) refl
act_renamed r s u are t (Act.SetTimer h due period routine) = set_timer_renamed r s u are t h due period routine
act_renamed r s u are t (Act.CancelTimer h) = cancelled_renamed r s u are h
act_renamed r s u are t (Act.QueueApc h routine arg) = queued_more r s u are h routine arg
act_renamed r s u are t Act.NextApc = taken_off r s u are t
act_renamed r s u are t (Act.Duplicate object access) = opened_more r s u are object (r object) access refl
act_renamed r s u are t (Act.Close h) = closed r s u are h

pub change_renamed : (r : ℕ → ℕ) (s u : State) → IsRenamed r s u → (t : ℕ) (call : Call) → IsRenamed r (change s t call) (change u (r t) (renamed_call r call))
change_renamed r s u are t (Call.Act act) = act_renamed r s u are t act
change_renamed r s u are t (Call.Wait (WaitCall.Objects all mode named)) = are
change_renamed r s u are t (Call.Wait (WaitCall.Sleep mode)) = are
change_renamed r s u are t (Call.Wait (WaitCall.Swap h object mode)) = changed r s u are h signal signal (signaling r)
change_renamed r s u are t Call.Exit = left r s u are t

-- ---- replies

apc_first : (r : ℕ → ℕ) (l : List Queued) → apc_of (oldest (map (renamed_apc r) l)) ≡ apc_of (oldest l)
apc_first r [] = refl
apc_first r (q ∷ l) = refl

found_renamed : (r : ℕ → ℕ) (s u : State) → IsRenamed r s u → (t : ℕ) → apc_answered u (r t) ≡ apc_answered s t
found_renamed r s u are t =
    ap (λ (b : Bool). Reply.Apc (if b then apc_of (oldest (apc_queue_of u.apcs (r t))) else None)) (may_take_renamed r s u are t)
    ∙ ap (λ (a : Option Apc). Reply.Apc (if may_take s t then a else None)) (ap (λ (l : List Queued). apc_of (oldest l)) (are.apcs.each t) ∙ apc_first r (apc_queue_of s.apcs t))

pub reply_renamed : (r : ℕ → ℕ) (s u : State) → IsRenamed r s u → (t : ℕ) (act : Act) → act_reply u (r t) (renamed_act r act) ≡ act_reply s t act
reply_renamed r s u are t (Act.CreateEvent flags) = ap (λ (k : ℕ). Reply.Handle k) are.handles.count
reply_renamed r s u are t (Act.CreateSemaphore initial maximum) = ap (λ (k : ℕ). Reply.Handle k) are.handles.count
reply_renamed r s u are t (Act.CreateMutex flags) = ap (λ (k : ℕ). Reply.Handle k) are.handles.count
reply_renamed r s u are t (Act.SetEvent h) = refl
reply_renamed r s u are t (Act.ResetEvent h) = refl
reply_renamed r s u are t (Act.PulseEvent h) = refl
reply_renamed r s u are t (Act.ReleaseSemaphore h n) =
    ap (λ (k : ℤ). Reply.Previous k) (ap (λ (o : Object). count_of o) (are.objects.each h) ∙ kept_by r count_of (λ owner depth abandoned. refl) (λ manual set armed. refl) (object_at s.objects h))
reply_renamed r s u are t (Act.ReleaseMutex h) = refl
reply_renamed r s u are t (Act.CreateTimer flags) = ap (λ (k : ℕ). Reply.Handle k) are.handles.count
reply_renamed r s u are t (Act.SetTimer h due period routine) = refl
reply_renamed r s u are t (Act.CancelTimer h) = refl
reply_renamed r s u are t (Act.QueueApc h routine arg) = refl
reply_renamed r s u are t Act.NextApc = found_renamed r s u are t
reply_renamed r s u are t (Act.Duplicate object access) = ap (λ (k : ℕ). Reply.Handle k) are.handles.count
reply_renamed r s u are t (Act.Close h) = refl

-- ---- objects that nothing keeps

positive : (k : ℕ) → 0 < k → nat_lt 0 k ≡ true
positive k less = grind (arith, nat_tests, less)

counted : (o : ℕ) (hs : List (Option Opened)) → nat_lt 0 (count_named hs o) ≡ list_any (names o) hs
counted o [] = refl
counted o (h ∷ hs) = go (names o h) (counted o hs)
  where
    go : (b : Bool) → nat_lt 0 (count_named hs o) ≡ list_any (names o) hs → nat_lt 0 ((if b then 1 else 0) + count_named hs o) ≡ (b || list_any (names o) hs)
    go true rest = positive (1 + count_named hs o) (omega arith)
    go false rest = let less : 0 + count_named hs o ≡ count_named hs o = omega arith in ap (λ (k : ℕ). nat_lt 0 k) less ∙ rest

names_renamed : (n : ℕ) (r : ℕ → ℕ) → IsRenaming n r → (o : ℕ) (h : Option Opened) → names (r o) (option_map (renamed_opened r) h) ≡ names o h
names_renamed n r ren o None = refl
names_renamed n r ren o (Some opened) = same_test n r ren opened.object o

opened_renamed : (r : ℕ → ℕ) (s u : State) → IsRenamed r s u → (o : ℕ) → is_opened u (r o) ≡ is_opened s o
opened_renamed r s u are o =
    counted (r o) u.handles
    ∙ (any_moved s.threads r (option_map (renamed_opened r)) None s.handles u.handles are.renaming are.handles (names o) (names (r o)) refl refl refl (names_renamed s.threads r are.renaming o)
    ∙ sym (counted o s.handles))

mapped_long : (r : ℕ → ℕ) (q : List ℕ) → length (map r q) ≡ length q
mapped_long r [] = refl
mapped_long r (x ∷ q) = ap (λ (k : ℕ). suc k) (mapped_long r q)

awaited_renamed : (r : ℕ → ℕ) (s u : State) → IsRenamed r s u → (o : ℕ) → is_awaited u (r o) ≡ is_awaited s o
awaited_renamed r s u are o = ap (λ (q : List ℕ). nat_lt 0 (length q)) (are.queues o) ∙ ap (λ (k : ℕ). nat_lt 0 k) (mapped_long r (s.queues o))

pub runs_renamed : (r : ℕ → ℕ) (s u : State) → IsRenamed r s u → (o : ℕ) → runs u (r o) ≡ runs s o
runs_renamed r s u are o =
    ap (λ (k : ℕ). nat_lt (r o) k && not (has_ended (object_at u.objects (r o)))) are.threads
    ∙ (ap (λ (b : Bool). b && not (has_ended (object_at u.objects (r o)))) (lt_test s.threads r are.renaming s.threads o (omega arith))
    ∙ ap (λ (b : Bool). nat_lt o s.threads && not b) (ap (λ (z : Object). has_ended z) (are.objects.each o) ∙ kept_by r has_ended (λ owner depth abandoned. refl) (λ manual set armed. refl) (object_at s.objects o)))

kept_renamed : (r : ℕ → ℕ) (s u : State) → IsRenamed r s u → (o : ℕ) → is_kept u (r o) ≡ is_kept s o
kept_renamed r s u are o =
    ap (λ (b : Bool). b || (is_awaited u (r o) || runs u (r o))) (opened_renamed r s u are o)
    ∙ (ap (λ (b : Bool). is_opened s o || (b || runs u (r o))) (awaited_renamed r s u are o)
    ∙ ap (λ (b : Bool). is_opened s o || (is_awaited s o || b)) (runs_renamed r s u are o))

lives_renamed : (r : ℕ → ℕ) (s u : State) → IsRenamed r s u → (o : ℕ) → lives u (r o) ≡ lives s o
lives_renamed r s u are o =
    ap (λ (k : ℕ). nat_lt (r o) k && not (is_gone (object_at u.objects (r o)))) are.objects.count
    ∙ (ap (λ (b : Bool). b && not (is_gone (object_at u.objects (r o)))) (lt_test s.threads r are.renaming (length s.objects) o are.objects.enough)
    ∙ ap (λ (b : Bool). nat_lt o (length s.objects) && not b) (ap (λ (z : Object). is_gone z) (are.objects.each o) ∙ kept_by r is_gone (λ owner depth abandoned. refl) (λ manual set armed. refl) (object_at s.objects o)))

pub forgotten_renamed : (r : ℕ → ℕ) (s u : State) → IsRenamed r s u → (o : ℕ) → is_forgotten u (r o) ≡ is_forgotten s o
forgotten_renamed r s u are o = ap (λ (b : Bool). b && not (is_kept u (r o))) (lives_renamed r s u are o) ∙ ap (λ (b : Bool). lives s o && not b) (kept_renamed r s u are o)

-- ---- what a call asks for

pub asked_renamed : (r : ℕ → ℕ) (s u : State) → IsRenamed r s u → (wait : WaitCall) → asked_wait u.now (renamed_waiting r wait) ≡ renamed_wait r (asked_wait s.now wait)
asked_renamed r s u are wait = ap (λ (now : ℕ). asked_wait now (renamed_waiting r wait)) are.now ∙ at wait
  where
    at : (wait : WaitCall) → asked_wait s.now (renamed_waiting r wait) ≡ renamed_wait r (asked_wait s.now wait)
    at (WaitCall.Objects all mode named) = refl
    at (WaitCall.Sleep mode) = refl
    at (WaitCall.Swap h object mode) = refl

pub timeout_renamed : (r : ℕ → ℕ) (wait : WaitCall) → timeout_of (renamed_waiting r wait) ≡ timeout_of wait
timeout_renamed r (WaitCall.Objects all mode named) = refl
timeout_renamed r (WaitCall.Sleep mode) = refl
timeout_renamed r (WaitCall.Swap h object mode) = refl
