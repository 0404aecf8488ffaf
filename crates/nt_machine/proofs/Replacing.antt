-- Calls that exchange one object, and serve the waits on it.
use Rattle.std.proofs.Common.{◌≡◌, ◌≢◌, ◌<◌, ◌≤◌, ◌^◌, ℕ, zero, suc, Bool, true, false, ◌&&◌, List, [], ◌∷◌, ◌++◌, length, set, refl, sym, ap, ◌∙◌, subst, arith, inl, inr, ◌⊎◌, Some, None, Option}
use Rattle.std.proofs.lemmas.Bool.{false≢true}
use Rattle.std.proofs.lemmas.List.{append-nil}
use Rattle.std.proofs.lemmas.Bool.Decides.{nat_tests}
use Rattle.std.proofs.Common.{◌==◌}
use Rattle.nt_status.proofs.Lists.{few_below}
use Rattle.nt_objects.specs.declared.object.Object.{Object}
use Rattle.nt_objects.specs.declared.object.Object.TheVariants.{Event, Semaphore, Mutex, Timer, Thread, Gone}
use Rattle.nt_objects.specs.Object.{signaled, taken, is_thread, is_gone, is_event, is_semaphore, owned_by, count_of, depth_of, depth_limit, mutex_of, with_set, released, unlocked, due_of, IsLawfulObject}
use Rattle.std.specs.Prelude.{◌||◌, ℤ, pos, ◌+ℤ◌, ◌<ℤ◌, nat_le, nat_lt, if◌then◌else◌}
use Rattle.nt_status.specs.Flags.{has_flag, mutex_initial_owner}
use Rattle.std.proofs.lemmas.Int.{ints}
use Rattle.std.proofs.Common.{◌-◌}
use Rattle.nt_calls.specs.declared.call.Call.{Call}
use Rattle.nt_calls.specs.declared.call.Act.{Act}
use Rattle.nt_calls.specs.declared.call.Reply.{Reply}
use Rattle.nt_calls.specs.Rising.{AreRising}
use Rattle.nt_calls.specs.State.{State, object_at, with_object}
use Rattle.nt_machine.specs.Dispatcher.{Dispatcher, state, with_created}
use Rattle.nt_calls.specs.declared.call.Grant.{Grant}
use Rattle.nt_calls.specs.Serving.{is_ready, IsChanged, sequence, Serve, Grants, wait_granted}
use Rattle.nt_calls.specs.Change.{change, at, created, opened_too}
use Rattle.nt_calls.specs.Steps.{after_serving, answered}
use Rattle.std.specs.Prelude.{not}
use Rattle.nt_status.specs.Access.{access_bits}
use Rattle.nt_status.specs.Flags.{only_known}
use Rattle.nt_status.specs.declared.refusal.Refusal.TheVariants.{AccessDenied, HandleLimit, InvalidHandle}
use Rattle.nt_machine.proofs.Handling.{handles_opened}
use Rattle.nt_machine.proofs.Marking.{marks_opened, mark_created}
use Rattle.nt_tables.specs.declared.handles.Opened.{Opened}
use Rattle.nt_calls.specs.Refusals.{duplicate_causes, first_of_causes, is_full, is_unknown}
use Rattle.nt_machine.specs.Visits.{FitOnlyIn}
use Rattle.nt_machine.specs.Lawful.{IsMachineSound, IsSteady, MayReplace, IsUnmarked}
use Rattle.nt_machine.specs.Accepts.{IsFresh, IsServedAfter, Accepts}
use Rattle.nt_machine.proofs.Changing.{ChangedOnlyAt, one_changed, same_changed, fit_only_in, changed_at_one, sound_replaced, served_fewer, due_replaced, none_created, sound_created, served_unchanged, object_at-append, due_kept, known_event, known_object, set_as_before, object_at-set_same}
use Rattle.nt_machine.proofs.Accepting.{accepted, settled_after, reading_taken_by, next_causes}

-- ---- a queue holds each thread once at most

pub queue_few : (d : Dispatcher) (h : ℕ) → IsMachineSound d → length ((state d).queues h) ≤ 4096
queue_few d h sound =
    let few = few_below d.threads ((state d).queues h) (sound.blocks.once h) (λ u m. let own = sound.blocks.named u h m in (sound.waits u own.0 own.1).known) in
    let all = sound.few in
    omega (arith, few, all)

pub one_few : (d : Dispatcher) (h : ℕ) → IsMachineSound d → length (sequence (state d) (h ∷ [])) < 2 ^ 64
one_few d h sound = let few = queue_few d h sound in rw (append-nil ((state d).queues h)) (omega (arith, few))

-- ---- one object is exchanged for another that satisfies more waits, and the waits on it are served

pub replaced_fit : (d : Dispatcher) (h : ℕ) (o : Object) → IsSteady d → FitOnlyIn (sequence (state d) (h ∷ [])) (state (record d { objects = set d.objects h o }))
replaced_fit d h o steady = fit_only_in (h ∷ []) d (set d.objects h o) steady.sound steady.settled.served (changed_at_one d.objects h o)

pub replaced_served : (old new : Dispatcher) (h : ℕ) (o : Object) → h < length old.objects → o ≢ object_at old.objects h → Serve (sequence (state old) (h ∷ [])) (state (record old { objects = set old.objects h o })) new.grants (state new) → IsMachineSound new → new.table.looked ≤ length (sequence (state old) (h ∷ [])) → length new.grants ≤ new.table.looked → IsUnmarked new.marked → IsServedAfter old (state (record old { objects = set old.objects h o })) new
replaced_served old new h o known differs serve sound most least unmarked = record {
  numbers = h ∷ [];
  changed = one_changed old.objects h o known differs;
  serves = serve;
  sound = sound;
  most = most;
  least = least;
  unmarked = unmarked;
}

-- what holds once the waits on it are served
pub replaced_settled : (old new : Dispatcher) (h : ℕ) (o : Object) → IsFresh old → MayReplace (object_at old.objects h) o → IsServedAfter old (at (state old) h (λ _. o)) new → IsSteady new
replaced_settled old new h o fresh may after = record {
  sound = after.sound;
  settled = settled_after (sequence (state old) after.numbers) (at (state old) h (λ _. o)) (state new) new.grants after.serves fresh.steady.settled.alerted
      (due_replaced (state old) h o old.now may.due fresh.steady.settled.passed);
  unmarked = after.unmarked;
}

-- a call that exchanges one object and answers at once
pub replaced_accepted : (old new : Dispatcher) (t h : ℕ) (o : Object) (call : Call) (reply : Reply) → IsFresh old → MayReplace (object_at old.objects h) o → change (state old) t call ≡ at (state old) h (λ _. o) → state new ≡ after_serving call (state new) → (reply, state new) ≡ answered (state old) (state new) t call → IsServedAfter old (at (state old) h (λ _. o)) new → Accepts old new t call reply
replaced_accepted old new t h o call reply fresh may changes after answers served =
    accepted old new new t call reply (subst (λ (s : State). IsServedAfter old s new) (sym changes) served) after refl refl (replaced_settled old new h o fresh may served) answers

-- nothing is changed, or nothing that satisfies more waits
pub idle_served : (old : Dispatcher) (mid : State) (new : Dispatcher) (numbers : List ℕ) → IsFresh old → AreRising (IsChanged old.objects mid.objects) numbers → new.grants ≡ old.grants → new.table.looked ≡ old.table.looked → state new ≡ mid → IsSteady new → IsServedAfter old mid new
idle_served old mid new numbers fresh changed grants looked is steady = record {
  numbers = numbers;
  changed = changed;
  serves = subst (λ (gs : List Grant). Serve (sequence (state old) numbers) mid gs (state new)) (sym (grants ∙ fresh.no_grants)) (is, steady.settled.served);
  sound = steady.sound;
  most = let none : new.table.looked ≡ 0 = looked ∙ fresh.untested in omega (arith, none);
  least = let none : length new.grants ≡ 0 = ap (λ gs. length gs) (grants ∙ fresh.no_grants) in omega (arith, none);
  unmarked = steady.unmarked;
}

-- ---- events

pub set_may_replace : (set : Bool) (o : Object) → is_event o ≡ true → MayReplace o (with_set set o)
set_may_replace set (Event manual was) is = record { lawful = tt; gone = refl; thread = refl; ended = refl; due = refl; setter = refl; owner = λ u owns. owns; unlimited = λ u below. below }
set_may_replace set (Semaphore count maximum) is = absurd (false≢true is)
set_may_replace set (Mutex owner depth abandoned) is = absurd (false≢true is)
set_may_replace set (Timer manual was armed) is = absurd (false≢true is)
set_may_replace set (Thread ended) is = absurd (false≢true is)
set_may_replace set Gone is = absurd (false≢true is)

due_with_set : (set : Bool) (o : Object) → is_event o ≡ true → due_of (with_set set o) ≡ due_of o
due_with_set set (Event manual was) is = refl
due_with_set set (Semaphore count maximum) is = refl
due_with_set set (Mutex owner depth abandoned) is = refl
due_with_set set (Timer manual was armed) is = absurd (false≢true is)
due_with_set set (Thread ended) is = refl
due_with_set set Gone is = refl

event_with_set : (set : Bool) (o : Object) → is_event o ≡ true → is_event (with_set set o) ≡ true
event_with_set set (Event manual was) is = refl
event_with_set set (Semaphore count maximum) is = is
event_with_set set (Mutex owner depth abandoned) is = is
event_with_set set (Timer manual was armed) is = absurd (false≢true is)
event_with_set set (Thread ended) is = is
event_with_set set Gone is = is

signaled_with_set : (set : Bool) (o : Object) (t : ℕ) → is_event o ≡ true → signaled (with_set set o) t ≡ set
signaled_with_set set (Event manual was) t is = refl
signaled_with_set set (Semaphore count maximum) t is = absurd (false≢true is)
signaled_with_set set (Mutex owner depth abandoned) t is = absurd (false≢true is)
signaled_with_set set (Timer manual was armed) t is = absurd (false≢true is)
signaled_with_set set (Thread ended) t is = absurd (false≢true is)
signaled_with_set set Gone t is = absurd (false≢true is)

with_set_same : (o : Object) (t : ℕ) → is_event o ≡ true → with_set (signaled o t) o ≡ o
with_set_same (Event manual was) t is = refl
with_set_same (Semaphore count maximum) t is = absurd (false≢true is)
with_set_same (Mutex owner depth abandoned) t is = absurd (false≢true is)
with_set_same (Timer manual was armed) t is = absurd (false≢true is)
with_set_same (Thread ended) t is = absurd (false≢true is)
with_set_same Gone t is = absurd (false≢true is)

pub set_differs : (o : Object) (t : ℕ) → is_event o ≡ true → signaled o t ≡ false → with_set true o ≢ o
set_differs o t is unset e = false≢true (sym unset ∙ (sym (ap (λ x. signaled x t) e) ∙ signaled_with_set true o t is))

-- setting an event that is set leaves it as it is
pub raised_same : (os : List Object) (t h : ℕ) → is_event (object_at os h) ≡ true → signaled (object_at os h) t ≡ true → with_object os h (with_set true) ≡ os
raised_same os t h is was = set_as_before os h (with_set true (object_at os h)) (ap (λ b. with_set b (object_at os h)) (sym was) ∙ with_set_same (object_at os h) t is)

-- the event was set
pub raised_idle : (old : Dispatcher) (t h : ℕ) → IsFresh old → is_event (object_at old.objects h) ≡ true → signaled (object_at old.objects h) t ≡ true → IsServedAfter old (at (state old) h (with_set true)) old
raised_idle old t h fresh is was =
    let objects : with_object old.objects h (with_set true) ≡ old.objects = raised_same old.objects t h is was in
    idle_served old (at (state old) h (with_set true)) old [] fresh (same_changed old.objects (with_object old.objects h (with_set true)) objects) refl refl (λ i. record (state old) { objects = sym objects i }) fresh.steady

-- what holds of a state at which an event was set, and waits are served
pub raised_settled : (old new : Dispatcher) (h : ℕ) → IsFresh old → is_event (object_at old.objects h) ≡ true → IsServedAfter old (at (state old) h (with_set true)) new → IsSteady new
raised_settled old new h fresh is after = record {
  sound = after.sound;
  settled = settled_after (sequence (state old) after.numbers) (at (state old) h (with_set true)) (state new) new.grants after.serves fresh.steady.settled.alerted
      (due_replaced (state old) h (with_set true (object_at old.objects h)) old.now (due_with_set true (object_at old.objects h) is) fresh.steady.settled.passed);
  unmarked = after.unmarked;
}

pub set_accepted : (old new : Dispatcher) (t h : ℕ) → IsFresh old → is_event (object_at old.objects h) ≡ true → IsServedAfter old (at (state old) h (with_set true)) new → Accepts old new t (Call.Act (Act.SetEvent h)) Reply.Done
set_accepted old new t h fresh is after = accepted old new new t (Call.Act (Act.SetEvent h)) Reply.Done after refl refl refl (raised_settled old new h fresh is after) refl

-- what is reset satisfies no more waits
unready_reset : (os : List Object) (h u k : ℕ) → is_event (object_at os h) ≡ true → is_ready os u k ≡ false → is_ready (with_object os h (with_set false)) u k ≡ false
unready_reset [] h u k is e = e
unready_reset (o ∷ os) zero u zero is e = signaled_with_set false o u is
unready_reset (o ∷ os) zero u (suc k) is e = e
unready_reset (o ∷ os) (suc h) u zero is e = e
unready_reset (o ∷ os) (suc h) u (suc k) is e = unready_reset os h u k is e

pub reset_steady : (d : Dispatcher) (h : ℕ) → IsSteady d → is_event (object_at d.objects h) ≡ true → IsSteady (record d { objects = with_object d.objects h (with_set false) })
reset_steady d h steady is =
    let o = object_at d.objects h in
    record {
      sound = sound_replaced d h (with_set false o) d.owned steady.sound (set_may_replace false o is);
      settled = record {
        served = served_fewer (state d) (with_object d.objects h (with_set false)) steady.settled.served (λ u k e. unready_reset d.objects h u k is e);
        alerted = steady.settled.alerted;
        passed = due_replaced (state d) h (with_set false o) d.now (due_with_set false o is) steady.settled.passed;
      };
      unmarked = steady.unmarked;
    }

pub reset_accepted : (old : Dispatcher) (t h : ℕ) → IsFresh old → is_event (object_at old.objects h) ≡ true → Accepts old (record old { objects = with_object old.objects h (with_set false) }) t (Call.Act (Act.ResetEvent h)) Reply.Done
reset_accepted old t h fresh is = go (signaled (object_at old.objects h) t) refl
  where
    new : Dispatcher
    new = record old { objects = with_object old.objects h (with_set false) }

    whole : (numbers : List ℕ) → AreRising (IsChanged old.objects new.objects) numbers → Accepts old new t (Call.Act (Act.ResetEvent h)) Reply.Done
    whole numbers changed =
        accepted old new new t (Call.Act (Act.ResetEvent h)) Reply.Done
        (idle_served old (state new) new numbers fresh changed refl refl refl (reset_steady old h fresh.steady is))
        refl refl refl (reset_steady old h fresh.steady is) refl

    go : (b : Bool) → signaled (object_at old.objects h) t ≡ b → Accepts old new t (Call.Act (Act.ResetEvent h)) Reply.Done
    go true was = whole (h ∷ []) (one_changed old.objects h (with_set false (object_at old.objects h)) (known_event old.objects h is) (λ e. false≢true (sym (signaled_with_set false (object_at old.objects h) t is) ∙ (ap (λ x. signaled x t) e ∙ was))))
    go false was = whole [] (same_changed old.objects new.objects (set_as_before old.objects h (with_set false (object_at old.objects h)) (ap (λ b. with_set b (object_at old.objects h)) (sym was) ∙ with_set_same (object_at old.objects h) t is)))

event_taken : (o : Object) (t : ℕ) → is_event (taken o t) ≡ is_event o
event_taken (Event manual set) t = refl
event_taken (Semaphore count maximum) t = refl
event_taken (Mutex None depth abandoned) t = refl
event_taken (Mutex (Some owner) depth abandoned) t = refl
event_taken (Timer manual set armed) t = refl
event_taken (Thread ended) t = refl
event_taken Gone t = refl

-- grants leave an event an event
pub event_served : (threads : List ℕ) (s new : State) (gs : List Grant) (h : ℕ) → Grants threads s gs new → is_event (object_at new.objects h) ≡ is_event (object_at s.objects h)
event_served threads s new [] h is = ap (λ (x : State). is_event (object_at x.objects h)) is
event_served threads s new (g ∷ gs) h has = event_served threads (wait_granted s g.thread has.1) new gs h has.3 ∙ reading_taken_by is_event (λ o t. event_taken o t) s.objects g.thread has.1 h

-- it is still an event when waits are served
pub still_event : (old mid : Dispatcher) (h : ℕ) → is_event (object_at old.objects h) ≡ true → IsServedAfter old (at (state old) h (with_set true)) mid → is_event (object_at mid.objects h) ≡ true
still_event old mid h is after =
    event_served (sequence (state old) after.numbers) (at (state old) h (with_set true)) (state mid) mid.grants h after.serves.0
    ∙ (ap is_event (object_at-set_same old.objects h (with_set true (object_at old.objects h)) (known_event old.objects h is)) ∙ event_with_set true (object_at old.objects h) is)

-- a pulse is a set, and then the event is not set
pub pulse_accepted : (old mid : Dispatcher) (t h : ℕ) → IsFresh old → is_event (object_at old.objects h) ≡ true → IsServedAfter old (at (state old) h (with_set true)) mid → Accepts old (record mid { objects = with_object mid.objects h (with_set false) }) t (Call.Act (Act.PulseEvent h)) Reply.Done
pulse_accepted old mid t h fresh is after =
    let still = still_event old mid h is after in
    accepted old mid (record mid { objects = with_object mid.objects h (with_set false) }) t (Call.Act (Act.PulseEvent h)) Reply.Done after refl refl refl
    (reset_steady mid h (raised_settled old mid h fresh is after) still) refl

-- ---- creations

-- no object that was there changes
pub created_only : (os : List Object) (o : Object) → ChangedOnlyAt [] os (os ++ o ∷ [])
created_only os o h known = inl (object_at-append os (o ∷ []) h known)

pub due_created : (os : List Object) (o : Object) (k : ℕ) → due_of o ≡ None → (due_of (object_at (os ++ o ∷ []) k) ≡ due_of (object_at os k)) ⊎ (due_of (object_at (os ++ o ∷ []) k) ≡ None)
due_created [] o zero due = inr due
due_created [] o (suc k) due = inl refl
due_created (x ∷ os) o zero due = inl refl
due_created (x ∷ os) o (suc k) due = due_created os o k due

pub mutex_undue : (flags t : ℕ) → due_of (mutex_of flags t) ≡ None
mutex_undue flags t = go (has_flag flags mutex_initial_owner)
  where
    go : (b : Bool) → due_of (if b then Mutex (Some t) 1 false else Mutex None 0 false) ≡ None
    go true = refl
    go false = refl

pub mutex_no_thread : (flags t : ℕ) → is_thread (mutex_of flags t) ≡ false
mutex_no_thread flags t = go (has_flag flags mutex_initial_owner)
  where
    go : (b : Bool) → is_thread (if b then Mutex (Some t) 1 false else Mutex None 0 false) ≡ false
    go true = refl
    go false = refl

pub mutex_lives : (flags t : ℕ) → is_gone (mutex_of flags t) ≡ false
mutex_lives flags t = go (has_flag flags mutex_initial_owner)
  where
    go : (b : Bool) → is_gone (if b then Mutex (Some t) 1 false else Mutex None 0 false) ≡ false
    go true = refl
    go false = refl

pub created_accepted : (old new : Dispatcher) (t : ℕ) (o : Object) (owned : List (List ℕ)) (call : Call) (handle : ℕ) → IsFresh old → is_full old.handles ≡ false → IsLawfulObject o → is_thread o ≡ false → is_gone o ≡ false → due_of o ≡ None → change (state old) t call ≡ created (state old) o → ((s : State) → after_serving call s ≡ s) → ((s : State) → answered (state old) s t call ≡ (Reply.Handle (length old.handles), s)) → handle ≡ length old.handles → new ≡ with_created old o owned → Accepts old new t call (Reply.Handle handle)
created_accepted old new t o owned call handle fresh room lawful no_thread alive due changes after answers is becomes =
    subst (λ (x : Dispatcher). Accepts old x t call (Reply.Handle handle)) (sym becomes)
    (subst (λ (h : ℕ). Accepts old d t call (Reply.Handle h)) (sym is)
    (accepted old d d t call (Reply.Handle (length old.handles))
    (subst (λ (s : State). IsServedAfter old s d) (sym changes) (idle_served old (created (state old) o) d [] fresh (none_created old.objects o) refl refl refl all))
    (sym (after (state d))) refl refl all (sym (answers (state d)))))
  where
    d : Dispatcher
    d = with_created old o owned

    all : IsSteady d
    all = record {
      sound = sound_created old o owned fresh.steady.sound room lawful no_thread alive due;
      settled = record {
        served = served_unchanged old (old.objects ++ o ∷ []) fresh.steady.sound fresh.steady.settled.served (created_only old.objects o);
        alerted = fresh.steady.settled.alerted;
        passed = due_kept (state old) (state d) old.now (λ k. due_created old.objects o k due) refl fresh.steady.settled.passed;
      };
      unmarked = record { changed = λ place at. fresh.steady.unmarked.changed place (sym (mark_created old.marked.changed place) ∙ at); alerted = fresh.steady.unmarked.alerted };
    }

-- ---- a duplicate

-- one handle more leaves all else as it is
pub duplicated_accepted : (old new : Dispatcher) (t object access handle : ℕ) → IsFresh old → is_full old.handles ≡ false → object < length old.objects → is_gone (object_at old.objects object) ≡ false → handle ≡ length old.handles → new ≡ record old { handles = old.handles ++ Some (record { object = object; access = access }) ∷ [] } → Accepts old new t (Call.Act (Act.Duplicate object access)) (Reply.Handle handle)
duplicated_accepted old new t object access handle fresh room known alive is becomes =
    subst (λ (x : Dispatcher). Accepts old x t (Call.Act (Act.Duplicate object access)) (Reply.Handle handle)) (sym becomes)
    (subst (λ (h : ℕ). Accepts old d t (Call.Act (Act.Duplicate object access)) (Reply.Handle h)) (sym is)
    (accepted old d d t (Call.Act (Act.Duplicate object access)) (Reply.Handle (length old.handles))
    (idle_served old (opened_too (state old) object access) d [] fresh (same_changed old.objects old.objects refl) refl refl refl all)
    refl refl refl all refl))
  where
    d : Dispatcher
    d = record old { handles = old.handles ++ Some (record { object = object; access = access }) ∷ [] }

    before : IsMachineSound old
    before = fresh.steady.sound

    all : IsSteady d
    all = record {
      sound = record {
        few = before.few;
        waits = before.waits;
        blocks = before.blocks;
        hands = before.hands;
        standings = before.standings;
        inboxes = before.inboxes;
        objects = before.objects;
        own = before.own;
        none_else = before.none_else;
        timers = before.timers;
        handles = handles_opened (length old.objects) old.handles object access (grind (arith, nat_tests, room)) known before.handles;
        marks = marks_opened old object access alive before.marks;
        places = before.places;
        room = before.room;
      };
      settled = record {
        served = fresh.steady.settled.served;
        alerted = fresh.steady.settled.alerted;
        passed = fresh.steady.settled.passed;
      };
      unmarked = fresh.steady.unmarked;
    }

-- what a duplicate that no cause refuses names, with rights that there are
pub duplicate_free : (handles : List (Option Opened)) (os : List Object) (denied : Bool) (object access : ℕ) → first_of_causes (duplicate_causes handles os denied object access) ≡ None → (object < length os) × (only_known access_bits access ≡ true) × (is_full handles ≡ false)
duplicate_free handles os denied object access none =
    let known = next_causes (is_unknown os object) InvalidHandle ((denied || not (only_known access_bits access), AccessDenied) ∷ (is_full handles, HandleLimit) ∷ []) none in
    let rights = next_causes (denied || not (only_known access_bits access)) AccessDenied ((is_full handles, HandleLimit) ∷ []) known.1 in
    let room = next_causes (is_full handles) HandleLimit [] rights.1 in
    (grind (arith, nat_tests, known.0), unnot denied (only_known access_bits access) rights.0, room.0)
  where
    unnot : (denied b : Bool) → (denied || not b) ≡ false → b ≡ true
    unnot denied true e = refl
    unnot true false e = sym e
    unnot false false e = sym e

-- ---- semaphores

semaphore_is_no_thread : (o : Object) → is_semaphore o ≡ true → o ≢ Thread false
semaphore_is_no_thread o is e = false≢true (sym (ap is_semaphore e) ∙ is)

pub known_semaphore : (os : List Object) (h : ℕ) → is_semaphore (object_at os h) ≡ true → h < length os
known_semaphore os h is = known_object os h (semaphore_is_no_thread (object_at os h) is)

pub released_may_replace : (n : ℤ) (o : Object) → is_semaphore o ≡ true → IsLawfulObject (released n o) → MayReplace o (released n o)
released_may_replace n (Event manual was) is lawful = absurd (false≢true is)
released_may_replace n (Semaphore count maximum) is lawful = record { lawful = lawful; gone = refl; thread = refl; ended = refl; due = refl; setter = refl; owner = λ u owns. owns; unlimited = λ u below. below }
released_may_replace n (Mutex owner depth abandoned) is lawful = absurd (false≢true is)
released_may_replace n (Timer manual was armed) is lawful = absurd (false≢true is)
released_may_replace n (Thread ended) is lawful = absurd (false≢true is)
released_may_replace n Gone is lawful = absurd (false≢true is)

pub released_differs : (n : ℤ) (o : Object) → is_semaphore o ≡ true → pos 0 <ℤ n → released n o ≢ o
released_differs n (Event manual was) is positive e = absurd (false≢true is)
released_differs n (Semaphore count maximum) is positive e =
    let same : (count +ℤ n) ≡ count = ap count_of e in
    absurd (omega (arith, ints, positive, same))
released_differs n (Mutex owner depth abandoned) is positive e = absurd (false≢true is)
released_differs n (Timer manual was armed) is positive e = absurd (false≢true is)
released_differs n (Thread ended) is positive e = absurd (false≢true is)
released_differs n Gone is positive e = absurd (false≢true is)

-- ---- mutexes

owned_is_no_thread : (o : Object) (t : ℕ) → owned_by o t ≡ true → o ≢ Thread false
owned_is_no_thread o t owns e = false≢true (sym (ap (λ x. owned_by x t) e) ∙ owns)

pub known_mutex : (os : List Object) (h t : ℕ) → owned_by (object_at os h) t ≡ true → h < length os
known_mutex os h t owns = known_object os h (owned_is_no_thread (object_at os h) t owns)

pub unlocked_may_replace : (o : Object) (t : ℕ) → owned_by o t ≡ true → IsLawfulObject o → IsLawfulObject (unlocked o) → MayReplace o (unlocked o)
unlocked_may_replace (Event manual was) t owns lawful after = absurd (false≢true owns)
unlocked_may_replace (Semaphore count maximum) t owns lawful after = absurd (false≢true owns)
unlocked_may_replace (Mutex None depth abandoned) t owns lawful after = absurd (false≢true owns)
unlocked_may_replace (Mutex (Some owner) depth abandoned) t owns lawful after = go (nat_le depth 1) refl after
  where
    fewer : 0 < depth → depth ≤ depth_limit → nat_lt (depth - 1) depth_limit ≡ true
    fewer some most = grind (arith, nat_tests, some, most)

    never : (b : Bool) → (b && false) ≡ false
    never true = refl
    never false = refl

    go : (b : Bool) → nat_le depth 1 ≡ b → IsLawfulObject (if b then Mutex None 0 false else Mutex (Some owner) (depth - 1) abandoned) → MayReplace (Mutex (Some owner) depth abandoned) (if nat_le depth 1 then Mutex None 0 false else Mutex (Some owner) (depth - 1) abandoned)
    go true is has = rw is (record { lawful = refl; gone = refl; thread = refl; ended = refl; due = refl; setter = refl; owner = λ u owns. absurd (false≢true owns); unlimited = λ u below. refl })
    go false is has = rw is (record {
      lawful = has;
      gone = refl;
      thread = refl;
      ended = refl;
      due = refl;
      setter = refl;
      owner = λ u owns. owns;
      unlimited = λ u below. let room : nat_lt (depth - 1) depth_limit ≡ true = fewer lawful.0 lawful.1 in rw room (never (owner == u));
    })
unlocked_may_replace (Timer manual was armed) t owns lawful after = absurd (false≢true owns)
unlocked_may_replace (Thread ended) t owns lawful after = absurd (false≢true owns)
unlocked_may_replace Gone t owns lawful after = absurd (false≢true owns)

pub unlocked_differs : (o : Object) (t : ℕ) → owned_by o t ≡ true → IsLawfulObject o → unlocked o ≢ o
unlocked_differs (Event manual was) t owns lawful e = absurd (false≢true owns)
unlocked_differs (Semaphore count maximum) t owns lawful e = absurd (false≢true owns)
unlocked_differs (Mutex None depth abandoned) t owns lawful e = absurd (false≢true owns)
unlocked_differs (Mutex (Some owner) depth abandoned) t owns lawful e = go (nat_le depth 1) refl
  where
    smaller : depth - 1 ≡ depth → ⊥
    smaller same = let some = lawful.0 in absurd (omega (arith, same, some))

    zero_depth : 0 ≡ depth → ⊥
    zero_depth same = let some = lawful.0 in absurd (omega (arith, same, some))

    go : (b : Bool) → nat_le depth 1 ≡ b → ⊥
    go true is = let free : Mutex None 0 false ≡ Mutex (Some owner) depth abandoned = rw is at e in zero_depth (ap depth_of free)
    go false is = let less : Mutex (Some owner) (depth - 1) abandoned ≡ Mutex (Some owner) depth abandoned = rw is at e in smaller (ap depth_of less)
unlocked_differs (Timer manual was armed) t owns lawful e = absurd (false≢true owns)
unlocked_differs (Thread ended) t owns lawful e = absurd (false≢true owns)
unlocked_differs Gone t owns lawful e = absurd (false≢true owns)
