-- What lasts while waits are served, alerted, timed out and begun: whatever each small change leaves true.
use Rattle.std.proofs.Common.{◌≡◌, ℕ, zero, suc, Bool, true, false, cond, ◌&&◌, ◌==◌, List, [], ◌∷◌, length, refl, sym, ap, ◌∙◌, subst, Option, Some, None}
use Rattle.std.specs.Prelude.{slice_set}
use Rattle.std.proofs.lemmas.List.{length-set}
use Rattle.nt_waits.specs.declared.wait.Wait.{Wait}
use Rattle.nt_objects.specs.declared.object.Object.{Object}
use Rattle.nt_objects.specs.declared.object.Object.TheVariants.{Event, Semaphore, Mutex, Timer, Thread, Gone}
use Rattle.nt_objects.specs.declared.object.Armed.{Armed}
use Rattle.nt_objects.specs.Object.{is_gone, taken, with_set, armed_with, setting_of, rearmed}
use Rattle.nt_apc.specs.declared.apc.Queued.{Queued}
use Rattle.nt_apc.specs.Queues.{has_apc}
use Rattle.nt_status.specs.Status.{io_completion_code}
use Rattle.nt_calls.specs.declared.call.Call.{Call}
use Rattle.nt_calls.specs.declared.call.Act.{Act}
use Rattle.nt_calls.specs.declared.call.WaitCall.{WaitCall}
use Rattle.nt_calls.specs.declared.call.Reply.{Reply}
use Rattle.nt_calls.specs.declared.call.Grant.{Grant}
use Rattle.nt_calls.specs.Calls.{timeout_of}
use Rattle.nt_calls.specs.State.{State, object_at, with_object, with_handing, pending_no_more, pending_too, wait_over, waits_over}
use Rattle.nt_calls.specs.Serving.{fits, status, objects_taken, taken_by, wait_granted, is_sleep, late_status, Grants, sequence}
use Rattle.nt_calls.specs.Change.{change, notified, expired, expired_as, all_expired}
use Rattle.nt_calls.specs.Steps.{Step, asked_wait, begun, answered, after_serving, MomentPasses, MomentsPass}
use Rattle.nt_machine.proofs.Accepting.{reading_taken_by}
use Rattle.nt_core.proofs.Lengths.{length_taken}

-- ---- objects that change, and none of them ends

-- as many objects, and the same are gone
pub record SameLife (old new : List Object) : Type 0 where
  pub count : length new ≡ length old
  pub gone : (o : ℕ) → is_gone (object_at new o) ≡ is_gone (object_at old o)

gone_set : (os : List Object) (g : ℕ) (new : Object) → is_gone new ≡ is_gone (object_at os g) → (h : ℕ) → is_gone (object_at (slice_set os g new) h) ≡ is_gone (object_at os h)
gone_set [] g new same h = refl
gone_set (o ∷ os) zero new same zero = same
gone_set (o ∷ os) zero new same (suc h) = refl
gone_set (o ∷ os) (suc g) new same zero = refl
gone_set (o ∷ os) (suc g) new same (suc h) = gone_set os g new same h

-- another object in the place of one, gone where that was
pub life_set : (os : List Object) (g : ℕ) (new : Object) → is_gone new ≡ is_gone (object_at os g) → SameLife os (slice_set os g new)
life_set os g new same = record { count = length-set os g new; gone = gone_set os g new same }

-- a change that ends nothing
abbrev pub KeepsLife : (Object → Object) → Type 0
KeepsLife f = (o : Object) → is_gone (f o) ≡ is_gone o

pub life_changed : (os : List Object) (g : ℕ) (f : Object → Object) → KeepsLife f → SameLife os (with_object os g f)
life_changed os g f keeps = life_set os g (f (object_at os g)) (keeps (object_at os g))

pub life_same : (os : List Object) → SameLife os os
life_same os = record { count = refl; gone = λ o. refl }

pub life_then : (a b c : List Object) → SameLife a b → SameLife b c → SameLife a c
life_then a b c p q = record { count = q.count ∙ p.count; gone = λ o. q.gone o ∙ p.gone o }

taken_life : (o : Object) (t : ℕ) → is_gone (taken o t) ≡ is_gone o
taken_life (Event manual set) t = refl
taken_life (Semaphore count maximum) t = refl
taken_life (Mutex None depth abandoned) t = refl
taken_life (Mutex (Some owner) depth abandoned) t = refl
taken_life (Timer manual set armed) t = refl
taken_life (Thread ended) t = refl
taken_life Gone t = refl

pub set_life : (set : Bool) → KeepsLife (with_set set)
set_life set (Event manual old) = refl
set_life set (Semaphore count maximum) = refl
set_life set (Mutex owner depth abandoned) = refl
set_life set (Timer manual old armed) = refl
set_life set (Thread ended) = refl
set_life set Gone = refl

pub armed_life : (armed : Option Armed) → KeepsLife (armed_with armed)
armed_life armed (Event manual set) = refl
armed_life armed (Semaphore count maximum) = refl
armed_life armed (Mutex owner depth abandoned) = refl
armed_life armed (Timer manual set old) = refl
armed_life armed (Thread ended) = refl
armed_life armed Gone = refl

pub rearmed_life : (armed : Option Armed) (set : Bool) → KeepsLife (λ o. armed_with armed (with_set set o))
rearmed_life armed set o = armed_life armed (with_set set o) ∙ set_life set o

-- ---- what lasts

-- what holds of a state holds of it once objects changed of which none ended, APCs came and went, a thread may or may not take
-- its APCs, a wait pends no more, or time went on
pub record Lasts (holds : State → Type 0) : Type 0 where
  pub objects : (s : State) (os : List Object) → SameLife s.objects os → holds s → holds (record s { objects = os })
  pub apcs : (s : State) (queues : List (List Queued)) → holds s → holds (record s { apcs = queues })
  pub handing : (s : State) (t : ℕ) (may : Bool) → holds s → holds (with_handing s t may)
  pub over : (s : State) (t : ℕ) → holds s → holds (pending_no_more s t)
  pub now : (s : State) (m : ℕ) → holds s → holds (record s { now = m })

taken_lasts : (holds : State → Type 0) → Lasts holds → (s : State) (t : ℕ) (w : Wait) → holds s → holds (taken_by s t w)
taken_lasts holds lasts s t w here =
    lasts.handing (record s { objects = objects_taken s.objects t w }) t false
    (lasts.objects s (objects_taken s.objects t w) (record { count = length_taken s.objects t w; gone = reading_taken_by is_gone taken_life s.objects t w }) here)

grants_last : (holds : State → Type 0) → Lasts holds → (threads : List ℕ) (old : State) (gs : List Grant) (new : State) → Grants threads old gs new → holds old → holds new
grants_last holds lasts threads old [] new is here = subst holds (sym is) here
grants_last holds lasts threads old (g ∷ gs) new is here =
    grants_last holds lasts threads (wait_granted old g.thread is.1) gs new is.3 (lasts.over (taken_by old g.thread is.1) g.thread (taken_lasts holds lasts old g.thread is.1 here))

over_lasts : (holds : State → Type 0) → Lasts holds → (s : State) (ts : List ℕ) (may : Bool) → holds s → holds (waits_over s ts may)
over_lasts holds lasts s [] may here = here
over_lasts holds lasts s (t ∷ ts) may here = over_lasts holds lasts (wait_over s t may) ts may (lasts.handing (pending_no_more s t) t may (lasts.over s t here))

after_lasts : (holds : State → Type 0) → Lasts holds → (call : Call) (s : State) → holds s → holds (after_serving call s)
after_lasts holds lasts (Call.Act (Act.PulseEvent h)) s here = lasts.objects s (with_object s.objects h (with_set false)) (life_changed s.objects h (with_set false) (set_life false)) here
after_lasts holds lasts _ s here = here

-- a step leaves true what lasts, and more where the caller's own wait pends
pub step_lasts :
    (holds after : State → Type 0)
    → Lasts holds
    → ((s : State) → holds s → after s)
    → (old : State) (t : ℕ) (call : Call) (reply : Reply) (grants : List Grant) (new : State)
    → Step old t call reply grants new
    → ((s : State) (wait : WaitCall) → call ≡ Call.Wait wait → holds s → after (pending_too s t (asked_wait s.now wait)))
    → holds (change old t call)
    → after new
step_lasts holds after lasts then old t call reply grants new step pend first = own call step.woken pend woken step.answers
  where
    woken : holds step.woken
    woken =
        subst holds (sym step.alerts.leaves)
        (over_lasts holds lasts (after_serving call step.calm) step.alerts.threads true
        (after_lasts holds lasts call step.calm (grants_last holds lasts (sequence old step.numbers) (change old t call) step.served step.calm step.serves.0 first)))

    begins : (s : State) (w : Wait) (ms : ℕ) → holds s → after (pending_too s t w) → after (begun s t w ms).1
    begins s w ms here pending = first_case (fits s.objects t w)
      where
        third : (b : Bool) → after (cond {A = Reply × State} b (Reply.Status (late_status (is_sleep w)), with_handing s t false) (Reply.Pended, pending_too s t w)).1
        third true = then (with_handing s t false) (lasts.handing s t false here)
        third false = pending

        second : (b : Bool) → after (cond {A = Reply × State} b (Reply.Status io_completion_code, with_handing s t true) (cond {A = Reply × State} (ms == 0) (Reply.Status (late_status (is_sleep w)), with_handing s t false) (Reply.Pended, pending_too s t w))).1
        second true = then (with_handing s t true) (lasts.handing s t true here)
        second false = third (ms == 0)

        first_case : (b : Bool) → after (cond {A = Reply × State} b (Reply.Status (status s.objects t w), taken_by s t w) (cond {A = Reply × State} (w.alertable && has_apc s.apcs t) (Reply.Status io_completion_code, with_handing s t true) (cond {A = Reply × State} (ms == 0) (Reply.Status (late_status (is_sleep w)), with_handing s t false) (Reply.Pended, pending_too s t w)))).1
        first_case true = then (taken_by s t w) (taken_lasts holds lasts s t w here)
        first_case false = second (w.alertable && has_apc s.apcs t)

    own : (call : Call) (s : State) → ((s : State) (wait : WaitCall) → call ≡ Call.Wait wait → holds s → after (pending_too s t (asked_wait s.now wait))) → holds s → (reply, new) ≡ answered old s t call → after new
    own (Call.Wait wait) s pend here is = subst after (sym (ap (λ p. p.1) is)) (begins s (asked_wait s.now wait) (timeout_of wait) here (pend s wait refl here))
    own (Call.Act act) s pend here is = subst after (sym (ap (λ p. p.1) is)) (then s here)
    own Call.Exit s pend here is = subst after (sym (ap (λ p. p.1) is)) (then s here)

-- ---- ticks

pub expired_lasts : (holds : State → Type 0) → Lasts holds → (v : ℕ) (s : State) (timer : ℕ) → holds s → holds (expired v s timer)
expired_lasts holds lasts v s timer here = go (setting_of (object_at s.objects timer))
  where
    go : (setting : Option Armed) → holds (expired_as s v timer setting)
    go None = here
    go (Some armed) =
        let os : List Object = with_object s.objects timer (λ o. armed_with (rearmed v armed) (with_set true o)) in
        lasts.apcs (record s { objects = os }) (notified s.apcs timer armed.due armed.routine)
        (lasts.objects s os (life_changed s.objects timer (λ o. armed_with (rearmed v armed) (with_set true o)) (rearmed_life (rearmed v armed) true)) here)

all_expired_last : (holds : State → Type 0) → Lasts holds → (v : ℕ) (s : State) (timers : List ℕ) → holds s → holds (all_expired v s timers)
all_expired_last holds lasts v s [] here = here
all_expired_last holds lasts v s (timer ∷ timers) here = all_expired_last holds lasts v (expired v s timer) timers (expired_lasts holds lasts v s timer here)

moment_lasts : (holds : State → Type 0) → Lasts holds → (old : State) (m u : ℕ) (gs : List Grant) (new : State) → MomentPasses old m u gs new → holds old → holds new
moment_lasts holds lasts old m u gs new passes here =
    subst holds (sym passes.times_out.leaves)
    (over_lasts holds lasts passes.woken passes.times_out.threads false
    (subst holds (sym passes.alerts.leaves)
    (over_lasts holds lasts passes.calm passes.alerts.threads true
    (grants_last holds lasts (sequence old passes.timers) (all_expired m old passes.timers) passes.served passes.calm passes.serves.0
    (all_expired_last holds lasts m old passes.timers here)))))

pub moments_last : (holds : State → Type 0) → Lasts holds → (us : List ℕ) (old : State) (m : ℕ) (gs : List Grant) (new : State) → MomentsPass old m us gs new → holds old → holds new
moments_last holds lasts [] old m gs new pass here = subst holds (sym pass.2) (lasts.now old m here)
moments_last holds lasts (u ∷ us) old m gs new pass here = moments_last holds lasts us pass.2 m pass.1 new pass.5 (moment_lasts holds lasts old m u pass.0 pass.2 pass.4 here)
