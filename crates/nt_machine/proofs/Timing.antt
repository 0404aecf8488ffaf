-- Timers that are set and cancelled.
use Rattle.std.proofs.Common.{◌≡◌, ◌≢◌, ◌<◌, ℕ, zero, suc, Bool, true, false, ◌&&◌, ◌||◌, List, [], ◌∷◌, length, set, refl, sym, ap, ◌∙◌, subst, arith, Option, Some, None, inl, inr, ◌⊎◌}
use Rattle.std.proofs.lemmas.Bool.{cases_eq, false≢true}
use Rattle.std.proofs.lemmas.List.{length-set}
use Rattle.nt_objects.specs.declared.object.Object.{Object}
use Rattle.nt_objects.specs.declared.object.Object.TheVariants.{Event, Semaphore, Mutex, Timer, Thread, Gone}
use Rattle.nt_objects.specs.declared.object.Armed.{Armed}
use Rattle.nt_objects.specs.declared.object.Routine.{Routine}
use Rattle.nt_objects.specs.Object.{signaled, is_timer, is_thread, is_gone, has_ended, owned_by, due_of, setter_of, setting_of, armed_with, IsLawfulObject}
use Rattle.nt_alarms.specs.Alarms.{alarm_at}
use Rattle.nt_apc.specs.declared.apc.Queued.{Queued}
use Rattle.nt_apc.specs.Queues.{Apcs, apc_queue_of, has_apc, has_from, is_from, withdrawn, without_from, place_of, KeepsPlaces}
use Rattle.nt_calls.specs.declared.call.Act.{Act}
use Rattle.nt_calls.specs.declared.call.Call.{Call}
use Rattle.nt_calls.specs.declared.call.Reply.{Reply}
use Rattle.nt_calls.specs.Rising.{AreRising}
use Rattle.nt_calls.specs.State.{object_at}
use Rattle.nt_machine.specs.Dispatcher.{Dispatcher, state}
use Rattle.nt_calls.specs.Serving.{IsChanged}
use Rattle.nt_calls.specs.Change.{timer_cancelled}
use Rattle.nt_machine.specs.Lawful.{IsMachineSound, IsSteady}
use Rattle.nt_machine.specs.Accepts.{IsFresh, Accepts}
use Rattle.nt_machine.proofs.Handling.{handles_along}
use Rattle.nt_machine.proofs.Keeping.{own_kept, idle_kept}
use Rattle.nt_machine.proofs.Marking.{marks_same}
use Rattle.nt_machine.proofs.Changing.{reading_set, limit_set, property_set, object_at-set_same, object_at-set_other, set_as_before, known_object, one_changed, same_changed, served_fewer, due_kept}
use Rattle.nt_machine.proofs.Accepting.{accepted}
use Rattle.nt_machine.proofs.Replacing.{idle_served}
use Rattle.nt_machine.proofs.Standings.{standings_kept}

-- ---- a timer's queued APC is withdrawn

is_true_or_false : (b : Bool) → (b ≡ true → ⊥) → b ≡ false
is_true_or_false true none = absurd (none refl)
is_true_or_false false none = refl

or_none : (a b : Bool) → (a || b) ≡ false → (a ≡ false) × (b ≡ false)
or_none true b e = absurd (false≢true (sym e))
or_none false b e = (refl, e)

without_none : (timer : ℕ) (queue : List Queued) → has_from timer queue ≡ false → without_from timer queue ≡ queue
without_none timer [] none = refl
without_none timer (q ∷ queue) none =
    let parts = or_none (is_from timer q.timer) (has_from timer queue) none in
    rw (parts.0) (ap (λ qs. q ∷ qs) (without_none timer queue parts.1))

withdrawn_same : (timer : ℕ) (queues : List (List Queued)) → ((t : ℕ) → has_from timer (apc_queue_of queues t) ≡ false) → withdrawn queues timer ≡ queues
withdrawn_same timer [] none = refl
withdrawn_same timer (queue ∷ queues) none =
    let here : without_from timer queue ≡ queue = without_none timer queue (none 0) in
    let rest : withdrawn queues timer ≡ queues = withdrawn_same timer queues (λ t. none (suc t)) in
    λ i. here i ∷ rest i

-- a timer whose APC has no place has none queued
pub withdrawn_none : (d : Dispatcher) (timer : ℕ) → KeepsPlaces d.apcs → place_of d.apcs.places timer ≡ None → withdrawn d.apcs.queues timer ≡ d.apcs.queues
withdrawn_none d timer keeps none = withdrawn_same timer d.apcs.queues (λ t. is_true_or_false (has_from timer (apc_queue_of d.apcs.queues t)) (λ has. no_place t (sym none ∙ keeps.at_place t timer has)))
  where
    no_place : (t : ℕ) → None ≡ Some t → ⊥
    no_place t h = (cc)

withdrawn_twice_in : (timer : ℕ) (queue : List Queued) → without_from timer (without_from timer queue) ≡ without_from timer queue
withdrawn_twice_in timer [] = refl
withdrawn_twice_in timer (q ∷ queue) = go (withdrawn_twice_in timer queue) (is_from timer q.timer) refl
  where
    go : without_from timer (without_from timer queue) ≡ without_from timer queue → (b : Bool) → is_from timer q.timer ≡ b → without_from timer (without_from timer (q ∷ queue)) ≡ without_from timer (q ∷ queue)
    go rest true is = rw is rest
    go rest false is = rw is (rw is (ap (λ qs. q ∷ qs) rest))

pub withdrawn_twice : (timer : ℕ) (queues : List (List Queued)) → withdrawn (withdrawn queues timer) timer ≡ withdrawn queues timer
withdrawn_twice timer [] = refl
withdrawn_twice timer (queue ∷ queues) =
    let here = withdrawn_twice_in timer queue in
    let rest : withdrawn (withdrawn queues timer) timer ≡ withdrawn queues timer = withdrawn_twice timer queues in
    λ i. here i ∷ rest i

-- who has an APC after it had one before
pub has_withdrawn : (timer : ℕ) (queues : List (List Queued)) (t : ℕ) → has_apc (withdrawn queues timer) t ≡ true → has_apc queues t ≡ true
has_withdrawn timer [] t has = has
has_withdrawn timer ([] ∷ queues) zero has = has
has_withdrawn timer ((q ∷ queue) ∷ queues) zero has = refl
has_withdrawn timer (queue ∷ queues) (suc t) has = has_withdrawn timer queues t has

pub length_withdrawn : (timer : ℕ) (queues : List (List Queued)) → length (withdrawn queues timer) ≡ length queues
length_withdrawn timer [] = refl
length_withdrawn timer (queue ∷ queues) = let rest = length_withdrawn timer queues in omega (arith, rest)

-- ---- one timer

timer_is_no_thread : (o : Object) → is_timer o ≡ true → o ≢ Thread false
timer_is_no_thread o is e = false≢true (sym (ap is_timer e) ∙ is)

pub known_timer : (os : List Object) (h : ℕ) → is_timer (object_at os h) ≡ true → h < length os
known_timer os h is = known_object os h (timer_is_no_thread (object_at os h) is)

timer_runs_on : (o : Object) → is_timer o ≡ true → has_ended o ≡ false
timer_runs_on (Event manual was) is = refl
timer_runs_on (Semaphore count maximum) is = refl
timer_runs_on (Mutex owner depth abandoned) is = refl
timer_runs_on (Timer manual was armed) is = refl
timer_runs_on (Thread ended) is = absurd (false≢true is)
timer_runs_on Gone is = absurd (false≢true is)

timer_no_thread : (o : Object) → is_timer o ≡ true → is_thread o ≡ false
timer_no_thread (Event manual was) is = refl
timer_no_thread (Semaphore count maximum) is = refl
timer_no_thread (Mutex owner depth abandoned) is = refl
timer_no_thread (Timer manual was armed) is = refl
timer_no_thread (Thread ended) is = absurd (false≢true is)
timer_no_thread Gone is = absurd (false≢true is)

timer_unowned : (o : Object) (u : ℕ) → is_timer o ≡ true → owned_by o u ≡ false
timer_unowned (Event manual was) u is = refl
timer_unowned (Semaphore count maximum) u is = refl
timer_unowned (Mutex owner depth abandoned) u is = absurd (false≢true is)
timer_unowned (Timer manual was armed) u is = refl
timer_unowned (Thread ended) u is = refl
timer_unowned Gone u is = refl

timer_lawful : (o : Object) → is_timer o ≡ true → IsLawfulObject o
timer_lawful (Event manual was) is = tt
timer_lawful (Semaphore count maximum) is = absurd (false≢true is)
timer_lawful (Mutex owner depth abandoned) is = absurd (false≢true is)
timer_lawful (Timer manual was armed) is = tt
timer_lawful (Thread ended) is = tt
timer_lawful Gone is = tt

timer_lives : (o : Object) → is_timer o ≡ true → is_gone o ≡ false
timer_lives (Event manual was) is = refl
timer_lives (Semaphore count maximum) is = refl
timer_lives (Mutex owner depth abandoned) is = refl
timer_lives (Timer manual was armed) is = refl
timer_lives (Thread ended) is = refl
timer_lives Gone is = absurd (false≢true is)

alarm_set : (alarms : List (Option ℕ)) (os : List Object) (h : ℕ) (o : Object) → length alarms ≡ length os → ((k : ℕ) → alarm_at alarms k ≡ due_of (object_at os k)) → (k : ℕ) → alarm_at (set alarms h (due_of o)) k ≡ due_of (object_at (set os h o) k)
alarm_set [] [] h o len all k = all k
alarm_set [] (x ∷ os) h o len all k = absurd (omega (arith, len))
alarm_set (a ∷ alarms) [] h o len all k = absurd (omega (arith, len))
alarm_set (a ∷ alarms) (x ∷ os) zero o len all zero = refl
alarm_set (a ∷ alarms) (x ∷ os) zero o len all (suc k) = all (suc k)
alarm_set (a ∷ alarms) (x ∷ os) (suc h) o len all zero = all zero
alarm_set (a ∷ alarms) (x ∷ os) (suc h) o len all (suc k) = alarm_set alarms os h o (omega (arith, len)) (λ j. all (suc j)) k

-- the thread that armed a timer so runs, and the timer's APC has a place in its queue
abbrev pub IsPlaced : Dispatcher → List (Option ℕ) → ℕ → Object → Type 0
IsPlaced d places h o = (t : ℕ) → setter_of o ≡ Some t → (place_of places h ≡ Some t) × (t < d.threads) × (has_ended (object_at d.objects t) ≡ false)

-- the dispatcher with another timer in the place of this one, and its alarm set by it
abbrev pub retimed : Dispatcher → ℕ → Object → Apcs → Dispatcher
retimed d h o apcs = record d { objects = set d.objects h o; alarms = set d.alarms h (due_of o); apcs = apcs }

pub retimed_sound : (d : Dispatcher) (h : ℕ) (o : Object) (apcs : Apcs) → IsMachineSound d → is_timer (object_at d.objects h) ≡ true → is_timer o ≡ true → length apcs.queues ≡ length d.apcs.queues → IsPlaced d apcs.places h o → ((m : ℕ) → m ≢ h → place_of apcs.places m ≡ place_of d.apcs.places m) → IsMachineSound (retimed d h o apcs)
retimed_sound d h o apcs sound was is len placed others = record {
  few = sound.few;
  waits = λ t w pends.
      let own = sound.waits t w pends in
      record {
        known = own.known;
        runs = ended t ∙ own.runs;
        few = own.few;
        apart = own.apart;
        named = λ k names. (subst (λ (n : ℕ). k < n) (sym (length-set d.objects h o)) (own.named k names).0, limit_set d.objects h o t (λ below. rw (timer_unowned o t is) refl) k (own.named k names).1);
        living = λ k names. gone k ∙ own.living k names;
      };
  blocks = sound.blocks;
  hands = sound.hands;
  standings = standings_kept d.threads d.objects (set d.objects h o) d.table.pending d.standings (λ t below. ended t) sound.standings;
  inboxes = len ∙ sound.inboxes;
  objects = property_set IsLawfulObject d.objects h o (timer_lawful o is) sound.objects;
  own = λ t below. (subst (λ (n : ℕ). t < n) (sym (length-set d.objects h o)) (sound.own t below).0, own_kept _ _ (threads t) (gone t) (sound.own t below).1);
  none_else = λ k beyond known. idle_kept _ _ (threads k) (ended k) (sound.none_else k beyond (subst (λ (n : ℕ). k < n) (length-set d.objects h o) known));
  timers = record {
    count = length-set d.alarms h (due_of o) ∙ (sound.timers.count ∙ sym (length-set d.objects h o));
    alarm = alarm_set d.alarms d.objects h o sound.timers.count sound.timers.alarm;
    placed = λ k t sets. (own k t sets).0;
    known = λ k t at. subst (λ (n : ℕ). k < n) (sym (length-set d.objects h o)) (elim (cases_eq k h) [
      | inl same ↦ subst (λ (j : ℕ). j < length d.objects) (sym same) (known_timer d.objects h was)
      | inr other ↦ sound.timers.known k t (sym (others k other) ∙ at)
    ]);
    runs = λ k t sets. let here = own k t sets in (here.1, ended t ∙ here.2);
  };
  handles = handles_along d.handles (length-set d.objects h o) sound.handles;
  marks = marks_same d (retimed d h o apcs) refl refl refl (λ k. refl) (length-set d.objects h o) gone ended sound.marks;
  places = record { changed = sound.places.changed ∙ sym (length-set d.objects h o); alerted = sound.places.alerted };
  room = sound.room;
}
  where
    ended : (k : ℕ) → has_ended (object_at (set d.objects h o) k) ≡ has_ended (object_at d.objects k)
    ended = reading_set has_ended d.objects h o (timer_runs_on o is ∙ sym (timer_runs_on (object_at d.objects h) was))

    threads : (k : ℕ) → is_thread (object_at (set d.objects h o) k) ≡ is_thread (object_at d.objects k)
    threads = reading_set is_thread d.objects h o (timer_no_thread o is ∙ sym (timer_no_thread (object_at d.objects h) was))

    gone : (k : ℕ) → is_gone (object_at (set d.objects h o) k) ≡ is_gone (object_at d.objects k)
    gone = reading_set is_gone d.objects h o (timer_lives o is ∙ sym (timer_lives (object_at d.objects h) was))

    own : (k t : ℕ) → setter_of (object_at (set d.objects h o) k) ≡ Some t → (place_of apcs.places k ≡ Some t) × (t < d.threads) × (has_ended (object_at d.objects t) ≡ false)
    own k t sets = elim (cases_eq k h) [
      | inl same ↦
          let here : object_at (set d.objects h o) k ≡ o = ap (λ (j : ℕ). object_at (set d.objects h o) j) same ∙ object_at-set_same d.objects h o (known_timer d.objects h was) in
          let own = placed t (sym (ap setter_of here) ∙ sets) in
          (ap (λ (j : ℕ). place_of apcs.places j) same ∙ own.0, own.1, own.2)
      | inr other ↦
          let before : setter_of (object_at d.objects k) ≡ Some t = sym (ap setter_of (object_at-set_other d.objects h k o other)) ∙ sets in
          let runs = sound.timers.runs k t before in
          (others k other ∙ sound.timers.placed k t before, runs.0, runs.1)
    ]

-- ---- whether a timer is another one

same_bool : (a b : Bool) → (a ≡ b) ⊎ (a ≢ b)
same_bool true true = inl refl
same_bool true false = inr (λ e. false≢true (sym e))
same_bool false true = inr (λ e. false≢true e)
same_bool false false = inl refl

same_routine : (a b : Option Routine) → (a ≡ b) ⊎ (a ≢ b)
same_routine None None = inl refl
same_routine None (Some b) = inr (λ e. let h : None ≡ Some b = e in (cc))
same_routine (Some a) None = inr (λ e. let h : Some a ≡ None = e in (cc))
same_routine (Some a) (Some b) = go (cases_eq a.routine b.routine) (cases_eq a.arg b.arg) (cases_eq a.thread b.thread)
  where
    inside : Some a ≡ Some b → a ≡ b
    inside e = (cc)

    go : (a.routine ≡ b.routine) ⊎ (a.routine ≢ b.routine) → (a.arg ≡ b.arg) ⊎ (a.arg ≢ b.arg) → (a.thread ≡ b.thread) ⊎ (a.thread ≢ b.thread) → (Some a ≡ Some b) ⊎ (Some a ≢ Some b)
    go (inl p) (inl q) (inl r) = inl (λ i. Some (record { routine = p i; arg = q i; thread = r i }))
    go (inr p) q r = inr (λ e. p (ap (λ (x : Routine). x.routine) (inside e)))
    go (inl p) (inr q) r = inr (λ e. q (ap (λ (x : Routine). x.arg) (inside e)))
    go (inl p) (inl q) (inr r) = inr (λ e. r (ap (λ (x : Routine). x.thread) (inside e)))

same_setting : (a b : Option Armed) → (a ≡ b) ⊎ (a ≢ b)
same_setting None None = inl refl
same_setting None (Some b) = inr (λ e. let h : None ≡ Some b = e in (cc))
same_setting (Some a) None = inr (λ e. let h : Some a ≡ None = e in (cc))
same_setting (Some a) (Some b) = go (cases_eq a.due b.due) (cases_eq a.period b.period) (same_routine a.routine b.routine)
  where
    inside : Some a ≡ Some b → a ≡ b
    inside e = (cc)

    go : (a.due ≡ b.due) ⊎ (a.due ≢ b.due) → (a.period ≡ b.period) ⊎ (a.period ≢ b.period) → (a.routine ≡ b.routine) ⊎ (a.routine ≢ b.routine) → (Some a ≡ Some b) ⊎ (Some a ≢ Some b)
    go (inl p) (inl q) (inl r) = inl (λ i. Some (record { due = p i; period = q i; routine = r i }))
    go (inr p) q r = inr (λ e. p (ap (λ (x : Armed). x.due) (inside e)))
    go (inl p) (inr q) r = inr (λ e. q (ap (λ (x : Armed). x.period) (inside e)))
    go (inl p) (inl q) (inr r) = inr (λ e. r (ap (λ (x : Armed). x.routine) (inside e)))

-- a timer with the same reset is the same one or not
same_timer : (manual s set : Bool) (a armed : Option Armed) → (Timer manual set armed ≡ Timer manual s a) ⊎ (Timer manual set armed ≢ Timer manual s a)
same_timer manual s set a armed = go (same_bool set s) (same_setting armed a)
  where
    go : (set ≡ s) ⊎ (set ≢ s) → (armed ≡ a) ⊎ (armed ≢ a) → (Timer manual set armed ≡ Timer manual s a) ⊎ (Timer manual set armed ≢ Timer manual s a)
    go (inl p) (inl q) = inl (λ i. Timer manual (p i) (q i))
    go (inr p) q = inr (λ e. p (ap (λ o. signaled o 0) e))
    go (inl p) (inr q) = inr (λ e. q (ap setting_of e))

pub timer_parts : (o : Object) → is_timer o ≡ true → (manual : Bool) × (was : Bool) × (armed : Option Armed) × (o ≡ Timer manual was armed)
timer_parts (Event manual was) is = absurd (false≢true is)
timer_parts (Semaphore count maximum) is = absurd (false≢true is)
timer_parts (Mutex owner depth abandoned) is = absurd (false≢true is)
timer_parts (Timer manual was armed) is = (manual, was, armed, refl)
timer_parts (Thread ended) is = absurd (false≢true is)
timer_parts Gone is = absurd (false≢true is)

-- which objects change where one timer does
pub timer_changed : (os : List Object) (h : ℕ) (manual was now : Bool) (a armed : Option Armed) → object_at os h ≡ Timer manual was a → (handles : List ℕ) × AreRising (IsChanged os (set os h (Timer manual now armed))) handles
timer_changed os h manual was now a armed is = elim (same_timer manual was now a armed) [
  | inl same ↦ ([], same_changed os (set os h (Timer manual now armed)) (set_as_before os h (Timer manual now armed) (same ∙ sym is)))
  | inr differs ↦ (h ∷ [], one_changed os h (Timer manual now armed) (known_timer os h (ap is_timer is)) (λ e. differs (e ∙ is)))
]

-- ---- a timer is cancelled

pub and_kept : (a b c : Bool) → (b ≡ true → c ≡ true) → (a && b) ≡ true → (a && c) ≡ true
and_kept true b c kept has = kept has
and_kept false b c kept has = has

unset_cancelled : (o : Object) → is_timer o ≡ true → setter_of (armed_with None o) ≡ None
unset_cancelled (Event manual was) is = refl
unset_cancelled (Semaphore count maximum) is = refl
unset_cancelled (Mutex owner depth abandoned) is = refl
unset_cancelled (Timer manual was armed) is = refl
unset_cancelled (Thread ended) is = refl
unset_cancelled Gone is = refl

undue_cancelled : (o : Object) → is_timer o ≡ true → due_of (armed_with None o) ≡ None
undue_cancelled (Event manual was) is = refl
undue_cancelled (Semaphore count maximum) is = refl
undue_cancelled (Mutex owner depth abandoned) is = refl
undue_cancelled (Timer manual was armed) is = refl
undue_cancelled (Thread ended) is = refl
undue_cancelled Gone is = refl

timer_cancelled_too : (o : Object) → is_timer (armed_with None o) ≡ is_timer o
timer_cancelled_too (Event manual was) = refl
timer_cancelled_too (Semaphore count maximum) = refl
timer_cancelled_too (Mutex owner depth abandoned) = refl
timer_cancelled_too (Timer manual was armed) = refl
timer_cancelled_too (Thread ended) = refl
timer_cancelled_too Gone = refl

signaled_cancelled : (o : Object) (u : ℕ) → signaled (armed_with None o) u ≡ signaled o u
signaled_cancelled (Event manual was) u = refl
signaled_cancelled (Semaphore count maximum) u = refl
signaled_cancelled (Mutex owner depth abandoned) u = refl
signaled_cancelled (Timer manual was armed) u = refl
signaled_cancelled (Thread ended) u = refl
signaled_cancelled Gone u = refl

cancel_steady : (d : Dispatcher) (h : ℕ) → IsSteady d → is_timer (object_at d.objects h) ≡ true → IsSteady (retimed d h (armed_with None (object_at d.objects h)) (record d.apcs { queues = withdrawn d.apcs.queues h }))
cancel_steady d h steady is =
    let o = object_at d.objects h in
    let new = retimed d h (armed_with None o) (record d.apcs { queues = withdrawn d.apcs.queues h }) in
    record {
      sound = retimed_sound d h (armed_with None o) (record d.apcs { queues = withdrawn d.apcs.queues h }) steady.sound is (timer_cancelled_too o ∙ is) (length_withdrawn h d.apcs.queues) (λ t sets. nobody t (sym (unset_cancelled o is) ∙ sets)) (λ m other. refl);
      settled = record {
        served = served_fewer (state d) (set d.objects h (armed_with None o)) steady.settled.served (λ u k e. reading_set (λ x. signaled x u) d.objects h (armed_with None o) (signaled_cancelled o u) k ∙ e);
        alerted = λ t alerted. steady.settled.alerted t (alerted.0, alerted.1, and_kept (alerted.0).alertable (has_apc (withdrawn d.apcs.queues h) t) (has_apc d.apcs.queues t) (has_withdrawn h d.apcs.queues t) alerted.2);
        passed = due_kept (state d) (state new) d.now (λ k. due k) refl steady.settled.passed;
      };
      unmarked = steady.unmarked;
    }
  where
    nobody : {P : Type 0} (t : ℕ) → None ≡ Some t → P
    nobody t e = (cc)

    due : (k : ℕ) → (due_of (object_at (set d.objects h (armed_with None (object_at d.objects h))) k) ≡ due_of (object_at d.objects k)) ⊎ (due_of (object_at (set d.objects h (armed_with None (object_at d.objects h))) k) ≡ None)
    due k = elim (cases_eq k h) [
      | inl same ↦ inr (ap (λ (j : ℕ). due_of (object_at (set d.objects h (armed_with None (object_at d.objects h))) j)) same ∙ (ap due_of (object_at-set_same d.objects h (armed_with None (object_at d.objects h)) (known_timer d.objects h is)) ∙ undue_cancelled (object_at d.objects h) is))
      | inr other ↦ inl (ap due_of (object_at-set_other d.objects h k (armed_with None (object_at d.objects h)) other))
    ]

pub cancel_accepted : (old new : Dispatcher) (t h : ℕ) → IsFresh old → is_timer (object_at old.objects h) ≡ true → new ≡ retimed old h (armed_with None (object_at old.objects h)) (record old.apcs { queues = withdrawn old.apcs.queues h }) → Accepts old new t (Call.Act (Act.CancelTimer h)) Reply.Done
cancel_accepted old new t h fresh is becomes =
    let parts = timer_parts (object_at old.objects h) is in
    let d = retimed old h (armed_with None (object_at old.objects h)) (record old.apcs { queues = withdrawn old.apcs.queues h }) in
    let o : armed_with None (object_at old.objects h) ≡ Timer parts.0 parts.1 None = ap (armed_with None) parts.3 in
    let changed = timer_changed old.objects h parts.0 parts.1 parts.1 parts.2 None parts.3 in
    let changes = subst (λ (x : Object). AreRising (IsChanged old.objects (set old.objects h x)) changed.0) (sym o) changed.1 in
    let steady = cancel_steady old h fresh.steady is in
    subst (λ (x : Dispatcher). Accepts old x t (Call.Act (Act.CancelTimer h)) Reply.Done) (sym becomes)
    (accepted old d d t (Call.Act (Act.CancelTimer h)) Reply.Done
    (idle_served old (timer_cancelled (state old) h) d changed.0 fresh changes refl refl refl steady)
    refl refl refl steady refl)
