-- How often auto-reset events were set, and how often they were taken.
use Rattle.std.proofs.Common.{◌≡◌, ℕ, ◌+◌, ◌-◌, ◌≤◌, Bool, true, false, cond, not, ◌&&◌, ◌==◌, List, [], ◌∷◌, length, length-append, refl, sym, ap, ◌∙◌, subst, arith, Some, None}
use Rattle.std.specs.Prelude.{ℤ, nat_le}
use Rattle.std.specs.declared.result.Result.TheVariants.{Ok, Err}
use Rattle.std.proofs.lemmas.Bool.{false≢true, eqb-true}
use Rattle.nt_status.specs.Flags.{has_flag, event_initial_set, mutex_initial_owner}
use Rattle.nt_objects.specs.declared.object.Object.{Object}
use Rattle.nt_objects.specs.declared.object.Object.TheVariants.{Event, Semaphore, Mutex, Timer, Thread, Gone}
use Rattle.nt_objects.specs.Object.{signaled, taken, event_of, mutex_of, with_set, released, unlocked, unset_by, set_by}
use Rattle.nt_calls.specs.declared.call.Call.{Call}
use Rattle.nt_calls.specs.declared.call.Act.{Act}
use Rattle.nt_calls.specs.declared.call.WaitCall.{WaitCall}
use Rattle.nt_calls.specs.Naming.{call_named}
use Rattle.nt_calls.specs.State.{State, object_at}
use Rattle.nt_calls.specs.Change.{change, signal}
use Rattle.nt_calls.specs.Rights.{is_denied}
use Rattle.nt_machine.proofs.Judging.{undenied}
use Rattle.nt_calls.specs.Refusals.{refusal, may_signal}
use Rattle.nt_calls.specs.Runs.{Turn, Calls, Ticks, IsTurn}
use Rattle.nt_laws.specs.Takes.{turn_took, takers}
use Rattle.nt_laws.specs.Laws.{act_sets, call_sets, turn_sets, is_auto_reset, set_now}
use Rattle.nt_machine.proofs.Exiting.{left}
use Rattle.nt_laws.proofs.Takes.{TakenBy, AreFair}
use Rattle.nt_laws.proofs.Acting.{swap_judged, is_plain, past_last, acted, changed_at, settled_at}
use Rattle.nt_laws.proofs.Turns.{in_call, in_tick}

-- an auto-reset event, or none yet
abbrev pub resets : Object → Bool
resets (Event manual set) = not manual
resets (Thread ended) = not ended
resets _ = false

pub auto_resets : (o : Object) → is_auto_reset o ≡ true → resets o ≡ true
auto_resets (Event manual set) is = is
auto_resets (Mutex owner depth abandoned) is = is
auto_resets (Semaphore count maximum) is = is
auto_resets (Timer manual set armed) is = is
auto_resets (Thread ended) is = absurd (false≢true is)
auto_resets Gone is = absurd (false≢true is)

pub plain : (o : Object) → resets o ≡ true → is_plain o ≡ true
plain (Timer manual set armed) is = is
plain (Event manual set) is = refl
plain (Semaphore count maximum) is = refl
plain (Mutex owner depth abandoned) is = refl
plain (Thread ended) is = is
plain Gone is = is

-- 1 where it holds
abbrev pub one_if : Bool → ℕ
one_if b = cond b 1 0

-- the new object came of the old one: it was set and taken so often
pub record Sets (old new : Object) (sets times : ℕ) : Type 0 where
  pub resets : resets old ≡ true
  pub few : times + set_now new ≤ sets + set_now old

pub same_sets : (o : Object) (sets : ℕ) → resets o ≡ true → Sets o o sets 0
same_sets o sets is = record { resets = is; few = omega arith }

pub then_sets : (a b c : Object) (x y k j : ℕ) → Sets a b x k → Sets b c y j → Sets a c (x + y) (k + j)
then_sets a b c x y k j p q = record { resets = p.resets; few = let e = p.few in let f = q.few in omega (arith, e, f) }

-- ---- takings

one_taken : (o : Object) (t : ℕ) → signaled o t ≡ true → resets (taken o t) ≡ true → Sets o (taken o t) 0 1
one_taken (Event false true) t now is = record { resets = refl; few = omega arith }
one_taken (Event false false) t now is = absurd (false≢true now)
one_taken (Event true set) t now is = absurd (false≢true is)
one_taken (Semaphore count maximum) t now is = absurd (false≢true is)
one_taken (Mutex None depth abandoned) t now is = absurd (false≢true is)
one_taken (Mutex (Some owner) depth abandoned) t now is = absurd (false≢true is)
one_taken (Timer manual set armed) t now is = absurd (false≢true is)
one_taken (Thread true) t now is = absurd (false≢true is)
one_taken Gone t now is = absurd (false≢true is)
one_taken (Thread false) t now is = absurd (false≢true now)

all_taken : (o new : Object) (ts : List ℕ) → TakenBy o ts new → resets new ≡ true → Sets o new 0 (length ts)
all_taken o new [] is ends = subst (λ x. Sets o x 0 0) (sym is) (same_sets o 0 (sym (ap resets is) ∙ ends))
all_taken o new (t ∷ ts) is ends =
    let rest = all_taken (taken o t) new ts is.1 ends in
    let both = then_sets o (taken o t) new 0 0 1 (length ts) (one_taken o t is.0 rest.resets) rest in
    record { resets = both.resets; few = let e = both.few in omega (arith, e) }

-- ---- changes

set_up : (o : Object) → resets (with_set true o) ≡ true → Sets o (with_set true o) 1 0
set_up (Event manual old) is = record { resets = is; few = go old }
  where
    go : (b : Bool) → 0 + 1 ≤ 1 + cond b 1 0
    go true = omega arith
    go false = omega arith
set_up (Mutex owner depth abandoned) is = absurd (false≢true is)
set_up (Semaphore count maximum) is = absurd (false≢true is)
set_up (Timer manual old armed) is = absurd (false≢true is)
set_up (Thread ended) is = same_sets (Thread ended) 1 is
set_up Gone is = same_sets Gone 1 is

set_down : (o : Object) → resets (with_set false o) ≡ true → Sets o (with_set false o) 0 0
set_down (Event manual old) is = record { resets = is; few = omega arith }
set_down (Mutex owner depth abandoned) is = absurd (false≢true is)
set_down (Semaphore count maximum) is = absurd (false≢true is)
set_down (Timer manual old armed) is = absurd (false≢true is)
set_down (Thread ended) is = same_sets (Thread ended) 0 is
set_down Gone is = same_sets Gone 0 is

released_sets : (count : ℤ) (o : Object) → resets (released count o) ≡ true → Sets o (released count o) 0 0
released_sets count (Event manual set) is = same_sets (Event manual set) 0 is
released_sets count (Mutex owner depth abandoned) is = absurd (false≢true is)
released_sets count (Semaphore own maximum) is = absurd (false≢true is)
released_sets count (Timer manual old armed) is = absurd (false≢true is)
released_sets count (Thread ended) is = same_sets (Thread ended) 0 is
released_sets count Gone is = same_sets Gone 0 is

unlocked_sets : (o : Object) → resets (unlocked o) ≡ true → Sets o (unlocked o) 0 0
unlocked_sets (Event manual set) is = same_sets (Event manual set) 0 is
unlocked_sets (Mutex owner depth abandoned) is = absurd (go (nat_le depth 1) is)
  where
    go : (b : Bool) → resets (cond b (Mutex None 0 false) (Mutex owner (depth - 1) abandoned)) ≡ true → ⊥
    go true wrong = false≢true wrong
    go false wrong = false≢true wrong
unlocked_sets (Semaphore own maximum) is = absurd (false≢true is)
unlocked_sets (Timer manual old armed) is = absurd (false≢true is)
unlocked_sets (Thread ended) is = same_sets (Thread ended) 0 is
unlocked_sets Gone is = same_sets Gone 0 is

-- a thread ends
left_sets : (t : ℕ) (o : Object) → resets (left t o) ≡ true → Sets o (left t o) 0 0
left_sets t (Event manual set) is = same_sets (Event manual set) 0 is
left_sets t (Thread ended) is = same_sets (Thread ended) 0 is
left_sets t Gone is = same_sets Gone 0 is
left_sets t (Semaphore count maximum) is = absurd (false≢true is)
left_sets t (Mutex None depth abandoned) is = absurd (false≢true is)
left_sets t (Mutex (Some owner) depth abandoned) is = absurd (go (owner == t) is)
  where
    go : (b : Bool) → resets (unset_by t (cond b (Mutex None 0 true) (Mutex (Some owner) depth abandoned))) ≡ true → ⊥
    go true wrong = false≢true wrong
    go false wrong = false≢true wrong
left_sets t (Timer manual set None) is = absurd (false≢true is)
left_sets t (Timer manual set (Some armed)) is = absurd (go (set_by armed.routine t) is)
  where
    go : (b : Bool) → resets (cond b (Timer manual set None) (Timer manual set (Some armed))) ≡ true → ⊥
    go true wrong = false≢true wrong
    go false wrong = false≢true wrong

-- a swap signals it
signal_sets : (o : Object) → may_signal o ≡ true → resets (signal o) ≡ true → Sets o (signal o) 1 0
signal_sets (Event manual set) may is = set_up (Event manual set) is
signal_sets (Semaphore count maximum) may is = absurd (false≢true is)
signal_sets (Mutex owner depth abandoned) may is = let own = unlocked_sets (Mutex owner depth abandoned) is in absurd (false≢true own.resets)
signal_sets (Timer manual set armed) may is = absurd (false≢true may)
signal_sets (Thread ended) may is = absurd (false≢true may)
signal_sets Gone may is = absurd (false≢true may)

pub mutex_resets_not : (flags t : ℕ) → resets (mutex_of flags t) ≡ true → ⊥
mutex_resets_not flags t = go (has_flag flags mutex_initial_owner)
  where
    go : (b : Bool) → resets (cond b (Mutex (Some t) 1 false) (Mutex None 0 false)) ≡ true → ⊥
    go true is = false≢true is
    go false is = false≢true is

-- where an object stood that is an auto-reset event now, or none yet, it was that
pub was_none : (b : Bool) (o : Object) (flags : ℕ) → (b ≡ true → o ≡ Thread false) → resets (cond b (event_of flags) o) ≡ true → Sets o (cond b (event_of flags) o) (one_if (b && has_flag flags event_initial_set)) 0
was_none true o flags none is = subst (λ x. Sets x (event_of flags) (one_if (has_flag flags event_initial_set)) 0) (sym (none refl)) (record { resets = refl; few = go (has_flag flags event_initial_set) })
  where
    go : (b : Bool) → 0 + cond b 1 0 ≤ cond b 1 0 + 0
    go b = omega arith
was_none false o flags none is = same_sets o 0 is

here_or_not : (b : Bool) (o new : Object) → (b ≡ true → resets new ≡ true → Sets o new 1 0) → resets (cond b new o) ≡ true → Sets o (cond b new o) (one_if b) 0
here_or_not true o new here is = here refl is
here_or_not false o new here is = same_sets o 0 is

only_here : (b : Bool) (o new : Object) → (resets new ≡ true → Sets o new 0 0) → resets (cond b new o) ≡ true → Sets o (cond b new o) 0 0
only_here true o new here is = here is
only_here false o new here is = same_sets o 0 is

act_setting : (s : State) (t : ℕ) (act : Act) (h : ℕ) → resets (acted (length s.objects) t act h (object_at s.objects h)) ≡ true → Sets (object_at s.objects h) (acted (length s.objects) t act h (object_at s.objects h)) (one_if (act_sets h (length s.objects) act)) 0
act_setting s t (Act.CreateEvent flags) h is =
    was_none (length s.objects == h) (object_at s.objects h) flags (λ here. past_last s.objects h (eqb-true (length s.objects) h here)) is
act_setting s t (Act.CreateSemaphore initial maximum) h is = only_here (length s.objects == h) (object_at s.objects h) (Semaphore initial maximum) (λ other. absurd (false≢true other)) is
act_setting s t (Act.CreateMutex flags) h is = only_here (length s.objects == h) (object_at s.objects h) (mutex_of flags t) (λ other. absurd (mutex_resets_not flags t other)) is
act_setting s t (Act.SetEvent g) h is = here_or_not (g == h) (object_at s.objects h) (with_set true (object_at s.objects h)) (λ here other. set_up (object_at s.objects h) other) is
act_setting s t (Act.ResetEvent g) h is = only_here (g == h) (object_at s.objects h) (with_set false (object_at s.objects h)) (set_down (object_at s.objects h)) is
act_setting s t (Act.PulseEvent g) h is = here_or_not (g == h) (object_at s.objects h) (with_set true (object_at s.objects h)) (λ here other. set_up (object_at s.objects h) other) is
act_setting s t (Act.ReleaseSemaphore g count) h is = only_here (g == h) (object_at s.objects h) (released count (object_at s.objects h)) (released_sets count (object_at s.objects h)) is
act_setting s t (Act.ReleaseMutex g) h is = only_here (g == h) (object_at s.objects h) (unlocked (object_at s.objects h)) (unlocked_sets (object_at s.objects h)) is
act_setting s t _ h is = same_sets (object_at s.objects h) 0 is

call_setting : (s : State) (t : ℕ) (call : Call) (h : ℕ) → refusal s t false call ≡ None → resets (changed_at (length s.objects) t call h (object_at s.objects h)) ≡ true → Sets (object_at s.objects h) (changed_at (length s.objects) t call h (object_at s.objects h)) (one_if (call_sets h (length s.objects) call)) 0
call_setting s t (Call.Act act) h none is = act_setting s t act h is
call_setting s t (Call.Wait (WaitCall.Swap g object mode)) h none is =
    let judged = swap_judged s t g object mode none in
    here_or_not (g == h) (object_at s.objects h) (signal (object_at s.objects h)) (λ here other. signal_sets (object_at s.objects h) (ap (λ x. may_signal (object_at s.objects x)) (sym (eqb-true g h here)) ∙ judged.may) other) is
call_setting s t Call.Exit h none is = left_sets t (object_at s.objects h) is
call_setting s t _ h none is = same_sets (object_at s.objects h) 0 is

settled_sets : (call : Call) (h : ℕ) (o : Object) → resets (settled_at call h o) ≡ true → Sets o (settled_at call h o) 0 0
settled_sets (Call.Act (Act.PulseEvent g)) h o is = only_here (g == h) o (with_set false o) (set_down o) is
settled_sets _ h o is = same_sets o 0 is

-- ---- turns

pub turn_setting : (h : ℕ) (old : State) (turn : Turn) (new : State) → AreFair old.waits → IsTurn old turn new → resets (object_at new.objects h) ≡ true → Sets (object_at old.objects h) (object_at new.objects h) (one_if (turn_sets h old turn)) (length (takers h (turn_took old turn)))
turn_setting h old (Calls who call (Ok reply) grants) new fair is ends =
    let none = undenied old who (is_denied old call) (call_named old.handles call) is.1.0 in
    let c = in_call h old who call reply grants new fair is (plain (object_at new.objects h) ends) in
    let last = all_taken (settled_at (call_named old.handles call) h c.calm) (object_at new.objects h) c.last c.begins ends in
    let settled = settled_sets (call_named old.handles call) h c.calm last.resets in
    let first = all_taken (object_at (change old who (call_named old.handles call)).objects h) c.calm c.first c.serves settled.resets in
    let same = c.becomes (plain (object_at (change old who (call_named old.handles call)).objects h) first.resets) in
    let changed = subst (λ o. Sets (object_at old.objects h) o (one_if (call_sets h (length old.objects) (call_named old.handles call))) 0) (sym same) (call_setting old who (call_named old.handles call) h none (sym (ap resets same) ∙ first.resets)) in
    let all = then_sets _ _ _ _ _ _ _ changed (then_sets _ _ _ _ _ _ _ first (then_sets _ _ _ _ _ _ _ settled last)) in
    let times : length (takers h (turn_took old (Calls who call (Ok reply) grants))) ≡ length c.first + length c.last = ap (λ ts. length ts) c.told ∙ length-append c.first c.last in
    record { resets = all.resets; few = let e = all.few in omega (arith, e, times) }
turn_setting h old (Calls who call (Err r) grants) new fair is ends =
    let same : object_at new.objects h ≡ object_at old.objects h = ap (λ (s : State). object_at s.objects h) is.2 in
    subst (λ o. Sets (object_at old.objects h) o 0 0) (sym same) (same_sets (object_at old.objects h) 0 (sym (ap resets same) ∙ ends))
turn_setting h old (Ticks by m r grants) new fair is ends =
    all_taken (object_at old.objects h) (object_at new.objects h) (takers h (turn_took old (Ticks by m r grants))) (in_tick h old by m r grants new fair is (plain (object_at new.objects h) ends)) ends
