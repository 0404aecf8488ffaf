-- What semaphores were given, and what was taken of them.
use Rattle.std.proofs.Common.{◌≡◌, ℕ, ◌+◌, ◌-◌, Bool, true, false, cond, not, ◌==◌, List, [], ◌∷◌, length, length-append, refl, sym, ap, ◌∙◌, subst, arith, Some, None}
use Rattle.std.specs.Prelude.{ℤ, pos, ◌+ℤ◌, ◌≤ℤ◌, int_le, nat_le}
use Rattle.std.specs.declared.result.Result.TheVariants.{Ok, Err}
use Rattle.std.proofs.lemmas.Int.{ints}
use Rattle.std.proofs.lemmas.Bool.{false≢true, eqb-true}
use Rattle.nt_status.specs.Flags.{has_flag, mutex_initial_owner}
use Rattle.nt_status.specs.declared.refusal.Refusal.TheVariants.{InvalidHandle, InvalidParameter, TooManyPosts, HandleLimit}
use Rattle.nt_objects.specs.declared.object.Object.{Object}
use Rattle.nt_objects.specs.declared.object.Object.TheVariants.{Event, Semaphore, Mutex, Timer, Thread, Gone}
use Rattle.nt_objects.specs.Object.{signaled, taken, is_semaphore, count_of, IsLawfulObject, event_of, mutex_of, may_count, with_set, released, unlocked, overflows, unset_by, set_by}
use Rattle.nt_objects.proofs.Lawful.{lawful_taken, lawful_released}
use Rattle.nt_calls.specs.declared.call.Call.{Call}
use Rattle.nt_calls.specs.declared.call.Act.{Act}
use Rattle.nt_calls.specs.declared.call.WaitCall.{WaitCall}
use Rattle.nt_calls.specs.Naming.{call_named}
use Rattle.nt_calls.specs.State.{State, object_at}
use Rattle.nt_calls.specs.Change.{change, signal}
use Rattle.nt_calls.specs.Rights.{is_denied}
use Rattle.nt_machine.proofs.Judging.{undenied}
use Rattle.nt_calls.specs.Refusals.{refusal, may_signal, is_full, is_no}
use Rattle.nt_calls.specs.Runs.{Turn, Calls, Ticks, IsTurn}
use Rattle.nt_laws.specs.Takes.{turn_took, takers}
use Rattle.nt_laws.specs.Laws.{act_gives, call_gives, turn_gives}
use Rattle.nt_machine.proofs.Accepting.{next_causes, own_causes}
use Rattle.nt_machine.proofs.Exiting.{left}
use Rattle.nt_laws.proofs.Takes.{TakenBy, AreFair}
use Rattle.nt_laws.proofs.Acting.{swap_judged, is_plain, past_last, acted, changed_at, settled_at}
use Rattle.nt_laws.proofs.Turns.{in_call, in_tick}

-- a semaphore, or none yet
abbrev pub counts : Object → Bool
counts (Semaphore count maximum) = true
counts (Thread ended) = not ended
counts _ = false

pub semaphore_counts : (o : Object) → is_semaphore o ≡ true → counts o ≡ true
semaphore_counts (Semaphore count maximum) is = refl
semaphore_counts (Event manual set) is = is
semaphore_counts (Mutex owner depth abandoned) is = is
semaphore_counts (Timer manual set armed) is = is
semaphore_counts (Thread ended) is = let h : false ≡ true = is in (cc)
semaphore_counts Gone is = let h : false ≡ true = is in (cc)

pub plain : (o : Object) → counts o ≡ true → is_plain o ≡ true
plain (Timer manual set armed) is = is
plain (Event manual set) is = refl
plain (Semaphore count maximum) is = refl
plain (Mutex owner depth abandoned) is = refl
plain (Thread ended) is = is
plain Gone is = is

-- the new object came of the old one: it was given so much
pub record Gains (old new : Object) (gain : ℤ) (times : ℕ) : Type 0 where
  pub counts : counts old ≡ true
  pub count : count_of new +ℤ pos times ≡ gain +ℤ count_of old
  pub lawful : IsLawfulObject old → IsLawfulObject new

pub same_gains : (o : Object) → counts o ≡ true → Gains o o (pos 0) 0
same_gains o is = record { counts = is; count = omega (arith, ints); lawful = λ l. l }

pub then_gains : (a b c : Object) (x y : ℤ) (k j : ℕ) → Gains a b x k → Gains b c y j → Gains a c (x +ℤ y) (k + j)
then_gains a b c x y k j p q = record {
  counts = p.counts;
  count = let e = p.count in let f = q.count in omega (arith, ints, e, f);
  lawful = λ l. q.lawful (p.lawful l);
}

-- ---- takings

one_taken : (o : Object) (t : ℕ) → signaled o t ≡ true → counts (taken o t) ≡ true → Gains o (taken o t) (pos 0) 1
one_taken (Semaphore count maximum) t now is = record {
  counts = refl;
  count = omega (arith, ints);
  lawful = λ l. lawful_taken (Semaphore count maximum) t now refl l;
}
one_taken (Event manual set) t now is = absurd (false≢true is)
one_taken (Mutex None depth abandoned) t now is = absurd (false≢true is)
one_taken (Mutex (Some owner) depth abandoned) t now is = absurd (false≢true is)
one_taken (Timer manual set armed) t now is = absurd (false≢true is)
one_taken (Thread true) t now is = absurd (false≢true is)
one_taken Gone t now is = absurd (false≢true is)
one_taken (Thread false) t now is = absurd (false≢true now)

all_taken : (o new : Object) (ts : List ℕ) → TakenBy o ts new → counts new ≡ true → Gains o new (pos 0) (length ts)
all_taken o new [] is ends = subst (λ x. Gains o x (pos 0) 0) (sym is) (same_gains o (sym (ap counts is) ∙ ends))
all_taken o new (t ∷ ts) is ends =
    let rest = all_taken (taken o t) new ts is.1 ends in
    let both = then_gains o (taken o t) new (pos 0) (pos 0) 1 (length ts) (one_taken o t is.0 rest.counts) rest in
    record { counts = both.counts; count = let e = both.count in omega (arith, ints, e); lawful = both.lawful }

-- ---- changes

set_gains : (set : Bool) (o : Object) → counts (with_set set o) ≡ true → Gains o (with_set set o) (pos 0) 0
set_gains set (Semaphore count maximum) is = same_gains (Semaphore count maximum) refl
set_gains set (Event manual old) is = absurd (false≢true is)
set_gains set (Mutex owner depth abandoned) is = absurd (false≢true is)
set_gains set (Timer manual old armed) is = absurd (false≢true is)
set_gains set (Thread ended) is = same_gains (Thread ended) is
set_gains set Gone is = same_gains Gone is

unlocked_gains : (o : Object) → counts (unlocked o) ≡ true → Gains o (unlocked o) (pos 0) 0
unlocked_gains (Semaphore count maximum) is = same_gains (Semaphore count maximum) refl
unlocked_gains (Event manual old) is = absurd (false≢true is)
unlocked_gains (Mutex owner depth abandoned) is = absurd (go (nat_le depth 1) is)
  where
    go : (b : Bool) → counts (cond b (Mutex None 0 false) (Mutex owner (depth - 1) abandoned)) ≡ true → ⊥
    go true other = false≢true other
    go false other = false≢true other
unlocked_gains (Timer manual old armed) is = absurd (false≢true is)
unlocked_gains (Thread ended) is = same_gains (Thread ended) is
unlocked_gains Gone is = same_gains Gone is

released_gains : (count : ℤ) (o : Object) → is_semaphore o ≡ true → pos 0 ≤ℤ count → overflows count o ≡ false → Gains o (released count o) count 0
released_gains count (Semaphore own maximum) is up fits = record {
  counts = refl;
  count = omega (arith, ints);
  lawful = λ l. lawful_released count (Semaphore own maximum) up fits l;
}
released_gains count (Event manual set) is up fits = absurd (false≢true is)
released_gains count (Mutex owner depth abandoned) is up fits = absurd (false≢true is)
released_gains count (Timer manual set armed) is up fits = absurd (false≢true is)
released_gains count (Thread ended) is up fits = absurd (false≢true is)
released_gains count Gone is up fits = absurd (false≢true is)

pub mutex_counts_not : (flags t : ℕ) → counts (mutex_of flags t) ≡ true → ⊥
mutex_counts_not flags t = go (has_flag flags mutex_initial_owner)
  where
    go : (b : Bool) → counts (cond b (Mutex (Some t) 1 false) (Mutex None 0 false)) ≡ true → ⊥
    go true is = false≢true is
    go false is = false≢true is

-- a thread ends
left_gains : (t : ℕ) (o : Object) → counts (left t o) ≡ true → Gains o (left t o) (pos 0) 0
left_gains t (Semaphore count maximum) is = same_gains (Semaphore count maximum) refl
left_gains t (Thread ended) is = same_gains (Thread ended) is
left_gains t Gone is = same_gains Gone is
left_gains t (Event manual set) is = absurd (false≢true is)
left_gains t (Mutex None depth abandoned) is = absurd (false≢true is)
left_gains t (Mutex (Some owner) depth abandoned) is = absurd (go (owner == t) is)
  where
    go : (b : Bool) → counts (unset_by t (cond b (Mutex None 0 true) (Mutex (Some owner) depth abandoned))) ≡ true → ⊥
    go true wrong = false≢true wrong
    go false wrong = false≢true wrong
left_gains t (Timer manual set None) is = absurd (false≢true is)
left_gains t (Timer manual set (Some armed)) is = absurd (go (set_by armed.routine t) is)
  where
    go : (b : Bool) → counts (cond b (Timer manual set None) (Timer manual set (Some armed))) ≡ true → ⊥
    go true wrong = false≢true wrong
    go false wrong = false≢true wrong

-- a swap signals it
signal_gains : (o : Object) → may_signal o ≡ true → overflows (pos 1) o ≡ false → counts (signal o) ≡ true → Gains o (signal o) (pos 1) 0
signal_gains (Semaphore own maximum) may fits is = released_gains (pos 1) (Semaphore own maximum) refl (omega (arith, ints)) fits
signal_gains (Event manual set) may fits is = absurd (false≢true is)
signal_gains (Mutex owner depth abandoned) may fits is = let own = unlocked_gains (Mutex owner depth abandoned) is in absurd (false≢true own.counts)
signal_gains (Timer manual set armed) may fits is = absurd (false≢true may)
signal_gains (Thread ended) may fits is = absurd (false≢true may)
signal_gains Gone may fits is = absurd (false≢true may)

-- a semaphore where none was
pub new_gains : (o : Object) (initial maximum : ℤ) → o ≡ Thread false → may_count initial maximum ≡ true → Gains o (Semaphore initial maximum) initial 0
new_gains o initial maximum none may =
    subst (λ x. Gains x (Semaphore initial maximum) initial 0) (sym none) (record {
      counts = refl;
      count = omega (arith, ints);
      lawful = λ l. (grind (arith, ints, may), grind (arith, ints, may));
    })

-- either the change is here, or the object stays
here_or_not : (b : Bool) (o new : Object) (gain : ℤ) → (b ≡ true → counts new ≡ true → Gains o new gain 0) → counts (cond b new o) ≡ true → Gains o (cond b new o) (cond b gain (pos 0)) 0
here_or_not true o new gain here is = here refl is
here_or_not false o new gain here is = same_gains o is

only_here : (b : Bool) (o new : Object) → (counts new ≡ true → Gains o new (pos 0) 0) → counts (cond b new o) ≡ true → Gains o (cond b new o) (pos 0) 0
only_here true o new here is = here is
only_here false o new here is = same_gains o is

act_gains : (s : State) (t : ℕ) (act : Act) (h : ℕ) → refusal s t false (Call.Act act) ≡ None → counts (acted (length s.objects) t act h (object_at s.objects h)) ≡ true → Gains (object_at s.objects h) (acted (length s.objects) t act h (object_at s.objects h)) (act_gives h (length s.objects) act) 0
act_gains s t (Act.CreateEvent flags) h none is = only_here (length s.objects == h) (object_at s.objects h) (event_of flags) (λ other. absurd (false≢true other)) is
act_gains s t (Act.CreateSemaphore initial maximum) h none is =
    let own = own_causes s t (Call.Act (Act.CreateSemaphore initial maximum)) none in
    let may = next_causes (not (may_count initial maximum)) InvalidParameter ((is_full s.handles, HandleLimit) ∷ []) own in
    here_or_not (length s.objects == h) (object_at s.objects h) (Semaphore initial maximum) initial
    (λ here other. new_gains (object_at s.objects h) initial maximum (past_last s.objects h (eqb-true (length s.objects) h here)) (unnot (may_count initial maximum) may.0)) is
  where
    unnot : (b : Bool) → not b ≡ false → b ≡ true
    unnot true e = refl
    unnot false e = sym e
act_gains s t (Act.CreateMutex flags) h none is = only_here (length s.objects == h) (object_at s.objects h) (mutex_of flags t) (λ other. absurd (mutex_counts_not flags t other)) is
act_gains s t (Act.SetEvent g) h none is = only_here (g == h) (object_at s.objects h) (with_set true (object_at s.objects h)) (set_gains true (object_at s.objects h)) is
act_gains s t (Act.ResetEvent g) h none is = only_here (g == h) (object_at s.objects h) (with_set false (object_at s.objects h)) (set_gains false (object_at s.objects h)) is
act_gains s t (Act.PulseEvent g) h none is = only_here (g == h) (object_at s.objects h) (with_set true (object_at s.objects h)) (set_gains true (object_at s.objects h)) is
act_gains s t (Act.ReleaseSemaphore g count) h none is =
    let own = own_causes s t (Call.Act (Act.ReleaseSemaphore g count)) none in
    let kind = next_causes (is_no is_semaphore s.objects g) InvalidHandle ((int_le count (pos 0), InvalidParameter) ∷ (overflows count (object_at s.objects g), TooManyPosts) ∷ []) own in
    let positive = next_causes (int_le count (pos 0)) InvalidParameter ((overflows count (object_at s.objects g), TooManyPosts) ∷ []) kind.1 in
    let fits = next_causes (overflows count (object_at s.objects g)) TooManyPosts [] positive.1 in
    here_or_not (g == h) (object_at s.objects h) (released count (object_at s.objects h)) count
    (λ here other.
    let same = eqb-true g h here in
    released_gains count (object_at s.objects h)
    (ap (λ x. is_semaphore (object_at s.objects x)) (sym same) ∙ unnot (is_semaphore (object_at s.objects g)) kind.0)
    (above count positive.0)
    (ap (λ x. overflows count (object_at s.objects x)) (sym same) ∙ fits.0)) is
  where
    unnot : (b : Bool) → not b ≡ false → b ≡ true
    unnot true e = refl
    unnot false e = sym e

    above : (c : ℤ) → int_le c (pos 0) ≡ false → pos 0 ≤ℤ c
    above c e = grind (arith, ints, e)
act_gains s t (Act.ReleaseMutex g) h none is = only_here (g == h) (object_at s.objects h) (unlocked (object_at s.objects h)) (unlocked_gains (object_at s.objects h)) is
act_gains s t _ h none is = same_gains (object_at s.objects h) is

call_gains : (s : State) (t : ℕ) (call : Call) (h : ℕ) → refusal s t false call ≡ None → counts (changed_at (length s.objects) t call h (object_at s.objects h)) ≡ true → Gains (object_at s.objects h) (changed_at (length s.objects) t call h (object_at s.objects h)) (call_gives h (length s.objects) call) 0
call_gains s t (Call.Act act) h none is = act_gains s t act h none is
call_gains s t (Call.Wait (WaitCall.Swap g object mode)) h none is =
    let judged = swap_judged s t g object mode none in
    here_or_not (g == h) (object_at s.objects h) (signal (object_at s.objects h)) (pos 1)
    (λ here other.
    let same = sym (eqb-true g h here) in
    signal_gains (object_at s.objects h) (ap (λ x. may_signal (object_at s.objects x)) same ∙ judged.may) (ap (λ x. overflows (pos 1) (object_at s.objects x)) same ∙ judged.fits) other) is
call_gains s t Call.Exit h none is = left_gains t (object_at s.objects h) is
call_gains s t _ h none is = same_gains (object_at s.objects h) is

settled_gains : (call : Call) (h : ℕ) (o : Object) → counts (settled_at call h o) ≡ true → Gains o (settled_at call h o) (pos 0) 0
settled_gains (Call.Act (Act.PulseEvent g)) h o is = only_here (g == h) o (with_set false o) (set_gains false o) is
settled_gains _ h o is = same_gains o is

-- ---- turns

pub turn_gains : (h : ℕ) (old : State) (turn : Turn) (new : State) → AreFair old.waits → IsTurn old turn new → counts (object_at new.objects h) ≡ true → Gains (object_at old.objects h) (object_at new.objects h) (turn_gives h old turn) (length (takers h (turn_took old turn)))
turn_gains h old (Calls who call (Ok reply) grants) new fair is ends =
    let none = undenied old who (is_denied old call) (call_named old.handles call) is.1.0 in
    let c = in_call h old who call reply grants new fair is (plain (object_at new.objects h) ends) in
    let last = all_taken (settled_at (call_named old.handles call) h c.calm) (object_at new.objects h) c.last c.begins ends in
    let settled = settled_gains (call_named old.handles call) h c.calm last.counts in
    let first = all_taken (object_at (change old who (call_named old.handles call)).objects h) c.calm c.first c.serves settled.counts in
    let same = c.becomes (plain (object_at (change old who (call_named old.handles call)).objects h) first.counts) in
    let changed = subst (λ o. Gains (object_at old.objects h) o (call_gives h (length old.objects) (call_named old.handles call)) 0) (sym same) (call_gains old who (call_named old.handles call) h none (sym (ap counts same) ∙ first.counts)) in
    let all = then_gains _ _ _ _ _ _ _ changed (then_gains _ _ _ _ _ _ _ first (then_gains _ _ _ _ _ _ _ settled last)) in
    let times : length (takers h (turn_took old (Calls who call (Ok reply) grants))) ≡ length c.first + length c.last = ap (λ ts. length ts) c.told ∙ length-append c.first c.last in
    record {
      counts = all.counts;
      count = let e = all.count in omega (arith, ints, e, times);
      lawful = all.lawful;
    }
turn_gains h old (Calls who call (Err r) grants) new fair is ends =
    let same : object_at new.objects h ≡ object_at old.objects h = ap (λ (s : State). object_at s.objects h) is.2 in
    subst (λ o. Gains (object_at old.objects h) o (pos 0) 0) (sym same) (same_gains (object_at old.objects h) (sym (ap counts same) ∙ ends))
turn_gains h old (Ticks by m r grants) new fair is ends =
    all_taken (object_at old.objects h) (object_at new.objects h) (takers h (turn_took old (Ticks by m r grants))) (in_tick h old by m r grants new fair is (plain (object_at new.objects h) ends)) ends
