-- What threads owe of mutexes, and how deep they hold them.
use Rattle.std.proofs.Common.{◌≡◌, ℕ, ◌+◌, ◌-◌, ◌<◌, Bool, true, false, cond, not, ◌&&◌, ◌==◌, List, [], ◌∷◌, ◌++◌, length, refl, sym, ap, ◌∙◌, subst, arith, Some, None}
use Rattle.std.specs.Prelude.{ℤ, nat_le, count_by}
use Rattle.std.specs.declared.result.Result.TheVariants.{Ok, Err}
use Rattle.std.proofs.lemmas.Bool.{false≢true, eqb-true}
use Rattle.std.proofs.lemmas.Bool.Decides.{nat_tests}
use Rattle.std.proofs.lemmas.List.Sums.{sum_by-cons, sum_by-append}
use Rattle.nt_status.specs.Flags.{has_flag, mutex_initial_owner}
use Rattle.nt_status.specs.declared.refusal.Refusal.TheVariants.{InvalidHandle, NotOwner}
use Rattle.nt_objects.specs.declared.object.Object.{Object}
use Rattle.nt_objects.specs.declared.object.Object.TheVariants.{Event, Semaphore, Mutex, Timer, Thread, Gone}
use Rattle.nt_objects.specs.Object.{signaled, taken, is_mutex, owned_by, depth_of, event_of, mutex_of, with_set, released, unlocked, unset_by, set_by}
use Rattle.nt_calls.specs.declared.call.Call.{Call}
use Rattle.nt_calls.specs.declared.call.Act.{Act}
use Rattle.nt_calls.specs.declared.call.WaitCall.{WaitCall}
use Rattle.nt_calls.specs.Naming.{call_named}
use Rattle.nt_calls.specs.State.{State, object_at}
use Rattle.nt_calls.specs.Change.{change, signal}
use Rattle.nt_calls.specs.Rights.{is_denied}
use Rattle.nt_machine.proofs.Judging.{undenied}
use Rattle.nt_calls.specs.Refusals.{refusal, may_signal, is_no, is_foreign}
use Rattle.nt_calls.specs.Runs.{Turn, Calls, Ticks, IsTurn}
use Rattle.nt_laws.specs.Takes.{turn_took, takers}
use Rattle.nt_laws.specs.Laws.{act_owes, call_owes, turn_owes, held_by}
use Rattle.nt_machine.proofs.Accepting.{next_causes, own_causes}
use Rattle.nt_machine.proofs.Exiting.{left}
use Rattle.nt_laws.proofs.Takes.{TakenBy, AreFair}
use Rattle.nt_laws.proofs.Acting.{swap_judged, is_plain, past_last, acted, changed_at, settled_at}
use Rattle.nt_laws.proofs.Turns.{in_call, in_tick}

-- a mutex, or none yet
abbrev pub owns : Object → Bool
owns (Mutex owner depth abandoned) = true
owns (Thread ended) = not ended
owns _ = false

-- a free mutex has depth 0, an owned one more
abbrev pub IsHeld : Object → Type 0
IsHeld (Mutex None depth abandoned) = depth ≡ 0
IsHeld (Mutex (Some owner) depth abandoned) = 0 < depth
IsHeld _ = Unit {0}

pub mutex_owns : (o : Object) → is_mutex o ≡ true → owns o ≡ true
mutex_owns (Mutex owner depth abandoned) is = refl
mutex_owns (Event manual set) is = is
mutex_owns (Semaphore count maximum) is = is
mutex_owns (Timer manual set armed) is = is
mutex_owns (Thread ended) is = absurd (false≢true is)
mutex_owns Gone is = absurd (false≢true is)

pub plain : (o : Object) → owns o ≡ true → is_plain o ≡ true
plain (Timer manual set armed) is = is
plain (Event manual set) is = refl
plain (Semaphore count maximum) is = refl
plain (Mutex owner depth abandoned) is = refl
plain (Thread ended) is = is
plain Gone is = is

-- the new object came of the old one, and what thread t owes went along
pub record Owes (t : ℕ) (old new : Object) (owe : ℕ → ℕ) : Type 0 where
  pub owns : owns old ≡ true
  pub held : IsHeld old → IsHeld new
  pub owed : IsHeld old → owe (held_by t old) ≡ held_by t new

pub same_owes : (t : ℕ) (o : Object) → owns o ≡ true → Owes t o o (λ k. k)
same_owes t o is = record { owns = is; held = λ l. l; owed = λ l. refl }

pub then_owes : (t : ℕ) (a b c : Object) (f g : ℕ → ℕ) → Owes t a b f → Owes t b c g → Owes t a c (λ k. g (f k))
then_owes t a b c f g p q = record {
  owns = p.owns;
  held = λ l. q.held (p.held l);
  owed = λ l. ap g (p.owed l) ∙ q.owed (p.held l);
}

-- ---- takings

count_more : (t u : ℕ) (ts : List ℕ) → count_by (λ v. v == t) (u ∷ ts) ≡ cond (u == t) 1 0 + count_by (λ v. v == t) ts
count_more t u ts = sum_by-cons (λ v. cond (v == t) 1 0) u ts

one_taken : (t : ℕ) (o : Object) (u : ℕ) → signaled o u ≡ true → owns (taken o u) ≡ true → Owes t o (taken o u) (λ k. k + cond (u == t) 1 0)
one_taken t (Mutex None depth abandoned) u now is = record {
  owns = refl;
  held = λ l. omega arith;
  owed = λ l. go l (u == t);
}
  where
    go : depth ≡ 0 → (b : Bool) → 0 + cond b 1 0 ≡ cond b (depth + 1) 0
    go l true = omega (arith, l)
    go l false = refl
one_taken t (Mutex (Some owner) depth abandoned) u now is = record {
  owns = refl;
  held = λ l. omega arith;
  owed = λ l. subst (λ v. cond (owner == t) depth 0 + cond (v == t) 1 0 ≡ cond (owner == t) (depth + 1) 0) (eqb-true owner u now) (go (owner == t));
}
  where
    go : (b : Bool) → cond b depth 0 + cond b 1 0 ≡ cond b (depth + 1) 0
    go true = refl
    go false = refl
one_taken t (Event manual set) u now is = absurd (false≢true is)
one_taken t (Semaphore count maximum) u now is = absurd (false≢true is)
one_taken t (Timer manual set armed) u now is = absurd (false≢true is)
one_taken t (Thread true) u now is = absurd (false≢true is)
one_taken t Gone u now is = absurd (false≢true is)
one_taken t (Thread false) u now is = absurd (false≢true now)

all_taken : (t : ℕ) (o new : Object) (ts : List ℕ) → TakenBy o ts new → owns new ≡ true → Owes t o new (λ k. k + count_by (λ u. u == t) ts)
all_taken t o new [] is ends = subst (λ x. Owes t o x (λ k. k + 0)) (sym is) (record { owns = sym (ap owns is) ∙ ends; held = λ l. l; owed = λ l. omega arith })
all_taken t o new (u ∷ ts) is ends =
    let rest = all_taken t (taken o u) new ts is.1 ends in
    let both = then_owes t o (taken o u) new (λ k. k + cond (u == t) 1 0) (λ k. k + count_by (λ v. v == t) ts) (one_taken t o u is.0 rest.owns) rest in
    record { owns = both.owns; held = both.held; owed = λ l. let e = both.owed l in let more = count_more t u ts in omega (arith, e, more) }

-- ---- changes

set_owes : (t : ℕ) (set : Bool) (o : Object) → owns (with_set set o) ≡ true → Owes t o (with_set set o) (λ k. k)
set_owes t set (Mutex owner depth abandoned) is = same_owes t (Mutex owner depth abandoned) refl
set_owes t set (Event manual old) is = absurd (false≢true is)
set_owes t set (Semaphore count maximum) is = absurd (false≢true is)
set_owes t set (Timer manual old armed) is = absurd (false≢true is)
set_owes t set (Thread ended) is = same_owes t (Thread ended) is
set_owes t set Gone is = same_owes t Gone is

released_owes : (t : ℕ) (count : ℤ) (o : Object) → owns (released count o) ≡ true → Owes t o (released count o) (λ k. k)
released_owes t count (Mutex owner depth abandoned) is = same_owes t (Mutex owner depth abandoned) refl
released_owes t count (Event manual old) is = absurd (false≢true is)
released_owes t count (Semaphore own maximum) is = absurd (false≢true is)
released_owes t count (Timer manual old armed) is = absurd (false≢true is)
released_owes t count (Thread ended) is = same_owes t (Thread ended) is
released_owes t count Gone is = same_owes t Gone is

-- its owner releases the mutex
unlocked_owes : (t : ℕ) (o : Object) (who : ℕ) → owned_by o who ≡ true → Owes t o (unlocked o) (λ k. cond (who == t) (k - 1) k)
unlocked_owes t (Mutex None depth abandoned) who own = absurd (false≢true own)
unlocked_owes t (Mutex (Some owner) depth abandoned) who own = subst (λ v. Owes t (Mutex (Some owner) depth abandoned) (unlocked (Mutex (Some owner) depth abandoned)) (λ k. cond (v == t) (k - 1) k)) (eqb-true owner who own) (go (nat_le depth 1) refl)
  where
    last : nat_le depth 1 ≡ true → 0 < depth → depth - 1 ≡ 0
    last e l = grind (arith, nat_tests, e, l)

    more : nat_le depth 1 ≡ false → 0 < depth - 1
    more e = grind (arith, nat_tests, e)

    free : depth - 1 ≡ 0 → (b : Bool) → cond b (cond b depth 0 - 1) (cond b depth 0) ≡ 0
    free e true = e
    free e false = refl

    less : (b : Bool) → cond b (cond b depth 0 - 1) (cond b depth 0) ≡ cond b (depth - 1) 0
    less true = refl
    less false = refl

    go : (b : Bool) → nat_le depth 1 ≡ b → Owes t (Mutex (Some owner) depth abandoned) (cond b (Mutex None 0 false) (Mutex (Some owner) (depth - 1) abandoned)) (λ k. cond (owner == t) (k - 1) k)
    go true e = record { owns = refl; held = λ l. refl; owed = λ l. free (last e l) (owner == t) }
    go false e = record { owns = refl; held = λ l. more e; owed = λ l. less (owner == t) }
unlocked_owes t (Event manual set) who own = absurd (false≢true own)
unlocked_owes t (Semaphore count maximum) who own = absurd (false≢true own)
unlocked_owes t (Timer manual set armed) who own = absurd (false≢true own)
unlocked_owes t (Thread ended) who own = absurd (false≢true own)
unlocked_owes t Gone who own = absurd (false≢true own)

unnot : (b : Bool) → not b ≡ false → b ≡ true
unnot true e = refl
unnot false e = sym e

-- a thread ends
left_owes : (t : ℕ) (o : Object) (who : ℕ) → owns (left who o) ≡ true → Owes t o (left who o) (λ k. cond (who == t) 0 k)
left_owes t (Mutex None depth abandoned) who is = record { owns = refl; held = λ l. l; owed = λ l. none (who == t) }
  where
    none : (b : Bool) → ◌≡◌ {A = ℕ} (cond b 0 0) 0
    none true = refl
    none false = refl
left_owes t (Mutex (Some owner) depth abandoned) who is = go (owner == who) refl
  where
    over : (b : Bool) → cond b 0 (cond b depth 0) ≡ 0
    over true = refl
    over false = refl

    still : (a b : Bool) → (a ≡ true → b ≡ false) → cond a 0 (cond b depth 0) ≡ cond b depth 0
    still true true apart = absurd (false≢true (sym (apart refl)))
    still true false apart = refl
    still false b apart = refl

    go : (b : Bool) → (owner == who) ≡ b → Owes t (Mutex (Some owner) depth abandoned) (unset_by who (cond b (Mutex None 0 true) (Mutex (Some owner) depth abandoned))) (λ k. cond (who == t) 0 k)
    go true e = record {
      owns = refl;
      held = λ l. refl;
      owed = λ l. subst (λ v. cond (who == t) 0 (cond (v == t) depth 0) ≡ 0) (sym (eqb-true owner who e)) (over (who == t));
    }
    go false e = record {
      owns = refl;
      held = λ l. l;
      owed = λ l. still (who == t) (owner == t) (λ own. ap (λ x. owner == x) (sym (eqb-true who t own)) ∙ e);
    }
left_owes t Gone who is = absurd (false≢true is)
left_owes t (Thread ended) who is = record { owns = is; held = λ l. l; owed = λ l. none (who == t) }
  where
    none : (b : Bool) → ◌≡◌ {A = ℕ} (cond b 0 0) 0
    none true = refl
    none false = refl
left_owes t (Event manual set) who is = absurd (false≢true is)
left_owes t (Semaphore count maximum) who is = absurd (false≢true is)
left_owes t (Timer manual set None) who is = absurd (false≢true is)
left_owes t (Timer manual set (Some armed)) who is = absurd (go (set_by armed.routine who) is)
  where
    go : (b : Bool) → owns (cond b (Timer manual set None) (Timer manual set (Some armed))) ≡ true → ⊥
    go true wrong = false≢true wrong
    go false wrong = false≢true wrong

-- a swap signals it
signal_owes : (t : ℕ) (o : Object) (who : ℕ) → may_signal o ≡ true → (is_mutex o && not (owned_by o who)) ≡ false → owns (signal o) ≡ true → Owes t o (signal o) (λ k. cond (who == t) (k - 1) k)
signal_owes t (Mutex owner depth abandoned) who may foreign is = unlocked_owes t (Mutex owner depth abandoned) who (unnot (owned_by (Mutex owner depth abandoned) who) foreign)
signal_owes t (Event manual set) who may foreign is = absurd (false≢true is)
signal_owes t (Semaphore count maximum) who may foreign is = absurd (false≢true is)
signal_owes t (Timer manual set armed) who may foreign is = absurd (false≢true may)
signal_owes t (Thread ended) who may foreign is = absurd (false≢true may)
signal_owes t Gone who may foreign is = absurd (false≢true may)

-- a mutex where none was
pub new_owes : (t : ℕ) (o : Object) (flags who : ℕ) → o ≡ Thread false → Owes t o (mutex_of flags who) (λ k. cond (has_flag flags mutex_initial_owner && who == t) (k + 1) k)
new_owes t o flags who none = subst (λ x. Owes t x (mutex_of flags who) (λ k. cond (has_flag flags mutex_initial_owner && who == t) (k + 1) k)) (sym none) (go (has_flag flags mutex_initial_owner))
  where
    one : (b : Bool) → cond b (0 + 1) 0 ≡ cond b 1 0
    one true = refl
    one false = refl

    go : (flag : Bool) → Owes t (Thread false) (cond flag (Mutex (Some who) 1 false) (Mutex None 0 false)) (λ k. cond (flag && who == t) (k + 1) k)
    go true = record { owns = refl; held = λ l. omega arith; owed = λ l. one (who == t) }
    go false = record { owns = refl; held = λ l. refl; owed = λ l. refl }

only_here : (t : ℕ) (b : Bool) (o new : Object) → (owns new ≡ true → Owes t o new (λ k. k)) → owns (cond b new o) ≡ true → Owes t o (cond b new o) (λ k. k)
only_here t true o new here is = here is
only_here t false o new here is = same_owes t o is

-- either the change is here, or the object stays
here_or_not : (t : ℕ) (b c : Bool) (o new : Object) (f : ℕ → ℕ) → (b ≡ true → owns new ≡ true → Owes t o new (λ k. cond c (f k) k)) → owns (cond b new o) ≡ true → Owes t o (cond b new o) (λ k. cond (b && c) (f k) k)
here_or_not t true c o new f here is = here refl is
here_or_not t false c o new f here is = same_owes t o is

owner_of_known : (kind own : Bool) → kind ≡ true → (kind && not own) ≡ false → own ≡ true
owner_of_known true own k e = unnot own e
owner_of_known false own k e = absurd (false≢true k)

act_owing : (t : ℕ) (s : State) (who : ℕ) (act : Act) (h : ℕ) → refusal s who false (Call.Act act) ≡ None → owns (acted (length s.objects) who act h (object_at s.objects h)) ≡ true → Owes t (object_at s.objects h) (acted (length s.objects) who act h (object_at s.objects h)) (λ k. act_owes h (length s.objects) t who act k)
act_owing t s who (Act.CreateEvent flags) h none is = only_here t (length s.objects == h) (object_at s.objects h) (event_of flags) (λ other. absurd (false≢true other)) is
act_owing t s who (Act.CreateSemaphore initial maximum) h none is = only_here t (length s.objects == h) (object_at s.objects h) (Semaphore initial maximum) (λ other. absurd (false≢true other)) is
act_owing t s who (Act.CreateMutex flags) h none is =
    new_or_not (length s.objects == h) refl is
  where
    new_or_not : (b : Bool) → (length s.objects == h) ≡ b → owns (cond b (mutex_of flags who) (object_at s.objects h)) ≡ true → Owes t (object_at s.objects h) (cond b (mutex_of flags who) (object_at s.objects h)) (λ k. cond (b && has_flag flags mutex_initial_owner && who == t) (k + 1) k)
    new_or_not true e is = new_owes t (object_at s.objects h) flags who (past_last s.objects h (eqb-true (length s.objects) h e))
    new_or_not false e is = same_owes t (object_at s.objects h) is
act_owing t s who (Act.SetEvent g) h none is = only_here t (g == h) (object_at s.objects h) (with_set true (object_at s.objects h)) (set_owes t true (object_at s.objects h)) is
act_owing t s who (Act.ResetEvent g) h none is = only_here t (g == h) (object_at s.objects h) (with_set false (object_at s.objects h)) (set_owes t false (object_at s.objects h)) is
act_owing t s who (Act.PulseEvent g) h none is = only_here t (g == h) (object_at s.objects h) (with_set true (object_at s.objects h)) (set_owes t true (object_at s.objects h)) is
act_owing t s who (Act.ReleaseSemaphore g count) h none is = only_here t (g == h) (object_at s.objects h) (released count (object_at s.objects h)) (released_owes t count (object_at s.objects h)) is
act_owing t s who (Act.ReleaseMutex g) h none is =
    let own = own_causes s who (Call.Act (Act.ReleaseMutex g)) none in
    let kind = next_causes (is_no is_mutex s.objects g) InvalidHandle ((is_foreign s.objects who g, NotOwner) ∷ []) own in
    let foreign = next_causes (is_foreign s.objects who g) NotOwner [] kind.1 in
    let owner : owned_by (object_at s.objects g) who ≡ true = owner_of_known (is_mutex (object_at s.objects g)) (owned_by (object_at s.objects g) who) (unnot (is_mutex (object_at s.objects g)) kind.0) foreign.0 in
    here_or_not t (g == h) (who == t) (object_at s.objects h) (unlocked (object_at s.objects h)) (λ k. k - 1)
    (λ here other. unlocked_owes t (object_at s.objects h) who (ap (λ x. owned_by (object_at s.objects x) who) (sym (eqb-true g h here)) ∙ owner)) is
act_owing t s who _ h none is = same_owes t (object_at s.objects h) is

call_owing : (t : ℕ) (s : State) (who : ℕ) (call : Call) (h : ℕ) → refusal s who false call ≡ None → owns (changed_at (length s.objects) who call h (object_at s.objects h)) ≡ true → Owes t (object_at s.objects h) (changed_at (length s.objects) who call h (object_at s.objects h)) (λ k. call_owes h (length s.objects) t who call k)
call_owing t s who (Call.Act act) h none is = act_owing t s who act h none is
call_owing t s who (Call.Wait (WaitCall.Swap g object mode)) h none is =
    let judged = swap_judged s who g object mode none in
    here_or_not t (g == h) (who == t) (object_at s.objects h) (signal (object_at s.objects h)) (λ k. k - 1)
    (λ here other.
    let same = sym (eqb-true g h here) in
    signal_owes t (object_at s.objects h) who (ap (λ x. may_signal (object_at s.objects x)) same ∙ judged.may) (ap (λ x. is_foreign s.objects who x) same ∙ judged.foreign) other) is
call_owing t s who Call.Exit h none is = left_owes t (object_at s.objects h) who is
call_owing t s who _ h none is = same_owes t (object_at s.objects h) is

settled_owes : (t : ℕ) (call : Call) (h : ℕ) (o : Object) → owns (settled_at call h o) ≡ true → Owes t o (settled_at call h o) (λ k. k)
settled_owes t (Call.Act (Act.PulseEvent g)) h o is = only_here t (g == h) o (with_set false o) (set_owes t false o) is
settled_owes t _ h o is = same_owes t o is

-- ---- turns

count_append : (t : ℕ) (xs ys : List ℕ) → count_by (λ u. u == t) (xs ++ ys) ≡ count_by (λ u. u == t) xs + count_by (λ u. u == t) ys
count_append t xs ys = sum_by-append (λ u. cond (u == t) 1 0) xs ys

pub turn_owing : (t h : ℕ) (old : State) (turn : Turn) (new : State) → AreFair old.waits → IsTurn old turn new → owns (object_at new.objects h) ≡ true → Owes t (object_at old.objects h) (object_at new.objects h) (λ k. turn_owes h t old turn k + count_by (λ u. u == t) (takers h (turn_took old turn)))
turn_owing t h old (Calls who call (Ok reply) grants) new fair is ends =
    let none = undenied old who (is_denied old call) (call_named old.handles call) is.1.0 in
    let c = in_call h old who call reply grants new fair is (plain (object_at new.objects h) ends) in
    let last = all_taken t (settled_at (call_named old.handles call) h c.calm) (object_at new.objects h) c.last c.begins ends in
    let settled = settled_owes t (call_named old.handles call) h c.calm last.owns in
    let first = all_taken t (object_at (change old who (call_named old.handles call)).objects h) c.calm c.first c.serves settled.owns in
    let same = c.becomes (plain (object_at (change old who (call_named old.handles call)).objects h) first.owns) in
    let changed = subst (λ o. Owes t (object_at old.objects h) o (λ k. call_owes h (length old.objects) t who (call_named old.handles call) k)) (sym same) (call_owing t old who (call_named old.handles call) h none (sym (ap owns same) ∙ first.owns)) in
    let all = then_owes t _ _ _ _ _ changed (then_owes t _ _ _ _ _ first (then_owes t _ _ _ _ _ settled last)) in
    let times : count_by (λ u. u == t) (takers h (turn_took old (Calls who call (Ok reply) grants))) ≡ count_by (λ u. u == t) c.first + count_by (λ u. u == t) c.last = ap (λ ts. count_by (λ u. u == t) ts) c.told ∙ count_append t c.first c.last in
    record {
      owns = all.owns;
      held = all.held;
      owed = λ l. let e = all.owed l in omega (arith, e, times);
    }
turn_owing t h old (Calls who call (Err r) grants) new fair is ends =
    let same : object_at new.objects h ≡ object_at old.objects h = ap (λ (s : State). object_at s.objects h) is.2 in
    subst (λ o. Owes t (object_at old.objects h) o (λ k. k + 0)) (sym same) (record { owns = sym (ap owns same) ∙ ends; held = λ l. l; owed = λ l. omega arith })
turn_owing t h old (Ticks by m r grants) new fair is ends =
    all_taken t (object_at old.objects h) (object_at new.objects h) (takers h (turn_took old (Ticks by m r grants))) (in_tick h old by m r grants new fair is (plain (object_at new.objects h) ends)) ends

-- ---- one owner

pub holder : (o : Object) (t u : ℕ) → 0 < held_by t o → 0 < held_by u o → t ≡ u
holder o t u a b = same o (owns_of o t (owned_by o t) refl a) (owns_of o u (owned_by o u) refl b)
  where
    owns_of : (o : Object) (v : ℕ) (b : Bool) → owned_by o v ≡ b → 0 < cond b (depth_of o) 0 → owned_by o v ≡ true
    owns_of o v true e l = e
    owns_of o v false e l = absurd (omega (arith, l))

    same : (o : Object) → owned_by o t ≡ true → owned_by o u ≡ true → t ≡ u
    same (Mutex None depth abandoned) p q = absurd (false≢true p)
    same (Mutex (Some owner) depth abandoned) p q = sym (eqb-true owner t p) ∙ eqb-true owner u q
    same (Event manual set) p q = absurd (false≢true p)
    same (Semaphore count maximum) p q = absurd (false≢true p)
    same (Timer manual set armed) p q = absurd (false≢true p)
    same (Thread ended) p q = absurd (false≢true p)
    same Gone p q = absurd (false≢true p)
