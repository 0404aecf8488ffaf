-- What a knot holds it keeps, whatever threads of no knot do to the object.
use Rattle.std.proofs.Common.{◌≡◌, ◌≤◌, ◌<◌, ◌+◌, ℕ, zero, suc, Bool, true, false, cond, not, ◌&&◌, ◌||◌, ◌==◌, List, [], ◌∷◌, ◌++◌, length, length-append, refl, sym, ap, ◌∙◌, subst, arith, Option, Some, None, Contains}
use Rattle.std.specs.Prelude.{ℤ, pos, negsuc, ◌-ℤ◌, int_lt, int_le, nat_le, unsigned_abs, map, slice_set, slice_index}
use Rattle.std.proofs.lemmas.Bool.{false≢true}
use Rattle.std.proofs.lemmas.Bool.Decides.{nat_tests}
use Rattle.std.proofs.lemmas.List.{length-set, length-map}
use Rattle.nt_status.proofs.Lists.{contains_first, contains_later}
use Rattle.nt_status.specs.declared.limits.TheConstants.{MAX_MOMENT}
use Rattle.nt_status.specs.Access.{synchronize, modify_state, access_bits}
use Rattle.nt_status.specs.Flags.{has_flag, only_known}
use Rattle.nt_status.specs.declared.refusal.Refusal.TheVariants.{InvalidHandle, InvalidParameter, AccessDenied, NotOwner, TooManyPosts, RecursionLimit, HandleLimit}
use Rattle.nt_objects.specs.declared.object.Object.{Object}
use Rattle.nt_objects.specs.declared.object.Object.TheVariants.{Event, Semaphore, Mutex, Timer, Thread, Gone}
use Rattle.nt_objects.specs.declared.object.Armed.{Armed}
use Rattle.nt_objects.specs.Object.{signaled, taken, is_event, is_semaphore, is_mutex, is_timer, owned_by, has_ended, due_of, overflows, with_set, released, unlocked, armed_with, unset_by, set_by, setting_of, rearmed, event_of, mutex_of, timer_of, is_thread, is_gone, full_access}
use Rattle.nt_waits.specs.declared.wait.Wait.{Wait}
use Rattle.nt_calls.specs.declared.call.Call.{Call}
use Rattle.nt_calls.specs.declared.call.Act.{Act}
use Rattle.nt_calls.specs.declared.call.WaitCall.{WaitCall}
use Rattle.nt_calls.specs.State.{State, object_at, with_object, with_handing}
use Rattle.nt_calls.specs.Serving.{take_at, take_each, objects_taken, least}
use Rattle.nt_calls.specs.Change.{at, created, signal, change, may_take, expired, expired_as, all_expired, armed_anew, timer_set, due_moment, routine_for}
use Rattle.nt_calls.specs.Living.{gone, all_gone}
use Rattle.nt_calls.specs.Refusals.{Cause, refusal, is_no, is_unknown, is_foreign, is_full, is_at_limit, may_signal}
use Rattle.nt_calls.specs.Rights.{act_denied, signal_denied, is_denied}
use Rattle.nt_calls.specs.Steps.{after_serving}
use Rattle.nt_machine.proofs.Accepting.{next_causes}
use Rattle.nt_machine.proofs.Changing.{object_at-append}
use Rattle.nt_machine.proofs.Exiting.{left, mapped_at}
use Rattle.nt_apc.specs.Queues.{oldest_taken}
use Rattle.nt_calls.specs.Naming.{act_named, call_named, object_named, lacks, no_object}
use Rattle.nt_look.specs.Hangs.{will_come, gives, is_given, holds}
use Rattle.nt_look.proofs.Parts.{neither, not_first, second_false, or_less, not_true, both_of, together, any_push, handle_closed, at_set}
use Rattle.nt_look.proofs.Waiting.{AreTimely, expired_other}
use Rattle.nt_look.proofs.Standstill.{call_own, free_to_call}
use Rattle.nt_look.proofs.Allowing.{not_here, duplicate_less, undenied}

-- as `holds`, of n threads, whose own objects come first
abbrev pub firm : ℕ → (ℕ → Bool) → Bool → ℕ → ℕ → Object → Bool
firm n knot free t o (Mutex (Some owner) depth abandoned) = nat_le n o && (knot owner && not (owner == t))
firm n knot free t o (Thread ended) = knot o && not ended
firm n knot free t o (Event manual set) = nat_le n o && (not set && free)
firm n knot free t o (Semaphore count maximum) = nat_le n o && (not (int_lt (pos 0) count) && free)
firm n knot free t o (Timer manual set None) = nat_le n o && (not set && free)
firm n knot free t o (Timer manual set (Some armed)) = nat_le n o && (not (nat_le armed.due MAX_MOMENT || set) && free)
firm n knot free t o Gone = true
firm n knot free t o _ = false

pub firm_holds : (n : ℕ) (knot : ℕ → Bool) (free : Bool) (t o : ℕ) (x : Object) → firm n knot free t o x ≡ true → holds knot free t o x ≡ true
firm_holds n knot free t o (Mutex (Some owner) depth abandoned) e = (both_of (nat_le n o) (knot owner && not (owner == t)) e).1
firm_holds n knot free t o (Mutex None depth abandoned) e = absurd (false≢true e)
firm_holds n knot free t o (Thread ended) e = e
firm_holds n knot free t o Gone e = e
firm_holds n knot free t o (Event manual set) e = (both_of (nat_le n o) (not set && free) e).1
firm_holds n knot free t o (Semaphore count maximum) e = (both_of (nat_le n o) (not (int_lt (pos 0) count) && free) e).1
firm_holds n knot free t o (Timer manual set None) e = (both_of (nat_le n o) (not set && free) e).1
firm_holds n knot free t o (Timer manual set (Some armed)) e = (both_of (nat_le n o) (not (nat_le armed.due MAX_MOMENT || set) && free) e).1

pub holds_firm : (n : ℕ) (knot : ℕ → Bool) (free : Bool) (t o : ℕ) (x : Object) → (is_thread x ≡ false → is_gone x ≡ false → nat_le n o ≡ true) → holds knot free t o x ≡ true → firm n knot free t o x ≡ true
holds_firm n knot free t o (Mutex (Some owner) depth abandoned) later e = together (nat_le n o) (knot owner && not (owner == t)) (later refl refl) e
holds_firm n knot free t o (Mutex None depth abandoned) later e = absurd (false≢true e)
holds_firm n knot free t o (Thread ended) later e = e
holds_firm n knot free t o Gone later e = e
holds_firm n knot free t o (Event manual set) later e = together (nat_le n o) (not set && free) (later refl refl) e
holds_firm n knot free t o (Semaphore count maximum) later e = together (nat_le n o) (not (int_lt (pos 0) count) && free) (later refl refl) e
holds_firm n knot free t o (Timer manual set None) later e = together (nat_le n o) (not set && free) (later refl refl) e
holds_firm n knot free t o (Timer manual set (Some armed)) later e = together (nat_le n o) (not (nat_le armed.due MAX_MOMENT || set) && free) (later refl refl) e

-- nobody can set it, and it is not set
unset : (a free set : Bool) → (a && (not set && free)) ≡ true → set ≡ false
unset a free set e = not_true set (both_of (not set) free (both_of a (not set && free) e).1).0

is_free : (a free set : Bool) → (a && (not set && free)) ≡ true → free ≡ true
is_free a free set e = (both_of (not set) free (both_of a (not set && free) e).1).1

-- less is set
less_set : (a free set less : Bool) → (set ≡ false → less ≡ false) → (a && (not set && free)) ≡ true → (a && (not less && free)) ≡ true
less_set a free set less falls e =
    together a (not less && free) (both_of a (not set && free) e).0 (together (not less) free (ap (λ b. not b) (falls (unset a free set e))) (is_free a free set e))

and_less : (a b : Bool) → b ≡ false → (a && b) ≡ false
and_less true b e = e
and_less false b e = refl

-- a count that is not above 0 is not once it was taken
one_less : (count : ℤ) → int_lt (pos 0) count ≡ false → int_lt (pos 0) (count -ℤ pos 1) ≡ false
one_less (pos zero) e = refl
one_less (pos (suc n)) e =
    let test : nat_le 1 (suc n) ≡ false = e in
    let less : suc n < 1 = grind (arith, nat_tests, test) in
    absurd (omega (arith, less))
one_less (negsuc n) e = refl

-- what is held is not signaled
pub firm_unready : (n : ℕ) (knot : ℕ → Bool) (free : Bool) (t o : ℕ) (x : Object) → firm n knot free t o x ≡ true → signaled x t ≡ false
firm_unready n knot free t o (Mutex (Some owner) depth abandoned) e =
    let own = both_of (nat_le n o) (knot owner && not (owner == t)) e in
    not_true (owner == t) (both_of (knot owner) (not (owner == t)) own.1).1
firm_unready n knot free t o (Mutex None depth abandoned) e = absurd (false≢true e)
firm_unready n knot free t o (Thread ended) e = not_true ended (both_of (knot o) (not ended) e).1
firm_unready n knot free t o Gone e = refl
firm_unready n knot free t o (Event manual set) e = unset (nat_le n o) free set e
firm_unready n knot free t o (Semaphore count maximum) e = unset (nat_le n o) free (int_lt (pos 0) count) e
firm_unready n knot free t o (Timer manual set None) e = unset (nat_le n o) free set e
firm_unready n knot free t o (Timer manual set (Some armed)) e = (neither (nat_le armed.due MAX_MOMENT) set (unset (nat_le n o) free (nat_le armed.due MAX_MOMENT || set) e)).1

-- what is held is no timer that will be set
held_undue : (n : ℕ) (knot : ℕ → Bool) (free : Bool) (t o : ℕ) (x : Object) → firm n knot free t o x ≡ true → will_come (due_of x) ≡ false
held_undue n knot free t o (Mutex owner depth abandoned) e = refl
held_undue n knot free t o (Thread ended) e = refl
held_undue n knot free t o Gone e = refl
held_undue n knot free t o (Event manual set) e = refl
held_undue n knot free t o (Semaphore count maximum) e = refl
held_undue n knot free t o (Timer manual set None) e = refl
held_undue n knot free t o (Timer manual set (Some armed)) e = (neither (nat_le armed.due MAX_MOMENT) set (unset (nat_le n o) free (nat_le armed.due MAX_MOMENT || set) e)).0

freer_and : (a free freer : Bool) → (free ≡ true → freer ≡ true) → (a && free) ≡ true → (a && freer) ≡ true
freer_and a free freer more e = let two = both_of a free e in together a freer two.0 (more two.1)

-- where fewer handles may signal it, more is held
pub holds_freer : (knot : ℕ → Bool) (free freer : Bool) (t o : ℕ) (x : Object) → (free ≡ true → freer ≡ true) → holds knot free t o x ≡ true → holds knot freer t o x ≡ true
holds_freer knot free freer t o (Mutex (Some owner) depth abandoned) more e = e
holds_freer knot free freer t o (Mutex None depth abandoned) more e = absurd (false≢true e)
holds_freer knot free freer t o (Thread ended) more e = e
holds_freer knot free freer t o Gone more e = e
holds_freer knot free freer t o (Event manual set) more e = freer_and (not set) free freer more e
holds_freer knot free freer t o (Semaphore count maximum) more e = freer_and (not (int_lt (pos 0) count)) free freer more e
holds_freer knot free freer t o (Timer manual set None) more e = freer_and (not set) free freer more e
holds_freer knot free freer t o (Timer manual set (Some armed)) more e = freer_and (not (nat_le armed.due MAX_MOMENT || set)) free freer more e

-- ---- what may be done to an object

-- a change of an object that leaves it held
abbrev pub Keeps : ℕ → (ℕ → Bool) → Bool → ℕ → ℕ → (Object → Object) → Type 0
Keeps n knot free t o f = (x : Object) → firm n knot free t o x ≡ true → firm n knot free t o (f x) ≡ true

taken_firm : (n : ℕ) (knot : ℕ → Bool) (free : Bool) (t o u : ℕ) → Keeps n knot free t o (λ x. taken x u)
taken_firm n knot free t o u (Mutex (Some owner) depth abandoned) e = e
taken_firm n knot free t o u (Mutex None depth abandoned) e = absurd (false≢true e)
taken_firm n knot free t o u (Thread ended) e = e
taken_firm n knot free t o u Gone e = e
taken_firm n knot free t o u (Event manual set) e = less_set (nat_le n o) free set (manual && set) (and_less manual set) e
taken_firm n knot free t o u (Semaphore count maximum) e = less_set (nat_le n o) free (int_lt (pos 0) count) (int_lt (pos 0) (count -ℤ pos 1)) (one_less count) e
taken_firm n knot free t o u (Timer manual set None) e = less_set (nat_le n o) free set (manual && set) (and_less manual set) e
taken_firm n knot free t o u (Timer manual set (Some armed)) e =
    less_set (nat_le n o) free (nat_le armed.due MAX_MOMENT || set) (nat_le armed.due MAX_MOMENT || (manual && set)) (or_less (nat_le armed.due MAX_MOMENT) set (manual && set) (and_less manual set)) e

set_firm : (n : ℕ) (knot : ℕ → Bool) (free : Bool) (t o : ℕ) → (free ≡ true → ⊥) → Keeps n knot free t o (with_set true)
set_firm n knot free t o never (Mutex owner depth abandoned) e = e
set_firm n knot free t o never (Thread ended) e = e
set_firm n knot free t o never Gone e = e
set_firm n knot free t o never (Event manual set) e = absurd (never (is_free (nat_le n o) free set e))
set_firm n knot free t o never (Semaphore count maximum) e = e
set_firm n knot free t o never (Timer manual set None) e = absurd (never (is_free (nat_le n o) free set e))
set_firm n knot free t o never (Timer manual set (Some armed)) e = absurd (never (is_free (nat_le n o) free (nat_le armed.due MAX_MOMENT || set) e))

unset_firm : (n : ℕ) (knot : ℕ → Bool) (free : Bool) (t o : ℕ) → Keeps n knot free t o (with_set false)
unset_firm n knot free t o (Mutex owner depth abandoned) e = e
unset_firm n knot free t o (Thread ended) e = e
unset_firm n knot free t o Gone e = e
unset_firm n knot free t o (Event manual set) e = less_set (nat_le n o) free set false (λ _. refl) e
unset_firm n knot free t o (Semaphore count maximum) e = e
unset_firm n knot free t o (Timer manual set None) e = less_set (nat_le n o) free set false (λ _. refl) e
unset_firm n knot free t o (Timer manual set (Some armed)) e =
    less_set (nat_le n o) free (nat_le armed.due MAX_MOMENT || set) (nat_le armed.due MAX_MOMENT || false) (or_less (nat_le armed.due MAX_MOMENT) set false (λ _. refl)) e

released_firm : (n : ℕ) (knot : ℕ → Bool) (free : Bool) (t o : ℕ) (count : ℤ) → (free ≡ true → ⊥) → Keeps n knot free t o (released count)
released_firm n knot free t o count never (Mutex owner depth abandoned) e = e
released_firm n knot free t o count never (Thread ended) e = e
released_firm n knot free t o count never Gone e = e
released_firm n knot free t o count never (Event manual set) e = e
released_firm n knot free t o count never (Semaphore own maximum) e = absurd (never (is_free (nat_le n o) free (int_lt (pos 0) own) e))
released_firm n knot free t o count never (Timer manual set None) e = e
released_firm n knot free t o count never (Timer manual set (Some armed)) e = e

cancelled_firm : (n : ℕ) (knot : ℕ → Bool) (free : Bool) (t o : ℕ) → Keeps n knot free t o (armed_with None)
cancelled_firm n knot free t o (Mutex owner depth abandoned) e = e
cancelled_firm n knot free t o (Thread ended) e = e
cancelled_firm n knot free t o Gone e = e
cancelled_firm n knot free t o (Event manual set) e = e
cancelled_firm n knot free t o (Semaphore count maximum) e = e
cancelled_firm n knot free t o (Timer manual set None) e = e
cancelled_firm n knot free t o (Timer manual set (Some armed)) e =
    less_set (nat_le n o) free (nat_le armed.due MAX_MOMENT || set) set (λ none. (neither (nat_le armed.due MAX_MOMENT) set none).1) e

-- where a handle may signal it
anew_firm : (n : ℕ) (knot : ℕ → Bool) (free : Bool) (t o : ℕ) (armed : Option Armed) (now : Bool) → (free ≡ true → ⊥) → Keeps n knot free t o (λ x. armed_with armed (with_set now x))
anew_firm n knot free t o armed now never (Mutex owner depth abandoned) e = e
anew_firm n knot free t o armed now never (Thread ended) e = e
anew_firm n knot free t o armed now never Gone e = e
anew_firm n knot free t o armed now never (Event manual set) e = absurd (never (is_free (nat_le n o) free set e))
anew_firm n knot free t o armed now never (Semaphore count maximum) e = e
anew_firm n knot free t o armed now never (Timer manual set None) e = absurd (never (is_free (nat_le n o) free set e))
anew_firm n knot free t o armed now never (Timer manual set (Some own)) e = absurd (never (is_free (nat_le n o) free (nat_le own.due MAX_MOMENT || set) e))

-- who owns what a knot holds is in the knot
other_owner : (n : ℕ) (knot : ℕ → Bool) (free : Bool) (t o owner who : ℕ) → knot who ≡ false → (nat_le n o && (knot owner && not (owner == t))) ≡ true → (owner == who) ≡ false
other_owner n knot free t o owner who out e = go (owner == who) refl
  where
    inside : knot owner ≡ true
    inside = (both_of (knot owner) (not (owner == t)) (both_of (nat_le n o) (knot owner && not (owner == t)) e).1).0

    go : (b : Bool) → (owner == who) ≡ b → (owner == who) ≡ false
    go false is = is
    go true is =
        let same : owner ≡ who = grind (arith, nat_tests, is) in
        absurd (false≢true (sym out ∙ (ap knot (sym same) ∙ inside)))

-- whoever is in no knot releases none of its mutexes
unlocked_firm : (n : ℕ) (knot : ℕ → Bool) (free : Bool) (t o who : ℕ) → knot who ≡ false → (x : Object) → (is_mutex x && not (owned_by x who)) ≡ false → firm n knot free t o x ≡ true → firm n knot free t o (unlocked x) ≡ true
unlocked_firm n knot free t o who out (Mutex (Some owner) depth abandoned) own e = absurd (false≢true (sym own ∙ ap (λ b. not b) (other_owner n knot free t o owner who out e)))
unlocked_firm n knot free t o who out (Mutex None depth abandoned) own e = absurd (false≢true e)
unlocked_firm n knot free t o who out (Thread ended) own e = e
unlocked_firm n knot free t o who out Gone own e = e
unlocked_firm n knot free t o who out (Event manual set) own e = e
unlocked_firm n knot free t o who out (Semaphore count maximum) own e = e
unlocked_firm n knot free t o who out (Timer manual set None) own e = e
unlocked_firm n knot free t o who out (Timer manual set (Some armed)) own e = e

signal_firm : (n : ℕ) (knot : ℕ → Bool) (free : Bool) (t o who : ℕ) → knot who ≡ false → (x : Object) → (is_mutex x ≡ false → free ≡ true → ⊥) → (is_mutex x && not (owned_by x who)) ≡ false → firm n knot free t o x ≡ true → firm n knot free t o (signal x) ≡ true
signal_firm n knot free t o who out (Mutex owner depth abandoned) never own e = unlocked_firm n knot free t o who out (Mutex owner depth abandoned) own e
signal_firm n knot free t o who out (Thread ended) never own e = e
signal_firm n knot free t o who out Gone never own e = e
signal_firm n knot free t o who out (Event manual set) never own e = absurd (never refl (is_free (nat_le n o) free set e))
signal_firm n knot free t o who out (Semaphore count maximum) never own e = absurd (never refl (is_free (nat_le n o) free (int_lt (pos 0) count) e))
signal_firm n knot free t o who out (Timer manual set None) never own e = e
signal_firm n knot free t o who out (Timer manual set (Some armed)) never own e = e

-- nor abandons one
left_firm : (n : ℕ) (knot : ℕ → Bool) (free : Bool) (t o who : ℕ) → knot who ≡ false → Keeps n knot free t o (left who)
left_firm n knot free t o who out (Mutex (Some owner) depth abandoned) e = go (owner == who) (other_owner n knot free t o owner who out e)
  where
    go : (b : Bool) → b ≡ false → firm n knot free t o (unset_by who (cond b (Mutex None 0 true) (Mutex (Some owner) depth abandoned))) ≡ true
    go true is = absurd (false≢true (sym is))
    go false is = e
left_firm n knot free t o who out (Mutex None depth abandoned) e = absurd (false≢true e)
left_firm n knot free t o who out (Thread ended) e = e
left_firm n knot free t o who out Gone e = e
left_firm n knot free t o who out (Event manual set) e = e
left_firm n knot free t o who out (Semaphore count maximum) e = e
left_firm n knot free t o who out (Timer manual set None) e = e
left_firm n knot free t o who out (Timer manual set (Some armed)) e = go (set_by armed.routine who)
  where
    go : (b : Bool) → firm n knot free t o (cond b (Timer manual set None) (Timer manual set (Some armed))) ≡ true
    go true = cancelled_firm n knot free t o (Timer manual set (Some armed)) e
    go false = e

-- ---- what a state keeps

-- as many threads, no fewer objects, the same waits, and what was held at o still is
pub record Kept (P : Object → Type 0) (o : ℕ) (s new : State) : Type 0 where
  pub threads : new.threads ≡ s.threads
  pub longer : length s.objects ≤ length new.objects
  pub waits : new.waits ≡ s.waits
  pub object : o < length s.objects → P (object_at s.objects o) → P (object_at new.objects o)
  -- a right to it that no handle gives, none gives
  pub ungiven : (right : ℕ) → o < length s.objects → is_given s right o ≡ false → is_given new right o ≡ false

pub kept_then : (P : Object → Type 0) (o : ℕ) (a b c : State) → Kept P o a b → Kept P o b c → Kept P o a c
kept_then P o a b c x y =
    let first = x.longer in
    let second = y.longer in
    record {
      threads = y.threads ∙ x.threads;
      longer = omega (arith, first, second);
      waits = y.waits ∙ x.waits;
      object = λ below e. y.object (omega (arith, below, first)) (x.object below e);
      ungiven = λ right below e. y.ungiven right (omega (arith, below, first)) (x.ungiven right below e);
    }

kept_all : (P : Object → Type 0) (o : ℕ) (s : State) → Kept P o s s
kept_all P o s = record { threads = refl; longer = omega arith; waits = refl; object = λ below e. e; ungiven = λ right below e. e }

-- the objects, one of them changed
with_kept : (P : Object → Type 0) (os : List Object) (g h : ℕ) (f : Object → Object) → (g ≡ h → P (object_at os g) → P (f (object_at os g))) → P (object_at os h) → P (object_at (with_object os g f) h)
with_kept P os g h f keeps old = at_set P os g h (f (object_at os g)) old (λ same. keeps same (subst (λ k. P (object_at os k)) (sym same) old))

kept_at : (P : Object → Type 0) (o : ℕ) (s : State) (g : ℕ) (f : Object → Object) → (g ≡ o → P (object_at s.objects g) → P (f (object_at s.objects g))) → Kept P o s (at s g f)
kept_at P o s g f keeps =
    let count = length-set s.objects g (f (object_at s.objects g)) in
    record { threads = refl; longer = omega (arith, count); waits = refl; object = λ below e. with_kept P s.objects g o f keeps e; ungiven = λ right below e. e }

kept_created : (P : Object → Type 0) (o : ℕ) (s : State) (x : Object) → Kept P o s (created s x)
kept_created P o s x =
    let count : length (s.objects ++ x ∷ []) ≡ length s.objects + 1 = length-append s.objects (x ∷ []) in
    record {
      threads = refl;
      longer = omega (arith, count);
      waits = refl;
      object = λ below e. subst P (sym (object_at-append s.objects (x ∷ []) o below)) e;
      ungiven = λ right below e.
          let other : (length s.objects == o) ≡ false = grind (arith, nat_tests, below) in
          any_push (gives right o) s.handles (Some (record { object = length s.objects; access = full_access x })) e (not_first (length s.objects == o) (has_flag (full_access x) right) other);
    }

-- ---- taking

pub taken_kept : (n : ℕ) (knot : ℕ → Bool) (free : Bool) (t o : ℕ) (os : List Object) (u : ℕ) (w : Wait) → firm n knot free t o (object_at os o) ≡ true → firm n knot free t o (object_at (objects_taken os u w) o) ≡ true
taken_kept n knot free t o os u w e = go w.all
  where
    one : (xs : List Object) (h : ℕ) → firm n knot free t o (object_at xs o) ≡ true → firm n knot free t o (object_at (take_at xs u h) o) ≡ true
    one xs h is = with_kept (λ x. firm n knot free t o x ≡ true) xs h o (λ x. taken x u) (λ same. taken_firm n knot free t o u (object_at xs h)) is

    each : (hs : List ℕ) (xs : List Object) → firm n knot free t o (object_at xs o) ≡ true → firm n knot free t o (object_at (take_each xs u hs) o) ≡ true
    each [] xs is = is
    each (h ∷ hs) xs is = each hs (take_at xs u h) (one xs h is)

    go : (all : Bool) → firm n knot free t o (object_at (cond all (take_each os u w.objects) (take_at os u (slice_index w.objects (least os u w)))) o) ≡ true
    go true = each w.objects os e
    go false = one os (slice_index w.objects (least os u w)) e

-- ---- timers, and objects that end

-- where a handle may signal it
expired_kept : (n : ℕ) (knot : ℕ → Bool) (free : Bool) (t o v : ℕ) (s : State) (timer : ℕ) → (timer ≡ o → free ≡ true → ⊥) → Kept (λ x. firm n knot free t o x ≡ true) o s (expired v s timer)
expired_kept n knot free t o v s timer never = go (setting_of (object_at s.objects timer))
  where
    go : (setting : Option Armed) → Kept (λ x. firm n knot free t o x ≡ true) o s (expired_as s v timer setting)
    go None = kept_all (λ x. firm n knot free t o x ≡ true) o s
    go (Some armed) =
        let f : Object → Object = λ x. armed_with (rearmed v armed) (with_set true x) in
        let count = length-set s.objects timer (f (object_at s.objects timer)) in
        record {
          threads = refl;
          longer = omega (arith, count);
          waits = refl;
          object = λ below e. with_kept (λ x. firm n knot free t o x ≡ true) s.objects timer o f (λ same. anew_firm n knot free t o (rearmed v armed) true (never same) (object_at s.objects timer)) e;
          ungiven = λ right below e. e;
        }

-- nothing is said of the object
plain_kept : (o v : ℕ) (s : State) (timer : ℕ) → Kept (λ x. Unit {0}) o s (expired v s timer)
plain_kept o v s timer = go (setting_of (object_at s.objects timer))
  where
    go : (setting : Option Armed) → Kept (λ x. Unit {0}) o s (expired_as s v timer setting)
    go None = kept_all (λ x. Unit {0}) o s
    go (Some armed) =
        let count = length-set s.objects timer (armed_with (rearmed v armed) (with_set true (object_at s.objects timer))) in
        record { threads = refl; longer = omega (arith, count); waits = refl; object = λ below e. tt; ungiven = λ right below e. e }

all_plain_kept : (o v : ℕ) (s : State) (timers : List ℕ) → Kept (λ x. Unit {0}) o s (all_expired v s timers)
all_plain_kept o v s [] = kept_all (λ x. Unit {0}) o s
all_plain_kept o v s (timer ∷ timers) = kept_then (λ x. Unit {0}) o s (expired v s timer) (all_expired v (expired v s timer) timers) (plain_kept o v s timer) (all_plain_kept o v (expired v s timer) timers)

-- what is none of the timers
others_same : (v : ℕ) (s : State) (timers : List ℕ) (o : ℕ) → (Contains timers o → ⊥) → object_at (all_expired v s timers).objects o ≡ object_at s.objects o
others_same v s [] o apart = refl
others_same v s (timer ∷ timers) o apart =
    others_same v (expired v s timer) timers o (λ has. apart (contains_later timer timers o has)) ∙ expired_other v s timer o (λ same. apart (contains_first timer timers o (sym same)))

pub all_expired_kept : (n : ℕ) (knot : ℕ → Bool) (free : Bool) (t o v : ℕ) (s : State) (timers : List ℕ) → AreTimely s timers → Kept (λ x. firm n knot free t o x ≡ true) o s (all_expired v s timers)
all_expired_kept n knot free t o v s timers timely =
    let plain = all_plain_kept o v s timers in
    record {
      threads = plain.threads;
      longer = plain.longer;
      waits = plain.waits;
      object = λ below e.
          let apart : Contains timers o → ⊥ = λ has. false≢true (sym (held_undue n knot free t o (object_at s.objects o) e) ∙ timely o has) in
          subst (λ x. firm n knot free t o x ≡ true) (sym (others_same v s timers o apart)) e;
      ungiven = plain.ungiven;
    }

gone_kept : (n : ℕ) (knot : ℕ → Bool) (free : Bool) (t o : ℕ) (s : State) (g : ℕ) → Kept (λ x. firm n knot free t o x ≡ true) o s (gone s g)
gone_kept n knot free t o s g =
    let count = length-set s.objects g Gone in
    record { threads = refl; longer = omega (arith, count); waits = refl; object = λ below e. at_set (λ x. firm n knot free t o x ≡ true) s.objects g o Gone e (λ same. refl); ungiven = λ right below e. e }

pub all_gone_kept : (n : ℕ) (knot : ℕ → Bool) (free : Bool) (t o : ℕ) (s : State) (gs : List ℕ) → Kept (λ x. firm n knot free t o x ≡ true) o s (all_gone s gs)
all_gone_kept n knot free t o s [] = kept_all (λ x. firm n knot free t o x ≡ true) o s
all_gone_kept n knot free t o s (g ∷ gs) =
    kept_then (λ x. firm n knot free t o x ≡ true) o s (gone s g) (all_gone (gone s g) gs) (gone_kept n knot free t o s g) (all_gone_kept n knot free t o (gone s g) gs)

pub after_kept : (n : ℕ) (knot : ℕ → Bool) (free : Bool) (t o : ℕ) (call : Call) (s : State) → Kept (λ x. firm n knot free t o x ≡ true) o s (after_serving call s)
after_kept n knot free t o (Call.Act (Act.PulseEvent h)) s = kept_at (λ x. firm n knot free t o x ≡ true) o s h (with_set false) (λ same. unset_firm n knot free t o (object_at s.objects h))
after_kept n knot free t o _ s = kept_all (λ x. firm n knot free t o x ≡ true) o s

-- ---- calls

-- a mutex that may be released is the caller's
unforeign : (os : List Object) (who g : ℕ) (denied : Bool) (cs : List Cause) → Rattle.nt_calls.specs.Refusals.first_of_causes ((is_foreign os who g, NotOwner) ∷ cs) ≡ None → (is_mutex (object_at os g) && not (owned_by (object_at os g) who)) ≡ false
unforeign os who g denied cs none = (next_causes (is_foreign os who g) NotOwner cs none).0

exited_firm : (n : ℕ) (knot : ℕ → Bool) (free : Bool) (t o who : ℕ) (s : State) → knot who ≡ false → who < n → has_ended (object_at s.objects who) ≡ false → firm n knot free t o (object_at s.objects o) ≡ true → firm n knot free t o (object_at (slice_set (map (left who) s.objects) who (Thread true)) o) ≡ true
exited_firm n knot free t o who s out below runs e =
    at_set (λ x. firm n knot free t o x ≡ true) (map (left who) s.objects) who o (Thread true)
    (subst (λ x. firm n knot free t o x ≡ true) (sym (mapped_at (left who) refl s.objects o)) (left_firm n knot free t o who out (object_at s.objects o) e))
    (λ same. absurd (never (object_at s.objects o) (subst (λ k. has_ended (object_at s.objects k) ≡ false) same runs) (subst (λ k. knot k ≡ false) same out) (subst (λ k. k < n) same below) e))
  where
    never : (x : Object) → has_ended x ≡ false → knot o ≡ false → o < n → firm n knot free t o x ≡ true → ⊥
    never (Mutex (Some owner) depth abandoned) lives apart less is =
        let test = (both_of (nat_le n o) (knot owner && not (owner == t)) is).0 in
        let more : n ≤ o = grind (arith, nat_tests, test) in
        absurd (omega (arith, more, less))
    never (Mutex None depth abandoned) lives apart less is = false≢true is
    never (Thread ended) lives apart less is = false≢true (sym apart ∙ (both_of (knot o) (not ended) is).0)
    never Gone lives apart less is = false≢true (sym lives)
    never (Event manual set) lives apart less is =
        let test = (both_of (nat_le n o) (not set && free) is).0 in
        let more : n ≤ o = grind (arith, nat_tests, test) in
        absurd (omega (arith, more, less))
    never (Semaphore count maximum) lives apart less is =
        let test = (both_of (nat_le n o) (not (int_lt (pos 0) count) && free) is).0 in
        let more : n ≤ o = grind (arith, nat_tests, test) in
        absurd (omega (arith, more, less))
    never (Timer manual set None) lives apart less is =
        let test = (both_of (nat_le n o) (not set && free) is).0 in
        let more : n ≤ o = grind (arith, nat_tests, test) in
        absurd (omega (arith, more, less))
    never (Timer manual set (Some armed)) lives apart less is =
        let test = (both_of (nat_le n o) (not (nat_le armed.due MAX_MOMENT || set) && free) is).0 in
        let more : n ≤ o = grind (arith, nat_tests, test) in
        absurd (omega (arith, more, less))

timer_set_kept : (n : ℕ) (knot : ℕ → Bool) (free : Bool) (t o : ℕ) (s : State) (timer : ℕ) (armed : Armed) → (timer ≡ o → free ≡ true → ⊥) → Kept (λ x. firm n knot free t o x ≡ true) o s (timer_set s timer armed)
timer_set_kept n knot free t o s timer armed never = go (nat_le armed.due s.now)
  where
    anew : Kept (λ x. firm n knot free t o x ≡ true) o s (armed_anew s timer armed)
    anew =
        let count = length-set s.objects timer (armed_with (Some armed) (with_set false (object_at s.objects timer))) in
        record {
          threads = refl;
          longer = omega (arith, count);
          waits = refl;
          object = λ below e.
              with_kept (λ x. firm n knot free t o x ≡ true) s.objects timer o (λ x. armed_with (Some armed) (with_set false x))
              (λ same. anew_firm n knot free t o (Some armed) false (never same) (object_at s.objects timer)) e;
          ungiven = λ right below e. e;
        }

    go : (b : Bool) → Kept (λ x. firm n knot free t o x ≡ true) o s (cond b (expired s.now (armed_anew s timer armed) timer) (armed_anew s timer armed))
    go true = kept_then (λ x. firm n knot free t o x ≡ true) o s (armed_anew s timer armed) (expired s.now (armed_anew s timer armed) timer) anew (expired_kept n knot free t o s.now (armed_anew s timer armed) timer never)
    go false = anew

-- no handle that has the right to signal names the object, where it is free
abbrev pub NamesOthers : State → ℕ → Bool → Type 0
NamesOthers s o free = (h : ℕ) → lacks modify_state s.handles h ≡ false → object_named s.handles h ≡ o → free ≡ true → ⊥

abbrev pub IsKept : ℕ → (ℕ → Bool) → Bool → ℕ → ℕ → State → State → Type 0
IsKept n knot free t o s new = Kept (λ x. firm n knot free t o x ≡ true) o s new

act_kept : (n : ℕ) (knot : ℕ → Bool) (free : Bool) (t o who : ℕ) (s : State) (denied : Bool) (act : Act) → o < no_object → NamesOthers s o free → knot who ≡ false → denied ≡ act_denied s.handles act → refusal s who denied (Call.Act (act_named s.handles act)) ≡ None
    → IsKept n knot free t o s (Rattle.nt_calls.specs.Change.act_change s who (act_named s.handles act))
act_kept n knot free t o who s denied (Act.CreateEvent flags) known others out so none = kept_created (λ x. firm n knot free t o x ≡ true) o s (event_of flags)
act_kept n knot free t o who s denied (Act.CreateSemaphore initial maximum) known others out so none = kept_created (λ x. firm n knot free t o x ≡ true) o s (Semaphore initial maximum)
act_kept n knot free t o who s denied (Act.CreateMutex flags) known others out so none = kept_created (λ x. firm n knot free t o x ≡ true) o s (mutex_of flags who)
act_kept n knot free t o who s denied (Act.CreateTimer flags) known others out so none = kept_created (λ x. firm n knot free t o x ≡ true) o s (timer_of flags)
act_kept n knot free t o who s denied (Act.SetEvent h) known others out so none =
    let g = object_named s.handles h in
    let allowed = undenied (is_no is_event s.objects g) InvalidHandle denied [] (call_own s who denied (Call.Act (Act.SetEvent g)) none) in
    kept_at (λ x. firm n knot free t o x ≡ true) o s g (with_set true) (λ same. set_firm n knot free t o (others h (sym so ∙ allowed) same) (object_at s.objects g))
act_kept n knot free t o who s denied (Act.ResetEvent h) known others out so none =
    let g = object_named s.handles h in
    kept_at (λ x. firm n knot free t o x ≡ true) o s g (with_set false) (λ same. unset_firm n knot free t o (object_at s.objects g))
act_kept n knot free t o who s denied (Act.PulseEvent h) known others out so none =
    let g = object_named s.handles h in
    let allowed = undenied (is_no is_event s.objects g) InvalidHandle denied [] (call_own s who denied (Call.Act (Act.PulseEvent g)) none) in
    kept_at (λ x. firm n knot free t o x ≡ true) o s g (with_set true) (λ same. set_firm n knot free t o (others h (sym so ∙ allowed) same) (object_at s.objects g))
act_kept n knot free t o who s denied (Act.ReleaseSemaphore h count) known others out so none =
    let g = object_named s.handles h in
    let allowed =
    undenied (is_no is_semaphore s.objects g) InvalidHandle denied ((int_le count (pos 0), InvalidParameter) ∷ (overflows count (object_at s.objects g), TooManyPosts) ∷ [])
    (call_own s who denied (Call.Act (Act.ReleaseSemaphore g count)) none) in
    kept_at (λ x. firm n knot free t o x ≡ true) o s g (released count) (λ same. released_firm n knot free t o count (others h (sym so ∙ allowed) same) (object_at s.objects g))
act_kept n knot free t o who s denied (Act.ReleaseMutex h) known others out so none =
    let g = object_named s.handles h in
    let own = call_own s who denied (Call.Act (Act.ReleaseMutex g)) none in
    let later = next_causes (is_no is_mutex s.objects g) InvalidHandle ((is_foreign s.objects who g, NotOwner) ∷ []) own in
    kept_at (λ x. firm n knot free t o x ≡ true) o s g unlocked (λ same. unlocked_firm n knot free t o who out (object_at s.objects g) (unforeign s.objects who g denied [] later.1))
act_kept n knot free t o who s denied (Act.SetTimer h due period routine) known others out so none =
    let g = object_named s.handles h in
    let allowed = undenied (is_no is_timer s.objects g) InvalidHandle denied ((int_lt period (pos 0), InvalidParameter) ∷ []) (call_own s who denied (Call.Act (Act.SetTimer g due period routine)) none) in
    timer_set_kept n knot free t o s g (record { due = due_moment s.now due; period = unsigned_abs period; routine = routine_for who routine }) (others h (sym so ∙ allowed))
act_kept n knot free t o who s denied (Act.CancelTimer h) known others out so none =
    let g = object_named s.handles h in
    let count = length-set s.objects g (armed_with None (object_at s.objects g)) in
    record {
      threads = refl;
      longer = omega (arith, count);
      waits = refl;
      object = λ below e. with_kept (λ x. firm n knot free t o x ≡ true) s.objects g o (armed_with None) (λ same. cancelled_firm n knot free t o (object_at s.objects g)) e;
      ungiven = λ right below e. e;
    }
act_kept n knot free t o who s denied (Act.QueueApc thread routine arg) known others out so none = record { threads = refl; longer = omega arith; waits = refl; object = λ below e. e; ungiven = λ right below e. e }
act_kept n knot free t o who s denied (Act.Duplicate h access) known others out so none =
    let g = object_named s.handles h in
    let own = undenied (is_unknown s.objects g) InvalidHandle (denied || not (only_known access_bits access)) ((is_full s.handles, HandleLimit) ∷ []) (call_own s who denied (Call.Act (Act.Duplicate g access)) none) in
    let allowed = (neither denied (not (only_known access_bits access)) own).0 in
    record {
      threads = refl;
      longer = omega arith;
      waits = refl;
      object = λ below e. e;
      ungiven = λ right below e. any_push (gives right o) s.handles (Some (record { object = g; access = access })) e (duplicate_less right s o h access known e (sym so ∙ allowed));
    }
act_kept n knot free t o who s denied (Act.Close closed) known others out so none = record {
  threads = refl;
  longer = omega arith;
  waits = refl;
  object = λ below e. e;
  ungiven = λ right below e. handle_closed (gives right o) refl s.handles closed e;
}
act_kept n knot free t o who s denied Act.NextApc known others out so none = go (may_take s who)
  where
    go : (b : Bool) → IsKept n knot free t o s (cond b (record s { apcs = oldest_taken s.apcs who }) (with_handing s who false))
    go true = record { threads = refl; longer = omega arith; waits = refl; object = λ below e. e; ungiven = λ right below e. e }
    go false = record { threads = refl; longer = omega arith; waits = refl; object = λ below e. e; ungiven = λ right below e. e }

-- what a call of a thread of no knot changes
pub change_kept : (n : ℕ) (knot : ℕ → Bool) (free : Bool) (t o who : ℕ) (s : State) (denied : Bool) (call : Call) → s.threads ≡ n → o < no_object → (free ≡ true → is_given s modify_state o ≡ false) → knot who ≡ false
    → denied ≡ is_denied s call → refusal s who denied (call_named s.handles call) ≡ None → IsKept n knot free t o s (change s who (call_named s.handles call))
change_kept n knot free t o who s denied (Call.Act act) count known still out so none = act_kept n knot free t o who s denied act known (λ h has is free_is. not_here modify_state s o h known (still free_is) has is) out so none
change_kept n knot free t o who s denied (Call.Wait (WaitCall.Objects all mode handles)) count known still out so none = kept_all (λ x. firm n knot free t o x ≡ true) o s
change_kept n knot free t o who s denied (Call.Wait (WaitCall.Sleep mode)) count known still out so none = kept_all (λ x. firm n knot free t o x ≡ true) o s
change_kept n knot free t o who s denied (Call.Wait (WaitCall.Swap h waited mode)) count known still out so none =
    let g = object_named s.handles h in
    let object = object_named s.handles waited in
    let own = call_own s who denied (Call.Wait (WaitCall.Swap g object mode)) none in
    let last : List Cause = (overflows (pos 1) (object_at s.objects g), TooManyPosts) ∷ (is_at_limit s.objects who object, RecursionLimit) ∷ [] in
    let first = next_causes (is_no may_signal s.objects g) InvalidHandle ((is_unknown s.objects object, InvalidHandle) ∷ (denied, AccessDenied) ∷ (is_foreign s.objects who g, NotOwner) ∷ last) own in
    let second = next_causes (is_unknown s.objects object) InvalidHandle ((denied, AccessDenied) ∷ (is_foreign s.objects who g, NotOwner) ∷ last) first.1 in
    let third = next_causes denied AccessDenied ((is_foreign s.objects who g, NotOwner) ∷ last) second.1 in
    let allowed = (neither (signal_denied s.handles s.objects h) (lacks synchronize s.handles waited) (sym so ∙ third.0)).0 in
    let has : is_mutex (object_at s.objects g) ≡ false → lacks modify_state s.handles h ≡ false =
    λ other. second_false (not (is_mutex (object_at s.objects g))) (lacks modify_state s.handles h) (ap (λ b. not b) other) allowed in
    kept_at (λ x. firm n knot free t o x ≡ true) o s g signal
    (λ same. signal_firm n knot free t o who out (object_at s.objects g) (λ other free_is. not_here modify_state s o h known (still free_is) (has other) same) (unforeign s.objects who g denied last third.1))
change_kept n knot free t o who s denied Call.Exit count known still out so none =
    let free' = free_to_call s who denied Call.Exit none in
    let first = free'.0 in
    let size : length (slice_set (map (left who) s.objects) who (Thread true)) ≡ length s.objects = length-set (map (left who) s.objects) who (Thread true) ∙ length-map s.objects (left who) in
    record {
      threads = refl;
      longer = omega (arith, size);
      waits = refl;
      object = λ below e. exited_firm n knot free t o who s out (omega (arith, first, count)) free'.1 e;
      ungiven = λ right below e. e;
    }
