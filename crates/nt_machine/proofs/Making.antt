-- From what the function of a call tells to how the call is made.
use Rattle.std.proofs.Common.{◌≡◌, ℕ, Bool, true, false, List, [], ◌∷◌, length, refl, sym, ap, ◌∙◌, subst, arith, Option, Some, None}
use Rattle.std.specs.Prelude.{IsTrue, not, ◌&&◌, ℤ, pos, ◌<ℤ◌, int_le, Result, Ok, Err, IfOk, OnOk, IfErr, OnErr, MatchBool}
use Rattle.std.specs.Result.{IsErrAnd}
use Rattle.std.proofs.lemmas.Bool.{false≢true}
use Rattle.std.proofs.lemmas.Int.{ints}
use Rattle.nt_status.specs.declared.refusal.Refusal.{Refusal}
use Rattle.nt_status.specs.declared.refusal.Refusal.TheVariants.{AccessDenied, HandleLimit, InvalidHandle, InvalidParameter, Memory, NotOwner, TooManyPosts}
use Rattle.nt_tables.specs.declared.handles.Opened.{Opened}
use Rattle.nt_objects.specs.declared.object.Object.{Object}
use Rattle.nt_objects.specs.Object.{is_semaphore, is_mutex, is_thread, is_gone, owned_by, overflows, due_of, IsLawfulObject}
use Rattle.nt_calls.specs.declared.call.Act.{Act}
use Rattle.nt_calls.specs.declared.call.Call.{Call}
use Rattle.nt_calls.specs.declared.call.Reply.{Reply}
use Rattle.nt_calls.specs.Calls.{act_grows}
use Rattle.nt_calls.specs.State.{State, object_at}
use Rattle.nt_machine.specs.Dispatcher.{Dispatcher, state, with_created}
use Rattle.nt_calls.specs.Change.{change, created}
use Rattle.nt_calls.specs.Steps.{after_serving, answered}
use Rattle.nt_calls.specs.Refusals.{first_of_causes, call_causes, creation_causes, kind_causes, grows, is_full, is_no, is_foreign, release_causes, unlock_causes}
use Rattle.nt_machine.specs.Accepts.{IsFresh, IsFreeToCall, IsCallMade, Accepts, reply_of, replied}
use Rattle.nt_machine.proofs.Judging.{is_refusal, is_memory}
use Rattle.nt_machine.proofs.Accepting.{next_causes}
use Rattle.nt_machine.proofs.Replacing.{created_accepted}

-- no cause of its own refuses it, and it is a step of the machine
pub accepted_made : (old new : Dispatcher) (t : ℕ) (denied : Bool) (call : Call) (reply : Reply) → IsFreeToCall (state old) t → first_of_causes (call_causes (state old) t denied call) ≡ None → Accepts old new t call reply → IsCallMade old new t denied call (Ok reply)
accepted_made old new t denied call reply free none accepts = record {
  made = (free denied call ∙ none, accepts.step);
  steady = accepts.steady;
  local = accepts.local;
  untested = tt;
}

-- a cause of its own refuses it, and nothing changed
pub refused_made : (d : Dispatcher) (t : ℕ) (denied : Bool) (call : Call) (r : Refusal) → IsFresh d → IsFreeToCall (state d) t → first_of_causes (call_causes (state d) t denied call) ≡ Some r → IsCallMade d d t denied call (Err r)
refused_made d t denied call r fresh free some = record {
  made = (is_refusal (state d) t denied call r (free denied call ∙ some), fresh.no_grants, refl);
  steady = fresh.steady;
  local = tt;
  untested = fresh.untested;
}

-- the same of a result that is told to be this refusal
pub refused_with : (d : Dispatcher) (t : ℕ) (denied : Bool) (call : Call) (r : Refusal) (result : Result Reply Refusal) → IsErrAnd result (λ told. told ≡ r) → IsFresh d → IsFreeToCall (state d) t → first_of_causes (call_causes (state d) t denied call) ≡ Some r → IsCallMade d d t denied call result
refused_with d t denied call r (Ok reply) told fresh free some = absurd told
refused_with d t denied call r (Err e) told fresh free some = refused_made d t denied call e fresh free (some ∙ (λ i. Some (sym told i)))

-- no cause of its own refuses it, but memory is refused, and nothing changed
pub unmade : (old new : Dispatcher) (t : ℕ) (denied : Bool) (call : Call) (r : Refusal) → IsFresh old → IsFreeToCall (state old) t → first_of_causes (call_causes (state old) t denied call) ≡ None → IsTrue (grows (state old) t call) → r ≡ Memory → new ≡ old → IsCallMade old new t denied call (Err r)
unmade old new t denied call r fresh free none grown memory same =
    subst (λ (d : Dispatcher). IsCallMade old d t denied call (Err r)) (sym same) (record {
      made = (is_memory (state old) t denied call r (free denied call ∙ none) grown memory, fresh.no_grants, refl);
      steady = fresh.steady;
      local = tt;
      untested = fresh.untested;
    })

pub unmade_with : (old new : Dispatcher) (t : ℕ) (denied : Bool) (call : Call) (result : Result Reply Refusal) → IsErrAnd result (λ told. told ≡ Memory) → IsFresh old → IsFreeToCall (state old) t → first_of_causes (call_causes (state old) t denied call) ≡ None → IsTrue (grows (state old) t call) → new ≡ old → IsCallMade old new t denied call result
unmade_with old new t denied call (Ok reply) told fresh free none grown same = absurd told
unmade_with old new t denied call (Err r) told fresh free none grown same = unmade old new t denied call r fresh free none grown told same

-- no cause of its own refuses it, and it is a step of the machine, or memory is refused and nothing changed
pub tried_made : (old new : Dispatcher) (t : ℕ) (denied : Bool) (call : Call) (result : Result Reply Refusal) → IsFresh old → IsFreeToCall (state old) t → first_of_causes (call_causes (state old) t denied call) ≡ None → IfOk result (λ reply. Accepts old new t call reply) → OnErr result (IsTrue (grows (state old) t call)) → IfErr result (λ r. r ≡ Memory) → OnErr result (new ≡ old) → IsCallMade old new t denied call result
tried_made old new t denied call (Ok reply) fresh free none accepts grown memory same = accepted_made old new t denied call reply free none accepts
tried_made old new t denied call (Err r) fresh free none accepts grown memory same = unmade old new t denied call r fresh free none grown memory same

-- the same for a waiting call, by what its wait answers
pub waited_made : (old new : Dispatcher) (t : ℕ) (denied : Bool) (call : Call) (ended : Result (Option ℕ) Refusal) → IsFresh old → IsFreeToCall (state old) t → first_of_causes (call_causes (state old) t denied call) ≡ None → IfOk ended (λ e. Accepts old new t call (reply_of e)) → OnErr ended (IsTrue (grows (state old) t call)) → IfErr ended (λ r. (r ≡ Memory) × (new ≡ old)) → IsCallMade old new t denied call (replied ended)
waited_made old new t denied call (Ok e) fresh free none accepts grown refused = tried_made old new t denied call (Ok (reply_of e)) fresh free none accepts grown tt tt
waited_made old new t denied call (Err r) fresh free none accepts grown refused = tried_made old new t denied call (Err r) fresh free none accepts grown refused.0 refused.1

-- ---- what no cause says of an object

not_false : (b : Bool) → not b ≡ false → b ≡ true
not_false true e = refl
not_false false e = sym e

-- it is of the kind
pub kind_free : (kind : Object → Bool) (os : List Object) (denied : Bool) (h : ℕ) → first_of_causes (kind_causes kind os denied h) ≡ None → kind (object_at os h) ≡ true
kind_free kind os denied h none = not_false (kind (object_at os h)) (next_causes (is_no kind os h) InvalidHandle ((denied, AccessDenied) ∷ []) none).0

-- ---- creations

free_creation : (lawful full : Bool) → lawful ≡ true → full ≡ false → first_of_causes ((not lawful, InvalidParameter) ∷ (full, HandleLimit) ∷ []) ≡ None
free_creation true false e f = refl
free_creation true true e f = absurd (false≢true (sym f))
free_creation false full e f = absurd (false≢true e)

full_creation : (lawful full : Bool) → lawful ≡ true → full ≡ true → first_of_causes ((not lawful, InvalidParameter) ∷ (full, HandleLimit) ∷ []) ≡ Some HandleLimit
full_creation true true e f = refl
full_creation true false e f = absurd (false≢true f)
full_creation false full e f = absurd (false≢true e)

-- the arguments are not lawful
pub unlawful_creation : (handles : List (Option Opened)) (lawful : Bool) → lawful ≡ false → first_of_causes (creation_causes handles lawful) ≡ Some InvalidParameter
unlawful_creation handles false e = refl
unlawful_creation handles true e = absurd (false≢true (sym e))

pub unknown_bits : (b : Bool) → (b ≡ true → false ≡ true) → b ≡ false
unknown_bits false none = refl
unknown_bits true none = sym (none refl)

-- what was created, in other words
pub created_as : (result : Result Reply Refusal) (old new : Dispatcher) (made o : Object) → made ≡ o → OnOk result (new ≡ with_created old made new.owned) → OnOk result (new ≡ with_created old o new.owned)
created_as (Ok reply) old new made o is becomes = becomes ∙ ap (λ (x : Object). with_created old x new.owned) is
created_as (Err r) old new made o is becomes = tt

-- the object is created, or no number is left for a handle, or memory is refused
pub created_made : (old new : Dispatcher) (t : ℕ) (o : Object) (owned : List (List ℕ)) (act : Act) (lawful : Bool) (result : Result Reply Refusal) → IsFresh old → IsFreeToCall (state old) t → call_causes (state old) t false (Call.Act act) ≡ creation_causes old.handles lawful → lawful ≡ true → act_grows act ≡ true → IsLawfulObject o → is_thread o ≡ false → is_gone o ≡ false → due_of o ≡ None → change (state old) t (Call.Act act) ≡ created (state old) o → ((s : State) → after_serving (Call.Act act) s ≡ s) → ((s : State) → answered (state old) s t (Call.Act act) ≡ (Reply.Handle (length old.handles), s)) → OnOk result (is_full old.handles ≡ false) → IfOk result (λ reply. reply ≡ Reply.Handle (length old.handles)) → OnOk result (new ≡ with_created old o owned) → IfErr result (λ cause. MatchBool (is_full old.handles) (cause ≡ HandleLimit) (cause ≡ Memory)) → OnErr result (new ≡ old) → IsCallMade old new t false (Call.Act act) result
created_made old new t o owned act lawful (Ok reply) fresh free causes fair grown law no_thread alive due changes after answers few told becomes refused err =
    subst (λ (r : Reply). IsCallMade old new t false (Call.Act act) (Ok r)) (sym told)
    (accepted_made old new t false (Call.Act act) (Reply.Handle (length old.handles)) free (ap first_of_causes causes ∙ free_creation lawful (is_full old.handles) fair few)
    (created_accepted old new t o owned (Call.Act act) (length old.handles) fresh few law no_thread alive due changes after answers refl becomes))
created_made old new t o owned act lawful (Err r) fresh free causes fair grown law no_thread alive due changes after answers few told becomes refused err = go (is_full old.handles) refl refused
  where
    go : (full : Bool) → is_full old.handles ≡ full → MatchBool full (r ≡ HandleLimit) (r ≡ Memory) → IsCallMade old new t false (Call.Act act) (Err r)
    go true is limit =
        subst (λ (d : Dispatcher). IsCallMade old d t false (Call.Act act) (Err r)) (sym err)
        (refused_made old t false (Call.Act act) r fresh free (ap first_of_causes causes ∙ (full_creation lawful (is_full old.handles) fair is ∙ (λ i. Some (sym limit i)))))
    go false is memory = unmade old new t false (Call.Act act) r fresh free (ap first_of_causes causes ∙ free_creation lawful (is_full old.handles) fair is) grown memory err

-- ---- what no cause says of a semaphore and of a mutex

pub release_free : (os : List Object) (denied : Bool) (h : ℕ) (n : ℤ) → first_of_causes (release_causes os denied h n) ≡ None → (is_semaphore (object_at os h) ≡ true) × (pos 0 <ℤ n) × (overflows n (object_at os h) ≡ false)
release_free os denied h n none =
    let kind = next_causes (is_no is_semaphore os h) InvalidHandle ((denied, AccessDenied) ∷ (int_le n (pos 0), InvalidParameter) ∷ (overflows n (object_at os h), TooManyPosts) ∷ []) none in
    let right = next_causes denied AccessDenied ((int_le n (pos 0), InvalidParameter) ∷ (overflows n (object_at os h), TooManyPosts) ∷ []) kind.1 in
    let some = next_causes (int_le n (pos 0)) InvalidParameter ((overflows n (object_at os h), TooManyPosts) ∷ []) right.1 in
    let within = next_causes (overflows n (object_at os h)) TooManyPosts [] some.1 in
    let above = some.0 in
    (not_false (is_semaphore (object_at os h)) kind.0, grind (arith, ints, above), within.0)

pub unlock_free : (os : List Object) (t h : ℕ) → first_of_causes (unlock_causes os t h) ≡ None → owned_by (object_at os h) t ≡ true
unlock_free os t h none =
    let kind = next_causes (is_no is_mutex os h) InvalidHandle ((is_foreign os t h, NotOwner) ∷ []) none in
    let own = next_causes (is_foreign os t h) NotOwner [] kind.1 in
    own_of (is_mutex (object_at os h)) (owned_by (object_at os h) t) (not_false (is_mutex (object_at os h)) kind.0) own.0
  where
    own_of : (mutex owned : Bool) → mutex ≡ true → (mutex && not owned) ≡ false → owned ≡ true
    own_of true owned m e = not_false owned e
    own_of false owned m e = absurd (false≢true m)
