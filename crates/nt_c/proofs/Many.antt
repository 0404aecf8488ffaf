-- A wait for more handles than a wait may name is refused as a wait for none is.
use Rattle.std.proofs.Common.{◌≡◌, ◌<◌, ◌≤◌, ◌||◌, ◌==◌, ℕ, Bool, List, [], ◌∷◌, ◌++◌, length, map, nat_lt, true, false, Option, None, Some, ap, sym, refl, ◌∙◌, subst, arith, inl, inr}
use Rattle.std.specs.Prelude.{IsTrue, MatchOption}
use Rattle.std.specs.List.{list_any}
use Rattle.std.proofs.lemmas.List.{length-map}
use Rattle.std.proofs.lemmas.Bool.{cases_lt}
use Rattle.std.proofs.lemmas.Bool.Decides.{nat_tests}
use Rattle.std.specs.declared.result.Result.{Result}
use Rattle.std.specs.declared.result.Result.TheVariants.{Ok, Err}
use Rattle.nt_status.specs.declared.limits.TheConstants.{MAX_WAIT_OBJECTS}
use Rattle.nt_status.specs.declared.refusal.Refusal.{Refusal}
use Rattle.nt_status.specs.declared.refusal.Refusal.TheVariants.{AccessDenied, InvalidHandle, InvalidParameter, Memory, RecursionLimit}
use Rattle.nt_calls.specs.declared.call.Call.{Call}
use Rattle.nt_calls.specs.declared.call.Grant.{Grant}
use Rattle.nt_calls.specs.declared.call.Reply.{Reply}
use Rattle.nt_calls.specs.declared.call.WaitCall.{WaitCall}
use Rattle.nt_calls.specs.declared.call.WaitMode.{WaitMode}
use Rattle.nt_calls.specs.Naming.{object_named, call_named}
use Rattle.nt_calls.specs.Refusals.{Cause, IsRefusal, causes, first_of_causes, is_unknown, has_twice, is_at_limit, refusal, grows}
use Rattle.nt_calls.specs.Rights.{is_denied}
use Rattle.nt_calls.specs.State.{State}
use Rattle.nt_calls.specs.Steps.{Called}
use Rattle.nt_machine.specs.Dispatcher.{state}
use Rattle.nt_sleepers.specs.Sleepers.{Sleeping}
use Rattle.nt_c.specs.Asks.{Asked, MakesAndWakes}
use Rattle.nt_c.proofs.Renewing.{wait_makes, wait_own, wait_limit}

-- the causes that come before those of the wait, and these
abbrev callers : State → ℕ → List Cause → List Cause
callers s who own = causes s who false Call.Exit ++ own

-- why a wait for an unlawful number of handles is refused
abbrev why : State → ℕ → Option Refusal
why s who = first_of_causes (callers s who ((true, InvalidParameter) ∷ []))

-- where the last cause holds there is a first one that does
first_after : (before : List Cause) (r : Refusal) → (x : Refusal) × (first_of_causes (before ++ (true, r) ∷ []) ≡ Some x)
first_after [] r = (r, refl)
first_after ((true, x) ∷ before) r = (x, refl)
first_after ((false, x) ∷ before) r = first_after before r

some_cause : (s : State) (who : ℕ) → (x : Refusal) × (why s who ≡ Some x)
some_cause s who = first_after (causes s who false Call.Exit) InvalidParameter

-- a wait for an unlawful number of handles
abbrev IsUnlawful : List ℕ → Type 0
IsUnlawful named = (length named == 0 || nat_lt MAX_WAIT_OBJECTS (length named)) ≡ true

refused : (s : State) (who : ℕ) (denied : Bool) (named : List ℕ) (all : Bool) (mode : WaitMode) → IsUnlawful named → refusal s who denied (Call.Wait (WaitCall.Objects all mode named)) ≡ why s who
refused s who denied named all mode unlawful =
    ap (λ (b : Bool). first_of_causes (callers s who ((b, InvalidParameter) ∷ (list_any (is_unknown s.objects) named, InvalidHandle) ∷ (denied, AccessDenied) ∷ (has_twice named, InvalidParameter) ∷ (list_any (is_at_limit s.objects who) named, RecursionLimit) ∷ []))) unlawful

-- the wait for these handles
abbrev wait_for : List ℕ → Bool → WaitMode → Call
wait_for handles all mode = Call.Wait (WaitCall.Objects all mode handles)

-- the refusal of such a wait, whose handles are these
refused_named : (s : State) (who : ℕ) (handles : List ℕ) (all : Bool) (mode : WaitMode) → IsUnlawful (map (object_named s.handles) handles) → refusal s who (is_denied s (wait_for handles all mode)) (call_named s.handles (wait_for handles all mode)) ≡ why s who
refused_named s who handles all mode unlawful =
    refused s who (is_denied s (wait_for handles all mode)) (map (object_named s.handles) handles) all mode unlawful

many_unlawful : (s : State) (handles : List ℕ) → MAX_WAIT_OBJECTS < length handles → IsUnlawful (map (object_named s.handles) handles)
many_unlawful s handles many =
    let as_many : length (map (object_named s.handles) handles) ≡ length handles = length-map handles (object_named s.handles) in
    grind (arith, nat_tests, as_many, many)

-- what is answered for a cause that there is
abbrev AnswersFirst : State → ℕ → Call → Refusal → Option Refusal → Type 0
AnswersFirst s who call r first = MatchOption first (IsTrue (grows s who call) × (r ≡ Memory)) (λ (cause : Refusal). r ≡ cause)

-- the call, as its handles name objects, must be refused for this cause
abbrev IsRefusedFor : State → ℕ → Call → Refusal → Type 0
IsRefusedFor s who call cause = refusal s who (is_denied s call) (call_named s.handles call) ≡ Some cause

refusal_alike : (s : State) (who : ℕ) (denied denied' : Bool) (call call' : Call) (r cause : Refusal) → refusal s who denied call ≡ Some cause → refusal s who denied' call' ≡ Some cause → IsRefusal s who denied call r → IsRefusal s who denied' call' r
refusal_alike s who denied denied' call call' r cause is is' answers =
    let same : r ≡ cause = subst (λ (o : Option Refusal). AnswersFirst s who call r o) is answers in
    subst (λ (o : Option Refusal). AnswersFirst s who call' r o) (sym is') same

called_alike : (s new : State) (who : ℕ) (call call' : Call) (r cause : Refusal) (grants : List Grant) → IsRefusedFor s who call cause → IsRefusedFor s who call' cause → Called s who call (Err r) grants new → Called s who call' (Err r) grants new
called_alike s new who call call' r cause grants is is' called =
    (refusal_alike s who (is_denied s call) (is_denied s call') (call_named s.handles call) (call_named s.handles call') r cause is is' called.0, called.1, called.2)

never_called : {P : Type 0} (s new : State) (who : ℕ) (call : Call) (cause : Refusal) (reply : Reply) (grants : List Grant) → IsRefusedFor s who call cause → Called s who call (Ok reply) grants new → P
never_called s new who call cause reply grants is called =
    let both : Some cause ≡ None = sym is ∙ called.1.0 in (cc)

makes_alike : (old new : Sleeping) (who : ℕ) (wait wait' : WaitCall) (cause : Refusal) (result : Result Reply Refusal) → IsRefusedFor (state old.core) who (Call.Wait wait) cause → IsRefusedFor (state old.core) who (Call.Wait wait') cause → MakesAndWakes old who (Call.Wait wait) result new → MakesAndWakes old who (Call.Wait wait') result new
makes_alike old new who wait wait' cause (Ok reply) is is' made =
    never_called (state old.core) (state new.core) who (Call.Wait wait) cause reply new.core.grants is (wait_own (state old.core) old.spare who wait (Ok reply) new.core.grants (state new.core) made.makes)
makes_alike old new who wait wait' cause (Err r) is is' made = record {
  makes = wait_makes (state old.core) old.spare who wait' (Err r) new.core.grants (state new.core)
      (called_alike (state old.core) (state new.core) who (Call.Wait wait) (Call.Wait wait') r cause new.core.grants is is' (wait_own (state old.core) old.spare who wait (Err r) new.core.grants (state new.core) made.makes));
  limit = λ limit. wait_limit (state old.core) old.spare wait wait' (made.limit limit);
  unchanged = made.unchanged;
  lawful = made.lawful;
  looks = record { local = tt; untested = made.looks.untested };
  woke = made.woke;
  nobody = made.nobody;
}

asked_alike : (held new : Option Sleeping) (who : ℕ) (wait wait' : WaitCall) (result : Result Reply Refusal) → ((old : Sleeping) → (cause : Refusal) × IsRefusedFor (state old.core) who (Call.Wait wait) cause × IsRefusedFor (state old.core) who (Call.Wait wait') cause) → Asked held who (Call.Wait wait) result new → Asked held who (Call.Wait wait') result new
asked_alike None new who wait wait' result why_both asked = asked
asked_alike (Some old) new who wait wait' result why_both (core, is, made) =
    let both = why_both old in (core, is, makes_alike old core who wait wait' both.0 result both.1 both.2 made)

-- both waits are refused for one cause
refused_both : (s : State) (who : ℕ) (handles : List ℕ) (all : Bool) (mode : WaitMode) → MAX_WAIT_OBJECTS < length handles → (cause : Refusal) × IsRefusedFor s who (wait_for [] all mode) cause × IsRefusedFor s who (wait_for handles all mode) cause
refused_both s who handles all mode many =
    let cause = some_cause s who in
    (cause.0, refused_named s who [] all mode refl ∙ cause.1, refused_named s who handles all mode (many_unlawful s handles many) ∙ cause.1)

-- the wait for these handles is asked as one for all of them, or for none where they are too many
pub asked_of : (held new : Option Sleeping) (who : ℕ) (handles these : List ℕ) (all : Bool) (mode : WaitMode) (result : Result Reply Refusal) → (length handles ≤ MAX_WAIT_OBJECTS → these ≡ handles) → (MAX_WAIT_OBJECTS < length handles → these ≡ []) → Asked held who (Call.Wait (WaitCall.Objects all mode these)) result new → Asked held who (Call.Wait (WaitCall.Objects all mode handles)) result new
asked_of held new who handles these all mode result few many asked =
    elim (cases_lt MAX_WAIT_OBJECTS (length handles)) [
      | inl above ↦ asked_alike held new who (WaitCall.Objects all mode []) (WaitCall.Objects all mode handles) result (λ (old : Sleeping). refused_both (state old.core) who handles all mode above) (subst (λ (list : List ℕ). Asked held who (wait_for list all mode) result new) (many above) asked)
      | inr within ↦ subst (λ (list : List ℕ). Asked held who (wait_for list all mode) result new) (few within) asked
    ]
