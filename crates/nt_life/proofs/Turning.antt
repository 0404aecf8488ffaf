-- The object whose turn it is.
use Rattle.std.proofs.Common.{◌≡◌, ◌<◌, ℕ, ◌-◌, Bool, true, false, ◌&&◌, ◌||◌, List, length, get_or, refl, sym, ap, ◌∙◌, subst, arith, Option, None, Some, inl, inr}
use Rattle.std.specs.Prelude.{nat_lt, MatchBool, if◌then◌else◌}
use Rattle.std.specs.declared.result.Result.{Result}
use Rattle.std.proofs.lemmas.Bool.{true≢false}
use Rattle.std.proofs.lemmas.Bool.Decides.{nat_tests}
use Rattle.nt_status.specs.declared.refusal.Refusal.{Refusal}
use Rattle.nt_calls.specs.declared.call.Act.{Act}
use Rattle.nt_calls.specs.declared.call.Call.{Call}
use Rattle.nt_calls.specs.declared.call.Reply.{Reply}
use Rattle.nt_calls.specs.declared.call.Grant.{Grant}
use Rattle.nt_calls.specs.State.{State}
use Rattle.nt_core.specs.Renewals.{is_vacant, CreatesAgain}
use Rattle.nt_machine.proofs.Remaining.{both}
use Rattle.nt_life.specs.Lasting.{Spares, IsFound, is_creation, is_last_vacant, is_turn_vacant, can_give_last, can_give_turn, last_closed, last_unnamed, next_turn, turn_after, turn_place, turn_unnamed, finds_object, KeepsOrder, MayKeepOrder, CreatesByTurn, CreatesElse, LastsCreation}

closed_test : (spare : Spares) → 0 < length spare.closed → nat_lt 0 (length spare.closed) ≡ true
closed_test spare some = grind (arith, nat_tests, some)

-- a creation by turn takes the number of an object that is gone, or is one as else
pub turn_else : (old : State) (spare : Spares) (who : ℕ) (act : Act) (result : Result Reply Refusal) (grants : List Grant) (new : State) → CreatesByTurn old spare who act result grants new → CreatesElse old spare who act result grants new
turn_else old spare who act result grants new creates = go (can_give_turn old spare) refl creates
  where
    go : (b : Bool) → can_give_turn old spare ≡ b → MatchBool b (CreatesAgain old who act (turn_unnamed spare) (last_closed spare) result grants new) (CreatesElse old spare who act result grants new) → CreatesElse old spare who act result grants new
    go true e again =
        let parts = both (nat_lt 0 (length spare.closed)) (is_turn_vacant old spare) e in
        let test = parts.0 in
        let some : 0 < length spare.closed = grind (arith, nat_tests, test) in
        inr (inl (some, (turn_unnamed spare, (both (nat_lt 0 (length spare.unnamed)) (is_vacant old (turn_unnamed spare)) parts.1).1, again)))
    go false e other = other

some_not_none : (n : ℕ) → Some n ≡ None → ⊥
some_not_none n e = (cc)

some_same : (a b : ℕ) → Some a ≡ Some b → a ≡ b
some_same a b e = (cc)

by_tests : (old : State) (spare : Spares) (who : ℕ) (act : Act) (result : Result Reply Refusal) (grants : List Grant) (new : State) (last turn : Bool) → can_give_last old spare ≡ last → can_give_turn old spare ≡ turn
    → MatchBool last (CreatesAgain old who act (last_unnamed spare) (last_closed spare) result grants new) (MatchBool turn (CreatesAgain old who act (turn_unnamed spare) (last_closed spare) result grants new) (CreatesElse old spare who act result grants new))
    → LastsCreation old spare who act result grants new
by_tests old spare who act result grants new last turn is_last is_turn creates =
    subst (λ (b : Bool). MatchBool b (CreatesAgain old who act (last_unnamed spare) (last_closed spare) result grants new) (CreatesByTurn old spare who act result grants new)) (sym is_last)
    (subst (λ (b : Bool). MatchBool last (CreatesAgain old who act (last_unnamed spare) (last_closed spare) result grants new) (MatchBool b (CreatesAgain old who act (turn_unnamed spare) (last_closed spare) result grants new) (CreatesElse old spare who act result grants new))) (sym is_turn) creates)

-- no handle is closed
pub creates_unclosed : (old : State) (spare : Spares) (who : ℕ) (act : Act) (result : Result Reply Refusal) (grants : List Grant) (new : State) → length spare.closed ≡ 0 → CreatesElse old spare who act result grants new → LastsCreation old spare who act result grants new
creates_unclosed old spare who act result grants new none creates =
    let test : nat_lt 0 (length spare.closed) ≡ false = grind (arith, nat_tests, none) in
    by_tests old spare who act result grants new false false (ap (λ b. b && is_last_vacant old spare) test) (ap (λ b. b && is_turn_vacant old spare) test) creates

-- a handle is closed, and this place was found
pub creates_found : (old : State) (spare : Spares) (who : ℕ) (act : Act) (place : ℕ) (result : Result Reply Refusal) (grants : List Grant) (new : State) → 0 < length spare.closed → IsFound old spare (Some place) → CreatesAgain old who act (get_or spare.unnamed place 0) (last_closed spare) result grants new → LastsCreation old spare who act result grants new
creates_found old spare who act place result grants new some found created = go (is_last_vacant old spare) (is_turn_vacant old spare) refl refl found
  where
    same : (b : Bool) → (nat_lt 0 (length spare.closed) && b) ≡ b
    same b = ap (λ x. x && b) (closed_test spare some)

    go : (last turn : Bool) → is_last_vacant old spare ≡ last → is_turn_vacant old spare ≡ turn → MatchBool last (Some place ≡ Some (length spare.unnamed - 1)) (MatchBool turn (Some place ≡ Some (turn_place spare)) (Some place ≡ None)) → LastsCreation old spare who act result grants new
    go true turn is_last is_turn e =
        by_tests old spare who act result grants new true turn (same (is_last_vacant old spare) ∙ is_last) (same (is_turn_vacant old spare) ∙ is_turn) (subst (λ (p : ℕ). CreatesAgain old who act (get_or spare.unnamed p 0) (last_closed spare) result grants new) (some_same place (length spare.unnamed - 1) e) created)
    go false true is_last is_turn e =
        by_tests old spare who act result grants new false true (same (is_last_vacant old spare) ∙ is_last) (same (is_turn_vacant old spare) ∙ is_turn) (subst (λ (p : ℕ). CreatesAgain old who act (get_or spare.unnamed p 0) (last_closed spare) result grants new) (some_same place (turn_place spare) e) created)
    go false false is_last is_turn e = absurd (some_not_none place e)

-- a handle is closed, and no place was found
pub creates_unfound : (old : State) (spare : Spares) (who : ℕ) (act : Act) (place : Option ℕ) (result : Result Reply Refusal) (grants : List Grant) (new : State) → place ≡ None → IsFound old spare place → CreatesElse old spare who act result grants new → LastsCreation old spare who act result grants new
creates_unfound old spare who act place result grants new none found creates = go (is_last_vacant old spare) (is_turn_vacant old spare) refl refl found
  where
    not_given : (a b : Bool) → b ≡ false → (a && b) ≡ false
    not_given true b e = e
    not_given false b e = refl

    go : (last turn : Bool) → is_last_vacant old spare ≡ last → is_turn_vacant old spare ≡ turn → MatchBool last (place ≡ Some (length spare.unnamed - 1)) (MatchBool turn (place ≡ Some (turn_place spare)) (place ≡ None)) → LastsCreation old spare who act result grants new
    go true turn is_last is_turn e = absurd (some_not_none (length spare.unnamed - 1) (sym e ∙ none))
    go false true is_last is_turn e = absurd (some_not_none (turn_place spare) (sym e ∙ none))
    go false false is_last is_turn e =
        by_tests old spare who act result grants new false false (not_given (nat_lt 0 (length spare.closed)) (is_last_vacant old spare) is_last) (not_given (nat_lt 0 (length spare.closed)) (is_turn_vacant old spare) is_turn) creates

-- ---- in which order the numbers of objects stand after a call

pub found_given : (s : State) (spare : Spares) (place : ℕ) → 0 < length spare.closed → IsFound s spare (Some place) → finds_object s spare ≡ true
found_given s spare place some found = go (is_last_vacant s spare) (is_turn_vacant s spare) refl refl found
  where
    closed : (b : Bool) → (nat_lt 0 (length spare.closed) && b) ≡ b
    closed b = ap (λ x. x && b) (closed_test spare some)

    go : (last turn : Bool) → is_last_vacant s spare ≡ last → is_turn_vacant s spare ≡ turn → MatchBool last (Some place ≡ Some (length spare.unnamed - 1)) (MatchBool turn (Some place ≡ Some (turn_place spare)) (Some place ≡ None)) → finds_object s spare ≡ true
    go true turn is_last is_turn e = ap (λ b. b || can_give_turn s spare) (closed (is_last_vacant s spare) ∙ is_last)
    go false true is_last is_turn e = ap (λ b. b || can_give_turn s spare) (closed (is_last_vacant s spare) ∙ is_last) ∙ (closed (is_turn_vacant s spare) ∙ is_turn)
    go false false is_last is_turn e = absurd (some_not_none place e)

pub own_order : (s : State) (spare : Option Spares) (call : Call) → MayKeepOrder s call spare spare
own_order s None call = tt
own_order s (Some spare) (Call.Act act) = λ creates none room. refl
own_order s (Some spare) call = tt

pub other_order : (s : State) (old new : Spares) (act : Act) → is_creation act ≡ false → KeepsOrder s (Call.Act act) old new
other_order s old new act none = λ creates lost room. absurd (true≢false (sym creates ∙ none))

pub no_act_order : (s : State) (old new : Spares) (call : Call) → ((act : Act) → call ≡ Call.Act act → ⊥) → KeepsOrder s call old new
no_act_order s old new (Call.Act act) none = absurd (none act refl)
no_act_order s old new call none = tt

-- ---- whose turn it is after a creation

pub turns_unclosed : (s : State) (spare after : Spares) (act : Act) → length spare.closed ≡ 0 → after.turn ≡ spare.turn → after.turn ≡ turn_after s spare (Call.Act act)
turns_unclosed s spare after act none same = same ∙ sym (go (is_creation act) (nat_lt 0 (length spare.closed)) (grind (arith, nat_tests, none)))
  where
    go : (a b : Bool) → b ≡ false → (if a && b then next_turn s spare else spare.turn) ≡ spare.turn
    go a true e = absurd (true≢false e)
    go true false e = refl
    go false false e = refl

pub turns_closed : (s : State) (spare after : Spares) (act : Act) → is_creation act ≡ true → 0 < length spare.closed → after.turn ≡ next_turn s spare → after.turn ≡ turn_after s spare (Call.Act act)
turns_closed s spare after act creates some next = next ∙ sym (go (is_creation act) (nat_lt 0 (length spare.closed)) creates (closed_test spare some))
  where
    go : (a b : Bool) → a ≡ true → b ≡ true → (if a && b then next_turn s spare else spare.turn) ≡ next_turn s spare
    go true true p q = refl
    go true false p q = absurd (true≢false (sym q))
    go false b p q = absurd (true≢false (sym p))

pub creation_turns : (s : State) (spare : Spares) (act : Act) (turn : ℕ) → is_creation act ≡ false → turn ≡ spare.turn → turn ≡ turn_after s spare (Call.Act act)
creation_turns s spare act turn none same = same ∙ sym (ap (λ b. if b && nat_lt 0 (length spare.closed) then next_turn s spare else spare.turn) none)

pub no_act_turns : (s : State) (spare : Spares) (call : Call) → ((act : Act) → call ≡ Call.Act act → ⊥) → spare.turn ≡ turn_after s spare call
no_act_turns s spare (Call.Act act) none = absurd (none act refl)
no_act_turns s spare call none = refl
