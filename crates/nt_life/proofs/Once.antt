-- A dispatcher that gives numbers again, or gives each once.
use Rattle.std.proofs.Common.{◌≡◌, ◌≤◌, ℕ, Bool, true, false, List, [], length, refl, sym, Option, Some, None, inl, inr}
use Rattle.std.specs.Prelude.{IfSome, OnOk, MatchBool, nat_lt}
use Rattle.std.specs.declared.result.Result.{Result}
use Rattle.std.specs.declared.result.Result.TheVariants.{Ok, Err}
use Rattle.std.proofs.lemmas.Bool.{false≢true}
use Rattle.nt_status.specs.declared.refusal.Refusal.{Refusal}
use Rattle.nt_status.specs.declared.refusal.Refusal.TheVariants.{HandleLimit}
use Rattle.nt_calls.specs.declared.call.Act.{Act}
use Rattle.nt_calls.specs.declared.call.Call.{Call}
use Rattle.nt_calls.specs.declared.call.Reply.{Reply}
use Rattle.nt_calls.specs.declared.call.Grant.{Grant}
use Rattle.nt_calls.specs.State.{State}
use Rattle.nt_calls.specs.Steps.{Called}
use Rattle.nt_core.specs.Renewals.{AddsVacant, CreatesAgain, DuplicatesAgain}
use Rattle.nt_laws.specs.Laws.{call_closes}
use Rattle.nt_life.specs.Lasting.{Spares, MaySpare, MakesCall, FindsNone, FindsNoneFor, IsUnchanged, CreatesBeside, CreatesByTurn, CreatesElse, LastsCreation, LastsDuplicate, LastsAct, IsStacked, MayStack, MayTurn, gives, is_numbered, can_give_last, turn_after, last_closed, last_unnamed, LastsCall}
use Rattle.nt_life.proofs.Limits.{IsFull, refused_full, wants_number}
use Rattle.nt_life.proofs.Calls.{call_spare}
use Rattle.nt_life.proofs.Spares.{spare_same}
use Rattle.nt_life.proofs.Turning.{turn_else}

-- ---- a call that takes no number and gives none back

pub unnumbered_closes : (call : Call) → is_numbered call ≡ false → (h : ℕ) → call_closes h call ≡ false
unnumbered_closes (Call.Act (Act.Close handle)) none h = absurd (false≢true (sym none))
unnumbered_closes (Call.Act act) none h = refl
unnumbered_closes call none h = refl

unnumbered_full : (s : State) (call : Call) → is_numbered call ≡ false → IsFull s call → ⊥
unfolding wants_number
unnumbered_full s (Call.Act (Act.Duplicate source access)) none full = false≢true (sym none)
unnumbered_full s (Call.Act (Act.CreateEvent flags)) none full = false≢true (sym none)
unnumbered_full s (Call.Act (Act.CreateSemaphore initial maximum)) none full = false≢true (sym none)
unnumbered_full s (Call.Act (Act.CreateMutex flags)) none full = false≢true (sym none)
unnumbered_full s (Call.Act (Act.CreateTimer flags)) none full = false≢true (sym none)
unnumbered_full s (Call.Act act) none full = false≢true full.wants
unnumbered_full s call none full = false≢true full.wants

unnumbered_finds : (s : State) (call : Call) → is_numbered call ≡ false → FindsNone s call → ⊥
unnumbered_finds s (Call.Act (Act.Duplicate source access)) none finds = false≢true (sym none)
unnumbered_finds s (Call.Act (Act.CreateEvent flags)) none finds = false≢true (sym none)
unnumbered_finds s (Call.Act (Act.CreateSemaphore initial maximum)) none finds = false≢true (sym none)
unnumbered_finds s (Call.Act (Act.CreateMutex flags)) none finds = false≢true (sym none)
unnumbered_finds s (Call.Act (Act.CreateTimer flags)) none finds = false≢true (sym none)
unnumbered_finds s (Call.Act act) none finds = false≢true finds.0
unnumbered_finds s call none finds = finds

pub unnumbered_limit : (old : State) (spare : Option Spares) (who : ℕ) (call : Call) (result : Result Reply Refusal) (grants : List Grant) (new : State) → is_numbered call ≡ false → Called old who call result grants new → result ≡ Err HandleLimit → FindsNoneFor old spare call
unnumbered_limit old None who call result grants new none called limit = tt
unnumbered_limit old (Some spare) who call result grants new none called limit = absurd (unnumbered_full old call none (refused_full old who call result grants new called limit))

pub unnumbered_taken : (s : State) (spare : Option Spares) (call : Call) (result : Result Reply Refusal) → is_numbered call ≡ false → IfSome spare (λ it. FindsNone s call → OnOk result ⊥)
unnumbered_taken s None call result none = tt
unnumbered_taken s (Some spare) call result none = λ finds. absurd (unnumbered_finds s call none finds)

unchanged_own : (old : State) (who : ℕ) (call : Call) (result : Result Reply Refusal) (grants : List Grant) (new : State) → Called old who call result grants new → IsUnchanged old result grants new
unchanged_own old who call (Ok reply) grants new is = tt
unchanged_own old who call (Err cause) grants new is = (is.1, is.2)

-- ---- the same of a dispatcher that may give each number once

own_makes : (old : State) (spare : Spares) (who : ℕ) (call : Call) (result : Result Reply Refusal) (grants : List Grant) (new : State) → is_numbered call ≡ false → Called old who call result grants new → LastsCall old spare who call result grants new
own_makes old spare who (Call.Act (Act.Duplicate source access)) result grants new none called = absurd (false≢true (sym none))
own_makes old spare who (Call.Act (Act.CreateEvent flags)) result grants new none called = absurd (false≢true (sym none))
own_makes old spare who (Call.Act (Act.CreateSemaphore initial maximum)) result grants new none called = absurd (false≢true (sym none))
own_makes old spare who (Call.Act (Act.CreateMutex flags)) result grants new none called = absurd (false≢true (sym none))
own_makes old spare who (Call.Act (Act.CreateTimer flags)) result grants new none called = absurd (false≢true (sym none))
own_makes old spare who (Call.Act act) result grants new none called = called
own_makes old spare who call result grants new none called = called

own_stacks : (call : Call) (result : Result Reply Refusal) (closed : List ℕ) → is_numbered call ≡ false → IsStacked call result closed closed
own_stacks (Call.Act (Act.Close handle)) result closed none = absurd (false≢true (sym none))
own_stacks (Call.Act act) result closed none = inl refl
own_stacks call result closed none = inl refl

own_turns : (s : State) (spare : Spares) (call : Call) → is_numbered call ≡ false → spare.turn ≡ turn_after s spare call
own_turns s spare (Call.Act (Act.CreateEvent flags)) none = absurd (false≢true (sym none))
own_turns s spare (Call.Act (Act.CreateSemaphore initial maximum)) none = absurd (false≢true (sym none))
own_turns s spare (Call.Act (Act.CreateMutex flags)) none = absurd (false≢true (sym none))
own_turns s spare (Call.Act (Act.CreateTimer flags)) none = absurd (false≢true (sym none))
own_turns s spare (Call.Act act) none = refl
own_turns s spare call none = refl

-- what holds of a call that is the machine's own
pub record IsOwn (old : State) (spare : Option Spares) (who : ℕ) (call : Call) (result : Result Reply Refusal) (grants : List Grant) (new : State) : Type 0 where
  pub makes : MakesCall old spare who call result grants new
  pub limit : result ≡ Err HandleLimit → FindsNoneFor old spare call
  pub taken : IfSome spare (λ it. FindsNone old call → OnOk result ⊥)
  pub stacked : MayStack call result spare spare
  pub turned : MayTurn old call spare spare
  pub unchanged : IsUnchanged old result grants new
  pub spare_is : MaySpare new spare

pub own_call : (old : State) (spare : Option Spares) (who : ℕ) (call : Call) (result : Result Reply Refusal) (grants : List Grant) (new : State) → gives spare call ≡ false → length old.objects ≤ length old.handles → new.threads ≡ old.threads → MaySpare old spare → Called old who call result grants new → IsOwn old spare who call result grants new
own_call old None who call result grants new none enough threads is called = record {
  makes = called;
  limit = λ limit. tt;
  taken = tt;
  stacked = (refl, refl);
  turned = (refl, refl);
  unchanged = unchanged_own old who call result grants new called;
  spare_is = tt;
}
own_call old (Some spare) who call result grants new none enough threads is called = record {
  makes = own_makes old spare who call result grants new none called;
  limit = unnumbered_limit old (Some spare) who call result grants new none called;
  taken = unnumbered_taken old (Some spare) call result none;
  stacked = own_stacks call result spare.closed none;
  turned = own_turns old spare call none;
  unchanged = unchanged_own old who call result grants new called;
  spare_is = call_spare old who call result grants new spare enough (unnumbered_closes call none) threads called is;
}

-- ---- the spare numbers, if there are any

pub may_spare_same : (s new : State) (spare : Option Spares) → MaySpare s spare → new.handles ≡ s.handles → new.threads ≡ s.threads → length new.objects ≡ length s.objects → MaySpare new spare
may_spare_same s new None is handles threads count = tt
may_spare_same s new (Some spare) is handles threads count = spare_same s new spare is handles threads count

pub call_may_spare : (old : State) (who : ℕ) (call : Call) (result : Result Reply Refusal) (grants : List Grant) (new : State) (spare : Option Spares) → length old.objects ≤ length old.handles → ((h : ℕ) → call_closes h call ≡ false) → new.threads ≡ old.threads → Called old who call result grants new → MaySpare old spare → MaySpare new spare
call_may_spare old who call result grants new None enough none threads called is = tt
call_may_spare old who call result grants new (Some spare) enough none threads called is = call_spare old who call result grants new spare enough none threads called is

-- ---- a refused call

unchanged_again : (old : State) (who : ℕ) (act : Act) (o h : ℕ) (result : Result Reply Refusal) (grants : List Grant) (new : State) → CreatesAgain old who act o h result grants new → IsUnchanged old result grants new
unchanged_again old who act o h (Ok reply) grants new is = tt
unchanged_again old who act o h (Err cause) grants new is = (is.1, is.2)

err_not_ok : (cause : Refusal) (reply : Reply) → Err cause ≡ Ok reply → ⊥
err_not_ok cause reply e = (cc)

unchanged_beside : (added : Result ℕ Refusal) (old mid : State) (h who : ℕ) (act : Act) (result : Result Reply Refusal) (grants : List Grant) (new : State) → AddsVacant old added [] mid → CreatesBeside added old mid h who act result grants new → IsUnchanged old result grants new
unchanged_beside (Ok o) old mid h who act (Ok reply) grants new adds is = tt
unchanged_beside (Ok o) old mid h who act (Err cause) grants new adds is = absurd (err_not_ok cause (Reply.Handle h) is.0)
unchanged_beside (Err cause) old mid h who act (Ok reply) grants new adds is = tt
unchanged_beside (Err cause) old mid h who act (Err other) grants new adds is = (is.1, is.2)

unchanged_else : (old : State) (spare : Spares) (who : ℕ) (act : Act) (result : Result Reply Refusal) (grants : List Grant) (new : State) → CreatesElse old spare who act result grants new → IsUnchanged old result grants new
unchanged_else old spare who act result grants new (inl own) = unchanged_own old who (Call.Act act) result grants new own
unchanged_else old spare who act result grants new (inr (inl again)) = unchanged_again old who act again.1.0 (last_closed spare) result grants new again.1.2
unchanged_else old spare who act result grants new (inr (inr more)) = unchanged_beside more.2.0 old more.2.1 (last_closed spare) who act result grants new more.2.2 more.2.3

unchanged_creation : (old : State) (spare : Spares) (who : ℕ) (act : Act) (result : Result Reply Refusal) (grants : List Grant) (new : State) → LastsCreation old spare who act result grants new → IsUnchanged old result grants new
unchanged_creation old spare who act result grants new lasts = go (can_give_last old spare) lasts
  where
    go : (b : Bool) → MatchBool b (CreatesAgain old who act (last_unnamed spare) (last_closed spare) result grants new) (CreatesByTurn old spare who act result grants new) → IsUnchanged old result grants new
    go true again = unchanged_again old who act (last_unnamed spare) (last_closed spare) result grants new again
    go false other = unchanged_else old spare who act result grants new (turn_else old spare who act result grants new other)

unchanged_duplicate : (old : State) (spare : Spares) (who source access : ℕ) (result : Result Reply Refusal) (grants : List Grant) (new : State) → LastsDuplicate old spare who source access result grants new → IsUnchanged old result grants new
unchanged_duplicate old spare who source access (Ok reply) grants new lasts = tt
unchanged_duplicate old spare who source access (Err cause) grants new lasts = go (nat_lt 0 (length spare.closed)) lasts
  where
    go : (b : Bool) → MatchBool b (DuplicatesAgain old who source access (last_closed spare) (Err cause) grants new) (Called old who (Call.Act (Act.Duplicate source access)) (Err cause) grants new) → IsUnchanged old (Err cause) grants new
    go true again = (again.1, again.2)
    go false own = (own.1, own.2)

unchanged_act : (old : State) (spare : Spares) (who : ℕ) (act : Act) (result : Result Reply Refusal) (grants : List Grant) (new : State) → LastsAct old spare who act result grants new → IsUnchanged old result grants new
unchanged_act old spare who (Act.Duplicate source access) result grants new lasts = unchanged_duplicate old spare who source access result grants new lasts
unchanged_act old spare who (Act.CreateEvent flags) result grants new lasts = unchanged_creation old spare who (Act.CreateEvent flags) result grants new lasts
unchanged_act old spare who (Act.CreateSemaphore initial maximum) result grants new lasts = unchanged_creation old spare who (Act.CreateSemaphore initial maximum) result grants new lasts
unchanged_act old spare who (Act.CreateMutex flags) result grants new lasts = unchanged_creation old spare who (Act.CreateMutex flags) result grants new lasts
unchanged_act old spare who (Act.CreateTimer flags) result grants new lasts = unchanged_creation old spare who (Act.CreateTimer flags) result grants new lasts
unchanged_act old spare who act result grants new lasts = unchanged_own old who (Call.Act act) result grants new lasts

pub unchanged_by : (old : State) (spare : Option Spares) (who : ℕ) (call : Call) (result : Result Reply Refusal) (grants : List Grant) (new : State) → MakesCall old spare who call result grants new → IsUnchanged old result grants new
unchanged_by old None who call result grants new own = unchanged_own old who call result grants new own
unchanged_by old (Some spare) who (Call.Act act) result grants new lasts = unchanged_act old spare who act result grants new lasts
unchanged_by old (Some spare) who call result grants new own = unchanged_own old who call result grants new own
