-- What a call keeps that gives numbers again: it ends no wait and begins none.
use Rattle.std.proofs.Common.{◌≡◌, ◌==◌, ◌∙◌, ◌⊎◌, ℕ, Bool, true, false, List, [], length, refl, sym, ap, arith, Option, inl, inr}
use Rattle.std.specs.Prelude.{is_some, if◌then◌else◌}
use Rattle.std.specs.FinMap as map
use Rattle.std.specs.declared.result.Result.{Result}
use Rattle.std.specs.declared.result.Result.TheVariants.{Ok, Err}
use Rattle.std.proofs.lemmas.Bool.{false≢true}
use Rattle.nt_status.specs.declared.refusal.Refusal.{Refusal}
use Rattle.nt_calls.specs.declared.call.Act.{Act}
use Rattle.nt_calls.specs.declared.call.Call.{Call}
use Rattle.nt_calls.specs.declared.call.Reply.{Reply}
use Rattle.nt_calls.specs.declared.call.Grant.{Grant}
use Rattle.nt_calls.specs.Moves.{one_if, pended, granted_to}
use Rattle.nt_calls.specs.Naming.{object_named}
use Rattle.nt_calls.specs.State.{State, Pending, pends}
use Rattle.nt_core.specs.Renewals.{creation, created_by, created_again, opened_again, creation_refusal, duplicate_refusal, Renews, AddsVacant, CreatesAgain, DuplicatesAgain}
use Rattle.nt_life.specs.Lasting.{Spares, last_closed, CreatesSpare, CreatesMore, CreatesBeside, KeepsPace}

zero_if : (b began : Bool) → began ≡ false → (if b then one_if began else 0) ≡ 0
zero_if true began none = ap (λ x. one_if x) none
zero_if false began none = refl

-- no wait ends and none begins
quiet : (old : State) (who : ℕ) (call : Call) (result : Result Reply Refusal) (grants : List Grant) (new : State) → pended result ≡ false → grants ≡ [] → new.threads ≡ old.threads → new.waits ≡ old.waits → new.now ≡ old.now → KeepsPace old who call result grants new
quiet old who call result grants new began none threads waits now =
    let nobody : length grants ≡ 0 = ap (λ gs. length gs) none in
    let same : map.len new.waits ≡ map.len old.waits = ap (λ (w : Pending). map.len w) waits in
    record {
      most = omega (arith, nobody);
      few = omega (arith, nobody, same);
      moves = record {
        threads = threads;
        free = λ pends. absurd (false≢true (sym began ∙ pends));
        ended = λ t. let none_to : granted_to t grants ≡ 0 = ap (λ gs. granted_to t gs) none in omega (arith, none_to);
        each = λ t.
            let none_to : granted_to t grants ≡ 0 = ap (λ gs. granted_to t gs) none in
            let as_before : one_if (pends new t) ≡ one_if (pends old t) = ap (λ (w : Pending). one_if (is_some (map.get w t))) waits in
            let nothing = zero_if (who == t) (pended result) began in
            omega (arith, none_to, as_before, nothing);
      };
      waits = λ pends. absurd (false≢true (sym began ∙ pends));
      moment = now;
    }

-- the numbers were given in a state that has the same threads, waits and moment
renewed : (old mid becomes : State) (refused : Option Refusal) (who h : ℕ) (call : Call) (result : Result Reply Refusal) (grants : List Grant) (new : State) → mid.threads ≡ old.threads → mid.waits ≡ old.waits → mid.now ≡ old.now → becomes.threads ≡ mid.threads → becomes.waits ≡ mid.waits → becomes.now ≡ mid.now → Renews mid refused h becomes result grants new → KeepsPace old who call result grants new
renewed old mid becomes refused who h call (Ok reply) grants new a b c d e f is =
    quiet old who call (Ok reply) grants new (ap (λ (r : Reply). pended (Ok r)) is.1) is.2 (ap (λ (s : State). s.threads) is.3 ∙ (d ∙ a)) (ap (λ (s : State). s.waits) is.3 ∙ (e ∙ b)) (ap (λ (s : State). s.now) is.3 ∙ (f ∙ c))
renewed old mid becomes refused who h call (Err cause) grants new a b c d e f is =
    quiet old who call (Err cause) grants new refl is.1 (ap (λ (s : State). s.threads) is.2 ∙ a) (ap (λ (s : State). s.waits) is.2 ∙ b) (ap (λ (s : State). s.now) is.2 ∙ c)

pub created_pace : (old : State) (who : ℕ) (act : Act) (o h : ℕ) (result : Result Reply Refusal) (grants : List Grant) (new : State) → CreatesAgain old who act o h result grants new → KeepsPace old who (Call.Act act) result grants new
created_pace old who act o h result grants new is =
    renewed old old (created_again old o h (created_by (creation who act))) (creation_refusal old who act o h) who h (Call.Act act) result grants new refl refl refl refl refl refl is

pub duplicated_pace : (old : State) (who source access h : ℕ) (result : Result Reply Refusal) (grants : List Grant) (new : State) → DuplicatesAgain old who source access h result grants new → KeepsPace old who (Call.Act (Act.Duplicate source access)) result grants new
duplicated_pace old who source access h result grants new is =
    renewed old old (opened_again old h (object_named old.handles source) access) (duplicate_refusal old who source access h) who h (Call.Act (Act.Duplicate source access)) result grants new refl refl refl refl refl refl is

beside_pace : (added : Result ℕ Refusal) (old mid : State) (h who : ℕ) (act : Act) (result : Result Reply Refusal) (grants : List Grant) (new : State) → AddsVacant old added [] mid → CreatesBeside added old mid h who act result grants new → KeepsPace old who (Call.Act act) result grants new
beside_pace (Ok o) old mid h who act result grants new adds is =
    renewed old mid (created_again mid o h (created_by (creation who act))) (creation_refusal mid who act o h) who h (Call.Act act) result grants new
    (ap (λ (s : State). s.threads) adds.3) (ap (λ (s : State). s.waits) adds.3) (ap (λ (s : State). s.now) adds.3) refl refl refl is.1
beside_pace (Err cause) old mid h who act result grants new adds is =
    quiet old who (Call.Act act) result grants new (ap (λ (r : Result Reply Refusal). pended r) is.0) is.1 (ap (λ (s : State). s.threads) is.2) (ap (λ (s : State). s.waits) is.2) (ap (λ (s : State). s.now) is.2)

pub more_pace : (old : State) (spare : Spares) (who : ℕ) (act : Act) (result : Result Reply Refusal) (grants : List Grant) (new : State) → CreatesSpare old spare who act result grants new ⊎ CreatesMore old spare who act result grants new → KeepsPace old who (Call.Act act) result grants new
more_pace old spare who act result grants new (inl again) = created_pace old who act again.1.0 (last_closed spare) result grants new again.1.2
more_pace old spare who act result grants new (inr more) = beside_pace more.2.0 old more.2.1 (last_closed spare) who act result grants new more.2.2 more.2.3
