use Rattle.std.proofs.Common.{◌≡◌, ◌≤◌, ◌∙◌, ◌&&◌, ℕ, Bool, [], true, sym, ap, subst, arith, rules}
use Rattle.std.specs.Prelude.{nat_le, MatchBool, IfErr}
use Rattle.std.proofs.lemmas.Bool.Decides.{nat_tests}
use Rattle.std.specs.declared.result.Result.{Result}
use Rattle.std.specs.declared.result.Result.TheVariants.{Ok, Err}
use Rattle.nt_status.specs.declared.limits.TheConstants.{MAX_MANY_THREADS}
use Rattle.nt_status.specs.declared.refusal.Refusal.{Refusal}
use Rattle.nt_status.specs.declared.refusal.Refusal.TheVariants.{InvalidParameter, Memory}
use Rattle.nt_calls.specs.State.{State, opening}
use Rattle.nt_machine.specs.Dispatcher.{state}
use Rattle.nt_life.specs.Lasting.{Spares, IsSpare, times}
use Rattle.nt_life.proofs.Renewed.{opening_spare}
use Rattle.nt_life.proofs.lasting.Lasting.new.Goals as goal

-- with as many threads as there may be, only memory is refused
refused : {A : Type 0} (threads : ℕ) (r : Result A Refusal) → 1 ≤ threads → threads ≤ MAX_MANY_THREADS → IfErr r (λ cause. cause ≡ Memory) → IfErr r (λ cause. MatchBool (nat_le 1 threads && nat_le threads MAX_MANY_THREADS) (cause ≡ Memory) (cause ≡ InvalidParameter))
refused threads (Ok life) some most memory = tt
refused threads (Err cause) some most memory =
    let a : nat_le 1 threads ≡ true = grind (arith, nat_tests, some) in
    let b : nat_le threads MAX_MANY_THREADS ≡ true = grind (arith, nat_tests, most) in
    subst (λ (x : Bool). MatchBool x (cause ≡ Memory) (cause ≡ InvalidParameter)) (sym (ap (λ x. x && nat_le threads MAX_MANY_THREADS) a ∙ b)) memory

pub returns-in_err-spare-clause-err : goal.returns-in_err-spare-clause-err
returns-in_err-spare-clause-err c =
    let memory : IfErr c.from_residual-in_err-spare.result (λ cause. cause ≡ Memory) = search rules in
    refused c.args.threads c.from_residual-in_err-spare.result c.in_ok-core.ensures.ok.0 c.in_ok-core.ensures.ok.1 memory

-- nothing is spare at first
spares : (s : State) (n : ℕ) (spare : Spares) → s ≡ opening n → spare.closed ≡ [] → spare.unnamed ≡ [] → IsSpare s spare
spares s n spare is closed unnamed =
    subst (λ (x : State). IsSpare x spare) (sym is)
    (record {
      handles = λ h. ap (λ ns. times h ns) closed ∙ (opening_spare n).handles h;
      objects = λ o. ap (λ ns. times o ns) unnamed ∙ (opening_spare n).objects o;
    })

pub invariant_of-result : goal.invariant_of-result
invariant_of-result c =
    let ok = c.in_ok-core.ensures.ok in
    (c.in_ok-core.ensures.lawful, spares (state c.in_ok-core.core) c.args.threads c.in_ok-spare.spare ok.2 c.in_ok-spare.ensures.closed c.in_ok-spare.ensures.unnamed)
