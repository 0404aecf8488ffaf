use Rattle.std.proofs.Common.{◌≡◌, ℕ, false, Some, refl, ap, ◌∙◌, arith, Option, sym, subst}
use Rattle.std.proofs.lemmas.Bool.Decides.{nat_tests}
use Rattle.std.specs.Prelude.{nat_le}
use Rattle.nt_machine.specs.Dispatcher.{state}
use Rattle.nt_c.specs.Asks.{Untold}
use Rattle.nt_c.specs.Sleeps.{Sleeps, MomentTold}
use Rattle.nt_c.proofs.Threads.{asks_of}
use Rattle.nt_c.proofs.sleeps.nt_pend.Goals as goal

pub returns-in_default : goal.returns-in_default
returns-in_default c = record {
  falls_asleep =
      let s = c.held_mut-sleepers.result.now in
      let count = c.threads.ensures ∙ ap (λ d. (state d).threads) c.core.ensures in
      let known : nat_le (state s.core).threads c.args.who ≡ false = grind (arith, nat_tests, c.if-threads-who.false, count) in
      asks_of c.args.who c.args.nt.now.cell.held s c.sleep.new.sleepers (λ refusal. Untold ℕ refusal 259 c.args.out.now c.args.out.now)
      (λ s s'. (moment : Option ℕ) × Sleeps c.args.watches c.args.who moment s s' × MomentTold moment 259 c.args.out.now c.args.out.now)
      c.held_mut-sleepers.ensures.value known (c.sleep.result, c.sleep.ensures, subst (λ (o : Option ℕ). MomentTold o 259 c.args.out.now c.args.out.now) (sym c.in_default.is) (refl, refl));
}

pub returns : goal.returns
returns c = record {
  falls_asleep =
      let s = c.held_mut-sleepers.result.now in
      let count = c.threads.ensures ∙ ap (λ d. (state d).threads) c.core.ensures in
      let known : nat_le (state s.core).threads c.args.who ≡ false = grind (arith, nat_tests, c.if-threads-who.false, count) in
      asks_of c.args.who c.args.nt.now.cell.held s c.sleep.new.sleepers (λ refusal. Untold ℕ refusal 0 c.args.out.now c.in-Some.moment)
      (λ s s'. (moment : Option ℕ) × Sleeps c.args.watches c.args.who moment s s' × MomentTold moment 0 c.args.out.now c.in-Some.moment)
      c.held_mut-sleepers.ensures.value known (Some c.in-Some.moment, c.in-Some.ensures, (refl, refl));
}
