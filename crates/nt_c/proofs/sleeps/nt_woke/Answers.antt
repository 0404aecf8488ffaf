use Rattle.std.proofs.Common.{◌≡◌, false, refl, ap, ◌∙◌, arith}
use Rattle.std.proofs.lemmas.Bool.Decides.{nat_tests}
use Rattle.std.specs.Prelude.{nat_le}
use Rattle.nt_machine.specs.Dispatcher.{state}
use Rattle.nt_sleepers.specs.Sleepers.{StopsSleeping}
use Rattle.nt_c.proofs.Threads.{asks_of}
use Rattle.nt_c.proofs.sleeps.nt_woke.Goals as goal

pub returns : goal.returns
returns c = record {
  wakes =
      let s = c.held_mut-sleepers.result.now in
      let count = c.threads.ensures ∙ ap (λ d. (state d).threads) c.core.ensures in
      let known : nat_le (state s.core).threads c.args.who ≡ false = grind (arith, nat_tests, c.if-threads-who.false, count) in
      asks_of c.args.who c.args.nt.now.cell.held s c.stop.new.self (λ refusal. 0 ≡ refusal) (λ s s'. StopsSleeping s c.args.who s' × (0 ≡ 0))
      c.held_mut-sleepers.ensures.value known (c.stop.ensures, refl);
}
