use Rattle.std.proofs.Common.{Some, refl, subst, sym}
use Rattle.std.specs.Prelude.{Option}
use Rattle.nt_sleepers.specs.Sleepers.{Sleeping}
use Rattle.nt_c.specs.Asks.{GivesAgainIn}
use Rattle.nt_c.proofs.life.nt_give_again.Goals as goal

pub returns : goal.returns
returns c = record {
  gives =
      subst (λ (x : Option Sleeping). GivesAgainIn x c.error_of.result (Some c.give_again.new.self)) (sym c.held_mut.ensures.value)
      (c.give_again.new.self, refl, record { result = c.give_again.result; gives = c.give_again.ensures.gives; same = c.give_again.ensures.same; told = c.error_of.ensures });
}
