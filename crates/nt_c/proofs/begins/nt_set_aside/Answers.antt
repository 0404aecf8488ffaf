use Rattle.std.proofs.Common.{Some, refl, subst, sym}
use Rattle.std.specs.Prelude.{Option}
use Rattle.nt_sleepers.specs.Sleepers.{Sleeping}
use Rattle.nt_c.specs.Asks.{PutsAsideIn}
use Rattle.nt_c.proofs.begins.nt_set_aside.Goals as goal

pub returns : goal.returns
returns c = record {
  aside =
      subst (λ (x : Option Sleeping). PutsAsideIn x c.args.thread c.error_of.result (Some c.set_aside.new.self)) (sym c.held_mut.ensures.value)
      (c.set_aside.new.self, refl, record { result = c.set_aside.result; aside = c.set_aside.ensures.aside; lawful = c.set_aside.ensures.lawful; sleeps = c.set_aside.ensures.sleeps; told = c.error_of.ensures });
}
