use Rattle.std.proofs.Common.{ℕ, None, Some, ap, refl, subst, sym}
use Rattle.std.specs.Prelude.{Option}
use Rattle.nt_sleepers.specs.Sleepers.{Sleeping}
use Rattle.nt_c.specs.Asks.{BeginsIn}
use Rattle.nt_c.specs.declared.begins.NtBegun.{NtBegun}
use Rattle.nt_c.proofs.begins.nt_begin.Goals as goal

pub returns-in_default : goal.returns-in_default
returns-in_default c = record {
  begins =
      subst (λ (x : Option Sleeping). BeginsIn x 259 c.args.out.now c.args.out.now (Some c.begin.new.self)) (sym c.held_mut.ensures.value)
      (c.begin.new.self, refl, record { begun = None; begins = c.in_default.ensures.begun; lawful = c.in_default.ensures.lawful; sleeps = c.in_default.ensures.sleeps; told = (refl, refl) });
}

pub returns : goal.returns
returns c = record {
  begins =
      let told : ℕ → NtBegun = λ h. record { thread = c.in-Some.begun.thread; handle = h } in
      subst (λ (x : Option Sleeping). BeginsIn x 0 c.args.out.now (told c.get.result) (Some c.begin.new.self)) (sym c.held_mut.ensures.value)
      (c.begin.new.self, refl, record { begun = Some c.in-Some.begun; begins = c.in-Some.ensures.begun; lawful = c.in-Some.ensures.lawful; sleeps = c.in-Some.ensures.sleeps; told = (refl, ap told c.get.ensures) });
}
