use Rattle.std.proofs.Common.{false, subst}
use Rattle.nt_calls.specs.Moves.{Moves}
use Rattle.nt_machine.specs.Dispatcher.{state}
use Rattle.nt_laws.proofs.Numbers.{tick_numbers}
use Rattle.nt_life.proofs.Once.{may_spare_same}
use Rattle.nt_life.specs.Lasting.{WithSpare}
use Rattle.nt_life.proofs.lasting.Lasting.tick.Goals as goal

pub invariant_of-self : goal.invariant_of-self
invariant_of-self c =
    let old = state c.self.inside.core in
    let new = state c.tick.new.self in
    let numbers = tick_numbers old c.args.m c.tick.result c.tick.new.self.grants new c.tick.ensures.ticked in
    (c.tick.ensures.lawful, may_spare_same old new c.self.inside.spare c.self.invariant.1 numbers.0 (c.tick.ensures.moves 0).threads numbers.1)

pub returns-clause-moves : goal.returns-clause-moves
returns-clause-moves c by =
    subst (λ (life : WithSpare). Moves (state life.core) by false c.tick.new.self.grants (state c.tick.new.self)) c.self.view_is (c.tick.ensures.moves by)
