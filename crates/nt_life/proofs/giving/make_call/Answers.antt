use Rattle.std.proofs.Common.{Option, refl, sym, subst}
use Rattle.nt_machine.specs.Dispatcher.{state}
use Rattle.nt_life.specs.Lasting.{Spares, Lasts}
use Rattle.nt_life.proofs.Whole.{once_by, own_pace}
use Rattle.nt_life.proofs.giving.make_call.Goals as goal

pub returns-in-None-clause-lasts : goal.returns-in-None-clause-lasts
returns-in-None-clause-lasts c =
    let made = c.call.ensures in
    subst (λ (spare : Option Spares). Lasts c.args.core.now spare c.args.who c.args.call.now c.call.result c.call.new.self spare) (sym c.in-None.is)
    (once_by c.args.core.now c.args.who c.args.call.now c.call.result c.call.new.self made.called
    (own_pace (state c.args.core.now) c.args.who c.args.call.now c.args.call.now c.call.result c.call.new.self.grants (state c.call.new.self) refl made.most made.few made.moves made.waits made.moment)
    (record { local = made.local; untested = made.untested }) made.lawful)
