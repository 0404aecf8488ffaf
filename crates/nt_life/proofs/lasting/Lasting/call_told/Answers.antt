use Rattle.std.proofs.Common.{sym, subst}
use Rattle.nt_machine.specs.Dispatcher.{state}
use Rattle.nt_life.specs.Lasting.{WithSpare, KeepsLimits, MayKeepOrder}
use Rattle.nt_life.proofs.Once.{own_call}
use Rattle.nt_life.proofs.Turning.{own_order}
use Rattle.nt_life.proofs.lasting.Lasting.call_told.Goals as goal

pub invariant_of-self : goal.invariant_of-self
invariant_of-self c =
    let own = own_call (state c.self.inside.core) c.self.inside.spare c.args.who c.args.call.now c.call.result c.call.new.self.grants (state c.call.new.self) (sym c.if-not-gives.ensures) c.self.invariant.0.steady.sound.handles.enough c.call.ensures.moves.threads c.self.invariant.1 c.call.ensures.called in
    (c.call.ensures.lawful, own.spare_is)

pub returns-then-not-gives-clause-limits : goal.returns-then-not-gives-clause-limits
returns-then-not-gives-clause-limits c =
    let old = state c.self.inside.core in
    let new = state c.call.new.self in
    let made = c.call.ensures in
    let own = own_call old c.self.inside.spare c.args.who c.args.call.now c.call.result c.call.new.self.grants new (sym c.if-not-gives.ensures) c.self.invariant.0.steady.sound.handles.enough made.moves.threads c.self.invariant.1 made.called in
    subst (λ (life : WithSpare). KeepsLimits life.core life.spare c.args.who c.args.call.now c.call.result c.call.new.self) c.self.view_is
    (record { limit = own.limit; taken = own.taken; looks = record { local = made.local; untested = made.untested } })

pub returns-then-not-gives-clause-ordered : goal.returns-then-not-gives-clause-ordered
returns-then-not-gives-clause-ordered c =
    subst (λ (life : WithSpare). MayKeepOrder (state life.core) c.args.call.now life.spare c.self.inside.spare) c.self.view_is (own_order (state c.self.inside.core) c.self.inside.spare c.args.call.now)
