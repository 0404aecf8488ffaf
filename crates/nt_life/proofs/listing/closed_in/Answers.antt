use Rattle.std.proofs.Common.{◌≡◌, ◌+◌, ℕ, refl, sym, ap, ◌∙◌, arith}
use Rattle.nt_machine.specs.Dispatcher.{state}
use Rattle.nt_core.specs.Renewals.{is_closed}
use Rattle.nt_life.proofs.Gathering.{more_listed, as_listed, listed_all, closed_below}
use Rattle.nt_life.proofs.listing.closed_in.Goals as goal
use Rattle.nt_life.proofs.listing.closed_in.Goals.{then-is_closed, else-is_closed}

pub loop-number-preserved : goal.loop-number-preserved
loop-number-preserved c =
    let at : is_closed (state c.args.core.now) c.loop-number.number ≡ c.is_closed.result = sym (c.is_closed.ensures ∙ ap (λ (h : ℕ). is_closed (state c.args.core.now) h) c.new-in-loop-number.ensures) in
    elim c.if-is_closed.branch [
      | then-is_closed w ↦ more_listed (is_closed (state c.args.core.now)) c.loop-number.number (c.loop-number.number + 1) c.loop-number.closed c.if-is_closed.closed refl (at ∙ w.if-is_closed.true) (w.closed-is ∙ w.push.ensures) c.loop-number.invariant
      | else-is_closed w ↦ rw w.closed-is (as_listed (is_closed (state c.args.core.now)) c.loop-number.number (c.loop-number.number + 1) c.loop-number.closed refl (at ∙ w.if-is_closed.false) c.loop-number.invariant)
    ]

pub returns : goal.returns
returns c =
    let few = c.requires.lawful.steady.sound.handles.few in
    let end = c.loop-number-test.false in
    listed_all (is_closed (state c.args.core.now)) c.loop-number.number c.loop-number.closed
    (λ h. closed_below (state c.args.core.now) c.loop-number.number h (omega (arith, few, end))) c.loop-number.invariant
