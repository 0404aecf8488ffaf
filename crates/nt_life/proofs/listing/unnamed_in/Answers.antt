use Rattle.std.proofs.Common.{◌≡◌, ◌+◌, ℕ, refl, sym, ap, ◌∙◌, arith, length}
use Rattle.nt_machine.specs.Dispatcher.{state}
use Rattle.nt_life.specs.Lasting.{is_unnamed}
use Rattle.nt_life.proofs.Gathering.{more_listed, as_listed, listed_all, unnamed_below}
use Rattle.nt_life.proofs.listing.unnamed_in.Goals as goal
use Rattle.nt_life.proofs.listing.unnamed_in.Goals.{then-is_unnamed, else-is_unnamed}

pub loop-number-preserved : goal.loop-number-preserved
loop-number-preserved c =
    let at : is_unnamed (state c.args.core.now) c.loop-number.number ≡ c.is_unnamed.result = sym (c.is_unnamed.ensures ∙ ap (λ (o : ℕ). is_unnamed (state c.args.core.now) o) c.new-in-loop-number.ensures) in
    elim c.if-is_unnamed.branch [
      | then-is_unnamed w ↦ more_listed (is_unnamed (state c.args.core.now)) c.loop-number.number (c.loop-number.number + 1) c.loop-number.unnamed c.if-is_unnamed.unnamed refl (at ∙ w.if-is_unnamed.true) (w.unnamed-is ∙ w.push.ensures) c.loop-number.invariant
      | else-is_unnamed w ↦ rw w.unnamed-is (as_listed (is_unnamed (state c.args.core.now)) c.loop-number.number (c.loop-number.number + 1) c.loop-number.unnamed refl (at ∙ w.if-is_unnamed.false) c.loop-number.invariant)
    ]

pub returns : goal.returns
returns c =
    let end = c.loop-number-test.false in
    let count : length c.objects.result.now ≡ length (state c.args.core.now).objects = ap length c.objects.ensures in
    listed_all (is_unnamed (state c.args.core.now)) c.loop-number.number c.loop-number.unnamed
    (λ o is. let below = unnamed_below (state c.args.core.now) o is in omega (arith, below, end, count)) c.loop-number.invariant
