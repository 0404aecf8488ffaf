use Rattle.std.proofs.Common.{◌≡◌, Some, length, sym, ap, ◌∙◌, arith}
use Rattle.nt_objects.specs.Object.{setter_of}
use Rattle.nt_calls.specs.State.{object_at}
use Rattle.nt_machine.specs.Dispatcher.{Dispatcher}
use Rattle.nt_machine.proofs.Passing.{setter_known}
use Rattle.nt_core.proofs.ticks.mark_due.Goals as goal

pub set-requires : goal.set-requires
set-requires c =
    let old = c.args.machine.now in
    let sets : setter_of (object_at old.objects c.args.timer) ≡ Some c.in-Some.thread = ap setter_of (sym c.object.ensures) ∙ (sym c.setter.ensures ∙ c.in-Some.is) in
    let known = setter_known old c.args.timer c.in-Some.thread c.requires.sound sets in
    let same : length c.machine.inside.alerted ≡ length old.marked.alerted = ap (λ (d : Dispatcher). length d.marked.alerted) c.machine.view_is in
    let at = c.get.ensures in
    omega (arith, known, same, at)
