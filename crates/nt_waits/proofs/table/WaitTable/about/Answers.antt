use Rattle.std.proofs.Common.{ap, sym, ◌∙◌}
use Rattle.std.specs.Option.{option_copied, option_map}
use Rattle.nt_waits.specs.Waits.{wait_of, about_of}
use Rattle.nt_waits.proofs.ViewLemmas.{get-waits}
use Rattle.nt_waits.proofs.table.WaitTable.about.Goals as goal

pub returns-in_err-wait : goal.returns-in_err-wait
returns-in_err-wait c =
    let value = (rw c.deref.ensures.value at c.wait_in.ensures) ∙ sym (get-waits c.self.inside.waits.items c.args.t) ∙ ap (λ v. wait_of v c.args.t) c.self.view_is in
    c.from_residual.ensures ∙ ap (option_map about_of) (ap option_copied (sym c.in_err-wait.was) ∙ value)

pub returns : goal.returns
returns c =
    let value = (rw c.deref.ensures.value at c.wait_in.ensures) ∙ sym (get-waits c.self.inside.waits.items c.args.t) ∙ ap (λ v. wait_of v c.args.t) c.self.view_is in
    rw c.tell.ensures (ap (option_map about_of) (ap option_copied (sym c.in_ok-wait.was) ∙ value))
