use Rattle.std.proofs.Common.{rules, ◌≡◌, true, sym, ◌∙◌}
use Rattle.nt_machine.specs.Dispatcher.{state}
use Rattle.nt_tables.specs.Handles.{opened_at}
use Rattle.nt_look.specs.Hangs.{gives}
use Rattle.nt_look.proofs.Allowing.{given_by}
use Rattle.nt_look.proofs.rights.is_given.Goals as goal

pub returns-then-gives : goal.returns-then-gives
returns-then-gives c =
    let given : gives c.args.right c.args.object (opened_at (state c.args.core.now).handles c.args.object) ≡ true = search (rules, c.if-gives.true) in
    c.if-gives.true ∙ sym (given_by (state c.args.core.now) c.args.right c.args.object c.args.object given)
