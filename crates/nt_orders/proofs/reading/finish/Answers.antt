use Rattle.std.proofs.Common.{◌∙◌, ◌+◌, List, ap, map, subst, sym}
use Rattle.std.specs.Prelude.{◌≡◌, IfErr, IfOk, Some}
use Rattle.nt_machine.specs.Dispatcher.{state}
use Rattle.nt_script.specs.Progress.{progress, progress_of}
use Rattle.nt_plans.specs.Gates.{race_of}
use Rattle.nt_orders.specs.Plans.{IsLaidOut}
use Rattle.nt_orders.specs.Reading.{IsPlanFault, lanes_of, read_of}
use Rattle.nt_plans.specs.Kept.{item_of}
use Rattle.nt_plans.specs.declared.items.Item.{Item}
use Rattle.nt_orders.proofs.Lines.{race_if_err, script_if_ok}
use Rattle.nt_orders.proofs.reading.finish.Goals as goal

pub returns-in-Some-clause-script : goal.returns-in-Some-clause-script
returns-in-Some-clause-script c =
    script_if_ok (read_of c.args.reading) (progress c.in-Some.session) c.lay_out.result (sym c.into_parts-session.ensures.session ∙ ap progress_of c.in-Some.is)
    (subst (λ (items : List Item). IfOk c.lay_out.result (λ script. IsLaidOut (state c.in-Some.session.core) (map item_of items) c.args.reading.front.items (lanes_of script) (state script.session.core)))
    c.deref.ensures.value c.lay_out.ensures.script)

pub returns-in-Some-clause-fault : goal.returns-in-Some-clause-fault
returns-in-Some-clause-fault c =
    race_if_err (read_of c.args.reading) (c.args.count + 1) c.lay_out.result
    (subst (λ (items : List Item). IfErr c.lay_out.result (IsPlanFault (λ line. race_of (map item_of items) ≡ Some line)))
    c.deref.ensures.value c.lay_out.ensures.fault)
