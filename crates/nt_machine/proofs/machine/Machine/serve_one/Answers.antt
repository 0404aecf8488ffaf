use Rattle.std.proofs.Common.{None, sym, ap, ◌∙◌}
use Rattle.std.specs.Prelude.{slice_get}
use Rattle.nt_machine.specs.Dispatcher.{Dispatcher, state}
use Rattle.nt_machine.proofs.Replacing.{one_few}
use Rattle.nt_machine.proofs.Stopping.{one_served, one_most, one_least, one_countable}
use Rattle.nt_machine.proofs.Walks.{at_first, at_end}
use Rattle.nt_machine.proofs.machine.Machine.serve_one.Goals as goal

pub serve_one_slow-requires-clause-first : goal.serve_one_slow-requires-clause-first
serve_one_slow-requires-clause-first c =
    sym (ap (λ (d : Dispatcher). slice_get ((state d).queues c.args.object) 0) c.self.view_is) ∙ (sym c.first_on.ensures.first ∙ c.in-Some.is)

pub serve_one_slow-requires-clause-countable : goal.serve_one_slow-requires-clause-countable
serve_one_slow-requires-clause-countable c = one_countable c.args.self.now c.args.object c.requires.untold.1 (one_few c.args.self.now c.args.object c.requires.sound)

pub returns-in-Some-clause-served : goal.returns-in-Some-clause-served
returns-in-Some-clause-served c = one_served c.args.self.now c.serve_one_slow.new.self c.args.object c.requires.untold.0 c.requires.local c.serve_one_slow.ensures.visits

pub returns-in-Some-clause-tested : goal.returns-in-Some-clause-tested
returns-in-Some-clause-tested c =
    let old = c.args.self.now in
    let new = c.serve_one_slow.new.self in (
      one_least old new c.args.object c.requires.untold.0 c.requires.untold.1 c.serve_one_slow.ensures.visits,
      one_most old new c.args.object c.requires.untold.1 c.serve_one_slow.ensures.visits,
    )

pub returns-in_default-clause-served : goal.returns-in_default-clause-served
returns-in_default-clause-served c =
    let old = c.args.self.now in
    let first = c.first_on.ensures.first ∙ ap (λ (d : Dispatcher). slice_get ((state d).queues c.args.object) 0) c.self.view_is in
    one_served old old c.args.object c.requires.untold.0 c.requires.local (at_end c.args.object old old (at_first c.args.object old None c.requires.sound (sym c.in_default.is ∙ first)))

pub returns-in_default-clause-tested : goal.returns-in_default-clause-tested
returns-in_default-clause-tested c =
    let old = c.args.self.now in
    let first = c.first_on.ensures.first ∙ ap (λ (d : Dispatcher). slice_get ((state d).queues c.args.object) 0) c.self.view_is in
    let none = at_end c.args.object old old (at_first c.args.object old None c.requires.sound (sym c.in_default.is ∙ first)) in (
      one_least old old c.args.object c.requires.untold.0 c.requires.untold.1 none,
      one_most old old c.args.object c.requires.untold.1 none,
    )
