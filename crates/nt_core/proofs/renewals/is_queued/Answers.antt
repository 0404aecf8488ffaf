use Rattle.std.proofs.Common.{◌≡◌, sym, ◌∙◌, subst, None}
use Rattle.nt_apc.specs.Queues.{KeepsPlaces, place_of}
use Rattle.nt_machine.specs.Dispatcher.{Dispatcher}
use Rattle.nt_core.proofs.Renewing.{not_queued}
use Rattle.nt_core.proofs.renewals.is_queued.Goals as goal

pub returns-in-None : goal.returns-in-None
returns-in-None c =
    sym (not_queued c.args.machine.now.apcs c.args.timer
    (subst (λ (d : Dispatcher). KeepsPlaces d.apcs) c.machine.view_is c.place_of.ensures.keeps)
    (subst (λ (d : Dispatcher). place_of d.apcs.places c.args.timer ≡ None) c.machine.view_is (sym c.place_of.ensures.place ∙ c.in-None.is)))
