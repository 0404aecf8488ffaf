use Rattle.std.proofs.Common.{◌≡◌, sym, ap, ◌∙◌, subst, List, None}
use Rattle.nt_apc.specs.declared.apc.Queued.{Queued}
use Rattle.nt_apc.specs.Queues.{KeepsPlaces, place_of}
use Rattle.nt_machine.specs.Dispatcher.{Dispatcher}
use Rattle.nt_machine.proofs.Timing.{withdrawn_none}
use Rattle.nt_machine.proofs.machine.Machine.withdraw.Goals as goal

pub returns-in_default : goal.returns-in_default
returns-in_default c =
    let old = c.args.self.now in
    ap (λ (queues : List (List Queued)). record old { apcs = record old.apcs { queues = queues } })
    (sym (withdrawn_none old c.args.timer
    (subst (λ (d : Dispatcher). KeepsPlaces d.apcs) c.self.view_is c.place_of.ensures.keeps)
    (subst (λ (d : Dispatcher). place_of d.apcs.places c.args.timer ≡ None) c.self.view_is (sym c.place_of.ensures.place ∙ c.in_default.is))))
