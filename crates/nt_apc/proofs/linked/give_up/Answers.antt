use Rattle.std.proofs.Common.{◌≡◌, Some, None, sym, ◌∙◌, ap}
use Rattle.nt_apc.specs.Place.{place_at, thread_of_place}
use Rattle.nt_apc.proofs.ViewLemmas.{withdrawn_anywhere, withdrawn_nowhere}
use Rattle.nt_apc.proofs.linked.give_up.Goals as goal

pub returns-in-Some-clause-queues : goal.returns-in-Some-clause-queues
returns-in-Some-clause-queues c =
    let here : place_at c.args.places.now c.args.timer ≡ Some c.in-Some.place = cc in
    c.forget.ensures.queues ∙ withdrawn_anywhere _ _ c.requires c.in-Some.place.thread c.args.timer (ap thread_of_place here)

pub returns-in_default-clause-queues : goal.returns-in_default-clause-queues
returns-in_default-clause-queues c =
    let none : place_at c.args.places.now c.args.timer ≡ None = cc in
    sym (withdrawn_nowhere _ _ c.requires c.args.timer none)
