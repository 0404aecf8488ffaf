-- The queues of APCs were changed where they lie.
use Rattle.std.proofs.Common.{◌≡◌, List, ap, ◌∙◌}
use Rattle.nt_apc.specs.declared.apc.Queued.{Queued}
use Rattle.nt_apc.specs.Queues.{Apcs}
use Rattle.nt_machine.specs.Dispatcher.{Dispatcher, with_queues}

-- the places of the timers are as they were
pub queues_in : (v old : Dispatcher) (change : List (List Queued) → List (List Queued)) (apcs : Apcs) → v ≡ old → apcs.queues ≡ change v.apcs.queues → apcs.places ≡ v.apcs.places → record v { apcs = apcs } ≡ with_queues old (change old.apcs.queues)
queues_in v old change apcs same queues places =
    (λ i. record v { apcs = record { queues = queues i; places = places i } })
    ∙ ap (λ (x : Dispatcher). with_queues x (change x.apcs.queues)) same
