use Rattle.std.proofs.Common.{◌≡◌, ℕ, List, length, ap, false, ◌∙◌, [], refl}
use Rattle.std.proofs.lemmas.List.{length-replicate}
use Rattle.std.specs.Prelude.{slice_index_or}
use Rattle.nt_waits.specs.Waits.{queue_of}
use Rattle.nt_objects.specs.declared.object.Object.TheVariants.{Thread}
use Rattle.nt_objects.specs.Object.{full_access}
use Rattle.nt_tables.specs.Handles.{own_handles}
use Rattle.nt_calls.specs.State.{opening, object_at}
use Rattle.nt_machine.specs.Dispatcher.{state, dispatcher_of}
use Rattle.nt_machine.proofs.Visiting.{state_same}
use Rattle.nt_machine.proofs.Accepting.{object_at-replicate, opening_steady}
use Rattle.nt_machine.proofs.Lives.{opening_living}
use Rattle.nt_machine.proofs.machine.Machine.new.Goals as goal

pub returns-clause-steady : goal.returns-clause-steady
returns-clause-steady c =
    let d = dispatcher_of c.args.threads c.in_ok-handles.handles.opened c.in_ok-objects.objects.items c.in_ok-objects.objects.owned c.in_ok-waits.waits c.in_ok-apcs.apcs c.in_ok-handing.handing.items c.in_ok-standings.standings.items 0 c.in_ok-grants.grants.items c.in_ok-alarms.alarms c.in_ok-alarms.leaving c.in_ok-alarms.changed c.in_ok-alerted.alerted in
    let handles = c.in_ok-handles.ensures ∙ ap (λ a. own_handles c.args.threads a) (c.full_access.ensures ∙ ap (λ o. full_access o) c.new_thread.ensures) in
    let hands : length c.in_ok-handing.handing.items ≡ c.args.threads = ap (λ hs. length hs) c.in_ok-handing.ensures ∙ length-replicate c.args.threads false in
    let inboxes : length c.in_ok-apcs.apcs.queues ≡ c.args.threads = ap (λ qs. length qs) c.in_ok-apcs.ensures.queues ∙ length-replicate c.args.threads [] in
    opening_steady d c.requires handles c.in_ok-objects.ensures.items c.in_ok-waits.ensures.pending c.in_ok-waits.ensures.agrees hands c.in_ok-standings.ensures inboxes c.in_ok-apcs.ensures.places c.in_ok-grants.ensures.items c.in_ok-alarms.ensures.alarms c.in_ok-alarms.ensures.marks c.in_ok-alarms.ensures.more c.in_ok-alerted.ensures

pub returns-clause-opening : goal.returns-clause-opening
returns-clause-opening c =
    let d = dispatcher_of c.args.threads c.in_ok-handles.handles.opened c.in_ok-objects.objects.items c.in_ok-objects.objects.owned c.in_ok-waits.waits c.in_ok-apcs.apcs c.in_ok-handing.handing.items c.in_ok-standings.standings.items 0 c.in_ok-grants.grants.items c.in_ok-alarms.alarms c.in_ok-alarms.leaving c.in_ok-alarms.changed c.in_ok-alerted.alerted in
    let handles = c.in_ok-handles.ensures ∙ ap (λ a. own_handles c.args.threads a) (c.full_access.ensures ∙ ap (λ o. full_access o) c.new_thread.ensures) in
    let queues : (h : ℕ) → queue_of c.in_ok-waits.waits h ≡ [] = λ h. ap (λ (qs : List (List ℕ)). slice_index_or qs h []) c.in_ok-waits.ensures.queues in
    state_same (state d) (opening c.args.threads) refl handles c.in_ok-objects.ensures.items c.in_ok-waits.ensures.pending queues c.in_ok-apcs.ensures.queues c.in_ok-handing.ensures refl

pub returns-clause-living : goal.returns-clause-living
returns-clause-living c =
    let d = dispatcher_of c.args.threads c.in_ok-handles.handles.opened c.in_ok-objects.objects.items c.in_ok-objects.objects.owned c.in_ok-waits.waits c.in_ok-apcs.apcs c.in_ok-handing.handing.items c.in_ok-standings.standings.items 0 c.in_ok-grants.grants.items c.in_ok-alarms.alarms c.in_ok-alarms.leaving c.in_ok-alarms.changed c.in_ok-alerted.alerted in
    let running : (o : ℕ) → object_at d.objects o ≡ Thread false = λ o. ap (λ os. object_at os o) c.in_ok-objects.ensures.items ∙ object_at-replicate c.args.threads o in
    let count : length d.objects ≡ d.threads = ap (λ os. length os) c.in_ok-objects.ensures.items ∙ length-replicate c.args.threads (Thread false) in
    opening_living d (returns-clause-steady c).sound count running
