use Rattle.std.proofs.Common.{◌≡◌, ◌+◌, ◌≤◌, ◌<◌, ◌^◌, ℕ, List, [], Some, None, length, sym, subst, ap, ◌∙◌, arith, false, set, Contains}
use Rattle.std.specs.FinMap as map
use Rattle.std.specs.Vec.{vec_capacity}
use Rattle.nt_tables.specs.Objects.{Objects}
use Rattle.nt_waits.specs.Waits.{Waits, queue_of, others}
use Rattle.nt_machine.specs.declared.standing.Standing.TheVariants.{Free}
use Rattle.nt_machine.specs.Dispatcher.{Dispatcher, dispatcher_of}
use Rattle.nt_calls.specs.Serving.{IsTried, CanTake, wait_on}
use Rattle.nt_machine.specs.Visits.{IsVisited}
use Rattle.nt_machine.specs.Lawful.{IsMachineSound, MarksAgreeBut, LetsGoBut}
use Rattle.nt_machine.proofs.Marking.{member_named}
use Rattle.nt_machine.proofs.LettingGo.{let_go_agree}
use Rattle.nt_machine.proofs.Visiting.{visit_granted, visit_unmarked, visit_passed, can_take, counted, room_for}
use Rattle.nt_machine.proofs.machine.Machine.visit_any.Goals as goal

pub try_again-requires-clause-few : goal.try_again-requires-clause-few
try_again-requires-clause-few c =
    let d = dispatcher_of c.self.inside.threads c.self.inside.handles.opened c.self.inside.objects.items c.self.inside.objects.owned c.self.inside.waits c.self.inside.apcs c.self.inside.handing.items c.self.inside.standings.items c.self.inside.moment c.self.inside.grants.items c.self.inside.alarms c.self.inside.leaving c.self.inside.changed c.self.inside.alerted in
    let sound : IsMachineSound d = subst IsMachineSound (sym c.self.view_is) c.requires.sound in
    let own = sound.waits c.args.thread c.in-Some.wait.now (sym c.in-Some.ensures.value) in
    rw c.as_slice-objects.ensures own.few

pub try_again-requires-clause-apart : goal.try_again-requires-clause-apart
try_again-requires-clause-apart c =
    let d = dispatcher_of c.self.inside.threads c.self.inside.handles.opened c.self.inside.objects.items c.self.inside.objects.owned c.self.inside.waits c.self.inside.apcs c.self.inside.handing.items c.self.inside.standings.items c.self.inside.moment c.self.inside.grants.items c.self.inside.alarms c.self.inside.leaving c.self.inside.changed c.self.inside.alerted in
    let sound : IsMachineSound d = subst IsMachineSound (sym c.self.view_is) c.requires.sound in
    let own = sound.waits c.args.thread c.in-Some.wait.now (sym c.in-Some.ensures.value) in
    rw c.as_slice-objects.ensures own.apart

pub try_again-requires-clause-room : goal.try_again-requires-clause-room
try_again-requires-clause-room c =
    let d = dispatcher_of c.self.inside.threads c.self.inside.handles.opened c.self.inside.objects.items c.self.inside.objects.owned c.self.inside.waits c.self.inside.apcs c.self.inside.handing.items c.self.inside.standings.items c.self.inside.moment c.self.inside.grants.items c.self.inside.alarms c.self.inside.leaving c.self.inside.changed c.self.inside.alerted in
    let sound : IsMachineSound d = subst IsMachineSound (sym c.self.view_is) c.requires.sound in
    let own = sound.waits c.args.thread c.in-Some.wait.now (sym c.in-Some.ensures.value) in
    let can : CanTake c.self.inside.objects.items c.args.thread c.in-Some.wait.now.objects = can_take c.self.inside.objects.items c.args.thread d.threads c.in-Some.wait.now sound.objects own in
    rw c.as_slice-objects.ensures can

pub try_again-requires-clause-known : goal.try_again-requires-clause-known
try_again-requires-clause-known c =
    let d = dispatcher_of c.self.inside.threads c.self.inside.handles.opened c.self.inside.objects.items c.self.inside.objects.owned c.self.inside.waits c.self.inside.apcs c.self.inside.handing.items c.self.inside.standings.items c.self.inside.moment c.self.inside.grants.items c.self.inside.alarms c.self.inside.leaving c.self.inside.changed c.self.inside.alerted in
    let sound : IsMachineSound d = subst IsMachineSound (sym c.self.view_is) c.requires.sound in
    let own = sound.waits c.args.thread c.in-Some.wait.now (sym c.in-Some.ensures.value) in
    rw c.self.invariant.2 own.known

pub returns-in_default-try_again : goal.returns-in_default-try_again
returns-in_default-try_again c =
    let d = dispatcher_of c.self.inside.threads c.self.inside.handles.opened c.self.inside.objects.items c.self.inside.objects.owned c.self.inside.waits c.self.inside.apcs c.self.inside.handing.items c.self.inside.standings.items c.self.inside.moment c.self.inside.grants.items c.self.inside.alarms c.self.inside.leaving c.self.inside.changed c.self.inside.alerted in
    let sound : IsMachineSound d = subst IsMachineSound (sym c.self.view_is) c.requires.sound in
    let small : d.table.looked + 1 < 2 ^ 64 = subst (λ (x : Dispatcher). x.table.looked + 1 < 2 ^ 64) (sym c.self.view_is) c.requires.countable in
    let objects = c.try_again.new.objects.items in
    let owned = c.try_again.new.objects.owned in
    let named = c.as_slice-objects.ensures in
    let tried : IsTried c.self.inside.objects.items c.try_again.new.objects.items c.args.thread c.in-Some.wait.now None =
    (subst (λ (hs : List ℕ). IsTried c.self.inside.objects.items c.try_again.new.objects.items c.args.thread (wait_on hs c.in-Some.wait.now.all) None) named c.in_default-try_again.ensures.tried) in
    let result = visit_passed d c.args.thread c.in-Some.wait.now objects owned c.get.follows.lender-at-none sound small c.in-Some.ensures.value tried.0 tried.1 (ap (λ (o : Objects). o.owned) c.in_default-try_again.ensures.none) c.get.follows.holds-at-none in
    record {
      visited = subst (λ (x : Dispatcher). IsVisited x (record d { objects = objects; owned = owned; table = c.get.follows.lender-at-none }) c.args.thread) c.self.view_is result.0;
      sound = result.1;
    }

pub index_mut-requires : goal.index_mut-requires
index_mut-requires c =
    let d = dispatcher_of c.self.inside.threads c.self.inside.handles.opened c.self.inside.objects.items c.self.inside.objects.owned c.self.inside.waits c.self.inside.apcs c.self.inside.handing.items c.self.inside.standings.items c.self.inside.moment c.self.inside.grants.items c.self.inside.alarms c.self.inside.leaving c.self.inside.changed c.self.inside.alerted in
    let sound : IsMachineSound d = subst IsMachineSound (sym c.self.view_is) c.requires.sound in
    let small : d.table.looked + 1 < 2 ^ 64 = subst (λ (x : Dispatcher). x.table.looked + 1 < 2 ^ 64) (sym c.self.view_is) c.requires.countable in
    let own = sound.waits c.args.thread c.in-Some.wait.now (sym c.in-Some.ensures.value) in
    let hands : length c.self.inside.handing.items ≡ d.threads = sound.hands in
    let known : c.args.thread < d.threads = own.known in
    let thread : c.get-number.result ≡ c.args.thread = c.get-number.ensures in
    omega (arith, hands, known, thread, c.self.inside.handing.ok.0)

pub index_mut-requires-2 : goal.index_mut-requires-2
index_mut-requires-2 c =
    let d = dispatcher_of c.self.inside.threads c.self.inside.handles.opened c.self.inside.objects.items c.self.inside.objects.owned c.self.inside.waits c.self.inside.apcs c.self.inside.handing.items c.self.inside.standings.items c.self.inside.moment c.self.inside.grants.items c.self.inside.alarms c.self.inside.leaving c.self.inside.changed c.self.inside.alerted in
    let sound : IsMachineSound d = subst IsMachineSound (sym c.self.view_is) c.requires.sound in
    let small : d.table.looked + 1 < 2 ^ 64 = subst (λ (x : Dispatcher). x.table.looked + 1 < 2 ^ 64) (sym c.self.view_is) c.requires.countable in
    let own = sound.waits c.args.thread c.in-Some.wait.now (sym c.in-Some.ensures.value) in
    let count : length c.self.inside.standings.items ≡ d.threads = sound.standings.count in
    let known : c.args.thread < d.threads = own.known in
    let thread : c.get-number.result ≡ c.args.thread = c.get-number.ensures in
    omega (arith, count, known, thread, c.self.inside.standings.ok.0)

pub push_reserved-requires : goal.push_reserved-requires
push_reserved-requires c =
    let d = dispatcher_of c.self.inside.threads c.self.inside.handles.opened c.self.inside.objects.items c.self.inside.objects.owned c.self.inside.waits c.self.inside.apcs c.self.inside.handing.items c.self.inside.standings.items c.self.inside.moment c.self.inside.grants.items c.self.inside.alarms c.self.inside.leaving c.self.inside.changed c.self.inside.alerted in
    let sound : IsMachineSound d = subst IsMachineSound (sym c.self.view_is) c.requires.sound in
    let room : length d.grants < d.threads = room_for d c.args.thread c.in-Some.wait.now sound c.in-Some.ensures.value in
    let capacity : d.threads ≤ vec_capacity c.self.inside.grants = c.self.invariant.1 in
    omega (arith, room, capacity, c.self.inside.grants.ok.0)

pub let_go-requires : goal.let_go-requires
let_go-requires c o member =
    let d = dispatcher_of c.self.inside.threads c.self.inside.handles.opened c.self.inside.objects.items c.self.inside.objects.owned c.self.inside.waits c.self.inside.apcs c.self.inside.handing.items c.self.inside.standings.items c.self.inside.moment c.self.inside.grants.items c.self.inside.alarms c.self.inside.leaving c.self.inside.changed c.self.inside.alerted in
    let sound : IsMachineSound d = subst IsMachineSound (sym c.self.view_is) c.requires.sound in
    let own = sound.waits c.args.thread c.in-Some.wait.now (sym c.in-Some.ensures.value) in
    let known = (own.named o (member_named c.in-Some.wait.now o (subst (λ (hs : List ℕ). Contains hs o) c.as_slice-objects.ensures member))).0 in
    let count = sound.marks.count in
    omega (arith, known, count)

pub returns : goal.returns
returns c =
    let d = dispatcher_of c.self.inside.threads c.self.inside.handles.opened c.self.inside.objects.items c.self.inside.objects.owned c.self.inside.waits c.self.inside.apcs c.self.inside.handing.items c.self.inside.standings.items c.self.inside.moment c.self.inside.grants.items c.self.inside.alarms c.self.inside.leaving c.self.inside.changed c.self.inside.alerted in
    let sound : IsMachineSound d = subst IsMachineSound (sym c.self.view_is) c.requires.sound in
    let small : d.table.looked + 1 < 2 ^ 64 = subst (λ (x : Dispatcher). x.table.looked + 1 < 2 ^ 64) (sym c.self.view_is) c.requires.countable in
    let wait = c.in-Some.wait.now in
    let objects = c.try_again.new.objects.items in
    let owned = c.try_again.new.objects.owned in
    let table = c.end_in_place.new.self in
    let grants = c.push_reserved.new.self.items in
    let leaving = c.let_go.new.leaving in
    let left = c.get.follows.holds-at-none in
    let tried : IsTried c.self.inside.objects.items objects c.args.thread wait (Some c.in-Some-try_again.status) =
    subst (λ (hs : List ℕ). IsTried c.self.inside.objects.items objects c.args.thread (wait_on hs wait.all) (Some c.in-Some-try_again.status)) c.as_slice-objects.ensures c.in-Some-try_again.ensures.tried in
    let queues : (h : ℕ) → queue_of table h ≡ others c.args.thread (queue_of d.table h) = λ h. c.end_in_place.ensures.ended.queues h ∙ ap (λ (v : Waits). others c.args.thread (queue_of v h)) left in
    let unmarked : MarksAgreeBut wait.objects (record d { objects = objects; owned = owned; table = table; handing = set d.handing c.args.thread false; standings = set d.standings c.args.thread Free; grants = grants }) =
    visit_unmarked d c.args.thread c.in-Some-try_again.status wait objects owned table grants sound c.in-Some.ensures.value tried queues in
    let lets : LetsGoBut [] d.handles wait.objects d.leaving leaving = subst (λ (hs : List ℕ). LetsGoBut [] d.handles hs d.leaving leaving) c.as_slice-objects.ensures c.let_go.ensures in
    let new : Dispatcher = record d { objects = objects; owned = owned; table = table; handing = set d.handing c.args.thread false; standings = set d.standings c.args.thread Free; grants = grants; leaving = leaving } in
    let result : IsVisited d new c.args.thread × IsMachineSound new = visit_granted d c.args.thread c.in-Some-try_again.status wait objects owned table grants leaving sound c.in-Some.ensures.value
    tried
    (c.end_in_place.ensures.ended.pending ∙ ap (λ (v : Waits). map.remove v.pending c.args.thread) left)
    queues
    (c.end_in_place.ensures.ended.looked ∙ (ap (λ (v : Waits). v.looked) left ∙ counted d.table.looked small))
    c.end_in_place.ensures.agrees
    c.push_reserved.ensures.items
    (let_go_agree (record d { objects = objects; owned = owned; table = table; handing = set d.handing c.args.thread false; standings = set d.standings c.args.thread Free; grants = grants }) wait.objects leaving unmarked lets) in
    record {
      visited = subst (λ (k : ℕ). IsVisited c.args.self.now (record d { objects = objects; owned = owned; table = table; handing = set d.handing k false; standings = set d.standings k Free; grants = grants; leaving = leaving }) c.args.thread) (sym c.get-number.ensures) (subst (λ (x : Dispatcher). IsVisited x new c.args.thread) c.self.view_is result.0);
      sound = subst (λ (k : ℕ). IsMachineSound (record d { objects = objects; owned = owned; table = table; handing = set d.handing k false; standings = set d.standings k Free; grants = grants; leaving = leaving })) (sym c.get-number.ensures) result.1;
    }
