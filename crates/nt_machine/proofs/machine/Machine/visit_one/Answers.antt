use Rattle.std.proofs.Common.{◌≡◌, ◌+◌, ◌-◌, ◌≤◌, ◌<◌, ◌^◌, ℕ, Bool, List, [], Some, None, length, sym, subst, ap, ◌∙◌, arith, false, set, Contains, refl}
use Rattle.std.specs.Option.{option_map}
use Rattle.std.specs.FinMap as map
use Rattle.std.specs.Vec.{vec_capacity}
use Rattle.nt_tables.specs.Objects.{Objects}
use Rattle.std.specs.List.{IsDistinct}
use Rattle.std.specs.Prelude.{nat_eq}
use Rattle.nt_status.proofs.Lists.{contains_first}
use Rattle.nt_waits.specs.Waits.{Names, queue_of, others, only_of}
use Rattle.nt_machine.specs.declared.standing.Standing.TheVariants.{Free}
use Rattle.nt_machine.specs.Dispatcher.{Dispatcher, dispatcher_of}
use Rattle.nt_calls.specs.Serving.{IsTried, CanTake, wait_on}
use Rattle.nt_machine.specs.Visits.{IsVisited, uncounted}
use Rattle.nt_machine.specs.Lawful.{IsMachineSound, MarksAgreeBut, LetsGoBut}
use Rattle.nt_machine.proofs.Marking.{member_named}
use Rattle.nt_machine.proofs.LettingGo.{let_go_agree}
use Rattle.nt_machine.proofs.Visiting.{looked_sound, only_wait, visit_granted, visit_unmarked, visit_passed, can_take, counted, room_for}
use Rattle.nt_machine.proofs.machine.Machine.visit_one.Goals as goal

pub next_on-requires : goal.next_on-requires
next_on-requires c =
    let d = dispatcher_of c.self.inside.threads c.self.inside.handles.opened c.self.inside.objects.items c.self.inside.objects.owned (record c.self.inside.waits { looked = c.self.inside.waits.looked - 1 }) c.self.inside.apcs c.self.inside.handing.items c.self.inside.standings.items c.self.inside.moment c.self.inside.grants.items c.self.inside.alarms c.self.inside.leaving c.self.inside.changed c.self.inside.alerted in
    let sound : IsMachineSound d = looked_sound (dispatcher_of c.self.inside.threads c.self.inside.handles.opened c.self.inside.objects.items c.self.inside.objects.owned c.self.inside.waits c.self.inside.apcs c.self.inside.handing.items c.self.inside.standings.items c.self.inside.moment c.self.inside.grants.items c.self.inside.alarms c.self.inside.leaving c.self.inside.changed c.self.inside.alerted) (c.self.inside.waits.looked - 1) (subst IsMachineSound (sym c.self.view_is) c.requires.sound) in
    let w = only_wait (map.get d.table.pending c.args.thread) c.args.object c.args.all (subst (λ (x : Dispatcher). option_map only_of (map.get x.table.pending c.args.thread) ≡ Some (Some (c.args.object, c.args.all))) (sym c.self.view_is) c.requires.only) in
    let named : Names w.0 c.args.object = member_named w.0 c.args.object (subst (λ (p : List ℕ × Bool). Contains p.0 c.args.object) (sym w.2) (contains_first c.args.object [] c.args.object refl)) in
    let there : Contains (queue_of d.table c.args.object) c.args.thread = sound.blocks.listed c.args.thread c.args.object w.0 (sym w.1) named in
    there

pub try_wait-requires-clause-apart : goal.try_wait-requires-clause-apart
try_wait-requires-clause-apart c =
    let d = dispatcher_of c.self.inside.threads c.self.inside.handles.opened c.self.inside.objects.items c.self.inside.objects.owned (record c.self.inside.waits { looked = c.self.inside.waits.looked - 1 }) c.self.inside.apcs c.self.inside.handing.items c.self.inside.standings.items c.self.inside.moment c.self.inside.grants.items c.self.inside.alarms c.self.inside.leaving c.self.inside.changed c.self.inside.alerted in
    let sound : IsMachineSound d = looked_sound (dispatcher_of c.self.inside.threads c.self.inside.handles.opened c.self.inside.objects.items c.self.inside.objects.owned c.self.inside.waits c.self.inside.apcs c.self.inside.handing.items c.self.inside.standings.items c.self.inside.moment c.self.inside.grants.items c.self.inside.alarms c.self.inside.leaving c.self.inside.changed c.self.inside.alerted) (c.self.inside.waits.looked - 1) (subst IsMachineSound (sym c.self.view_is) c.requires.sound) in
    let w = only_wait (map.get d.table.pending c.args.thread) c.args.object c.args.all (subst (λ (x : Dispatcher). option_map only_of (map.get x.table.pending c.args.thread) ≡ Some (Some (c.args.object, c.args.all))) (sym c.self.view_is) c.requires.only) in
    let own = sound.waits c.args.thread w.0 (sym w.1) in
    subst (λ (p : List ℕ × Bool). IsDistinct nat_eq p.0) w.2 own.apart

pub try_wait-requires-clause-room : goal.try_wait-requires-clause-room
try_wait-requires-clause-room c =
    let d = dispatcher_of c.self.inside.threads c.self.inside.handles.opened c.self.inside.objects.items c.self.inside.objects.owned (record c.self.inside.waits { looked = c.self.inside.waits.looked - 1 }) c.self.inside.apcs c.self.inside.handing.items c.self.inside.standings.items c.self.inside.moment c.self.inside.grants.items c.self.inside.alarms c.self.inside.leaving c.self.inside.changed c.self.inside.alerted in
    let sound : IsMachineSound d = looked_sound (dispatcher_of c.self.inside.threads c.self.inside.handles.opened c.self.inside.objects.items c.self.inside.objects.owned c.self.inside.waits c.self.inside.apcs c.self.inside.handing.items c.self.inside.standings.items c.self.inside.moment c.self.inside.grants.items c.self.inside.alarms c.self.inside.leaving c.self.inside.changed c.self.inside.alerted) (c.self.inside.waits.looked - 1) (subst IsMachineSound (sym c.self.view_is) c.requires.sound) in
    let w = only_wait (map.get d.table.pending c.args.thread) c.args.object c.args.all (subst (λ (x : Dispatcher). option_map only_of (map.get x.table.pending c.args.thread) ≡ Some (Some (c.args.object, c.args.all))) (sym c.self.view_is) c.requires.only) in
    let own = sound.waits c.args.thread w.0 (sym w.1) in
    let can : CanTake c.self.inside.objects.items c.args.thread w.0.objects = can_take c.self.inside.objects.items c.args.thread d.threads w.0 sound.objects own in
    subst (λ (p : List ℕ × Bool). CanTake c.self.inside.objects.items c.args.thread p.0) w.2 can

pub try_wait-requires-clause-known : goal.try_wait-requires-clause-known
try_wait-requires-clause-known c =
    let d = dispatcher_of c.self.inside.threads c.self.inside.handles.opened c.self.inside.objects.items c.self.inside.objects.owned (record c.self.inside.waits { looked = c.self.inside.waits.looked - 1 }) c.self.inside.apcs c.self.inside.handing.items c.self.inside.standings.items c.self.inside.moment c.self.inside.grants.items c.self.inside.alarms c.self.inside.leaving c.self.inside.changed c.self.inside.alerted in
    let sound : IsMachineSound d = looked_sound (dispatcher_of c.self.inside.threads c.self.inside.handles.opened c.self.inside.objects.items c.self.inside.objects.owned c.self.inside.waits c.self.inside.apcs c.self.inside.handing.items c.self.inside.standings.items c.self.inside.moment c.self.inside.grants.items c.self.inside.alarms c.self.inside.leaving c.self.inside.changed c.self.inside.alerted) (c.self.inside.waits.looked - 1) (subst IsMachineSound (sym c.self.view_is) c.requires.sound) in
    let w = only_wait (map.get d.table.pending c.args.thread) c.args.object c.args.all (subst (λ (x : Dispatcher). option_map only_of (map.get x.table.pending c.args.thread) ≡ Some (Some (c.args.object, c.args.all))) (sym c.self.view_is) c.requires.only) in
    let own = sound.waits c.args.thread w.0 (sym w.1) in
    rw c.self.invariant.2 own.known

pub returns-in_default-clause-visited : goal.returns-in_default-clause-visited
returns-in_default-clause-visited c =
    let d = dispatcher_of c.self.inside.threads c.self.inside.handles.opened c.self.inside.objects.items c.self.inside.objects.owned (record c.self.inside.waits { looked = c.self.inside.waits.looked - 1 }) c.self.inside.apcs c.self.inside.handing.items c.self.inside.standings.items c.self.inside.moment c.self.inside.grants.items c.self.inside.alarms c.self.inside.leaving c.self.inside.changed c.self.inside.alerted in
    let sound : IsMachineSound d = looked_sound (dispatcher_of c.self.inside.threads c.self.inside.handles.opened c.self.inside.objects.items c.self.inside.objects.owned c.self.inside.waits c.self.inside.apcs c.self.inside.handing.items c.self.inside.standings.items c.self.inside.moment c.self.inside.grants.items c.self.inside.alarms c.self.inside.leaving c.self.inside.changed c.self.inside.alerted) (c.self.inside.waits.looked - 1) (subst IsMachineSound (sym c.self.view_is) c.requires.sound) in
    let w = only_wait (map.get d.table.pending c.args.thread) c.args.object c.args.all (subst (λ (x : Dispatcher). option_map only_of (map.get x.table.pending c.args.thread) ≡ Some (Some (c.args.object, c.args.all))) (sym c.self.view_is) c.requires.only) in
    let own = sound.waits c.args.thread w.0 (sym w.1) in
    let some : (0 < c.self.inside.waits.looked) × (c.self.inside.waits.looked < 2 ^ 64) = subst (λ (x : Dispatcher). (0 < x.table.looked) × (x.table.looked < 2 ^ 64)) (sym c.self.view_is) c.requires.counted in
    let one_more : c.self.inside.waits.looked ≡ d.table.looked + 1 = (let above = some.0 in omega (arith, above)) in
    let small : d.table.looked + 1 < 2 ^ 64 = (let below = some.1 in omega (arith, below, one_more)) in
    let objects = c.try_wait.new.objects.items in
    let owned = c.try_wait.new.objects.owned in
    let tried : IsTried c.self.inside.objects.items c.try_wait.new.objects.items c.args.thread w.0 (None) =
    subst (λ (p : List ℕ × Bool). IsTried c.self.inside.objects.items c.try_wait.new.objects.items c.args.thread (wait_on p.0 p.1) (None)) (sym w.2) c.in_default.ensures.tried in
    let result = visit_passed d c.args.thread w.0 objects owned c.self.inside.waits sound small w.1 tried.0 tried.1 (ap (λ (o : Objects). o.owned) c.in_default.ensures.none) (ap (λ (n : ℕ). record c.self.inside.waits { looked = n }) (one_more ∙ sym (counted d.table.looked small))) in
    record {
      visited = subst (λ (x : Dispatcher). IsVisited (uncounted x) (record d { objects = objects; owned = owned; table = c.self.inside.waits }) c.args.thread) c.self.view_is result.0;
      sound = result.1;
    }

pub index_mut-requires : goal.index_mut-requires
index_mut-requires c =
    let d = dispatcher_of c.self.inside.threads c.self.inside.handles.opened c.self.inside.objects.items c.self.inside.objects.owned (record c.self.inside.waits { looked = c.self.inside.waits.looked - 1 }) c.self.inside.apcs c.self.inside.handing.items c.self.inside.standings.items c.self.inside.moment c.self.inside.grants.items c.self.inside.alarms c.self.inside.leaving c.self.inside.changed c.self.inside.alerted in
    let sound : IsMachineSound d = looked_sound (dispatcher_of c.self.inside.threads c.self.inside.handles.opened c.self.inside.objects.items c.self.inside.objects.owned c.self.inside.waits c.self.inside.apcs c.self.inside.handing.items c.self.inside.standings.items c.self.inside.moment c.self.inside.grants.items c.self.inside.alarms c.self.inside.leaving c.self.inside.changed c.self.inside.alerted) (c.self.inside.waits.looked - 1) (subst IsMachineSound (sym c.self.view_is) c.requires.sound) in
    let w = only_wait (map.get d.table.pending c.args.thread) c.args.object c.args.all (subst (λ (x : Dispatcher). option_map only_of (map.get x.table.pending c.args.thread) ≡ Some (Some (c.args.object, c.args.all))) (sym c.self.view_is) c.requires.only) in
    let own = sound.waits c.args.thread w.0 (sym w.1) in
    let hands : length c.self.inside.handing.items ≡ d.threads = sound.hands in
    let known : c.args.thread < d.threads = own.known in
    let thread : c.get-place.result ≡ c.args.thread = c.get-place.ensures in
    omega (arith, hands, known, thread, c.self.inside.handing.ok.0)

pub index_mut-requires-2 : goal.index_mut-requires-2
index_mut-requires-2 c =
    let d = dispatcher_of c.self.inside.threads c.self.inside.handles.opened c.self.inside.objects.items c.self.inside.objects.owned (record c.self.inside.waits { looked = c.self.inside.waits.looked - 1 }) c.self.inside.apcs c.self.inside.handing.items c.self.inside.standings.items c.self.inside.moment c.self.inside.grants.items c.self.inside.alarms c.self.inside.leaving c.self.inside.changed c.self.inside.alerted in
    let sound : IsMachineSound d = looked_sound (dispatcher_of c.self.inside.threads c.self.inside.handles.opened c.self.inside.objects.items c.self.inside.objects.owned c.self.inside.waits c.self.inside.apcs c.self.inside.handing.items c.self.inside.standings.items c.self.inside.moment c.self.inside.grants.items c.self.inside.alarms c.self.inside.leaving c.self.inside.changed c.self.inside.alerted) (c.self.inside.waits.looked - 1) (subst IsMachineSound (sym c.self.view_is) c.requires.sound) in
    let w = only_wait (map.get d.table.pending c.args.thread) c.args.object c.args.all (subst (λ (x : Dispatcher). option_map only_of (map.get x.table.pending c.args.thread) ≡ Some (Some (c.args.object, c.args.all))) (sym c.self.view_is) c.requires.only) in
    let own = sound.waits c.args.thread w.0 (sym w.1) in
    let count : length c.self.inside.standings.items ≡ d.threads = sound.standings.count in
    let known : c.args.thread < d.threads = own.known in
    let thread : c.get-place.result ≡ c.args.thread = c.get-place.ensures in
    omega (arith, count, known, thread, c.self.inside.standings.ok.0)

pub push_reserved-requires : goal.push_reserved-requires
push_reserved-requires c =
    let d = dispatcher_of c.self.inside.threads c.self.inside.handles.opened c.self.inside.objects.items c.self.inside.objects.owned (record c.self.inside.waits { looked = c.self.inside.waits.looked - 1 }) c.self.inside.apcs c.self.inside.handing.items c.self.inside.standings.items c.self.inside.moment c.self.inside.grants.items c.self.inside.alarms c.self.inside.leaving c.self.inside.changed c.self.inside.alerted in
    let sound : IsMachineSound d = looked_sound (dispatcher_of c.self.inside.threads c.self.inside.handles.opened c.self.inside.objects.items c.self.inside.objects.owned c.self.inside.waits c.self.inside.apcs c.self.inside.handing.items c.self.inside.standings.items c.self.inside.moment c.self.inside.grants.items c.self.inside.alarms c.self.inside.leaving c.self.inside.changed c.self.inside.alerted) (c.self.inside.waits.looked - 1) (subst IsMachineSound (sym c.self.view_is) c.requires.sound) in
    let w = only_wait (map.get d.table.pending c.args.thread) c.args.object c.args.all (subst (λ (x : Dispatcher). option_map only_of (map.get x.table.pending c.args.thread) ≡ Some (Some (c.args.object, c.args.all))) (sym c.self.view_is) c.requires.only) in
    let own = sound.waits c.args.thread w.0 (sym w.1) in
    let room : length d.grants < d.threads = room_for d c.args.thread w.0 sound w.1 in
    let capacity : d.threads ≤ vec_capacity c.self.inside.grants = c.self.invariant.1 in
    omega (arith, room, capacity, c.self.inside.grants.ok.0)

pub returns-clause-visited : goal.returns-clause-visited
returns-clause-visited c =
    let d = dispatcher_of c.self.inside.threads c.self.inside.handles.opened c.self.inside.objects.items c.self.inside.objects.owned (record c.self.inside.waits { looked = c.self.inside.waits.looked - 1 }) c.self.inside.apcs c.self.inside.handing.items c.self.inside.standings.items c.self.inside.moment c.self.inside.grants.items c.self.inside.alarms c.self.inside.leaving c.self.inside.changed c.self.inside.alerted in
    let sound : IsMachineSound d = looked_sound (dispatcher_of c.self.inside.threads c.self.inside.handles.opened c.self.inside.objects.items c.self.inside.objects.owned c.self.inside.waits c.self.inside.apcs c.self.inside.handing.items c.self.inside.standings.items c.self.inside.moment c.self.inside.grants.items c.self.inside.alarms c.self.inside.leaving c.self.inside.changed c.self.inside.alerted) (c.self.inside.waits.looked - 1) (subst IsMachineSound (sym c.self.view_is) c.requires.sound) in
    let w = only_wait (map.get d.table.pending c.args.thread) c.args.object c.args.all (subst (λ (x : Dispatcher). option_map only_of (map.get x.table.pending c.args.thread) ≡ Some (Some (c.args.object, c.args.all))) (sym c.self.view_is) c.requires.only) in
    let own = sound.waits c.args.thread w.0 (sym w.1) in
    let some : (0 < c.self.inside.waits.looked) × (c.self.inside.waits.looked < 2 ^ 64) = subst (λ (x : Dispatcher). (0 < x.table.looked) × (x.table.looked < 2 ^ 64)) (sym c.self.view_is) c.requires.counted in
    let one_more : c.self.inside.waits.looked ≡ d.table.looked + 1 = (let above = some.0 in omega (arith, above)) in
    let small : d.table.looked + 1 < 2 ^ 64 = (let below = some.1 in omega (arith, below, one_more)) in
    let objects = c.try_wait.new.objects.items in
    let owned = c.try_wait.new.objects.owned in
    let table = c.end_one-next.new.self in
    let grants = c.push_reserved.new.self.items in
    let leaving = c.let_go.new.leaving in
    let tried : IsTried c.self.inside.objects.items c.try_wait.new.objects.items c.args.thread w.0 (Some c.in-Some.status) =
    subst (λ (p : List ℕ × Bool). IsTried c.self.inside.objects.items c.try_wait.new.objects.items c.args.thread (wait_on p.0 p.1) (Some c.in-Some.status)) (sym w.2) c.in-Some.ensures.tried in
    let queues : (h : ℕ) → queue_of table h ≡ others c.args.thread (queue_of d.table h) = c.end_one-next.ensures.ended.queues in
    let unmarked : MarksAgreeBut w.0.objects (record d { objects = objects; owned = owned; table = table; handing = set d.handing c.args.thread false; standings = set d.standings c.args.thread Free; grants = grants }) =
    visit_unmarked d c.args.thread c.in-Some.status w.0 objects owned table grants sound w.1 tried queues in
    let lets : LetsGoBut [] d.handles w.0.objects d.leaving leaving = subst (λ (p : List ℕ × Bool). LetsGoBut [] d.handles p.0 d.leaving leaving) (sym w.2) c.let_go.ensures in
    let new : Dispatcher = record d { objects = objects; owned = owned; table = table; handing = set d.handing c.args.thread false; standings = set d.standings c.args.thread Free; grants = grants; leaving = leaving } in
    let result : IsVisited d new c.args.thread × IsMachineSound new = visit_granted d c.args.thread c.in-Some.status w.0 objects owned table grants leaving sound w.1
    tried
    c.end_one-next.ensures.ended.pending
    queues
    (c.end_one-next.ensures.ended.looked ∙ one_more)
    c.end_one-next.ensures.agrees
    c.push_reserved.ensures.items
    (let_go_agree (record d { objects = objects; owned = owned; table = table; handing = set d.handing c.args.thread false; standings = set d.standings c.args.thread Free; grants = grants }) w.0.objects leaving unmarked lets) in
    record {
      visited = subst (λ (k : ℕ). IsVisited (uncounted c.args.self.now) (record d { objects = objects; owned = owned; table = table; handing = set d.handing k false; standings = set d.standings k Free; grants = grants; leaving = leaving }) c.args.thread) (sym c.get-place.ensures) (subst (λ (x : Dispatcher). IsVisited (uncounted x) new c.args.thread) c.self.view_is result.0);
      sound = subst (λ (k : ℕ). IsMachineSound (record d { objects = objects; owned = owned; table = table; handing = set d.handing k false; standings = set d.standings k Free; grants = grants; leaving = leaving })) (sym c.get-place.ensures) result.1;
    }
