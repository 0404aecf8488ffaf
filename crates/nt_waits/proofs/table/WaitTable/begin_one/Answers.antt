use Rattle.std.proofs.Common.{[], ◌∷◌, length, arith, refl, ap, subst, ◌∙◌}
use Rattle.nt_waits.specs.Waits.{Waits, Begins, wait_for, wait_of}
use Rattle.nt_waits.proofs.AgreeLemmas.{agrees}
use Rattle.nt_waits.proofs.BegunLemmas.{view_of, slot_free, begins, whole_begun}
use Rattle.nt_waits.proofs.CountLemmas.{len-waits_of}
use Rattle.nt_waits.proofs.RoomLemmas.{block_there, room_one}
use Rattle.nt_waits.proofs.table.WaitTable.begin_one.Goals as goal

pub begin_ready-requires-clause-free : goal.begin_ready-requires-clause-free
begin_ready-requires-clause-free c = slot_free c.self.inside.queues c.self.inside.waits.items _ _ c.args.self.now c.args.t c.self.view_is c.requires.free

pub begin_ready-requires-clause-blocks : goal.begin_ready-requires-clause-blocks
begin_ready-requires-clause-blocks c =
    let free = slot_free c.self.inside.queues c.self.inside.waits.items _ _ c.args.self.now c.args.t c.self.view_is c.requires.free in
    let room = ap (λ v. v.room.threads) c.self.view_is in
    block_there c.self.inside.queues c.self.inside.waits.items _ c.self.inside.room c.args.t c.self.invariant.roomy (rw room c.requires.place) free

pub begin_ready-requires-clause-objects : goal.begin_ready-requires-clause-objects
begin_ready-requires-clause-objects c =
    let room = ap (λ v. v.room.objects) c.self.view_is in
    let objects = c.self.invariant.roomy.objects in
    omega (arith, room, objects, c.requires.queue)

pub begin_ready-requires-clause-place : goal.begin_ready-requires-clause-place
begin_ready-requires-clause-place c =
    let room = ap (λ v. v.room.threads) c.self.view_is in
    let places = c.self.invariant.roomy.places in
    omega (arith, room, places, c.requires.place)

pub set_alarm-requires-clause-room : goal.set_alarm-requires-clause-room
set_alarm-requires-clause-room c some =
    let room = ap (λ v. v.room.threads) c.self.view_is in
    let alarms = c.self.invariant.roomy.alarms in
    omega (arith, room, alarms, c.requires.place)

-- a thread that does not wait has no alarm
pub set_alarm-requires-clause-quiet : goal.set_alarm-requires-clause-quiet
set_alarm-requires-clause-quiet c =
    let free = slot_free c.self.inside.queues c.self.inside.waits.items _ _ c.args.self.now c.args.t c.self.view_is c.requires.free in
    c.self.invariant.alarmed c.args.t ∙ rw free refl

-- there are no more waits than places, and at most 65536 of these
pub overflow_add-pending : goal.overflow_add-pending
overflow_add-pending c = omega (arith, c.self.invariant.counted, len-waits_of c.self.inside.waits.items, c.self.invariant.table.small)

pub invariant_of-self : goal.invariant_of-self
invariant_of-self c =
    let done = c.begin_ready.ensures in
    let placed = done.begun.placed in
    let items = c.self.inside.waits.items in
    let free = slot_free c.self.inside.queues items _ _ c.args.self.now c.args.t c.self.view_is c.requires.free in
    let room = ap (λ v. v.room.threads) c.self.view_is in
    whole_begun c.self.inside.queues c.begin_ready.new.queues items c.begin_ready.new.waits.items c.args.t (wait_for (c.args.object ∷ []) c.args.all c.args.about) done.begun
    c.self.inside.count c.self.inside.deadlines c.self.inside.deadlines c.set_alarm.new.alarms c.self.inside.room c.self.invariant
    (ap (λ v. wait_of v c.args.t) c.self.view_is ∙ c.requires.free) (λ u. refl) c.set_alarm.ensures.here c.set_alarm.ensures.others
    (room_one c.self.inside.queues c.begin_ready.new.queues items c.begin_ready.new.waits.items _ _ c.self.inside.room c.args.t placed.0 (rw room c.requires.place) free placed.1 (ap (λ wait. length wait.objects) placed.2)
    done.begun.others done.takes done.places c.set_alarm.ensures.places c.self.invariant.roomy)

pub returns-clause-begins : goal.returns-clause-begins
returns-clause-begins c =
    let done = c.begin_ready.ensures in
    let mine = wait_for (c.args.object ∷ []) c.args.all c.args.about in
    subst (λ (v : Waits). Begins v (view_of c.begin_ready.new.queues c.begin_ready.new.waits.items c.self.inside.looked c.self.inside.room) c.args.t mine) c.self.view_is
    (begins c.self.inside.queues c.begin_ready.new.queues c.self.inside.waits.items c.begin_ready.new.waits.items c.args.t mine done.begun _ _)

pub returns-clause-agrees : goal.returns-clause-agrees
returns-clause-agrees c = agrees c.begin_ready.new.queues c.begin_ready.new.waits.items c.begin_ready.ensures.begun.table
