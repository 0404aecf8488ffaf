use Rattle.std.proofs.Common.{arith, refl, ap, subst, ◌∙◌}
use Rattle.nt_waits.specs.Waits.{Waits, Begins, wait_of, wait_for}
use Rattle.nt_waits.proofs.AgreeLemmas.{agrees}
use Rattle.nt_waits.proofs.BegunLemmas.{view_of, slot_free, begins, whole_begun, whole_reserved, view_same, on_err}
use Rattle.nt_waits.proofs.CountLemmas.{len-waits_of}
use Rattle.nt_waits.proofs.RoomLemmas.{room_left}
use Rattle.nt_waits.proofs.table.WaitTable.begin.Goals as goal

pub begin_wait-requires-clause-free : goal.begin_wait-requires-clause-free
begin_wait-requires-clause-free c = slot_free c.self.inside.queues c.self.inside.waits.items _ _ c.args.self.now c.args.t c.self.view_is c.requires.free

-- a thread that does not wait has no alarm
pub set_alarm-requires-clause-quiet : goal.set_alarm-requires-clause-quiet
set_alarm-requires-clause-quiet c =
    let free = slot_free c.self.inside.queues c.self.inside.waits.items _ _ c.args.self.now c.args.t c.self.view_is c.requires.free in
    c.reserve_alarm.ensures.kept c.args.t ∙ c.self.invariant.alarmed c.args.t ∙ rw free refl

pub returns-in_err-reserve_alarm-clause-agrees : goal.returns-in_err-reserve_alarm-clause-agrees
returns-in_err-reserve_alarm-clause-agrees c = agrees c.self.inside.queues c.self.inside.waits.items c.self.invariant.table

pub returns-in_err-begin_wait-clause-agrees : goal.returns-in_err-begin_wait-clause-agrees
returns-in_err-begin_wait-clause-agrees c = agrees c.begin_wait.new.queues c.begin_wait.new.waits.items c.in_err-begin_wait.ensures.err.table

pub returns-clause-begins : goal.returns-clause-begins
returns-clause-begins c =
    subst (λ (v : Waits). Begins v (view_of c.begin_wait.new.queues c.begin_wait.new.waits.items c.self.inside.looked c.self.inside.room) c.args.t (wait_for c.args.objects.now c.args.all c.args.about)) c.self.view_is
    (begins c.self.inside.queues c.begin_wait.new.queues c.self.inside.waits.items c.begin_wait.new.waits.items c.args.t (wait_for c.args.objects.now c.args.all c.args.about) c.in_ok-begin_wait.ensures.begun _ _)

pub invariant_of-self : goal.invariant_of-self
invariant_of-self c =
    whole_reserved c.self.inside.queues c.self.inside.queues c.self.inside.waits.items c.self.inside.waits.items c.self.inside.deadlines c.reserve_alarm.new.alarms c.self.inside.count c.self.inside.room
    (record { lists = refl; used = refl; touched = refl; capacity = omega arith; object_room = omega arith }) (λ u. refl) (omega arith) (λ small. small) c.reserve_alarm.ensures.kept c.reserve_alarm.ensures.grows c.self.invariant

pub invariant_of-self-in_err-begin_wait : goal.invariant_of-self-in_err-begin_wait
invariant_of-self-in_err-begin_wait c =
    let none = c.in_err-begin_wait.ensures.err in
    whole_reserved c.self.inside.queues c.begin_wait.new.queues c.self.inside.waits.items c.begin_wait.new.waits.items c.self.inside.deadlines c.reserve_alarm.new.alarms c.self.inside.count c.self.inside.room
    none.queues none.shown none.places (λ _. none.table.small) c.reserve_alarm.ensures.kept c.reserve_alarm.ensures.grows c.self.invariant

-- there are no more waits than places, and at most 65536 of these
pub overflow_add-self : goal.overflow_add-self
overflow_add-self c = omega (arith, c.self.invariant.counted, len-waits_of c.self.inside.waits.items, c.self.invariant.table.small)

pub invariant_of-self-2 : goal.invariant_of-self-2
invariant_of-self-2 c =
    let done = c.in_ok-begin_wait.ensures in
    let room = c.self.invariant.roomy in
    whole_begun c.self.inside.queues c.begin_wait.new.queues c.self.inside.waits.items c.begin_wait.new.waits.items c.args.t (wait_for c.args.objects.now c.args.all c.args.about) c.in_ok-begin_wait.ensures.begun
    c.self.inside.count c.self.inside.deadlines c.reserve_alarm.new.alarms c.set_alarm.new.alarms c.self.inside.room c.self.invariant
    (ap (λ v. wait_of v c.args.t) c.self.view_is ∙ c.requires.free) c.reserve_alarm.ensures.kept c.set_alarm.ensures.here c.set_alarm.ensures.others
    (room_left c.begin_wait.new.queues c.begin_wait.new.waits.items _ c.self.inside.room done.left (let objects = room.objects in let more = done.begun.object_room in omega (arith, objects, more)) (let places = room.places in let more = done.begun.places in omega (arith, places, more))
    (let alarms = room.alarms in omega (arith, alarms, c.reserve_alarm.ensures.grows, c.set_alarm.ensures.places)))

pub returns-clause-agrees : goal.returns-clause-agrees
returns-clause-agrees c = agrees c.begin_wait.new.queues c.begin_wait.new.waits.items c.in_ok-begin_wait.ensures.begun.table

pub returns-in_err-begin_wait-clause-err : goal.returns-in_err-begin_wait-clause-err
returns-in_err-begin_wait-clause-err c =
    let none = c.in_err-begin_wait.ensures.err in
    on_err c.from_residual-in_err-begin_wait.result (view_same c.self.inside.queues c.begin_wait.new.queues c.self.inside.waits.items c.begin_wait.new.waits.items _ _ none.queues none.shown ∙ c.self.view_is)

-- no more threads have room than have places
pub begin_wait-requires-clause-countable : goal.begin_wait-requires-clause-countable
begin_wait-requires-clause-countable c =
    let places = c.self.invariant.roomy.places in
    let small = c.self.invariant.table.small in
    omega (arith, places, small)
