use Rattle.std.proofs.Common.{◌≡◌, arith, length, ◌∙◌}
use Rattle.nt_waits.specs.Table.{IsTable}
use Rattle.nt_waits.proofs.AgreeLemmas.{agrees}
use Rattle.nt_waits.proofs.CopyLemmas.{slots_cloned, alarmed_copied, table_copied, waits-copied}
use Rattle.nt_waits.proofs.RoomLemmas.{room_left}
use Rattle.nt_waits.proofs.table.WaitTable.copy.Goals as goal
use Rattle.nt_waits.proofs.table.WaitTable.copy.Goals.{In_ok-clone}

-- the copied places are as many
long : (c : In_ok-clone) → length c.in_ok-clone.field-0.items ≡ length c.self.inside.waits.items
long c = omega (arith, c.in_ok-clone.ensures.cases.1, c.in_ok-clone.field-0.ok.0, c.self.inside.waits.ok.0)

lists : (c : In_ok-clone) → c.in_ok-with_room.field-0.lists ≡ c.self.inside.queues.lists
lists c = c.in_ok-with_room.ensures.lists ∙ c.in_ok-copy.ensures.lists

table : (c : In_ok-clone) → IsTable c.in_ok-with_room.field-0 c.in_ok-clone.field-0.items
table c =
    let items = c.self.inside.waits.items in
    let copy = c.in_ok-clone.field-0.items in
    table_copied c.self.inside.queues c.in_ok-with_room.field-0 items copy (lists c) (slots_cloned items copy c.in_ok-clone.ensures.cases.0) (long c) c.self.invariant.table

pub invariant_of-result : goal.invariant_of-result
invariant_of-result c =
    let here = (goal.at.invariant_of-result c).In_ok-clone in
    let items = c.self.inside.waits.items in
    let copy = c.in_ok-clone.field-0.items in
    let same = slots_cloned items copy c.in_ok-clone.ensures.cases.0 in
    let room = c.self.invariant.roomy in
    let places = room.places in
    let alarms = room.alarms in
    let as_many = long here in
    record {
      table = table here;
      counted = rw (waits-copied c.self.inside.queues c.in_ok-with_room.field-0 items copy (lists here) same) c.self.invariant.counted;
      alarmed = rw c.in_ok-copy-2.ensures (alarmed_copied c.self.inside.queues c.in_ok-with_room.field-0 items copy (lists here) same c.self.inside.deadlines c.self.invariant.alarmed);
      roomy = room_left c.in_ok-with_room.field-0 copy (length c.in_ok-copy-2.field-0) c.self.inside.room c.in_ok-with_room.ensures.left c.in_ok-with_room.ensures.objects (omega (arith, places, as_many)) (rw c.in_ok-copy-2.ensures alarms);
    }

pub returns-clause-value : goal.returns-clause-value
returns-clause-value c =
    let here = (goal.at.returns-clause-value c).In_ok-clone in
    let items = c.self.inside.waits.items in
    let copy = c.in_ok-clone.field-0.items in
    let waits = waits-copied c.self.inside.queues c.in_ok-with_room.field-0 items copy (lists here) (slots_cloned items copy c.in_ok-clone.ensures.cases.0) in
    rw (waits, lists here, c.in_ok-with_room.ensures.touched, c.in_ok-copy.ensures.touched) c.self.view_is

pub returns-clause-agrees : goal.returns-clause-agrees
returns-clause-agrees c = agrees c.in_ok-with_room.field-0 c.in_ok-clone.field-0.items (table (goal.at.returns-clause-agrees c).In_ok-clone)
