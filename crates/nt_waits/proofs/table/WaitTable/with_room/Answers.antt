use Rattle.std.proofs.Common.{arith, ◌∙◌}
use Rattle.nt_waits.proofs.AgreeLemmas.{agrees}
use Rattle.nt_waits.proofs.OpeningLemmas.{waits_empty, table_empty, whole_empty}
use Rattle.nt_waits.proofs.table.WaitTable.with_room.Goals as goal

pub invariant_of-table : goal.invariant_of-table
invariant_of-table c =
    let room = c.in_ok-with_room.ensures in
    let places = c.in_ok-empty_places.ensures in
    whole_empty c.in_ok-with_room.field-0 c.in_ok-empty_places.field-0.items (room.lists ∙ c.new.ensures.lists) places.empty (omega (arith, places.most, c.requires))
    c.in_ok-with_places.field-0 c.args.room c.in_ok-with_places.ensures room.left room.objects places.there

pub returns-clause-pending : goal.returns-clause-pending
returns-clause-pending c = waits_empty c.in_ok-empty_places.field-0.items c.in_ok-empty_places.ensures.empty

pub returns-clause-agrees : goal.returns-clause-agrees
returns-clause-agrees c =
    let places = c.in_ok-empty_places.ensures in
    agrees c.in_ok-with_room.field-0 c.in_ok-empty_places.field-0.items
    (table_empty c.in_ok-with_room.field-0 c.in_ok-empty_places.field-0.items (c.in_ok-with_room.ensures.lists ∙ c.new.ensures.lists) places.empty (omega (arith, places.most, c.requires)))
