use Rattle.nt_waits.proofs.AgreeLemmas.{agrees, table_none}
use Rattle.nt_waits.proofs.DeadlineLemmas.{alarmed_none}
use Rattle.nt_waits.proofs.CountLemmas.{len-none}
use Rattle.std.proofs.Common.{arith}
use Rattle.nt_waits.proofs.RoomLemmas.{room_left}
use Rattle.nt_waits.proofs.table.WaitTable.new.Goals as goal

pub invariant_of-result : goal.invariant_of-result
invariant_of-result c = record {
  table = table_none c.new.result c.new-2.result.items c.new.ensures.lists c.new-2.ensures.items;
  counted = len-none c.new-2.result.items c.new-2.ensures.items;
  alarmed = alarmed_none c.new-3.result c.new-2.result.items c.new-3.ensures c.new-2.ensures.items;
  roomy = room_left c.new.result c.new-2.result.items _ _ (omega (arith, c.new.ensures.used)) (omega arith) (omega arith) (omega arith);
}

pub returns-clause-agrees : goal.returns-clause-agrees
returns-clause-agrees c = agrees c.new.result c.new-2.result.items (table_none c.new.result c.new-2.result.items c.new.ensures.lists c.new-2.ensures.items)
