use Rattle.std.proofs.Common.{arith, refl, ap}
use Rattle.nt_waits.specs.Queues.{OnlyGrows}
use Rattle.nt_waits.specs.Table.{IsWhole}
use Rattle.nt_waits.proofs.BegunLemmas.{whole_reserved}
use Rattle.nt_waits.proofs.table.WaitTable.add_object.Goals as goal
use Rattle.nt_waits.proofs.table.WaitTable.add_object.Goals.{After-reserve_objects}

-- only room is made
grows : (c : After-reserve_objects) → OnlyGrows c.self.inside.queues c.reserve_objects.new.self
grows c =
    let same = c.reserve_objects.ensures.rest_kept in
    record {
      lists = ap (λ q. q.lists) same;
      used = ap (λ q. q.used) same;
      touched = ap (λ q. q.touched) same;
      capacity = let capacity = ap (λ q. q.capacity) same in omega (arith, capacity);
      object_room = c.reserve_objects.ensures.grows;
    }

whole : (c : After-reserve_objects) → IsWhole c.reserve_objects.new.self c.self.inside.waits.items c.self.inside.deadlines c.self.inside.count c.self.inside.room
whole c =
    whole_reserved c.self.inside.queues c.reserve_objects.new.self c.self.inside.waits.items c.self.inside.waits.items c.self.inside.deadlines c.self.inside.deadlines c.self.inside.count c.self.inside.room
    (grows c) (λ u. refl) (omega arith) (λ small. small) (λ u. refl) (omega arith) c.self.invariant

pub invariant_of-self : goal.invariant_of-self
invariant_of-self c = whole (goal.at.invariant_of-self c).After-reserve_objects

pub invariant_of-self-2 : goal.invariant_of-self-2
invariant_of-self-2 c =
    let before = whole (goal.at.invariant_of-self-2 c).After-reserve_objects in
    record {
      table = before.table;
      counted = before.counted;
      alarmed = before.alarmed;
      roomy = record { blocks = before.roomy.blocks; objects = c.in_ok-reserve_objects.ensures.room; places = before.roomy.places; alarms = before.roomy.alarms };
    }
