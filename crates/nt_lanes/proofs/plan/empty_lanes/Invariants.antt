use Rattle.std.proofs.Common.{◌≡◌, ◌≤◌, [], replicate, vec_len, vec_capacity}
use Rattle.nt_lanes.specs.Lanes.{plan_of}
use Rattle.nt_lanes.proofs.plan.empty_lanes.Given as goal

abbrev pub invariant-loop : goal.invariant-loop
invariant-loop l = record {
  count : vec_len l.lanes ≡ l.counter;
  room : l.count ≤ vec_capacity l.lanes;
  lanes : plan_of l.lanes.items ≡ replicate l.counter [];
}
