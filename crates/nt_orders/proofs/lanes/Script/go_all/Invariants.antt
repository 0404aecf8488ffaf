use Rattle.std.proofs.Common.{◌≡◌, take}
use Rattle.nt_orders.specs.Plans.{gone_all}
use Rattle.nt_orders.specs.Reading.{gone_of, lanes_of}
use Rattle.nt_orders.proofs.lanes.Script.go_all.Given as goal

abbrev pub invariant-loop-lane : goal.invariant-loop-lane
invariant-loop-lane l = gone_of l.gone ≡ gone_all (lanes_of l.self) (take l.lane-index l.order)
