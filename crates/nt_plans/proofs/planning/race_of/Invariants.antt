use Rattle.std.proofs.Common.{◌≡◌, drop, map, take}
use Rattle.nt_plans.specs.Gates.{first_race, race_of}
use Rattle.nt_plans.specs.Kept.{item_of}
use Rattle.nt_plans.proofs.planning.race_of.Given as goal

abbrev pub invariant-loop-place : goal.invariant-loop-place
invariant-loop-place l = race_of (map item_of l.items) ≡ first_race (map item_of (take l.place l.items)) (map item_of (drop l.place l.items))
