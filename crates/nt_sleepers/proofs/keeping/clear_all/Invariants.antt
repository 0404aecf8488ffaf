use Rattle.std.proofs.Common.{◌≡◌, None, take}
use Rattle.nt_sleepers.specs.Sleepers.{without_woken}
use Rattle.nt_sleepers.proofs.keeping.clear_all.Given as goal

abbrev pub invariant-loop-grant : goal.invariant-loop-grant
invariant-loop-grant l = l.alarms ≡ without_woken None (take l.grant-index l.grants) l.fn.alarms
