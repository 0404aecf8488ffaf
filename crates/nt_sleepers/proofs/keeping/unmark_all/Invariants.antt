use Rattle.std.proofs.Common.{◌≡◌, false, take}
use Rattle.nt_sleepers.specs.Sleepers.{without_woken}
use Rattle.nt_sleepers.proofs.keeping.unmark_all.Given as goal

abbrev pub invariant-loop-grant : goal.invariant-loop-grant
invariant-loop-grant l = l.watchers ≡ without_woken false (take l.grant-index l.grants) l.fn.watchers
