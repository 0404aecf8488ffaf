use Rattle.std.proofs.Common.{◌≡◌, ◌++◌, drop, true}
use Rattle.nt_plans.specs.Gates.{closed_in}
use Rattle.nt_plans.proofs.claims.closed_in.Given as goal

abbrev pub invariant-loop-act : goal.invariant-loop-act
invariant-loop-act l = closed_in l.closed l.acts true ≡ l.found.items ++ closed_in l.closed (drop l.act-index l.acts) l.goes
