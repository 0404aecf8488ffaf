use Rattle.std.proofs.Common.{map}
use Rattle.nt_machine.specs.Dispatcher.{state}
use Rattle.nt_plans.specs.Gates.{MakesUnnamed}
use Rattle.nt_plans.specs.Kept.{item_of}
use Rattle.nt_plans.proofs.planning.make_unnamed.Given as goal

abbrev pub invariant-loop : goal.invariant-loop
invariant-loop l = MakesUnnamed (map item_of l.items) (state l.fn.core) l.unnamed.items (state l.core)
