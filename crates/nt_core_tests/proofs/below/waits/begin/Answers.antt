use Rattle.std.proofs.Common.{rules}
use Rattle.std.specs.List.{IsDistinct}
use Rattle.nt_core_tests.proofs.below.waits.begin.Goals as goal

pub begin-requires-clause-distinct : goal.begin-requires-clause-distinct
unfolding IsDistinct
begin-requires-clause-distinct g c = rw (c.new.ensures, c.new-2.ensures, c.new-3.ensures) (search rules)
