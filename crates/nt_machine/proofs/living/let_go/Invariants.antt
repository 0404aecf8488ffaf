use Rattle.std.specs.Prelude.{drop}
use Rattle.nt_machine.specs.Lawful.{LetsGoBut}
use Rattle.nt_machine.proofs.living.let_go.Given as goal

abbrev pub invariant-loop-object : goal.invariant-loop-object
invariant-loop-object l = LetsGoBut (drop l.object-index l.ended) l.handles.opened l.ended l.initial.leaving l.leaving
