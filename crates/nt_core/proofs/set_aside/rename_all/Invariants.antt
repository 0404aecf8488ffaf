use Rattle.std.specs.Prelude.{◌≡◌}
use Rattle.nt_core.specs.SetAside.{named_instead}
use Rattle.nt_core.proofs.Renumbering.{so_far}
use Rattle.nt_core.proofs.set_aside.rename_all.Given as goal

abbrev pub invariant-loop-number : goal.invariant-loop-number
invariant-loop-number l = l.handles.opened ≡ so_far (named_instead l.from l.to) l.number l.initial.handles.opened
