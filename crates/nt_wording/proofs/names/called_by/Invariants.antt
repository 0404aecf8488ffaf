-- What is left, told after what was found, tells what all lines do.
use Rattle.std.proofs.Common.{◌≡◌, None, length}
use Rattle.std.specs.Option.{option_copied}
use Rattle.nt_lines.specs.Lines.{lines_of}
use Rattle.nt_wording.specs.Names.{called_by}
use Rattle.nt_wording.proofs.names.called_by.Given as goal

abbrev pub invariant-loop-rest : goal.invariant-loop-rest
invariant-loop-rest l = called_by l.word (option_copied l.found) (lines_of l.rest) ≡ called_by l.word None (lines_of l.told)

abbrev pub decreases-loop-rest : goal.decreases-loop-rest
decreases-loop-rest l = length l.rest
