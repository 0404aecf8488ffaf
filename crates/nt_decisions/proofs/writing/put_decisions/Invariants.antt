use Rattle.std.proofs.Common.{◌≡◌, ◌++◌, take}
use Rattle.nt_decisions.specs.Decisions.{lines_text}
use Rattle.nt_decisions.proofs.writing.put_decisions.Given as goal

abbrev pub invariant-loop-decision : goal.invariant-loop-decision
invariant-loop-decision l = l.out.items ≡ l.initial.out.items ++ lines_text (take l.decision-index l.decisions)
