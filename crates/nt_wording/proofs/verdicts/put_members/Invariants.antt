use Rattle.std.proofs.Common.{◌≡◌, ◌++◌}
use Rattle.nt_wording.specs.Verdicts.{members_text}
use Rattle.nt_wording.proofs.verdicts.put_members.Given as goal

abbrev pub invariant-loop-thread : goal.invariant-loop-thread
invariant-loop-thread l = l.out.items ≡ l.fn.out.items ++ members_text l.told l.marks l.thread
