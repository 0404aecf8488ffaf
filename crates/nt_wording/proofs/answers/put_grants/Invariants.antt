use Rattle.std.proofs.Common.{◌≡◌, ◌++◌, take}
use Rattle.std.specs.List.{flat_map}
use Rattle.nt_wording.specs.Answers.{wait_end_text}
use Rattle.nt_wording.proofs.answers.put_grants.Given as goal

abbrev pub invariant-loop-grant : goal.invariant-loop-grant
invariant-loop-grant l = l.out.items ≡ l.fn.out.items ++ flat_map wait_end_text (take l.grant-index l.grants)
