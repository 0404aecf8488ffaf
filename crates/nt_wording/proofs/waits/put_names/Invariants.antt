use Rattle.std.proofs.Common.{◌≡◌, ◌++◌, take}
use Rattle.nt_script.specs.Progress.{progress}
use Rattle.nt_wording.specs.Waits.{names_text}
use Rattle.nt_wording.proofs.waits.put_names.Given as goal

abbrev pub invariant-loop-number : goal.invariant-loop-number
invariant-loop-number l = l.out.items ≡ l.fn.out.items ++ names_text (progress l.session) l.objects (take l.number-index l.numbers)
