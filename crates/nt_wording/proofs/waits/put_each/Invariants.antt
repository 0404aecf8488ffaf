use Rattle.std.proofs.Common.{◌≡◌, ◌++◌, take}
use Rattle.std.specs.List.{flat_map}
use Rattle.nt_script.specs.Progress.{progress}
use Rattle.nt_wording.specs.Waits.{object_text}
use Rattle.nt_wording.proofs.waits.put_each.Given as goal

abbrev pub invariant-loop-number : goal.invariant-loop-number
invariant-loop-number l = l.out.items ≡ l.fn.out.items ++ flat_map (λ o. l.gap ++ object_text (progress l.session) l.objects l.told o) (take l.number-index l.numbers)
