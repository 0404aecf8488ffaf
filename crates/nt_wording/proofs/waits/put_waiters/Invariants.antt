use Rattle.std.proofs.Common.{◌≡◌, ◌++◌}
use Rattle.nt_script.specs.Progress.{progress}
use Rattle.nt_wording.specs.Waits.{waiters_text}
use Rattle.nt_wording.proofs.waits.put_waiters.Given as goal

abbrev pub invariant-loop-thread : goal.invariant-loop-thread
invariant-loop-thread l = l.out.items ≡ l.fn.out.items ++ waiters_text (progress l.session) l.objects l.told l.since l.thread
