use Rattle.std.proofs.Common.{◌≡◌, take}
use Rattle.nt_machine.proofs.Leaving.{StoppedSoFar}
use Rattle.nt_machine.proofs.exit.stop_each.Given as goal

abbrev pub invariant-loop-timer : goal.invariant-loop-timer
invariant-loop-timer l = record {
  so_far : StoppedSoFar l.thread (take l.timer-index l.timers) l.initial.objects.items l.objects.items l.initial.alarms l.alarms l.initial.changed l.changed;
  owned : l.objects.owned ≡ l.initial.objects.owned;
}
