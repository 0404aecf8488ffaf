use Rattle.std.proofs.Common.{take}
use Rattle.nt_machine.specs.Dispatcher.{state}
use Rattle.nt_replay.specs.Replays.{AreReplayed}
use Rattle.nt_replay.proofs.replaying.replay_all.Given as goal

abbrev pub invariant-loop-place : goal.invariant-loop-place
invariant-loop-place l = AreReplayed (state l.fn.core) (take l.place l.entries) l.compared l.core
