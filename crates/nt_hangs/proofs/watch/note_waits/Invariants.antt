use Rattle.std.proofs.Common.{◌≡◌, ℕ, ◌<◌, ◌≤◌, get_or}
use Rattle.nt_script.specs.Progress.{progress_of}
use Rattle.nt_hangs.specs.Watching.{is_waiting, since_then}
use Rattle.nt_hangs.proofs.watch.note_waits.Given as goal

abbrev pub invariant-loop-thread : goal.invariant-loop-thread
invariant-loop-thread l = record {
  noted : (t : ℕ) → t < l.thread → get_or l.since t 0 ≡ since_then l.number (is_waiting (progress_of l.session) t) (get_or l.fn.since t 0);
  left : (t : ℕ) → l.thread ≤ t → get_or l.since t 0 ≡ get_or l.fn.since t 0;
}
