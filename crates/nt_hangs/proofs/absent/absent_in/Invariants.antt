-- Who has a mark and no line among those that are left has no line at all.
use Rattle.std.proofs.Common.{◌≡◌, ◌<◌, ◌&&◌, ℕ, length, not}
use Rattle.std.specs.List.{list_any}
use Rattle.nt_status.specs.declared.limits.TheConstants.{MAX_THREADS}
use Rattle.nt_lines.specs.Lines.{lines_of}
use Rattle.nt_look.specs.Hangs.{marked}
use Rattle.nt_hangs.specs.Absent.{is_absent, is_call_of}
use Rattle.nt_hangs.proofs.absent.absent_in.Given as goal

abbrev pub invariant-loop-rest : goal.invariant-loop-rest
invariant-loop-rest l = record {
  places : length l.marks.items ≡ MAX_THREADS;
  marks : (t : ℕ) → t < MAX_THREADS → (marked l.marks.items t && is_absent (lines_of l.rest) t) ≡ is_absent (lines_of l.script) t;
}

abbrev pub decreases-loop-rest : goal.decreases-loop-rest
decreases-loop-rest l = length l.rest
