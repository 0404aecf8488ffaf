use Rattle.std.proofs.Common.{◌≡◌, ◌≤◌, vec_capacity}
use Rattle.nt_lines.specs.Lines.{to_come}
use Rattle.nt_script.specs.Progress.{progress_of}
use Rattle.nt_script.specs.Running.{SoFar}
use Rattle.nt_script.proofs.runner.Runner.pass_to.Given as goal

abbrev pub invariant-loop-before : goal.invariant-loop-before
invariant-loop-before g l = record {
  so_far : SoFar l.before (progress_of l.self.session) (g.R.Source.seen l.fn.reader).left (to_come l.self.input (g.R.Source.seen l.reader).left) (g.W.Sink.seen l.fn.writer).held (g.W.Sink.seen l.writer).held;
  within : l.before ≤ l.number;
  line : 4097 ≤ vec_capacity l.self.line;
  read : (g.R.Source.seen l.reader).failed ≡ (g.R.Source.seen l.fn.reader).failed;
  flushes : (g.W.Sink.seen l.writer).flushes ≡ (g.W.Sink.seen l.fn.writer).flushes;
  written : (g.W.Sink.seen l.writer).failed ≡ (g.W.Sink.seen l.fn.writer).failed;
}
