use Rattle.std.proofs.Common.{◌≡◌, ◌∙◌, ℕ, subst, arith}
use Rattle.nt_lines.specs.Lines.{to_come}
use Rattle.nt_script.specs.Progress.{progress_of}
use Rattle.nt_script.specs.Running.{SoFar}
use Rattle.nt_script.proofs.Running.{SoFar-then, Answers-err, Whole-last, Whole-nothing}
use Rattle.nt_script.proofs.runner.Runner.pass_to.Goals as goal

pub returns-in-Ok-LastLine-clause-passes : goal.returns-in-Ok-LastLine-clause-passes
returns-in-Ok-LastLine-clause-passes g c = Whole-last _ _ _ _ _ _ _ _ _ c.loop-before.invariant.so_far (rw c.in-Ok-LastLine.field-0-is at c.in-Ok-LastLine.ensures.next)

pub returns-in-Ok-Nothing-clause-passes : goal.returns-in-Ok-Nothing-clause-passes
returns-in-Ok-Nothing-clause-passes g c = Whole-nothing _ _ _ _ _ _ _ _ _ c.loop-before.invariant.so_far (rw c.in-Ok-Nothing.field-0-is at c.in-Ok-Nothing.ensures.next)

pub returns-in-Err-clause-passes : goal.returns-in-Err-clause-passes
returns-in-Err-clause-passes g c = Answers-err _ _ _ _ _ _ _ _ _ _ c.loop-before.invariant.so_far c.in-Err.fault c.in-Err.ensures.next c.in-Err.ensures.ahead

pub loop-before-preserved : goal.loop-before-preserved
loop-before-preserved g c =
    let counts = c.in-Ok-Line.ensures.counts in
    record {
      so_far = SoFar-then _ _ _ _ _ _ _ _ _ c.loop-before.invariant.so_far (rw c.in-Ok-Line.field-0-is at c.in-Ok-Line.ensures.next);
      within = omega (arith, c.loop-before-test.true);
      line = c.in-Ok-Line.ensures.line;
      flushes = c.in-Ok-Line.ensures.unflushed ∙ c.loop-before.invariant.flushes;
      read = counts.0 ∙ c.loop-before.invariant.read;
      written = counts.1 ∙ c.loop-before.invariant.written;
    }

pub returns-clause-passes : goal.returns-clause-passes
returns-clause-passes g c =
    let last : c.loop-before.before ≡ c.args.number = omega (arith, c.loop-before.invariant.within, c.loop-before-test.false) in
    subst (λ (n : ℕ). SoFar n (progress_of c.loop-before.self.session) (g.R.Source.seen c.args.reader.now).left (to_come c.loop-before.self.input (g.R.Source.seen c.loop-before.reader).left) (g.W.Sink.seen c.args.writer.now).held (g.W.Sink.seen c.loop-before.writer).held) last
    c.loop-before.invariant.so_far
