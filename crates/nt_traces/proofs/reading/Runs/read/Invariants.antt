-- What is found of the lines that are left, from here, is found of all.
use Rattle.std.proofs.Common.{◌+◌, ◌≤◌, Result, length}
use Rattle.nt_lines.specs.Lines.{lines_of}
use Rattle.nt_traces.specs.declared.reading.TraceFault.{TraceFault}
use Rattle.nt_traces.specs.declared.reading.TraceVerdict.{TraceVerdict}
use Rattle.nt_traces.specs.Traces.{at_of, Tells}
use Rattle.nt_traces.proofs.reading.Runs.read.Given as goal

abbrev pub invariant-loop-rest : goal.invariant-loop-rest
invariant-loop-rest l = record {
  few : l.lines + length l.rest ≤ length l.text;
  told : (found : Result TraceVerdict TraceFault) → Tells (at_of l.self) l.lines (lines_of l.rest) found
      → Tells (at_of l.fn.self) 0 (lines_of l.text) found;
}

abbrev pub decreases-loop-rest : goal.decreases-loop-rest
decreases-loop-rest l = length l.rest
