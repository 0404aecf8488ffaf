use Rattle.nt_script.proofs.Failures.{counts_failures}
use Rattle.nt_script.proofs.runner.run.Goals as goal

pub returns-clause-failures : goal.returns-clause-failures
returns-clause-failures g c = counts_failures _ _ _ _ c.run_lines.result c.requires.read_failures c.requires.write_failures c.run_lines.ensures.counts
