use Rattle.std.proofs.Common.{rules}
use Rattle.std.proofs.lemmas.Result.{IfOk-weaker}
use Rattle.nt_front.proofs.Since.{part_runs, part_ungiven, part_accounts}
use Rattle.nt_front.proofs.front.Front.rotate.Goals as goal

pub returns-clause-memory : goal.returns-clause-memory
returns-clause-memory g c = search rules

pub returns-clause-book : goal.returns-clause-book
returns-clause-book g c = search rules

pub returns-clause-run : goal.returns-clause-run
returns-clause-run g c = search (rules, part_runs)

pub returns-clause-ungiven : goal.returns-clause-ungiven
returns-clause-ungiven g c = IfOk-weaker c.rotate.result _ _ (λ part was. part_ungiven g.N.Named.front _ part was) c.rotate.ensures.told

pub returns-clause-account : goal.returns-clause-account
returns-clause-account g c = search (rules, part_accounts)
