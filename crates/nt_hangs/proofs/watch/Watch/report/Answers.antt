use Rattle.std.proofs.Common.{ℕ, subst}
use Rattle.nt_hangs.specs.Reports.{ReportsOf}
use Rattle.nt_hangs.specs.Watching.{seen_of}
use Rattle.nt_hangs.proofs.watch.Watch.report.Goals as goal

pub returns-in-Ok : goal.returns-in-Ok
returns-in-Ok c =
    let seen = seen_of c.watch.new.self in
    (c.in_ok-count.ensures.0, subst (λ (n : ℕ). ReportsOf c.args.file.now n seen c.args.absent.now c.in-Ok.report) c.in_ok-count.ensures.1 c.in-Ok.ensures)
