use Rattle.std.proofs.Common.{ap}
use Rattle.nt_script.specs.Progress.{progress, progress_of}
use Rattle.nt_hangs.specs.Watching.{seen_of}
use Rattle.nt_hangs.proofs.Telling.{reports_of}
use Rattle.nt_hangs.proofs.watch.Watch.tell.Goals as goal

pub returns-in-Some : goal.returns-in-Some
returns-in-Some c =
    reports_of c.args.file.now c.args.count (progress c.in-Some.session) c.deref.result.now c.deref-in-Some.result.now c.deref-in-Some-2.result.now c.args.absent.now (seen_of c.args.self.now) c.report_of.result (ap progress_of c.in-Some.is)
    c.deref.ensures.value c.deref-in-Some.ensures.value c.deref-in-Some-2.ensures.value c.report_of.ensures
