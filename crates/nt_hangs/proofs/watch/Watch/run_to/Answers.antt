use Rattle.std.proofs.Common.{subst, sym}
use Rattle.nt_lines.specs.Lines.{lines_of}
use Rattle.nt_hangs.specs.Absent.{AreAbsent}
use Rattle.nt_hangs.specs.Watching.{lines_up_to, seen_of}
use Rattle.nt_hangs.proofs.Telling.{reported}
use Rattle.nt_hangs.proofs.watch.Watch.run_to.Goals as goal

pub returns-in-Ok : goal.returns-in-Ok
returns-in-Ok c =
    reported c.args.file.now (lines_up_to c.args.last (lines_of c.args.script.now)) (lines_of c.args.script.now) (seen_of c.found.new.self) c.deref.result.now c.found.result
    (subst (AreAbsent (lines_of c.args.script.now)) (sym c.deref.ensures.value) c.in-Ok.ensures) c.found.ensures
