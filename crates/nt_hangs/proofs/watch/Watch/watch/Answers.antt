use Rattle.nt_lines.specs.Lines.{lines_of}
use Rattle.nt_hangs.specs.Watching.{lines_up_to, seen_of}
use Rattle.nt_hangs.proofs.Seeing.{watched}
use Rattle.nt_hangs.proofs.watch.Watch.watch.Goals as goal

pub returns : goal.returns
returns c =
    let lines = lines_up_to c.args.last (lines_of c.args.input.now) in
    let taken = c.take_lines-taken in
    c.opened.ensures lines (watched seen_of lines c.args.self.now taken.new.taker taken.result c.requires.fresh taken.ensures.takes)
