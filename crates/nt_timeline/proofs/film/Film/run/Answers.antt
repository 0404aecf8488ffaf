use Rattle.std.proofs.Common.{ap, ◌∙◌}
use Rattle.nt_lines.specs.Lines.{lines_of}
use Rattle.nt_hangs.specs.Watching.{seen_of}
use Rattle.nt_hangs.proofs.Seeing.{watched}
use Rattle.nt_timeline.specs.declared.film.Film.{Film}
use Rattle.nt_timeline.proofs.film.Film.run.Goals as goal

pub returns : goal.returns
returns c =
    let lines = lines_of c.args.input.now in
    let taken = c.take_lines-taken in
    let fresh = ap seen_of c.prepare.ensures.watch ∙ c.requires in
    c.opened.ensures lines (watched (λ (film : Film). seen_of film.watch) lines c.prepare.new.self taken.new.taker taken.result fresh taken.ensures.takes)
