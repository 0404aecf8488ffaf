use Rattle.std.proofs.Common.{refl, ◌++◌, ◌∷◌, [], codes}
use Rattle.nt_commands.proofs.Saying.{Writes-then, part_of_front}
use Rattle.nt_commands.proofs.errors.write_reason.Goals as goal

pub returns-in-Ok : goal.returns-in-Ok
returns-in-Ok g c =
    let first = c.in-Ok.ensures.bytes in
    Writes-then (g.E.Sink.seen c.args.errors.now) (g.E.Sink.seen c.write_whole.new.writer) (g.E.Sink.seen c.write_line.new.errors)
    (codes ": ") (c.args.reason.now ++ (10 ∷ [])) _ _ first.0 first.1 c.write_line.ensures (refl)

pub returns-in-Err : goal.returns-in-Err
returns-in-Err g c =
    let first = c.in-Err.ensures.bytes in
    (part_of_front (g.E.Sink.seen c.args.errors.now).held (g.E.Sink.seen c.write_whole.new.writer).held (codes ": ") (c.args.reason.now ++ (10 ∷ [])) _ first.0 (refl), first.1)
