use Rattle.std.proofs.Common.{ap, refl, ◌++◌, ◌∙◌, List, ℕ, codes}
use Rattle.std.specs.Fmt.{decimal}
use Rattle.nt_commands.proofs.Saying.{Writes-then, part_of_front}
use Rattle.nt_commands.proofs.errors.write_place.Goals as goal

pub returns-in-Ok : goal.returns-in-Ok
returns-in-Ok g c =
    let first = c.in-Ok.ensures.bytes in
    Writes-then (g.E.Sink.seen c.args.errors.now) (g.E.Sink.seen c.write_whole.new.writer) (g.E.Sink.seen c.write_whole-in-Ok.new.writer)
    (codes "ntrun: line ") (c.as_bytes.result.now) _ _ first.0 first.1 c.write_whole-in-Ok.ensures.bytes (ap (λ (digits : List ℕ). codes "ntrun: line " ++ digits) (c.as_bytes.ensures.value ∙ c.format.ensures.text))

pub returns-in-Err : goal.returns-in-Err
returns-in-Err g c =
    let first = c.in-Err.ensures.bytes in
    (part_of_front (g.E.Sink.seen c.args.errors.now).held (g.E.Sink.seen c.write_whole.new.writer).held (codes "ntrun: line ") (decimal c.args.line) _ first.0 (refl), first.1)
