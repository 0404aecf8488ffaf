use Rattle.std.proofs.Common.{ap, ◌++◌, ◌∷◌, [], List, ℕ}
use Rattle.nt_commands.proofs.Saying.{Writes-then, part_of_front}
use Rattle.nt_commands.proofs.errors.write_line.Goals as goal

pub returns-in-Ok : goal.returns-in-Ok
returns-in-Ok g c =
    let first = c.in-Ok.ensures.bytes in
    Writes-then (g.E.Sink.seen c.args.errors.now) (g.E.Sink.seen c.write_whole.new.writer) (g.E.Sink.seen c.write_whole-in-Ok.new.writer)
    (c.as_bytes.result.now) (10 ∷ []) _ _ first.0 first.1 c.write_whole-in-Ok.ensures.bytes (ap (λ (line : List ℕ). line ++ 10 ∷ []) c.as_bytes.ensures.value)

pub returns-in-Err : goal.returns-in-Err
returns-in-Err g c =
    let first = c.in-Err.ensures.bytes in
    (part_of_front (g.E.Sink.seen c.args.errors.now).held (g.E.Sink.seen c.write_whole.new.writer).held (c.as_bytes.result.now) (10 ∷ []) _ first.0 (ap (λ (line : List ℕ). line ++ 10 ∷ []) c.as_bytes.ensures.value), first.1)
