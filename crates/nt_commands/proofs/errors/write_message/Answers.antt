use Rattle.std.proofs.Common.{refl, ◌++◌, ◌∷◌, [], codes}
use Rattle.std.specs.Fmt.{decimal}
use Rattle.nt_script.specs.Message.{reason_of}
use Rattle.nt_commands.proofs.Saying.{Writes-then, part_of_front, message_pieces}
use Rattle.nt_commands.proofs.errors.write_message.Goals as goal

pub returns-in-Ok : goal.returns-in-Ok
returns-in-Ok g c =
    let first = c.in-Ok.ensures in
    Writes-then (g.E.Sink.seen c.args.errors.now) (g.E.Sink.seen c.write_place.new.errors) (g.E.Sink.seen c.write_reason.new.errors)
    (codes "ntrun: line " ++ decimal c.line.result) (codes ": " ++ (c.reason.result.now ++ (10 ∷ []))) _ _ first.0 first.1 c.write_reason.ensures (message_pieces c.args.fault c.line.result c.reason.result.now c.line.ensures c.reason.ensures)

pub returns-in-Err : goal.returns-in-Err
returns-in-Err g c =
    let first = c.in-Err.ensures in
    (part_of_front (g.E.Sink.seen c.args.errors.now).held (g.E.Sink.seen c.write_place.new.errors).held (codes "ntrun: line " ++ decimal c.line.result) (codes ": " ++ (reason_of c.args.fault ++ (10 ∷ []))) _ first.0 (message_pieces c.args.fault c.line.result (reason_of c.args.fault) c.line.ensures refl), first.1)
