use Rattle.std.proofs.Common.{rules, ◌≡◌, true, nat_lt}
use Rattle.nt_hangs.proofs.Telling.{past_asked}
use Rattle.nt_hangs.proofs.why.show_asked.Goals as goal

pub returns-in-Some : goal.returns-in-Some
returns-in-Some g c =
    let after : nat_lt c.args.count c.in-Some.last ≡ true = search rules in
    past_asked c.in-Some.last c.args.last c.args.count c.args.found.now c.args.strict (g.W.Sink.seen c.args.writer.now) (g.E.Sink.seen c.args.errors.now) (g.E.Sink.seen c.say_past.new.errors) c.say_past.result
    c.in-Some.is after c.say_past.ensures
