use Rattle.std.proofs.Common.{rules, ◌≡◌, false, inr, refl, sym, subst}
use Rattle.std.proofs.KnownBytes.{Keeps-refl}
use Rattle.nt_threads.specs.Reports.{IsThreadsReport}
use Rattle.nt_commands.specs.CommandLine.{are_lawful_counts}
use Rattle.nt_commands.proofs.Saying.{told}
use Rattle.nt_commands.proofs.threads.threads_over.Goals as goal

pub returns-then-not-are_lawful : goal.returns-then-not-are_lawful
returns-then-not-are_lawful g c =
    let unlawful : are_lawful_counts c.args.workers c.args.rounds ≡ false = search rules in
    record { either = inr (inr (Keeps-refl _, refl, inr (unlawful, c.say.ensures.said, c.say.ensures.status))) }

pub returns-in-Ok : goal.returns-in-Ok
returns-in-Ok g c =
    let report = subst (IsThreadsReport c.args.workers c.args.rounds) (sym c.as_slice.ensures.value) c.in-Ok.ensures in
    record { either = told _ _ c.as_slice.result.now (g.W.Sink.seen c.args.writer.now) (g.W.Sink.seen c.tell_lines.new.writer) (g.E.Sink.seen c.args.errors.now) (g.E.Sink.seen c.tell_lines.new.errors) _ report c.tell_lines.ensures }
