use Rattle.std.proofs.Common.{inl, inr}
use Rattle.nt_commands.proofs.commands.print_threads.Goals as goal

pub returns-in-Ok : goal.returns-in-Ok
returns-in-Ok g c = inr (_, _, c.threads_over.ensures)

pub returns-in-Err : goal.returns-in-Err
returns-in-Err g c = inl (c.say.ensures.said, c.say.ensures.status)
