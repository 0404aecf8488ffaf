use Rattle.std.proofs.Common.{inl, inr, refl}
use Rattle.std.proofs.KnownBytes.{Keeps-refl}
use Rattle.nt_commands.proofs.script.run_file.Goals as goal

pub returns-in-Ok : goal.returns-in-Ok
returns-in-Ok g c = record { either = inr (_, _, c.script_over.ensures) }

pub returns-in-Err : goal.returns-in-Err
returns-in-Err g c = record { either = inl (c.say.ensures.said, c.say.ensures.status, Keeps-refl _, refl) }
