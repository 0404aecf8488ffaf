use Rattle.std.proofs.Common.{Ok, Err, inl, refl}
use Rattle.std.proofs.KnownBytes.{Appends-nil}
use Rattle.nt_commands.proofs.script.script_over.Goals as goal

pub returns-in-Ok : goal.returns-in-Ok
returns-in-Ok g c = record {
  outcome = Ok c.in-Ok.field-0;
  ends = c.in-Ok.ensures.0;
  reads = c.in-Ok.ensures.1;
  said = inl (Appends-nil _, refl);
  is = refl;
}

pub returns-in-Err : goal.returns-in-Err
returns-in-Err g c = record {
  outcome = Err c.in-Err.fault;
  ends = c.in-Err.ensures.0;
  reads = c.in-Err.ensures.1;
  said = c.tell.ensures;
  is = c.status_of.ensures;
}
