-- What a run of a script's lines comes to.
use Rattle.std.proofs.Common.{ℕ, List, Err}
use Rattle.nt_script.specs.declared.fault.RunFault.{RunFault}
use Rattle.nt_script.specs.declared.fault.RunFault.TheVariants.{Script, Read, Write, Memory}
use Rattle.nt_hangs.specs.Steps.{WatchesLines}
use Rattle.nt_hangs.specs.Watching.{Seen}
use Rattle.nt_timeline.specs.Ending.{IsOutcome}

-- a line has a fault, or memory was refused
pub is_fault : (lines : List (List ℕ)) (fault : RunFault) (left : Seen) → WatchesLines lines (Err fault) left → IsOutcome lines (Err fault)
is_fault lines (Script number fault) left h = h
is_fault lines (Read number) left h = h
is_fault lines (Write number) left h = h
is_fault lines (Memory number) left h = h
