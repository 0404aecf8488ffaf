-- The words of a run's faults.
use Rattle.std.specs.Prelude.{ℕ, List, ◌++◌, codes}
use Rattle.std.specs.Fmt.{decimal}
use Rattle.nt_grammar.specs.Message.{fault_words}
use Rattle.nt_script.specs.declared.fault.RunFault.{RunFault}
use Rattle.nt_script.specs.declared.fault.RunFault.TheVariants.{Script, Read, Write, Memory}

-- the number of the line at which a run ended
abbrev pub line_number : RunFault → ℕ
line_number (Script line fault) = line
line_number (Read line) = line
line_number (Write line) = line
line_number (Memory line) = line

-- why a run ended, in words
abbrev pub reason_of : RunFault → List ℕ
reason_of (Script line fault) = fault_words fault
reason_of (Read line) = codes "read failed"
reason_of (Write line) = codes "write failed"
reason_of (Memory line) = codes "out of memory"

-- `line`, its number, and the reason
abbrev pub fault_text : RunFault → List ℕ
fault_text fault = codes "line " ++ (decimal (line_number fault) ++ (codes ": " ++ reason_of fault))
