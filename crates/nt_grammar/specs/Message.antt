-- The words of a line's faults.
use Rattle.std.specs.Prelude.{ℕ, List, codes}
use Rattle.nt_grammar.specs.declared.fault.ScriptFault.{ScriptFault}
use Rattle.nt_grammar.specs.declared.fault.ScriptFault.TheVariants.{LineTooLong, BadByte, ThreadsExpected, UnknownWord, MissingWord, BadNumber, BadName, NameTaken, UnknownName, ExtraWord}

-- the words of a script's fault
abbrev pub fault_words : ScriptFault → List ℕ
fault_words LineTooLong = codes "line too long"
fault_words BadByte = codes "bad byte"
fault_words ThreadsExpected = codes "threads expected"
fault_words UnknownWord = codes "unknown word"
fault_words MissingWord = codes "missing word"
fault_words BadNumber = codes "bad number"
fault_words BadName = codes "bad name"
fault_words NameTaken = codes "name taken"
fault_words UnknownName = codes "unknown name"
fault_words ExtraWord = codes "extra word"
