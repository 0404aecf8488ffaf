use Rattle.std.proofs.Common.{◌≡◌, take}
use Rattle.std.specs.List.{list_all}
use Rattle.nt_lines.specs.Words.{is_plain}
use Rattle.nt_lines.proofs.words.are_plain.Given as goal

abbrev pub invariant-loop-byte : goal.invariant-loop-byte
invariant-loop-byte l = l.plain ≡ list_all is_plain (take l.byte-index l.text)
