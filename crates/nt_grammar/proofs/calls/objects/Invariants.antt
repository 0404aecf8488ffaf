use Rattle.std.proofs.Common.{◌≡◌, length}
use Rattle.nt_grammar.specs.Places.{ObjectPlace}
use Rattle.nt_grammar.specs.Reading.{each_at}
use Rattle.nt_grammar.proofs.Parsing.{with_front}
use Rattle.nt_grammar.proofs.calls.objects.Given as goal

abbrev pub invariant-loop-word : goal.invariant-loop-word
invariant-loop-word l = with_front l.handles (each_at l.bindings.scope ObjectPlace l.words) ≡ each_at l.bindings.scope ObjectPlace l.fn.words

abbrev pub decreases-loop-word : goal.decreases-loop-word
decreases-loop-word l = length l.words
