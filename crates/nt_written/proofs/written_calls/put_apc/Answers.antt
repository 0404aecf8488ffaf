use Rattle.std.proofs.Common.{[], ◌∷◌, codes}
use Rattle.std.specs.Fmt.{decimal}
use Rattle.nt_grammar.specs.Spelling.{caller_word}
use Rattle.nt_written.proofs.Puts.{all_put, says_apc}
use Rattle.nt_written.proofs.written_calls.put_apc.Goals as goal

pub returns-clause-put : goal.returns-clause-put
returns-clause-put c = record {
  puts = rw (c.put_value-2.ensures.items, c.put_value.ensures.items, c.put_on.ensures.items) (all_put c.args.out.now.items (caller_word c.args.who) (codes "apc" ∷ decimal c.args.thread ∷ []) (decimal c.args.routine ∷ decimal c.args.arg ∷ []));
  said = λ scope free. says_apc scope c.args.who c.args.thread c.args.routine c.args.arg c.put_on.ensures.range.0 c.put_on.ensures.range.1 c.put_value.ensures.range c.put_value-2.ensures.range;
}
