use Rattle.std.proofs.Common.{[], ◌∷◌, codes}
use Rattle.std.specs.Fmt.{decimal}
use Rattle.nt_grammar.specs.Spelling.{caller_word, time_word, mode_word}
use Rattle.nt_written.proofs.Puts.{all_put, says_swap}
use Rattle.nt_written.proofs.written_calls.put_swap.Goals as goal

pub returns-clause-put : goal.returns-clause-put
returns-clause-put c = record {
  puts = rw (c.put_mode.ensures.items, c.put_time.ensures.items, c.put_object.ensures.items, c.put_on.ensures.items) (all_put c.args.out.now.items (caller_word c.args.who) (codes "swap" ∷ decimal c.args.signal ∷ []) (decimal c.args.object ∷ time_word c.args.mode.ms ∷ mode_word c.args.mode.alertable ∷ []));
  said = λ scope free. says_swap scope c.args.who c.args.signal c.args.object c.args.mode c.put_on.ensures.range.0 c.put_on.ensures.range.1 c.put_object.ensures.range c.put_time.ensures.range;
}
