use Rattle.std.proofs.Common.{[], ◌∷◌, codes}
use Rattle.nt_grammar.specs.Spelling.{caller_word, time_word, mode_word}
use Rattle.nt_written.proofs.Puts.{all_put, says_sleep}
use Rattle.nt_written.proofs.written_calls.put_sleep.Goals as goal

pub returns-clause-put : goal.returns-clause-put
returns-clause-put c = record {
  puts = rw (c.put_mode.ensures.items, c.put_time.ensures.items, c.put_keyword.ensures.items) (all_put c.args.out.now.items (caller_word c.args.who) (codes "sleep" ∷ []) (time_word c.args.mode.ms ∷ mode_word c.args.mode.alertable ∷ []));
  said = λ scope free. says_sleep scope c.args.who c.args.mode c.put_keyword.ensures.range c.put_time.ensures.range;
}
