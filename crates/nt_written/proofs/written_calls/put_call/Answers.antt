use Rattle.std.proofs.Common.{[], ◌∷◌, codes}
use Rattle.nt_grammar.specs.Spelling.{caller_word}
use Rattle.nt_written.proofs.Puts.{all_put, says_exit}
use Rattle.nt_written.proofs.written_calls.put_call.Goals as goal

pub returns-in-Exit-clause-put : goal.returns-in-Exit-clause-put
returns-in-Exit-clause-put c =
    record {
      puts = rw (c.put_keyword.ensures.items, c.in-Exit.is) (all_put c.args.out.now.items (caller_word c.args.who) (codes "exit" ∷ []) []);
      said = λ scope free. rw c.in-Exit.is (says_exit scope c.args.who c.put_keyword.ensures.range);
    }
