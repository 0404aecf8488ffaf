use Rattle.std.proofs.Common.{[], ◌∷◌, codes}
use Rattle.std.specs.Fmt.{decimal}
use Rattle.nt_grammar.specs.Spelling.{caller_word}
use Rattle.nt_written.specs.Written.{name_for}
use Rattle.nt_written.proofs.Puts.{all_put, says_duplicate}
use Rattle.nt_written.proofs.written_calls.put_duplicate.Goals as goal

pub returns-clause-put : goal.returns-clause-put
returns-clause-put c =
    record {
      puts = rw (c.put_value.ensures.items, c.put_object.ensures.items, c.put_creation.ensures.items, c.from.ensures) (all_put c.args.out.now.items (caller_word c.args.who) (codes "dup" ∷ name_for c.args.created ∷ []) (decimal c.args.handle ∷ decimal c.args.access ∷ []));
      said = λ scope free. says_duplicate scope c.args.who (name_for c.args.created) c.args.handle c.args.access c.put_creation.ensures.range.0 c.put_creation.ensures.range.1 c.put_object.ensures.range c.ranges.access.fits free;
    }
