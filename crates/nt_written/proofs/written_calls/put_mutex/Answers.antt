use Rattle.std.proofs.Common.{[], ◌∷◌, codes}
use Rattle.nt_status.specs.Flags.{has_flag}
use Rattle.nt_grammar.specs.Spelling.{caller_word}
use Rattle.nt_written.specs.Written.{name_for}
use Rattle.nt_written.proofs.Puts.{one_flag, says_mutex}
use Rattle.nt_written.proofs.written_calls.put_mutex.Goals as goal

pub returns-clause-put : goal.returns-clause-put
returns-clause-put c = record {
  puts = rw (c.put_flag.ensures.items, c.put_creation.ensures.items) (one_flag c.args.out.now.items (caller_word c.args.who) (codes "mutex" ∷ name_for c.args.created ∷ []) (has_flag c.args.flags 1) (codes "owned"));
  said = λ scope free. says_mutex scope c.args.who (name_for c.args.created) c.args.flags c.put_creation.ensures.range.0 c.put_creation.ensures.range.1 c.requires.words free;
}
