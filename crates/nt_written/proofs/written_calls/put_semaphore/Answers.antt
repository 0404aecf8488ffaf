use Rattle.std.proofs.Common.{◌≡◌, ◌^◌, [], ◌∷◌, codes}
use Rattle.std.specs.Fmt.{signed_decimal}
use mir.Syntax.{w32}
use mir.Val.{to_z, of_z}
use Rattle.std.proofs.lemmas.Int.{to_z-of_z}
use Rattle.nt_grammar.specs.Spelling.{caller_word, IsSigned}
use Rattle.nt_written.specs.Written.{name_for}
use Rattle.nt_written.proofs.Puts.{all_put, says_semaphore}
use Rattle.nt_written.proofs.written_calls.put_semaphore.Goals as goal

pub returns-clause-put : goal.returns-clause-put
returns-clause-put c =
    let initial : to_z w32 (of_z w32 c.args.initial) ≡ c.args.initial = to_z-of_z w32 c.args.initial c.ranges.initial in
    let initial-range : IsSigned (2 ^ 31) c.args.initial = rw initial at c.put_count.ensures.range in
    let maximum : to_z w32 (of_z w32 c.args.maximum) ≡ c.args.maximum = to_z-of_z w32 c.args.maximum c.ranges.maximum in
    let maximum-range : IsSigned (2 ^ 31) c.args.maximum = rw maximum at c.put_count-2.ensures.range in
    record {
      puts = rw (c.put_count-2.ensures.items, c.put_count.ensures.items, c.put_creation.ensures.items, initial, maximum) (all_put c.args.out.now.items (caller_word c.args.who) (codes "semaphore" ∷ name_for c.args.created ∷ []) (signed_decimal c.args.initial ∷ signed_decimal c.args.maximum ∷ []));
      said = λ scope free. says_semaphore scope c.args.who (name_for c.args.created) c.args.initial c.args.maximum c.put_creation.ensures.range.0 c.put_creation.ensures.range.1 initial-range maximum-range free;
    }
