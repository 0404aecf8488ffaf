use Rattle.std.proofs.Common.{◌≡◌, ◌^◌, [], ◌∷◌, codes}
use Rattle.std.specs.Fmt.{decimal, signed_decimal}
use mir.Syntax.{w32}
use mir.Val.{to_z, of_z}
use Rattle.std.proofs.lemmas.Int.{to_z-of_z}
use Rattle.nt_grammar.specs.Spelling.{caller_word, IsSigned}
use Rattle.nt_written.proofs.Puts.{all_put, says_release}
use Rattle.nt_written.proofs.written_calls.put_release.Goals as goal

pub returns-clause-put : goal.returns-clause-put
returns-clause-put c =
    let count : to_z w32 (of_z w32 c.args.count) ≡ c.args.count = to_z-of_z w32 c.args.count c.ranges.count in
    let count-range : IsSigned (2 ^ 31) c.args.count = rw count at c.put_count.ensures.range in
    record {
      puts = rw (c.put_count.ensures.items, c.put_on.ensures.items, count) (all_put c.args.out.now.items (caller_word c.args.who) (codes "release" ∷ decimal c.args.semaphore ∷ []) (signed_decimal c.args.count ∷ []));
      said = λ scope free. says_release scope c.args.who c.args.semaphore c.args.count c.put_on.ensures.range.0 c.put_on.ensures.range.1 count-range;
    }
