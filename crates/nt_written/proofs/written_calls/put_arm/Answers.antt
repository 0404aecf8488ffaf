use Rattle.std.proofs.Common.{◌≡◌, ◌^◌, [], ◌∷◌, codes}
use Rattle.std.specs.Fmt.{decimal, signed_decimal}
use mir.Syntax.{w32, w64}
use mir.Val.{to_z, of_z}
use Rattle.std.proofs.lemmas.Int.{to_z-of_z}
use Rattle.nt_grammar.specs.Spelling.{caller_word, IsSigned}
use Rattle.nt_written.proofs.Puts.{all_put, says_arm, says_arm_with}
use Rattle.nt_written.proofs.written_calls.put_arm.Goals as goal

pub returns-in-Some-clause-put : goal.returns-in-Some-clause-put
returns-in-Some-clause-put c =
    let due : to_z w64 (of_z w64 c.args.due) ≡ c.args.due = to_z-of_z w64 c.args.due c.ranges.due in
    let due-range : IsSigned (2 ^ 63) c.args.due = rw due at c.put_due.ensures.range in
    let period : to_z w32 (of_z w32 c.args.period) ≡ c.args.period = to_z-of_z w32 c.args.period c.ranges.period in
    let period-range : IsSigned (2 ^ 31) c.args.period = rw period at c.put_count.ensures.range in
    record {
      puts = rw (c.put_value-in-Some.ensures.items, c.put_value.ensures.items, c.put_count.ensures.items, c.put_due.ensures.items, c.put_on.ensures.items, due, period, c.in-Some.is) (all_put c.args.out.now.items (caller_word c.args.who) (codes "arm" ∷ decimal c.args.timer ∷ []) (signed_decimal c.args.due ∷ signed_decimal c.args.period ∷ decimal c.in-Some.routine ∷ decimal c.in-Some.arg ∷ []));
      said = λ scope free. rw c.in-Some.is (says_arm_with scope c.args.who c.args.timer c.args.due c.args.period c.in-Some.routine c.in-Some.arg c.put_on.ensures.range.0 c.put_on.ensures.range.1 due-range period-range c.put_value.ensures.range c.put_value-in-Some.ensures.range);
    }

pub returns-in-None-clause-put : goal.returns-in-None-clause-put
returns-in-None-clause-put c =
    let due : to_z w64 (of_z w64 c.args.due) ≡ c.args.due = to_z-of_z w64 c.args.due c.ranges.due in
    let due-range : IsSigned (2 ^ 63) c.args.due = rw due at c.put_due.ensures.range in
    let period : to_z w32 (of_z w32 c.args.period) ≡ c.args.period = to_z-of_z w32 c.args.period c.ranges.period in
    let period-range : IsSigned (2 ^ 31) c.args.period = rw period at c.put_count.ensures.range in
    record {
      puts = rw (c.put_count.ensures.items, c.put_due.ensures.items, c.put_on.ensures.items, due, period, c.in-None.is) (all_put c.args.out.now.items (caller_word c.args.who) (codes "arm" ∷ decimal c.args.timer ∷ []) (signed_decimal c.args.due ∷ signed_decimal c.args.period ∷ []));
      said = λ scope free. rw c.in-None.is (says_arm scope c.args.who c.args.timer c.args.due c.args.period c.put_on.ensures.range.0 c.put_on.ensures.range.1 due-range period-range);
    }
