use Rattle.std.proofs.Common.{◌≡◌, ◌+◌, ◌-◌, ◌*◌, get_or, ◌∙◌, sym, ap, rules, arith, drop, refl}
use Rattle.std.proofs.lemmas.List.{drop_all}
use Rattle.nt_lines.specs.Words.{value_after, fitting}
use Rattle.nt_lines.proofs.Numbers.{overflow, fitted, value_after-next}
use Rattle.nt_lines.proofs.words.value_of.Goals as goal

pub returns-in_err-checked_mul : goal.returns-in_err-checked_mul
returns-in_err-checked_mul c =
    c.from_residual.ensures
    ∙ sym (overflow c.loop-digit.value c.loop-digit.digit-index c.args.digits.now c.loop-digit-test.true c.loop-digit.invariant.so_far (omega (arith, c.in_err-checked_mul.ensures)))

pub returns-in_err-value : goal.returns-in_err-value
returns-in_err-value c =
    c.from_residual-in_err-value.ensures
    ∙ sym (overflow c.loop-digit.value c.loop-digit.digit-index c.args.digits.now c.loop-digit-test.true c.loop-digit.invariant.so_far (omega (arith, c.in_err-value.ensures, c.in_ok-checked_mul.ensures)))

pub returns : goal.returns
returns c =
    let whole : value_after c.loop-digit.value (drop c.loop-digit.digit-index c.args.digits.now) ≡ c.loop-digit.value = rw (drop_all c.loop-digit.digit-index c.args.digits.now c.loop-digit-test.false) refl in
    sym (ap fitting (sym c.loop-digit.invariant.so_far ∙ whole) ∙ fitted c.loop-digit.value c.loop-digit.invariant.fits)

pub loop-digit-preserved : goal.loop-digit-preserved
loop-digit-preserved c = record {
  so_far =
      let value : c.in_ok-value.value ≡ c.loop-digit.value * 10 + (get_or c.args.digits.now c.loop-digit.digit-index 0 - 48) = omega (arith, c.in_ok-value.ensures, c.in_ok-checked_mul.ensures) in
      ap (λ n. value_after n (drop (c.loop-digit.digit-index + 1) c.args.digits.now)) value
      ∙ sym (value_after-next c.loop-digit.value c.loop-digit.digit-index c.args.digits.now c.loop-digit-test.true)
      ∙ c.loop-digit.invariant.so_far;
  fits = search rules;
}
