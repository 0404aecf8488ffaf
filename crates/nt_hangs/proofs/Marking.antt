-- Marks of threads, which are taken line by line.
use Rattle.std.proofs.Common.{◌≡◌, ℕ, Bool, true, false, not, ◌&&◌, ◌||◌, List, [], ◌∷◌, ◌++◌, length, take, drop, refl, sym, ap, ◌∙◌, arith, append-nil}
use Rattle.std.specs.List.{list_any}
use Rattle.std.proofs.lemmas.List.{take_all}
use Rattle.std.proofs.Math.ListN.{drop_of_length-le}
use Rattle.nt_lines.specs.Lines.{lines_of}
use Rattle.nt_look.specs.Hangs.{marked}
use Rattle.nt_hangs.specs.Absent.{is_absent, is_call_of}

and_true : (b : Bool) → (b && true) ≡ b
and_true true = refl
and_true false = refl

no_line : (mark called others : Bool) → ((mark && not called) && not others) ≡ (mark && not (called || others))
no_line true true others = refl
no_line true false others = refl
no_line false called others = refl

-- one line more was looked at
pub line_marked : (line : List ℕ) (lines : List (List ℕ)) (old new : List Bool) (t : ℕ) → marked new t ≡ (marked old t && not (is_call_of t line))
    → (marked new t && is_absent lines t) ≡ (marked old t && is_absent (line ∷ lines) t)
line_marked line lines old new t taken = ap (λ b. b && is_absent lines t) taken ∙ no_line (marked old t) (is_call_of t line) (list_any (is_call_of t) lines)

-- no line is left
pub none_left : (rest : List ℕ) (marks : List Bool) (t : ℕ) (b : Bool) → length rest ≡ 0 → (marked marks t && is_absent (lines_of rest) t) ≡ b → marked marks t ≡ b
none_left [] marks t b none e = sym (and_true (marked marks t)) ∙ e
none_left (byte ∷ bytes) marks t b none e = absurd (omega (arith, none))

-- a vector whose whole slice was written again
pub refilled : (n : ℕ) (old new : List Bool) → n ≡ length old → length new ≡ length old → take n (new ++ drop (length new) old) ≡ new
refilled n old new whole same =
    let none : drop (length new) old ≡ [] = drop_of_length-le old (omega (arith, same)) in
    let all : (new ++ drop (length new) old) ≡ new = ap (λ (l : List Bool). new ++ l) none ∙ append-nil new in
    ap (take n) all ∙ take_all n new (omega (arith, whole, same))
