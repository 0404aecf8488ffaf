-- The counts that four or five words tell.
use Rattle.std.proofs.Common.{◌≡◌, ◌<◌, ◌≤◌, ◌∙◌, Bool, cond, List, [], ◌∷◌, length, get_or, map, None, codes, ap, sym, arith}
use Rattle.std.specs.Prelude.{String, string_bytes}
use Rattle.std.specs.Str.{bytes_eq}
use Rattle.nt_commands.specs.CommandLine.{counts_of_three, threads_asked, two_counts}

pub of_four : {Z : Type 0} (words : List (String Z)) (command first second : String Z) (is : Bool) → 4 ≤ length words → length words < 5
    → command ≡ get_or words 1 command → first ≡ get_or words 2 first → second ≡ get_or words 3 second → bytes_eq (string_bytes command) (codes "threads") ≡ is
    → threads_asked (map string_bytes words) ≡ cond is (two_counts (string_bytes first) (string_bytes second)) None
of_four [] command first second is least most p q r names = absurd (omega (arith, least))
of_four (a ∷ []) command first second is least most p q r names = absurd (omega (arith, least))
of_four (a ∷ b ∷ []) command first second is least most p q r names = absurd (omega (arith, least))
of_four (a ∷ b ∷ c ∷ []) command first second is least most p q r names = absurd (omega (arith, least))
of_four (a ∷ b ∷ c ∷ d ∷ []) command first second is least most p q r names =
    ap (λ (t : Bool). cond t (two_counts (string_bytes c) (string_bytes d)) None) (ap (λ w. bytes_eq (string_bytes w) (codes "threads")) (sym p) ∙ names)
    ∙ ap (λ w. cond is (two_counts (string_bytes w) (string_bytes d)) None) (sym q)
    ∙ ap (λ w. cond is (two_counts (string_bytes first) (string_bytes w)) None) (sym r)
of_four (a ∷ b ∷ c ∷ d ∷ e ∷ words) command first second is least most p q r names = absurd (omega (arith, most))

pub of_five : {Z : Type 0} (words : List (String Z)) (command first second third : String Z) (is : Bool) → 5 ≤ length words → length words < 6
    → command ≡ get_or words 1 command → first ≡ get_or words 2 first → second ≡ get_or words 3 second → third ≡ get_or words 4 third → bytes_eq (string_bytes command) (codes "threads") ≡ is
    → threads_asked (map string_bytes words) ≡ cond is (counts_of_three (string_bytes first) (string_bytes second) (string_bytes third)) None
of_five [] command first second third is least most p q r s names = absurd (omega (arith, least))
of_five (a ∷ []) command first second third is least most p q r s names = absurd (omega (arith, least))
of_five (a ∷ b ∷ []) command first second third is least most p q r s names = absurd (omega (arith, least))
of_five (a ∷ b ∷ c ∷ []) command first second third is least most p q r s names = absurd (omega (arith, least))
of_five (a ∷ b ∷ c ∷ d ∷ []) command first second third is least most p q r s names = absurd (omega (arith, least))
of_five (a ∷ b ∷ c ∷ d ∷ e ∷ []) command first second third is least most p q r s names =
    ap (λ (t : Bool). cond t (counts_of_three (string_bytes c) (string_bytes d) (string_bytes e)) None) (ap (λ w. bytes_eq (string_bytes w) (codes "threads")) (sym p) ∙ names)
    ∙ ap (λ w. cond is (counts_of_three (string_bytes w) (string_bytes d) (string_bytes e)) None) (sym q)
    ∙ ap (λ w. cond is (counts_of_three (string_bytes first) (string_bytes w) (string_bytes e)) None) (sym r)
    ∙ ap (λ w. cond is (counts_of_three (string_bytes first) (string_bytes second) (string_bytes w)) None) (sym s)
of_five (a ∷ b ∷ c ∷ d ∷ e ∷ f ∷ words) command first second third is least most p q r s names = absurd (omega (arith, most))
