-- The faults that clap finds in one word of this command line.
use Rattle.std.proofs.Common.{◌≡◌, ◌∙◌, ℕ, Bool, cond, false, refl, sym, ap, ap₂, subst, true≢false, List, [], ◌∷◌, Option, Some, None}
use Rattle.std.specs.Prelude.{slice_get}
use Rattle.std.specs.Option.{option_map_or}
use Rattle.std.specs.Str.{IsUtf8, chars}
use Rattle.clap.specs.Lexer.{long_of, short_of}
use Rattle.clap.specs.Kinds.{Kinds, or_else}
use Rattle.clap.specs.Walk.{Held, Names, Rule, Step, Text, Walk, arg_by_index, arg_by_long, arg_by_short, idle, long_or_other, short_or_plain, subcommand_met, subcommand_or_other, trailing, value, word_met}
use Rattle.clap.specs.Simple.{Shape}
use Rattle.clap.specs.Faults.{bundle_fault, flag_word_fault, flags_fault, other_fault, positional_fault, step_fault, stray_fault, turn_fault, word_fault}
use Rattle.nt_lines.specs.Options.{ends_options, is_operand}
use Rattle.nt_commands.proofs.Looks.{Look, plain, ends, long, short, has_first}

-- some error comes
abbrev pub Fails : Kinds → Type 0
Fails [] = ⊥
Fails (k ∷ ks) = Unit {0}

pub fails_first : (a b : Kinds) → Fails a → Fails (or_else a b)
fails_first [] b h = elim h [ ]
fails_first (k ∷ ks) b h = tt

pub fails_then : (a b : Kinds) → Fails b → Fails (or_else a b)
fails_then [] b h = h
fails_then (k ∷ ks) b h = tt

-- ---- words that are options, where there are none

module _ (c : List Rule) (again : Bool) (no_long : (name : Text) → arg_by_long c name ≡ None) (no_short : (x : ℕ) → arg_by_short c x ≡ None) where
  bundle_fails : (flags : Text) (x : ℕ) (b : ℕ) (bs : Text) (h : Held) → flags ≡ b ∷ bs → slice_get (chars (b ∷ bs)) 0 ≡ Some x → h.skip ≡ 0 → Fails (bundle_fault c again flags h)
  unfolding flags_fault
  bundle_fails flags x b bs h is first skips = rw (is, skips, first, no_short x) tt

  long_fails : (w : Text) (p : Text × Option Text) (h : Held) → long_of w ≡ Some p → Fails (flag_word_fault c again (long_of w) w h)
  long_fails w p h is = rw (is, no_long p.0) tt

  short_fails : (w : Text) (b : ℕ) (bs : Text) (x : ℕ) (h : Held) → long_of w ≡ None → short_of w ≡ Some (b ∷ bs) → slice_get (chars (b ∷ bs)) 0 ≡ Some x → h.skip ≡ 0
      → Fails (flag_word_fault c again (long_of w) w h)
  short_fails w b bs x h bars is first skips = rw (bars, is) (bundle_fails (b ∷ bs) x b bs h refl first skips)

-- ---- a word where no subcommand is met

module _ (s : Shape) (names : Names) (position : ℕ) (h : Held) (no_long : (name : Text) → arg_by_long s.rules name ≡ None) (no_short : (x : ℕ) → arg_by_short s.rules x ≡ None) (no_skip : h.skip ≡ 0) where
  abbrev here : Walk
  here = record { held = h; waiting = idle; position = position; is_trailing = false; stopped = None }

  flag_fails : (w : Text) → IsUtf8 w → Look w → is_operand w ≡ false → ends_options w ≡ false → Fails (flag_word_fault s.rules s.args_override_self (long_of w) w h)
  flag_fails w utf8 (plain none none' holds others') bars others = absurd (true≢false (sym holds ∙ bars))
  flag_fails w utf8 (ends is) bars others = absurd (true≢false (sym (ap ends_options is) ∙ others))
  flag_fails w utf8 (long p is no' others') bars others = long_fails s.rules s.args_override_self no_long no_short w p h is
  flag_fails w utf8 (short b bs is none some no' others') bars others =
      let first = has_first b bs (subst IsUtf8 is utf8) in
      short_fails s.rules s.args_override_self no_long no_short w b bs first.0 h none some first.1 no_skip

  -- an option fails
  pub option_fails : (w : Text) → IsUtf8 w → subcommand_met names idle w ≡ None → Look w → is_operand w ≡ false → ends_options w ≡ false → Fails (turn_fault s names here w)
  option_fails w utf8 no_sub looks bars others =
      let flag = flag_fails w utf8 looks bars others in
      let word : Fails (word_fault s names false idle w h) =
      subst (λ o. Fails (other_fault s o w h)) (sym no_sub) (subst (λ t. Fails (cond t [] (flag_word_fault s.rules s.args_override_self (long_of w) w h))) (sym others) flag) in
      fails_first _ _ word

  -- a plain word is a value
  pub plain_met : (w : Text) → subcommand_met names idle w ≡ None → long_of w ≡ None → short_of w ≡ None → ends_options w ≡ false → word_met s.rules names false idle position w h ≡ (h, value)
  plain_met w no_sub none none' others =
      ap (λ o. subcommand_or_other s.rules o idle position w h) no_sub
      ∙ ap (λ t. cond t (h, trailing position) (long_or_other s.rules idle w (long_of w) h)) others
      ∙ ap (λ o. long_or_other s.rules idle w o h) none ∙ ap (λ o. short_or_plain s.rules idle w o h) none'

  plain_word_fault : (w : Text) → subcommand_met names idle w ≡ None → long_of w ≡ None → short_of w ≡ None → ends_options w ≡ false → word_fault s names false idle w h ≡ []
  plain_word_fault w no_sub none none' others =
      ap (λ o. other_fault s o w h) no_sub ∙ ap (λ t. cond t [] (flag_word_fault s.rules s.args_override_self (long_of w) w h)) others
      ∙ ap (λ o. flag_word_fault s.rules s.args_override_self o w h) none ∙ ap (λ o. option_map_or (λ flags. bundle_fault s.rules s.args_override_self flags h) o []) none'

  pub plain_turn : (w : Text) → subcommand_met names idle w ≡ None → long_of w ≡ None → short_of w ≡ None → ends_options w ≡ false → turn_fault s names here w ≡ step_fault s position h value
  plain_turn w no_sub none none' others =
      ap₂ (λ (k : Kinds) (m : Held × Step). or_else k (step_fault s position m.0 m.1)) (plain_word_fault w no_sub none none' others) (plain_met w no_sub none none' others)

  -- a plain word where no positional is left fails
  pub stray_fails : (w : Text) → subcommand_met names idle w ≡ None → long_of w ≡ None → short_of w ≡ None → ends_options w ≡ false → arg_by_index s.rules position ≡ None → Fails (stray_fault s)
      → Fails (turn_fault s names here w)
  stray_fails w no_sub none none' others past stray =
      subst Fails (sym (plain_turn w no_sub none none' others ∙ ap (λ o. option_map_or (λ a. positional_fault s.rules s.args_override_self a h) o (stray_fault s)) past)) stray

  -- any other word but `--` fails where no positional is left
  pub other_fails : (w : Text) → IsUtf8 w → subcommand_met names idle w ≡ None → Look w → ends_options w ≡ false → arg_by_index s.rules position ≡ None → Fails (stray_fault s) → Fails (turn_fault s names here w)
  other_fails w utf8 no_sub (plain none none' holds not) others past stray = stray_fails w no_sub none none' others past stray
  other_fails w utf8 no_sub (ends is) others past stray = absurd (true≢false (sym (ap ends_options is) ∙ others))
  other_fails w utf8 no_sub (long p is bars others') others past stray = option_fails w utf8 no_sub (long p is bars others') bars others
  other_fails w utf8 no_sub (short b bs is none some bars others') others past stray = option_fails w utf8 no_sub (short b bs is none some bars others') bars others
