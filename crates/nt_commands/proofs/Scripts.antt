-- What clap makes of the words after `script`.
use Rattle.std.proofs.Common.{◌≡◌, ◌∙◌, Bool, cond, true, false, ◌&&◌, refl, sym, ap, ap₂, subst, List, [], ◌∷◌, Option, Some, None, codes}
use Rattle.std.specs.Prelude.{slice_index_or}
use Rattle.std.specs.Str.{IsUtf8}
use Rattle.clap.specs.Lexer.{long_of, short_of}
use Rattle.clap.specs.Kinds.{Kinds, or_else}
use Rattle.clap.specs.Walk.{Held, Step, Text, Walk, after_step, finished, first_of, idle, nothing_held, rows_after, settled, walk, walk_from, walked}
use Rattle.clap.specs.Simple.{App, Shape, built}
use Rattle.clap.specs.Faults.{check_fault, defaults_fault, level_fault, settle_fault, turn_fault, walk_fault}
use Rattle.nt_lines.specs.Options.{ends_options, is_operand}
use Rattle.nt_commands.specs.CommandLine.{file_named}
use Rattle.nt_commands.specs.Command.{command_line}
use Rattle.nt_commands.proofs.Looks.{Look, plain, ends, long, short, look}
use Rattle.nt_commands.proofs.Faults.{Fails, fails_first, fails_then, option_fails, other_fails, plain_met, plain_turn}

abbrev pub line : App
line = built command_line

-- `script`, as it is built
abbrev pub leaf : Shape
leaf = slice_index_or line.subs 0 line.top

-- each word is text
abbrev pub AreTexts : List Text → Type 0
AreTexts [] = Unit {0}
AreTexts (w ∷ ws) = IsUtf8 w × AreTexts ws

-- ---- where the walk stands

abbrev start : Walk
start = walk_from nothing_held

abbrev file_held : Text → Held
file_held file = record { rows = []; pending = Some (codes "file", file ∷ []); skip = 0 }

-- after the file
abbrev at_file : Text → Walk
at_file file = record { held = file_held file; waiting = idle; position = 2; is_trailing = false; stopped = None }

-- after `--`
abbrev at_dashes : Walk
at_dashes = record start { is_trailing = true }

-- after both
abbrev at_both : Text → Walk
at_both file = record (at_file file) { is_trailing = true }

to_file : (w : Text) → long_of w ≡ None → short_of w ≡ None → ends_options w ≡ false → walked leaf.rules [] start w ≡ at_file w
unfolding walked
to_file w none none' others = ap (λ (m : Held × Step). after_step leaf.rules w start m.0 m.1) (plain_met leaf [] 1 nothing_held (λ name. refl) (λ x. refl) refl w refl none none' others)

to_dashes : walked leaf.rules [] start (codes "--") ≡ at_dashes
unfolding walked
to_dashes = refl

dashes_to_both : (w : Text) → walked leaf.rules [] at_dashes w ≡ at_both w
unfolding walked
dashes_to_both w = refl

file_to_both : (w : Text) → walked leaf.rules [] (at_file w) (codes "--") ≡ at_both w
unfolding walked
file_to_both w = refl

-- ---- what the words come to

abbrev pub script_fault : List Text → Kinds
script_fault ws = level_fault leaf [] nothing_held ws false []

abbrev pub script_file : List Text → Option Text
script_file ws = first_of (codes "file") (rows_after leaf.rules [] ws)

pub record Named (file : Text) (ws : List Text) : Type 0 where
  pub fault : script_fault ws ≡ []
  pub gives : script_file ws ≡ Some file

-- the words name the file with no fault, or fail
abbrev pub Judged : Option Text → List Text → Type 0
Judged (Some file) ws = Named file ws
Judged None ws = Fails (script_fault ws)

-- the faults after the last word
abbrev end_fault : Walk → Kinds
end_fault v = or_else (settle_fault leaf.rules leaf.args_override_self v.held) (or_else (defaults_fault (settled leaf.rules v.held).rows leaf.rules) (check_fault leaf (finished leaf.rules v.held) false))

abbrev file_at : Walk → Option Text
file_at v = first_of (codes "file") (finished leaf.rules v.held)

names : (ws : List Text) (file : Text) (v : Walk) → walk_fault leaf [] start ws ≡ [] → walk leaf.rules [] nothing_held ws ≡ v → end_fault v ≡ [] → file_at v ≡ Some file → Named file ws
names ws file v none end finds is = record {
  fault = ap₂ (λ (k : Kinds) (u : Walk). or_else k (end_fault u)) none end ∙ finds;
  gives = ap file_at end ∙ is;
}

end_at_file : (w : Text) → end_fault (at_file w) ≡ []
unfolding defaults_fault
end_at_file w = refl

end_at_both : (w : Text) → end_fault (at_both w) ≡ []
unfolding defaults_fault
end_at_both w = refl

fails_at : (ws : List Text) → Fails (walk_fault leaf [] start ws) → Fails (script_fault ws)
fails_at ws h = fails_first _ _ h

-- the walk goes on, and fails later
later : (v v' : Walk) (w : Text) (ws : List Text) → walked leaf.rules [] v w ≡ v' → Fails (walk_fault leaf [] v' ws) → Fails (walk_fault leaf [] v (w ∷ ws))
unfolding walk_fault
later v v' w ws goes h = fails_then _ _ (subst (λ u. Fails (walk_fault leaf [] u ws)) (sym goes) h)

now : (v : Walk) (w : Text) (ws : List Text) → Fails (turn_fault leaf [] v w) → Fails (walk_fault leaf [] v (w ∷ ws))
unfolding walk_fault
now v w ws h = fails_first _ _ h

option_at_start : (w : Text) (ws : List Text) → IsUtf8 w → Look w → is_operand w ≡ false → ends_options w ≡ false → Fails (script_fault (w ∷ ws))
option_at_start w ws utf8 looks bars others = fails_at (w ∷ ws) (now start w ws (option_fails leaf [] 1 nothing_held (λ name. refl) (λ x. refl) refl w utf8 refl looks bars others))

other_at_file : (file w : Text) (ws : List Text) → IsUtf8 w → Look w → ends_options w ≡ false → Fails (walk_fault leaf [] (at_file file) (w ∷ ws))
other_at_file file w ws utf8 looks others = now (at_file file) w ws (other_fails leaf [] 2 (file_held file) (λ name. refl) (λ x. refl) refl w utf8 refl looks others refl tt)

-- ---- one word

file_alone : (w : Text) → long_of w ≡ None → short_of w ≡ None → ends_options w ≡ false → Named w (w ∷ [])
unfolding walk_fault
file_alone w none none' others =
    names (w ∷ []) w (at_file w) (ap (λ (k : Kinds). or_else k []) (plain_turn leaf [] 1 nothing_held (λ name. refl) (λ x. refl) refl w refl none none' others)) (to_file w none none' others) (end_at_file w) refl

dashes_alone : Fails (script_fault (codes "--" ∷ []))
unfolding walk_fault walked defaults_fault
dashes_alone = tt

one : (w : Text) → IsUtf8 w → Look w → Judged (file_named (w ∷ [])) (w ∷ [])
one w utf8 (plain none none' holds others) = subst (λ t. Judged (cond t (Some w) None) (w ∷ [])) (sym holds) (file_alone w none none' others)
one w utf8 (ends is) = subst (λ v. Judged (file_named (v ∷ [])) (v ∷ [])) (sym is) dashes_alone
one w utf8 (long p is bars others) = subst (λ t. Judged (cond t (Some w) None) (w ∷ [])) (sym bars) (option_at_start w [] utf8 (long p is bars others) bars others)
one w utf8 (short b bs is none some bars others) = subst (λ t. Judged (cond t (Some w) None) (w ∷ [])) (sym bars) (option_at_start w [] utf8 (short b bs is none some bars others) bars others)

-- ---- two words

dashes_file : (w : Text) → Named w (codes "--" ∷ w ∷ [])
unfolding walk_fault walked
dashes_file w = names (codes "--" ∷ w ∷ []) w (at_both w) refl refl (end_at_both w) refl

file_dashes : (w : Text) → long_of w ≡ None → short_of w ≡ None → ends_options w ≡ false → Named w (w ∷ codes "--" ∷ [])
unfolding walk_fault walked
file_dashes w none none' others =
    let goes = to_file w none none' others in
    names (w ∷ codes "--" ∷ []) w (at_both w)
    (ap₂ (λ (k : Kinds) (u : Walk). or_else k (walk_fault leaf [] u (codes "--" ∷ []))) (plain_turn leaf [] 1 nothing_held (λ name. refl) (λ x. refl) refl w refl none none' others) goes)
    (ap (λ u. walked leaf.rules [] u (codes "--")) goes) (end_at_both w) refl

-- the file of two words, of which the first ends options or not, and is an operand or not, and the second ends options or not
abbrev chosen : Bool → Bool → Bool → Text → Text → Option Text
chosen first operand second v w = cond first (Some w) (cond (operand && second) (Some v) None)

after_file : (v w : Text) → IsUtf8 w → Look w → long_of v ≡ None → short_of v ≡ None → ends_options v ≡ false → Judged (chosen false true (ends_options w) v w) (v ∷ w ∷ [])
after_file v w utf8 (ends is) none none' others = subst (λ u. Judged (chosen false true (ends_options u) v u) (v ∷ u ∷ [])) (sym is) (file_dashes v none none' others)
after_file v w utf8 (plain n n' holds not) none none' others =
    subst (λ t. Judged (chosen false true t v w) (v ∷ w ∷ [])) (sym not)
    (fails_at (v ∷ w ∷ []) (later start (at_file v) v (w ∷ []) (to_file v none none' others) (other_at_file v w [] utf8 (plain n n' holds not) not)))
after_file v w utf8 (long p is bars not) none none' others =
    subst (λ t. Judged (chosen false true t v w) (v ∷ w ∷ [])) (sym not)
    (fails_at (v ∷ w ∷ []) (later start (at_file v) v (w ∷ []) (to_file v none none' others) (other_at_file v w [] utf8 (long p is bars not) not)))
after_file v w utf8 (short b bs is n some bars not) none none' others =
    subst (λ t. Judged (chosen false true t v w) (v ∷ w ∷ [])) (sym not)
    (fails_at (v ∷ w ∷ []) (later start (at_file v) v (w ∷ []) (to_file v none none' others) (other_at_file v w [] utf8 (short b bs is n some bars not) not)))

option_first : (v w : Text) → IsUtf8 v → Look v → is_operand v ≡ false → ends_options v ≡ false → Judged (file_named (v ∷ w ∷ [])) (v ∷ w ∷ [])
option_first v w utf8 looks bars others =
    subst (λ t. Judged (chosen t (is_operand v) (ends_options w) v w) (v ∷ w ∷ [])) (sym others)
    (subst (λ t. Judged (chosen false t (ends_options w) v w) (v ∷ w ∷ [])) (sym bars) (option_at_start v (w ∷ []) utf8 looks bars others))

two : (v w : Text) → IsUtf8 v → IsUtf8 w → Look v → Look w → Judged (file_named (v ∷ w ∷ [])) (v ∷ w ∷ [])
two v w utf8 utf8' (plain none none' holds others) looks =
    subst (λ t. Judged (chosen t (is_operand v) (ends_options w) v w) (v ∷ w ∷ [])) (sym others)
    (subst (λ t. Judged (chosen false t (ends_options w) v w) (v ∷ w ∷ [])) (sym holds) (after_file v w utf8' looks none none' others))
two v w utf8 utf8' (ends is) looks = subst (λ u. Judged (file_named (u ∷ w ∷ [])) (u ∷ w ∷ [])) (sym is) (dashes_file w)
two v w utf8 utf8' (long p is bars others) looks = option_first v w utf8 (long p is bars others) bars others
two v w utf8 utf8' (short b bs is none some bars others) looks = option_first v w utf8 (short b bs is none some bars others) bars others

-- ---- more words

stray_after_both : (file x : Text) (more : List Text) → Fails (walk_fault leaf [] (at_both file) (x ∷ more))
stray_after_both file x more = now (at_both file) x more tt

many_after_file : (v w x : Text) (more : List Text) → IsUtf8 w → Look w → Fails (walk_fault leaf [] (at_file v) (w ∷ x ∷ more))
many_after_file v w x more utf8 (ends is) =
    subst (λ u. Fails (walk_fault leaf [] (at_file v) (u ∷ x ∷ more))) (sym is) (later (at_file v) (at_both v) (codes "--") (x ∷ more) (file_to_both v) (stray_after_both v x more))
many_after_file v w x more utf8 (plain n n' holds not) = other_at_file v w (x ∷ more) utf8 (plain n n' holds not) not
many_after_file v w x more utf8 (long p is bars not) = other_at_file v w (x ∷ more) utf8 (long p is bars not) not
many_after_file v w x more utf8 (short b bs is n some bars not) = other_at_file v w (x ∷ more) utf8 (short b bs is n some bars not) not

many : (v w x : Text) (more : List Text) → IsUtf8 v → IsUtf8 w → Look v → Look w → Fails (script_fault (v ∷ w ∷ x ∷ more))
many v w x more utf8 utf8' (plain none none' holds others) looks =
    fails_at (v ∷ w ∷ x ∷ more) (later start (at_file v) v (w ∷ x ∷ more) (to_file v none none' others) (many_after_file v w x more utf8' looks))
many v w x more utf8 utf8' (ends is) looks =
    subst (λ u. Fails (script_fault (u ∷ w ∷ x ∷ more))) (sym is)
    (fails_at (codes "--" ∷ w ∷ x ∷ more) (later start at_dashes (codes "--") (w ∷ x ∷ more) to_dashes (later at_dashes (at_both w) w (x ∷ more) (dashes_to_both w) (stray_after_both w x more))))
many v w x more utf8 utf8' (long p is bars others) looks = option_at_start v (w ∷ x ∷ more) utf8 (long p is bars others) bars others
many v w x more utf8 utf8' (short b bs is none some bars others) looks = option_at_start v (w ∷ x ∷ more) utf8 (short b bs is none some bars others) bars others

none_given : Fails (script_fault [])
unfolding walk_fault defaults_fault
none_given = tt

pub judged : (ws : List Text) → AreTexts ws → Judged (file_named ws) ws
judged [] texts = none_given
judged (w ∷ []) texts = one w texts.0 (look w)
judged (v ∷ w ∷ []) texts = two v w texts.0 texts.1.0 (look v) (look w)
judged (v ∷ w ∷ x ∷ more) texts = many v w x more texts.0 texts.1.0 (look v) (look w)
