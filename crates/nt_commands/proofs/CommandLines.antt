-- What clap makes of the words of a command line.
use Rattle.std.proofs.Common.{◌≡◌, ◌∙◌, Bool, cond, true, false, ◌||◌, refl, sym, ap, subst, List, [], ◌∷◌, drop, map, Option, Some, None, codes, is_some, inl, inr}
use Rattle.std.specs.Prelude.{String, option_and_then, option_map, string_bytes}
use Rattle.std.specs.Str.{IsUtf8, bytes_eq}
use Rattle.std.proofs.lemmas.Str.{IsUtf8-string_bytes}
use Rattle.std.proofs.lemmas.Slice.Eq.{bytes_eq-Decides}
use Rattle.clap.specs.Kinds.{HasKind, Kinds, or_else}
use Rattle.clap.specs.Values.{kind_of}
use Rattle.clap.specs.Walk.{Names, Row, Text, Walk, finished, idle, nothing_held, rows_after, settled, stop_after, subcommand_met, walk, walk_from, walked}
use Rattle.clap.specs.Simple.{App, HasMatchesOf, Shape, entered, names_of, subcommand_of, subcommand_rows_of}
use Rattle.clap.specs.Faults.{built_fault, check_fault, defaults_fault, entered_fault, fault_of, is_simple_and_free, settle_fault, walk_fault}
use Rattle.clap.specs.declared.error.Error.{Error}
use Rattle.clap.specs.declared.error.kind.ErrorKind.TheVariants.{OutOfMemory}
use Rattle.clap.specs.declared.parser.matches.ArgMatches.{ArgMatches}
use Rattle.clap.proofs.FaultLemmas.{stopped_fault}
use Rattle.clap.proofs.WalkLemmas.{walk_stopped}
use Rattle.nt_lines.specs.Options.{ends_options}
use Rattle.nt_commands.specs.CommandLine.{file_asked, file_after, file_named}
use Rattle.nt_commands.specs.Command.{command_line, file_found, file_of}
use Rattle.nt_commands.proofs.Looks.{Look, plain, ends, long, short, look}
use Rattle.nt_commands.proofs.Faults.{Fails, fails_first, other_fails}
use Rattle.nt_commands.proofs.Scripts.{AreTexts, Judged, judged, line, leaf, script_fault}

abbrev top : Shape
top = line.top

abbrev labels : Names
labels = names_of line

abbrev start : Walk
start = walk_from nothing_held

-- what clap finds wrong with the words after the program's name, and the subcommand that it enters
abbrev words_fault : List Text → Kinds
words_fault words = built_fault line nothing_held words

abbrev words_enter : List Text → Option (Text × List Row)
words_enter words = entered line (stop_after top.rules labels words)

-- the words ask for the file with no fault, or fail
abbrev Asks : Option Text → List Text → Type 0
Asks (Some file) words = (words_fault words ≡ []) × (option_and_then file_of (words_enter words) ≡ Some file)
Asks None words = Fails (words_fault words)

-- ---- `script`, and the words after it

abbrev at_script : List Text → Walk
at_script ws = record start { stopped = Some (codes "script", ws) }

script_walk : (ws : List Text) → walk top.rules labels nothing_held (codes "script" ∷ ws) ≡ at_script ws
unfolding walked
script_walk ws = sym (walk_stopped top.rules labels start (codes "script") [] ws)

-- the faults of the level, where the walk ended there
abbrev level_at : Kinds → Walk → Kinds
level_at walk v =
    or_else walk
    (or_else (entered_fault line v.stopped) (or_else (settle_fault top.rules top.args_override_self v.held)
    (or_else (defaults_fault (settled top.rules v.held).rows top.rules) (check_fault top (finished top.rules v.held) (is_some (entered line v.stopped))))))

script_walk_fault : (ws : List Text) → walk_fault top labels start (codes "script" ∷ ws) ≡ []
unfolding walk_fault walked
script_walk_fault ws = stopped_fault top labels start (codes "script", []) ws

level_of_script : (ws : List Text) → level_at [] (at_script ws) ≡ or_else (script_fault ws) []
unfolding defaults_fault
level_of_script ws = refl

fault_of_script : (ws : List Text) → words_fault (codes "script" ∷ ws) ≡ or_else (script_fault ws) []
fault_of_script ws = ap (level_at (walk_fault top labels start (codes "script" ∷ ws))) (script_walk ws) ∙ ap (λ k. level_at k (at_script ws)) (script_walk_fault ws) ∙ level_of_script ws

enters_script : (ws : List Text) → words_enter (codes "script" ∷ ws) ≡ Some (codes "script", rows_after leaf.rules [] ws)
enters_script ws = ap (λ (v : Walk). entered line v.stopped) (script_walk ws)

asks_script : (ws : List Text) (file : Option Text) → Judged file ws → Asks file (codes "script" ∷ ws)
asks_script ws (Some file) is = (fault_of_script ws ∙ ap (λ k. or_else k []) is.fault, ap (option_and_then file_of) (enters_script ws) ∙ is.gives)
asks_script ws None fails = subst Fails (sym (fault_of_script ws)) (fails_first _ _ fails)

-- ---- any other word

nothing_asked : Fails (words_fault [])
unfolding walk_fault walked defaults_fault
nothing_asked = tt

dashes_asked : (ws : List Text) → Fails (words_fault (codes "--" ∷ ws))
unfolding walk_fault walked defaults_fault
dashes_asked [] = tt
dashes_asked (w ∷ ws) = tt

no_subcommand : (w : Text) → bytes_eq (codes "script") w ≡ false → subcommand_met labels idle w ≡ None
no_subcommand w bars = ap (λ t. option_map (λ (s : Text × List Text). s.0) (cond (t || false) (Some (codes "script", [])) None)) bars

unknown : (w : Text) (ws : List Text) → IsUtf8 w → bytes_eq (codes "script") w ≡ false → Look w → ends_options w ≡ false → Fails (words_fault (w ∷ ws))
unfolding walk_fault
unknown w ws utf8 bars looks others = fails_first _ _ (fails_first _ _ (other_fails top labels 1 nothing_held (λ name. refl) (λ x. refl) refl w utf8 (no_subcommand w bars) looks others refl tt))

other_asked : (w : Text) (ws : List Text) → IsUtf8 w → bytes_eq (codes "script") w ≡ false → Look w → Fails (words_fault (w ∷ ws))
other_asked w ws utf8 bars (ends is) = subst (λ v. Fails (words_fault (v ∷ ws))) (sym is) (dashes_asked ws)
other_asked w ws utf8 bars (plain none none' holds others) = unknown w ws utf8 bars (plain none none' holds others) others
other_asked w ws utf8 bars (long p is not others) = unknown w ws utf8 bars (long p is not others) others
other_asked w ws utf8 bars (short b bs is none some not others) = unknown w ws utf8 bars (short b bs is none some not others) others

asks : (words : List Text) → AreTexts words → Asks (file_after words) words
asks [] texts = nothing_asked
asks (w ∷ ws) texts = go (bytes_eq (codes "script") w) refl
  where
    go : (t : Bool) → bytes_eq (codes "script") w ≡ t → Asks (cond t (file_named ws) None) (w ∷ ws)
    go true is = subst (λ v. Asks (file_named ws) (v ∷ ws)) ((bytes_eq-Decides (codes "script") w).0 is) (asks_script ws (file_named ws) (judged ws texts.1))
    go false bars = other_asked w ws texts.0 bars (look w)

-- ---- what a caller knows

pub are_texts : {Z : Type 0} (words : List (String Z)) → AreTexts (map string_bytes words)
are_texts [] = tt
are_texts (word ∷ words) = (IsUtf8-string_bytes word, are_texts words)

texts_after : (words : List Text) → AreTexts words → AreTexts (drop 1 words)
texts_after [] texts = tt
texts_after (w ∷ ws) texts = texts.1

-- where clap takes the words, its matches hold the file that they ask for
taken : (words : List Text) (m : ArgMatches) → AreTexts words → fault_of command_line words ≡ [] → subcommand_rows_of m ≡ subcommand_of command_line words → file_found m ≡ file_asked words
taken words m texts fine rows = ap (option_and_then file_of) rows ∙ go (file_after (drop 1 words)) (asks (drop 1 words) (texts_after words texts))
  where
    go : (file : Option Text) → Asks file (drop 1 words) → option_and_then file_of (words_enter (drop 1 words)) ≡ file
    go (Some file) is = is.1
    go None fails = absurd (subst Fails fine fails)

-- where clap refuses the words, and memory was there, they ask for no file
refused : (words : List Text) (e : Error) → AreTexts words → HasKind (fault_of command_line words) e → (kind_of e ≡ OutOfMemory → ⊥) → file_asked words ≡ None
refused words e texts kind memory = go (file_after (drop 1 words)) (asks (drop 1 words) (texts_after words texts))
  where
    no_kind : HasKind [] e → ⊥
    no_kind (inl is) = memory is
    no_kind (inr among) = elim among [ ]

    go : (file : Option Text) → Asks file (drop 1 words) → file ≡ None
    go (Some file) is = absurd (no_kind (subst (λ kinds. HasKind kinds e) is.0 kind))
    go None fails = refl

pub taken_by : (app : App) (words : List Text) (m : ArgMatches) → app ≡ command_line → AreTexts words → (is_simple_and_free app ≡ true → fault_of app words ≡ []) → HasMatchesOf app words m → file_found m ≡ file_asked words
taken_by app words m is texts fine has =
    taken words m texts (subst (λ a. fault_of a words ≡ []) is (fine (ap is_simple_and_free is))) ((subst (λ a. HasMatchesOf a words m) is has) refl).1

pub refused_by : (app : App) (words : List Text) (e : Error) → app ≡ command_line → AreTexts words → (is_simple_and_free app ≡ true → HasKind (fault_of app words) e) → (kind_of e ≡ OutOfMemory → ⊥) → file_asked words ≡ None
refused_by app words e is texts kinds memory = refused words e texts (subst (λ a. HasKind (fault_of a words) e) is (kinds (ap is_simple_and_free is))) memory
