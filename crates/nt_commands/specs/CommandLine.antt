-- What the words of a command line ask for.
use Rattle.std.specs.Prelude.{◌≡◌, ℕ, ◌==◌, ◌&&◌, nat_le, Bool, true, not, List, [], ◌∷◌, drop, Option, None, Some, option_map, option_and_then, Result, Ok, Err, if◌then◌else◌, codes, String, string_bytes}
use Rattle.std.specs.Str.{bytes_eq}
use Rattle.nt_lines.specs.Options.{ends_options, is_operand}
use Rattle.nt_lines.specs.Words.{digits_number}
use Rattle.nt_threads.specs.declared.plan.TheConstants.{MOST_ROUNDS, MOST_WORKERS}
use Rattle.nt_commands.specs.declared.plan.CommandPlan.{CommandPlan}
use Rattle.nt_commands.specs.declared.plan.CommandPlan.TheVariants.{Script, Threads}
use Rattle.nt_commands.specs.declared.plan.PlanFault.{PlanFault}
use Rattle.nt_commands.specs.declared.plan.PlanFault.TheVariants.{Usage, Memory}

-- the file of two words: `-- FILE`, or `FILE --`
abbrev pub file_of_two : List ℕ → List ℕ → Option (List ℕ)
file_of_two first second = if ends_options first then Some second else (if is_operand first && ends_options second then Some first else None)

-- the file that the words after `script` name: `FILE`, which is no option, `FILE --`, or `-- FILE`
abbrev pub file_named : List (List ℕ) → Option (List ℕ)
file_named [] = None
file_named (file ∷ []) = if is_operand file then Some file else None
file_named (first ∷ second ∷ []) = file_of_two first second
file_named (first ∷ second ∷ third ∷ others) = None

-- the file that the words after the program's name ask to run: those words are `script` and what names a file
abbrev pub file_after : List (List ℕ) → Option (List ℕ)
file_after [] = None
file_after (word ∷ words) = if bytes_eq (codes "script") word then file_named words else None

-- the file that a command line asks to run, if it is a lawful one
abbrev pub file_asked : List (List ℕ) → Option (List ℕ)
file_asked words = file_after (drop 1 words)

-- ---- threads

-- a number from 1 to `most`, of one to four digits
abbrev pub option_count : ℕ → List ℕ → Option ℕ
option_count most word = option_and_then (λ n. if nat_le 1 n && nat_le n most then Some n else None) (digits_number 4 word)

-- how many workers and rounds two words tell
abbrev pub two_counts : List ℕ → List ℕ → Option (ℕ × ℕ)
two_counts first second = option_and_then (λ workers. option_map (λ rounds. (workers, rounds)) (option_count MOST_ROUNDS second)) (option_count MOST_WORKERS first)

-- the workers and rounds of three words, one of which is `--`
abbrev pub counts_of_three : List ℕ → List ℕ → List ℕ → Option (ℕ × ℕ)
counts_of_three first second third =
    if ends_options first then two_counts second third
    else (if ends_options second then two_counts first third else (if ends_options third then two_counts first second else None))

-- the workers and rounds that the words after `threads` tell: `N ROUNDS`, with one `--` among them or none
abbrev pub counts_named : List (List ℕ) → Option (ℕ × ℕ)
counts_named [] = None
counts_named (first ∷ []) = None
counts_named (first ∷ second ∷ []) = two_counts first second
counts_named (first ∷ second ∷ third ∷ []) = counts_of_three first second third
counts_named (first ∷ second ∷ third ∷ fourth ∷ others) = None

-- the workers and rounds that the words after the program's name tell: those words are `threads` and what names two counts
abbrev pub counts_after : List (List ℕ) → Option (ℕ × ℕ)
counts_after [] = None
counts_after (word ∷ words) = if bytes_eq word (codes "threads") then counts_named words else None

-- the workers and rounds that a command line asks for, if it is a lawful one
abbrev pub threads_asked : List (List ℕ) → Option (ℕ × ℕ)
threads_asked words = counts_after (drop 1 words)

-- there may be so many workers and rounds
abbrev pub are_lawful_counts : ℕ → ℕ → Bool
are_lawful_counts workers rounds = nat_le 1 workers && nat_le workers MOST_WORKERS && nat_le 1 rounds && nat_le rounds MOST_ROUNDS

-- ---- the plan

-- The file is the one that is asked for; the usage is told only where none is; and out of memory is no other answer.
abbrev pub FindsFile : {Z : Type 0} → Option (List ℕ) → Result (String Z) PlanFault → Type 0
FindsFile asked (Ok file) = asked ≡ Some (string_bytes file)
FindsFile asked (Err Usage) = asked ≡ None
FindsFile asked (Err Memory) = Unit {0}

-- The plan is to run the file or the threads that are asked for; the usage is told only where neither is; and out of memory is no other answer.
abbrev pub PlansBy : List (List ℕ) → Result CommandPlan PlanFault → Type 0
PlansBy words (Ok (Script file)) = file_asked words ≡ Some (string_bytes file)
PlansBy words (Ok (Threads workers rounds)) = threads_asked words ≡ Some (workers, rounds)
PlansBy words (Err Usage) = (file_asked words ≡ None) × (threads_asked words ≡ None)
PlansBy words (Err Memory) = Unit {0}
