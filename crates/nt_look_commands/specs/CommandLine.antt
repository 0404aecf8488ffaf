-- The commands, with the options and the usage line of each, and what the words of a command line ask for.
use Rattle.std.specs.Prelude.{ℕ, ◌≡◌, ◌==◌, ◌&&◌, ◌||◌, ◌++◌, nat_le, nat_lt, Bool, true, false, not, List, [], ◌∷◌, length, Option, None, Some, option_map, option_and_then, is_some, take, drop, position, Result, Ok, Err, if◌then◌else◌, codes}
use Rattle.std.specs.Str.{bytes_eq}
use Rattle.std.specs.Option.{option_copied}
use Rattle.nt_lines.specs.Options.{ends_options, is_operand}
use Rattle.nt_lines.specs.declared.words.TheConstants.{MAX_DIGITS}
use Rattle.nt_lines.specs.Words.{caller_of, digits_number}
use Rattle.nt_drawing.specs.declared.draw.Drawing.{Drawing}
use Rattle.nt_drawing.specs.declared.draw.Form.{Form}
use Rattle.nt_drawing.specs.declared.draw.Form.TheVariants.{Page, Picture, Trace}
use Rattle.nt_look_commands.specs.declared.command.Command.{Command}
use Rattle.nt_look_commands.specs.declared.command.Command.TheVariants as command
use Rattle.nt_look_commands.specs.declared.command.Command.TheVariants.{Timeline, Why, Explore}
use Rattle.nt_look_commands.specs.declared.look.TheConstants.{MANY_STATES, MOST_STATES}
use Rattle.nt_look_commands.specs.declared.look.Look.{Look}
use Rattle.nt_look_commands.specs.declared.look.Look.TheVariants as look

-- ---- the commands

-- the command with this name
abbrev pub command_of : List ℕ → Option Command
command_of word =
    if bytes_eq word (codes "why") then Some Why
    else if bytes_eq word (codes "timeline") then Some Timeline
    else if bytes_eq word (codes "explore") then Some Explore
    else None

-- whether the option names a file to be drawn into
abbrev pub is_drawing : List ℕ → Bool
is_drawing option = bytes_eq option (codes "--svg") || bytes_eq option (codes "--html") || bytes_eq option (codes "--trace")

-- whether the command has this option
abbrev pub has_option : Command → List ℕ → Bool
has_option Why option = bytes_eq option (codes "--at")
has_option Timeline option = bytes_eq option (codes "--lines") || bytes_eq option (codes "--object") || bytes_eq option (codes "--thread") || is_drawing option
has_option Explore option = bytes_eq option (codes "--most") || bytes_eq option (codes "--script")

-- whether the command can be strict
abbrev pub can_be_strict : Command → Bool
can_be_strict Why = true
can_be_strict Timeline = true
can_be_strict Explore = false

-- the line that tells how the command is called
abbrev pub usage_of : Command → List ℕ
usage_of Why = codes "ntlook: usage: ntlook why [--strict] FILE [--at LINE]\n"
usage_of Timeline = codes "ntlook: usage: ntlook timeline [--strict] FILE [--lines A..B] [--object NAME] [--thread tN] [--svg OUT | --html OUT | --trace OUT]\n"
usage_of Explore = codes "ntlook: usage: ntlook explore FILE [--script OUT] [--most STATES]   (1 to 4000000000; 1000000 if left out)\n"

-- the same of all commands
abbrev pub look_usage : List ℕ
look_usage = usage_of Why ++ (usage_of Timeline ++ usage_of Explore)

-- ---- the words after a command

-- the value of an option is the word after it
abbrev pub option_value_in : List ℕ → List (List ℕ) → Option (List ℕ)
option_value_in option [] = None
option_value_in option (word ∷ []) = None
option_value_in option (word ∷ value ∷ others) =
    if is_operand word then option_value_in option (value ∷ others)
    else (if bytes_eq word option then Some value else option_value_in option others)

-- the file is an operand, or what follows `--` at the end
abbrev pub file_in : List (List ℕ) → Option (List ℕ)
file_in [] = None
file_in (word ∷ []) = if is_operand word then Some word else None
file_in (word ∷ value ∷ others) =
    if is_operand word then Some word else (if ends_options word && (length others == 0) then Some value else file_in others)

-- an option of the command that the words after it do not tell again
unfoldable pub is_told_once : Command → List ℕ → List (List ℕ) → Bool
is_told_once command option others = has_option command option && not (is_some (option_value_in option others))

-- options of the command with their values, none of them twice, and at most one file
abbrev pub are_lawful_options : Command → List (List ℕ) → Bool
are_lawful_options command [] = true
are_lawful_options command (word ∷ []) = is_operand word
are_lawful_options command (word ∷ value ∷ others) =
    if is_operand word then not (is_some (file_in (value ∷ others))) && are_lawful_options command (value ∷ others)
    else (ends_options word && (length others == 0)) || (is_told_once command word others && are_lawful_options command others)

-- ---- what is asked for

-- what a command is to do
pub data LookAsked : Type 0 where
  AskedWhy : (file : List ℕ) → (at : Option ℕ) → (strict : Bool) → LookAsked
  AskedTimeline : (file : List ℕ) → (lines : Option (ℕ × ℕ)) → (object : Option (List ℕ)) → (thread : Option ℕ) → (drawing : Option (Form × List ℕ)) → (strict : Bool) → LookAsked
  AskedExplore : (file : List ℕ) → (most : ℕ) → (script : Option (List ℕ)) → LookAsked

-- the form of a drawing, and the file
abbrev pub drawing_asked : Drawing → Form × List ℕ
drawing_asked drawing = (drawing.form, drawing.out.now)

abbrev pub look_asked : Look → LookAsked
look_asked (look.Why file at strict) = AskedWhy file.now at strict
look_asked (look.Timeline file part drawing strict) =
    AskedTimeline file.now part.lines (option_copied part.object) part.thread (option_map drawing_asked drawing) strict
look_asked (look.Explore file most script) = AskedExplore file.now most (option_copied script)

-- the number of a line, from 1 on
unfoldable pub line_number_in : List ℕ → Option ℕ
line_number_in word = option_and_then (λ n. if nat_lt 0 n then Some n else None) (digits_number MAX_DIGITS word)

-- an option that is left out, or its value where that is lawful
abbrev pub told : {X : Type 0} → (List ℕ → Option X) → Option (List ℕ) → Option (Option X)
told reading None = Some None
told reading (Some word) = option_map (λ x. Some x) (reading word)

abbrev pub why_in : Bool → List ℕ → List (List ℕ) → Option LookAsked
why_in strict file words = option_map (λ at. AskedWhy file at strict) (told line_number_in (option_value_in (codes "--at") words))

-- the number of a line after `..`
unfoldable pub after_dots : List ℕ → Option ℕ
after_dots [] = None
after_dots (first ∷ []) = None
after_dots (first ∷ second ∷ last) = if (first == 46) && (second == 46) then line_number_in last else None

abbrev pub both : {X Y : Type 0} → Option X → Option Y → Option (X × Y)
both first second = option_and_then (λ x. option_map (λ y. (x, y)) second) first

abbrev pub is_dot : ℕ → Bool
is_dot byte = byte == 46

-- the lines of A..B
abbrev pub line_range_in : List ℕ → Option (ℕ × ℕ)
line_range_in word = option_and_then (λ place. both (line_number_in (take place word)) (after_dots (drop place word))) (position is_dot word)

-- a picture, a page or a trace, each into the file that its option names; none where two of them are asked for
abbrev pub drawing_of : (svg html trace : Option (List ℕ)) → Option (Option (Form × List ℕ))
drawing_of None None None = Some None
drawing_of (Some svg) None None = Some (Some (Picture, svg))
drawing_of None (Some html) None = Some (Some (Page, html))
drawing_of None None (Some trace) = Some (Some (Trace, trace))
drawing_of (Some svg) (Some html) trace = None
drawing_of (Some svg) None (Some trace) = None
drawing_of None (Some html) (Some trace) = None

-- the drawing that the words ask for
abbrev pub drawing_in : List (List ℕ) → Option (Option (Form × List ℕ))
drawing_in words =
    drawing_of (option_value_in (codes "--svg") words) (option_value_in (codes "--html") words) (option_value_in (codes "--trace") words)

-- the lines and the thread that the words ask for
abbrev pub narrowed_in : List (List ℕ) → Option (Option (ℕ × ℕ) × Option ℕ)
narrowed_in words = both (told line_range_in (option_value_in (codes "--lines") words)) (told caller_of (option_value_in (codes "--thread") words))

abbrev pub timeline_in : Bool → List ℕ → List (List ℕ) → Option LookAsked
timeline_in strict file words =
    option_map (λ asked. AskedTimeline file asked.0.0 (option_value_in (codes "--object") words) asked.0.1 asked.1 strict)
    (both (narrowed_in words) (drawing_in words))

-- how many states may be met
abbrev pub most_of : List ℕ → Option ℕ
most_of word = option_and_then (λ n. if nat_lt 0 n && nat_le n MOST_STATES then Some n else None) (digits_number MAX_DIGITS word)

-- the same of an option that may be left out
abbrev pub most_told : Option (List ℕ) → Option ℕ
most_told None = Some MANY_STATES
most_told (Some word) = most_of word

abbrev pub most_in : List (List ℕ) → Option ℕ
most_in words = most_told (option_value_in (codes "--most") words)

abbrev pub explore_in : List ℕ → List (List ℕ) → Option LookAsked
explore_in file words = option_map (λ most. AskedExplore file most (option_value_in (codes "--script") words)) (most_in words)

-- what the command is to do with the file
abbrev pub on_file : Command → Bool → List ℕ → List (List ℕ) → Option LookAsked
on_file command.Why strict file words = why_in strict file words
on_file command.Timeline strict file words = timeline_in strict file words
on_file command.Explore strict file words = explore_in file words

-- whether the words after a command begin with `--strict`, where the command can be strict
unfoldable pub is_strict : Command → List (List ℕ) → Bool
is_strict command [] = false
is_strict command (word ∷ words) = can_be_strict command && bytes_eq word (codes "--strict")

-- the words after that
abbrev pub after_strict : Bool → List (List ℕ) → List (List ℕ)
after_strict strict words = drop (if strict then 1 else 0) words

-- what these words ask for, if they are lawful
abbrev pub asked_of : Command → Bool → List (List ℕ) → Option LookAsked
asked_of command strict words =
    if are_lawful_options command words then option_and_then (λ file. on_file command strict file words) (file_in words) else None

-- what these words after the command ask for, if they are lawful
abbrev pub asked_after : Command → List (List ℕ) → Option LookAsked
asked_after command words = asked_of command (is_strict command words) (after_strict (is_strict command words) words)

-- the same, or the command whose usage is to be told
abbrev pub or_usage : Command → Option LookAsked → Result LookAsked (Option Command)
or_usage command None = Err (Some command)
or_usage command (Some asked) = Ok asked

abbrev pub by_command : Option Command → List (List ℕ) → Result LookAsked (Option Command)
by_command None words = Err None
by_command (Some command) words = or_usage command (asked_after command words)

-- what a command line asks for, the program's own name first; or whose usage is to be told, that of all commands where none is named
abbrev pub look_of : List (List ℕ) → Result LookAsked (Option Command)
look_of [] = Err None
look_of (own ∷ []) = Err None
look_of (own ∷ name ∷ words) = by_command (command_of name) words

-- what a function that reads words answers is what they ask for
abbrev pub FindsLook : Option LookAsked → Option Look → Type 0
FindsLook wanted None = wanted ≡ None
FindsLook wanted (Some look) = wanted ≡ Some (look_asked look)
