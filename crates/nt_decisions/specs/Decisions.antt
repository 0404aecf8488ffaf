-- Files of decisions: what is written, and what is read.
use Rattle.std.specs.Prelude.{◌≡◌, ℕ, ◌≤◌, ◌==◌, Bool, true, false, List, [], ◌∷◌, ◌++◌, Option, Some, None, if◌then◌else◌, codes}
use Rattle.std.specs.List.{slice_split, join_with_byte}
use Rattle.std.specs.Str.{bytes_eq}
use Rattle.std.specs.Fmt.{decimal}
use Rattle.nt_lines.specs.declared.words.TheConstants.{MAX_CALLER}
use Rattle.nt_lines.specs.Words.{words_of, caller_of, digits_number}
use Rattle.nt_grammar.specs.Spelling.{caller_word}
use Rattle.nt_decisions.specs.declared.decision.Chosen.{Chosen}
use Rattle.nt_decisions.specs.declared.decision.Decision.{Decision}
use Rattle.nt_decisions.specs.declared.file.Time.{Time}
use Rattle.nt_decisions.specs.declared.file.Schedule.{Schedule}
use Rattle.nt_decisions.specs.declared.file.FileFault.{FileFault}

-- ---- what is written

-- `t` and the thread's number, or `clock`
abbrev pub chosen_word : Chosen → List ℕ
chosen_word (Chosen.Thread thread) = caller_word thread
chosen_word Chosen.Clock = codes "clock"

abbrev pub decision_words : Decision → List (List ℕ)
decision_words it = caller_word it.thread ∷ decimal it.ordinal ∷ chosen_word it.chosen ∷ []

-- the thread, which of its points that is, and who goes on
abbrev pub decision_text : Decision → List ℕ
decision_text it = join_with_byte 32 (decision_words it)

-- a line for each
abbrev pub lines_text : List Decision → List ℕ
lines_text [] = []
lines_text (it ∷ decisions) = decision_text it ++ 10 ∷ lines_text decisions

abbrev pub word_if : Bool → List ℕ → List ℕ
word_if is_so word = if is_so then word else []

-- with a word more where the time is free, and where it is still
abbrev pub first_text : Time → List ℕ
first_text time = codes "; ntwin-schedule 1" ++ (word_if time.is_free (codes " time=free") ++ word_if time.is_still (codes " time=still"))

abbrev pub file_text : Time → List Decision → List ℕ
file_text time decisions = first_text time ++ 10 ∷ lines_text decisions

-- ---- what is read

abbrev pub is_end : ℕ → Bool
is_end byte = byte == 10

-- its lines, without their ends
abbrev pub lines_in : List ℕ → List (List ℕ)
lines_in text = slice_split is_end text

abbrev pub thread_in : Option ℕ → Option Chosen
thread_in None = None
thread_in (Some thread) = Some (Chosen.Thread thread)

abbrev pub chosen_in : List ℕ → Option Chosen
chosen_in word = if bytes_eq word (codes "clock") then Some Chosen.Clock else thread_in (caller_of word)

abbrev pub joined : Option ℕ → Option ℕ → Option Chosen → Option Decision
joined None ordinal chosen = None
joined (Some thread) None chosen = None
joined (Some thread) (Some ordinal) None = None
joined (Some thread) (Some ordinal) (Some chosen) = Some (record { thread = thread; ordinal = ordinal; chosen = chosen })

-- a thread, a number of nine digits at the most, and who goes on
abbrev pub parts_in : List ℕ → List ℕ → List ℕ → Option Decision
parts_in thread ordinal chosen = joined (caller_of thread) (digits_number 9 ordinal) (chosen_in chosen)

abbrev pub decision_in : List (List ℕ) → Option Decision
decision_in [] = None
decision_in (thread ∷ []) = None
decision_in (thread ∷ ordinal ∷ []) = None
decision_in (thread ∷ ordinal ∷ chosen ∷ []) = parts_in thread ordinal chosen
decision_in (thread ∷ ordinal ∷ chosen ∷ more ∷ words) = None

abbrev pub pushed : List Decision → Option Decision → Option (List Decision)
pushed decisions None = None
pushed decisions (Some it) = Some (decisions ++ it ∷ [])

-- a line after these decisions: nothing, a comment, or one decision more
abbrev pub entry_in : List Decision → List ℕ → Option (List Decision)
entry_in decisions [] = Some decisions
entry_in decisions (first ∷ bytes) = if first == 59 then Some decisions else pushed decisions (decision_in (words_of (first ∷ bytes)))

-- the decisions once these lines were read too; none where one is no line
abbrev pub read_on : Option (List Decision) → List (List ℕ) → Option (List Decision)
read_on None lines = None
read_on (Some decisions) [] = Some decisions
read_on (Some decisions) (line ∷ lines) = read_on (entry_in decisions line) lines

abbrev pub time_of : Bool → Bool → Time
time_of is_free is_still = record { is_free = is_free; is_still = is_still }

-- how the time goes, by the first line
abbrev pub time_in : List ℕ → Option Time
time_in line =
    if bytes_eq line (codes "; ntwin-schedule 1") then Some (time_of false false)
    else if bytes_eq line (codes "; ntwin-schedule 1 time=free") then Some (time_of true false)
    else if bytes_eq line (codes "; ntwin-schedule 1 time=still") then Some (time_of false true)
    else if bytes_eq line (codes "; ntwin-schedule 1 time=free time=still") then Some (time_of true true)
    else None

abbrev pub both : Option Time → Option (List Decision) → Option (Time × List Decision)
both None decisions = None
both (Some time) None = None
both (Some time) (Some decisions) = Some (time, decisions)

abbrev pub file_of : List (List ℕ) → Option (Time × List Decision)
file_of [] = None
file_of (line ∷ lines) = both (time_in line) (read_on (Some []) lines)

-- what a text says as a file of decisions
abbrev pub file_in : List ℕ → Option (Time × List Decision)
file_in text = file_of (lines_in text)

abbrev pub schedule_of : Schedule → Time × List Decision
schedule_of it = (it.time, it.decisions.items)

-- how the time goes, by the first of these lines
abbrev pub first_in : List (List ℕ) → Option Time
first_in [] = None
first_in (line ∷ lines) = time_in line

-- why lines are no decisions: one is none, or memory was refused
abbrev pub IsLineFault : FileFault → Option (List Decision) → Type 0
IsLineFault FileFault.FirstLine read = ⊥
IsLineFault FileFault.Line read = read ≡ None
IsLineFault FileFault.Memory read = Unit {0}

-- why a text is no file: its first line is none of a file; or it is one, and another line is no decision; or memory was refused
abbrev pub IsFault : FileFault → List ℕ → Type 0
IsFault FileFault.FirstLine text = first_in (lines_in text) ≡ None
IsFault FileFault.Line text = (time : Time) × (first_in (lines_in text) ≡ Some time) × (file_in text ≡ None)
IsFault FileFault.Memory text = Unit {0}

-- the text is this line, a line feed and that text, or the line alone; it is read as with a line feed
pub record EndsLine (text line left : List ℕ) : Type 0 where
  pub first : first_in (lines_in text) ≡ time_in line
  pub lines : (read : Option (List Decision)) → read_on read (lines_in text) ≡ read_on read (line ∷ lines_in left)
  pub file : file_in text ≡ file_of (line ∷ lines_in left)

-- ---- what follows

-- its numbers have nine digits at the most
pub record IsWritable (it : Decision) : Type 0 where
  pub thread : it.thread ≤ MAX_CALLER
  pub ordinal : it.ordinal ≤ MAX_CALLER
  pub chosen : (thread : ℕ) → it.chosen ≡ Chosen.Thread thread → thread ≤ MAX_CALLER

abbrev pub AreWritable : List Decision → Type 0
AreWritable [] = Unit {0}
AreWritable (it ∷ decisions) = IsWritable it × AreWritable decisions

-- what was written is read back
abbrev pub WrittenIsRead : Type 0
WrittenIsRead =
    (time : Time) (decisions : List Decision) → AreWritable decisions → file_in (file_text time decisions) ≡ Some (time, decisions)
