-- What a run of a script writes.
use Rattle.std.specs.Prelude.{◌≡◌, ℕ, zero, suc, ◌+◌, ◌/◌, ◌%◌, List, [], ◌∷◌, ◌++◌, Option, Some, None, Result, Ok, Err, true, codes, if◌then◌else◌}
use Rattle.std.specs.List.{flat_map}
use Rattle.std.specs.Fmt.{decimal, signed_decimal, digit_glyph}
use Rattle.nt_status.specs.declared.refusal.Refusal.{Refusal}
use Rattle.nt_status.specs.Refusal.{number_of}
use Rattle.nt_calls.specs.declared.call.Call.{Call}
use Rattle.nt_calls.specs.declared.call.Reply.{Reply}
use Rattle.nt_calls.specs.declared.call.Grant.{Grant}
use Rattle.nt_calls.specs.State.{State, pends}
use Rattle.nt_calls.specs.Runs.{Turn, Calls, Ticks}
use Rattle.nt_grammar.specs.declared.parser.Statement.{Statement}
use Rattle.nt_grammar.specs.declared.parser.Statement.TheVariants.{Blank, Create, Perform, Tick}
use Rattle.nt_grammar.specs.Scope.{Scope}
use Rattle.nt_grammar.specs.Naming.{handle_of}
use Rattle.nt_grammar.specs.Lines.{opened_scope, IsLine, IsOpeningLine, IsBlankLine}

-- ---- the text of a turn

-- the last digits of a number in base 16, as many as are asked for
abbrev pub hex_digits : ℕ → ℕ → List ℕ
hex_digits zero n = []
hex_digits (suc count) n = hex_digits count (n / 16) ++ digit_glyph true (n % 16) ∷ []

-- eight upper-case hexadecimal digits
abbrev pub hexadecimal_status : ℕ → List ℕ
hexadecimal_status status = codes "0x" ++ hex_digits 8 status

-- when the timer that queued an APC was due
abbrev pub moment_text : Option ℕ → List ℕ
moment_text None = []
moment_text (Some moment) = codes " at " ++ decimal moment

abbrev pub answer_text : Result Reply Refusal → List ℕ
answer_text (Ok Reply.Done) = codes "ok"
answer_text (Ok (Reply.Handle handle)) = codes "handle " ++ decimal handle
answer_text (Ok (Reply.Previous count)) = codes "previous " ++ signed_decimal count
answer_text (Ok (Reply.Status status)) = codes "status " ++ hexadecimal_status status
answer_text (Ok Reply.Pended) = codes "pending"
answer_text (Ok (Reply.Apc None)) = codes "apc none"
answer_text (Ok (Reply.Apc (Some apc))) = codes "apc " ++ decimal apc.routine ++ codes " " ++ decimal apc.arg ++ moment_text apc.at
answer_text (Err refusal) = codes "error " ++ decimal (number_of refusal)

abbrev pub grant_text : Grant → List ℕ
grant_text grant = codes "t" ++ decimal grant.thread ++ codes " status " ++ hexadecimal_status grant.status

abbrev pub line_start : ℕ → List ℕ
line_start line = decimal line ++ codes ": "

abbrev pub output_line : ℕ → List ℕ → List ℕ
output_line line text = line_start line ++ text ++ 10 ∷ []

abbrev pub turn_text : ℕ → Result Reply Refusal → List Grant → List ℕ
turn_text line result grants = output_line line (answer_text result) ++ flat_map (λ grant. output_line line (grant_text grant)) grants

-- a thread's name, where it waits
abbrev pub waiter_text : State → ℕ → List ℕ
waiter_text s thread = if pends s thread then codes " t" ++ decimal thread else []

-- the threads below this number that wait, rising
abbrev pub waiting_text : State → ℕ → List ℕ
waiting_text s zero = []
waiting_text s (suc thread) = waiting_text s thread ++ waiter_text s thread

abbrev pub or_none : List ℕ → List ℕ
or_none [] = codes " none"
or_none (byte ∷ bytes) = byte ∷ bytes

-- the line after the last
abbrev pub end_text : ℕ → State → List ℕ
end_text threads s = codes "end: pending" ++ or_none (waiting_text s threads) ++ 10 ∷ []

-- ---- one line

-- a creation's name stands for the handle that it answered
abbrev pub binds : List ℕ → Option ℕ → Scope → Scope
binds name None scope = scope
binds name (Some handle) scope = record scope { names = scope.names ++ (name, handle) ∷ [] }

-- That call was made, with this result and these grants, and this is its output.
pub record Makes (line who : ℕ) (call : Call) (result : Result Reply Refusal) (grants : List Grant) (turns : List Turn) (text : List ℕ) : Type 0 where
  pub turn : turns ≡ Calls who call result grants ∷ []
  pub output : text ≡ turn_text line result grants

-- That tick was made, with this result and these grants, and this is its output. No thread makes a script's ticks: they count as thread 0's.
pub record Passes (line moment : ℕ) (result : Result Reply Refusal) (grants : List Grant) (turns : List Turn) (text : List ℕ) : Type 0 where
  pub turn : turns ≡ Ticks 0 moment result grants ∷ []
  pub output : text ≡ turn_text line result grants

-- The statement on this line is carried out by these turns, with this output.
abbrev pub StatementIsCarriedOut : ℕ → Statement → Scope → List Turn → List ℕ → Scope → Type 0
StatementIsCarriedOut line Blank scope turns text after = (turns ≡ []) × (text ≡ []) × (after ≡ scope)
StatementIsCarriedOut line (Create who name act) scope turns text after =
    (result : Result Reply Refusal) × (grants : List Grant) × Makes line who (Call.Act act) result grants turns text × (after ≡ binds name (handle_of result) scope)
StatementIsCarriedOut line (Perform who call) scope turns text after =
    (result : Result Reply Refusal) × (grants : List Grant) × Makes line who call result grants turns text × (after ≡ scope)
StatementIsCarriedOut line (Tick moment) scope turns text after =
    (result : Result Reply Refusal) × (grants : List Grant) × Passes line moment result grants turns text × (after ≡ scope)

-- This line is carried out by these turns, with this output. Before the `threads` line there is no scope.
abbrev pub LineGives : ℕ → List ℕ → Option Scope → List Turn → List ℕ → Option Scope → Type 0
LineGives line bytes None turns text None = IsBlankLine bytes × (turns ≡ []) × (text ≡ [])
LineGives line bytes None turns text (Some after) = IsOpeningLine after.threads bytes × (turns ≡ []) × (text ≡ []) × (after ≡ opened_scope after.threads)
LineGives line bytes (Some scope) turns text None = ⊥
LineGives line bytes (Some scope) turns text (Some after) = (statement : Statement) × IsLine scope statement bytes × StatementIsCarriedOut line statement scope turns text after

-- ---- all lines

-- These lines, from this number and scope on, are carried out by these turns, with this output.
abbrev pub Transcript : ℕ → Option Scope → List (List ℕ) → List Turn → List ℕ → Option Scope → Type 0
Transcript line scope [] turns text after = (turns ≡ []) × (text ≡ []) × (after ≡ scope)
Transcript line scope (bytes ∷ lines) turns text after =
    (first rest : List Turn) × (head tail : List ℕ) × (mid : Option Scope) × (turns ≡ first ++ rest) × (text ≡ head ++ tail)
    × LineGives line bytes scope first head mid × Transcript (line + 1) mid lines rest tail after
