-- The text of a statement, written plainly: objects by their handles, and numbers without leading zeros.
use Rattle.std.specs.Prelude.{◌≡◌, ℕ, ℤ, pos, negsuc, ◌<◌, ◌≤◌, ◌^◌, ◌==◌, Bool, true, false, List, [], ◌∷◌, ◌++◌, map, Option, Some, None, if◌then◌else◌, codes}
use Rattle.std.specs.List.{join_with_byte}
use Rattle.std.specs.Fmt.{decimal, signed_decimal}
use Rattle.nt_status.specs.declared.limits.TheConstants.{INFINITE}
use Rattle.nt_status.specs.Flags.{has_flag, event_manual_reset, event_initial_set, mutex_initial_owner, timer_manual_reset}
use Rattle.nt_calls.specs.declared.call.Call.{Call}
use Rattle.nt_calls.specs.declared.call.Act.{Act}
use Rattle.nt_calls.specs.declared.call.WaitCall.{WaitCall}
use Rattle.nt_lines.specs.Words.{is_name}
use Rattle.nt_lines.specs.declared.words.TheConstants.{MAX_CALLER}
use Rattle.nt_grammar.specs.Keywords.{AlertableWord, EndlessWord, PlainWord, other_text}
use Rattle.nt_grammar.specs.Scope.{Scope, bound_in}
use Rattle.nt_grammar.specs.Places.{Place, NamePlace, ObjectPlace, NumberPlace, SignedPlace, TimePlace, ModePlace, ValueOf}
use Rattle.nt_grammar.specs.Grammar.{Line, Nothing, Moment, Called, said_by, Part, Caller, Word, Value, line_parts}
use Rattle.nt_grammar.specs.declared.keyword.Keyword.{Keyword}
use Rattle.nt_grammar.specs.declared.parser.Statement.{Statement}
use Rattle.nt_grammar.specs.declared.parser.Statement.TheVariants.{Blank, Create, Perform, Tick}

-- ---- words

-- `t` and the caller's number
abbrev pub caller_word : ℕ → List ℕ
caller_word who = codes "t" ++ decimal who

-- milliseconds, or `inf`
abbrev pub time_word : ℕ → List ℕ
time_word ms = if ms == INFINITE then other_text EndlessWord else decimal ms

-- whether the wait is alertable, as a word
abbrev pub mode_word : Bool → List ℕ
mode_word alertable = if alertable then other_text AlertableWord else other_text PlainWord

-- a value as it is written in its place
abbrev pub value_word : (place : Place) → ValueOf place → List ℕ
value_word NamePlace name = name
value_word ObjectPlace handle = decimal handle
value_word (NumberPlace least most) n = decimal n
value_word (SignedPlace half) n = signed_decimal n
value_word TimePlace ms = time_word ms
value_word ModePlace alertable = mode_word alertable

-- the word of a part
abbrev pub plain : Part → List ℕ
plain (Caller who) = caller_word who
plain (Word text) = text
plain (Value place value) = value_word place value

-- ---- the line that says a statement

-- the line that makes a handle with this name
abbrev pub creation_line : ℕ → List ℕ → Act → Option Line
creation_line who name (Act.CreateEvent flags) = Some (Called who Keyword.Event (name, tt) (has_flag flags event_manual_reset, (has_flag flags event_initial_set, tt)))
creation_line who name (Act.CreateSemaphore initial maximum) = Some (Called who Keyword.Semaphore (name, (initial, (maximum, tt))) tt)
creation_line who name (Act.CreateMutex flags) = Some (Called who Keyword.Mutex (name, tt) (has_flag flags mutex_initial_owner, tt))
creation_line who name (Act.CreateTimer flags) = Some (Called who Keyword.Timer (name, tt) (has_flag flags timer_manual_reset, tt))
creation_line who name (Act.Duplicate handle access) = Some (Called who Keyword.Duplicate (name, (handle, (access, tt))) tt)
creation_line who name _ = None

-- the line of another act
abbrev pub act_line : ℕ → Act → Option Line
act_line who (Act.SetEvent handle) = Some (Called who Keyword.Set (handle, tt) tt)
act_line who (Act.ResetEvent handle) = Some (Called who Keyword.Reset (handle, tt) tt)
act_line who (Act.PulseEvent handle) = Some (Called who Keyword.Pulse (handle, tt) tt)
act_line who (Act.ReleaseSemaphore handle count) = Some (Called who Keyword.Release (handle, (count, tt)) tt)
act_line who (Act.ReleaseMutex handle) = Some (Called who Keyword.Unlock (handle, tt) tt)
act_line who (Act.SetTimer handle due period routine) = Some (Called who Keyword.Arm (handle, (due, (period, tt))) routine)
act_line who (Act.CancelTimer handle) = Some (Called who Keyword.Cancel (handle, tt) tt)
act_line who (Act.QueueApc handle routine arg) = Some (Called who Keyword.Apc (handle, (routine, (arg, tt))) tt)
act_line who (Act.Close handle) = Some (Called who Keyword.Close (handle, tt) tt)
act_line who Act.NextApc = Some (Called who Keyword.Next tt tt)
act_line who _ = None

-- the line of a waiting call
abbrev pub wait_line : ℕ → WaitCall → Line
wait_line who (WaitCall.Objects false mode handles) = Called who Keyword.Any (mode.ms, (mode.alertable, tt)) handles
wait_line who (WaitCall.Objects true mode handles) = Called who Keyword.All (mode.ms, (mode.alertable, tt)) handles
wait_line who (WaitCall.Sleep mode) = Called who Keyword.Sleep (mode.ms, (mode.alertable, tt)) tt
wait_line who (WaitCall.Swap signal handle mode) = Called who Keyword.Swap (signal, (handle, (mode.ms, (mode.alertable, tt)))) tt

-- the line of a statement, if it has one
abbrev pub line_of : Statement → Option Line
line_of Blank = Some Nothing
line_of (Tick moment) = Some (Moment moment)
line_of (Create who name act) = creation_line who name act
line_of (Perform who (Call.Act act)) = act_line who act
line_of (Perform who (Call.Wait wait)) = Some (wait_line who wait)
line_of (Perform who Call.Exit) = Some (Called who Keyword.Exit tt tt)

-- the words of a line
abbrev pub line_words : Option Line → List (List ℕ)
line_words None = []
line_words (Some line) = map plain (line_parts line)

-- the words of a statement
abbrev pub spelling : Statement → List (List ℕ)
spelling statement = line_words (line_of statement)

-- a statement's own text: its words with a space between any two
abbrev pub statement_text : Statement → List ℕ
statement_text statement = join_with_byte 32 (spelling statement)

-- ---- what a line can say

-- a handle's number
abbrev pub IsHandle : ℕ → Type 0
IsHandle handle = handle < 2 ^ 32

-- milliseconds
abbrev pub IsTime : ℕ → Type 0
IsTime ms = ms < 2 ^ 32

-- a signed number, of which so many are negative and as many are not
abbrev pub IsSigned : ℕ → ℤ → Type 0
IsSigned half (pos n) = n < half
IsSigned half (negsuc n) = n < half

-- a lawful name that stands for nothing yet
abbrev pub IsFreeName : Scope → List ℕ → Type 0
IsFreeName scope name = (is_name name ≡ true) × (bound_in scope.names name ≡ None)

-- a value that a word can have in a place
abbrev pub CanStand : Scope → (place : Place) → ValueOf place → Type 0
CanStand scope NamePlace name = IsFreeName scope name
CanStand scope ObjectPlace handle = IsHandle handle
CanStand scope (NumberPlace least most) n = (least ≤ n) × (n ≤ most)
CanStand scope (SignedPlace half) n = IsSigned half n
CanStand scope TimePlace ms = IsTime ms
CanStand scope ModePlace alertable = Unit {0}

-- a part that a word can say
abbrev pub CanSay : Scope → Part → Type 0
CanSay scope (Caller who) = who ≤ MAX_CALLER
CanSay scope (Word text) = Unit {0}
CanSay scope (Value place value) = CanStand scope place value

-- each of these parts can be said
abbrev pub CanSayAll : Scope → List Part → Type 0
CanSayAll scope [] = Unit {0}
CanSayAll scope (part ∷ parts) = CanSay scope part × CanSayAll scope parts

-- The statement is that of a line with lawful names and numbers.
abbrev pub CanBeSaid : Scope → Statement → Type 0
CanBeSaid scope statement = (line : Line) × (said_by line ≡ statement) × CanSayAll scope (line_parts line)
