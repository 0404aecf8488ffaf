-- What is known of a script while it runs: who waits since which line, and what its objects and threads are called.
use Rattle.std.specs.Prelude.{◌≡◌, ℕ, ◌+◌, ◌==◌, ◌<◌, ◌++◌, List, [], ◌∷◌, length, take, replicate, position, unwrap_or, option_map, slice_index_or, Bool, false, nat_eq, codes, Option, Some, None, if◌then◌else◌}
use Rattle.std.specs.List.{starts_with}
use Rattle.nt_status.specs.declared.limits.TheConstants.{MAX_THREADS}
use Rattle.nt_tables.specs.Handles.{opened_at}
use Rattle.nt_calls.specs.State.{pends}
use Rattle.nt_calls.specs.Runs.{Turn}
use Rattle.nt_grammar.specs.Scope.{handle_in}
use Rattle.nt_script.specs.Progress.{Progress, Advances, progress_of}
use Rattle.nt_script.specs.Running.{FaultNext}
use Rattle.nt_grammar.specs.declared.fault.ScriptFault.{ScriptFault}
use Rattle.nt_hangs.specs.declared.watch.Watch.{Watch}

-- how far the script has come; by thread, the line on which its pending wait began, or 0; by the places of names, the numbers of the
-- objects that they were given to; and the lines that are a comment, which may tell names
pub record Seen : Type 0 where
  pub now : Option Progress
  pub since : List ℕ
  pub objects : List ℕ
  pub told : List ℕ

abbrev pub seen_of : Watch → Seen
seen_of watch = record { now = progress_of watch.session; since = watch.since.items; objects = watch.objects.items; told = watch.told.items }

-- nothing is seen yet
abbrev pub unseen : Seen
unseen = record { now = None; since = replicate MAX_THREADS 0; objects = []; told = [] }

-- ---- one line

abbrev pub is_waiting : Option Progress → ℕ → Bool
is_waiting None t = false
is_waiting (Some now) t = pends now.state t

abbrev pub names_of : Option Progress → List (List ℕ × ℕ)
names_of None = []
names_of (Some now) = now.scope.names

-- the number of the object that the handle names
abbrev pub object_of : Option Progress → ℕ → ℕ
object_of None handle = 0
object_of (Some now) handle = unwrap_or (option_map (λ opened. opened.object) (opened_at now.state.handles handle)) 0

abbrev pub since_of : Seen → ℕ → ℕ
since_of seen t = slice_index_or seen.since t 0

-- since when a thread waits: since this line, if it did not wait before it
abbrev pub since_then : ℕ → Bool → ℕ → ℕ
since_then number waits since = if waits then (if since == 0 then number else since) else 0

-- the object of the handle that this line gave a name, if it gave one
abbrev pub newly_named : Option Progress → Option ℕ → List ℕ
newly_named now None = []
newly_named now (Some handle) = object_of now handle ∷ []

-- a line that is a comment, with an LF
abbrev pub telling : List ℕ → List ℕ
telling bytes = if starts_with nat_eq bytes (codes "; ") then bytes ++ (10 ∷ []) else []

-- This line was carried out, and was seen.
pub record Sees (number : ℕ) (bytes : List ℕ) (old new : Seen) : Type 0 where
  pub turns : List Turn
  pub text : List ℕ
  pub advances : Advances number bytes old.now turns text new.now
  pub since : (t : ℕ) → t < MAX_THREADS → since_of new t ≡ since_then number (is_waiting new.now t) (since_of old t)
  pub objects : new.objects ≡ old.objects ++ newly_named new.now (handle_in (names_of new.now) (length (names_of old.now)))
  pub told : new.told ≡ old.told ++ telling bytes

-- ---- all lines

-- These lines, from this number on, were carried out and seen.
abbrev pub SeesAll : ℕ → Seen → List (List ℕ) → Seen → Type 0
SeesAll number old [] new = new ≡ old
SeesAll number old (bytes ∷ lines) new = (mid : Seen) × Sees number bytes old mid × SeesAll (number + 1) mid lines new

abbrev pub is_zero : ℕ → Bool
is_zero byte = byte == 0

-- a text ends at its first zero byte
abbrev pub before_zero : List ℕ → List ℕ
before_zero bytes = take (unwrap_or (position is_zero bytes) (length bytes)) bytes

-- the lines up to this one
abbrev pub lines_up_to : Option ℕ → List (List ℕ) → List (List ℕ)
lines_up_to None lines = lines
lines_up_to (Some last) lines = take last lines

-- The lines before this one were seen, and this is the first fault of what comes next.
pub record StopsAt (number : ℕ) (fault : ScriptFault) (lines : List (List ℕ)) : Type 0 where
  pub before : List (List ℕ)
  pub after : List (List ℕ)
  pub seen : Seen
  pub split : lines ≡ before ++ after
  pub place : number ≡ 1 + length before
  pub sees : SeesAll 1 unseen before seen
  pub cause : FaultNext fault before seen.now after
