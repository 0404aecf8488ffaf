-- Which threads are none of a script's: no line of it is a call of theirs.
use Rattle.std.specs.Prelude.{◌≡◌, ℕ, ◌<◌, ◌==◌, ◌&&◌, Bool, false, not, List, [], ◌∷◌, length, Option, None, Some, if◌then◌else◌}
use Rattle.std.specs.List.{list_all, list_any}
use Rattle.nt_status.specs.declared.limits.TheConstants.{MAX_THREADS}
use Rattle.nt_lines.specs.Words.{caller_of, is_plain, text_of, words_of}
use Rattle.nt_calls.specs.State.{State, pends}
use Rattle.nt_look.specs.Hangs.{IsGreatestKnot, marked}

-- the thread that these words begin with, if one is there
abbrev pub first_caller : List (List ℕ) → Option ℕ
first_caller [] = None
first_caller (word ∷ words) = caller_of word

-- the thread that calls on a line, if one does
abbrev pub caller_in : List ℕ → Option ℕ
caller_in line = if list_all is_plain (text_of line) then first_caller (words_of (text_of line)) else None

abbrev pub is_thread : ℕ → Option ℕ → Bool
is_thread t None = false
is_thread t (Some caller) = caller == t

-- the line is a call of this thread
abbrev pub is_call_of : ℕ → List ℕ → Bool
is_call_of t line = is_thread t (caller_in line)

-- no line of the script is a call of this thread
abbrev pub is_absent : List (List ℕ) → ℕ → Bool
is_absent script t = not (list_any (is_call_of t) script)

-- the marks of the threads that are none of the script's
abbrev pub AreAbsent : List (List ℕ) → List Bool → Type 0
AreAbsent script marks = (t : ℕ) → t < MAX_THREADS → marked marks t ≡ is_absent script t

-- the threads that wait, and are of the greatest knot
pub record AreHeld (callers : ℕ → Bool) (s : State) (held : List Bool) : Type 0 where
  pub knot : List Bool
  pub greatest : IsGreatestKnot callers s knot
  pub count : length held ≡ s.threads
  pub are : (t : ℕ) → t < s.threads → marked held t ≡ (marked knot t && pends s t)
