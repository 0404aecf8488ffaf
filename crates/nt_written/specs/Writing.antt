-- How a call's line is put word by word. No public clause cites this.
use Rattle.std.specs.Prelude.{◌≡◌, ℕ, ◌+◌, ◌*◌, ◌^◌, ◌<◌, nat_lt, Bool, true, List, [], ◌∷◌, ◌++◌, length, if◌then◌else◌}
use Rattle.std.specs.List.{flat_map, AllByRecursion}
use Rattle.std.specs.Fmt.{decimal}
use Rattle.nt_written.specs.declared.writing.TheConstants.{FEW_BYTES, NUMBER_BYTES}
use Rattle.nt_calls.specs.declared.call.Call.{Call}
use Rattle.nt_calls.specs.declared.call.Act.{Act}
use Rattle.nt_calls.specs.declared.call.WaitCall.{WaitCall}
use Rattle.nt_grammar.specs.Keywords.{keyword_text}
use Rattle.nt_grammar.specs.Naming.{NamesFree}
use Rattle.nt_grammar.specs.declared.keyword.Keyword.{Keyword}
use Rattle.nt_grammar.specs.Scope.{Scope}
use Rattle.nt_grammar.specs.Spelling.{statement_text, CanBeSaid}
use Rattle.nt_grammar.specs.declared.parser.Statement.{Statement}

-- each flag of a creation has a word
abbrev pub flags_have_words : Act → Bool
flags_have_words (Act.CreateEvent flags) = nat_lt flags 4
flags_have_words (Act.CreateMutex flags) = nat_lt flags 2
flags_have_words (Act.CreateTimer flags) = nat_lt flags 2
flags_have_words _ = true

-- and no other call has flags
abbrev pub has_words : Call → Bool
has_words (Call.Act act) = flags_have_words act
has_words _ = true

-- a space and the word of a flag, where it is given
abbrev pub flag_text : Bool → List ℕ → List ℕ
flag_text given word = if given then 32 ∷ word else []

-- the keyword of a wait for all of its objects, or for any
abbrev pub wait_word : Bool → List ℕ
wait_word all = if all then keyword_text Keyword.All else keyword_text Keyword.Any

-- each object after a space
abbrev pub objects_text : List ℕ → List ℕ
objects_text handles = flat_map (λ handle. 32 ∷ decimal handle) handles

-- each of these is the number of a handle
abbrev pub AreHandles : List ℕ → Type 0
AreHandles handles = AllByRecursion (λ handle. handle < 2 ^ 32) handles

-- the statement's own text was put last, and it can be said wherever its name is free
pub record IsPut (old : List ℕ) (statement : Statement) (new : List ℕ) : Type 0 where
  pub puts : new ≡ old ++ statement_text statement
  pub said : (scope : Scope) → NamesFree scope statement → CanBeSaid scope statement

-- how many objects a call's line ends with
abbrev pub objects_in : Call → ℕ
objects_in (Call.Wait (WaitCall.Objects all mode handles)) = length handles
objects_in _ = 0

-- the most bytes of a call's line
abbrev pub room_of : Call → ℕ
room_of call = FEW_BYTES + NUMBER_BYTES * objects_in call
