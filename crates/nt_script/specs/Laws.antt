-- What follows from the definitions alone.
use Rattle.std.specs.Prelude.{◌≡◌, ℕ, Bool, false, List, ◌++◌, Option}
use Rattle.std.specs.List.{All}
use Rattle.nt_calls.specs.Runs.{Turn, Calls, Ticks}
use Rattle.nt_laws.specs.Laws.{wants_memory}
use Rattle.nt_script.specs.Running.{Completes, end_of}
use Rattle.nt_script.specs.declared.summary.Summary.{Summary}

-- the reply is `error 8`
abbrev pub is_want : Turn → Bool
is_want (Calls who call result grants) = wants_memory result
is_want (Ticks by moment result grants) = wants_memory result

-- no reply is `error 8`
abbrev pub HadMemory : List Turn → Type 0
HadMemory turns = All (λ turn. is_want turn ≡ false) turns

-- all that a whole run wrote
abbrev pub output_of : {left held held' : Option (List ℕ)} {summary : Summary} → Completes left held held' summary → List ℕ
output_of run = run.text ++ end_of run.end

-- the output is a function of the input: two whole runs of the same input, in which no reply is `error 8`, write the same and count the same
abbrev pub OutputIsAFunctionOfTheInput : Type 0
OutputIsAFunctionOfTheInput =
    (left before after left' before' after' : Option (List ℕ)) (summary summary' : Summary)
    (run : Completes left before after summary) (other : Completes left' before' after' summary')
    → run.input ≡ other.input
    → HadMemory run.turns
    → HadMemory other.turns
    → (output_of run ≡ output_of other) × (summary ≡ summary')
