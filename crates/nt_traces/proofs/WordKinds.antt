-- Each kind of event of the words stands in the list of names.
use Rattle.std.proofs.Common.{ℕ, ◌<◌, ◌≤◌, get_or, arith}
use Rattle.nt_traces.specs.declared.word.WordKind.{WordKind}
use Rattle.nt_traces.specs.declared.word_names.TheConstants.{KINDS}

-- what holds of each that is listed holds of each kind
pub of_each_kind : (P : WordKind → Type 0) (n : ℕ) → 15 ≤ n
    → ((k : ℕ) → k < n → P (get_or KINDS k WordKind.Enters)) → (kind : WordKind) → P kind
of_each_kind P n all holds WordKind.Enters = holds 0 (omega arith)
of_each_kind P n all holds WordKind.Returns = holds 1 (omega arith)
of_each_kind P n all holds WordKind.Begins = holds 2 (omega arith)
of_each_kind P n all holds WordKind.TurnsToSleep = holds 3 (omega arith)
of_each_kind P n all holds WordKind.Marks = holds 4 (omega arith)
of_each_kind P n all holds WordKind.FallsAsleep = holds 5 (omega arith)
of_each_kind P n all holds WordKind.Wakes = holds 6 (omega arith)
of_each_kind P n all holds WordKind.Grants = holds 7 (omega arith)
of_each_kind P n all holds WordKind.Stirs = holds 8 (omega arith)
of_each_kind P n all holds WordKind.Reads = holds 9 (omega arith)
of_each_kind P n all holds WordKind.LooksAtTime = holds 10 (omega arith)
of_each_kind P n all holds WordKind.Rearms = holds 11 (omega arith)
of_each_kind P n all holds WordKind.FindsItLate = holds 12 (omega arith)
of_each_kind P n all holds WordKind.Restarts = holds 13 (omega arith)
of_each_kind P n all holds WordKind.Calls = holds 14 (omega arith)
