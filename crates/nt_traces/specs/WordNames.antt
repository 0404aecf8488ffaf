-- The names of the words' events: those of the protocol's steps.
use Rattle.std.specs.Prelude.{ℕ, List, codes, ◌≢◌}
use Rattle.nt_traces.specs.declared.word.WordKind.{WordKind}

abbrev pub kind_text : WordKind → List ℕ
kind_text WordKind.Enters = codes "Enters"
kind_text WordKind.Returns = codes "Returns"
kind_text WordKind.Begins = codes "Begins"
kind_text WordKind.TurnsToSleep = codes "TurnsToSleep"
kind_text WordKind.Marks = codes "Marks"
kind_text WordKind.FallsAsleep = codes "FallsAsleep"
kind_text WordKind.Stirs = codes "Stirs"
kind_text WordKind.Restarts = codes "Restarts"
kind_text WordKind.FindsItLate = codes "FindsItLate"
kind_text WordKind.Reads = codes "Reads"
kind_text WordKind.LooksAtTime = codes "LooksAtTime"
kind_text WordKind.Rearms = codes "Rearms"
kind_text WordKind.Grants = codes "Grants"
kind_text WordKind.Calls = codes "Calls"
kind_text WordKind.Wakes = codes "Wakes"

-- no kind has this name
abbrev pub IsNoName : List ℕ → Type 0
IsNoName name = (kind : WordKind) → kind_text kind ≢ name
