-- Each kind of event stands in the list of names.
use Rattle.std.proofs.Common.{ℕ, ◌<◌, ◌≤◌, true, false, get_or, arith}
use Rattle.nt_park_traces.specs.declared.park.ParkKind.{ParkKind}
use Rattle.nt_park_traces.specs.declared.park_names.TheConstants.{KINDS}

-- what holds of each that is listed holds of each kind
pub of_each_kind : (P : ParkKind → Type 0) (n : ℕ) → 30 ≤ n
    → ((k : ℕ) → k < n → P (get_or KINDS k ParkKind.Counts)) → (kind : ParkKind) → P kind
of_each_kind P n all holds ParkKind.Counts = holds 0 (omega arith)
of_each_kind P n all holds ParkKind.TakesToLook = holds 1 (omega arith)
of_each_kind P n all holds ParkKind.TakesToLeave = holds 2 (omega arith)
of_each_kind P n all holds (ParkKind.TakesToUnpark false) = holds 3 (omega arith)
of_each_kind P n all holds (ParkKind.TakesToUnpark true) = holds 4 (omega arith)
of_each_kind P n all holds ParkKind.GivesToGo = holds 5 (omega arith)
of_each_kind P n all holds ParkKind.GivesToSleep = holds 6 (omega arith)
of_each_kind P n all holds ParkKind.GivesToWake = holds 7 (omega arith)
of_each_kind P n all holds ParkKind.LooksSame = holds 8 (omega arith)
of_each_kind P n all holds ParkKind.LooksOther = holds 9 (omega arith)
of_each_kind P n all holds ParkKind.Parks = holds 10 (omega arith)
of_each_kind P n all holds ParkKind.FallsAsleep = holds 11 (omega arith)
of_each_kind P n all holds ParkKind.Stirs = holds 12 (omega arith)
of_each_kind P n all holds ParkKind.Restarts = holds 13 (omega arith)
of_each_kind P n all holds ParkKind.Reads = holds 14 (omega arith)
of_each_kind P n all holds ParkKind.TimesOut = holds 15 (omega arith)
of_each_kind P n all holds ParkKind.Leaves = holds 16 (omega arith)
of_each_kind P n all holds ParkKind.Changes = holds 17 (omega arith)
of_each_kind P n all holds ParkKind.Calls = holds 18 (omega arith)
of_each_kind P n all holds (ParkKind.SeesNobody false) = holds 19 (omega arith)
of_each_kind P n all holds (ParkKind.SeesNobody true) = holds 20 (omega arith)
of_each_kind P n all holds (ParkKind.SeesSome false) = holds 21 (omega arith)
of_each_kind P n all holds (ParkKind.SeesSome true) = holds 22 (omega arith)
of_each_kind P n all holds (ParkKind.TakesOff false) = holds 23 (omega arith)
of_each_kind P n all holds (ParkKind.TakesOff true) = holds 24 (omega arith)
of_each_kind P n all holds ParkKind.Unparks = holds 25 (omega arith)
of_each_kind P n all holds (ParkKind.Finishes false) = holds 26 (omega arith)
of_each_kind P n all holds (ParkKind.Finishes true) = holds 27 (omega arith)
of_each_kind P n all holds ParkKind.Wakes = holds 28 (omega arith)
of_each_kind P n all holds ParkKind.Returns = holds 29 (omega arith)
