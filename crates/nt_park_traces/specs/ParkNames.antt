-- The names of parking's events: those of the protocol's steps.
use Rattle.std.specs.Prelude.{ℕ, List, codes, ◌≢◌, true, false}
use Rattle.nt_park_traces.specs.declared.park.ParkKind.{ParkKind}

abbrev pub kind_text : ParkKind → List ℕ
kind_text ParkKind.Counts = codes "Counts"
kind_text ParkKind.TakesToLook = codes "TakesToLook"
kind_text ParkKind.TakesToLeave = codes "TakesToLeave"
kind_text (ParkKind.TakesToUnpark false) = codes "TakesToUnpark"
kind_text (ParkKind.TakesToUnpark true) = codes "TakesToUnparkAll"
kind_text ParkKind.GivesToGo = codes "GivesToGo"
kind_text ParkKind.GivesToSleep = codes "GivesToSleep"
kind_text ParkKind.GivesToWake = codes "GivesToWake"
kind_text ParkKind.LooksSame = codes "LooksSame"
kind_text ParkKind.LooksOther = codes "LooksOther"
kind_text ParkKind.Parks = codes "Parks"
kind_text ParkKind.FallsAsleep = codes "FallsAsleep"
kind_text ParkKind.Stirs = codes "Stirs"
kind_text ParkKind.Restarts = codes "Restarts"
kind_text ParkKind.Reads = codes "Reads"
kind_text ParkKind.TimesOut = codes "TimesOut"
kind_text ParkKind.Leaves = codes "Leaves"
kind_text ParkKind.Changes = codes "Changes"
kind_text ParkKind.Calls = codes "Calls"
kind_text (ParkKind.SeesNobody false) = codes "SeesNobody"
kind_text (ParkKind.SeesNobody true) = codes "SeesNobodyAll"
kind_text (ParkKind.SeesSome false) = codes "SeesSome"
kind_text (ParkKind.SeesSome true) = codes "SeesSomeAll"
kind_text (ParkKind.TakesOff false) = codes "TakesOff"
kind_text (ParkKind.TakesOff true) = codes "TakesOffAll"
kind_text ParkKind.Unparks = codes "Unparks"
kind_text (ParkKind.Finishes false) = codes "Finishes"
kind_text (ParkKind.Finishes true) = codes "FinishesAll"
kind_text ParkKind.Wakes = codes "Wakes"
kind_text ParkKind.Returns = codes "Returns"

-- no kind has this name
abbrev pub IsNoName : List ℕ → Type 0
IsNoName name = (kind : ParkKind) → kind_text kind ≢ name
