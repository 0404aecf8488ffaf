-- The ways in which events of parking are steps: when each can come, and the state after it.
use Rattle.std.specs.Prelude.{◌≡◌, ◌≢◌, ℕ, Bool, true, false}
use Rattle.nt_protocols.specs.Parking as Protocol
use Rattle.nt_protocols.specs.Threads.{Step, when}
use Rattle.nt_park_traces.specs.declared.park.ParkPlace.{ParkPlace}
use Rattle.nt_park_traces.specs.ParkTrace.{place_of}

-- t goes from one place to another
abbrev pub walk : Protocol.State → ℕ → ParkPlace → ParkPlace → Step Protocol.State
walk s t from to = when (Protocol.IsAt s t (place_of from)) (Protocol.goes s t (place_of to))

-- the same, and the latch is so from now on
abbrev pub gives : Protocol.State → ℕ → ParkPlace → ParkPlace → Step Protocol.State
gives s t from to = when (Protocol.IsAt s t (place_of from)) (record (Protocol.goes s t (place_of to)) { latch = false })

abbrev pub takes : Protocol.State → ℕ → ParkPlace → ParkPlace → Step Protocol.State
takes s t from to =
    when (Protocol.IsAt s t (place_of from) × (s.latch ≡ false)) (record (Protocol.goes s t (place_of to)) { latch = true })

-- no thread is counted
abbrev pub NobodyCounts : Protocol.State → Type 0
NobodyCounts s = (u : ℕ) → Protocol.is_counted (s.seats u).standing (s.seats u).place ≡ false

-- t has unparked all that it has taken off the list, and, if it takes all, nobody stands there
abbrev pub HasUnparked : Protocol.State → ℕ → Bool → Type 0
HasUnparked s t all = (u : ℕ) → ((s.seats u).standing ≢ Protocol.Standing.Taken t) × (all ≡ true → (s.seats u).standing ≢ Protocol.Standing.Listed)
