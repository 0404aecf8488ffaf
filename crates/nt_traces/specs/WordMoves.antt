-- The ways in which events of the words are steps: when each can come, and the state after it, with nothing counted.
use Rattle.std.specs.Prelude.{◌≡◌, ℕ, false}
use Rattle.nt_protocols.specs.Word as Protocol
use Rattle.nt_protocols.specs.Threads.{Step, when}
use Rattle.nt_traces.specs.declared.word.WordPlace.{WordPlace}
use Rattle.nt_traces.specs.WordTrace.{place_of, uncounted}

-- t goes from one place to another
abbrev pub walk : Protocol.State → ℕ → WordPlace → WordPlace → Step Protocol.State
walk s t from to = when (Protocol.IsAt s t (place_of from)) (uncounted (Protocol.goes s t (place_of to)))

-- the same where it owes nobody a wake-up
abbrev pub leave : Protocol.State → ℕ → WordPlace → WordPlace → Step Protocol.State
leave s t from to =
    when (Protocol.IsAt s t (place_of from) × ((u : ℕ) → s.owes t u ≡ false))
    (uncounted (Protocol.goes s t (place_of to)))

-- it has looked at the time, and goes there
abbrev pub look : Protocol.State → ℕ → WordPlace → WordPlace → Step Protocol.State
look s t from to =
    when (Protocol.IsAt s t (place_of from))
    (uncounted (Protocol.becomes s t (Protocol.looked (s.seats t) (place_of to))))
