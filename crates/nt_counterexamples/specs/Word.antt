-- The word by which a thread learns of its grant, with one wrong step each, and what it then comes to.
use Rattle.std.specs.Prelude.{◌≡◌, ◌≢◌, ℕ, true, false}
use Rattle.nt_protocols.specs.Threads.{Step, when}
use Rattle.nt_protocols.specs.Word.{State, Event, LooksAtTime, Grants, Awake, Granted, Passing, ToLookAtTime, Sleeping, IsAt, becomes, waits, step, opening, IsOwed}
use Rattle.nt_counterexamples.specs.Runs.{Reaches}

-- who looks at the time sets its word back, whatever it says
abbrev pub step_overwriting : State → Event → Step State
step_overwriting s (LooksAtTime t) =
    when (IsAt s t ToLookAtTime) (becomes s t (record (s.seats t) { word = Awake; place = Passing; due = false }))
step_overwriting s e = step s e

-- a thread waits, its wait was granted, and its word does not say so
abbrev pub IsNotTold : State → Type 0
IsNotTold s = (u : ℕ) × (waits (s.seats u).place ≡ true) × ((s.seats u).pends ≡ false) × ((s.seats u).word ≢ Granted)

abbrev pub WithAGrantOverwritten : Type 0
WithAGrantOverwritten = Reaches step_overwriting opening IsNotTold

-- who tells a thread that its wait was granted, and finds its word asleep, does not wake it
abbrev pub step_telling_only : State → Event → Step State
step_telling_only s (Grants t u) = when (step s (Grants t u)).may (record s { seats = (step s (Grants t u)).after.seats })
step_telling_only s e = step s e

-- a thread sleeps though its wait was granted, and none is to wake it
abbrev pub SleepsOn : State → Type 0
SleepsOn s = (u : ℕ) × IsAt s u Sleeping × ((s.seats u).pends ≡ false) × (IsOwed s u → ⊥)

abbrev pub WithoutWakeUpOfWhoWasTold : Type 0
WithoutWakeUpOfWhoWasTold = Reaches step_telling_only opening SleepsOn
