-- Whether anything can end the waits, in words.
use Rattle.std.specs.Prelude.{ℕ, zero, suc, ◌-◌, ◌==◌, ◌||◌, ◌&&◌, ◌++◌, nat_lt, Bool, List, [], take, count_by, Option, None, Some, if◌then◌else◌, codes}
use Rattle.std.specs.FinMap.{len}
use Rattle.std.specs.Fmt.{decimal}
use Rattle.nt_calls.specs.State.{State}
use Rattle.nt_look.specs.Hangs.{marked}
use Rattle.nt_wording.specs.Names.{thread_title}

-- how many threads have a mark
abbrev pub marks_in : List Bool → ℕ
marks_in marks = count_by (λ mark. mark) marks

-- what stands before the name of the thread after so many of them
abbrev pub separator : ℕ → ℕ → List ℕ
separator told count = if told == 0 then [] else if count - told == 1 then codes " and " else codes ", "

-- the names of the marked threads below this number, rising
abbrev pub members_text : List ℕ → List Bool → ℕ → List ℕ
members_text told marks zero = []
members_text told marks (suc t) =
    members_text told marks t ++ (if marked marks t then separator (marks_in (take t marks)) (marks_in marks) ++ thread_title told t else [])

-- the threads that hold each other, of n
abbrev pub knot_text : List ℕ → List Bool → ℕ → List ℕ
knot_text told marks n =
    if marks_in marks == 1 then codes "nothing can end the wait of " ++ members_text told marks n
    else members_text told marks n ++ codes " hold each other: nothing can end their waits"

-- that the waits outside the knot never end either
abbrev pub others_text : Bool → List ℕ
others_text stuck = if stuck then codes "; nor the other waits" else []

abbrev pub next_text : Option ℕ → List ℕ
next_text None = []
next_text (Some moment) = codes "; something is due at " ++ decimal moment

abbrev pub verdict_text : State → List ℕ → Bool → List Bool → Option ℕ → List ℕ
verdict_text s told stuck knot next =
    if len s.waits == 0 then codes "nobody waits"
    else if nat_lt 0 (marks_in knot) then knot_text told knot s.threads ++ others_text (stuck && nat_lt (marks_in knot) (len s.waits))
    else if stuck then codes "stuck: whoever runs waits, and nothing can end that"
    else codes "nothing rules out that the waits end" ++ next_text next

-- the exit status: 0 if nobody waits, 3 if some waits never end, else 4
abbrev pub code_of : State → Bool → List Bool → ℕ
code_of s stuck knot = if len s.waits == 0 then 0 else if stuck || nat_lt 0 (marks_in knot) then 3 else 4
