-- Lines as they are read, each in its lane.
use Rattle.std.proofs.Common.{◌≡◌, ℕ, List, [], ◌∷◌, ◌++◌, length, ap, append-nil, sym, subst, ◌+◌, Option, None, Some, refl, arith, inl, inr}
use Rattle.std.specs.Prelude.{Result, Ok, Err, IfOk, IfErr}
use Rattle.nt_orders.specs.Plans.{IsLaidOut, IsPlanOf, IsUnreadable, Read, Reads, ReadsAll, Stops, unread}
use Rattle.nt_orders.specs.Reading.{IsLateFault, IsPlanFault, IsScriptOf, at_line, lanes_of}
use Rattle.nt_hangs.specs.Steps.{IsReadyFor}
use Rattle.nt_hangs.specs.Taking.{TakesAll, TakesLines}
use Rattle.nt_plans.specs.Gates.{race_of}
use Rattle.nt_plans.specs.Kept.{IsLaneFault}
use Rattle.nt_machine.specs.Dispatcher.{state}
use Rattle.nt_lines.specs.Lines.{lines_of}
use Rattle.nt_script.specs.Progress.{AreCounted, Progress}
use Rattle.nt_orders.specs.declared.lanes.Script.{Script}
use Rattle.nt_plans.specs.declared.items.LaneFault.{LaneFault}
use Rattle.nt_orders.specs.declared.fault.OrdersFault.{OrdersFault}
use Rattle.nt_orders.specs.Ending.{IsFirstFault}
use Rattle.nt_grammar.specs.declared.fault.LineFault.TheVariants as line
use Rattle.nt_plans.specs.declared.items.LaneFault.TheVariants as lane
use Rattle.nt_orders.specs.declared.fault.OrdersFault.TheVariants as orders

-- a line that can't be read, with its number
pub unreadable : (now : Option Progress) (number : ℕ) (bytes : List ℕ) (fault : LaneFault) → IsLaneFault now bytes fault → IsUnreadable now number bytes (at_line number fault)
unreadable now number bytes (lane.Line (line.Script fault)) is = (refl, is)
unreadable now number bytes (lane.Line line.Memory) is = refl
unreadable now number bytes lane.NoThread is = (refl, is)

-- a line on which nothing is carried out
pub counted_on : (number : ℕ) (now : Option Progress) → AreCounted number now → AreCounted (number + 1) now
counted_on number None counted = tt
counted_on number (Some now) counted = record { calls = omega (arith, counted.calls); refused = counted.refused; granted = counted.granted }

-- the first line may be read
pub ready_at_first : (now : Read) → now ≡ unread → IsReadyFor 1 now.seen
ready_at_first now fresh = rw fresh (tt, refl)

module _ {S : Type 0} (read : S → Read) where
  -- who takes lines reads them
  ReadsAll-of : (number : ℕ) (old new : S) (lines : List (List ℕ)) → TakesAll (λ n bytes a b. Reads n bytes (read a) (read b)) number old lines new → ReadsAll number (read old) lines (read new)
  ReadsAll-of number old new [] same = ap read same
  ReadsAll-of number old new (bytes ∷ lines) taken = (read taken.0, taken.1, ReadsAll-of (number + 1) taken.0 new lines taken.2)

  -- and stops where nothing stops him before
  Stops-after : (number : ℕ) (old mid : S) (before after : List (List ℕ)) (fault : OrdersFault) → TakesAll (λ n bytes a b. Reads n bytes (read a) (read b)) number old before mid
      → Stops (number + length before) (read mid) after fault → Stops number (read old) (before ++ after) fault
  Stops-after number old mid [] after fault same stops =
      let here : number + 0 ≡ number = omega arith in
      subst (λ (it : Read). Stops number it after fault) (ap read same) (subst (λ (n : ℕ). Stops n (read mid) after fault) here stops)
  Stops-after number old mid (line ∷ before) after fault taken stops =
      let here : number + length (line ∷ before) ≡ (number + 1) + length before = omega arith in
      inr (read taken.0, taken.1, Stops-after (number + 1) taken.0 mid before after fault taken.2 (subst (λ (n : ℕ). Stops n (read mid) after fault) here stops))

  module _ (lines : List (List ℕ)) (old new : S) (fresh : read old ≡ unread) where
    -- all lines were read
    pub reads_if_ok : (result : Result ℕ OrdersFault) → TakesLines (λ n bytes a b. Reads n bytes (read a) (read b)) (λ n bytes it fault. IsUnreadable (read it).seen.now n bytes fault) lines old new result
        → IfOk result (λ count. ReadsAll 1 unread lines (read new))
    reads_if_ok (Ok count) taken = subst (λ (from : Read). ReadsAll 1 from lines (read new)) fresh (ReadsAll-of 1 old new lines taken.0)
    reads_if_ok (Err fault) taken = tt

    -- what stops him after them is the first to do so
    pub stops_if_ok : (result : Result ℕ OrdersFault) → TakesLines (λ n bytes a b. Reads n bytes (read a) (read b)) (λ n bytes it fault. IsUnreadable (read it).seen.now n bytes fault) lines old new result
        → IfOk result (λ count. (fault : OrdersFault) → Stops (count + 1) (read new) [] fault → Stops 1 unread lines fault)
    stops_if_ok (Ok count) taken =
        let number : count + 1 ≡ 1 + length lines = omega (arith, taken.1) in
        λ fault stops. subst (λ (from : Read). Stops 1 from lines fault) fresh
        (subst (λ (all : List (List ℕ)). Stops 1 (read old) all fault) (append-nil lines) (Stops-after 1 old new lines [] fault taken.0 (subst (λ (n : ℕ). Stops n (read new) [] fault) number stops)))
    stops_if_ok (Err fault) taken = tt

    -- one could not be read
    pub stops_if_err : (result : Result ℕ OrdersFault) → TakesLines (λ n bytes a b. Reads n bytes (read a) (read b)) (λ n bytes it fault. IsUnreadable (read it).seen.now n bytes fault) lines old new result
        → IfErr result (Stops 1 unread lines)
    stops_if_err (Ok count) taken = tt
    stops_if_err (Err fault) taken =
        subst (λ (from : Read). Stops 1 from lines fault) fresh
        (subst (λ (all : List (List ℕ)). Stops 1 (read old) all fault) (sym taken.split) (Stops-after 1 old taken.mid taken.before (taken.line ∷ taken.after) fault taken.takes (inl taken.refuses)))

-- ---- the script

-- a script that is laid out, or why it is not
pub script_if_ok : (read : Read) (now : Progress) (result : Result Script OrdersFault) → read.seen.now ≡ Some now
    → IfOk result (λ script. IsLaidOut now.state read.items read.front (lanes_of script) (state script.session.core)) → IfOk result (IsScriptOf read)
script_if_ok read now (Ok script) is laid = record { now = now; is = is; laid = laid }
script_if_ok read now (Err fault) is laid = tt

pub race_if_err : (read : Read) (number : ℕ) (result : Result Script OrdersFault) → IfErr result (IsPlanFault (λ line. race_of read.items ≡ Some line))
    → IfErr result (IsLateFault number read)
race_if_err read number (Ok script) race = tt
race_if_err read number (Err fault) race = inr race

-- what was read is its plan
is_plan : (input : List ℕ) (read : Read) (script : Script) → ReadsAll 1 unread (lines_of input) read → IsScriptOf read script
    → IsPlanOf input (lanes_of script) (state script.session.core)
is_plan input read script reads of = record { read = read; now = of.now; reads = reads; is = of.is; laid = of.laid }

-- the same of a script that is there, or not
pub plan_if_ok : (input : List ℕ) (read : Read) (result : Result Script OrdersFault) → ReadsAll 1 unread (lines_of input) read
    → IfOk result (IsScriptOf read) → IfOk result (λ script. IsPlanOf input (lanes_of script) (state script.session.core))
plan_if_ok input read (Ok script) reads is = is_plan input read script reads is
plan_if_ok input read (Err fault) reads is = tt

-- no line that can't be read is a race
never_race : (number : ℕ) (old : Read) (lines : List (List ℕ)) (line : ℕ) → Stops number old lines (orders.Race line) → ⊥
never_race number old [] line (none, is) = (cc)
never_race number old (bytes ∷ lines) line (inl here) = here
never_race number old (bytes ∷ lines) line (inr (mid, reads, later)) = never_race (number + 1) mid lines line later

-- what stops the reading is the first fault
pub first_fault : (input : List ℕ) (fault : OrdersFault) → Stops 1 unread (lines_of input) fault → IsFirstFault input fault
first_fault input (orders.Run fault) stops = stops
first_fault input (orders.NoThread line) stops = stops
first_fault input (orders.Race line) stops = absurd (never_race 1 unread (lines_of input) line stops)
first_fault input orders.Memory stops = tt

-- so is that there is no `threads` line; else two lines may race, or memory was refused
late_fault : (input : List ℕ) (count : ℕ) (now : Read) (fault : OrdersFault) → ((fault : OrdersFault) → Stops (count + 1) now [] fault → Stops 1 unread (lines_of input) fault)
    → ReadsAll 1 unread (lines_of input) now → IsLateFault (count + 1) now fault → IsFirstFault input fault
late_fault input count now fault stops reads (inl (none, is)) = first_fault input fault (stops fault (none, is))
late_fault input count now (orders.Race line) stops reads (inr race) = record { read = now; reads = reads; first = race }
late_fault input count now orders.Memory stops reads (inr memory) = tt
late_fault input count now (orders.NoThread line) stops reads (inr none) = absurd none
late_fault input count now (orders.Run fault) stops reads (inr none) = absurd none

-- the same where there is a script, or none
pub fault_if_err : (input : List ℕ) (count : ℕ) (now : Read) (result : Result Script OrdersFault) → ((fault : OrdersFault) → Stops (count + 1) now [] fault → Stops 1 unread (lines_of input) fault)
    → ReadsAll 1 unread (lines_of input) now → IfErr result (IsLateFault (count + 1) now) → IfErr result (IsFirstFault input)
fault_if_err input count now (Ok script) stops reads is = tt
fault_if_err input count now (Err fault) stops reads is = late_fault input count now fault stops reads is
