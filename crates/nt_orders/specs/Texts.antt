-- What is told, in words: the steps of an order, a line each, in columns; who hangs at its end; and why the orders of a script are not explored.
use Rattle.std.specs.Prelude.{Bool, List, None, Option, Some, [], codes, if◌then◌else◌, length, max, nat_lt, replicate, ℕ, ◌&&◌, ◌++◌, ◌-◌, ◌==◌, ◌∷◌}
use Rattle.std.specs.FinMap.{len}
use Rattle.std.specs.List.{flat_map, fold}
use Rattle.std.specs.Fmt.{decimal}
use Rattle.nt_calls.specs.State.{State}
use Rattle.nt_wording.specs.Verdicts.{knot_text, marks_in, others_text}
use Rattle.nt_orders.specs.declared.rows.Row.{Row}
use Rattle.nt_script.specs.Message as run
use Rattle.nt_script.specs.declared.fault.RunFault.TheVariants.{Memory, Read, Script, Write}
use Rattle.nt_orders.specs.declared.fault.OrdersFault.{OrdersFault}
use Rattle.nt_orders.specs.declared.fault.OrdersFault.TheVariants as orders

-- ---- the steps of an order

-- so many spaces
abbrev pub gap : ℕ → List ℕ
gap count = replicate count 32

-- the most digits that the number of a line has
abbrev pub number_width : List Row → ℕ
number_width rows = fold (λ width row. max width (length (decimal row.number))) 0 rows

-- the most bytes that the text of a line has
abbrev pub text_width : List Row → ℕ
text_width rows = fold (λ width row. max width (length row.text.items)) 0 rows

-- the number of a line, at the right of its column
abbrev pub row_place_text : ℕ → ℕ → List ℕ
row_place_text width number = (codes "line " ++ gap (width - length (decimal number))) ++ (decimal number ++ codes "  ")

-- the text of a line, at the left of its column
abbrev pub line_text : ℕ → List ℕ → List ℕ
line_text width text = (text ++ gap (width - length text)) ++ codes "    "

-- a step after so many spaces: its line, and what came of it
abbrev pub row_text : (indent numbers texts : ℕ) → Row → List ℕ
row_text indent numbers texts row = (gap indent ++ row_place_text numbers row.number) ++ (line_text texts row.text.items ++ (row.answer.items ++ codes "\n"))

-- the steps, each after so many spaces
abbrev pub rows_text : ℕ → List Row → List ℕ
rows_text indent rows = flat_map (row_text indent (number_width rows) (text_width rows)) rows

-- ---- who hangs

-- the threads that hold each other, and that no other wait ends either; or that all is stuck
abbrev pub hang_text : State → List ℕ → Bool → List Bool → List ℕ
hang_text s told stuck held =
    if marks_in held == 0 then codes "stuck: whoever has a line left waits, and nothing can end that"
    else knot_text told held s.threads ++ others_text (stuck && nat_lt (marks_in held) (len s.waits))

-- ---- why the orders are not explored

-- the fault in words
abbrev pub order_reason : OrdersFault → List ℕ
order_reason (orders.Run fault) = run.reason_of fault
order_reason (orders.NoThread line) = codes "no such thread"
order_reason (orders.Race line) = codes "in another order a handle may name another thing"
order_reason orders.Memory = codes "out of memory"

-- the line of which it is told, if it is told of one
abbrev pub order_line : OrdersFault → Option ℕ
order_line (orders.Run fault) = Some (run.line_number fault)
order_line (orders.NoThread line) = Some line
order_line (orders.Race line) = Some line
order_line orders.Memory = None

-- the exit status: 2 if the script is at fault, 1 if memory was refused
abbrev pub order_status : OrdersFault → ℕ
order_status (orders.Run (Script line fault)) = 2
order_status (orders.Run (Read line)) = 1
order_status (orders.Run (Write line)) = 1
order_status (orders.Run (Memory line)) = 1
order_status (orders.NoThread line) = 2
order_status (orders.Race line) = 2
order_status orders.Memory = 1

abbrev pub fault_line_text : Option ℕ → List ℕ
fault_line_text None = []
fault_line_text (Some line) = codes "line " ++ (decimal line ++ codes ": ")

-- the line that tells why
abbrev pub order_message : OrdersFault → List ℕ
order_message fault = codes "ntlook: " ++ (fault_line_text (order_line fault) ++ (order_reason fault ++ 10 ∷ []))
