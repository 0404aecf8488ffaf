-- What a table ends as, once a look at one of its waits is over.
use Rattle.std.specs.Prelude.{◌≡◌, ⊤}
use Rattle.std.specs.Borrow.{follows_so, MutBor, Fml}
use mathlib.Core.Option.{none}
use Rattle.nt_waits.specs.contracts.table.WaitTable.{the_row}
use Rattle.nt_waits.specs.Waits.{counted_once}
use Rattle.nt_waits.specs.declared.table.WaitTable.{WaitTable}

-- one more look is counted, and nothing else changes
abbrev pub LeavesLooked : MutBor WaitTable → Fml
LeavesLooked table = follows_so the_row the_row table.ghost_name none (λ _ _. ⊤) (λ left. left ≡ record table.now { looked = counted_once table.now.looked })
