use Rattle.std.proofs.Common.{◌≡◌, ◌++◌, take}
use Rattle.std.specs.List.{flat_map}
use Rattle.nt_orders.specs.Texts.{number_width, row_text, text_width}
use Rattle.nt_orders.proofs.rows.put_rows.Given as goal

abbrev pub invariant-loop-row : goal.invariant-loop-row
invariant-loop-row l = l.out.items ≡ l.fn.out.items ++ flat_map (row_text l.indent (number_width l.rows) (text_width l.rows)) (take l.row-index l.rows)
