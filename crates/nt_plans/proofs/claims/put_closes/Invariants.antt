use Rattle.std.proofs.Common.{◌≡◌, ◌++◌, not, take}
use Rattle.std.specs.List.{filter}
use Rattle.nt_plans.specs.Gates.{close_lines, is_told}
use Rattle.nt_plans.proofs.claims.put_closes.Given as goal

abbrev pub invariant-loop-handle : goal.invariant-loop-handle
invariant-loop-handle l = l.out.items ≡ l.fn.out.items ++ close_lines l.thread (filter (λ handle. not (is_told l.late l.first handle)) (take l.handle-index l.handles))
