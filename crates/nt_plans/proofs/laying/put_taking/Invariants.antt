use Rattle.std.proofs.Common.{◌≡◌, ◌∷◌, ◌++◌, Some, map, take}
use Rattle.nt_calls.specs.declared.call.Act.{Act}
use Rattle.nt_plans.proofs.laying.put_taking.Given as goal

abbrev pub invariant-loop-handle : goal.invariant-loop-handle
invariant-loop-handle l = l.acts.items ≡ l.fn.acts.items ++ map (λ handle. Some (Act.Close handle)) (l.fn.claim ∷ take l.handle-index l.lost)
