use Rattle.std.proofs.Common.{ℕ, List, subst, sym}
use Rattle.nt_machine.specs.Dispatcher.{state}
use Rattle.nt_lanes.specs.Lanes.{beginning}
use Rattle.nt_explore.specs.Walk.{Arrives}
use Rattle.nt_explore.proofs.Ways.{if_ok}
use Rattle.nt_explore.proofs.met.again.Goals as goal

pub returns-clause-point : goal.returns-clause-point
returns-clause-point c =
    let start = beginning c.args.plan.now (state c.args.start.now) in
    if_ok _ _ c.at_end.result (λ position same point walk. same (point c.args.index) (subst (λ (ls : List ℕ). Arrives c.args.plan.now start ls (point c.args.index)) (sym c.deref.ensures.value) (c.in_ok-way.ensures.way c.args.plan.now start point walk))) c.at_end.ensures.point
