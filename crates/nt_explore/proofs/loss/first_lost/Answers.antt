use Rattle.std.proofs.Common.{◌≡◌, ◌+◌, ℕ, arith, subst, sym}
use Rattle.nt_explore.specs.Levels.{IsFirstLoss}
use Rattle.nt_explore.proofs.Losing.{earlier_told}
use Rattle.nt_explore.proofs.loss.first_lost.Goals as goal

pub loop-thread-preserved : goal.loop-thread-preserved
loop-thread-preserved c = λ plan kinds start visits first point count so edges.
    subst (IsFirstLoss plan point c.args.states (c.loop-thread.thread + 1)) (sym c.earlier-best.ensures)
    (earlier_told plan point c.args.states c.loop-thread.thread c.loop-thread.best c.in_ok-found.found (c.loop-thread.invariant plan kinds start visits first point count so edges) (c.in_ok-found.ensures plan kinds start visits first point count so edges))

pub returns : goal.returns
returns c = λ plan kinds start visits first point count so edges.
    let all : c.loop-thread.thread ≡ c.args.edges.now.threads = let end = c.loop-thread.auto.thread-end in let past = c.loop-thread-test.false in omega (arith, end, past) in
    subst (λ (n : ℕ). IsFirstLoss plan point c.args.states n c.loop-thread.best) all (c.loop-thread.invariant plan kinds start visits first point count so edges)
