use Rattle.std.proofs.Common.{arith}
use Rattle.nt_explore.proofs.Slots.{finds_free}
use Rattle.nt_explore.proofs.met.put.Goals as goal

pub returns : goal.returns
returns c = absurd (finds_free c.args.slots.now c.args.hash c.loop-step.step c.requires (let past = c.loop-step-test.false in omega (arith, past)) c.loop-step.invariant.1)
