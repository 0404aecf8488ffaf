use Rattle.std.proofs.Common.{rules, refl}
use Rattle.nt_machine.specs.Dispatcher.{state}
use Rattle.nt_look.proofs.Deciding.{one_more, all_hang, HangBelow}
use Rattle.nt_look.proofs.stuck.is_stuck.Goals as goal

pub loop-thread-preserved : goal.loop-thread-preserved
loop-thread-preserved c = one_more c.args.core.now c.args.over.now c.loop-thread.thread c.loop-thread.invariant (c.if-not-is_hanging.ensures.0 refl)

pub returns : goal.returns
returns c =
    let all : HangBelow c.args.core.now c.args.over.now (state c.args.core.now).threads = λ t below. c.loop-thread.invariant t (search (rules, below)) in
    (λ is. all_hang c.args.core.now c.args.over.now c.stands.ensures all, λ is. refl)
