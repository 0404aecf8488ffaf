use Rattle.std.proofs.Common.{arith}
use Rattle.nt_machine.specs.Dispatcher.{state}
use Rattle.nt_explore.specs.Hash.{mixed_one_thread}
use Rattle.nt_explore.proofs.Slots.{folded_more, folded_all}
use Rattle.nt_explore.proofs.hash.hash_of_threads.Goals as goal

pub loop-thread-preserved : goal.loop-thread-preserved
loop-thread-preserved c = folded_more (mixed_one_thread (state c.args.core.now)) c.args.hash c.loop-thread.thread c.loop-thread.so_far c.hash_of_thread-so_far.result c.loop-thread.invariant c.hash_of_thread-so_far.ensures

pub returns : goal.returns
returns c =
    let past = c.loop-thread-test.false in
    let end = c.threads-thread-end.ensures in
    let auto = c.loop-thread.auto.thread-end in
    folded_all (mixed_one_thread (state c.args.core.now)) c.args.hash c.loop-thread.thread (state c.args.core.now).threads c.loop-thread.so_far c.loop-thread.invariant (omega (arith, past, end, auto))
