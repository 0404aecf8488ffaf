use Rattle.nt_script.specs.Progress.{progress}
use Rattle.nt_wording.proofs.Telling.{waiters_more}
use Rattle.nt_wording.proofs.waits.put_waiters.Goals as goal

pub loop-thread-preserved : goal.loop-thread-preserved
loop-thread-preserved c =
    waiters_more (progress c.args.session.now) c.args.objects.now c.args.told.now c.args.since.now c.loop-thread.thread c.since_at.result c.args.out.now.items c.loop-thread.out.items c.put_waiter.new.out.items
    c.since_at.ensures c.loop-thread.invariant c.in_ok-put_waiter.ensures
