use Rattle.std.proofs.Common.{rules}
use Rattle.nt_threads.proofs.Counting.{counted_more, counted_all}
use Rattle.nt_threads.proofs.counts.counts_of.Goals as goal

pub loop-entry-preserved : goal.loop-entry-preserved
loop-entry-preserved c =
    let l = c.loop-entry in
    let more = counted_more c.args.threads c.args.mutex c.args.entries.now l.entry-index l.waiting.items l.acquired l.released l.posted l.abandoned c.entry-item.result l.invariant
    (search rules) (search rules) (search rules) in
    rw (c.one_if-acquired.ensures, c.acquires.ensures.acquires, c.acquires.ensures.waiting, c.one_if-released.ensures, c.is_release.ensures, c.from-posted.ensures, c.posts_in.ensures, c.one_if-abandoned.ensures, c.is_abandoned.ensures) more

pub returns-clause-acquired : goal.returns-clause-acquired
returns-clause-acquired c =
    let l = c.loop-entry in
    (counted_all c.args.threads c.args.mutex c.args.entries.now l.entry-index l.waiting.items l.acquired l.released l.posted l.abandoned l.invariant (search rules)).0

pub returns-clause-released : goal.returns-clause-released
returns-clause-released c =
    let l = c.loop-entry in
    (counted_all c.args.threads c.args.mutex c.args.entries.now l.entry-index l.waiting.items l.acquired l.released l.posted l.abandoned l.invariant (search rules)).1

pub returns-clause-posted : goal.returns-clause-posted
returns-clause-posted c =
    let l = c.loop-entry in
    (counted_all c.args.threads c.args.mutex c.args.entries.now l.entry-index l.waiting.items l.acquired l.released l.posted l.abandoned l.invariant (search rules)).2

pub returns-clause-abandoned : goal.returns-clause-abandoned
returns-clause-abandoned c =
    let l = c.loop-entry in
    (counted_all c.args.threads c.args.mutex c.args.entries.now l.entry-index l.waiting.items l.acquired l.released l.posted l.abandoned l.invariant (search rules)).3
