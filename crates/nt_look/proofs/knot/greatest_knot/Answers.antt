use Rattle.std.proofs.Common.{List, Bool, subst}
use Rattle.nt_machine.specs.Dispatcher.{state}
use Rattle.nt_look.specs.Deciding.{IsUntied}
use Rattle.nt_look.proofs.Loosening.{fewer_marks, one_free}
use Rattle.nt_look.proofs.knot.greatest_knot.Goals as goal

pub loop-thread-smaller : goal.loop-thread-smaller
loop-thread-smaller c =
    let untied = subst (λ (marks : List Bool). IsUntied c.args.over.now marks (state c.args.core.now) c.in-Some.thread) c.deref.ensures.value c.in-Some.ensures in
    fewer_marks c.loop-thread.knot.items c.in-Some.thread untied.inside

pub loop-thread-preserved : goal.loop-thread-preserved
loop-thread-preserved c =
    let untied = subst (λ (marks : List Bool). IsUntied c.args.over.now marks (state c.args.core.now) c.in-Some.thread) c.deref.ensures.value c.in-Some.ensures in
    one_free c.args.over.now c.loop-thread.knot.items (state c.args.core.now) c.in-Some.thread c.loop-thread.invariant untied
