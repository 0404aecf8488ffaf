use Rattle.std.proofs.Common.{arith, refl, length, ◌<◌, below_more, sym, ◌∙◌}
use Rattle.std.proofs.lemmas.List.{same_lists, length-map}
use Rattle.nt_apc.specs.Inbox.{Contents}
use Rattle.nt_apc.specs.Place.{queues_in}
use Rattle.nt_apc.proofs.LikeLemmas.{same_there, same_here}
use Rattle.nt_apc.proofs.linked.are_like.Goals as goal

pub returns-then-not-is_like : goal.returns-then-not-is_like
returns-then-not-is_like c =
    let within : c.loop-i.i < length c.args.others.now = let it = c.loop-i-test.true in let same = c.loop-i.invariant.0 in grind (arith, it, same) in (
      λ e. (cc),
      λ same. let like = c.is_like.ensures.1 (same_here c.args.inboxes.now c.args.others.now c.loop-i.i c.index-inboxes-i.result c.index-others-i.result c.index-inboxes-i.is c.index-others-i.is c.loop-i-test.true within same) in let not_like = c.if-not-is_like.true in (cc),
    )

pub loop-i-preserved : goal.loop-i-preserved
loop-i-preserved c =
    let within : c.loop-i.i < length c.args.others.now = let it = c.loop-i-test.true in let same = c.loop-i.invariant.0 in grind (arith, it, same) in (
      c.loop-i.invariant.0,
      below_more _ _ c.loop-i.invariant.1 (same_there c.args.inboxes.now c.args.others.now c.loop-i.i c.index-inboxes-i.result c.index-others-i.result c.index-inboxes-i.is c.index-others-i.is c.loop-i-test.true within (c.is_like.ensures.0 c.if-not-is_like.false)),
    )

pub returns : goal.returns
returns c = (
  λ _. same_lists (queues_in c.args.inboxes.now) (queues_in c.args.others.now) (length-map c.args.inboxes.now (λ (z : Contents). z.queue) ∙ (c.loop-i.invariant.0 ∙ sym (length-map c.args.others.now (λ (z : Contents). z.queue)))) (λ k d below. let past = c.loop-i-test.false in let count = length-map c.args.inboxes.now (λ (z : Contents). z.queue) in c.loop-i.invariant.1 k (grind (arith, past, below, count)) d),
  λ _. refl,
)
