use Rattle.std.proofs.Common.{arith, refl, ◌≡◌, sym, ◌∙◌, below_more}
use Rattle.std.proofs.lemmas.Bool.Decides.{nat_tests}
use Rattle.std.proofs.lemmas.Grind.{same_number_lists}
use Rattle.nt_waits.specs.Waits.{queue_of}
use Rattle.nt_core.proofs.LikeLemmas.{next_one, read_there}
use Rattle.nt_core.proofs.like.queue_alike.Goals as goal

pub loop-place-preserved : goal.loop-place-preserved
loop-place-preserved c =
    let inv = c.loop-place.invariant in
    let same : c.in-Some-Some.first ≡ c.in-Some-Some.second = let told = c.ne.ensures in let no = c.if-ne.false in grind (arith, nat_tests, told, no) in (
      inv.0,
      next_one (queue_of c.args.waits.now c.args.object) c.loop-place.place c.in-Some-Some.first c.loop-place.here c.next_on-here.result (c.first_on-here.ensures.agrees.once c.args.object) inv.1 c.in-Some-Some.is-0 c.next_on-here.ensures,
      next_one (queue_of c.args.others.now c.args.object) c.loop-place.place c.in-Some-Some.second c.loop-place.there c.next_on-there.result (c.first_on-there.ensures.agrees.once c.args.object) inv.2 c.in-Some-Some.is-1 c.next_on-there.ensures,
      below_more _ _ inv.3 (read_there (queue_of c.args.waits.now c.args.object) c.loop-place.place c.in-Some-Some.first c.loop-place.here inv.1 c.in-Some-Some.is-0 ∙ (same ∙ sym (read_there (queue_of c.args.others.now c.args.object) c.loop-place.place c.in-Some-Some.second c.loop-place.there inv.2 c.in-Some-Some.is-1))),
    )

pub returns : goal.returns
returns c = (
  λ _. same_number_lists (queue_of c.args.waits.now c.args.object) (queue_of c.args.others.now c.args.object) c.loop-place.invariant.0 (λ k below. let past = c.loop-place-test.false in let count = c.blocks_on-count.ensures.count in c.loop-place.invariant.3 k (grind (arith, past, below, count))),
  λ _. refl,
)
