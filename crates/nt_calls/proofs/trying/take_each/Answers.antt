use Rattle.std.proofs.Common.{◌≡◌, ◌≢◌, ◌<◌, ◌+◌, get_or, take, length, arith, sym, ap, ◌∙◌}
use Rattle.std.proofs.lemmas.List.{take_more, get_or_read}
use Rattle.nt_calls.specs.Serving.{take_at, take_each}
use Rattle.nt_objects.specs.Object.{has_room}
use Rattle.nt_calls.proofs.Tries.{take_each_more, ready_other, object_taken_other, differ}
use Rattle.nt_calls.proofs.trying.take_each.Goals as goal

pub loop-number-preserved : goal.loop-number-preserved
loop-number-preserved c =
    let i = c.loop-number.number-index in
    let hs = c.args.numbers.now in
    let h = c.number-item.result in
    let lt : i < length hs = c.loop-number-test.true in
    let item : h ≡ get_or hs i 0 = get_or_read hs i h lt c.number-item.is 0 in
    let more : take_each c.args.objects.now.items c.args.thread (take (i + 1) hs) ≡ take_at (take_each c.args.objects.now.items c.args.thread (take i hs)) c.args.thread (get_or hs i 0) =
    ap (λ xs. take_each c.args.objects.now.items c.args.thread xs) (take_more hs i 0 lt) ∙ take_each_more c.args.objects.now.items c.args.thread (take i hs) (get_or hs i 0) in
    record {
      taken = c.take_at-status.ensures.items ∙ (ap (λ os. take_at os c.args.thread h) c.loop-number.invariant.taken ∙ (ap (λ k. take_at (take_each c.args.objects.now.items c.args.thread (take i hs)) c.args.thread k) item ∙ sym more));
      ready = λ j above below.
          let differs : get_or hs j 0 ≢ h = λ e. differ hs i j c.requires.apart (omega (arith, above)) below (sym (e ∙ item)) in
          rw c.take_at-status.ensures.items (ready_other c.loop-number.objects.items c.args.thread h (get_or hs j 0) differs ∙ c.loop-number.invariant.ready j (omega (arith, above)) below);
      room = λ j above below.
          let differs : get_or hs j 0 ≢ h = λ e. differ hs i j c.requires.apart (omega (arith, above)) below (sym (e ∙ item)) in
          rw c.take_at-status.ensures.items (ap has_room (object_taken_other c.loop-number.objects.items c.args.thread h (get_or hs j 0) differs) ∙ c.loop-number.invariant.room j (omega (arith, above)) below);
      threads = c.take_at-status.ensures.threads ∙ c.loop-number.invariant.threads;
    }
