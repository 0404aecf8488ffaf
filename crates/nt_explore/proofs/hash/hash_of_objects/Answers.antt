use Rattle.std.proofs.Common.{arith, length, ap, List}
use Rattle.nt_objects.specs.declared.object.Object.{Object}
use Rattle.nt_machine.specs.Dispatcher.{state}
use Rattle.nt_explore.specs.Hash.{mixed_one_object}
use Rattle.nt_explore.proofs.Slots.{folded_more, folded_all}
use Rattle.nt_explore.proofs.hash.hash_of_objects.Goals as goal

pub loop-number-preserved : goal.loop-number-preserved
loop-number-preserved c = folded_more (mixed_one_object (state c.args.core.now)) c.args.hash c.loop-number.number c.loop-number.so_far c.hash_of_number-so_far.result c.loop-number.invariant c.hash_of_number-so_far.ensures

pub returns : goal.returns
returns c =
    let past = c.loop-number-test.false in
    let same = ap (λ (os : List Object). length os) c.objects-number-end.ensures in
    let auto = c.loop-number.auto.number-end in
    folded_all (mixed_one_object (state c.args.core.now)) c.args.hash c.loop-number.number (length (state c.args.core.now).objects) c.loop-number.so_far c.loop-number.invariant (omega (arith, past, same, auto))
