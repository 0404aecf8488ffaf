use Rattle.std.proofs.Common.{arith, length}
use Rattle.nt_machine.specs.Dispatcher.{state}
use Rattle.nt_tables.specs.Handles.{opened_at}
use Rattle.nt_explore.specs.Hash.{mixed_handle, low_half}
use Rattle.nt_explore.proofs.Slots.{folded_more, folded_all}
use Rattle.nt_explore.proofs.hash.hash_of_handles.Goals as goal

pub loop-number-preserved : goal.loop-number-preserved
loop-number-preserved c = folded_more (λ h number. mixed_handle h (opened_at (state c.args.core.now).handles (low_half number))) c.args.hash c.loop-number.number c.loop-number.so_far c.hash_of_handle-so_far.result c.loop-number.invariant c.hash_of_handle-so_far.ensures

pub returns : goal.returns
returns c =
    let past = c.loop-number-test.false in
    let end = c.handles-number-end.ensures in
    let auto = c.loop-number.auto.number-end in
    folded_all (λ h number. mixed_handle h (opened_at (state c.args.core.now).handles (low_half number))) c.args.hash c.loop-number.number (length (state c.args.core.now).handles) c.loop-number.so_far c.loop-number.invariant (omega (arith, past, end, auto))
