use Rattle.std.proofs.Common.{◌≡◌, length, sym, subst, arith}
use Rattle.nt_machine.specs.Dispatcher.{Dispatcher}
use Rattle.nt_core.proofs.renewals.is_left.Goals as goal

pub is_empty-requires : goal.is_empty-requires
is_empty-requires c =
    let inboxes : length c.machine.inside.apcs.queues ≡ c.machine.inside.threads = subst (λ (d : Dispatcher). length d.apcs.queues ≡ d.threads) (sym c.machine.view_is) c.requires.sound.inboxes in
    let less = c.if-thread-machine.false in
    let same = c.new.ensures in
    omega (arith, inboxes, less, same)
