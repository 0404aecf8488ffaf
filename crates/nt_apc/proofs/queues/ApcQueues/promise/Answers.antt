use Rattle.std.proofs.Common.{arith}
use Rattle.std.proofs.lemmas.List.{with_items_is}
use Rattle.nt_apc.proofs.ViewLemmas.{sound_keeps}
use Rattle.nt_apc.proofs.queues.ApcQueues.promise.Goals as goal

pub returns-then-is_some-clause-keeps : goal.returns-then-is_some-clause-keeps
returns-then-is_some-clause-keeps c = rw (← c.self.view_is) (sound_keeps _ _ c.self.invariant)

pub returns-in_err-promise-clause-keeps : goal.returns-in_err-promise-clause-keeps
returns-in_err-promise-clause-keeps c =
    rw (with_items_is c.self.inside.inboxes c.promise.new.inboxes (omega arith)) (sound_keeps _ _ c.promise.ensures.sound)

pub returns-clause-keeps : goal.returns-clause-keeps
returns-clause-keeps c =
    rw (with_items_is c.self.inside.inboxes c.promise.new.inboxes (omega arith)) (sound_keeps _ _ c.promise.ensures.sound)
