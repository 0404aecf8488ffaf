use Rattle.std.proofs.Common.{arith}
use Rattle.std.proofs.lemmas.List.{with_items_is}
use Rattle.nt_apc.proofs.ViewLemmas.{sound_keeps}
use Rattle.nt_apc.proofs.queues.ApcQueues.push.Goals as goal

pub returns-in_err-push-clause-keeps : goal.returns-in_err-push-clause-keeps
returns-in_err-push-clause-keeps c =
    rw (with_items_is c.self.inside.inboxes c.push.new.inboxes (omega arith))
    (sound_keeps _ _ (c.push.ensures.sound _ (rw c.deref_mut.ensures.value c.self.invariant)))

pub returns-clause-keeps : goal.returns-clause-keeps
returns-clause-keeps c =
    rw (with_items_is c.self.inside.inboxes c.push.new.inboxes (omega arith))
    (sound_keeps _ _ (c.push.ensures.sound _ (rw c.deref_mut.ensures.value c.self.invariant)))
