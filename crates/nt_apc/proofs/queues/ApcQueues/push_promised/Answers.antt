use Rattle.std.proofs.Common.{arith}
use Rattle.std.proofs.lemmas.List.{with_items_is}
use Rattle.nt_apc.proofs.ViewLemmas.{sound_keeps}
use Rattle.nt_apc.proofs.queues.ApcQueues.push_promised.Goals as goal

pub returns-clause-keeps : goal.returns-clause-keeps
returns-clause-keeps c =
    rw (with_items_is c.self.inside.inboxes c.push_promised.new.inboxes (omega arith), with_items_is c.self.inside.places c.push_promised.new.places (omega arith))
    (sound_keeps _ _ c.push_promised.ensures.sound)
