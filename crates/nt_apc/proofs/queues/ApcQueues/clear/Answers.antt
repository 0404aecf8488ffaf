use Rattle.std.proofs.Common.{arith}
use Rattle.std.proofs.lemmas.List.{with_items_is}
use Rattle.nt_apc.proofs.ViewLemmas.{sound_keeps}
use Rattle.nt_apc.proofs.queues.ApcQueues.clear.Goals as goal

pub returns-clause-keeps : goal.returns-clause-keeps
returns-clause-keeps c =
    rw (with_items_is c.self.inside.inboxes c.clear.new.inboxes (omega arith), with_items_is c.self.inside.places c.clear.new.places (omega arith))
    (sound_keeps _ _ c.clear.ensures.sound)
