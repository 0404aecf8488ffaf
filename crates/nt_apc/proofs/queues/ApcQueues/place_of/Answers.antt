use Rattle.nt_apc.proofs.ViewLemmas.{sound_keeps}
use Rattle.nt_apc.proofs.queues.ApcQueues.place_of.Goals as goal

pub returns-in-Some-clause-keeps : goal.returns-in-Some-clause-keeps
returns-in-Some-clause-keeps c = rw (← c.self.view_is) (sound_keeps _ _ c.self.invariant)

pub returns-in-None-clause-keeps : goal.returns-in-None-clause-keeps
returns-in-None-clause-keeps c = rw (← c.self.view_is) (sound_keeps _ _ c.self.invariant)
