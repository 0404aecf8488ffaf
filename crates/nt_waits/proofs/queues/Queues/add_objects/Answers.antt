use Rattle.std.proofs.Common.{ap, ◌∙◌}
use Rattle.nt_waits.specs.Queues.{list_at}
use Rattle.nt_waits.proofs.SoundLemmas.{sound_same_ends, list_same_ends}
use Rattle.nt_waits.proofs.queues.Queues.add_objects.Goals as goal

pub invariant_of-self : goal.invariant_of-self
invariant_of-self c = sound_same_ends c.self.inside.blocks c.self.inside.ends.items c.add_ends.new.ends.items c.add_ends.ensures.kept c.self.invariant

pub returns-clause-kept : goal.returns-clause-kept
returns-clause-kept c h = list_same_ends c.self.inside.blocks c.self.inside.ends.items c.add_ends.new.ends.items c.add_ends.ensures.kept h ∙ ap (λ v. list_at v h) c.self.view_is
