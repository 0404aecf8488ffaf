use Rattle.std.proofs.Common.{ap, ◌∙◌}
use Rattle.nt_waits.proofs.CopyLemmas.{sound_copied, lists_copied}
use Rattle.nt_waits.proofs.queues.Queues.copy.Goals as goal

pub invariant_of-result : goal.invariant_of-result
invariant_of-result c = sound_copied c.self.inside.blocks c.in_ok-clone.field-0 c.self.inside.ends.items c.in_ok-clone-2.field-0.items c.in_ok-clone.ensures.cases c.in_ok-clone-2.ensures.cases.0 c.self.invariant

pub returns-clause-lists : goal.returns-clause-lists
returns-clause-lists c =
    lists_copied c.self.inside.blocks c.in_ok-clone.field-0 c.self.inside.ends.items c.in_ok-clone-2.field-0.items c.in_ok-clone.ensures.cases c.in_ok-clone-2.ensures.cases.0 ∙ ap (λ v. v.lists) c.self.view_is
