use Rattle.std.proofs.Common.{◌≡◌, rules}
use Rattle.std.proofs.lemmas.Fn.{filter_same}
use Rattle.nt_apc.specs.Queues.{without_from}
use Rattle.nt_apc.proofs.QueueLemmas.{plain_count-without_from}
use Rattle.nt_apc.proofs.inbox.Inbox.withdraw.Goals as goal

filtered : (c : goal.After-retain) → c.retain.new.self.items ≡ without_from c.args.timer c.self.inside.queue.items
filtered c = filter_same _ _ _ (λ x b f' k. search rules) _ _ c.retain.ensures.filtered

pub invariant_of-self : goal.invariant_of-self
invariant_of-self c = rw (filtered c, c.retain.ensures.capacity, plain_count-without_from) c.self.invariant

pub returns-clause-queue : goal.returns-clause-queue
returns-clause-queue c = rw (← c.self.view_is) (filtered c)
