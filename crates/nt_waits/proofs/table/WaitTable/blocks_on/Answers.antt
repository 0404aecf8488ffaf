use Rattle.std.proofs.Common.{subst, length, ap, sym, ◌∙◌}
use Rattle.std.proofs.lemmas.List.{length-map}
use Rattle.nt_waits.specs.Link.{Link}
use Rattle.nt_waits.specs.Queues.{list_at}
use Rattle.nt_waits.specs.Waits.{Waits, queue_of, Agrees}
use Rattle.nt_waits.proofs.ViewLemmas.{get_or-threads}
use Rattle.nt_waits.proofs.AgreeLemmas.{agrees}
use Rattle.nt_waits.proofs.table.WaitTable.blocks_on.Goals as goal

pub returns-clause-count : goal.returns-clause-count
returns-clause-count c = c.count.ensures ∙ sym (length-map (list_at c.self.inside.queues c.args.object) (λ (l : Link). l.thread)) ∙ ap length (sym (get_or-threads c.self.inside.queues.lists c.args.object)) ∙ ap (λ v. length (queue_of v c.args.object)) c.self.view_is

pub returns-clause-agrees : goal.returns-clause-agrees
returns-clause-agrees c = subst (λ (v : Waits). Agrees v.pending v.queues) c.self.view_is (agrees c.self.inside.queues c.self.inside.waits.items c.self.invariant.table)
