use Rattle.std.proofs.Common.{subst, ap, sym, ◌∙◌}
use Rattle.std.specs.Prelude.{slice_get}
use Rattle.nt_waits.specs.Queues.{list_at}
use Rattle.nt_waits.specs.Waits.{Waits, queue_of, Agrees}
use Rattle.nt_waits.proofs.ViewLemmas.{get_or-threads, first_thread-threads}
use Rattle.nt_waits.proofs.AgreeLemmas.{agrees}
use Rattle.nt_waits.proofs.table.WaitTable.first_on.Goals as goal

pub returns-clause-first : goal.returns-clause-first
returns-clause-first c = c.first.ensures ∙ first_thread-threads (list_at c.self.inside.queues c.args.object) ∙ ap (λ q. slice_get q 0) (sym (get_or-threads c.self.inside.queues.lists c.args.object)) ∙ ap (λ v. slice_get (queue_of v c.args.object) 0) c.self.view_is

pub returns-clause-agrees : goal.returns-clause-agrees
returns-clause-agrees c = subst (λ (v : Waits). Agrees v.pending v.queues) c.self.view_is (agrees c.self.inside.queues c.self.inside.waits.items c.self.invariant.table)
