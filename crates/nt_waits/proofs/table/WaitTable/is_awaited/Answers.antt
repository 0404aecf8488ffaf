use Rattle.std.proofs.Common.{length, ap, sym, ◌∙◌, nat_lt}
use Rattle.std.proofs.lemmas.List.{length-map}
use Rattle.nt_waits.specs.Link.{Link}
use Rattle.nt_waits.specs.Queues.{list_at}
use Rattle.nt_waits.specs.Waits.{queue_of}
use Rattle.nt_waits.proofs.ViewLemmas.{get_or-threads}
use Rattle.nt_waits.proofs.table.WaitTable.is_awaited.Goals as goal

pub returns : goal.returns
returns c =
    c.has_some.ensures
    ∙ ap (nat_lt 0) (sym (length-map (list_at c.self.inside.queues c.args.object) (λ (l : Link). l.thread)) ∙ ap length (sym (get_or-threads c.self.inside.queues.lists c.args.object)) ∙ ap (λ v. length (queue_of v c.args.object)) c.self.view_is)
