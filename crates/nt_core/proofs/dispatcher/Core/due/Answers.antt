use Rattle.nt_core.proofs.dispatcher.Core.due.Goals as goal

pub returns-in_err-moment : goal.returns-in_err-moment
returns-in_err-moment c = rw c.from_residual.ensures (rw c.self.view_is at c.in_err-moment.ensures)
