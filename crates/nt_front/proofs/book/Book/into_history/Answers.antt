use Rattle.std.proofs.Common.{ap}
use Rattle.nt_front.specs.Books.{Ledger}
use Rattle.nt_front.proofs.book.Book.into_history.Goals as goal

pub returns-clause-history : goal.returns-clause-history
returns-clause-history g c = (ap (λ (b : Ledger). b.first) c.self.view_is, ap (λ (b : Ledger). b.base) c.self.view_is, ap (λ (b : Ledger). b.journal) c.self.view_is)
