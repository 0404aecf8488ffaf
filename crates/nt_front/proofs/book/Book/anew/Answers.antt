use Rattle.std.proofs.Common.{◌≡◌, ◌≤◌, ℕ, ap, rules, subst}
use Rattle.std.specs.Prelude.{vec_capacity}
use Rattle.nt_front.specs.Books.{Ledger}
use Rattle.nt_front.proofs.book.Book.anew.Goals as goal

pub returns-clause-journal : goal.returns-clause-journal
returns-clause-journal g c =
    let room : c.self.inside.room ≡ c.args.self.now.room = ap (λ (b : Ledger). b.room) c.self.view_is in
    (c.in_ok-journal.ensures.items, subst (λ (n : ℕ). n ≤ vec_capacity c.in_ok-journal.journal) room c.in_ok-journal.ensures.capacity)

pub returns-clause-base : goal.returns-clause-base
returns-clause-base g c = search rules
