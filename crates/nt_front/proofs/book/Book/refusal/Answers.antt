use Rattle.std.proofs.Common.{List, ℕ, subst, sym, ap, ◌∙◌}
use Rattle.nt_mail.specs.declared.knowledge.Knowledge.{Knowledge}
use Rattle.nt_mail.specs.Rule.{IsTold}
use Rattle.nt_mail.specs.Seats.{DispatcherSeated, Seated}
use Rattle.nt_front.specs.Books.{ledger, IsFull}
use Rattle.nt_front.proofs.book.Book.refusal.Goals as goal

pub returns-clause-told : goal.returns-clause-told
returns-clause-told g c =
    let kept = c.self.invariant in
    let known = ap (λ (s : Seated). s.known) c.deref_mut.ensures.value ∙ c.caller.view_is in
    let published = ap (λ (d : DispatcherSeated). d.published) kept.seat in record {
      book = ledger c.self.inside.life c.self.inside.base c.self.inside.dispatcher.written c.self.inside.first c.self.inside.journal.items c.self.inside.room;
      stands = kept.stands;
      threads = kept.agree.threads ∙ kept.threads;
      room = kept.room;
      lasts = kept.lasts;
      full = subst IsFull (sym c.self.view_is) c.requires.full;
      told = subst (λ (x : List ℕ × Knowledge). IsTold c.self.inside.dispatcher.written x.0 x.1) (λ i. (published i, known i)) c.look.ensures.told;
    }
