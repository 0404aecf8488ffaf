use Rattle.std.proofs.Common.{rules, List, ℕ, subst, ap, ◌∙◌}
use Rattle.nt_mail.specs.declared.entry.Entry.{Entry}
use Rattle.nt_mail.specs.declared.knowledge.Knowledge.{Knowledge}
use Rattle.nt_mail.specs.Rule.{IsTold}
use Rattle.nt_mail.specs.Seats.{DispatcherSeated, Seated}
use Rattle.nt_front.specs.Books.{HandsOut, ledger}
use Rattle.nt_front.proofs.book.Book.rotate.Goals as goal

pub returns-clause-told : goal.returns-clause-told
returns-clause-told g c =
    let kept = c.self.invariant in
    let inside = c.self.inside in
    let es = inside.dispatcher.written in
    let known = ap (λ (s : Seated). s.known) c.deref_mut.ensures.value ∙ c.caller.view_is in
    let published = ap (λ (d : DispatcherSeated). d.published) kept.seat in record {
      book = ledger inside.life inside.base es inside.first inside.journal.items inside.room;
      stands = kept.stands;
      threads = kept.agree.threads ∙ kept.threads;
      room = kept.room;
      lasts = kept.lasts;
      told = subst (λ (x : List ℕ × Knowledge). IsTold es x.0 x.1) (λ i. (published i, known i)) c.look.ensures.told;
      rest = c.hand_out.new.self;
      handed = subst (λ (l : List Entry). HandsOut (ledger inside.life inside.base l inside.first inside.journal.items inside.room) c.hand_out.result c.hand_out.new.self) (ap (λ (d : DispatcherSeated). d.written) c.look.ensures.same.0) c.hand_out.ensures.part;
      goes_on = c.hand_out.ensures.stands;
    }

pub returns-clause-part : goal.returns-clause-part
returns-clause-part g c = search rules
