use Rattle.std.proofs.Common.{rules, arith, ◌≡◌, ◌+◌, [], length, refl, sym, ap, ◌∙◌}
use Rattle.nt_front.specs.Books.{Ledger}
use Rattle.nt_front.proofs.Journals.{stands_anew}
use Rattle.nt_front.proofs.book.Book.hand_out.Goals as goal

pub invariant_of-self : goal.invariant_of-self
invariant_of-self g c =
    let kept = c.self.invariant in
    let core = c.self.inside.life.core in
    let es = c.self.inside.dispatcher.written in
    let held = c.self.inside.journal.items in
    let base : c.replace-base.new.dest ≡ core = c.replace-base.ensures.after ∙ (c.requires.base ∙ ap (λ (b : Ledger). b.core) (sym c.self.view_is)) in
    let empty : c.replace-entries.new.dest.items ≡ [] = search rules in
    let count : c.len.result ≡ length held = search rules in
    let next : c.self.inside.first + c.len.result ≡ length es + 1 = omega (arith, count, kept.next) in
    let none = ap length empty in record {
      stands = stands_anew c.self.inside.life c.self.inside.base c.replace-base.new.dest es es c.self.inside.first (c.self.inside.first + c.len.result) c.self.inside.threads held c.replace-entries.new.dest.items c.self.inside.room kept.stands kept.agree base refl next empty;
      agree = kept.agree;
      threads = kept.threads;
      room = kept.room;
      lasts = kept.lasts;
      places = search rules;
      next = omega (arith, next, none);
      numbers = omega (arith, count, none, kept.numbers);
      ends = c.end_of-self-inside.ensures;
      seat = kept.seat;
      words = kept.words;
    }

pub returns-clause-stands : goal.returns-clause-stands
returns-clause-stands g c =
    let held = c.self.inside.journal.items in
    let base : c.replace-base.new.dest ≡ c.self.inside.life.core = c.replace-base.ensures.after ∙ (c.requires.base ∙ ap (λ (b : Ledger). b.core) (sym c.self.view_is)) in
    let empty : c.replace-entries.new.dest.items ≡ [] = search rules in
    let count : c.len.result ≡ length held = search rules in
    let next : c.self.inside.first + c.len.result ≡ length c.self.inside.dispatcher.written + 1 = omega (arith, count, c.self.invariant.next) in
    stands_anew c.self.inside.life c.self.inside.base c.replace-base.new.dest c.self.inside.dispatcher.written c.self.inside.dispatcher.written c.self.inside.first (c.self.inside.first + c.len.result) c.self.inside.threads held c.replace-entries.new.dest.items c.self.inside.room
    c.self.invariant.stands c.self.invariant.agree base refl next empty
