use Rattle.std.proofs.Common.{◌≡◌, [], length, sym, ap, ◌∙◌, arith}
use Rattle.std.specs.Prelude.{List}
use Rattle.nt_machine.specs.Dispatcher.{state}
use Rattle.nt_mail.specs.declared.entry.Entry.{Entry}
use Rattle.nt_mail.specs.Entries.{accepted}
use Rattle.nt_mail.specs.Seats.{DispatcherSeated}
use Rattle.nt_front.proofs.Journals.{stands_at_first, agree_at_first}
use Rattle.nt_front.proofs.book.Book.new.Goals as goal

pub invariant_of-result : goal.invariant_of-result
invariant_of-result g c =
    let none : c.args.dispatcher.written ≡ [] = ap (λ (d : DispatcherSeated). d.written) c.requires.dispatcher in
    let unwritten = ap length none in
    let empty = ap length c.requires.journal.0 in record {
      stands = stands_at_first c.args.life c.args.base c.args.threads c.args.room c.args.dispatcher.written c.args.journal.items c.requires.life.0 c.requires.life.1 c.requires.base none c.requires.journal.0;
      agree = agree_at_first c.args.threads c.args.dispatcher.written (state c.args.life.core) c.requires.life.0 none;
      places = c.requires.journal.1;
      next = omega (arith, unwritten, empty);
      numbers = omega (arith, empty);
      ends = c.end_of.ensures;
      seat = c.requires.dispatcher ∙ ap (λ (es : List Entry). record { table = g.N.Named.front.table; written = es; published = accepted es }) (sym none);
      words = c.requires.front.0;
      threads = c.requires.front.1;
      room = c.requires.front.2;
      lasts = c.requires.lasts;
    }
