use Rattle.std.proofs.Common.{◌≡◌, ◌≤◌, false, length, length-append, sym, ap, ◌∙◌, arith}
use Rattle.nt_grammar.specs.Spelling.{statement_text}
use Rattle.nt_grammar.specs.Naming.{handle_of}
use Rattle.nt_written.specs.Written.{statement_for}
use Rattle.nt_written.specs.Writing.{has_words}
use Rattle.nt_written.proofs.Puts.{written, no_line}
use Rattle.nt_written.proofs.writing.write_line.Goals as goal

pub returns-then-not-has_words-clause-err : goal.returns-then-not-has_words-clause-err
returns-then-not-has_words-clause-err c =
    let none : has_words c.args.call.now ≡ false = sym c.has_words.ensures ∙ c.if-not-has_words.true in
    no_line c.args.who c.args.call.now (handle_of c.args.answer.now) none

pub returns-clause-ok : goal.returns-clause-ok
returns-clause-ok c =
    let statement = statement_for c.args.who c.args.call.now c.handle_of.result in
    let put = c.put_call.ensures.put in
    let bytes = ap length put.puts in
    let sum = length-append c.reserve.new.self.items (statement_text statement) in
    let after = c.len.ensures in
    let before = c.len-start.ensures in
    let fits = c.if-len-start-gt-MAX_LINE.false in
    let short : length (statement_text statement) ≤ 4096 = omega (arith, bytes, sum, after, before, fits) in
    rw (sym c.handle_of.ensures)
    (written c.args.out.now.items c.reserve.new.self.items c.put_call.new.out.items c.put.new.out.items statement c.reserve.ensures.items put c.put.ensures.items short)
