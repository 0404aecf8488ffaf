use Rattle.std.proofs.Common.{arith}
use Rattle.nt_written.proofs.Puts.{many_long}
use Rattle.nt_written.proofs.writing.room_for.Goals as goal

pub returns-else-count-le-MAX_LINE-clause-none : goal.returns-else-count-le-MAX_LINE-clause-none
returns-else-count-le-MAX_LINE-clause-none c = λ none who created.
    let many = c.if-count-le-MAX_LINE.false in
    let count = c.objects_in-count.ensures in
    let long = many_long who c.args.call.now created in
    omega (arith, many, count, long)
