use Rattle.std.proofs.Common.{rules}
use Rattle.nt_front.proofs.blank.Blank.put_together.Goals as goal

pub new-book-requires-clause-front : goal.new-book-requires-clause-front
new-book-requires-clause-front g c = search rules
