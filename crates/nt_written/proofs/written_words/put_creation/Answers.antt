use Rattle.std.proofs.Common.{arith}
use Rattle.nt_written.proofs.Puts.{name_of_handle, refused_is_name}
use Rattle.nt_written.proofs.written_words.put_creation.Goals as goal

pub returns-in-Some-clause-range : goal.returns-in-Some-clause-range
returns-in-Some-clause-range c =
    let handle = c.get.ensures in
    let fits = c.get.type_inv in
    rw c.in-Some.is (c.put_keyword.ensures.range, name_of_handle c.in-Some.handle (omega (arith, handle, fits)))

pub returns-in-None-clause-range : goal.returns-in-None-clause-range
returns-in-None-clause-range c = rw c.in-None.is (c.put_keyword.ensures.range, refused_is_name)
