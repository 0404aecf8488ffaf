use Rattle.std.proofs.Common.{codes}
use Rattle.std.specs.Fmt.{decimal}
use Rattle.nt_wording.proofs.Telling.{put_two}
use Rattle.nt_wording.proofs.verdicts.put_moment.Goals as goal

pub returns : goal.returns
returns c =
    put_two c.put_number.result c.args.out.now.items c.extend_from_slice.new.self.items c.put_number.new.out.items (codes "; something is due at ") (decimal c.args.moment)
    c.in_ok-extend_from_slice.ensures.items c.put_number.ensures
