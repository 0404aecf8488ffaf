use Rattle.std.proofs.Common.{codes}
use Rattle.nt_wording.specs.Verdicts.{next_text}
use Rattle.nt_wording.proofs.Telling.{put_two}
use Rattle.nt_wording.proofs.verdicts.put_open.Goals as goal

pub returns : goal.returns
returns c =
    put_two c.put_next.result c.args.out.now.items c.extend_from_slice.new.self.items c.put_next.new.out.items (codes "nothing rules out that the waits end") (next_text c.args.next)
    c.in_ok-extend_from_slice.ensures.items c.put_next.ensures
