use Rattle.std.proofs.Common.{codes}
use Rattle.nt_wording.specs.Verdicts.{members_text}
use Rattle.nt_wording.proofs.Telling.{put_two}
use Rattle.nt_wording.proofs.verdicts.put_single.Goals as goal

pub returns : goal.returns
returns c =
    put_two c.put_members.result c.args.out.now.items c.extend_from_slice.new.self.items c.put_members.new.out.items (codes "nothing can end the wait of ") (members_text c.args.told.now c.args.marks.now c.args.threads)
    c.in_ok-extend_from_slice.ensures.items c.put_members.ensures
