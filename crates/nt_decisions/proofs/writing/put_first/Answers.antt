use Rattle.std.proofs.Common.{codes}
use Rattle.nt_decisions.specs.Decisions.{word_if}
use Rattle.nt_decisions.proofs.Lines.{put_line}
use Rattle.nt_decisions.proofs.writing.put_first.Goals as goal

pub returns : goal.returns
returns c =
    put_line c.extend_from_slice-2.result c.args.out.now.items c.extend_from_slice.new.self.items c.put_if.new.out.items c.put_if-2.new.out.items
    c.extend_from_slice-2.new.self.items (codes "; ntwin-schedule 1") (word_if c.args.time.is_free (codes " time=free"))
    (word_if c.args.time.is_still (codes " time=still")) c.in_ok-extend_from_slice.ensures.items c.in_ok-put_if.ensures c.in_ok-put_if-2.ensures
    c.extend_from_slice-2.ensures.items
