use Rattle.nt_hangs.proofs.Telling.{is_report}
use Rattle.nt_hangs.proofs.reports.report_of.Goals as goal

pub returns : goal.returns
returns c =
    let verdict = c.in_ok-verdict.verdict in
    is_report c.args.file.now c.args.count c.args.session.now c.core-core.result.now c.args.since.now c.args.objects.now c.args.told.now c.args.absent.now verdict.stuck verdict.knot.items verdict.next
    c.new-text.result.items c.put_report.new.out.items c.code_of.result c.core-core.ensures c.in_ok-verdict.ensures.stuck c.in_ok-verdict.ensures.knot c.in_ok-verdict.ensures.next
    c.new-text.ensures.items c.in_ok-put_report.ensures c.code_of.ensures
