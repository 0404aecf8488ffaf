use Rattle.nt_script.proofs.Opening.{begun_line}
use Rattle.nt_script.proofs.session.carry_out.Goals as goal

pub returns-in-None : goal.returns-in-None
returns-in-None c =
    rw (c.in-None.is, c.clear.ensures.items) (begun_line c.args.number c.args.line.now c.begin.result c.begin.new.session c.begin.ensures.opens c.begin.ensures.fault)
