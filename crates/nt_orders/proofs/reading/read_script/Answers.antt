use Rattle.nt_orders.specs.Reading.{read_of}
use Rattle.nt_orders.proofs.Lines.{plan_if_ok}
use Rattle.nt_orders.proofs.reading.read_script.Goals as goal

pub returns-in-Ok-read_all-clause-plan : goal.returns-in-Ok-read_all-clause-plan
returns-in-Ok-read_all-clause-plan c =
    plan_if_ok c.args.input.now (read_of c.read_all.new.self) c.finish.result c.in-Ok-read_all.ensures.reads c.finish.ensures.script
