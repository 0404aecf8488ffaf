use Rattle.nt_lines.specs.Lines.{lines_of}
use Rattle.nt_orders.specs.Reading.{read_of}
use Rattle.nt_orders.proofs.Lines.{reads_if_ok, ready_at_first, stops_if_err, stops_if_ok}
use Rattle.nt_orders.proofs.reading.Reading.read_all.Goals as goal

pub take_lines-requires : goal.take_lines-requires
take_lines-requires c = ready_at_first (read_of c.args.self.now) c.requires

pub returns-clause-reads : goal.returns-clause-reads
returns-clause-reads c = reads_if_ok read_of (lines_of c.args.input.now) c.args.self.now c.take_lines.new.taker c.requires c.take_lines.result c.take_lines.ensures.takes

pub returns-clause-stops : goal.returns-clause-stops
returns-clause-stops c = stops_if_ok read_of (lines_of c.args.input.now) c.args.self.now c.take_lines.new.taker c.requires c.take_lines.result c.take_lines.ensures.takes

pub returns-clause-fault : goal.returns-clause-fault
returns-clause-fault c = stops_if_err read_of (lines_of c.args.input.now) c.args.self.now c.take_lines.new.taker c.requires c.take_lines.result c.take_lines.ensures.takes
