use Rattle.std.proofs.Common.{ℕ, Bool, false, get_or}
use Rattle.nt_protocols.proofs.Putting.{set_is}
use Rattle.nt_traces.specs.declared.word.WordSeat.{WordSeat}
use Rattle.nt_traces.specs.WordTrace.{outside, seat_of}
use Rattle.nt_traces.proofs.word_run.WordRun.set.Goals as goal

pub returns-clause-seats : goal.returns-clause-seats
returns-clause-seats c = set_is seat_of c.args.self.now.seats.items c.args.t c.args.seat outside c.requires

pub returns-clause-owes : goal.returns-clause-owes
returns-clause-owes c =
    let owed : WordSeat → ℕ → Bool = λ a u. get_or a.owes u false in
    set_is owed c.args.self.now.seats.items c.args.t c.args.seat outside c.requires
