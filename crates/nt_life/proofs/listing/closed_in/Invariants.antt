use Rattle.nt_machine.specs.Dispatcher.{state}
use Rattle.nt_core.specs.Renewals.{is_closed}
use Rattle.nt_life.proofs.Gathering.{IsListed}
use Rattle.nt_life.proofs.listing.closed_in.Given as goal

abbrev pub invariant-loop-number : goal.invariant-loop-number
invariant-loop-number l = IsListed (is_closed (state l.core)) l.number l.closed
