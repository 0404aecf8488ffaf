use Rattle.nt_machine.specs.Dispatcher.{state}
use Rattle.nt_life.specs.Lasting.{is_unnamed}
use Rattle.nt_life.proofs.Gathering.{IsListed}
use Rattle.nt_life.proofs.listing.unnamed_in.Given as goal

abbrev pub invariant-loop-number : goal.invariant-loop-number
invariant-loop-number l = IsListed (is_unnamed (state l.core)) l.number l.unnamed
