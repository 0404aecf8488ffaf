use Rattle.nt_look.proofs.Allowing.{IsSearched}
use Rattle.nt_machine.specs.Dispatcher.{state}
use Rattle.nt_look.proofs.rights.is_given_by_one.Given as goal

abbrev pub invariant-loop-number : goal.invariant-loop-number
invariant-loop-number l = IsSearched (state l.core).handles l.right l.object l.number l.left
