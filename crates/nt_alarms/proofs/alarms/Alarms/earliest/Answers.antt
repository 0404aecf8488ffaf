use Rattle.nt_alarms.proofs.HeapLemmas.{first_earliest, all_quiet}
use Rattle.nt_alarms.proofs.alarms.Alarms.earliest.Goals as goal

pub returns-in-Some : goal.returns-in-Some
returns-in-Some c = rw (← c.self.view_is) (first_earliest _ _ _ _ c.in-Some.first c.self.invariant (rw (c.deref.ensures.value, c.deref-2.ensures.value) at c.in-Some.ensures))

pub returns-in-None : goal.returns-in-None
returns-in-None c = rw (← c.self.view_is) (all_quiet _ _ _ _ c.self.invariant c.in-None.ensures)
