use Rattle.nt_alarms.proofs.HeapLemmas.{first_lowest, first_none_at, all_quiet, quiet_none_at}
use Rattle.nt_alarms.proofs.alarms.Alarms.first_at.Goals as goal

pub returns-in-Some : goal.returns-in-Some
returns-in-Some c = rw (← c.self.view_is) (first_lowest _ _ _ _ c.in-Some.first c.args.moment c.self.invariant (rw (c.deref.ensures.value, c.deref-2.ensures.value) at c.in-Some.ensures) c.if-first-moment.true)

pub returns-in_default : goal.returns-in_default
returns-in_default c =
    rw (← c.self.view_is) (first_none_at _ _ _ _ c.in-Some.first c.args.moment c.self.invariant (rw (c.deref.ensures.value, c.deref-2.ensures.value) at c.in-Some.ensures) c.if-first-moment.false (rw c.self.view_is c.requires))

pub returns-in_default-2 : goal.returns-in_default-2
returns-in_default-2 c = rw (← c.self.view_is) (quiet_none_at _ _ (all_quiet _ _ _ _ c.self.invariant c.in_default.ensures))
