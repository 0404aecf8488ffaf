use Rattle.std.proofs.Common.{List, length, ap, subst, arith}
use Rattle.nt_explore.specs.declared.met.Visit.{Visit}
use Rattle.nt_explore.specs.Walk.{AreInSlots}
use Rattle.nt_explore.proofs.met.grow.Goals as goal

pub returns-clause-table : goal.returns-clause-table
returns-clause-table c =
    let few = c.in_ok-met.ensures.few in
    let same = ap (λ (es : List Visit). length es) c.deref.ensures.value in
    record {
      behind = c.requires.behind;
      stands = subst (λ (es : List Visit). AreInSlots es (length es) c.in_ok-met.field-0.items) c.deref.ensures.value c.in_ok-met.ensures.stand;
      few = omega (arith, few, same);
    }
