use Rattle.std.proofs.Common.{refl}
use Rattle.nt_status.proofs.Known.{only_known-yes, only_known-is}
use Rattle.nt_status.specs.Access.{access_bits}
use Rattle.bitflags.proofs.OnLiterals.{bitflags_on_literals}
use Rattle.nt_status.proofs.access.Access.from_bits.Goals as goal

pub invariant_of-result : goal.invariant_of-result
unfolding bitflags_on_literals
invariant_of-result c =
    rw (c.in-Some.ensures.value tt) (only_known-yes access_bits _ ((c.in-Some.ensures.known tt).0 refl))

pub returns-in-Some-clause-known : goal.returns-in-Some-clause-known
unfolding bitflags_on_literals
returns-in-Some-clause-known c = ((λ _. only_known-yes access_bits _ ((c.in-Some.ensures.known tt).0 refl)), λ _. refl)

pub returns-in-None-clause-known : goal.returns-in-None-clause-known
unfolding bitflags_on_literals
returns-in-None-clause-known c =
    ((λ no. cc), λ knows. (c.in-None.ensures.known tt).1 (only_known-is access_bits _ knows))
