-- Runs to a state that a law forbids.
use Rattle.std.specs.Prelude.{List}
use Rattle.nt_protocols.specs.Threads.{Step, Can, after_all}

-- some run by these steps ends in such a state
abbrev pub Reaches : {S E : Type 0} → (S → E → Step S) → S → (S → Type 0) → Type 0
Reaches {S} {E} step s P = (es : List E) × Can step s es × P (after_all step s es)
