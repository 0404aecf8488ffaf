-- What the protocols of any number of threads share.
use Rattle.std.specs.Prelude.{ℕ, if◌then◌else◌, ◌==◌, List, [], ◌∷◌}

-- thread t has x from now on, and the others have what they had
abbrev pub put : {A : Type 0} → (ℕ → A) → ℕ → A → ℕ → A
put f t x u = if u == t then x else f u

-- an event's step from a state: what must hold for it to come next, and the state after it
pub record Step (S : Type 0) : Type 1 where
  pub may : Type 0
  pub after : S

-- such a step, read aloud as `when may, after`
abbrev pub when : {S : Type 0} → Type 0 → S → Step S
when may after = record { may = may; after = after }

-- these events can come one after another
abbrev pub Can : {S E : Type 0} → (S → E → Step S) → S → List E → Type 0
Can step s [] = Unit {0}
Can step s (e ∷ es) = (step s e).may × Can step (step s e).after es

-- the state after these events
abbrev pub after_all : {S E : Type 0} → (S → E → Step S) → S → List E → S
after_all step s [] = s
after_all step s (e ∷ es) = after_all step (step s e).after es

-- what every run from this state keeps
abbrev pub Keeps : {S E : Type 0} → (S → E → Step S) → S → (S → Type 0) → Type 0
Keeps {S} {E} step s P = (es : List E) → Can step s es → P (after_all step s es)
