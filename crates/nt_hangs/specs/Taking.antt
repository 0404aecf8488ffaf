-- Lines that are taken one after another, by whoever says what that is.
use Rattle.std.specs.Prelude.{◌≡◌, ℕ, ◌+◌, ◌++◌, List, [], ◌∷◌, length, Result, Ok, Err}

-- These lines, from this number on, were taken one after another.
abbrev pub TakesAll : {S : Type 0} → (ℕ → List ℕ → S → S → Type 0) → ℕ → S → List (List ℕ) → S → Type 0
TakesAll Takes number old [] new = new ≡ old
TakesAll {S} Takes number old (bytes ∷ lines) new = (mid : S) × Takes number bytes old mid × TakesAll Takes (number + 1) mid lines new

-- The lines before one were taken, and that one was refused.
pub record RefusesOne {S : Type 0} (Takes : ℕ → List ℕ → S → S → Type 0) (Refuses : ℕ → List ℕ → S → Type 0) (lines : List (List ℕ)) (old : S) : Type 0 where
  pub before : List (List ℕ)
  pub line : List ℕ
  pub after : List (List ℕ)
  pub mid : S
  pub split : lines ≡ before ++ line ∷ after
  pub takes : TakesAll Takes 1 old before mid
  pub refuses : Refuses (1 + length before) line mid

-- All of these lines were taken, so many; or one was refused.
abbrev pub TakesLines : {S F : Type 0} → (ℕ → List ℕ → S → S → Type 0) → (ℕ → List ℕ → S → F → Type 0) → List (List ℕ) → S → S → Result ℕ F → Type 0
TakesLines Takes Refuses lines old new (Ok count) = TakesAll Takes 1 old lines new × (count ≡ length lines)
TakesLines Takes Refuses lines old new (Err fault) = RefusesOne Takes (λ number line mid. Refuses number line mid fault) lines old
