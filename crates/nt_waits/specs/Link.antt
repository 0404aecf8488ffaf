-- What a queue shows of a wait block: its number, and the thread that waits.
use Rattle.std.specs.Prelude.{◌≡◌, ℕ, ◌==◌, if◌then◌else◌, List, [], ◌∷◌, ◌⊎◌, Option, Some, None}

-- a block's number and its thread
pub record Link : Type 0 where
  pub number : ℕ
  pub thread : ℕ

-- one of these links has this number
abbrev pub HasNumber : List Link → ℕ → Type 0
HasNumber [] number = ⊥
HasNumber (link ∷ links) number = (link.number ≡ number) ⊎ HasNumber links number

-- no number stands twice
abbrev pub AreNumbersOnce : List Link → Type 0
AreNumbersOnce [] = Unit {0}
AreNumbersOnce (link ∷ links) = (HasNumber links link.number → ⊥) × AreNumbersOnce links

-- the links but for the one with this number, in their order
abbrev pub without : ℕ → List Link → List Link
without number [] = []
without number (link ∷ links) = if link.number == number then links else link ∷ without number links

-- the thread of the first link
abbrev pub first_thread : List Link → Option ℕ
first_thread [] = None
first_thread (link ∷ links) = Some link.thread

-- the thread of the link after the one with this number
abbrev pub thread_after : List Link → ℕ → Option ℕ
thread_after [] number = None
thread_after (link ∷ links) number = if link.number == number then first_thread links else thread_after links number
