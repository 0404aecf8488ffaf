-- Marks by place: true if the place is marked.
use Rattle.std.specs.Prelude.{◌≡◌, ◌≢◌, ◌⊎◌, ◌↔◌, ℕ, ◌+◌, ◌<◌, Bool, true, false, List, [], ◌∷◌, length, slice_index_or, slice_set, Option, Some, None}

-- whether this place is marked; none past the last place is
abbrev pub is_marked : List Bool → ℕ → Bool
is_marked marks place = slice_index_or marks place false

-- no place is marked
abbrev pub NoneMarked : List Bool → Type 0
NoneMarked marks = (place : ℕ) → is_marked marks place ≢ true

-- the lowest place that is marked
pub record IsFirstMarked (marks : List Bool) (place : ℕ) : Type 0 where
  pub here : is_marked marks place ≡ true
  pub none_below : (lower : ℕ) → lower < place → is_marked marks lower ≢ true

-- the places that are marked, by rising number, if the first of these marks is that of place k
abbrev pub marked_from : ℕ → List Bool → List ℕ
marked_from k [] = []
marked_from k (false ∷ marks) = marked_from (k + 1) marks
marked_from k (true ∷ marks) = k ∷ marked_from (k + 1) marks

-- all places that are marked, by rising number
abbrev pub marked_places : List Bool → List ℕ
marked_places marks = marked_from 0 marks

-- besides those that were marked exactly the places with this property are marked
pub record AddsMarks (property : ℕ → Type 0) (old new : List Bool) : Type 0 where
  pub count : length new ≡ length old
  pub exactly : (place : ℕ) → (is_marked new place ≡ true) ↔ ((is_marked old place ≡ true) ⊎ property place)

-- these marks, and that of this place too, if there is one
abbrev pub with_mark : Option ℕ → List Bool → List Bool
with_mark None marks = marks
with_mark (Some place) marks = slice_set marks place true
