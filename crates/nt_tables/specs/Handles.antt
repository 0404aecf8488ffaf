-- What each handle names, as callers of `HandleTable` see it.
use Rattle.std.specs.Prelude.{◌≡◌, ℕ, zero, suc, ◌+◌, Bool, false, ◌==◌, List, [], ◌∷◌, ◌++◌, length, slice_index_or, if◌then◌else◌, Option, Some, None}
use Rattle.nt_status.specs.declared.limits.TheConstants.{MAX_HANDLES}
use Rattle.nt_tables.specs.declared.handles.Opened.{Opened}

-- what a row of the table says: the number of an object, with rights to it, or for nothing the number that no object has
abbrev pub opened_in_row : ℕ → ℕ → Option Opened
opened_in_row object access = if object == MAX_HANDLES then None else Some (record { object = object; access = access })

-- the number of the object, and for none the number that no object has
abbrev pub number_of : Option Opened → ℕ
number_of None = MAX_HANDLES
number_of (Some opened) = opened.object

-- the rights to it, and no right to nothing
abbrev pub rights_of : Option Opened → ℕ
rights_of None = 0
rights_of (Some opened) = opened.access

-- by handle number, what the handle names, or none once it is closed; and how many handles there is room for
pub record Handles : Type 0 where
  pub opened : List (Option Opened)
  pub room : ℕ

-- what a handle names; none where it is closed, or was never handed out
abbrev pub opened_at : List (Option Opened) → ℕ → Option Opened
opened_at handles h = slice_index_or handles h None

-- whether it names this object
abbrev pub names : ℕ → Option Opened → Bool
names object None = false
names object (Some opened) = opened.object == object

-- how many handles name the object
abbrev pub count_named : List (Option Opened) → ℕ → ℕ
count_named [] object = 0
count_named (h ∷ handles) object = (if names object h then 1 else 0) + count_named handles object

-- one handle for each of so many objects, with the number of its object
abbrev pub own_handles : ℕ → ℕ → List (Option Opened)
own_handles zero access = []
own_handles (suc n) access = own_handles n access ++ Some (record { object = n; access = access }) ∷ []

-- the handles that name each object are counted
pub record AreHandlesCounted (handles : List (Option Opened)) (counts : List ℕ) : Type 0 where
  pub same_length : length counts ≡ length handles
  pub counted : (object : ℕ) → slice_index_or counts object 0 ≡ count_named handles object
