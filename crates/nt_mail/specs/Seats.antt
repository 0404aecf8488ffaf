-- What contracts see of a seat: the table that it is of, and what it knows.
use Rattle.std.specs.Prelude.{ℕ, List, [], ◌∷◌}
use Rattle.atomic_table.specs.Seated.{TableId}
use Rattle.nt_mail.specs.declared.entry.Entry.{Entry}
use Rattle.nt_mail.specs.declared.knowledge.Knowledge.{Knowledge}
use Rattle.nt_mail.specs.declared.knowledge.View.{View}
use Rattle.nt_mail.specs.Knowledge.{knows}

-- the dispatcher's seat: all entries written, and the moments published
pub record DispatcherSeated : Type 0 where
  pub table : TableId
  pub written : List Entry
  pub published : List ℕ

-- a thread's seat: what the thread knows
pub record Seated : Type 0 where
  pub table : TableId
  pub known : Knowledge

-- a thread's seat, by its parts
abbrev pub seated : TableId → Knowledge → Seated
seated table known = record { table = table; known = known }

-- the dispatcher's seat, with the parts of threads that are joined to it
pub record Gathered : Type 0 where
  pub table : TableId
  pub written : List Entry
  pub published : List ℕ
  pub parts : List Knowledge

-- the first part
abbrev pub first_of : List Knowledge → Knowledge
first_of [] = knows 0 [] [] [] []
first_of (k ∷ ks) = k

-- the first part in a view
abbrev pub known_in : View → Knowledge
known_in v = first_of v.parts
