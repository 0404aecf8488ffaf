-- What threads and objects are called.
use Rattle.std.specs.Prelude.{ℕ, ◌==◌, ◌++◌, nat_lt, nat_eq, List, [], ◌∷◌, length, drop, position, option_and_then, Option, None, Some, if◌then◌else◌, codes}
use Rattle.std.specs.List.{starts_with}
use Rattle.std.specs.Fmt.{decimal}
use Rattle.nt_lines.specs.Lines.{lines_of}
use Rattle.nt_script.specs.Progress.{Progress}
use Rattle.nt_grammar.specs.Scope.{name_in}

abbrev pub thread_name : ℕ → List ℕ
thread_name t = codes "t" ++ decimal t

-- the place of the first name that was given to the object
abbrev pub name_place_of : List ℕ → ℕ → Option ℕ
name_place_of objects o = position (λ named. named == o) objects

-- this name; or the object's number, where it has none
abbrev pub or_number : ℕ → Option (List ℕ) → List ℕ
or_number o None = codes "object " ++ decimal o
or_number o (Some name) = name

-- a thread by its number, any other object by the first name that it was given
abbrev pub object_name : Progress → List ℕ → ℕ → List ℕ
object_name now objects o =
    if nat_lt o now.state.threads then thread_name o else or_number o (option_and_then (name_in now.scope.names) (name_place_of objects o))

-- ---- names that comments tell, as `; h256 is accounts`

-- what stands after the front, where the text begins so
abbrev pub after_front : List ℕ → List ℕ → Option (List ℕ)
after_front front text = if starts_with nat_eq text front then Some (drop (length front) text) else None

-- what this line calls the word
abbrev pub name_told : List ℕ → List ℕ → Option (List ℕ)
name_told word line = option_and_then (after_front (codes " is ")) (option_and_then (after_front word) (after_front (codes "; ") line))

-- the later of two names
abbrev pub later : Option (List ℕ) → Option (List ℕ) → Option (List ℕ)
later old None = old
later old (Some name) = Some name

-- what the last of these lines that tells a name for the word calls it; else this
abbrev pub called_by : List ℕ → Option (List ℕ) → List (List ℕ) → Option (List ℕ)
called_by word found [] = found
called_by word found (line ∷ lines) = called_by word (later found (name_told word line)) lines

abbrev pub or_nothing : Option (List ℕ) → List ℕ
or_nothing None = []
or_nothing (Some name) = codes " " ++ name

-- a word, and its name after it, where the lines of a text tell one
abbrev pub titled : List ℕ → List ℕ → List ℕ
titled told word = word ++ or_nothing (called_by word None (lines_of told))

abbrev pub thread_title : List ℕ → ℕ → List ℕ
thread_title told t = titled told (thread_name t)

abbrev pub object_title : Progress → (objects told : List ℕ) → ℕ → List ℕ
object_title now objects told o = titled told (object_name now objects o)
