-- What seats know, and how their views are cut and joined.
use Rattle.std.specs.Prelude.{ℕ, suc, ◌%◌, ◌==◌, List, [], ◌∷◌, ◌++◌, map, length, true, false, if◌then◌else◌}
use Rattle.nt_mail.specs.declared.entry.Entry.{Entry}
use Rattle.nt_mail.specs.declared.knowledge.Knowledge.{Knowledge}
use Rattle.nt_mail.specs.declared.knowledge.View.{View}
use Rattle.nt_mail.specs.declared.word.TheConstants.{STATES}
use Rattle.nt_mail.specs.Knowledge.{newcomers, with_call}

-- the dispatcher's view: all entries written, the moments published, and the parts of threads that are joined to it
abbrev pub keeper : List Entry → List ℕ → List Knowledge → View
keeper log published parts = record { keeps = true; written = log; published = published; parts = parts }

-- a thread's view: its own part
abbrev pub holder : Knowledge → View
holder k = record { keeps = false; written = []; published = []; parts = k ∷ [] }

-- the view of a seat that is spent
abbrev pub nobody : View
nobody = record { keeps = false; written = []; published = []; parts = [] }

-- the first seat: the dispatcher's, with n threads joined to it
abbrev pub first_view : ℕ → View
first_view n = keeper [] [] (newcomers 0 n)

-- all but the first
abbrev pub rest_of : List Knowledge → List Knowledge
rest_of [] = []
rest_of (k ∷ ks) = ks

-- the first, where there is one
abbrev pub front_of : List Knowledge → List Knowledge
front_of [] = []
front_of (k ∷ ks) = k ∷ []

-- the first part left the view
abbrev pub without_first : View → View
without_first v = record { keeps = v.keeps; written = v.written; published = v.published; parts = rest_of v.parts }

-- the first part, in a view of its own
abbrev pub first_alone : View → View
first_alone v = record { keeps = false; written = []; published = []; parts = front_of v.parts }

-- both parts, the second view's first
abbrev pub together : View → View → View
together v w = record { keeps = v.keeps; written = v.written; published = v.published; parts = w.parts ++ v.parts }

-- the dispatcher wrote this entry, and the part that is joined to it gained its call
abbrev pub with_entry : Entry → View → View
with_entry e v = record { keeps = v.keeps; written = v.written ++ e ∷ []; published = v.published; parts = map (with_call (suc (length v.written)) e) v.parts }

-- the dispatcher wrote this entry where the word that it found is idle, and else nothing
abbrev pub with_entry_if_idle : ℕ → Entry → View → View
with_entry_if_idle found e v = if found % STATES == 0 then with_entry e v else v

-- the dispatcher published this moment
abbrev pub with_published : ℕ → View → View
with_published m v = record { keeps = v.keeps; written = v.written; published = v.published ++ m ∷ []; parts = v.parts }

-- the thread's part became this
abbrev pub with_parts : (Knowledge → Knowledge) → View → View
with_parts f v = record { keeps = v.keeps; written = v.written; published = v.published; parts = map f v.parts }
