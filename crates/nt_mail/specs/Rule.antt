-- The rule of the mail: what holds of words, entries and views between any two steps.
use Rattle.std.specs.Prelude.{◌≡◌, ◌==◌, ◌⊎◌, ℕ, suc, ◌+◌, ◌/◌, ◌<◌, ◌≤◌, slice_index, List, [], ◌∷◌, ◌++◌, length, Bool, true, false, nat_lt}
use mathlib.Core.Option.{some}
use lib.ListN.{get_elem?}
use Rattle.atomic_table.specs.Table.{State}
use Rattle.nt_status.specs.Status.{is_status_code}
use Rattle.nt_status.specs.declared.limits.TheConstants.{MAX_MOMENT}
use Rattle.nt_calls.specs.Moves.{one_if}
use Rattle.nt_mail.specs.declared.entry.Entry.{Entry}
use Rattle.nt_mail.specs.declared.knowledge.Knowledge.{Knowledge}
use Rattle.nt_mail.specs.declared.knowledge.View.{View}
use Rattle.nt_mail.specs.declared.knowledge.Got.{Got}
use Rattle.nt_mail.specs.Entries.{Each, given, calls_of, grants_of, is_armed, last_of, pended_in, last_pended, last_number, AreBelow, AreMadeBelow}
use Rattle.nt_mail.specs.declared.word.TheConstants.{STATES}
use Rattle.nt_mail.specs.Words.{idle_word, armed_word, granted_word}
use Rattle.nt_mail.specs.Knowledge.{latest, IsFree, IsWaiting}

-- the grants taken are a part of those sent, in order
abbrev pub IsTaken : List Got → List Got → Type 0
IsTaken got [] = got ≡ []
IsTaken got (g ∷ sent) = IsTaken got sent ⊎ ((rest : List Got) × (got ≡ g ∷ rest) × IsTaken rest sent)

-- the word tells the last grant that was sent, which is the thread's last entry and above all grants taken
abbrev pub IsGranted : ℕ → ℕ → List Got → List Got → Type 0
IsGranted word last got sent = (status : ℕ) × (is_status_code status ≡ true) × (word ≡ granted_word last status) × ((before : List Got) × (sent ≡ before ++ given last status ∷ [])) × AreBelow last got

-- the word is idle, with some number
abbrev pub IsIdle : ℕ → Type 0
IsIdle word = (n : ℕ) × (word ≡ idle_word n)

-- the word of a thread is armed where the thread is, with its last entry's number; else it is idle, or granted with that number
abbrev pub IsReplyWord : Bool → ℕ → ℕ → List Got → List Got → Type 0
IsReplyWord true word last got sent = word ≡ armed_word last
IsReplyWord false word last got sent = IsIdle word ⊎ IsGranted word last got sent

-- n is the number of an entry of thread t, which was its last when it was written, or 0, as before its first
abbrev pub WasLast : ℕ → ℕ → List Entry → Type 0
WasLast t n log = (before : List Entry) × (after : List Entry) × (log ≡ before ++ after) × (n ≡ last_of t before)

-- the word may be the thread's, by what the thread knows: of some grants that were sent it took a part, one more of its calls pended where it is armed, and the word tells of the last
pub record IsWordFor (k : Knowledge) (word : ℕ) : Type 0 where
  pub armed : Bool
  pub last : ℕ
  pub sent : List Got
  pub taken : IsTaken k.got sent
  pub count : pended_in k.made ≡ length sent + one_if armed
  pub word_is : IsReplyWord armed word last k.got sent

-- the moments never fall, from `before` on
abbrev pub NeverFall : ℕ → List ℕ → Type 0
NeverFall before [] = Unit {0}
NeverFall before (m ∷ ms) = (before ≤ m) × NeverFall m ms

-- the moment is among them
abbrev pub IsOneOf : ℕ → List ℕ → Type 0
IsOneOf m [] = ⊥
IsOneOf m (x ∷ xs) = (x ≡ m) ⊎ IsOneOf m xs

-- the moment is 0, as the moment word is at first, or was published
abbrev pub WasPublished : List ℕ → ℕ → Type 0
WasPublished published m = (m ≡ 0) ⊎ IsOneOf m published

-- the moments that a thread read never fall, none is above the last that was published, and each was published
pub record AreReadFrom (published : List ℕ) (moments : List ℕ) : Type 0 where
  pub rising : NeverFall 0 moments
  pub reached : latest 0 moments ≤ latest 0 published
  pub each : Each (WasPublished published) moments

-- what a thread knows is true: its calls are those written, its grants are a part of those sent, its word is right, and its moments were published
pub record IsPart (words : List ℕ) (log : List Entry) (published : List ℕ) (k : Knowledge) : Type 0 where
  pub inside : k.thread + 1 < length words
  pub made : k.made ≡ calls_of k.thread log
  pub taken : IsTaken k.got (grants_of k.thread log)
  pub word : IsReplyWord (is_armed k.thread log) (slice_index words (k.thread + 1)) (last_of k.thread log) k.got (grants_of k.thread log)
  pub number : WasLast k.thread (slice_index words (k.thread + 1) / STATES) log
  pub moments : AreReadFrom published k.moments

-- what a seat knows is true: the dispatcher's has all entries written and all moments published, and each part is true
abbrev pub IsTrueView : List ℕ → List Entry → List ℕ → View → Type 0
IsTrueView words log published v = (v.keeps ≡ true → (v.written ≡ log) × (v.published ≡ published)) × Each (IsPart words log published) v.parts

-- thread t among the entries: as many of its calls pended as grants were sent to it, and one more where it is armed
pub record IsCounted (t : ℕ) (log : List Entry) : Type 0 where
  pub count : pended_in (calls_of t log) ≡ length (grants_of t log) + one_if (is_armed t log)
  -- where it is not armed, its last call that pended stands before its last grant
  pub after : is_armed t log ≡ false → last_pended (calls_of t log) ≤ last_number 0 (grants_of t log)
  -- entries are numbered no further than they reach
  pub calls : AreMadeBelow (suc (length log)) (calls_of t log)
  pub grants : AreBelow (suc (length log)) (grants_of t log)

-- a number of each view, added up
abbrev pub total : (View → ℕ) → List View → ℕ
total f [] = 0
total f (v ∷ vs) = f v + total f vs

-- 1 for the dispatcher's view
abbrev pub keeping : View → ℕ
keeping v = one_if v.keeps

-- how many of the parts are thread t's
abbrev pub parts_of : ℕ → List Knowledge → ℕ
parts_of t [] = 0
parts_of t (k ∷ ks) = one_if (k.thread == t) + parts_of t ks

-- how many parts of thread t there are in all views
abbrev pub all_parts_of : ℕ → List View → ℕ
all_parts_of t views = total (λ v. parts_of t v.parts) views

-- these are all entries written and all moments published: each view is true of them, and so is the moment word, the first
pub record IsMailOf (words : List ℕ) (views : List View) (log : List Entry) (published : List ℕ) : Type 0 where
  pub seats : (seat : ℕ) (v : View) → get_elem? views seat ≡ some v → IsTrueView words log published v
  pub counted : (t : ℕ) → IsCounted t log
  pub rising : NeverFall 0 published
  pub moment : slice_index words 0 ≡ latest 0 published
  pub greatest : latest 0 published ≤ MAX_MOMENT
  pub enough : 0 < length words
  -- one view is the dispatcher's, and each thread that has a word has its part in one view
  pub one_keeper : total keeping views ≡ 1
  pub one_part : (t : ℕ) → all_parts_of t views ≡ one_if (nat_lt (t + 1) (length words))

-- some entries were written and some moments published, of which words and views tell
abbrev pub IsMail : State (Unit {0}) View → Type 0
IsMail s = (log : List Entry) × (published : List ℕ) × IsMailOf s.words s.views log published

-- what a thread knows at the end: its calls are those written, it took each grant, or, where a wait of it was pending, each but perhaps the last, and the moments that it read were published
pub record IsTold (log : List Entry) (published : List ℕ) (k : Knowledge) : Type 0 where
  pub made : k.made ≡ calls_of k.thread log
  pub free : IsFree k → k.got ≡ grants_of k.thread log
  pub waiting : IsWaiting k → (k.got ≡ grants_of k.thread log) ⊎ ((g : Got) × (grants_of k.thread log ≡ k.got ++ g ∷ []))
  pub moments : Each (WasPublished published) k.moments
