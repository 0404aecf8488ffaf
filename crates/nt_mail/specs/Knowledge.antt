-- What a thread knows: its calls, the grants that it took, and the words and moments that it read.
use Rattle.std.specs.Prelude.{◌≡◌, ◌==◌, ℕ, zero, suc, ◌+◌, List, [], ◌∷◌, ◌++◌, length, if◌then◌else◌}
use Rattle.nt_mail.specs.declared.entry.Entry.{Entry}
use Rattle.nt_mail.specs.declared.knowledge.Made.{Made}
use Rattle.nt_mail.specs.declared.knowledge.Got.{Got}
use Rattle.nt_mail.specs.declared.knowledge.Knowledge.{Knowledge}
use Rattle.nt_mail.specs.Entries.{call_at, pended_in, last_pended, AreBelow, AreMadeBelow}
use Rattle.nt_mail.specs.Words.{grant_in}

-- thread t knows this
abbrev pub knows : ℕ → List Made → List Got → List ℕ → List ℕ → Knowledge
knows t made got polled moments = record { thread = t; made = made; got = got; polled = polled; moments = moments }

-- n threads from thread t on, each of which knows nothing yet
abbrev pub newcomers : ℕ → ℕ → List Knowledge
newcomers t zero = []
newcomers t (suc n) = knows t [] [] [] [] ∷ newcomers (suc t) n

-- entry n was written: where it is a call or tick of the thread, the thread knows of it
abbrev pub with_call : ℕ → Entry → Knowledge → Knowledge
with_call n e k = knows k.thread (k.made ++ call_at k.thread n e) k.got k.polled k.moments

-- the thread took this grant
abbrev pub with_got : Got → Knowledge → Knowledge
with_got g k = knows k.thread k.made (k.got ++ g ∷ []) k.polled k.moments

-- the thread read this word as its own
abbrev pub with_polled : ℕ → Knowledge → Knowledge
with_polled word k = knows k.thread k.made k.got (k.polled ++ word ∷ []) k.moments

-- the thread tried to take the grant in `word`: it took it where it found that very word, and else it read the word found
abbrev pub after_take : ℕ → ℕ → Knowledge → Knowledge
after_take word found = if found == word then with_got (grant_in word) else with_polled found

-- the thread read this moment
abbrev pub with_moment : ℕ → Knowledge → Knowledge
with_moment m k = knows k.thread k.made k.got k.polled (k.moments ++ m ∷ [])

-- the last moment, or else the one before them
abbrev pub latest : ℕ → List ℕ → ℕ
latest before [] = before
latest before (m ∷ ms) = latest m ms

-- all calls and grants that the thread knows have numbers below n
pub record IsEarlier (n : ℕ) (k : Knowledge) : Type 0 where
  pub made : AreMadeBelow n k.made
  pub got : AreBelow n k.got

-- the thread took a grant for each call of it that pended
abbrev pub IsFree : Knowledge → Type 0
IsFree k = pended_in k.made ≡ length k.got

-- the thread took a grant for each call of it that pended but one, which came after all grants that it took
abbrev pub IsWaiting : Knowledge → Type 0
IsWaiting k = (pended_in k.made ≡ length k.got + 1) × AreBelow (last_pended k.made) k.got
