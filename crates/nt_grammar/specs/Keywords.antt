-- The words that lines of a script are made of: the keywords after a caller, and the others.
use Rattle.std.specs.Prelude.{ℕ, List, [], ◌∷◌, Option, Some, None, if◌then◌else◌, codes}
use Rattle.std.specs.Str.{bytes_eq}
use Rattle.nt_grammar.specs.declared.keyword.Keyword.{Keyword}

-- the word of a keyword
abbrev pub keyword_text : Keyword → List ℕ
keyword_text Keyword.Event = codes "event"
keyword_text Keyword.Semaphore = codes "semaphore"
keyword_text Keyword.Mutex = codes "mutex"
keyword_text Keyword.Timer = codes "timer"
keyword_text Keyword.Duplicate = codes "dup"
keyword_text Keyword.Set = codes "set"
keyword_text Keyword.Reset = codes "reset"
keyword_text Keyword.Pulse = codes "pulse"
keyword_text Keyword.Release = codes "release"
keyword_text Keyword.Unlock = codes "unlock"
keyword_text Keyword.Arm = codes "arm"
keyword_text Keyword.Cancel = codes "cancel"
keyword_text Keyword.Apc = codes "apc"
keyword_text Keyword.Close = codes "close"
keyword_text Keyword.Any = codes "any"
keyword_text Keyword.All = codes "all"
keyword_text Keyword.Sleep = codes "sleep"
keyword_text Keyword.Swap = codes "swap"
keyword_text Keyword.Next = codes "next"
keyword_text Keyword.Exit = codes "exit"

-- every keyword
abbrev pub keywords : List Keyword
keywords =
    Keyword.Any ∷ Keyword.All ∷ Keyword.Sleep ∷ Keyword.Swap ∷ Keyword.Next ∷ Keyword.Exit
    ∷ Keyword.Set ∷ Keyword.Reset ∷ Keyword.Pulse ∷ Keyword.Release ∷ Keyword.Unlock ∷ Keyword.Arm ∷ Keyword.Cancel ∷ Keyword.Apc ∷ Keyword.Close ∷ Keyword.Event ∷ Keyword.Semaphore ∷ Keyword.Mutex ∷ Keyword.Timer ∷ Keyword.Duplicate ∷ []

-- the first of these that a word is
abbrev pub keyword_among : List Keyword → List ℕ → Option Keyword
keyword_among [] word = None
keyword_among (keyword ∷ others) word = if bytes_eq word (keyword_text keyword) then Some keyword else keyword_among others word

-- the keyword that a word is
abbrev pub keyword_of : List ℕ → Option Keyword
keyword_of word = keyword_among keywords word

-- ---- the other words

-- what begins the first line, and a tick; what may stand after the places of some calls; a time without end; and the two modes
pub data OtherWord : Type 0 where
  ThreadsWord : OtherWord
  TickWord : OtherWord
  ManualWord : OtherWord
  SetWord : OtherWord
  OwnedWord : OtherWord
  EndlessWord : OtherWord
  AlertableWord : OtherWord
  PlainWord : OtherWord

-- the word itself
abbrev pub other_text : OtherWord → List ℕ
other_text ThreadsWord = codes "threads"
other_text TickWord = codes "tick"
other_text ManualWord = codes "manual"
other_text SetWord = codes "set"
other_text OwnedWord = codes "owned"
other_text EndlessWord = codes "inf"
other_text AlertableWord = codes "alertable"
other_text PlainWord = codes "plain"
