-- The lines of a script: which words make which statement, and the first fault of words that make none.
use Rattle.std.specs.Prelude.{◌≡◌, ℕ, ◌+◌, ◌^◌, nat_le, is_some, Bool, true, false, List, [], ◌∷◌, ◌++◌, length, Option, Some, None, if◌then◌else◌}
use Rattle.std.specs.List.{list_all}
use Rattle.nt_lines.specs.declared.input.TheConstants.{MAX_LINE}
use Rattle.nt_status.specs.declared.limits.TheConstants.{MAX_THREADS}
use Rattle.nt_calls.specs.declared.call.Call.{Call}
use Rattle.nt_calls.specs.declared.call.Act.{Act}
use Rattle.nt_calls.specs.declared.call.WaitCall.{WaitCall}
use Rattle.nt_lines.specs.Words.{words_of, text_of, is_plain, caller_of}
use Rattle.nt_grammar.specs.Scope.{Scope}
use Rattle.nt_grammar.specs.Places.{is_word, Place, NamePlace, ObjectPlace, NumberPlace, SignedPlace, TimePlace, ModePlace, ValueOf, value_in, fits_place, blame, ValuePlace, AccessPlace, MomentPlace}
use Rattle.nt_grammar.specs.declared.fault.ScriptFault.{ScriptFault}
use Rattle.nt_grammar.specs.declared.fault.ScriptFault.TheVariants.{LineTooLong, BadByte, ThreadsExpected, UnknownWord, MissingWord, ExtraWord}
use Rattle.nt_grammar.specs.declared.parser.Statement.{Statement}
use Rattle.nt_grammar.specs.declared.parser.Statement.TheVariants.{Blank, Create, Perform, Tick}
use Rattle.nt_grammar.specs.declared.keyword.Keyword.{Keyword}
use Rattle.nt_grammar.specs.Keywords.{ManualWord, OwnedWord, SetWord, ThreadsWord, TickWord, keyword_of, keyword_text, other_text}

-- ---- the shape of a line

-- what may stand after the places: these words in this order, each or not; or one word of a kind, any number of times; or both of two places or neither
pub data After : Type 0 where
  Options : List (List ℕ) → After
  Each : Place → After
  Both : Place → Place → After

-- the places of a line, and what may stand after them
pub record Shape : Type 0 where
  pub places : List Place
  pub after : After

-- a value for each place
abbrev pub Values : List Place → Type 0
Values [] = Unit {0}
Values (place ∷ places) = ValueOf place × Values places

-- for each of these words, whether it is given
abbrev pub Given : List (List ℕ) → Type 0
Given [] = Unit {0}
Given (option ∷ options) = Bool × Given options

-- what the words after the places can say
abbrev pub ValuesAfter : After → Type 0
ValuesAfter (Options options) = Given options
ValuesAfter (Each place) = List (ValueOf place)
ValuesAfter (Both first second) = Option (ValueOf first × ValueOf second)

-- what is made of a value for each place, one after another
abbrev pub FromValues : List Place → Type 0 → Type 0
FromValues [] made = made
FromValues (place ∷ places) made = ValueOf place → FromValues places made

-- ---- the table

-- a line after its caller and keyword: its shape, and the statement made of the caller and the values
pub record Row : Type 0 where
  pub shape : Shape
  pub made : ℕ → FromValues shape.places (ValuesAfter shape.after → Statement)

-- a shape of these places, and of what may stand after them
abbrev pub shape : List Place → After → Shape
shape places after = record { places = places; after = after }

-- these places and no more
abbrev pub only : List Place → Shape
only places = shape places (Options [])

-- this bit, where it is given
abbrev pub bit_if : Bool → ℕ → ℕ
bit_if given bit = if given then bit else 0

-- a thread makes this act
abbrev pub act_by : ℕ → Act → Statement
act_by who act = Perform who (Call.Act act)

-- a thread makes this waiting call
abbrev pub wait_by : ℕ → WaitCall → Statement
wait_by who wait = Perform who (Call.Wait wait)

-- the line of each keyword
abbrev pub row : Keyword → Row
-- a name, and whether the event is a manual one and whether it is set
row Keyword.Event = record {
  shape = shape (NamePlace ∷ []) (Options (other_text ManualWord ∷ other_text SetWord ∷ []));
  made = λ who name given. Create who name (Act.CreateEvent (bit_if given.0 1 + bit_if given.1.0 2));
}
-- a name, the first count and the greatest
row Keyword.Semaphore = record {
  shape = only (NamePlace ∷ SignedPlace (2 ^ 31) ∷ SignedPlace (2 ^ 31) ∷ []);
  made = λ who name initial maximum given. Create who name (Act.CreateSemaphore initial maximum);
}
-- a name, and whether the caller owns it
row Keyword.Mutex = record { shape = shape (NamePlace ∷ []) (Options (other_text OwnedWord ∷ [])); made = λ who name given. Create who name (Act.CreateMutex (bit_if given.0 1)) }
-- a name, and whether the timer is a manual one
row Keyword.Timer = record { shape = shape (NamePlace ∷ []) (Options (other_text ManualWord ∷ [])); made = λ who name given. Create who name (Act.CreateTimer (bit_if given.0 1)) }
-- a name, an object and rights
row Keyword.Duplicate = record { shape = only (NamePlace ∷ ObjectPlace ∷ AccessPlace ∷ []); made = λ who name handle access given. Create who name (Act.Duplicate handle access) }
-- an event
row Keyword.Set = record { shape = only (ObjectPlace ∷ []); made = λ who event given. act_by who (Act.SetEvent event) }
row Keyword.Reset = record { shape = only (ObjectPlace ∷ []); made = λ who event given. act_by who (Act.ResetEvent event) }
row Keyword.Pulse = record { shape = only (ObjectPlace ∷ []); made = λ who event given. act_by who (Act.PulseEvent event) }
-- a semaphore and a count
row Keyword.Release = record { shape = only (ObjectPlace ∷ SignedPlace (2 ^ 31) ∷ []); made = λ who semaphore count given. act_by who (Act.ReleaseSemaphore semaphore count) }
-- a mutex
row Keyword.Unlock = record { shape = only (ObjectPlace ∷ []); made = λ who mutex given. act_by who (Act.ReleaseMutex mutex) }
-- a timer, when it is due, its period, and a routine with its argument or none
row Keyword.Arm = record {
  shape = shape (ObjectPlace ∷ SignedPlace (2 ^ 63) ∷ SignedPlace (2 ^ 31) ∷ []) (Both ValuePlace ValuePlace);
  made = λ who timer due period routine. act_by who (Act.SetTimer timer due period routine);
}
-- a timer
row Keyword.Cancel = record { shape = only (ObjectPlace ∷ []); made = λ who timer given. act_by who (Act.CancelTimer timer) }
-- a thread, a routine and its argument
row Keyword.Apc = record { shape = only (ObjectPlace ∷ ValuePlace ∷ ValuePlace ∷ []); made = λ who thread routine arg given. act_by who (Act.QueueApc thread routine arg) }
-- any object
row Keyword.Close = record { shape = only (ObjectPlace ∷ []); made = λ who handle given. act_by who (Act.Close handle) }
-- how long, whether alertable, and objects
row Keyword.Any = record { shape = shape (TimePlace ∷ ModePlace ∷ []) (Each ObjectPlace); made = λ who ms alertable handles. wait_by who (WaitCall.Objects false (record { ms = ms; alertable = alertable }) handles) }
row Keyword.All = record { shape = shape (TimePlace ∷ ModePlace ∷ []) (Each ObjectPlace); made = λ who ms alertable handles. wait_by who (WaitCall.Objects true (record { ms = ms; alertable = alertable }) handles) }
-- how long, and whether alertable
row Keyword.Sleep = record { shape = only (TimePlace ∷ ModePlace ∷ []); made = λ who ms alertable given. wait_by who (WaitCall.Sleep (record { ms = ms; alertable = alertable })) }
-- the object to signal, the object to wait for, how long, and whether alertable
row Keyword.Swap = record {
  shape = only (ObjectPlace ∷ ObjectPlace ∷ TimePlace ∷ ModePlace ∷ []);
  made = λ who signal object ms alertable given. wait_by who (WaitCall.Swap signal object (record { ms = ms; alertable = alertable }));
}
-- nothing more
row Keyword.Next = record { shape = only []; made = λ who given. act_by who Act.NextApc }
-- nothing more
row Keyword.Exit = record { shape = only []; made = λ who given. Perform who Call.Exit }

-- the places of a keyword's line
abbrev pub places_of : Keyword → List Place
places_of k = (row k).shape.places

-- what may stand after them
abbrev pub after_of : Keyword → After
after_of k = (row k).shape.after

-- ---- what a line says

-- nothing; or `tick M`; or a caller, a keyword and the values of its line
pub data Line : Type 0 where
  Nothing : Line
  Moment : ℕ → Line
  Called : ℕ → (k : Keyword) → Values (places_of k) → ValuesAfter (after_of k) → Line

-- what is made of these values
abbrev pub made_of : (made : Type 0) (places : List Place) → FromValues places made → Values places → made
made_of made [] make values = make
made_of made (place ∷ places) make values = made_of made places (make values.0) values.1

-- the statement of a call's line
abbrev pub called : ℕ → (k : Keyword) → Values (places_of k) → ValuesAfter (after_of k) → Statement
called who k values after = made_of (ValuesAfter (after_of k) → Statement) (places_of k) ((row k).made who) values after

-- the statement of a line
abbrev pub said_by : Line → Statement
said_by Nothing = Blank
said_by (Moment moment) = Tick moment
said_by (Called who k values after) = called who k values after

-- ---- the words of a line

-- what one word says
pub data Part : Type 0 where
  Caller : ℕ → Part
  Word : List ℕ → Part
  Value : (place : Place) → ValueOf place → Part

-- the word says that
abbrev pub WordSays : Scope → Part → List ℕ → Type 0
WordSays scope (Caller who) word = caller_of word ≡ Some who
WordSays scope (Word text) word = word ≡ text
WordSays scope (Value place value) word = value_in scope place word ≡ Some value

-- the words say these parts, one each
abbrev pub Spells : Scope → List Part → List (List ℕ) → Type 0
Spells scope [] [] = Unit {0}
Spells scope (part ∷ parts) (word ∷ words) = WordSays scope part word × Spells scope parts words
Spells scope parts words = ⊥

-- each place with its value
abbrev pub value_parts : (places : List Place) → Values places → List Part
value_parts [] values = []
value_parts (place ∷ places) values = Value place values.0 ∷ value_parts places values.1

-- this word, where it is given
abbrev pub word_if : Bool → List ℕ → List Part
word_if given text = if given then Word text ∷ [] else []

-- those of these words that are given
abbrev pub option_parts : (options : List (List ℕ)) → Given options → List Part
option_parts [] given = []
option_parts (option ∷ options) given = word_if given.0 option ++ option_parts options given.1

-- the values of one place, any number of them
abbrev pub each_parts : (place : Place) → List (ValueOf place) → List Part
each_parts place [] = []
each_parts place (value ∷ values) = Value place value ∷ each_parts place values

-- both of two values, or neither
abbrev pub both_parts : (first second : Place) → Option (ValueOf first × ValueOf second) → List Part
both_parts first second None = []
both_parts first second (Some both) = Value first both.0 ∷ Value second both.1 ∷ []

-- what is said after the places
abbrev pub after_parts : (after : After) → ValuesAfter after → List Part
after_parts (Options options) given = option_parts options given
after_parts (Each place) values = each_parts place values
after_parts (Both first second) both = both_parts first second both

-- what each word of a line says
abbrev pub line_parts : Line → List Part
line_parts Nothing = []
line_parts (Moment moment) = Word (other_text TickWord) ∷ Value MomentPlace moment ∷ []
line_parts (Called who k values after) = Caller who ∷ Word (keyword_text k) ∷ (value_parts (places_of k) values ++ after_parts (after_of k) after)

-- the words are a line of this statement
abbrev pub IsStatement : Scope → Statement → List (List ℕ) → Type 0
IsStatement scope statement words = (line : Line) × (said_by line ≡ statement) × Spells scope (line_parts line) words

-- the words tell how many threads there are: threads N
abbrev pub IsOpening : ℕ → List (List ℕ) → Type 0
IsOpening threads words = Spells (record { threads = 0; names = [] }) (Word (other_text ThreadsWord) ∷ Value (NumberPlace 1 MAX_THREADS) threads ∷ []) words

-- ---- the first fault

-- the first word that is none of these options, or not in their order
abbrev pub options_fault : List (List ℕ) → List (List ℕ) → Option ScriptFault
options_fault [] [] = None
options_fault [] (word ∷ words) = Some ExtraWord
options_fault (option ∷ options) [] = None
options_fault (option ∷ options) (word ∷ words) = if is_word word option then options_fault options words else options_fault options (word ∷ words)

-- the first word that does not fit the place
abbrev pub each_fault : Scope → Place → List (List ℕ) → Option ScriptFault
each_fault scope place [] = None
each_fault scope place (word ∷ words) = if fits_place scope place word then each_fault scope place words else Some (blame place word)

-- the first place that lacks its word, or the first word that may not stand where it does; then what is said of the words after them
abbrev pub places_fault : Scope → List Place → (List (List ℕ) → Option ScriptFault) → List (List ℕ) → Option ScriptFault
places_fault scope [] after words = after words
places_fault scope (place ∷ places) after [] = Some MissingWord
places_fault scope (place ∷ places) after (word ∷ words) = if fits_place scope place word then places_fault scope places after words else Some (blame place word)

-- both places, where a word stands in the first
abbrev pub both_fault : Scope → Place → Place → List (List ℕ) → Option ScriptFault
both_fault scope first second [] = None
both_fault scope first second (word ∷ words) = places_fault scope (first ∷ second ∷ []) (options_fault []) (word ∷ words)

-- the first fault after the places
abbrev pub after_fault : Scope → After → List (List ℕ) → Option ScriptFault
after_fault scope (Options options) words = options_fault options words
after_fault scope (Each place) words = each_fault scope place words
after_fault scope (Both first second) words = both_fault scope first second words

-- the first fault of words that should have this shape
abbrev pub shape_fault : Scope → Shape → List (List ℕ) → Option ScriptFault
shape_fault scope shape words = places_fault scope shape.places (after_fault scope shape.after) words

-- the words after a keyword, if it is one
abbrev pub keyword_fault : Scope → Option Keyword → List (List ℕ) → Option ScriptFault
keyword_fault scope None words = Some UnknownWord
keyword_fault scope (Some k) words = shape_fault scope (row k).shape words

-- the words after a caller
abbrev pub caller_fault : Scope → List (List ℕ) → Option ScriptFault
caller_fault scope [] = Some MissingWord
caller_fault scope (word ∷ words) = keyword_fault scope (keyword_of word) words

-- the first fault of a line's words after `threads`
abbrev pub words_fault : Scope → List (List ℕ) → Option ScriptFault
words_fault scope [] = None
words_fault scope (first ∷ words) =
    if is_word first (other_text TickWord) then shape_fault scope (only (MomentPlace ∷ [])) words
    else if is_some (caller_of first) then caller_fault scope words
    else Some UnknownWord

-- the first fault of a line's words before `threads`, and on the `threads` line
abbrev pub opening_fault : List (List ℕ) → Option ScriptFault
opening_fault [] = None
opening_fault (first ∷ words) =
    if is_word first (other_text ThreadsWord) then shape_fault (record { threads = 0; names = [] }) (only (NumberPlace 1 MAX_THREADS ∷ [])) words else Some ThreadsExpected

-- ---- a whole line

-- at most 4096 bytes, each of those before a comment plain
pub record IsPlainLine (bytes : List ℕ) : Type 0 where
  pub short : nat_le (length bytes) MAX_LINE ≡ true
  pub plain : list_all is_plain (text_of bytes) ≡ true

-- a line is judged by its length, then its bytes, then its words
abbrev pub line_fault : (List (List ℕ) → Option ScriptFault) → List ℕ → Option ScriptFault
line_fault fault_of_words bytes =
    if nat_le (length bytes) MAX_LINE
    then (if list_all is_plain (text_of bytes) then fault_of_words (words_of (text_of bytes)) else Some BadByte)
    else Some LineTooLong
