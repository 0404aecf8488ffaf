-- The text of a statement, put word by word, and the line that says it.
use Rattle.std.proofs.Common.{◌≡◌, ℕ, ℤ, zero, suc, ◌+◌, ◌-◌, ◌^◌, ◌<◌, ◌≤◌, nat_lt, Bool, true, false, List, [], ◌∷◌, ◌++◌, length, map, Option, Some, None, refl, sym, ap, ◌∙◌, append_assoc, length-append, nat_le, arith, codes}
use Rattle.std.proofs.Math.Dec.{eqb-suc-zero}
use Rattle.std.proofs.lemmas.Bool.{ltb-true, le-leb}
use Rattle.std.proofs.lemmas.Fmt.{length-decimal-le}
use Rattle.std.proofs.lemmas.List.{append-nil}
use Rattle.std.specs.List.{join_with_byte, list_all}
use Rattle.std.specs.Fmt.{decimal}
use Rattle.nt_status.specs.Flags.{has_flag}
use Rattle.nt_lines.specs.Words.{is_name, is_name_byte, is_digit}
use Rattle.nt_calls.specs.declared.call.Call.{Call}
use Rattle.nt_calls.specs.declared.call.Act.{Act}
use Rattle.nt_calls.specs.declared.call.WaitCall.{WaitCall}
use Rattle.nt_calls.specs.declared.call.WaitMode.{WaitMode}
use Rattle.nt_grammar.specs.Scope.{Scope}
use Rattle.nt_grammar.specs.Naming.{NamesFree}
use Rattle.nt_grammar.specs.Grammar.{bit_if, act_by, wait_by, Line, Nothing, Moment, Called, called, said_by, Values, ValuesAfter, places_of, after_of, word_if, each_parts}
use Rattle.nt_grammar.specs.Lines.{IsLine}
use Rattle.nt_written.specs.Written.{statement_for, IsWritten}
use Rattle.nt_grammar.specs.Places.{ObjectPlace}
use Rattle.nt_grammar.specs.Spelling.{plain, caller_word, time_word, mode_word, statement_text, IsSigned, CanBeSaid, CanSayAll}
use Rattle.nt_written.specs.Writing.{IsPut, has_words, flags_have_words, flag_text, wait_word, objects_in, objects_text, AreHandles}
use Rattle.nt_grammar.proofs.Joining.{weaker}
use Rattle.nt_grammar.proofs.Recognizing.{one_statement}
use Rattle.nt_grammar.proofs.Saying.{own_text_is_line}
use Rattle.nt_grammar.proofs.Plain.{decimal_digits}
use Rattle.nt_grammar.specs.declared.keyword.Keyword.{Keyword}
use Rattle.nt_grammar.specs.declared.parser.Statement.{Statement}
use Rattle.nt_grammar.specs.declared.parser.Statement.TheVariants.{Create, Perform}

abbrev Text : Type 0
Text = List ℕ

-- each word after a space
abbrev pub put_all : Text → List Text → Text
put_all text [] = text
put_all text (word ∷ words) = put_all (text ++ 32 ∷ word) words

joined-word : (first : Text) (words : List Text) (word : Text) → join_with_byte 32 (first ∷ words) ++ 32 ∷ word ≡ join_with_byte 32 (first ∷ (words ++ word ∷ []))
joined-word first [] word = refl
joined-word first (next ∷ words) word =
    append_assoc first (32 ∷ join_with_byte 32 (next ∷ words)) (32 ∷ word) ∙ ap (λ text. first ++ 32 ∷ text) (joined-word next words word)

pub all_put : (old first : Text) (front words : List Text) → put_all (old ++ join_with_byte 32 (first ∷ front)) words ≡ old ++ join_with_byte 32 (first ∷ (front ++ words))
all_put old first front [] = ap (λ words. old ++ join_with_byte 32 (first ∷ words)) (sym (append-nil front))
all_put old first front (word ∷ words) =
    ap (λ text. put_all text words) (append_assoc old (join_with_byte 32 (first ∷ front)) (32 ∷ word) ∙ ap (λ text. old ++ text) (joined-word first front word))
    ∙ all_put old first (front ++ word ∷ []) words
    ∙ ap (λ words. old ++ join_with_byte 32 (first ∷ words)) (append_assoc front (word ∷ []) words)

-- ---- flags

pub one_flag : (old first : Text) (front : List Text) (a : Bool) (one : Text) →
    (old ++ join_with_byte 32 (first ∷ front)) ++ flag_text a one ≡ old ++ join_with_byte 32 (first ∷ (front ++ map plain (word_if a one ++ [])))
one_flag old first front true one = all_put old first front (one ∷ [])
one_flag old first front false one = append-nil (old ++ join_with_byte 32 (first ∷ front)) ∙ all_put old first front []

pub two_flags : (old first : Text) (front : List Text) (a b : Bool) (one two : Text) →
    ((old ++ join_with_byte 32 (first ∷ front)) ++ flag_text a one) ++ flag_text b two ≡ old ++ join_with_byte 32 (first ∷ (front ++ map plain (word_if a one ++ (word_if b two ++ []))))
two_flags old first front true true one two = all_put old first front (one ∷ two ∷ [])
two_flags old first front true false one two = append-nil ((old ++ join_with_byte 32 (first ∷ front)) ++ 32 ∷ one) ∙ all_put old first front (one ∷ [])
two_flags old first front false b one two = ap (λ text. text ++ flag_text b two) (append-nil (old ++ join_with_byte 32 (first ∷ front))) ∙ one_flag old first front b two

pub flag_of_two : (flags : ℕ) → nat_lt flags 2 ≡ true → bit_if (has_flag flags 1) 1 ≡ flags
flag_of_two zero h = refl
flag_of_two (suc zero) h = refl
flag_of_two (suc (suc n)) h = let lt = ltb-true (suc (suc n)) 2 h in absurd (omega (arith, lt))

pub flags_of_four : (flags : ℕ) → nat_lt flags 4 ≡ true → bit_if (has_flag flags 1) 1 + bit_if (has_flag flags 2) 2 ≡ flags
flags_of_four zero h = refl
flags_of_four (suc zero) h = refl
flags_of_four (suc (suc zero)) h = refl
flags_of_four (suc (suc (suc zero))) h = refl
flags_of_four (suc (suc (suc (suc n)))) h = let lt = ltb-true (suc (suc (suc (suc n)))) 4 h in absurd (omega (arith, lt))

-- ---- what can be said

is_caller : (who : ℕ) → who < 2 ^ 16 → who ≤ 999999999
is_caller who h = omega arith

within : (n bits : ℕ) → n < 2 ^ bits → (0 ≤ n) × (n ≤ 2 ^ bits - 1)
within n bits h = (omega arith, omega (arith, h))

says_one : (scope : Scope) (a : Bool) (one : Text) → CanSayAll scope (word_if a one ++ [])
says_one scope true one = (tt, tt)
says_one scope false one = tt

says_two : (scope : Scope) (a b : Bool) (one two : Text) → CanSayAll scope (word_if a one ++ (word_if b two ++ []))
says_two scope true b one two = (tt, says_one scope b two)
says_two scope false b one two = says_one scope b two

says_each : (scope : Scope) (handles : List ℕ) → AreHandles handles → CanSayAll scope (each_parts ObjectPlace handles)
says_each scope [] h = tt
says_each scope (handle ∷ handles) h = (h.0, says_each scope handles h.1)

pub says_event : (scope : Scope) (who : ℕ) (name : Text) (flags : ℕ) → who < 2 ^ 16 → is_name name ≡ true → nat_lt flags 4 ≡ true →
    NamesFree scope (Create who name (Act.CreateEvent flags)) → CanBeSaid scope (Create who name (Act.CreateEvent flags))
says_event scope who name flags w n f free = (
  Called who Keyword.Event (name, tt) (has_flag flags 1, (has_flag flags 2, tt)),
  ap (λ (flags : ℕ). Create who name (Act.CreateEvent flags)) (flags_of_four flags f),
  (is_caller who w, (tt, ((n, free), says_two scope (has_flag flags 1) (has_flag flags 2) (codes "manual") (codes "set")))),
)

pub says_mutex : (scope : Scope) (who : ℕ) (name : Text) (flags : ℕ) → who < 2 ^ 16 → is_name name ≡ true → nat_lt flags 2 ≡ true →
    NamesFree scope (Create who name (Act.CreateMutex flags)) → CanBeSaid scope (Create who name (Act.CreateMutex flags))
says_mutex scope who name flags w n f free = (
  Called who Keyword.Mutex (name, tt) (has_flag flags 1, tt),
  ap (λ (flags : ℕ). Create who name (Act.CreateMutex flags)) (flag_of_two flags f),
  (is_caller who w, (tt, ((n, free), says_one scope (has_flag flags 1) (codes "owned")))),
)

pub says_timer : (scope : Scope) (who : ℕ) (name : Text) (flags : ℕ) → who < 2 ^ 16 → is_name name ≡ true → nat_lt flags 2 ≡ true →
    NamesFree scope (Create who name (Act.CreateTimer flags)) → CanBeSaid scope (Create who name (Act.CreateTimer flags))
says_timer scope who name flags w n f free = (
  Called who Keyword.Timer (name, tt) (has_flag flags 1, tt),
  ap (λ (flags : ℕ). Create who name (Act.CreateTimer flags)) (flag_of_two flags f),
  (is_caller who w, (tt, ((n, free), says_one scope (has_flag flags 1) (codes "manual")))),
)

pub says_semaphore : (scope : Scope) (who : ℕ) (name : Text) (initial maximum : ℤ) → who < 2 ^ 16 → is_name name ≡ true → IsSigned (2 ^ 31) initial → IsSigned (2 ^ 31) maximum →
    NamesFree scope (Create who name (Act.CreateSemaphore initial maximum)) → CanBeSaid scope (Create who name (Act.CreateSemaphore initial maximum))
says_semaphore scope who name initial maximum w n i m free =
    (Called who Keyword.Semaphore (name, (initial, (maximum, tt))) tt, refl, (is_caller who w, (tt, ((n, free), (i, (m, tt))))))

pub says_duplicate : (scope : Scope) (who : ℕ) (name : Text) (handle access : ℕ) → who < 2 ^ 16 → is_name name ≡ true → handle < 2 ^ 32 → access < 2 ^ 32 →
    NamesFree scope (Create who name (Act.Duplicate handle access)) → CanBeSaid scope (Create who name (Act.Duplicate handle access))
says_duplicate scope who name handle access w n h a free =
    (Called who Keyword.Duplicate (name, (handle, (access, tt))) tt, refl, (is_caller who w, (tt, ((n, free), (h, (within access 32 a, tt))))))

pub says_release : (scope : Scope) (who semaphore : ℕ) (count : ℤ) → who < 2 ^ 16 → semaphore < 2 ^ 32 → IsSigned (2 ^ 31) count → CanBeSaid scope (act_by who (Act.ReleaseSemaphore semaphore count))
says_release scope who semaphore count w h n = (Called who Keyword.Release (semaphore, (count, tt)) tt, refl, (is_caller who w, (tt, (h, (n, tt)))))

pub says_arm : (scope : Scope) (who timer : ℕ) (due period : ℤ) → who < 2 ^ 16 → timer < 2 ^ 32 → IsSigned (2 ^ 63) due → IsSigned (2 ^ 31) period → CanBeSaid scope (act_by who (Act.SetTimer timer due period None))
says_arm scope who timer due period w h d p = (Called who Keyword.Arm (timer, (due, (period, tt))) None, refl, (is_caller who w, (tt, (h, (d, (p, tt))))))

pub says_arm_with : (scope : Scope) (who timer : ℕ) (due period : ℤ) (routine arg : ℕ) → who < 2 ^ 16 → timer < 2 ^ 32 → IsSigned (2 ^ 63) due → IsSigned (2 ^ 31) period →
    routine < 2 ^ 64 → arg < 2 ^ 64 → CanBeSaid scope (act_by who (Act.SetTimer timer due period (Some (routine, arg))))
says_arm_with scope who timer due period routine arg w h d p r a =
    (Called who Keyword.Arm (timer, (due, (period, tt))) (Some (routine, arg)), refl, (is_caller who w, (tt, (h, (d, (p, (within routine 64 r, (within arg 64 a, tt))))))))

pub says_apc : (scope : Scope) (who thread routine arg : ℕ) → who < 2 ^ 16 → thread < 2 ^ 32 → routine < 2 ^ 64 → arg < 2 ^ 64 → CanBeSaid scope (act_by who (Act.QueueApc thread routine arg))
says_apc scope who thread routine arg w h r a =
    (Called who Keyword.Apc (thread, (routine, (arg, tt))) tt, refl, (is_caller who w, (tt, (h, (within routine 64 r, (within arg 64 a, tt))))))

pub says_sleep : (scope : Scope) (who : ℕ) (mode : WaitMode) → who < 2 ^ 16 → mode.ms < 2 ^ 32 → CanBeSaid scope (wait_by who (WaitCall.Sleep mode))
says_sleep scope who mode w m = (Called who Keyword.Sleep (mode.ms, (mode.alertable, tt)) tt, refl, (is_caller who w, (tt, (m, (tt, tt)))))

pub says_swap : (scope : Scope) (who signal object : ℕ) (mode : WaitMode) → who < 2 ^ 16 → signal < 2 ^ 32 → object < 2 ^ 32 → mode.ms < 2 ^ 32 → CanBeSaid scope (wait_by who (WaitCall.Swap signal object mode))
says_swap scope who signal object mode w s o m =
    (Called who Keyword.Swap (signal, (object, (mode.ms, (mode.alertable, tt)))) tt, refl, (is_caller who w, (tt, (s, (o, (m, (tt, tt)))))))

pub says_objects : (scope : Scope) (who : ℕ) (handles : List ℕ) (all : Bool) (mode : WaitMode) → who < 2 ^ 16 → mode.ms < 2 ^ 32 → AreHandles handles →
    CanBeSaid scope (wait_by who (WaitCall.Objects all mode handles))
says_objects scope who handles false mode w m h = (Called who Keyword.Any (mode.ms, (mode.alertable, tt)) handles, refl, (is_caller who w, (tt, (m, (tt, says_each scope handles h)))))
says_objects scope who handles true mode w m h = (Called who Keyword.All (mode.ms, (mode.alertable, tt)) handles, refl, (is_caller who w, (tt, (m, (tt, says_each scope handles h)))))

-- ---- an act on one object alone, and one on none

pub says_set : (scope : Scope) (who h : ℕ) → who < 2 ^ 16 → h < 2 ^ 32 → CanBeSaid scope (act_by who (Act.SetEvent h))
says_set scope who h w k = (Called who Keyword.Set (h, tt) tt, refl, (is_caller who w, (tt, (k, tt))))

pub says_reset : (scope : Scope) (who h : ℕ) → who < 2 ^ 16 → h < 2 ^ 32 → CanBeSaid scope (act_by who (Act.ResetEvent h))
says_reset scope who h w k = (Called who Keyword.Reset (h, tt) tt, refl, (is_caller who w, (tt, (k, tt))))

pub says_pulse : (scope : Scope) (who h : ℕ) → who < 2 ^ 16 → h < 2 ^ 32 → CanBeSaid scope (act_by who (Act.PulseEvent h))
says_pulse scope who h w k = (Called who Keyword.Pulse (h, tt) tt, refl, (is_caller who w, (tt, (k, tt))))

pub says_unlock : (scope : Scope) (who h : ℕ) → who < 2 ^ 16 → h < 2 ^ 32 → CanBeSaid scope (act_by who (Act.ReleaseMutex h))
says_unlock scope who h w k = (Called who Keyword.Unlock (h, tt) tt, refl, (is_caller who w, (tt, (k, tt))))

pub says_cancel : (scope : Scope) (who h : ℕ) → who < 2 ^ 16 → h < 2 ^ 32 → CanBeSaid scope (act_by who (Act.CancelTimer h))
says_cancel scope who h w k = (Called who Keyword.Cancel (h, tt) tt, refl, (is_caller who w, (tt, (k, tt))))

pub says_close : (scope : Scope) (who h : ℕ) → who < 2 ^ 16 → h < 2 ^ 32 → CanBeSaid scope (act_by who (Act.Close h))
says_close scope who h w k = (Called who Keyword.Close (h, tt) tt, refl, (is_caller who w, (tt, (k, tt))))

pub says_next : (scope : Scope) (who : ℕ) → who < 2 ^ 16 → CanBeSaid scope (act_by who Act.NextApc)
says_next scope who w = (Called who Keyword.Next tt tt, refl, (is_caller who w, (tt, tt)))

pub says_exit : (scope : Scope) (who : ℕ) → who < 2 ^ 16 → CanBeSaid scope (Perform who Call.Exit)
says_exit scope who w = (Called who Keyword.Exit tt tt, refl, (is_caller who w, (tt, tt)))

-- ---- the objects of a wait

-- the objects of a wait are put one after another
pub objects_put : (old first : Text) (front : List Text) (handles : List ℕ) →
    (old ++ join_with_byte 32 (first ∷ front)) ++ objects_text handles ≡ old ++ join_with_byte 32 (first ∷ (front ++ map plain (each_parts ObjectPlace handles)))
objects_put old first front [] = append-nil (old ++ join_with_byte 32 (first ∷ front)) ∙ all_put old first front []
objects_put old first front (handle ∷ handles) =
    sym (append_assoc (old ++ join_with_byte 32 (first ∷ front)) (32 ∷ decimal handle) (objects_text handles))
    ∙ ap (λ text. text ++ objects_text handles) (all_put old first front (decimal handle ∷ []))
    ∙ objects_put old first (front ++ decimal handle ∷ []) handles
    ∙ ap (λ words. old ++ join_with_byte 32 (first ∷ words)) (append_assoc front (decimal handle ∷ []) (map plain (each_parts ObjectPlace handles)))

pub objects_wait_put : (old : Text) (who : ℕ) (handles : List ℕ) (all : Bool) (mode : WaitMode) →
    (((old ++ (caller_word who ++ 32 ∷ wait_word all)) ++ 32 ∷ time_word mode.ms) ++ 32 ∷ mode_word mode.alertable) ++ objects_text handles
    ≡ old ++ statement_text (wait_by who (WaitCall.Objects all mode handles))
objects_wait_put old who handles false mode =
    ap (λ text. text ++ objects_text handles) (all_put old (caller_word who) (codes "any" ∷ []) (time_word mode.ms ∷ mode_word mode.alertable ∷ []))
    ∙ objects_put old (caller_word who) (codes "any" ∷ time_word mode.ms ∷ mode_word mode.alertable ∷ []) handles
objects_wait_put old who handles true mode =
    ap (λ text. text ++ objects_text handles) (all_put old (caller_word who) (codes "all" ∷ []) (time_word mode.ms ∷ mode_word mode.alertable ∷ []))
    ∙ objects_put old (caller_word who) (codes "all" ∷ time_word mode.ms ∷ mode_word mode.alertable ∷ []) handles

-- ---- the name of what was created

digit_is_name_byte : (b : ℕ) → is_digit b ≡ true → is_name_byte b ≡ true
digit_is_name_byte b h = grind arith

-- `h` and the number of a handle is a name
pub name_of_handle : (handle : ℕ) → handle < 2 ^ 32 → is_name (104 ∷ decimal handle) ≡ true
unfolding is_name
name_of_handle handle lt =
    let digits = (decimal_digits handle (omega (arith, lt))).digits in
    let bytes : list_all is_name_byte (decimal handle) ≡ true = weaker is_digit is_name_byte digit_is_name_byte (decimal handle) digits in
    let short = length-decimal-le 10 handle (omega arith) (omega (arith, lt)) (omega (arith, lt)) in
    let fits : nat_le (length (104 ∷ decimal handle)) 32 ≡ true = le-leb _ _ (omega (arith, short)) in
    rw (eqb-suc-zero (length (decimal handle)), bytes, fits) refl

-- ---- too many objects for a line

-- a joined text is as long as its words and the spaces between them, so no shorter than the words are many
words_long : (first : Text) (handles : List ℕ) → length handles ≤ length (join_with_byte 32 (first ∷ map plain (each_parts ObjectPlace handles)))
words_long first [] = omega arith
words_long first (handle ∷ handles) =
    let rest = join_with_byte 32 (decimal handle ∷ map plain (each_parts ObjectPlace handles)) in
    let longer : length handles ≤ length rest = words_long (decimal handle) handles in
    omega (arith, longer, length-append first (32 ∷ rest))

objects_long : (who : ℕ) (handles : List ℕ) (all : Bool) (mode : WaitMode) → length handles ≤ length (statement_text (wait_by who (WaitCall.Objects all mode handles)))
objects_long who handles false mode =
    let last = join_with_byte 32 (mode_word mode.alertable ∷ map plain (each_parts ObjectPlace handles)) in
    let time = time_word mode.ms ++ 32 ∷ last in
    let keyword = codes "any" ++ 32 ∷ time in
    omega (arith, words_long (mode_word mode.alertable) handles, length-append (time_word mode.ms) (32 ∷ last), length-append (codes "any") (32 ∷ time), length-append (caller_word who) (32 ∷ keyword))
objects_long who handles true mode =
    let last = join_with_byte 32 (mode_word mode.alertable ∷ map plain (each_parts ObjectPlace handles)) in
    let time = time_word mode.ms ++ 32 ∷ last in
    let keyword = codes "all" ++ 32 ∷ time in
    omega (arith, words_long (mode_word mode.alertable) handles, length-append (time_word mode.ms) (32 ∷ last), length-append (codes "all") (32 ∷ time), length-append (caller_word who) (32 ∷ keyword))

pub refused_is_name : is_name (codes "refused") ≡ true
unfolding is_name
refused_is_name = refl

pub many_long : (who : ℕ) (call : Call) (created : Option ℕ) → objects_in call ≤ length (statement_text (statement_for who call created))
many_long who (Call.Act act) created = omega arith
many_long who (Call.Wait (WaitCall.Objects all mode handles)) created = objects_long who handles all mode
many_long who (Call.Wait (WaitCall.Sleep mode)) created = omega arith
many_long who (Call.Wait (WaitCall.Swap signal object mode)) created = omega arith
many_long who Call.Exit created = omega arith

-- ---- a line that was written

pub written : (old kept new all : Text) (statement : Statement) → kept ≡ old → IsPut kept statement new → all ≡ new ++ 10 ∷ [] → length (statement_text statement) ≤ 4096 → IsWritten statement old all
written old kept new all statement same put ends short = record {
  puts = ends ∙ ap (λ text. text ++ 10 ∷ []) (put.puts ∙ ap (λ text. text ++ statement_text statement) same) ∙ append_assoc old (statement_text statement) (10 ∷ []);
  is = λ scope free. own_text_is_line scope statement (put.said scope free) short;
  only = λ scope other line free. one_statement scope (statement_text statement) other statement line (own_text_is_line scope statement (put.said scope free) short);
}

-- ---- calls that no line is

-- each flag of the statement's call has a word
abbrev flags_said : Statement → Bool
flags_said (Create who name act) = flags_have_words act
flags_said (Perform who call) = has_words call
flags_said _ = true

two_bits : (a b : Bool) → nat_lt (bit_if a 1 + bit_if b 2) 4 ≡ true
two_bits true true = refl
two_bits true false = refl
two_bits false true = refl
two_bits false false = refl

one_bit : (a : Bool) → nat_lt (bit_if a 1) 2 ≡ true
one_bit true = refl
one_bit false = refl

called_said : (who : ℕ) (k : Keyword) (values : Values (places_of k)) (after : ValuesAfter (after_of k)) → flags_said (called who k values after) ≡ true
called_said who Keyword.Event values after = two_bits after.0 after.1.0
called_said who Keyword.Semaphore values after = refl
called_said who Keyword.Mutex values after = one_bit after.0
called_said who Keyword.Timer values after = one_bit after.0
called_said who Keyword.Duplicate values after = refl
called_said who Keyword.Set values after = refl
called_said who Keyword.Reset values after = refl
called_said who Keyword.Pulse values after = refl
called_said who Keyword.Release values after = refl
called_said who Keyword.Unlock values after = refl
called_said who Keyword.Arm values after = refl
called_said who Keyword.Cancel values after = refl
called_said who Keyword.Apc values after = refl
called_said who Keyword.Close values after = refl
called_said who Keyword.Any values after = refl
called_said who Keyword.All values after = refl
called_said who Keyword.Sleep values after = refl
called_said who Keyword.Swap values after = refl
called_said who Keyword.Next values after = refl
called_said who Keyword.Exit values after = refl

line_said : (line : Line) → flags_said (said_by line) ≡ true
line_said Nothing = refl
line_said (Moment moment) = refl
line_said (Called who k values after) = called_said who k values after

call_said : (who : ℕ) (call : Call) (created : Option ℕ) → flags_said (statement_for who call created) ≡ has_words call
call_said who (Call.Act (Act.CreateEvent flags)) created = refl
call_said who (Call.Act (Act.CreateSemaphore initial maximum)) created = refl
call_said who (Call.Act (Act.CreateMutex flags)) created = refl
call_said who (Call.Act (Act.CreateTimer flags)) created = refl
call_said who (Call.Act (Act.Duplicate handle access)) created = refl
call_said who (Call.Act (Act.SetEvent handle)) created = refl
call_said who (Call.Act (Act.ResetEvent handle)) created = refl
call_said who (Call.Act (Act.PulseEvent handle)) created = refl
call_said who (Call.Act (Act.ReleaseSemaphore handle count)) created = refl
call_said who (Call.Act (Act.ReleaseMutex handle)) created = refl
call_said who (Call.Act (Act.SetTimer timer due period routine)) created = refl
call_said who (Call.Act (Act.CancelTimer timer)) created = refl
call_said who (Call.Act (Act.QueueApc thread routine arg)) created = refl
call_said who (Call.Act (Act.Close handle)) created = refl
call_said who (Call.Act Act.NextApc) created = refl
call_said who (Call.Wait wait) created = refl
call_said who Call.Exit created = refl

pub no_line : (who : ℕ) (call : Call) (created : Option ℕ) → has_words call ≡ false → (scope : Scope) (bytes : Text) → IsLine scope (statement_for who call created) bytes → ⊥
no_line who call created none scope bytes is =
    let line = is.1.0 in
    let bad : true ≡ false = sym (line_said line) ∙ ap flags_said is.1.1 ∙ call_said who call created ∙ none in
    absurd cc
