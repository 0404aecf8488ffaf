-- From lines carried out to a whole run.
use Rattle.std.proofs.Common.{◌≡◌, ℕ, ◌+◌, ◌-◌, ◌<◌, List, [], ◌∷◌, ◌++◌, length, Option, Some, None, Result, Ok, Err, refl, sym, ap, subst, ◌∙◌, append_assoc, append-nil, arith, inl, inr, true, false, Bool, length-append, take, nat_le, suc}
use Rattle.std.specs.List.{slice_split, onto_first, AllByRecursion}
use Rattle.std.proofs.lemmas.List.Splits.{slice_split_at, slice_split_none, slice_split-cons_yes, slice_split-cons_no}
use Rattle.std.specs.Io.KnownBytes.{Consumes, Keeps, IsAtEnd}
use Rattle.std.proofs.lemmas.Bool.{lt-leb}
use Rattle.std.proofs.KnownBytes.{Consumes-trans, Appends-trans, Appends-nil, Appends-kept, Consumes-kept, prepend_known-nil}
use Rattle.nt_lines.specs.Lines.{is_feed, HasNoFeed, lines_of, without_empty_last, to_come}
use Rattle.nt_calls.specs.Runs.{Turn}
use Rattle.nt_grammar.specs.Lines.{FaultIn}
use Rattle.nt_script.specs.Progress.{Progress, Advances, CarriedOut, scope_of, progress_of}
use Rattle.nt_script.specs.Running.{Has, end_of, summary_at, Stops, FaultNext, AnyCause, ReadsPart, Breaks, Answers, with_feeds, TakesLine, FindsFault, FailsIn, TakesNext, NothingAhead, SoFar, Whole, RunEnds, WritesLine}
use Rattle.nt_grammar.specs.declared.fault.ScriptFault.{ScriptFault}
use Rattle.nt_grammar.specs.declared.fault.ScriptFault.TheVariants.{LineTooLong}
use Rattle.nt_script.specs.declared.fault.RunFault.{RunFault}
use Rattle.nt_script.specs.declared.fault.RunFault.TheVariants.{Script, Read, Write, Memory}
use Rattle.nt_script.specs.declared.runner.Taken.TheVariants.{Line, LastLine, Nothing}
use Rattle.nt_script.specs.declared.summary.Summary.{Summary}
use Rattle.nt_script.specs.declared.session.Session.{Session}
use Rattle.nt_script.specs.declared.tally.Tally.{Tally}
use Rattle.nt_script.proofs.Carrying.{CarriedOut-then}

-- ---- the lines of an input

-- a piece before others
without_empty_last-more : (piece next : List ℕ) (pieces : List (List ℕ)) → without_empty_last (piece ∷ next ∷ pieces) ≡ piece ∷ without_empty_last (next ∷ pieces)
without_empty_last-more [] next pieces = refl
without_empty_last-more (byte ∷ bytes) next pieces = refl

-- there is always a first piece
pub first_piece : (bytes : List ℕ) → (piece : List ℕ) × (pieces : List (List ℕ)) × (slice_split is_feed bytes ≡ piece ∷ pieces)
first_piece [] = ([], [], refl)
first_piece (byte ∷ bytes) =
    let more = first_piece bytes in
    by (is_feed byte) refl more.0 more.1 more.2
  where
    by : (b : Bool) → is_feed byte ≡ b → (piece : List ℕ) (pieces : List (List ℕ)) → slice_split is_feed bytes ≡ piece ∷ pieces
        → (first : List ℕ) × (others : List (List ℕ)) × (slice_split is_feed (byte ∷ bytes) ≡ first ∷ others)
    by true e piece pieces h = ([], slice_split is_feed bytes, slice_split-cons_yes is_feed byte bytes e)
    by false e piece pieces h = (byte ∷ piece, pieces, slice_split-cons_no is_feed byte bytes e ∙ ap (onto_first byte) h)

-- one line with its LF, and what stands after it
pub lines_of-feed : (line rest : List ℕ) → HasNoFeed line → lines_of (line ++ 10 ∷ rest) ≡ line ∷ lines_of rest
lines_of-feed line rest h =
    let one = slice_split_at is_feed line 10 rest h refl in
    let more = first_piece rest in
    ap without_empty_last (one ∙ ap (λ (pieces : List (List ℕ)). line ∷ pieces) more.2) ∙ without_empty_last-more line more.0 more.1
    ∙ ap (λ (pieces : List (List ℕ)). line ∷ without_empty_last pieces) (sym more.2)

-- whole lines, and what stands after them
pub lines_of-feeds : (lines : List (List ℕ)) (rest : List ℕ) → AllByRecursion HasNoFeed lines → lines_of (with_feeds lines ++ rest) ≡ lines ++ lines_of rest
lines_of-feeds [] rest h = refl
lines_of-feeds (line ∷ lines) rest h =
    let here : with_feeds (line ∷ lines) ++ rest ≡ line ++ 10 ∷ (with_feeds lines ++ rest) = append_assoc (line ++ 10 ∷ []) (with_feeds lines) rest ∙ append_assoc line (10 ∷ []) (with_feeds lines ++ rest) in
    ap lines_of here ∙ lines_of-feed line (with_feeds lines ++ rest) h.0 ∙ ap (λ (others : List (List ℕ)). line ∷ others) (lines_of-feeds lines rest h.1)

-- a last line that lacks its LF
pub lines_of-last : (line : List ℕ) → HasNoFeed line → 0 < length line → lines_of line ≡ line ∷ []
lines_of-last [] h some = absurd (omega arith)
lines_of-last (byte ∷ bytes) h some = ap without_empty_last (slice_split_none is_feed (byte ∷ bytes) h)

-- too many bytes without an LF begin the next line
pub lines_of-long : (line rest : List ℕ) → HasNoFeed line → 0 < length line
    → (more : List ℕ) × (others : List (List ℕ)) × (lines_of (line ++ rest) ≡ (line ++ more) ∷ others)
lines_of-long line rest h some =
    let split = split_after line rest h in
    first_of line split.0 split.1 some (lines_of (line ++ rest)) (ap without_empty_last split.2)
  where
    split_after : (line rest : List ℕ) → HasNoFeed line → (more : List ℕ) × (pieces : List (List ℕ)) × (slice_split is_feed (line ++ rest) ≡ (line ++ more) ∷ pieces)
    split_after [] rest h = first_piece rest
    split_after (byte ∷ bytes) rest h =
        let others = split_after bytes rest (λ k d lt. h (suc k) d (omega arith)) in
        (others.0, others.1, slice_split-cons_no is_feed byte (bytes ++ rest) (h 0 0 (omega arith)) ∙ ap (onto_first byte) others.2)

    first_of : (line more : List ℕ) (pieces : List (List ℕ)) → 0 < length line → (lines : List (List ℕ)) → lines ≡ without_empty_last ((line ++ more) ∷ pieces)
        → (more : List ℕ) × (others : List (List ℕ)) × (lines ≡ (line ++ more) ∷ others)
    first_of [] more pieces some lines e = absurd (omega arith)
    first_of (byte ∷ bytes) more [] some lines e = (more, [], e)
    first_of (byte ∷ bytes) more (next ∷ pieces) some lines e = (more, without_empty_last (next ∷ pieces), e)

-- ---- the input of a reader

-- bytes that were taken are the front of all that it had
pub input_of : (left left' : Option (List ℕ)) (taken : List ℕ) → Consumes left left' taken → (rest : List ℕ) × Has left (taken ++ rest)
input_of None left' taken h = ([], tt)
input_of (Some bytes) None taken h = absurd h
input_of (Some bytes) (Some rest) taken h = (rest, h)

-- and all of it where it is at its end
pub input_at_end : (left left' : Option (List ℕ)) (taken : List ℕ) → Consumes left left' taken → IsAtEnd left' → Has left taken
input_at_end None left' taken h end = tt
input_at_end (Some bytes) None taken h end = absurd h
input_at_end (Some bytes) (Some rest) taken h end = h ∙ ap (λ (l : List ℕ). taken ++ l) end ∙ append-nil taken

-- ---- one line more

with_feeds-more : (lines : List (List ℕ)) (line : List ℕ) → with_feeds (lines ++ line ∷ []) ≡ with_feeds lines ++ (line ++ 10 ∷ [])
with_feeds-more [] line = append-nil (line ++ 10 ∷ [])
with_feeds-more (first ∷ lines) line = ap (λ (rest : List ℕ). (first ++ 10 ∷ []) ++ rest) (with_feeds-more lines line) ∙ sym (append_assoc (first ++ 10 ∷ []) (with_feeds lines) (line ++ 10 ∷ []))

feedless-more : (lines : List (List ℕ)) (line : List ℕ) → AllByRecursion HasNoFeed lines → HasNoFeed line → AllByRecursion HasNoFeed (lines ++ line ∷ [])
feedless-more [] line h one = (one, tt)
feedless-more (first ∷ lines) line h one = (h.0, feedless-more lines line h.1 one)

start : (left : Option (List ℕ)) → Consumes left (to_come [] left) []
start None = tt
start (Some bytes) = refl

SoFar-none : (left left' held : Option (List ℕ)) → Consumes left left' [] → SoFar 1 None left left' held held
SoFar-none left left' held h = record {
  lines = [];
  turns = [];
  text = [];
  feedless = tt;
  place = refl;
  taken = h;
  written = Appends-nil held;
  carried = record { transcript = (refl, refl, refl); ran = refl };
  counted = tt;
}

-- nothing was read ahead, and nothing opened
pub SoFar-start : (ahead : List ℕ) (session : Option Session) (left held : Option (List ℕ)) → ahead ≡ [] → session ≡ None → SoFar 1 (progress_of session) left (to_come ahead left) held held
SoFar-start ahead session left held p q = rw (p, q) (SoFar-none left (to_come [] left) held (start left))

module _ (number : ℕ) (old new : Option Progress) (left mid left' held between held' : Option (List ℕ)) (s : SoFar number old left mid held between) where
  -- the line that was read is carried out
  carried-more : (line : List ℕ) (turns : List Turn) (text : List ℕ) → Advances number line old turns text new → CarriedOut (s.lines ++ line ∷ []) (s.turns ++ turns) (s.text ++ text) new
  carried-more line turns text a = CarriedOut-then s.lines s.turns s.text old new line turns text s.carried (subst (λ (n : ℕ). Advances n line old turns text new) s.place a)

  pub SoFar-then : TakesNext number old new mid left' between held' (Ok Line) → SoFar (number + 1) new left left' held held'
  SoFar-then t = let line = t.0 in let c = t.3 in record {
    lines = s.lines ++ line ∷ [];
    turns = s.turns ++ c.turns;
    text = s.text ++ c.text;
    feedless = feedless-more s.lines line s.feedless t.1;
    place = omega (arith, s.place, length-append s.lines (line ∷ []));
    taken = subst (Consumes left left') (sym (with_feeds-more s.lines line)) (Consumes-trans left mid left' (with_feeds s.lines) (line ++ 10 ∷ []) s.taken t.2);
    written = Appends-trans held between held' s.text c.text s.written c.written;
    carried = carried-more line c.turns c.text c.advances;
    counted = c.counted;
  }

  pub Whole-last : TakesNext number old new mid left' between held' (Ok LastLine) → Whole number new left held held'
  Whole-last t =
      let line = t.0 in
      let c = t.5 in
      let input = with_feeds s.lines ++ line in
      let lines : lines_of input ≡ s.lines ++ line ∷ [] = lines_of-feeds s.lines line s.feedless ∙ ap (λ (rest : List (List ℕ)). s.lines ++ rest) (lines_of-last line t.1 t.2) in
      record {
        input = input;
        turns = s.turns ++ c.turns;
        text = s.text ++ c.text;
        has = input_at_end left left' input (Consumes-trans left mid left' (with_feeds s.lines) line s.taken t.3) t.4;
        counted = omega (arith, s.place, ap length lines, length-append s.lines (line ∷ []));
        carried = subst (λ (all : List (List ℕ)). CarriedOut all (s.turns ++ c.turns) (s.text ++ c.text) new) (sym lines) (carried-more line c.turns c.text c.advances);
        written = Appends-trans held between held' s.text c.text s.written c.written;
      }

  pub Whole-nothing : TakesNext number old new mid left' between held' (Ok Nothing) → Whole (number - 1) new left held held'
  Whole-nothing t =
      let input = with_feeds s.lines in
      let lines : lines_of input ≡ s.lines = ap lines_of (sym (append-nil input)) ∙ lines_of-feeds s.lines [] s.feedless ∙ append-nil s.lines in
      record {
        input = input;
        turns = s.turns;
        text = s.text;
        has = input_at_end left left' input (Consumes-kept left mid left' input s.taken t.0) t.1;
        counted = omega (arith, s.place, ap length lines);
        carried = subst (λ (now : Option Progress). CarriedOut (lines_of input) s.turns s.text now) (sym t.3) (subst (λ (all : List (List ℕ)). CarriedOut all s.turns s.text old) (sym lines) s.carried);
        written = Appends-kept held between held' s.text s.written t.2;
      }

  -- the lines before this one, and these after them
  pub stops : (IsCause : List (List ℕ) → Option Progress → List (List ℕ) → Type 0) (rest : List ℕ) (after : List (List ℕ)) → Has left (with_feeds s.lines ++ rest) → lines_of rest ≡ after → IsCause s.lines old after
      → Keeps between held'
      → Stops left held held' number IsCause
  stops IsCause rest after has lines cause kept = record {
    input = with_feeds s.lines ++ rest;
    turns = s.turns;
    text = s.text;
    before = s.lines;
    after = after;
    now = old;
    has = has;
    lines = lines_of-feeds s.lines rest s.feedless ∙ ap (λ (others : List (List ℕ)). s.lines ++ others) lines;
    place = s.place;
    carried = s.carried;
    written = Appends-kept held between held' s.text s.written kept;
    cause = cause;
  }

  -- the run stopped within a line, or after it
  pub stops-within : (IsCause : List (List ℕ) → Option Progress → List (List ℕ) → Type 0) (bytes : List ℕ) → Consumes mid left' bytes → ((after : List (List ℕ)) → IsCause s.lines old after)
      → Keeps between held' → Stops left held held' number IsCause
  stops-within IsCause bytes taken cause kept =
      let input = input_of left left' (with_feeds s.lines ++ bytes) (Consumes-trans left mid left' (with_feeds s.lines) bytes s.taken taken) in
      stops IsCause (bytes ++ input.0) (lines_of (bytes ++ input.0)) (rw append_assoc at input.1) refl (cause (lines_of (bytes ++ input.0))) kept

  -- what was taken in all, where a part of a line was
  pub consumed : (part : List ℕ) → Consumes mid left' part → Consumes left left' (with_feeds s.lines ++ part)
  consumed part taken = Consumes-trans left mid left' (with_feeds s.lines) part s.taken taken

  -- a line that was read whole: the lines of the input from it on
  from_line : (line : List ℕ) → TakesLine mid left' line → (rest : List ℕ) × (others : List (List ℕ)) × Has left (with_feeds s.lines ++ rest) × (lines_of rest ≡ line ∷ others)
  from_line line (feedless, inl taken) =
      let input = input_of left left' (with_feeds s.lines ++ (line ++ 10 ∷ [])) (Consumes-trans left mid left' (with_feeds s.lines) (line ++ 10 ∷ []) s.taken taken) in
      let split : (with_feeds s.lines ++ (line ++ 10 ∷ [])) ++ input.0 ≡ with_feeds s.lines ++ (line ++ 10 ∷ input.0) =
      append_assoc (with_feeds s.lines) (line ++ 10 ∷ []) input.0 ∙ ap (λ (l : List ℕ). with_feeds s.lines ++ l) (append_assoc line (10 ∷ []) input.0) in
      (line ++ 10 ∷ input.0, lines_of input.0, subst (Has left) split input.1, lines_of-feed line input.0 feedless)
  from_line line (feedless, inr last) =
      (line, [], input_at_end left left' (with_feeds s.lines ++ line) (Consumes-trans left mid left' (with_feeds s.lines) line s.taken last.1) last.2, lines_of-last line feedless last.0)

  too_long : (line more : List ℕ) → 4096 < length line → FaultIn (scope_of old) (line ++ more) LineTooLong
  too_long line more long =
      let test : nat_le (length (line ++ more)) 4096 ≡ false = lt-leb _ _ (omega (arith, length-append line more)) in
      by old test
    where
      by : (now : Option Progress) → nat_le (length (line ++ more)) 4096 ≡ false → FaultIn (scope_of now) (line ++ more) LineTooLong
      by None e = rw e refl
      by (Some now) e = rw e refl

  pub Stops-fault : (fault : ScriptFault) → FindsFault mid left' old fault → Keeps between held' → Stops left held held' number (FaultNext fault)
  Stops-fault fault (inl h) kept =
      let from = from_line h.0 h.1 in
      stops (FaultNext fault) from.0 (h.0 ∷ from.1) from.2 from.3 h.2 kept
  Stops-fault fault (inr h) kept =
      let line = h.0 in
      let input = input_of left left' (with_feeds s.lines ++ line) (Consumes-trans left mid left' (with_feeds s.lines) line s.taken h.3) in
      let long = lines_of-long line input.0 h.1 (omega (arith, h.2)) in
      stops (FaultNext fault) (line ++ input.0) ((line ++ long.0) ∷ long.1) (rw append_assoc at input.1) long.2 (subst (λ (f : ScriptFault). FaultIn (scope_of old) (line ++ long.0) f) (sym h.4) (too_long line long.0 (omega (arith, h.2)))) kept

  pub Breaks-in : FailsIn number old new mid left' between held' → Breaks left held held' number
  Breaks-in f =
      let from = from_line f.line f.taken in
      record {
        input = with_feeds s.lines ++ from.0;
        turns = s.turns;
        text = s.text;
        output = f.text;
        before = s.lines;
        after = f.line ∷ from.1;
        now = old;
        taken = f.written.0;
        has = from.2;
        lines = lines_of-feeds s.lines from.0 s.feedless ∙ ap (λ (others : List (List ℕ)). s.lines ++ others) from.3;
        place = s.place;
        carried = s.carried;
        next = (f.turns, new, f.advances);
        written = Appends-trans held between held' s.text (take f.written.0 f.text) s.written f.written.2;
        not_whole = f.written.1;
      }

-- what the reader has left, where nothing was read ahead
reader_left : (ahead : List ℕ) (left reader : Option (List ℕ)) (bytes : List ℕ) → ahead ≡ [] → Consumes left (to_come ahead reader) bytes → Consumes left reader bytes
reader_left ahead left reader bytes none taken =
    let same : to_come ahead reader ≡ reader = ap (λ (l : List ℕ). to_come l reader) none ∙ prepend_known-nil reader in
    subst (λ (rest : Option (List ℕ)). Consumes left rest bytes) same taken

-- a line that was not carried out ends the run
pub Answers-err : (number : ℕ) (old new : Option Progress) (left mid : Option (List ℕ)) (ahead : List ℕ) (reader held between held' : Option (List ℕ)) → SoFar number old left mid held between → (fault : RunFault)
    → TakesNext number old new mid (to_come ahead reader) between held' (Err fault) → NothingAhead ahead fault → Answers left reader held held' (Err fault)
Answers-err number old new left mid ahead reader held between held' s (Script place fault) t none =
    subst (λ (n : ℕ). Stops left held held' n (FaultNext fault)) (sym t.0) (Stops-fault number old new left mid (to_come ahead reader) held between held' s fault t.1 t.2)
Answers-err number old new left mid ahead reader held between held' s (Read place) t none =
    let part = t.1 in
    let taken = reader_left ahead left reader (with_feeds s.lines ++ part.0) none (consumed number old new left mid (to_come ahead reader) held between held' s part.0 part.3) in
    subst (λ (n : ℕ). Stops left held held' n (ReadsPart left reader)) (sym t.0)
    (stops-within number old new left mid (to_come ahead reader) held between held' s (ReadsPart left reader) part.0 part.3 (λ after. (part.0, part.1, part.2, taken)) t.2)
Answers-err number old new left mid ahead reader held between held' s (Memory place) t none =
    subst (λ (n : ℕ). Stops left held held' n AnyCause) (sym t.0) (stops-within number old new left mid (to_come ahead reader) held between held' s AnyCause t.1.0 t.1.1 (λ after. tt) t.2)
Answers-err number old new left mid ahead reader held between held' s (Write place) t none =
    subst (Breaks left held held') (sym t.0) (Breaks-in number old new left mid (to_come ahead reader) held between held' s t.1)

-- ---- a line that was read

taken_bytes : (left left' : Option (List ℕ)) (line : List ℕ) → TakesLine left left' line → (bytes : List ℕ) × Consumes left left' bytes
taken_bytes left left' line (feedless, inl taken) = (line ++ 10 ∷ [], taken)
taken_bytes left left' line (feedless, inr last) = (line, last.1)

-- a line that was read and not carried out, or not written whole
pub Turns-err : (number : ℕ) (line : List ℕ) (old new : Option Progress) (left left' held held' : Option (List ℕ)) (fault : RunFault)
    → TakesLine left left' line → WritesLine number line old new held held' (Err fault) → TakesNext number old new left left' held held' (Err fault)
Turns-err number line old new left left' held held' (Script place fault) t w = (w.0, inl (line, t, w.1), w.2)
Turns-err number line old new left left' held held' (Memory place) t w = (w.0, taken_bytes left left' line t, w.1)
Turns-err number line old new left left' held held' (Write place) t w =
    (w.0, record { line = line; turns = w.1.0; text = w.1.1; taken = t; advances = w.1.2; written = w.1.3 })
Turns-err number line old new left left' held held' (Read place) t w = absurd w

-- ---- the end

-- the end was written, or not, after all lines
pub Answers-end : (count : ℕ) (now : Option Progress) (left reader held between held' : Option (List ℕ)) (result : Result Summary RunFault)
    → Whole count now left held between → RunEnds count now between held' result → Answers left reader held held' result
Answers-end count None left reader held between held' (Err (Script place fault)) w e = record {
  input = w.input;
  turns = w.turns;
  text = w.text;
  before = lines_of w.input;
  after = [];
  now = None;
  has = w.has;
  lines = sym (append-nil (lines_of w.input));
  place = e.0 ∙ ap (λ (n : ℕ). 1 + n) w.counted;
  carried = w.carried;
  written = Appends-kept held between held' w.text w.written e.2;
  cause = (refl, e.1);
}
Answers-end count (Some now) left reader held between held' (Ok summary) w e = record {
  input = w.input;
  turns = w.turns;
  text = w.text;
  end = now;
  has = w.has;
  carried = w.carried;
  written = Appends-trans held between held' w.text (end_of now) w.written e.1;
  counts = e.0 ∙ ap (λ (n : ℕ). summary_at n now) w.counted ∙ ap (λ (tally : Tally). summary_at (length (lines_of w.input)) (record now { tally = tally })) w.carried.ran.1;
}
Answers-end count (Some now) left reader held between held' (Err (Memory place)) w e = record {
  input = w.input;
  turns = w.turns;
  text = w.text;
  before = lines_of w.input;
  after = [];
  now = Some now;
  has = w.has;
  lines = sym (append-nil (lines_of w.input));
  place = e.0 ∙ ap (λ (n : ℕ). 1 + n) w.counted;
  carried = w.carried;
  written = Appends-kept held between held' w.text w.written e.1;
  cause = tt;
}
Answers-end count (Some now) left reader held between held' (Err (Write place)) w e = record {
  input = w.input;
  turns = w.turns;
  text = w.text;
  output = end_of now;
  before = lines_of w.input;
  after = [];
  now = Some now;
  taken = e.1.0;
  has = w.has;
  lines = sym (append-nil (lines_of w.input));
  place = e.0 ∙ ap (λ (n : ℕ). 1 + n) w.counted;
  carried = w.carried;
  next = refl;
  written = Appends-trans held between held' w.text (take e.1.0 (end_of now)) w.written e.1.2;
  not_whole = e.1.1;
}
Answers-end count None left reader held between held' (Ok summary) w e = absurd e
Answers-end count None left reader held between held' (Err (Read place)) w e = absurd e
Answers-end count None left reader held between held' (Err (Memory place)) w e = absurd e
Answers-end count None left reader held between held' (Err (Write place)) w e = absurd e
Answers-end count (Some now) left reader held between held' (Err (Script place fault)) w e = absurd e
Answers-end count (Some now) left reader held between held' (Err (Read place)) w e = absurd e

-- nothing was taken yet
pub Answers-none : (left reader held : Option (List ℕ)) → Answers left reader held held (Err (Memory 1))
Answers-none left reader held =
    let input = all_of left in
    record {
      input = input.0;
      turns = [];
      text = [];
      before = [];
      after = lines_of input.0;
      now = None;
      has = input.1;
      lines = refl;
      place = refl;
      carried = record { transcript = (refl, refl, refl); ran = refl };
      written = Appends-nil held;
      cause = tt;
    }
  where
    all_of : (left : Option (List ℕ)) → (input : List ℕ) × Has left input
    all_of None = ([], tt)
    all_of (Some bytes) = (bytes, refl)

-- more lines than numbers
pub Answers-full : (number : ℕ) (now : Option Progress) (left left' reader held held' : Option (List ℕ)) → SoFar number now left left' held held' → Answers left reader held held' (Err (Memory number))
Answers-full number now left left' reader held held' s =
    let input = input_of left left' (with_feeds s.lines) s.taken in
    record {
      input = with_feeds s.lines ++ input.0;
      turns = s.turns;
      text = s.text;
      before = s.lines;
      after = lines_of input.0;
      now = now;
      has = input.1;
      lines = lines_of-feeds s.lines input.0 s.feedless;
      place = s.place;
      carried = s.carried;
      written = s.written;
      cause = tt;
    }
