-- Two whole runs of one input, where no call runs out of memory, are the same.
use Rattle.std.proofs.Common.{◌≡◌, ℕ, ◌+◌, Bool, false, List, [], ◌∷◌, ◌++◌, map, Option, Some, None, Result, refl, sym, ap, subst, ◌∙◌}
use Rattle.std.proofs.lemmas.List.{append_cancel_left, map-append}
use Rattle.std.proofs.lemmas.List.Elements.{All-nil, All-cons, All-head, All-tail}
use Rattle.nt_status.specs.declared.refusal.Refusal.{Refusal}
use Rattle.nt_calls.specs.declared.call.Call.{Call}
use Rattle.nt_calls.specs.declared.call.Reply.{Reply}
use Rattle.nt_calls.specs.declared.call.Grant.{Grant}
use Rattle.nt_calls.specs.State.{State, opening}
use Rattle.nt_calls.specs.Runs.{Turn, Calls, Ticks, Turns, Run}
use Rattle.nt_laws.specs.Laws.{RunsOneWay, AsksCall, wants_memory, question}
use Rattle.nt_lines.specs.Lines.{lines_of}
use Rattle.nt_grammar.specs.Scope.{Scope}
use Rattle.nt_script.specs.Transcript.{Transcript, LineGives, StatementIsCarriedOut, turn_text, binds, end_text}
use Rattle.nt_grammar.specs.Lines.{opened_scope}
use Rattle.nt_grammar.specs.Naming.{handle_of}
use Rattle.nt_script.specs.Progress.{Progress}
use Rattle.nt_script.specs.Running.{end_of, summary_of}
use Rattle.nt_script.specs.Laws.{is_want, HadMemory, OutputIsAFunctionOfTheInput}
use Rattle.nt_grammar.specs.declared.parser.Statement.{Statement}
use Rattle.nt_grammar.specs.declared.parser.Statement.TheVariants.{Blank, Create, Perform, Tick}
use Rattle.nt_core.proofs.Runs.{turns-append}
use Rattle.nt_grammar.proofs.Recognizing.{one_statement, one_opening, blank_opens_none}

abbrev Texts : Type 0
Texts = List (List ℕ)

-- ---- parts of a run

turns_split : (a c : State) (first more : List Turn) → Turns a (first ++ more) c → (b : State) × Turns a first b × Turns b more c
turns_split a c [] more run = (a, refl, run)
turns_split a c (turn ∷ turns) more run = let rest = turns_split run.0 c turns more run.2 in (rest.0, (run.0, run.1, rest.1), rest.2)

had_first : (first more : List Turn) → HadMemory (first ++ more) → HadMemory first
had_first [] more h = All-nil (λ turn. is_want turn ≡ false)
had_first (turn ∷ turns) more h =
    All-cons (λ turn. is_want turn ≡ false) turn turns (All-head (λ turn. is_want turn ≡ false) turn (turns ++ more) h) (had_first turns more (All-tail (λ turn. is_want turn ≡ false) turn (turns ++ more) h))

had_more : (first more : List Turn) → HadMemory (first ++ more) → HadMemory more
had_more [] more h = h
had_more (turn ∷ turns) more h = had_more turns more (All-tail (λ turn. is_want turn ≡ false) turn (turns ++ more) h)

-- ---- one line

asks_call : (who : ℕ) (call : Call) (r q : Result Reply Refusal) (gs hs : List Grant) (first other : List Turn)
    → first ≡ Calls who call r gs ∷ [] → other ≡ Calls who call q hs ∷ [] → HadMemory first → HadMemory other → map question first ≡ map question other
asks_call who call r q gs hs first other x y h k =
    let none : wants_memory r ≡ false = All-head (λ turn. is_want turn ≡ false) (Calls who call r gs) [] (subst HadMemory x h) in
    let nor : wants_memory q ≡ false = All-head (λ turn. is_want turn ≡ false) (Calls who call q hs) [] (subst HadMemory y k) in
    ap (map question) x ∙ ap (λ (b : Bool). AsksCall who call b ∷ []) (none ∙ sym nor) ∙ sym (ap (map question) y)

asks_same : (line : ℕ) (st : Statement) (scope : Scope) (first other : List Turn) (text text' : List ℕ) (after after' : Scope)
    → StatementIsCarriedOut line st scope first text after → StatementIsCarriedOut line st scope other text' after' → HadMemory first → HadMemory other → map question first ≡ map question other
asks_same line Blank scope first other text text' after after' x y h k = ap (map question) (x.0 ∙ sym y.0)
asks_same line (Create who name act) scope first other text text' after after' x y h k = asks_call who (Call.Act act) x.0 y.0 x.1 y.1 first other x.2.turn y.2.turn h k
asks_same line (Perform who call) scope first other text text' after after' x y h k = asks_call who call x.0 y.0 x.1 y.1 first other x.2.turn y.2.turn h k
asks_same line (Tick moment) scope first other text text' after after' x y h k = ap (map question) x.2.turn ∙ sym (ap (map question) y.2.turn)

call_is : (who : ℕ) (call : Call) (r q : Result Reply Refusal) (gs hs : List Grant) (first other : List Turn) → first ≡ Calls who call r gs ∷ [] → other ≡ Calls who call q hs ∷ [] → first ≡ other → (r ≡ q) × (gs ≡ hs)
call_is who call r q gs hs first other x y e =
    let same : Calls who call r gs ∷ [] ≡ Calls who call q hs ∷ [] = sym x ∙ e ∙ y in
    ((cc), (cc))

tick_is : (moment : ℕ) (r q : Result Reply Refusal) (gs hs : List Grant) (first other : List Turn) → first ≡ Ticks 0 moment r gs ∷ [] → other ≡ Ticks 0 moment q hs ∷ [] → first ≡ other → (r ≡ q) × (gs ≡ hs)
tick_is moment r q gs hs first other x y e =
    let same : Ticks 0 moment r gs ∷ [] ≡ Ticks 0 moment q hs ∷ [] = sym x ∙ e ∙ y in
    ((cc), (cc))

text_same : (line : ℕ) (r q : Result Reply Refusal) (gs hs : List Grant) (text text' : List ℕ) → text ≡ turn_text line r gs → text' ≡ turn_text line q hs → (r ≡ q) × (gs ≡ hs) → text ≡ text'
text_same line r q gs hs text text' x y same = x ∙ ap (λ (z : Result Reply Refusal). turn_text line z gs) same.0 ∙ ap (λ (z : List Grant). turn_text line q z) same.1 ∙ sym y

writes_same : (line : ℕ) (st : Statement) (scope : Scope) (first other : List Turn) (text text' : List ℕ) (after after' : Scope)
    → StatementIsCarriedOut line st scope first text after → StatementIsCarriedOut line st scope other text' after' → first ≡ other → (text ≡ text') × (after ≡ after')
writes_same line Blank scope first other text text' after after' x y e = (x.1 ∙ sym y.1, x.2 ∙ sym y.2)
writes_same line (Create who name act) scope first other text text' after after' x y e =
    let same = call_is who (Call.Act act) x.0 y.0 x.1 y.1 first other x.2.turn y.2.turn e in
    (text_same line x.0 y.0 x.1 y.1 text text' x.2.output y.2.output same, x.3 ∙ ap (λ (z : Result Reply Refusal). binds name (handle_of z) scope) same.0 ∙ sym y.3)
writes_same line (Perform who call) scope first other text text' after after' x y e =
    let same = call_is who call x.0 y.0 x.1 y.1 first other x.2.turn y.2.turn e in
    (text_same line x.0 y.0 x.1 y.1 text text' x.2.output y.2.output same, x.3 ∙ sym y.3)
writes_same line (Tick moment) scope first other text text' after after' x y e =
    let same = tick_is moment x.0 y.0 x.1 y.1 first other x.2.turn y.2.turn e in
    (text_same line x.0 y.0 x.1 y.1 text text' x.2.output y.2.output same, x.3 ∙ sym y.3)

-- ---- the lines after `threads`

-- the threads stay
binds_keep : (name : List ℕ) (handle : Option ℕ) (scope : Scope) → (binds name handle scope).threads ≡ scope.threads
binds_keep name None scope = refl
binds_keep name (Some handle) scope = refl

carried_keep : (line : ℕ) (st : Statement) (scope : Scope) (turns : List Turn) (text : List ℕ) (after : Scope) → StatementIsCarriedOut line st scope turns text after → after.threads ≡ scope.threads
carried_keep line Blank scope turns text after x = ap (λ (s : Scope). s.threads) x.2
carried_keep line (Create who name act) scope turns text after x = ap (λ (s : Scope). s.threads) x.3 ∙ binds_keep name (handle_of x.0) scope
carried_keep line (Perform who call) scope turns text after x = ap (λ (s : Scope). s.threads) x.3
carried_keep line (Tick moment) scope turns text after x = ap (λ (s : Scope). s.threads) x.3

threads_keep : (lines : Texts) (line : ℕ) (scope after : Scope) (turns : List Turn) (text : List ℕ) → Transcript line (Some scope) lines turns text (Some after) → after.threads ≡ scope.threads
threads_keep [] line scope after turns text t = let same : Some after ≡ Some scope = t.2 in let is : after ≡ scope = (cc) in ap (λ (s : Scope). s.threads) is
threads_keep (bytes ∷ lines) line scope after turns text t = by t.4 t.7 t.8 (threads_keep lines (line + 1))
  where
    by : (mid : Option Scope) → LineGives line bytes (Some scope) t.0 t.2 mid → Transcript (line + 1) mid lines t.1 t.3 (Some after)
        → ((scope after : Scope) (turns : List Turn) (text : List ℕ) → Transcript (line + 1) (Some scope) lines turns text (Some after) → after.threads ≡ scope.threads) → after.threads ≡ scope.threads
    by None gives more rest = absurd gives
    by (Some mid) gives more rest = rest mid after t.1 t.3 more ∙ carried_keep line gives.0 scope t.0 t.2 mid gives.2

-- the same turns, output, bindings and state
record Same (turns others : List Turn) (text text' : List ℕ) (after after' : Scope) (a b : State) : Type 0 where
  in_turns : turns ≡ others
  in_text : text ≡ text'
  in_scope : after ≡ after'
  in_state : a ≡ b

module _ (one_way : RunsOneWay) (n : ℕ) where
  -- one line, after the same turns
  one_line : (line : ℕ) (bytes : List ℕ) (scope : Scope) (before first other : List Turn) (text text' : List ℕ) (after after' : Scope) (s a b : State)
      → Run n before s → Turns s first a → Turns s other b → LineGives line bytes (Some scope) first text (Some after) → LineGives line bytes (Some scope) other text' (Some after')
      → HadMemory first → HadMemory other → Same first other text text' after after' a b
  one_line line bytes scope before first other text text' after after' s a b run x y p q h k =
      let same : q.0 ≡ p.0 = one_statement scope bytes q.0 p.0 q.1 p.1 in
      let carried = subst (λ (st : Statement). StatementIsCarriedOut line st scope other text' after') same q.2 in
      let asks = asks_same line p.0 scope first other text text' after after' p.2 carried h k in
      let questions : map question (before ++ first) ≡ map question (before ++ other) = map-append question before first ∙ ap (λ asked. map question before ++ asked) asks ∙ sym (map-append question before other) in
      let all = one_way n (before ++ first) (before ++ other) a b (turns-append (opening n) s a before first run x) (turns-append (opening n) s b before other run y) questions in
      let turns = append_cancel_left before first other all.0 in
      let writes = writes_same line p.0 scope first other text text' after after' p.2 carried turns in
      record { in_turns = turns; in_text = writes.0; in_scope = writes.1; in_state = all.1 }

  abbrev Alike : Texts → ℕ → Type 0
  Alike lines line =
      (scope after after' : Scope) (before turns others : List Turn) (text text' : List ℕ) (s a b : State)
      → Run n before s → Turns s turns a → Turns s others b → Transcript line (Some scope) lines turns text (Some after) → Transcript line (Some scope) lines others text' (Some after')
      → HadMemory turns → HadMemory others → Same turns others text text' after after' a b

  -- one line, and those after it
  one_more : (lines : Texts) (line : ℕ) (bytes : List ℕ) → Alike lines (line + 1) → Alike (bytes ∷ lines) line
  one_more lines line bytes rest scope after after' before turns others text text' s a b run x y p q h k = by p.4 q.4 p.7 q.7 p.8 q.8
    where
      by : (mid mid' : Option Scope) → LineGives line bytes (Some scope) p.0 p.2 mid → LineGives line bytes (Some scope) q.0 q.2 mid'
          → Transcript (line + 1) mid lines p.1 p.3 (Some after) → Transcript (line + 1) mid' lines q.1 q.3 (Some after') → Same turns others text text' after after' a b
      by None mid' gives gives' more more' = absurd gives
      by (Some mid) None gives gives' more more' = absurd gives'
      by (Some mid) (Some mid') gives gives' more more' =
          let xs = turns_split s a p.0 p.1 (subst (λ (turns : List Turn). Turns s turns a) p.5 x) in
          let ys = turns_split s b q.0 q.1 (subst (λ (turns : List Turn). Turns s turns b) q.5 y) in
          let had = subst HadMemory p.5 h in
          let had' = subst HadMemory q.5 k in
          let here = one_line line bytes scope before p.0 q.0 p.2 q.2 mid mid' s xs.0 ys.0 run xs.1 ys.1 gives gives' (had_first p.0 p.1 had) (had_first q.0 q.1 had') in
          let others = rest mid after after' (before ++ p.0) p.1 q.1 p.3 q.3 xs.0 a b (turns-append (opening n) s xs.0 before p.0 run xs.1) xs.2
          (subst (λ (s : State). Turns s q.1 b) (sym here.in_state) ys.2) more (subst (λ (mid : Scope). Transcript (line + 1) (Some mid) lines q.1 q.3 (Some after')) (sym here.in_scope) more')
          (had_more p.0 p.1 had) (had_more q.0 q.1 had') in
          record {
            in_turns = p.5 ∙ ap (λ (first : List Turn). first ++ p.1) here.in_turns ∙ ap (λ (more : List Turn). q.0 ++ more) others.in_turns ∙ sym q.5;
            in_text = p.6 ∙ ap (λ (first : List ℕ). first ++ p.3) here.in_text ∙ ap (λ (more : List ℕ). q.2 ++ more) others.in_text ∙ sym q.6;
            in_scope = others.in_scope;
            in_state = others.in_state;
          }

  no_more : (line : ℕ) → Alike [] line
  no_more line scope after after' before turns others text text' s a b run x y p q h k =
      let here : a ≡ s = subst (λ (turns : List Turn). Turns s turns a) p.0 x in
      let there : b ≡ s = subst (λ (turns : List Turn). Turns s turns b) q.0 y in
      let same : Some after ≡ Some after' = p.2 ∙ sym q.2 in
      record { in_turns = p.0 ∙ sym q.0; in_text = p.1 ∙ sym q.1; in_scope = (cc); in_state = here ∙ sym there }

  alike : (lines : Texts) (line : ℕ) → Alike lines line
  alike [] line = no_more line
  alike (bytes ∷ lines) line = one_more lines line bytes (alike lines (line + 1))

-- ---- the lines up to `threads`

abbrev FromStart : Texts → ℕ → Type 0
FromStart lines line =
    (x y : Scope) (turns others : List Turn) (text text' : List ℕ) (a b : State)
    → Turns (opening x.threads) turns a → Turns (opening y.threads) others b → Transcript line None lines turns text (Some x) → Transcript line None lines others text' (Some y)
    → HadMemory turns → HadMemory others → Same turns others text text' x y a b

-- no turn stands before others
none_first : (turns first more : List Turn) → turns ≡ first ++ more → first ≡ [] → turns ≡ more
none_first turns first more e none = e ∙ ap (λ (first : List Turn). first ++ more) none

no_text_first : (text first more : List ℕ) → text ≡ first ++ more → first ≡ [] → text ≡ more
no_text_first text first more e none = e ∙ ap (λ (first : List ℕ). first ++ more) none

one_before : RunsOneWay → (lines : Texts) (line : ℕ) (bytes : List ℕ) → FromStart lines (line + 1) → FromStart (bytes ∷ lines) line
one_before one_way lines line bytes rest x y turns others text text' a b run run' p q h k = by p.4 q.4 p.7 q.7 p.8 q.8
  where
    joined : p.0 ≡ [] → q.0 ≡ [] → p.2 ≡ [] → q.2 ≡ [] → Same p.1 q.1 p.3 q.3 x y a b → Same turns others text text' x y a b
    joined first first' head head' same = record {
      in_turns = none_first turns p.0 p.1 p.5 first ∙ same.in_turns ∙ sym (none_first others q.0 q.1 q.5 first');
      in_text = no_text_first text p.2 p.3 p.6 head ∙ same.in_text ∙ sym (no_text_first text' q.2 q.3 q.6 head');
      in_scope = same.in_scope;
      in_state = same.in_state;
    }

    by : (mid mid' : Option Scope) → LineGives line bytes None p.0 p.2 mid → LineGives line bytes None q.0 q.2 mid'
        → Transcript (line + 1) mid lines p.1 p.3 (Some x) → Transcript (line + 1) mid' lines q.1 q.3 (Some y) → Same turns others text text' x y a b
    by None (Some mid') gives gives' more more' = absurd (blank_opens_none bytes mid'.threads gives.0 gives'.0)
    by (Some mid) None gives gives' more more' = absurd (blank_opens_none bytes mid.threads gives'.0 gives.0)
    by None None gives gives' more more' =
        let here = none_first turns p.0 p.1 p.5 gives.1 in
        let there = none_first others q.0 q.1 q.5 gives'.1 in
        joined gives.1 gives'.1 gives.2 gives'.2 (rest x y p.1 q.1 p.3 q.3 a b
        (subst (λ (turns : List Turn). Turns (opening x.threads) turns a) here run) (subst (λ (turns : List Turn). Turns (opening y.threads) turns b) there run')
        more more' (subst HadMemory here h) (subst HadMemory there k))
    by (Some mid) (Some mid') gives gives' more more' =
        let here = none_first turns p.0 p.1 p.5 gives.1 in
        let there = none_first others q.0 q.1 q.5 gives'.1 in
        let threads : mid.threads ≡ mid'.threads = one_opening bytes mid.threads mid'.threads gives.0 gives'.0 in
        let scopes : mid' ≡ mid = gives'.3 ∙ ap opened_scope (sym threads) ∙ sym gives.3 in
        let count : y.threads ≡ x.threads = threads_keep lines (line + 1) mid' y q.1 q.3 more' ∙ sym threads ∙ sym (threads_keep lines (line + 1) mid x p.1 p.3 more) in
        joined gives.1 gives'.1 gives.2 gives'.2 (alike one_way x.threads lines (line + 1) mid x y [] p.1 q.1 p.3 q.3 (opening x.threads) a b refl
        (subst (λ (turns : List Turn). Turns (opening x.threads) turns a) here run)
        (subst (λ (n : ℕ). Turns (opening n) q.1 b) count (subst (λ (turns : List Turn). Turns (opening y.threads) turns b) there run'))
        more (subst (λ (mid : Scope). Transcript (line + 1) (Some mid) lines q.1 q.3 (Some y)) scopes more') (subst HadMemory here h) (subst HadMemory there k))

never_opened : (line : ℕ) → FromStart [] line
never_opened line x y turns others text text' a b run run' p q h k = let bad : Some x ≡ None = p.2 in absurd (cc)

from_start : RunsOneWay → (lines : Texts) (line : ℕ) → FromStart lines line
from_start one_way [] line = never_opened line
from_start one_way (bytes ∷ lines) line = one_before one_way lines line bytes (from_start one_way lines (line + 1))

-- ---- the law

counted : (lines : Texts) (turns : List Turn) (x y : Progress) → x.state ≡ y.state → summary_of lines turns x ≡ summary_of lines turns y
counted lines turns x y e = ap (λ (s : State). summary_of lines turns (record x { state = s })) e

pub output_is_a_function_of_the_input : RunsOneWay → OutputIsAFunctionOfTheInput
output_is_a_function_of_the_input one_way left before after left' before' after' summary summary' run other input h k =
    let lines : lines_of run.input ≡ lines_of other.input = ap lines_of input in
    let read = subst (λ (lines : Texts). Transcript 1 None lines run.turns run.text (Some run.end.scope)) lines run.carried.transcript in
    let same = from_start one_way (lines_of other.input) 1 run.end.scope other.end.scope run.turns other.turns run.text other.text run.end.state other.end.state
    run.carried.ran.0 other.carried.ran.0 read other.carried.transcript h k in
    let end : end_of run.end ≡ end_of other.end = ap (λ (scope : Scope). end_text scope.threads run.end.state) same.in_scope ∙ ap (λ (s : State). end_text other.end.scope.threads s) same.in_state in (
      ap (λ (text : List ℕ). text ++ end_of run.end) same.in_text ∙ ap (λ (end : List ℕ). other.text ++ end) end,
      run.counts ∙ ap (λ (lines : Texts). summary_of lines run.turns run.end) lines ∙ ap (λ (turns : List Turn). summary_of (lines_of other.input) turns run.end) same.in_turns
          ∙ counted (lines_of other.input) other.turns run.end other.end same.in_state ∙ sym other.counts,
    )
