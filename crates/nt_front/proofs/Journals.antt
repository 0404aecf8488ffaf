-- The journal and the dispatcher, step by step.
use Rattle.std.proofs.Common.{◌≡◌, ℕ, ◌+◌, ◌-◌, min, ◌<◌, ◌≤◌, List, [], ◌∷◌, ◌++◌, length, length-append, map, Result, Ok, Err, Bool, true, false, cond, eqb, eq-eqb, ne_eqb, refl, sym, ap, ◌∙◌, subst, arith, append_assoc, ⊎_elim}
use Rattle.std.specs.Prelude.{◌||◌, ◌↔◌, IfOk, nat_le}
use Rattle.std.proofs.lemmas.Bool.Decides.{leb_tells}
use Rattle.std.proofs.Math.ListN.{get_or}
use Rattle.std.proofs.Math.Seq.{get_or-append_seam}
use Rattle.std.proofs.lemmas.List.{append-nil, length-map}
use Rattle.std.proofs.lemmas.Bool.{false≢true}
use native.Mathlib.Decide.{ℕ_discrete}
use Rattle.nt_status.specs.declared.refusal.Refusal.{Refusal}
use Rattle.nt_calls.specs.declared.call.Call.{Call}
use Rattle.nt_calls.specs.declared.call.Reply.{Reply}
use Rattle.nt_calls.specs.declared.call.Grant.{Grant}
use Rattle.std.proofs.Common.{Option, is_some, IsTrue}
use Rattle.nt_answers.specs.Answers.{is_done}
use Rattle.std.specs.FinMap.{get-empty}
use Rattle.std.specs.Ordering.{nat_cmp}
use Rattle.nt_waits.specs.declared.wait.Wait.{Wait}
use Rattle.nt_calls.specs.State.{State, pends, opening}
use Rattle.nt_calls.specs.Runs.{Turn, Calls, Ticks, IsTurn}
use Rattle.nt_machine.specs.Dispatcher.{Dispatcher, state}
use Rattle.nt_machine.specs.Lawful.{IsLawful}
use Rattle.nt_core.specs.Renewals.{BeginsAgain}
use Rattle.nt_life.specs.declared.renewal.Renewal.TheVariants.{Begin}
use Rattle.nt_mail.specs.declared.word.TheConstants.{ENTRY_LIMIT}
use Rattle.nt_mail.specs.declared.entry.Entry.{Entry}
use Rattle.nt_mail.specs.declared.entry.Entry.TheVariants.{Called, Ticked, Granted, Renewed}
use Rattle.nt_life.specs.Lasting.{WithSpare}
use Rattle.nt_mail.specs.Journals.{Deed, IsDeed, written, is_renewal}
use Rattle.nt_mail.proofs.Lives.{deeds-append, written-append}
use Rattle.nt_calls.specs.Moves.{one_if, pended, granted_to, Moves, IsMomentAfter}
use Rattle.nt_core.proofs.Lawful.{who_waits}
use Rattle.nt_core.proofs.Runs.{turns-append}
use Rattle.nt_mail.specs.Entries.{Each, arms, is_armed, accepted, accepted_at, IsOwn}
use Rattle.nt_mail.specs.Knowledge.{latest}
use Rattle.nt_mail.proofs.Calls.{same_push, after_call, after_grant, one_or, own_thread}
use Rattle.nt_mail.proofs.Taken.{latest-push}
use Rattle.nt_front.specs.Runs.{granted, entries_of, journal_of, IsRunFrom, IsHistoryFrom, LeadTo, Agree, AreArmed}
use Rattle.nt_front.specs.Books.{Ledger, Stands, ledger, entries_by, IsOfCall, IsFull}
use Rattle.std.specs.FinMap.{len}

-- ---- the journal as a history

journal_of-append : (first more : List Turn) → journal_of (first ++ more) ≡ journal_of first ++ journal_of more
journal_of-append [] more = refl
journal_of-append (turn ∷ turns) more = ap (λ l. entries_of turn ++ l) (journal_of-append turns more) ∙ sym (append_assoc (entries_of turn) (journal_of turns) (journal_of more))

-- the turn of a call or a tick
run_goes_on : (base : State) (es : List Entry) (old new : State) (turn : Turn) → IsRunFrom base es old → IsTurn old turn new → IsRunFrom base (es ++ entries_of turn) new
run_goes_on base es old new turn r step = record {
  turns = r.turns ++ turn ∷ [];
  run = turns-append base old new r.turns (turn ∷ []) r.run (new, step, refl);
  entries = ap (λ l. l ++ entries_of turn) r.entries ∙ (ap (λ l. journal_of r.turns ++ l) (sym (append-nil (entries_of turn))) ∙ sym (journal_of-append r.turns (turn ∷ [])));
}

-- a deed that is no renewal is a turn
turn_goes_on : (base : State) (es : List Entry) (old new : State) (e : Entry) (gs : List Grant) → IsRunFrom base es old → IsDeed old (record { entry = e; grants = gs }) new → is_renewal e ≡ false → IsRunFrom base (es ++ e ∷ map granted gs) new
turn_goes_on base es old new (Called who call result) gs r is plain =
    run_goes_on base es old new (Calls who call result gs) r (subst (λ (s : State). IsTurn old (Calls who call result gs) s) (sym is.1.2) is.1.1)
turn_goes_on base es old new (Ticked by moment result) gs r is plain =
    run_goes_on base es old new (Ticks by moment result gs) r (subst (λ (s : State). IsTurn old (Ticks by moment result gs) s) (sym is.1.2) is.1.1)
turn_goes_on base es old new (Granted who status) gs r is plain = absurd (false≢true is.0)
turn_goes_on base es old new (Renewed who renewal result) gs r is plain = absurd (false≢true (sym plain))

history_goes_on : (lasts : Bool) (base : State) (es : List Entry) (old new : State) (d : Deed) → IsHistoryFrom lasts base es old → IsDeed old d new → (lasts ≡ false → is_renewal d.entry ≡ false) → IsHistoryFrom lasts base (es ++ entries_by d) new
history_goes_on false base es old new d r step once = turn_goes_on base es old new d.entry d.grants r step (once refl)
history_goes_on true base es old new d r step once = record {
  deeds = r.deeds ++ d ∷ [];
  life = deeds-append base old new r.deeds (d ∷ []) r.life (new, step, refl);
  entries = ap (λ l. l ++ entries_by d) r.entries ∙ (ap (λ l. written r.deeds ++ d.entry ∷ l) (sym (append-nil (map granted d.grants))) ∙ sym (written-append r.deeds (d ∷ [])));
}

-- a history after a history
history_joins : (lasts : Bool) (base mid : State) (before es : List Entry) (s : State) → IsHistoryFrom lasts base before mid → IsHistoryFrom lasts mid es s → IsHistoryFrom lasts base (before ++ es) s
history_joins false base mid before es s first next = record {
  turns = first.turns ++ next.turns;
  run = turns-append base mid s first.turns next.turns first.run next.run;
  entries = ap (λ l. l ++ es) first.entries ∙ (ap (λ l. journal_of first.turns ++ l) next.entries ∙ sym (journal_of-append first.turns next.turns));
}
history_joins true base mid before es s first next = record {
  deeds = first.deeds ++ next.deeds;
  life = deeds-append base mid s first.deeds next.deeds first.life next.life;
  entries = ap (λ l. l ++ es) first.entries ∙ (ap (λ l. written first.deeds ++ l) next.entries ∙ sym (written-append first.deeds next.deeds));
}

-- nothing was done yet
nothing_yet : (lasts : Bool) (base : State) (es : List Entry) (s : State) → s ≡ base → es ≡ [] → IsHistoryFrom lasts base es s
nothing_yet false base es s same none = record { turns = []; run = same; entries = none }
nothing_yet true base es s same none = record { deeds = []; life = same; entries = none }

pub stands_after : (life after : WithSpare) (base : Dispatcher) (before more : List Entry) (first : ℕ) (es next : List Entry) (room : ℕ) (d : Deed) → Stands (ledger life base before first es room) → IsLawful after.core → after.core.threads ≡ life.core.threads
    → IsDeed (state life.core) d (state after.core) → is_some after.spare ≡ is_some life.spare → (is_some life.spare ≡ false → is_renewal d.entry ≡ false) → next ≡ es ++ entries_by d → more ≡ before ++ entries_by d → Stands (ledger after base more first next room)
stands_after life after base before more first es next room d s lawful same step lasts once grown longer = record {
  lawful = lawful;
  run = subst (λ (x : Bool × List Entry). IsHistoryFrom x.0 (state base) x.1 (state after.core)) {x = (is_some life.spare, es ++ entries_by d)} {y = (is_some after.spare, next)} (λ i. (sym lasts i, sym grown i))
      (history_goes_on (is_some life.spare) (state base) es (state life.core) (state after.core) d s.run step once);
  before = s.before;
  led = subst (λ (x : Bool × ℕ). LeadTo x.0 x.1 first s.before (state base)) {x = (is_some life.spare, life.core.threads)} {y = (is_some after.spare, after.core.threads)} (λ i. (sym lasts i, sym same i)) s.led;
  all = longer ∙ (ap (λ l. l ++ entries_by d) s.all ∙ (append_assoc s.before es (entries_by d) ∙ ap (λ l. s.before ++ l) (sym grown)));
}

leads_at_first : (lasts : Bool) (n : ℕ) (s : State) → s ≡ opening n → LeadTo lasts n 1 [] s
leads_at_first lasts n s new = record {
  run = nothing_yet lasts (opening n) [] s new refl;
  threads = ap (λ (x : State). x.threads) new;
  numbers = refl;
  past = tt;
}

pub stands_at_first : (life : WithSpare) (base : Dispatcher) (n room : ℕ) (before es : List Entry) → state life.core ≡ opening n → IsLawful life.core → state base ≡ opening n → before ≡ [] → es ≡ [] → Stands (ledger life base before 1 es room)
stands_at_first life base n room before es new lawful same unwritten none = record {
  lawful = lawful;
  run = nothing_yet (is_some life.spare) (state base) es (state life.core) (new ∙ sym same) none;
  before = [];
  led = subst (λ (k : ℕ). LeadTo (is_some life.spare) k 1 [] (state base)) (sym (ap (λ (s : State). s.threads) new)) (leads_at_first (is_some life.spare) n (state base) same);
  all = unwritten ∙ sym none;
}

-- nothing changed but what the dispatcher tells of its last call
pub stands_same : (life after : WithSpare) (base : Dispatcher) (before : List Entry) (first : ℕ) (es : List Entry) (room : ℕ) → Stands (ledger life base before first es room) → IsLawful after.core → state after.core ≡ state life.core → is_some after.spare ≡ is_some life.spare
    → Stands (ledger after base before first es room)
stands_same life after base before first es room s lawful same lasts = record {
  lawful = lawful;
  run = subst (λ (x : Bool × State). IsHistoryFrom x.0 (state base) es x.1) {x = (is_some life.spare, state life.core)} {y = (is_some after.spare, state after.core)} (λ i. (sym lasts i, sym same i)) s.run;
  before = s.before;
  led = subst (λ (x : Bool × State). LeadTo x.0 x.1.threads first s.before (state base)) {x = (is_some life.spare, state life.core)} {y = (is_some after.spare, state after.core)} (λ i. (sym lasts i, sym same i)) s.led;
  all = s.all;
}

-- all entries written lead to the present state
leads_on : (life : WithSpare) (base : Dispatcher) (before : List Entry) (first n : ℕ) (es : List Entry) (room : ℕ) → Stands (ledger life base before first es room) → Agree n before (state life.core) → LeadTo (is_some life.spare) life.core.threads (length before + 1) before (state life.core)
leads_on life base before first n es room s a = record {
  run = subst (λ (l : List Entry). IsHistoryFrom (is_some life.spare) (opening life.core.threads) l (state life.core)) (sym s.all)
      (history_joins (is_some life.spare) (opening life.core.threads) (state base) s.before es (state life.core) s.led.run s.run);
  threads = refl;
  numbers = refl;
  past = a.past;
}

-- a dispatcher whose entries were handed out stands on a copy of itself
pub stands_anew : (life : WithSpare) (base copied : Dispatcher) (before told : List Entry) (first next n : ℕ) (es none : List Entry) (room : ℕ) → Stands (ledger life base before first es room) → Agree n before (state life.core) → copied ≡ life.core → told ≡ before
    → next ≡ length before + 1 → none ≡ [] → Stands (ledger life copied told next none room)
stands_anew life base copied before told first next n es none room s a same unchanged number empty = record {
  lawful = s.lawful;
  run = nothing_yet (is_some life.spare) (state copied) none (state life.core) (ap state (sym same)) empty;
  before = before;
  led = subst (λ (x : ℕ × State). LeadTo (is_some life.spare) life.core.threads x.0 before x.1) (λ i. (sym number i, state (sym same i))) (leads_on life base before first n es room s a);
  all = unchanged ∙ (sym (append-nil before) ∙ ap (λ l. before ++ l) (sym empty));
}

pub agree_at_first : (n : ℕ) (es : List Entry) (s : State) → s ≡ opening n → es ≡ [] → Agree n es s
agree_at_first n es s new none = subst (λ (x : List Entry × State). Agree n x.0 x.1) (λ i. (sym none i, sym new i)) (record { threads = refl; waits = λ t. sym (ap (λ (o : Option Wait). is_some o) (get-empty nat_cmp t)); moment = refl; past = tt })

-- ---- moments that no accepted tick is after

each_most : (a b : ℕ) (ms : List ℕ) → a ≤ b → Each (λ m. m ≤ a) ms → Each (λ m. m ≤ b) ms
each_most a b [] le are = tt
each_most a b (m ∷ ms) le are = (let one = are.0 in omega (arith, one, le), each_most a b ms le are.1)

most-push : (a : ℕ) (ms : List ℕ) (m : ℕ) → m ≤ a → Each (λ x. x ≤ a) ms → Each (λ x. x ≤ a) (ms ++ m ∷ [])
most-push a [] m le are = (le, tt)
most-push a (x ∷ xs) m le are = (are.0, most-push a xs m le are.1)

-- ---- who is armed

one_if-same : (a b : Bool) → one_if a ≡ one_if b → a ≡ b
one_if-same true true e = refl
one_if-same true false e = absurd (omega arith)
one_if-same false true e = absurd (omega arith)
one_if-same false false e = refl

must_be : (b : Bool) → 1 ≤ one_if b → b ≡ true
must_be true le = refl
must_be false le = absurd (omega arith)

-- what is armed after the entry of a call or tick
own_armed : (es : List Entry) (e : Entry) (who : ℕ) (armed : Bool) → IsOwn who e → one_if (is_armed who es) + one_if (arms e) ≡ one_if armed
    → (t : ℕ) → one_if (is_armed t (es ++ e ∷ [])) ≡ one_if (is_armed t es) + cond (eqb who t) (one_if (arms e)) 0
own_armed es e who armed own one t = at (ℕ_discrete who t)
  where
    at : Dec (who ≡ t) → one_if (is_armed t (es ++ e ∷ [])) ≡ one_if (is_armed t es) + cond (eqb who t) (one_if (arms e)) 0
    at (yes is) =
        let a = ap one_if ((after_call who es e own).armed ∙ one_or (is_armed who es) (arms e) armed one) in
        let b = ap (λ x. cond x (one_if (arms e)) 0) (eq-eqb who who refl) in
        let g : one_if (is_armed who (es ++ e ∷ [])) ≡ one_if (is_armed who es) + cond (eqb who who) (one_if (arms e)) 0 = omega arith in
        subst (λ (x : ℕ). one_if (is_armed x (es ++ e ∷ [])) ≡ one_if (is_armed x es) + cond (eqb who x) (one_if (arms e)) 0) is g
    at (no ne) =
        let a = ap one_if (same_push t es e (λ is. ne (sym (own_thread who e own) ∙ is))).armed in
        let b = ap (λ x. cond x (one_if (arms e)) 0) (ne_eqb who t ne) in
        omega arith

-- one grant
grant_armed : (es : List Entry) (g : Grant) → is_armed g.thread es ≡ true → (t : ℕ) → one_if (is_armed t (es ++ granted g ∷ [])) + one_if (eqb g.thread t) ≡ one_if (is_armed t es)
grant_armed es g armed t = at (ℕ_discrete g.thread t)
  where
    at : Dec (g.thread ≡ t) → one_if (is_armed t (es ++ granted g ∷ [])) + one_if (eqb g.thread t) ≡ one_if (is_armed t es)
    at (yes is) =
        let a = ap one_if (after_grant g.thread es g.status).armed in
        let b = ap one_if (eq-eqb g.thread g.thread refl) in
        let c = ap one_if armed in
        let h : one_if (is_armed g.thread (es ++ granted g ∷ [])) + one_if (eqb g.thread g.thread) ≡ one_if (is_armed g.thread es) = omega arith in
        subst (λ (x : ℕ). one_if (is_armed x (es ++ granted g ∷ [])) + one_if (eqb g.thread x) ≡ one_if (is_armed x es)) is h
    at (no ne) =
        let a = ap one_if (same_push t es (granted g) ne).armed in
        let b = ap one_if (ne_eqb g.thread t ne) in
        omega arith

-- where no thread has more grants than it has waits, each grant meets a pending wait
armed_all : (n : ℕ) (es : List Entry) (gs : List Grant) → ((t : ℕ) → granted_to t gs ≤ one_if (is_armed t es)) → ((t : ℕ) → 1 ≤ granted_to t gs → t < n) → AreArmed n es gs
armed_all n es [] le below = tt
armed_all n es (g ∷ gs) le below =
    let own = ap one_if (eq-eqb g.thread g.thread refl) in
    let here : is_armed g.thread es ≡ true = must_be (is_armed g.thread es) (let a = le g.thread in omega arith) in (
      here,
      below g.thread (omega arith),
      armed_all n (es ++ granted g ∷ []) gs (λ t. (let a = le t in let b = grant_armed es g here t in omega arith)) (λ t some. below t (omega arith)),
    )

-- what is armed after the grants
armed_left : (n : ℕ) (es : List Entry) (gs : List Grant) → AreArmed n es gs → (t : ℕ) → one_if (is_armed t (es ++ map granted gs)) + granted_to t gs ≡ one_if (is_armed t es)
armed_left n es [] are t = let a = ap (λ l. one_if (is_armed t l)) (append-nil es) in omega arith
armed_left n es (g ∷ gs) are t =
    let a = armed_left n (es ++ granted g ∷ []) gs are.2 t in
    let b = grant_armed es g are.0 t in
    let c = ap (λ l. one_if (is_armed t l)) (append_assoc es (granted g ∷ []) (map granted gs)) in
    omega arith

-- a call or tick: its entry, whose it is, and whether a wait of it pends after it
record IsPosted (es : List Entry) (s : State) (who : ℕ) (result : Result Reply Refusal) (e : Entry) (armed : Bool) : Type 0 where
  own : IsOwn who e
  arm : arms e ≡ pended result
  one : one_if (is_armed who es) + one_if (arms e) ≡ one_if armed

-- each thread that waits has a number below n
abbrev AreBelow : ℕ → State → Type 0
AreBelow n s = (t : ℕ) → pends s t ≡ true → t < n

-- the grants of a step can be sent
can_send : (n : ℕ) (es : List Entry) (s new : State) (who : ℕ) (result : Result Reply Refusal) (e : Entry) (armed : Bool) (gs : List Grant) → Agree n es s → AreBelow n s → Moves s who (pended result) gs new → IsPosted es s who result e armed → AreArmed n (es ++ e ∷ []) gs
can_send n es s new who result e armed gs a below moved p =
    armed_all n (es ++ e ∷ []) gs
    (λ t. (let b = own_armed es e who armed p.own p.one t in let c = moved.ended t in let d = ap one_if (a.waits t) in omega arith))
    (λ t some. below t (must_be (pends s t) (let c = moved.ended t in omega arith)))

pub accepted-append : (xs ys : List Entry) → accepted (xs ++ ys) ≡ accepted xs ++ accepted ys
accepted-append [] ys = refl
accepted-append (x ∷ xs) ys = ap (λ l. accepted_at x ++ l) (accepted-append xs ys) ∙ sym (append_assoc (accepted_at x) (accepted xs) (accepted ys))

accepted-granted : (gs : List Grant) → accepted (map granted gs) ≡ []
accepted-granted [] = refl
accepted-granted (g ∷ gs) = accepted-granted gs

-- the moments after a step
pub accepted-step : (es : List Entry) (e : Entry) (gs : List Grant) → accepted (es ++ e ∷ map granted gs) ≡ accepted es ++ accepted_at e
accepted-step es e gs = accepted-append es (e ∷ map granted gs) ∙ ap (λ l. accepted es ++ (accepted_at e ++ l)) (accepted-granted gs) ∙ ap (λ l. accepted es ++ l) (append-nil (accepted_at e))

agree_goes_on : (n : ℕ) (es : List Entry) (s new : State) (who : ℕ) (result : Result Reply Refusal) (e : Entry) (armed : Bool) (gs : List Grant) → Agree n es s → AreBelow n s → Moves s who (pended result) gs new → IsPosted es s who result e armed
    → latest 0 (accepted es ++ accepted_at e) ≡ new.now → Each (λ m. m ≤ new.now) (accepted es ++ accepted_at e) → Agree n (es ++ e ∷ map granted gs) new
agree_goes_on n es s new who result e armed gs a below moved p moment past = record {
  threads = moved.threads ∙ a.threads;
  waits = λ t. one_if-same (is_armed t (es ++ e ∷ map granted gs)) (pends new t) (
      let sent = can_send n es s new who result e armed gs a below moved p in
      let b = own_armed es e who armed p.own p.one t in
      let c = moved.each t in
      let d = ap one_if (a.waits t) in
      let f = ap (λ x. cond (eqb who t) (one_if x) 0) p.arm in
      let g = armed_left n (es ++ e ∷ []) gs sent t in
      let h = ap (λ l. one_if (is_armed t l)) (append_assoc es (e ∷ []) (map granted gs)) in
      omega arith);
  moment = ap (latest 0) (accepted-step es e gs) ∙ moment;
  past = subst (Each (λ m. m ≤ new.now)) (sym (accepted-step es e gs)) past;
}

-- ---- the entry of a call

pub own_of : (who : ℕ) (call : Call) (result : Result Reply Refusal) (e : Entry) → IsOfCall who call result e → IsOwn who e
own_of who call result (Called by asked answer) of = of.0
own_of who call result (Renewed by renewal answer) of = of.0
own_of who call result _ of = absurd of

pub arms_of : (who : ℕ) (call : Call) (result : Result Reply Refusal) (e : Entry) → IsOfCall who call result e → arms e ≡ pended result
arms_of who call result (Called by asked answer) of = ap pended of.2
arms_of who call result (Renewed by renewal answer) of = ap pended of.2
arms_of who call result _ of = absurd of

pub accepted_of : (who : ℕ) (call : Call) (result : Result Reply Refusal) (e : Entry) → IsOfCall who call result e → accepted_at e ≡ []
accepted_of who call result (Called by asked answer) of = refl
accepted_of who call result (Renewed by renewal answer) of = refl
accepted_of who call result _ of = absurd of

-- ---- a call

or_one : (waited p : Bool) → (p ≡ true → waited ≡ false) → one_if waited + one_if p ≡ one_if (waited || p)
or_one true true h = absurd (let a = ap one_if (h refl) in omega arith)
or_one true false h = refl
or_one false true h = refl
or_one false false h = refl

-- whether a wait of the caller pends after its call
pub call_arms : (n : ℕ) (es : List Entry) (s : State) (who : ℕ) (result : Result Reply Refusal) (e : Entry) (gs : List Grant) (new : State) (waited : Bool) → Agree n es s → Moves s who (pended result) gs new → waited ≡ pends s who → arms e ≡ pended result
    → one_if (is_armed who es) + one_if (arms e) ≡ one_if (waited || pended result)
call_arms n es s who result e gs new waited a moved is arm =
    let b = ap one_if (a.waits who ∙ sym is) in
    let c = or_one waited (pended result) (λ p. is ∙ moved.free p) in
    let d = ap one_if arm in
    omega arith

posted_call : (n : ℕ) (es : List Entry) (s : State) (who : ℕ) (call : Call) (result : Result Reply Refusal) (e : Entry) (gs : List Grant) (new : State) (waited : Bool) → Agree n es s → Moves s who (pended result) gs new → waited ≡ pends s who → IsOfCall who call result e
    → IsPosted es s who result e (waited || pended result)
posted_call n es s who call result e gs new waited a moved is of =
    let arm = arms_of who call result e of in record { own = own_of who call result e of; arm = arm; one = call_arms n es s who result e gs new waited a moved is arm }

pub call_sends : (n : ℕ) (es : List Entry) (s : State) (who : ℕ) (call : Call) (result : Result Reply Refusal) (e : Entry) (gs : List Grant) (new : State) (waited : Bool) → Agree n es s → AreBelow n s → Moves s who (pended result) gs new → waited ≡ pends s who → IsOfCall who call result e
    → AreArmed n (es ++ e ∷ []) gs
call_sends n es s who call result e gs new waited a below moved is of =
    can_send n es s new who result e (waited || pended result) gs a below moved (posted_call n es s who call result e gs new waited a moved is of)

-- an entry that lets no moment pass
quiet : (n : ℕ) (es : List Entry) (s new : State) (who : ℕ) (result : Result Reply Refusal) (e : Entry) (armed : Bool) (gs : List Grant) → Agree n es s → AreBelow n s → Moves s who (pended result) gs new → IsPosted es s who result e armed → accepted_at e ≡ []
    → new.now ≡ s.now → Agree n (es ++ e ∷ map granted gs) new
quiet n es s new who result e armed gs a below moved p none same =
    let moments : accepted es ++ accepted_at e ≡ accepted es = ap (λ l. accepted es ++ l) none ∙ append-nil (accepted es) in
    agree_goes_on n es s new who result e armed gs a below moved p (ap (latest 0) moments ∙ (a.moment ∙ sym same))
    (subst (Each (λ m. m ≤ new.now)) (sym moments) (each_most s.now new.now (accepted es) (omega (arith, same)) a.past))

pub agree_after_call : (n : ℕ) (es : List Entry) (s : State) (who : ℕ) (call : Call) (result : Result Reply Refusal) (e : Entry) (gs : List Grant) (new : State) (waited : Bool) → Agree n es s → AreBelow n s → Moves s who (pended result) gs new → waited ≡ pends s who → IsOfCall who call result e
    → new.now ≡ s.now → Agree n (es ++ e ∷ map granted gs) new
agree_after_call n es s who call result e gs new waited a below moved is of same =
    quiet n es s new who result e (waited || pended result) gs a below moved (posted_call n es s who call result e gs new waited a moved is of) (accepted_of who call result e of) same

-- ---- a tick

pub done_stays : (result : Result Reply Refusal) → IsTrue (is_done result) → pended result ≡ false
done_stays (Ok Reply.Done) done = refl
done_stays (Err cause) done = refl
done_stays (Ok reply) done = absurd (false≢true done)

-- a wait of who ticks pends after the tick where it did before
pub tick_arms : (n : ℕ) (es : List Entry) (s : State) (by : ℕ) (result : Result Reply Refusal) (waited : Bool) → Agree n es s → pended result ≡ false → waited ≡ pends s by
    → one_if (is_armed by es) + one_if (pended result) ≡ one_if waited
tick_arms n es s by result waited a stays is =
    let b = ap one_if (a.waits by ∙ sym is) in
    let c = ap one_if stays in
    omega arith

posted_tick : (n : ℕ) (es : List Entry) (s : State) (by m : ℕ) (result : Result Reply Refusal) (waited : Bool) → Agree n es s → pended result ≡ false → waited ≡ pends s by → IsPosted es s by result (Ticked by m result) waited
posted_tick n es s by m result waited a stays is = record { own = refl; arm = refl; one = tick_arms n es s by result waited a stays is }

moved_by : (s : State) (by : ℕ) (result : Result Reply Refusal) (gs : List Grant) (new : State) → pended result ≡ false → Moves s by false gs new → Moves s by (pended result) gs new
moved_by s by result gs new stays moved = subst (λ b. Moves s by b gs new) (sym stays) moved

pub tick_sends : (n : ℕ) (es : List Entry) (s : State) (by m : ℕ) (result : Result Reply Refusal) (gs : List Grant) (new : State) (waited : Bool) → Agree n es s → AreBelow n s → pended result ≡ false → Moves s by false gs new → waited ≡ pends s by
    → AreArmed n (es ++ Ticked by m result ∷ []) gs
tick_sends n es s by m result gs new waited a below stays moved is =
    can_send n es s new by result (Ticked by m result) waited gs a below (moved_by s by result gs new stays moved) (posted_tick n es s by m result waited a stays is)

tick_moment : (es : List Entry) (s : State) (by m : ℕ) (result : Result Reply Refusal) (new : State) → latest 0 (accepted es) ≡ s.now → IsMomentAfter s.now m result new.now
    → latest 0 (accepted es ++ accepted_at (Ticked by m result)) ≡ new.now
tick_moment es s by m (Ok reply) new is come = latest-push 0 (accepted es) m ∙ sym come.1
tick_moment es s by m (Err cause) new is come = ap (latest 0) (append-nil (accepted es)) ∙ (is ∙ sym come)

tick_past : (es : List Entry) (s : State) (by m : ℕ) (result : Result Reply Refusal) (new : State) → Each (λ x. x ≤ s.now) (accepted es) → IsMomentAfter s.now m result new.now
    → Each (λ x. x ≤ new.now) (accepted es ++ accepted_at (Ticked by m result))
tick_past es s by m (Ok reply) new past come = (let here = come.0 in let now = come.1 in most-push new.now (accepted es) m (omega (arith, now)) (each_most s.now new.now (accepted es) (omega (arith, here, now)) past))
tick_past es s by m (Err cause) new past come = subst (Each (λ x. x ≤ new.now)) (sym (append-nil (accepted es))) (each_most s.now new.now (accepted es) (omega (arith, come)) past)

pub agree_after_tick : (n : ℕ) (es : List Entry) (s : State) (by m : ℕ) (result : Result Reply Refusal) (gs : List Grant) (new : State) (waited : Bool) → Agree n es s → AreBelow n s → pended result ≡ false → Moves s by false gs new → IsMomentAfter s.now m result new.now → waited ≡ pends s by
    → Agree n (es ++ Ticked by m result ∷ map granted gs) new
agree_after_tick n es s by m result gs new waited a below stays moved come is =
    agree_goes_on n es s new by result (Ticked by m result) waited gs a below (moved_by s by result gs new stays moved) (posted_tick n es s by m result waited a stays is)
    (tick_moment es s by m result new a.moment come) (tick_past es s by m result new a.past come)

-- an accepted tick is to no moment before those published
pub tick_rises : (n : ℕ) (es : List Entry) (s : State) (m : ℕ) (result : Result Reply Refusal) (new : State) (published : List ℕ) → Agree n es s → IsMomentAfter s.now m result new.now → published ≡ accepted es → IfOk result (λ _. latest 0 published ≤ m)
tick_rises n es s m (Ok reply) new published a come is = let b = ap (latest 0) is in let c = a.moment in let d = come.0 in omega arith
tick_rises n es s m (Err cause) new published a come is = tt

-- ---- a thread that begins again

pub begin_moves : (old : State) (t h : ℕ) (grants : List Grant) (new : State) → BeginsAgain old t h (Ok (Reply.Handle h)) grants new → Moves old t false [] new
begin_moves old t h grants new begun =
    let same : (x : ℕ) → pends new x ≡ pends old x = λ x. ap (λ (s : State). pends s x) begun.3 in record {
      threads = ap (λ (s : State). s.threads) begun.3;
      free = λ e. absurd (false≢true e);
      ended = λ x. (let none : granted_to x [] ≡ 0 = refl in omega (arith, none));
      each = λ x. (let waits = ap one_if (same x) in both x (eqb t x) waits);
    }
  where
    both : (x : ℕ) (b : Bool) → one_if (pends new x) ≡ one_if (pends old x) → one_if (pends new x) + 0 ≡ one_if (pends old x) + cond b 0 0
    both x true waits = omega (arith, waits)
    both x false waits = omega (arith, waits)

pub agree_after_begin : (n : ℕ) (es : List Entry) (s : State) (t h : ℕ) (grants : List Grant) (new : State) (waited : Bool) → Agree n es s → AreBelow n s → waited ≡ pends s t → BeginsAgain s t h (Ok (Reply.Handle h)) grants new
    → Agree n (es ++ Renewed t (Begin h) (Ok h) ∷ []) new
agree_after_begin n es s t h grants new waited a below is begun =
    quiet n es s new t (Ok (Reply.Handle h)) (Renewed t (Begin h) (Ok h)) waited [] a below (begin_moves s t h grants new begun) (record { own = refl; arm = refl; one = tick_arms n es s t (Ok (Reply.Handle h)) waited a refl is }) refl
    (ap (λ (x : State). x.now) begun.3)

pub begin_deed : (s : State) (t h : ℕ) (grants : List Grant) (new : State) → BeginsAgain s t h (Ok (Reply.Handle h)) grants new → IsDeed s (record { entry = Renewed t (Begin h) (Ok h); grants = [] }) new
begin_deed s t h grants new begun = (refl, (new, (begun.0, begun.1, refl, begun.3), refl))

-- ---- the book

-- whoever waits is one of the threads
pub below : (d : Dispatcher) (n : ℕ) → IsLawful d → d.threads ≡ n → AreBelow n (state d)
below d n lawful same t pending = let known = who_waits d t lawful pending in omega (arith, known, same)

-- the last entry is read
pub last_is : (es : List Entry) (e : Entry) (all : List Entry) (place : ℕ) (x : Entry) → x ≡ get_or all place x → all ≡ es ++ e ∷ [] → place ≡ length es → x ≡ e
last_is es e all place x value is here = value ∙ (ap (λ (l : List Entry). get_or l place x) is ∙ (ap (λ n. get_or (es ++ e ∷ []) n x) here ∙ get_or-append_seam es e [] x))

-- what is left below the end is the fewer of places and numbers
pub left_is : (end first entries room : ℕ) → end ≡ min (first + room) ENTRY_LIMIT → end - (first + entries) ≡ min (room - entries) (ENTRY_LIMIT - (first + entries))
left_is end first entries room ends = omega (arith, ends)

-- a book that is not full has room for an entry, and one more for each pending wait, and as many numbers are left
pub room_left : (life : WithSpare) (base : Dispatcher) (written : List Entry) (first : ℕ) (journal : List Entry) (room : ℕ) (b : Ledger) (full : Bool)
    → ledger life base written first journal room ≡ b → (full ≡ true) ↔ IsFull b → full ≡ false
    → (length journal + 1 + len (state life.core).waits ≤ room) × (first + length journal + 1 + len (state life.core).waits ≤ ENTRY_LIMIT)
room_left life base written first journal room b full is told free =
    let exactly = subst (λ (it : Ledger). (full ≡ true) ↔ IsFull it) (sym is) told in
    let pending = len (state life.core).waits in
    let next = first + length journal in
    let left = min (room - length journal) (ENTRY_LIMIT - next) in
    let enough : 1 + pending ≤ left = ⊎_elim
    (λ (more : (nat_le (1 + pending) left ≡ true) × (1 + pending ≤ left)). more.1)
    (λ (less : (nat_le (1 + pending) left ≡ false) × (left < 1 + pending)). absurd (false≢true (sym free ∙ exactly.1 less.1)))
    (leb_tells (1 + pending) left) in
    (omega (arith, enough), omega (arith, enough))

-- the journal after the entry and the grants were written
pub journal_is : (es now next : List Entry) (e : Entry) (gs sent : List Grant) → now ≡ es ++ e ∷ [] → next ≡ now ++ map granted sent → sent ≡ gs → next ≡ es ++ e ∷ map granted gs
journal_is es now next e gs sent posted grown same =
    grown ∙ ap (λ l. l ++ map granted sent) posted ∙ append_assoc es (e ∷ []) (map granted sent) ∙ ap (λ l. es ++ (e ∷ map granted l)) same

-- how many entries there are after an entry and the grants
pub written_count : (es next : List Entry) (e : Entry) (gs : List Grant) → next ≡ es ++ e ∷ map granted gs → length next ≡ length es + 1 + length gs
written_count es next e gs is = let a = ap length is in let b = length-append es (e ∷ map granted gs) in let d = length-map gs granted in omega arith
