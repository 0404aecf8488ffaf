-- The greatest moment that a thread knows, whether it is free, and how many calls it made.
use Rattle.std.proofs.Common.{◌≡◌, ℕ, ◌<◌, ◌≤◌, ◌+◌, List, [], ◌∷◌, ◌++◌, length, length-append, Result, Ok, Bool, true, false, cond, eqb, eq-eqb, ap, ◌∙◌, refl, sym, subst, arith}
use Rattle.std.proofs.lemmas.Bool.{false≢true}
use Rattle.std.specs.Prelude.{max}
use Rattle.nt_status.specs.declared.refusal.Refusal.{Refusal}
use Rattle.nt_calls.specs.declared.call.Call.{Call}
use Rattle.nt_calls.specs.declared.call.Reply.{Reply}
use Rattle.nt_calls.specs.Moves.{one_if, pended, is_wait}
use Rattle.nt_mail.specs.declared.knowledge.Knowledge.{Knowledge}
use Rattle.nt_mail.specs.declared.knowledge.Made.{Made}
use Rattle.nt_mail.specs.declared.knowledge.Asked.{Asked}
use Rattle.nt_mail.specs.Entries.{item, asked_of, handle_reply, pended_in, last_pended_from, AreBelow, AreMadeBelow}
use Rattle.nt_mail.specs.declared.entry.Entry.{Entry}
use Rattle.nt_mail.specs.declared.entry.Entry.TheVariants.{Called, Ticked, Renewed}
use Rattle.nt_life.specs.Renewals.{IsFor}
use Rattle.nt_life.specs.declared.renewal.Renewal.{Renewal}
use Rattle.nt_life.specs.declared.renewal.Renewal.TheVariants.{Create, CreateAdded, Unadded, Duplicate, Begin}
use Rattle.nt_front.specs.Books.{IsOfCall}
use Rattle.nt_mail.specs.Knowledge.{knows, with_call as entry_known, latest, with_moment, IsFree, IsWaiting, IsEarlier}
use Rattle.nt_mail.proofs.Taken.{latest-push}
use Rattle.nt_front.specs.Holds.{floor_of, ticked_to, moment_if, with_made, with_tick, with_made_call, last_made, AreNumbered}

greater : (word read ticks : ℕ) → read ≤ word → max word ticks ≡ max word (max read ticks)
greater word read ticks le = omega arith

-- a moment that is read
pub floor_reads : (k : Knowledge) (word : ℕ) → latest 0 k.moments ≤ word → floor_of (with_moment word k) ≡ max word (floor_of k)
floor_reads k word le = ap (λ (x : ℕ). max x (ticked_to k.made)) (latest-push 0 k.moments word) ∙ greater word (latest 0 k.moments) (ticked_to k.made) le

pended_in-push : (ms : List Made) (m : Made) → pended_in (ms ++ m ∷ []) ≡ pended_in ms + one_if (pended m.result)
pended_in-push [] m = omega arith
pended_in-push (x ∷ xs) m = omega (arith, pended_in-push xs m)

ticked_to-push : (ms : List Made) (m : Made) → ticked_to (ms ++ m ∷ []) ≡ max (ticked_to ms) (moment_if m.asked m.result)
ticked_to-push [] m = omega arith
ticked_to-push (x ∷ xs) m = omega (arith, ticked_to-push xs m)

later : (read ticks more new : ℕ) → new ≡ max ticks more → max read new ≡ max (max read ticks) more
later read ticks more new is = omega (arith, is)

-- a tick that is made
pub floor_ticks : (k : Knowledge) (n moment : ℕ) (result : Result Reply Refusal) → floor_of (with_tick k n moment result) ≡ max (floor_of k) (moment_if (Asked.Tick moment) result)
floor_ticks k n moment result = later (latest 0 k.moments) (ticked_to k.made) (moment_if (Asked.Tick moment) result) _ (ticked_to-push k.made (item n (Asked.Tick moment) result))

free_made : (k : Knowledge) (n : ℕ) (asked : Asked) (result : Result Reply Refusal) → pended result ≡ false → IsFree k → pended_in (k.made ++ item n asked result ∷ []) ≡ length k.got
free_made k n asked result p free = let a = pended_in-push k.made (item n asked result) in let b = ap one_if p in omega (arith, free)

-- who ticks is as free as before
pub free_ticks : (k : Knowledge) (n moment : ℕ) (result : Result Reply Refusal) → pended result ≡ false → IsFree k → IsFree (with_tick k n moment result)
free_ticks k n moment result stays free = free_made k n (Asked.Tick moment) result stays free

last_pended-push : (last : ℕ) (ms : List Made) (m : Made) → pended m.result ≡ true → last_pended_from last (ms ++ m ∷ []) ≡ m.number
last_pended-push last [] m p = ap (λ b. cond b m.number last) p
last_pended-push last (x ∷ xs) m p = last_pended-push (cond (pended x.result) x.number last) xs m p

-- what moves no moment
pub floor_made : (k : Knowledge) (n : ℕ) (asked : Asked) (result : Result Reply Refusal) → moment_if asked result ≡ 0 → floor_of (with_made k n asked result) ≡ floor_of k
floor_made k n asked result none =
    let push = ticked_to-push k.made (item n asked result) in
    later (latest 0 k.moments) (ticked_to k.made) 0 _ (push ∙ ap (λ (m : ℕ). max (ticked_to k.made) m) none) ∙ omega arith

-- a call moves no moment
pub floor_calls : (k : Knowledge) (n : ℕ) (call : Call) (result : Result Reply Refusal) → floor_of (with_made_call k n call result) ≡ floor_of k
floor_calls k n call result = floor_made k n (Asked.Call call) result refl

-- a call that pended, and one that did not
pub waits_after : (k : Knowledge) (n : ℕ) (call : Call) (result : Result Reply Refusal) → pended result ≡ true → IsFree k → IsEarlier n k → IsWaiting (with_made_call k n call result)
waits_after k n call result p free early = (
  (let a = pended_in-push k.made (item n (Asked.Call call) result) in let b = ap one_if p in omega (arith, free)),
  subst (λ (x : ℕ). AreBelow x k.got) (sym (last_pended-push 0 k.made (item n (Asked.Call call) result) p)) early.got,
)

pub free_after : (k : Knowledge) (n : ℕ) (call : Call) (result : Result Reply Refusal) → pended result ≡ false → IsFree k → IsFree (with_made_call k n call result)
free_after k n call result stays free = free_made k n (Asked.Call call) result stays free

-- who begins again is as free as before
pub free_begins : (k : Knowledge) (n h : ℕ) → IsFree k → IsFree (with_made k n Asked.Begin (Ok (Reply.Handle h)))
free_begins k n h free = free_made k n Asked.Begin (Ok (Reply.Handle h)) refl free

-- who makes a call that may not pend is as free as before
pub free_unless_waits : (k : Knowledge) (n : ℕ) (call : Call) (result : Result Reply Refusal) → is_wait call ≡ false → (pended result ≡ true → is_wait call ≡ true) → IsFree k → IsFree (with_made_call k n call result)
free_unless_waits k n call result no_wait waits free = free_after k n call result (by (pended result) refl) free
  where
    by : (b : Bool) → pended result ≡ b → pended result ≡ false
    by true e = absurd (false≢true (sym no_wait ∙ waits e))
    by false e = e

-- ---- what a thread knows of its entry

asked_for : (renewal : Renewal) (call : Call) → IsFor renewal call → asked_of renewal ≡ Asked.Call call
asked_for (Create act object handle) call is = ap (λ (c : Call). Asked.Call c) (sym is)
asked_for (CreateAdded act object handle) call is = ap (λ (c : Call). Asked.Call c) (sym is)
asked_for (Unadded act) call is = ap (λ (c : Call). Asked.Call c) (sym is)
asked_for (Duplicate source access handle) call is = ap (λ (c : Call). Asked.Call c) (sym is)
asked_for (Begin handle) call is = absurd is

made_own : (k : Knowledge) (n who : ℕ) (asked : Asked) (result : Result Reply Refusal) → who ≡ k.thread
    → knows k.thread (k.made ++ cond (eqb who k.thread) (item n asked result ∷ []) []) k.got k.polled k.moments ≡ with_made k n asked result
made_own k n who asked result own = ap (λ (b : Bool). knows k.thread (k.made ++ cond b (item n asked result ∷ []) []) k.got k.polled k.moments) (eq-eqb who k.thread own)

pub made_call : (k : Knowledge) (n : ℕ) (e : Entry) (who : ℕ) (call : Call) (result : Result Reply Refusal) → IsOfCall who call result e → who ≡ k.thread → entry_known n e k ≡ with_made_call k n call result
made_call k n (Called by asked answer) who call result of own = made_own k n by (Asked.Call asked) answer (of.0 ∙ own) ∙ (λ i. with_made_call k n (of.1 i) (of.2 i))
made_call k n (Renewed by renewal answer) who call result of own =
    made_own k n by (asked_of renewal) (handle_reply answer) (of.0 ∙ own) ∙ (λ i. with_made k n (asked_for renewal call of.1 i) (of.2 i))
made_call k n _ who call result of own = absurd of

pub made_again : (k : Knowledge) (n : ℕ) (e : Entry) (who handle : ℕ) → e ≡ Renewed who (Begin handle) (Ok handle) → who ≡ k.thread → entry_known n e k ≡ with_made k n Asked.Begin (Ok (Reply.Handle handle))
made_again k n e who handle is own = ap (λ (x : Entry). entry_known n x k) is ∙ made_own k n who Asked.Begin (Ok (Reply.Handle handle)) own

pub made_tick : (k : Knowledge) (n : ℕ) (e : Entry) (who moment : ℕ) (result : Result Reply Refusal) → e ≡ Ticked who moment result → who ≡ k.thread → entry_known n e k ≡ with_tick k n moment result
made_tick k n e who moment result is own =
    ap (λ (x : Entry). entry_known n x k) is
    ∙ ap (λ (b : Bool). knows k.thread (k.made ++ cond b (item n (Asked.Tick moment) result ∷ []) []) k.got k.polled k.moments) (eq-eqb who k.thread own)

-- ---- how many calls there are

last_made-push : (last : ℕ) (ms : List Made) (m : Made) → last_made last (ms ++ m ∷ []) ≡ m.number
last_made-push last [] m = refl
last_made-push last (x ∷ xs) m = last_made-push x.number xs m

last_below : (n last : ℕ) (ms : List Made) → last < n → AreMadeBelow n ms → last_made last ms < n
last_below n last [] less below = less
last_below n last (m ∷ ms) less below = last_below n m.number ms below.0 below.1

-- fewer calls than the number of the next
pub fewer_calls : (k : Knowledge) (n : ℕ) → AreNumbered k.made → 0 < n → IsEarlier n k → length k.made < n
fewer_calls k n numbered some early = omega (arith, numbered, last_below n 0 k.made some early.made)

pub numbered_made : (k : Knowledge) (n : ℕ) (asked : Asked) (result : Result Reply Refusal) → AreNumbered k.made → 0 < n → IsEarlier n k → AreNumbered (with_made k n asked result).made
numbered_made k n asked result numbered some early =
    let fewer = fewer_calls k n numbered some early in
    let longer = length-append k.made (item n asked result ∷ []) in
    let last = last_made-push 0 k.made (item n asked result) in
    omega (arith, fewer, longer, last)

pub calls_made : (k : Knowledge) (n : ℕ) (asked : Asked) (result : Result Reply Refusal) → length (with_made k n asked result).made ≡ length k.made + 1
calls_made k n asked result = length-append k.made (item n asked result ∷ [])
