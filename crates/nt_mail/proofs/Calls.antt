-- What stands among the entries of one thread, after one more entry.
use Rattle.std.proofs.Common.{◌≡◌, ◌≢◌, ℕ, suc, ◌+◌, ◌<◌, ◌≤◌, List, [], ◌∷◌, ◌++◌, length, eqb, eq-eqb, ne_eqb, Bool, true, false, cond, refl, sym, ap, ◌∙◌, subst, arith, length-append, append_assoc}
use Rattle.std.specs.Prelude.{◌||◌}
use Rattle.std.proofs.lemmas.List.{append-nil}
use native.Mathlib.Decide.{ℕ_discrete}
use Rattle.nt_calls.specs.Moves.{one_if}
use Rattle.nt_mail.specs.declared.entry.Entry.{Entry}
use Rattle.nt_mail.specs.declared.entry.Entry.TheVariants.{Called, Ticked, Granted, Renewed}
use Rattle.nt_mail.specs.declared.knowledge.Made.{Made}
use Rattle.nt_mail.specs.declared.knowledge.Got.{Got}
use Rattle.nt_mail.specs.declared.knowledge.Asked.{Asked}
use Rattle.nt_calls.specs.Moves.{pended}
use Rattle.nt_mail.specs.Entries.{item, asked_of, handle_reply, last_number, given, call_at, calls_from, calls_of, grant_at, grants_from, grants_of, armed_by, armed_from, is_armed, last_from, last_of, pended_in, last_pended_from, last_pended, entry_thread, AreBelow, AreMadeBelow, IsOwn, arms}
use Rattle.nt_mail.specs.Rule.{IsCounted, WasLast}

-- the entries before the rest, and the rest
pub calls_from-append : (t n : ℕ) (xs ys : List Entry) (m : ℕ) → m ≡ n + length xs → calls_from t n (xs ++ ys) ≡ calls_from t n xs ++ calls_from t m ys
calls_from-append t n [] ys m e = ap (λ (k : ℕ). calls_from t k ys) (omega arith)
calls_from-append t n (x ∷ xs) ys m e =
    ap (λ l. call_at t n x ++ l) (calls_from-append t (suc n) xs ys m (omega arith)) ∙ sym (append_assoc (call_at t n x) (calls_from t (suc n) xs) (calls_from t m ys))

pub grants_from-append : (t n : ℕ) (xs ys : List Entry) (m : ℕ) → m ≡ n + length xs → grants_from t n (xs ++ ys) ≡ grants_from t n xs ++ grants_from t m ys
grants_from-append t n [] ys m e = ap (λ (k : ℕ). grants_from t k ys) (omega arith)
grants_from-append t n (x ∷ xs) ys m e =
    ap (λ l. grant_at t n x ++ l) (grants_from-append t (suc n) xs ys m (omega arith)) ∙ sym (append_assoc (grant_at t n x) (grants_from t (suc n) xs) (grants_from t m ys))

armed_from-append : (t : ℕ) (b : Bool) (xs ys : List Entry) → armed_from t b (xs ++ ys) ≡ armed_from t (armed_from t b xs) ys
armed_from-append t b [] ys = refl
armed_from-append t b (x ∷ xs) ys = armed_from-append t (armed_by t b x) xs ys

last_from-append : (t n last : ℕ) (xs ys : List Entry) (m : ℕ) → m ≡ n + length xs → last_from t n last (xs ++ ys) ≡ last_from t m (last_from t n last xs) ys
last_from-append t n last [] ys m e = ap (λ (k : ℕ). last_from t k last ys) (omega arith)
last_from-append t n last (x ∷ xs) ys m e = last_from-append t (suc n) (cond (eqb (entry_thread x) t) n last) xs ys m (omega arith)

pub calls_of-push : (t : ℕ) (log : List Entry) (e : Entry) → calls_of t (log ++ e ∷ []) ≡ calls_of t log ++ call_at t (suc (length log)) e
calls_of-push t log e = calls_from-append t 1 log (e ∷ []) (suc (length log)) (omega arith) ∙ ap (λ l. calls_of t log ++ l) (append-nil (call_at t (suc (length log)) e))

pub grants_of-push : (t : ℕ) (log : List Entry) (e : Entry) → grants_of t (log ++ e ∷ []) ≡ grants_of t log ++ grant_at t (suc (length log)) e
grants_of-push t log e = grants_from-append t 1 log (e ∷ []) (suc (length log)) (omega arith) ∙ ap (λ l. grants_of t log ++ l) (append-nil (grant_at t (suc (length log)) e))

pub is_armed-push : (t : ℕ) (log : List Entry) (e : Entry) → is_armed t (log ++ e ∷ []) ≡ armed_by t (is_armed t log) e
is_armed-push t log e = armed_from-append t false log (e ∷ [])

pub last_of-push : (t : ℕ) (log : List Entry) (e : Entry) → last_of t (log ++ e ∷ []) ≡ cond (eqb (entry_thread e) t) (suc (length log)) (last_of t log)
last_of-push t log e = last_from-append t 1 0 log (e ∷ []) (suc (length log)) (omega arith)

-- what was the thread's last entry at some time was so later too
pub was_last-push : (t n : ℕ) (log : List Entry) (e : Entry) → WasLast t n log → WasLast t n (log ++ e ∷ [])
was_last-push t n log e was = (was.0, was.1 ++ e ∷ [], ap (λ l. l ++ e ∷ []) was.2 ∙ append_assoc was.0 was.1 (e ∷ []), was.3)

pub was_last-now : (t n : ℕ) (log : List Entry) → n ≡ last_of t log → WasLast t n log
was_last-now t n log is = (log, [], sym (append-nil log), is)

-- an entry of another thread changes nothing
pub record SameOf (t : ℕ) (log now : List Entry) : Type 0 where
  pub calls : calls_of t now ≡ calls_of t log
  pub grants : grants_of t now ≡ grants_of t log
  pub armed : is_armed t now ≡ is_armed t log
  pub last : last_of t now ≡ last_of t log
  pub was_last : (n : ℕ) → WasLast t n log → WasLast t n now

no_call_at : (t n : ℕ) (e : Entry) → eqb (entry_thread e) t ≡ false → call_at t n e ≡ []
no_call_at t n (Called who call result) b = ap (λ x. cond x (item n (Asked.Call call) result ∷ []) []) b
no_call_at t n (Ticked by moment result) b = ap (λ x. cond x (item n (Asked.Tick moment) result ∷ []) []) b
no_call_at t n (Granted who status) b = refl
no_call_at t n (Renewed who renewal result) b = ap (λ x. cond x (item n (asked_of renewal) (handle_reply result) ∷ []) []) b

no_grant_at : (t n : ℕ) (e : Entry) → eqb (entry_thread e) t ≡ false → grant_at t n e ≡ []
no_grant_at t n (Called who call result) b = refl
no_grant_at t n (Ticked by moment result) b = refl
no_grant_at t n (Granted who status) b = ap (λ x. cond x (given n status ∷ []) []) b
no_grant_at t n (Renewed who renewal result) b = refl

armed_as_before : (t : ℕ) (before : Bool) (e : Entry) → eqb (entry_thread e) t ≡ false → armed_by t before e ≡ before
armed_as_before t before (Called who call result) b = ap (λ x. cond x (pended result || before) before) b
armed_as_before t before (Ticked by moment result) b = ap (λ x. cond x (pended result || before) before) b
armed_as_before t before (Granted who status) b = ap (λ x. cond x false before) b
armed_as_before t before (Renewed who renewal result) b = ap (λ x. cond x (pended (handle_reply result) || before) before) b

pub same_push : (t : ℕ) (log : List Entry) (e : Entry) → entry_thread e ≢ t → SameOf t log (log ++ e ∷ [])
same_push t log e ne =
    let b : eqb (entry_thread e) t ≡ false = ne_eqb (entry_thread e) t ne in
    let n = suc (length log) in
    record {
      calls = calls_of-push t log e ∙ ap (λ l. calls_of t log ++ l) (no_call_at t n e b) ∙ append-nil (calls_of t log);
      grants = grants_of-push t log e ∙ ap (λ l. grants_of t log ++ l) (no_grant_at t n e b) ∙ append-nil (grants_of t log);
      armed = is_armed-push t log e ∙ armed_as_before t (is_armed t log) e b;
      last = last_of-push t log e ∙ ap (λ x. cond x n (last_of t log)) b;
      was_last = λ m was. was_last-push t m log e was;
    }

-- a call or tick of the thread itself
pub record AfterCall (t : ℕ) (log : List Entry) (e : Entry) (now : List Entry) : Type 0 where
  pub calls : calls_of t now ≡ calls_of t log ++ call_at t (suc (length log)) e
  pub grants : grants_of t now ≡ grants_of t log
  pub armed : is_armed t now ≡ (arms e || is_armed t log)
  pub last : last_of t now ≡ suc (length log)

pub own_thread : (t : ℕ) (e : Entry) → IsOwn t e → entry_thread e ≡ t
own_thread t (Called who call result) own = own
own_thread t (Ticked by moment result) own = own
own_thread t (Granted who status) own = absurd own
own_thread t (Renewed who renewal result) own = own

call_no_grant : (t n : ℕ) (e : Entry) → IsOwn t e → grant_at t n e ≡ []
call_no_grant t n (Called who call result) own = refl
call_no_grant t n (Ticked by moment result) own = refl
call_no_grant t n (Granted who status) own = absurd own
call_no_grant t n (Renewed who renewal result) own = refl

call_arms : (t : ℕ) (before : Bool) (e : Entry) → IsOwn t e → armed_by t before e ≡ (arms e || before)
call_arms t before (Called who call result) own = ap (λ x. cond x (pended result || before) before) (eq-eqb who t own)
call_arms t before (Ticked by moment result) own = ap (λ x. cond x (pended result || before) before) (eq-eqb by t own)
call_arms t before (Granted who status) own = absurd own
call_arms t before (Renewed who renewal result) own = ap (λ x. cond x (pended (handle_reply result) || before) before) (eq-eqb who t own)

pub after_call : (t : ℕ) (log : List Entry) (e : Entry) → IsOwn t e → AfterCall t log e (log ++ e ∷ [])
after_call t log e own =
    let b : eqb (entry_thread e) t ≡ true = eq-eqb (entry_thread e) t (own_thread t e own) in
    let n = suc (length log) in
    record {
      calls = calls_of-push t log e;
      grants = grants_of-push t log e ∙ ap (λ l. grants_of t log ++ l) (call_no_grant t n e own) ∙ append-nil (grants_of t log);
      armed = is_armed-push t log e ∙ call_arms t (is_armed t log) e own;
      last = last_of-push t log e ∙ ap (λ x. cond x n (last_of t log)) b;
    }

-- a grant to the thread
pub record AfterGrant (t : ℕ) (log : List Entry) (status : ℕ) (now : List Entry) : Type 0 where
  pub calls : calls_of t now ≡ calls_of t log
  pub grants : grants_of t now ≡ grants_of t log ++ given (suc (length log)) status ∷ []
  pub armed : is_armed t now ≡ false
  pub last : last_of t now ≡ suc (length log)

pub after_grant : (t : ℕ) (log : List Entry) (status : ℕ) → AfterGrant t log status (log ++ Granted t status ∷ [])
after_grant t log status =
    let b : eqb t t ≡ true = eq-eqb t t refl in
    let n = suc (length log) in
    let e = Granted t status in
    record {
      calls = calls_of-push t log e ∙ append-nil (calls_of t log);
      grants = grants_of-push t log e ∙ ap (λ x. grants_of t log ++ cond x (given n status ∷ []) []) b;
      armed = is_armed-push t log e ∙ ap (λ x. cond x false (is_armed t log)) b;
      last = last_of-push t log e ∙ ap (λ x. cond x n (last_of t log)) b;
    }

-- at most one of two holds, and whether one does
pub one_or : (b c d : Bool) → one_if b + one_if c ≡ one_if d → (c || b) ≡ d
one_or true true true e = refl
one_or true true false e = absurd (omega arith)
one_or true false true e = refl
one_or true false false e = absurd (omega arith)
one_or false true true e = refl
one_or false true false e = absurd (omega arith)
one_or false false true e = absurd (omega arith)
one_or false false false e = refl

-- what one call or tick adds
pended_in-call : (t n : ℕ) (ms : List Made) (e : Entry) → IsOwn t e → pended_in (ms ++ call_at t n e) ≡ pended_in ms + one_if (arms e)
pended_in-call t n [] (Called who call result) own = let b = ap (λ x. pended_in (cond x (item n (Asked.Call call) result ∷ []) [])) (eq-eqb who t own) in omega arith
pended_in-call t n [] (Ticked by moment result) own = let b = ap (λ x. pended_in (cond x (item n (Asked.Tick moment) result ∷ []) [])) (eq-eqb by t own) in omega arith
pended_in-call t n [] (Granted who status) own = absurd own
pended_in-call t n [] (Renewed who renewal result) own = let b = ap (λ x. pended_in (cond x (item n (asked_of renewal) (handle_reply result) ∷ []) [])) (eq-eqb who t own) in omega arith
pended_in-call t n (m ∷ ms) e own = omega (arith, pended_in-call t n ms e own)

last_pended-call : (t n last : ℕ) (ms : List Made) (e : Entry) → arms e ≡ false → last_pended_from last (ms ++ call_at t n e) ≡ last_pended_from last ms
last_pended-call t n last [] (Called who call result) unarmed = one (eqb who t)
  where
    one : (b : Bool) → last_pended_from last (cond b (item n (Asked.Call call) result ∷ []) []) ≡ last
    one true = ap (λ x. cond x n last) unarmed
    one false = refl
last_pended-call t n last [] (Ticked by moment result) unarmed = one (eqb by t)
  where
    one : (b : Bool) → last_pended_from last (cond b (item n (Asked.Tick moment) result ∷ []) []) ≡ last
    one true = ap (λ x. cond x n last) unarmed
    one false = refl
last_pended-call t n last [] (Granted who status) unarmed = refl
last_pended-call t n last [] (Renewed who renewal result) unarmed = one (eqb who t)
  where
    one : (b : Bool) → last_pended_from last (cond b (item n (asked_of renewal) (handle_reply result) ∷ []) []) ≡ last
    one true = ap (λ x. cond x n last) unarmed
    one false = refl
last_pended-call t n last (m ∷ ms) e unarmed = last_pended-call t n (cond (pended m.result) m.number last) ms e unarmed

made_below-call : (t n : ℕ) (ms : List Made) (e : Entry) → AreMadeBelow n ms → AreMadeBelow (suc n) (ms ++ call_at t n e)
made_below-call t n [] (Called who call result) h = one (eqb who t)
  where
    one : (b : Bool) → AreMadeBelow (suc n) (cond b (item n (Asked.Call call) result ∷ []) [])
    one true = (omega arith, tt)
    one false = tt
made_below-call t n [] (Ticked by moment result) h = one (eqb by t)
  where
    one : (b : Bool) → AreMadeBelow (suc n) (cond b (item n (Asked.Tick moment) result ∷ []) [])
    one true = (omega arith, tt)
    one false = tt
made_below-call t n [] (Granted who status) h = tt
made_below-call t n [] (Renewed who renewal result) h = one (eqb who t)
  where
    one : (b : Bool) → AreMadeBelow (suc n) (cond b (item n (asked_of renewal) (handle_reply result) ∷ []) [])
    one true = (omega arith, tt)
    one false = tt
made_below-call t n (m ∷ ms) e h = (let a = h.0 in omega arith, made_below-call t n ms e h.1)

pub made_below-more : (n m : ℕ) (ms : List Made) → n ≤ m → AreMadeBelow n ms → AreMadeBelow m ms
made_below-more n m [] le h = tt
made_below-more n m (x ∷ xs) le h = (let a = h.0 in omega arith, made_below-more n m xs le h.1)

pub below-more : (n m : ℕ) (gs : List Got) → n ≤ m → AreBelow n gs → AreBelow m gs
below-more n m [] le h = tt
below-more n m (x ∷ xs) le h = (let a = h.0 in omega arith, below-more n m xs le h.1)

below-push : (n : ℕ) (gs : List Got) (g : Got) → AreBelow n gs → g.number < n → AreBelow n (gs ++ g ∷ [])
below-push n [] g h lt = (lt, tt)
below-push n (x ∷ xs) g h lt = (h.0, below-push n xs g h.1 lt)

pub last_number-push : (last : ℕ) (gs : List Got) (g : Got) → last_number last (gs ++ g ∷ []) ≡ g.number
last_number-push last [] g = refl
last_number-push last (x ∷ xs) g = last_number-push x.number xs g

last_pended-below : (n last : ℕ) (ms : List Made) → last < n → AreMadeBelow n ms → last_pended_from last ms < n
last_pended-below n last [] lt h = lt
last_pended-below n last (m ∷ ms) lt h = last_pended-below n (cond (pended m.result) m.number last) ms (one (pended m.result)) h.1
  where
    one : (b : Bool) → cond b m.number last < n
    one true = h.0
    one false = lt

counted_same : (t : ℕ) (log now : List Entry) → SameOf t log now → length log ≤ length now → IsCounted t log → IsCounted t now
counted_same t log now s le h = record {
  count = (let a = ap pended_in s.calls in let b = ap length s.grants in let c = ap one_if s.armed in let d = h.count in omega arith);
  after = λ no. (let a = ap last_pended s.calls in let b = ap (last_number 0) s.grants in let d = h.after (sym s.armed ∙ no) in omega arith);
  calls = subst (AreMadeBelow (suc (length now))) (sym s.calls) (made_below-more (suc (length log)) (suc (length now)) (calls_of t log) (omega arith) h.calls);
  grants = subst (AreBelow (suc (length now))) (sym s.grants) (below-more (suc (length log)) (suc (length now)) (grants_of t log) (omega arith) h.grants);
}

longer : (log : List Entry) (e : Entry) → length (log ++ e ∷ []) ≡ suc (length log)
longer log e = length-append log (e ∷ []) ∙ omega arith

not_two : (b c d : Bool) → one_if b + one_if c ≡ one_if d → (c || b) ≡ false → (b ≡ false) × (c ≡ false)
not_two true true d e none = absurd (let a = ap one_if none in omega arith)
not_two true false d e none = absurd (let a = ap one_if none in omega arith)
not_two false true d e none = absurd (let a = ap one_if none in omega arith)
not_two false false d e none = (refl, refl)

-- each thread is counted
abbrev pub AreCounted : List Entry → Type 0
AreCounted log = (t : ℕ) → IsCounted t log

pub counted_call : (t : ℕ) (log : List Entry) (e : Entry) (armed : Bool) → IsOwn t e → AreCounted log → one_if (is_armed t log) + one_if (arms e) ≡ one_if armed → AreCounted (log ++ e ∷ [])
counted_call t log e armed own h one u = at (ℕ_discrete t u)
  where
    at : Dec (t ≡ u) → IsCounted u (log ++ e ∷ [])
    at (no ne) = counted_same u log (log ++ e ∷ []) (same_push u log e (λ is. ne (sym (own_thread t e own) ∙ is))) (let l = longer log e in omega arith) (h u)
    at (yes is) =
        let next = log ++ e ∷ [] in
        let s = after_call t log e own in
        let o = h t in
        let n = suc (length log) in
        let l = longer log e in
        subst (λ x. IsCounted x next) is (record {
          count = (
              let a = ap pended_in s.calls in
              let b = ap length s.grants in
              let c = ap one_if (s.armed ∙ one_or (is_armed t log) (arms e) armed one) in
              let d = pended_in-call t n (calls_of t log) e own in
              let f = o.count in
              omega arith);
          after = λ idle. (
              let both = not_two (is_armed t log) (arms e) armed one (sym s.armed ∙ idle) in
              let a = ap last_pended s.calls in
              let b = ap (last_number 0) s.grants in
              let c = last_pended-call t n 0 (calls_of t log) e both.1 in
              let d = o.after both.0 in
              omega arith);
          calls = subst (λ (x : ℕ × List Made). AreMadeBelow x.0 x.1) (λ i. (suc (sym l i), sym s.calls i)) (made_below-call t n (calls_of t log) e o.calls);
          grants = subst (λ (x : ℕ × List Got). AreBelow x.0 x.1) (λ i. (suc (sym l i), sym s.grants i)) (below-more n (suc n) (grants_of t log) (omega arith) o.grants);
        })

pub counted_grant : (t : ℕ) (log : List Entry) (status : ℕ) → AreCounted log → is_armed t log ≡ true → AreCounted (log ++ Granted t status ∷ [])
counted_grant t log status h armed u = at (ℕ_discrete t u)
  where
    at : Dec (t ≡ u) → IsCounted u (log ++ Granted t status ∷ [])
    at (no ne) = counted_same u log (log ++ Granted t status ∷ []) (same_push u log (Granted t status) ne) (let l = longer log (Granted t status) in omega arith) (h u)
    at (yes is) =
        let next = log ++ Granted t status ∷ [] in
        let s = after_grant t log status in
        let o = h t in
        let n = suc (length log) in
        let l = longer log (Granted t status) in
        let g = given n status in
        subst (λ x. IsCounted x next) is (record {
          count = (
              let a = ap pended_in s.calls in
              let b = ap length s.grants in
              let c = ap one_if s.armed in
              let i = ap one_if armed in
              let d = o.count in
              let m = length-append (grants_of t log) (g ∷ []) in
              omega arith);
          after = λ idle. (
              let a = ap last_pended s.calls in
              let b = ap (last_number 0) s.grants ∙ last_number-push 0 (grants_of t log) g in
              let c = last_pended-below n 0 (calls_of t log) (omega arith) o.calls in
              omega arith);
          calls = subst (λ (x : ℕ × List Made). AreMadeBelow x.0 x.1) (λ i. (suc (sym l i), sym s.calls i)) (made_below-more n (suc n) (calls_of t log) (omega arith) o.calls);
          grants = subst (λ (x : ℕ × List Got). AreBelow x.0 x.1) (λ i. (suc (sym l i), sym s.grants i)) (below-push (suc n) (grants_of t log) g (below-more n (suc n) (grants_of t log) (omega arith) o.grants) (omega arith));
        })
