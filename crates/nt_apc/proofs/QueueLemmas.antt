-- One queue: counts in it, and whether it has a timer's APC.
use Rattle.std.proofs.Common.{◌≡◌, ◌≢◌, ℕ, ◌+◌, ◌≤◌, inl, inr, Bool, true, false, not, cond, ◌||◌, ◌==◌, List, [], ◌∷◌, ◌++◌, length, Option, Some, None, refl, sym, ◌∙◌, ap, arith, eq-eqb}
use Rattle.std.specs.Prelude.{is_none, is_some}
use Rattle.std.specs.List.{list_any}
use Rattle.std.proofs.lemmas.Bool.{cases_eq, eqb-true, ne_eqb}
use Rattle.std.proofs.Math.Bool.{or-false}
use Rattle.std.proofs.lemmas.List.Sums.{sum_by-append}
use Rattle.std.proofs.lemmas.List.Folds.{list_any-append}
use Rattle.nt_apc.specs.declared.apc.Queued.{Queued}
use Rattle.nt_apc.specs.Queues.{is_from, has_from, count_from, without_from, oldest, without_oldest}
use Rattle.nt_apc.specs.Inbox.{plain_count, timed_count}
use Rattle.nt_apc.proofs.ListLemmas.{one_if, count_by-cons, count_by-filter, count_by-filter-le, filter-all, list_any-filter_other, list_any-filter_none}

pub counts : (queue : List Queued) → plain_count queue + timed_count queue ≡ length queue
counts [] = refl
counts (q ∷ queue) =
    let plain : plain_count (q ∷ queue) ≡ one_if (is_none q.timer) + plain_count queue = count_by-cons (λ q. is_none q.timer) q queue in
    let timed : timed_count (q ∷ queue) ≡ one_if (is_some q.timer) + timed_count queue = count_by-cons (λ q. is_some q.timer) q queue in
    let one : one_if (is_none q.timer) + one_if (is_some q.timer) ≡ 1 = elim q.timer as (λ o. one_if (is_none o) + one_if (is_some o) ≡ 1) [ None ↦ refl | Some m ↦ refl ] in
    omega (arith, plain, timed, one, counts queue)

plain_not_from : (timer : ℕ) (o : Option ℕ) → not (is_from timer o) ≡ false → is_none o ≡ false
plain_not_from timer None out = cc
plain_not_from timer (Some m) out = refl

pub plain_count-without_from : (timer : ℕ) (queue : List Queued) → plain_count (without_from timer queue) ≡ plain_count queue
plain_count-without_from timer queue =
    count_by-filter (λ q. is_none q.timer) (λ q. not (is_from timer q.timer)) (λ q out. plain_not_from timer q.timer out) queue

-- ---- whether a queue has a timer's APC

is_from-is : (timer : ℕ) (o : Option ℕ) → is_from timer o ≡ true → o ≡ Some timer
is_from-is timer None is = cc
is_from-is timer (Some other) is = ap Some (eqb-true other timer is)

pub is_from-same : (timer : ℕ) → is_from timer (Some timer) ≡ true
is_from-same timer = eq-eqb timer timer refl

pub is_from-other : (m timer : ℕ) → m ≢ timer → is_from m (Some timer) ≡ false
is_from-other m timer other = ne_eqb timer m (λ e. other (sym e))

-- an APC of one timer is not another's
is_from-one : (m timer : ℕ) (o : Option ℕ) → m ≢ timer → is_from timer o ≡ true → is_from m o ≡ false
is_from-one m timer o other is = rw (is_from-is timer o is) (is_from-other m timer other)

kept-is : (timer : ℕ) (o : Option ℕ) → not (is_from timer o) ≡ true → is_from timer o ≡ false
kept-is timer o = cases (is_from timer o)
  where
    cases : (b : Bool) → not b ≡ true → b ≡ false
    cases true is = sym is
    cases false is = refl

out-is : (timer : ℕ) (o : Option ℕ) → not (is_from timer o) ≡ false → is_from timer o ≡ true
out-is timer o = cases (is_from timer o)
  where
    cases : (b : Bool) → not b ≡ false → b ≡ true
    cases true is = refl
    cases false is = sym is

pub has_from-push : (m : ℕ) (queue : List Queued) (q : Queued) → has_from m (queue ++ q ∷ []) ≡ (has_from m queue || is_from m q.timer)
has_from-push m queue q = list_any-append (λ q. is_from m q.timer) queue (q ∷ []) ∙ ap (λ b. has_from m queue || b) (or-false (is_from m q.timer))

pub count_from-push : (m : ℕ) (queue : List Queued) (q : Queued) → count_from m (queue ++ q ∷ []) ≡ count_from m queue + one_if (is_from m q.timer)
count_from-push m queue q = sum_by-append (λ q. one_if (is_from m q.timer)) queue (q ∷ [])
    ∙ ap (λ n. count_from m queue + n) (count_by-cons (λ q. is_from m q.timer) q [] ∙ omega arith)

pub has_from-without_from : (timer : ℕ) (queue : List Queued) → has_from timer (without_from timer queue) ≡ false
has_from-without_from timer queue =
    list_any-filter_none (λ q. is_from timer q.timer) (λ q. not (is_from timer q.timer)) (λ q kept. kept-is timer q.timer kept) queue

pub has_from-without_from_other : (m timer : ℕ) (queue : List Queued) → m ≢ timer → has_from m (without_from timer queue) ≡ has_from m queue
has_from-without_from_other m timer queue other =
    list_any-filter_other (λ q. is_from m q.timer) (λ q. not (is_from timer q.timer)) (λ q out. is_from-one m timer q.timer other (out-is timer q.timer out)) queue

pub count_from-without_from : (m timer : ℕ) (queue : List Queued) → count_from m (without_from timer queue) ≤ count_from m queue
count_from-without_from m timer queue = count_by-filter-le (λ q. is_from m q.timer) (λ q. not (is_from timer q.timer)) queue

pub without_from-none : (timer : ℕ) (queue : List Queued) → has_from timer queue ≡ false → without_from timer queue ≡ queue
without_from-none timer queue none =
    filter-all (λ q. is_from timer q.timer) (λ q. not (is_from timer q.timer)) (λ q out. out-is timer q.timer out) queue none

pub has_from-oldest : (m : ℕ) (queue : List Queued) (q : Queued) → oldest queue ≡ Some q → has_from m queue ≡ (is_from m q.timer || has_from m (without_oldest queue))
has_from-oldest m [] q is = cc
has_from-oldest m (r ∷ queue) q is = let same : r ≡ q = cc in ap (λ (x : Queued). is_from m x.timer || has_from m queue) same

pub count_from-oldest : (m : ℕ) (queue : List Queued) (q : Queued) → oldest queue ≡ Some q → count_from m queue ≡ one_if (is_from m q.timer) + count_from m (without_oldest queue)
count_from-oldest m [] q is = cc
count_from-oldest m (r ∷ queue) q is =
    let same : r ≡ q = cc in count_by-cons (λ q. is_from m q.timer) r queue ∙ ap (λ (x : Queued). one_if (is_from m x.timer) + count_from m queue) same

-- ---- a place for each timer is room enough

none_timed : (queue : List Queued) → ((m : ℕ) → has_from m queue ≡ true → ⊥) → timed_count queue ≡ 0
none_timed [] none = refl
none_timed (q ∷ queue) none = cases q.timer refl (none_timed queue)
  where
    cases : (o : Option ℕ) → q.timer ≡ o → (((m : ℕ) → has_from m queue ≡ true → ⊥) → timed_count queue ≡ 0) → timed_count (q ∷ queue) ≡ 0
    cases None is rest =
        let here : one_if (is_some q.timer) ≡ 0 = rw is refl in
        let tail : timed_count queue ≡ 0 = rest (λ m has. none m (rw (is, has) refl)) in
        omega (arith, count_by-cons (λ q. is_some q.timer) q queue, here, tail)
    cases (Some m) is rest = absurd (none m (rw (is, is_from-same m) refl))

timed_count-without_from : (timer : ℕ) (queue : List Queued) → timed_count queue ≡ timed_count (without_from timer queue) + count_from timer queue
timed_count-without_from timer [] = refl
timed_count-without_from timer (q ∷ queue) = cases (is_from timer q.timer) refl (timed_count-without_from timer queue)
  where
    cases : (b : Bool) → is_from timer q.timer ≡ b → timed_count queue ≡ timed_count (without_from timer queue) + count_from timer queue →
        timed_count (q ∷ queue) ≡ timed_count (cond (not b) (q ∷ without_from timer queue) (without_from timer queue)) + count_from timer (q ∷ queue)
    cases true is rest =
        let timed : one_if (is_some q.timer) ≡ 1 = rw (is_from-is timer q.timer is) refl in
        let here : one_if (is_from timer q.timer) ≡ 1 = rw is refl in
        omega (arith, rest, timed, here, count_by-cons (λ q. is_some q.timer) q queue, count_by-cons (λ q. is_from timer q.timer) q queue)
    cases false is rest =
        let here : one_if (is_from timer q.timer) ≡ 0 = rw is refl in
        omega (arith, rest, here, count_by-cons (λ q. is_some q.timer) q queue, count_by-cons (λ q. is_some q.timer) q (without_from timer queue), count_by-cons (λ q. is_from timer q.timer) q queue)

-- each timer's APC is there once, and each of the timers is listed
pub timed_count-le : (timers : List ℕ) (queue : List Queued) → ((m : ℕ) → has_from m queue ≡ true → list_any (λ x. x == m) timers ≡ true) → ((m : ℕ) → count_from m queue ≤ 1) → timed_count queue ≤ length timers
timed_count-le [] queue listed once = let none : timed_count queue ≡ 0 = none_timed queue (λ m has. let no : false ≡ true = listed m has in cc) in omega arith
timed_count-le (timer ∷ timers) queue listed once =
    let rest : timed_count (without_from timer queue) ≤ length timers = timed_count-le timers (without_from timer queue)
    (λ m has. elim (cases_eq m timer) [
      | inl same ↦ let none : has_from m (without_from timer queue) ≡ false = rw same (has_from-without_from timer queue) in cc
      | inr other ↦
          let here : has_from m queue ≡ true = sym (has_from-without_from_other m timer queue other) ∙ has in
          let unlike : (timer == m) ≡ false = ne_eqb timer m (λ e. other (sym e)) in
          rw unlike at (listed m here)
    ])
    (λ m. let whole : count_from m queue ≤ 1 = once m in let less : count_from m (without_from timer queue) ≤ count_from m queue = count_from-without_from m timer queue in omega arith) in
    let one : count_from timer queue ≤ 1 = once timer in
    omega (arith, rest, one, timed_count-without_from timer queue)
