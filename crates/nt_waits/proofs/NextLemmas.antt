-- The link after the one of a thread.
use Rattle.std.proofs.Common.{◌≡◌, ◌≢◌, ◌<◌, ℕ, zero, suc, ltb, List, [], ◌∷◌, length, get_or, Option, Some, None, Bool, true, false, eqb, refl, sym, ap, ◌∙◌, inl, inr, subst, arith, Contains, nat_eq}
use Rattle.std.specs.List.{position, position_or_len, IsDistinct}
use Rattle.std.proofs.lemmas.List.Quantifiers.{position-Some}
use Rattle.std.proofs.lemmas.Bool.Decides.{nat_tests}
use Rattle.std.proofs.lemmas.Map.Keys.{IsDistinct-tail}
use Rattle.nt_status.proofs.Lists.{distinct_first}
use Rattle.nt_waits.specs.declared.pending.Pending.{Pending}
use Rattle.nt_waits.specs.Link.{Link, AreNumbersOnce, thread_after}
use Rattle.nt_waits.specs.Queues.{Lists, list_at}
use Rattle.nt_waits.specs.Table.{HasLink, threads, slot_at, IsLinked, IsTable}
use Rattle.nt_waits.specs.Waits.{Names, next_after}
use Rattle.nt_waits.proofs.ChainLemmas.{same_test, other_test}
use Rattle.nt_waits.proofs.ViewLemmas.{first_thread-threads}
use Rattle.nt_waits.proofs.TableLemmas.{HasNumber-link, Contains-link, link_of_member}

-- who stands in a queue has a wait that names its object
pub waiter : (queues : Lists) (slots : List (Option Pending)) (object t : ℕ) → IsTable queues slots → Contains (threads (list_at queues object)) t → (p : Pending) × (slot_at slots t ≡ Some p) × Names p.wait object
waiter queues slots object t table member =
    let found = link_of_member (list_at queues object) t member in
    let own = table.owned object found.0 found.1 in
    (own.0, ap (λ u. slot_at slots u) (sym found.2) ∙ own.1, own.2)

pub next_after-threads : (ls : List Link) (number thread : ℕ) → HasLink ls (record { number = number; thread = thread }) → AreNumbersOnce ls → IsDistinct nat_eq (threads ls) → thread_after ls number ≡ next_after thread (threads ls)
next_after-threads [] number thread has distinct once = absurd has
next_after-threads (first ∷ ls) number thread (inl here) distinct once =
    rw (same_test _ _ (ap (λ l. l.number) here), same_test _ _ (ap (λ l. l.thread) here)) (first_thread-threads ls)
next_after-threads (first ∷ ls) number thread (inr later) distinct once =
    let number' : first.number ≢ number = λ e. distinct.0 (rw e (HasNumber-link ls _ later)) in
    let thread' : first.thread ≢ thread = λ e. distinct_first first.thread (threads ls) once (rw e (Contains-link ls _ later)) in
    rw (other_test _ _ number', other_test _ _ thread') (next_after-threads ls number thread later distinct.1 (IsDistinct-tail nat_eq first.thread (threads ls) once))

-- where one passes there is a first
first_within : (test : ℕ → Bool) (xs : List ℕ) (j : ℕ) → j < length xs → test (get_or xs j 0) ≡ true → position_or_len test xs < length xs
first_within test [] j below passes = absurd (omega arith)
first_within test (x ∷ xs) zero below passes = rw passes (omega arith)
first_within test (x ∷ xs) (suc j) below passes = go (first_within test xs j (omega arith) passes) (test x) refl
  where
    go : position_or_len test xs < length xs → (b : Bool) → test x ≡ b → position_or_len test (x ∷ xs) < suc (length xs)
    go rest true e = rw e (omega arith)
    go rest false e = rw e (omega (arith, rest))

pub position-there : (test : ℕ → Bool) (xs : List ℕ) (j : ℕ) → j < length xs → test (get_or xs j 0) ≡ true → position test xs ≡ None → ⊥
position-there test xs j below passes none =
    let lt : ltb (position_or_len test xs) (length xs) ≡ true = let within = first_within test xs j below passes in grind (arith, nat_tests) in
    let h : Some (position_or_len test xs) ≡ None = rw lt at none in
    (cc)

-- at the place of the object stands the number of the thread's link
pub link_at : (queues : Lists) (t object i : ℕ) (p : Pending) → IsLinked queues t p → position (λ named. eqb named object) p.wait.objects ≡ Some i → (i < length p.numbers.items) × HasLink (list_at queues object) (record { number = get_or p.numbers.items i 0; thread = t })
link_at queues t object i p linked found =
    let at = position-Some (λ named. eqb named object) p.wait.objects i 0 found in
    let named : get_or p.wait.objects i 0 ≡ object = let passes = at.1 in grind (arith, nat_tests, passes) in
    (omega (arith, at.0, linked.same_length), subst (λ h. HasLink (list_at queues h) (record { number = get_or p.numbers.items i 0; thread = t })) named (linked.linked i at.0))
