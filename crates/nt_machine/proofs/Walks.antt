-- Visits one after another.
use Rattle.std.proofs.Common.{◌≡◌, ◌≢◌, ℕ, suc, ◌+◌, ◌≤◌, Bool, true, false, eqb, List, [], ◌∷◌, ◌++◌, length, length-append, append_assoc, refl, sym, ap, ◌∙◌, subst, arith, Option, Some, None, is_some, inl, inr, Contains, nat_eq}
use Rattle.std.specs.List.{find, filter, IsDistinct}
use Rattle.std.specs.Prelude.{slice_get}
use Rattle.std.specs.Ordering.{nat_cmp, eq_by_cmp}
use Rattle.std.specs.Cmp.{unsigned_tied, nat_cmp_total}
use Rattle.std.specs.FinMap as map
use Rattle.std.proofs.lemmas.Bool.{cases_eq}
use Rattle.std.proofs.lemmas.List.{append-nil}
use Rattle.std.proofs.lemmas.Bool.Decides.{nat_tests}
use Rattle.std.proofs.lemmas.List.Elements.{Contains-append_right}
use Rattle.std.proofs.lemmas.Map.Keys.{IsDistinct-tail}
use Rattle.nt_status.proofs.Lists.{contains_first, contains_later, distinct_first}
use Rattle.nt_waits.specs.declared.wait.Wait.{Wait}
use Rattle.nt_waits.specs.Waits.{others, next_after, Agrees}
use Rattle.nt_waits.proofs.OthersLemmas.{others_absent}
use Rattle.nt_calls.specs.declared.call.Grant.{Grant}
use Rattle.nt_calls.specs.State.{State, Pending, pends}
use Rattle.nt_machine.specs.Dispatcher.{Dispatcher, state}
use Rattle.nt_calls.specs.Serving.{is_due, IsDue, satisfied, wait_granted, grant_of, Grants, IsServed, Serve}
use Rattle.nt_machine.specs.Visits.{IsVisited, Visits, FitOnlyIn}
use Rattle.nt_machine.specs.Lawful.{IsMachineSound}
use Rattle.nt_machine.proofs.Taking.{undue_granted, idle_granted, undue_idle}
use Rattle.nt_machine.proofs.Orders.{find_before, find_after, find_none_kept, find_none_member, find-filter, filter-filter, filter_whole, length-filter-le}

-- ---- grants by a sequence

pub Grants-undue : (threads : List ℕ) (s new : State) (gs : List Grant) (u : ℕ) → Grants threads s gs new → is_due s u ≡ false → is_due new u ≡ false
Grants-undue threads s new [] u is e = subst (λ (x : State). is_due x u ≡ false) (sym is) e
Grants-undue threads s new (g ∷ gs) u has e = Grants-undue threads (wait_granted s g.thread has.1) new gs u has.3 (undue_granted s g.thread has.1 u e)

pub Grants-idle : (threads : List ℕ) (s new : State) (gs : List Grant) (u : ℕ) → Grants threads s gs new → pends s u ≡ false → pends new u ≡ false
Grants-idle threads s new [] u is e = subst (λ (x : State). pends x u ≡ false) (sym is) e
Grants-idle threads s new (g ∷ gs) u has e = Grants-idle threads (wait_granted s g.thread has.1) new gs u has.3 (idle_granted s g.thread has.1 u e)

-- more threads may follow
pub Grants-before : (xs ys : List ℕ) (s new : State) (gs : List Grant) → Grants xs s gs new → Grants (xs ++ ys) s gs new
Grants-before xs ys s new [] is = is
Grants-before xs ys s new (g ∷ gs) has =
    (find_before (is_due s) xs ys g.thread has.0, has.1, has.2, Grants-before xs ys (wait_granted s g.thread has.1) new gs has.3)

-- threads of which none is due may stand before, and others that are not due between
pub Grants-after : (xs ys : List ℕ) (r : ℕ → Bool) (s new : State) (gs : List Grant) → find (is_due s) xs ≡ None → ((u : ℕ) → r u ≡ false → is_due s u ≡ false) → Grants (filter r ys) s gs new → Grants (xs ++ ys) s gs new
Grants-after xs ys r s new [] over only is = is
Grants-after xs ys r s new (g ∷ gs) over only has =
    let after = undue_granted s g.thread has.1 in (
      find_after (is_due s) xs ys over ∙ (sym (find-filter (is_due s) r only ys) ∙ has.0),
      has.1,
      has.2,
      Grants-after xs ys r (wait_granted s g.thread has.1) new gs (find_none_kept (is_due s) (is_due (wait_granted s g.thread has.1)) after xs over) (λ u e. after u (only u e)) has.3,
    )

pub Grants-append : (threads : List ℕ) (s mid new : State) (gs hs : List Grant) → Grants threads s gs mid → Grants threads mid hs new → Grants threads s (gs ++ hs) new
Grants-append threads s mid new [] hs is more = subst (λ (x : State). Grants threads x hs new) is more
Grants-append threads s mid new (g ∷ gs) hs has more = (has.0, has.1, has.2, Grants-append threads (wait_granted s g.thread has.1) mid new gs hs has.3 more)

-- ---- visits: the one lemma by which walks are put together

-- visits to what is left of further threads go on with the walk
pub Visits-then : (xs ys : List ℕ) (old mid new : Dispatcher) → Visits xs old mid → Visits (filter (pends (state mid)) ys) mid new → Visits (xs ++ ys) old new
Visits-then xs ys old mid new a b =
    let undue = λ (u : ℕ). Grants-undue (filter (pends (state mid)) ys) (state mid) (state new) b.ended u b.granted in
    let idle = λ (u : ℕ). Grants-idle (filter (pends (state mid)) ys) (state mid) (state new) b.ended u b.granted in
    let fewer : length (filter (pends (state mid)) ys) ≤ length ys = length-filter-le (pends (state mid)) ys in
    let none : find (is_due (state new)) (filter (pends (state mid)) ys) ≡ find (is_due (state new)) ys =
    find-filter (is_due (state new)) (pends (state mid)) (λ u e. undue u (undue_idle (state mid) u e)) ys in
    record {
      ended = a.ended ++ b.ended;
      grants = b.grants ∙ (ap (λ gs. gs ++ b.ended) a.grants ∙ append_assoc old.grants a.ended b.ended);
      granted = Grants-append (xs ++ ys) (state old) (state mid) (state new) a.ended b.ended
          (Grants-before xs ys (state old) (state mid) a.ended a.granted)
          (Grants-after xs ys (pends (state mid)) (state mid) (state new) b.ended a.over (undue_idle (state mid)) b.granted);
      over = find_after (is_due (state new)) xs ys (find_none_kept (is_due (state mid)) (is_due (state new)) undue xs a.over) ∙ (sym none ∙ b.over);
      queues = λ h. b.queues h ∙ (ap (λ q. filter (pends (state new)) q) (a.queues h) ∙ filter-filter (pends (state new)) (pends (state mid)) idle ((state old).queues h));
      most = let longer = length-append xs ys in omega (arith, a.most, b.most, fewer, longer);
      least = let longer = length-append a.ended b.ended in omega (arith, a.least, b.least, longer);
      marked = b.marked ∙ a.marked;
    }

-- ---- the map and the queues after one grant

pub tied : (a b : ℕ) → a ≡ b → eq_by_cmp nat_cmp a b ≡ true
tied a b e = unsigned_tied a b ∙ (grind (arith, nat_tests, e))

pub apart : (a b : ℕ) → a ≢ b → eq_by_cmp nat_cmp a b ≡ false
apart a b e = unsigned_tied a b ∙ (grind (arith, nat_tests, e))

pub get_same : (m : Pending) (t : ℕ) → map.get (map.remove m t) t ≡ None
get_same m t = map.get-remove nat_cmp_total m t t ∙ rw (tied t t refl) refl

pub get_other : (m : Pending) (t u : ℕ) → u ≢ t → map.get (map.remove m t) u ≡ map.get m u
get_other m t u differs = map.get-remove nat_cmp_total m t u ∙ rw (apart u t differs) refl

pub get_removed : (m : Pending) (t u : ℕ) (v : Wait) → map.get (map.remove m t) u ≡ Some v → (u ≢ t) × (map.get m u ≡ Some v)
get_removed m t u v e = elim (cases_eq u t) [
  | inl same ↦ let h : None ≡ Some v = sym (get_same m t) ∙ (ap (λ x. map.get (map.remove m t) x) (sym same) ∙ e) in (cc)
  | inr differs ↦ (differs, sym (get_other m t u differs) ∙ e)
]

eqb_same : (a b : ℕ) → a ≡ b → eqb a b ≡ true
eqb_same a b e = grind (arith, nat_tests, e)

eqb_other : (a b : ℕ) → a ≢ b → eqb a b ≡ false
eqb_other a b e = grind (arith, nat_tests, e)

-- the others are those that still pend
pub others_pend : (s : State) (t : ℕ) (w : Wait) (q : List ℕ) → ((u : ℕ) → Contains q u → pends s u ≡ true) → others t q ≡ filter (pends (wait_granted s t w)) q
others_pend s t w [] all = refl
others_pend s t w (x ∷ q) all = elim (cases_eq x t) [
  | inl same ↦ rw (eqb_same x t same, ap is_some (ap (λ y. map.get (map.remove s.waits t) y) same ∙ get_same s.waits t)) (others_pend s t w q (λ u m. all u (contains_later x q u m)))
  | inr differs ↦ rw (eqb_other x t differs, ap is_some (get_other s.waits t x differs), all x (contains_first x q x refl)) (ap (λ ys. x ∷ ys) (others_pend s t w q (λ u m. all u (contains_later x q u m))))
]

-- ---- one visit

-- who stands in a queue pends
pub waiters_pend : (d : Dispatcher) (h u : ℕ) → Agrees d.table.pending d.table.queues → Contains ((state d).queues h) u → pends (state d) u ≡ true
waiters_pend d h u blocks member = let own = blocks.named u h member in ap is_some own.1

-- no visit at all
pub Visits-none : (d : Dispatcher) → Agrees d.table.pending d.table.queues → Visits [] d d
Visits-none d blocks = record {
  ended = [];
  grants = sym (append-nil d.grants);
  granted = refl;
  over = refl;
  queues = λ h. sym (filter_whole (pends (state d)) ((state d).queues h) (λ u m. waiters_pend d h u blocks m));
  most = omega arith;
  least = omega arith;
  marked = refl;
}

due_is : (s : State) (g : Grant) (w : Wait) → IsDue s g w → is_due s g.thread ≡ true
due_is s g w due = ap (λ o. satisfied s.objects g.thread o) due.pends ∙ due.fits

-- a granted thread is not due
undue_after : (s : State) (t : ℕ) (w : Wait) → is_due (wait_granted s t w) t ≡ false
undue_after s t w = undue_idle (wait_granted s t w) t (ap is_some (get_same s.waits t))

pub visited : (old new : Dispatcher) (t : ℕ) → Agrees old.table.pending old.table.queues → IsVisited old new t → Visits (t ∷ []) old new
visited old new t blocks (inl g) =
    let due : is_due (state old) t ≡ true = due_is (state old) (grant_of (state old) t g.wait) g.wait g.due in
    record {
      ended = grant_of (state old) t g.wait ∷ [];
      grants = g.grants;
      granted = (rw due refl, g.wait, g.due, g.becomes);
      over = subst (λ (s : State). find (is_due s) (t ∷ []) ≡ None) (sym g.becomes) (rw (undue_after (state old) t g.wait) refl);
      queues = λ h. ap (λ (s : State). s.queues h) g.becomes ∙ (others_pend (state old) t g.wait ((state old).queues h) (λ u m. waiters_pend old h u blocks m) ∙ ap (λ (s : State). filter (pends s) ((state old).queues h)) (sym g.becomes));
      most = omega (arith, g.looked);
      least = omega (arith, g.looked);
      marked = g.marked;
    }
visited old new t blocks (inr p) =
    record {
      ended = [];
      grants = p.grants ∙ sym (append-nil old.grants);
      granted = p.stays;
      over = subst (λ (s : State). find (is_due s) (t ∷ []) ≡ None) (sym p.stays) (rw p.unfit refl);
      queues = λ h. ap (λ (s : State). s.queues h) p.stays ∙ (sym (filter_whole (pends (state old)) ((state old).queues h) (λ u m. waiters_pend old h u blocks m)) ∙ ap (λ (s : State). filter (pends s) ((state old).queues h)) (sym p.stays));
      most = omega (arith, p.looked);
      least = omega (arith, p.looked);
      marked = p.marked;
    }

-- ---- the walk over one queue

rest_of : (rest : List ℕ) (t : ℕ) → Some t ≡ slice_get rest 0 → (more : List ℕ) × (rest ≡ t ∷ more)
rest_of [] t e = let h : Some t ≡ None = e in (cc)
rest_of (x ∷ more) t e = let h : Some t ≡ Some x = e in let same : x ≡ t = (cc) in (more, ap (λ y. y ∷ more) same)

no_rest : (rest : List ℕ) → None ≡ slice_get rest 0 → rest ≡ []
no_rest [] e = refl
no_rest (x ∷ more) e = let h : None ≡ Some x = e in (cc)

others_split : (kept rest : List ℕ) (t : ℕ) → IsDistinct nat_eq (kept ++ t ∷ rest) → others t (kept ++ t ∷ rest) ≡ kept ++ rest
others_split [] rest t once = rw (eqb_same t t refl) (others_absent t rest (distinct_first t rest once))
others_split (x ∷ kept) rest t once =
    let differs : x ≢ t = λ e. distinct_first x (kept ++ t ∷ rest) once (subst (λ y. Contains (kept ++ t ∷ rest) y) (sym e) (Contains-append_right kept (t ∷ rest) t (contains_first t rest t refl))) in
    rw (eqb_other x t differs) (ap (λ ys. x ∷ ys) (others_split kept rest t (IsDistinct-tail nat_eq x (kept ++ t ∷ rest) once)))

next_split : (kept rest : List ℕ) (t : ℕ) → IsDistinct nat_eq (kept ++ t ∷ rest) → next_after t (kept ++ t ∷ rest) ≡ slice_get rest 0
next_split [] rest t once = rw (eqb_same t t refl) refl
next_split (x ∷ kept) rest t once =
    let differs : x ≢ t = λ e. distinct_first x (kept ++ t ∷ rest) once (subst (λ y. Contains (kept ++ t ∷ rest) y) (sym e) (Contains-append_right kept (t ∷ rest) t (contains_first t rest t refl))) in
    rw (eqb_other x t differs) (next_split kept rest t (IsDistinct-tail nat_eq x (kept ++ t ∷ rest) once))

-- the walk over the queue of h that began at `old` has visited some threads, and comes to `at` next
pub record IsAt (h : ℕ) (old now : Dispatcher) (at : Option ℕ) : Type 0 where
  pub passed : List ℕ
  pub rest : List ℕ
  -- those of the visited that still wait
  pub kept : List ℕ
  pub split : (state old).queues h ≡ passed ++ rest
  pub left : (state now).queues h ≡ kept ++ rest
  pub next : at ≡ slice_get rest 0
  pub visits : Visits passed old now
  pub sound : IsMachineSound now

pub at_first : (h : ℕ) (d : Dispatcher) (at : Option ℕ) → IsMachineSound d → at ≡ slice_get ((state d).queues h) 0 → IsAt h d d at
at_first h d at sound is = record {
  passed = [];
  rest = (state d).queues h;
  kept = [];
  split = refl;
  left = refl;
  next = is;
  visits = Visits-none d sound.blocks;
  sound = sound;
}

pub at_end : (h : ℕ) (old now : Dispatcher) → IsAt h old now None → Visits ((state old).queues h) old now
at_end h old now a =
    let all : a.passed ≡ (state old).queues h = sym (a.split ∙ (ap (λ r. a.passed ++ r) (no_rest a.rest a.next) ∙ append-nil a.passed)) in
    subst (λ (q : List ℕ). Visits q old now) all a.visits

pub at_member : (h : ℕ) (old now : Dispatcher) (t : ℕ) → IsAt h old now (Some t) → Contains ((state now).queues h) t
at_member h old now t a =
    let more = rest_of a.rest t a.next in
    subst (λ (q : List ℕ). Contains q t) (sym (a.left ∙ ap (λ r. a.kept ++ r) more.1)) (Contains-append_right a.kept (t ∷ more.0) t (contains_first t more.0 t refl))

-- one look at least is left
pub at_countable : (h : ℕ) (old now : Dispatcher) (t : ℕ) → IsAt h old now (Some t) → now.table.looked + 1 ≤ old.table.looked + length ((state old).queues h)
at_countable h old now t a =
    let more = rest_of a.rest t a.next in
    let longer : length ((state old).queues h) ≡ length a.passed + suc (length more.0) =
    ap (λ q. length q) (a.split ∙ ap (λ r. a.passed ++ r) more.1) ∙ length-append a.passed (t ∷ more.0) in
    let most = a.visits.most in
    omega arith

pub at_next : (h : ℕ) (old mid new : Dispatcher) (t : ℕ) (at : Option ℕ) → IsAt h old mid (Some t) → IsVisited mid new t → IsMachineSound new → at ≡ next_after t ((state mid).queues h) → IsAt h old new at
at_next h old mid new t at a visit sound is =
    let more = rest_of a.rest t a.next in
    let here : (state mid).queues h ≡ a.kept ++ t ∷ more.0 = a.left ∙ ap (λ r. a.kept ++ r) more.1 in
    let once = subst (IsDistinct nat_eq) here (a.sound.blocks.once h) in
    let pending : pends (state mid) t ≡ true = waiters_pend mid h t a.sound.blocks (at_member h old mid t a) in
    let one : filter (pends (state mid)) (t ∷ []) ≡ t ∷ [] = rw pending refl in
    let after = left_after a.kept more.0 visit here once in
    record {
      passed = a.passed ++ t ∷ [];
      rest = more.0;
      kept = after.0;
      split = a.split ∙ (ap (λ r. a.passed ++ r) more.1 ∙ sym (append_assoc a.passed (t ∷ []) more.0));
      left = after.1;
      next = is ∙ (ap (λ q. next_after t q) here ∙ next_split a.kept more.0 t once);
      visits = Visits-then a.passed (t ∷ []) old mid new a.visits (subst (λ (q : List ℕ). Visits q mid new) (sym one) (visited mid new t a.sound.blocks visit));
      sound = sound;
    }
  where
    left_after : (kept more : List ℕ) → IsVisited mid new t → (state mid).queues h ≡ kept ++ t ∷ more → IsDistinct nat_eq (kept ++ t ∷ more) → (kept' : List ℕ) × ((state new).queues h ≡ kept' ++ more)
    left_after kept more (inl g) here once = (kept, ap (λ (s : State). s.queues h) g.becomes ∙ (ap (λ q. others t q) here ∙ others_split kept more t once))
    left_after kept more (inr p) here once = (kept ++ t ∷ [], ap (λ (s : State). s.queues h) p.stays ∙ (here ∙ sym (append_assoc kept (t ∷ []) more)))

-- ---- all of it

-- where only waits of the sequence could fit, and none of them fits any more, none does
pub served : (threads : List ℕ) (old new : Dispatcher) → FitOnlyIn threads (state old) → Visits threads old new → IsServed (state new)
served threads old new local visits t = go (is_due (state old) t) refl
  where
    go : (b : Bool) → is_due (state old) t ≡ b → is_due (state new) t ≡ false
    go true e = find_none_member (is_due (state new)) threads t visits.over (local t e)
    go false e = Grants-undue threads (state old) (state new) visits.ended t visits.granted e

pub all_served : (threads : List ℕ) (old new : Dispatcher) → old.grants ≡ [] → FitOnlyIn threads (state old) → Visits threads old new → Serve threads (state old) new.grants (state new)
all_served threads old new first local visits =
    let same : new.grants ≡ visits.ended = visits.grants ∙ ap (λ gs. gs ++ visits.ended) first in
    (subst (λ (gs : List Grant). Grants threads (state old) gs (state new)) (sym same) visits.granted, served threads old new local visits)

pub looked_visited : (old new : Dispatcher) (t : ℕ) → IsVisited old new t → new.table.looked ≡ old.table.looked + 1
looked_visited old new t (inl g) = g.looked
looked_visited old new t (inr p) = p.looked
