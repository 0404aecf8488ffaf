-- How states stand in slots by their hashes, and hashes part by part.
use Rattle.std.proofs.Common.{◌≡◌, ℕ, List, [], ◌∷◌, Option, Some, Bool, true, false, eqb, sym, ◌∙◌, Contains, suc, ◌+◌, ap, arith, None, ◌≢◌, ◌<◌, ◌≤◌, zero, ◌-◌, ◌%◌, ◌++◌, length, refl, subst, set, get_or, take, drop, replicate, inl, inr, ◌⊎◌}
use Rattle.std.proofs.lemmas.Option.{none-some}
use Rattle.std.specs.Option.{ForSome}
use Rattle.std.specs.Prelude.{slice_get, if◌then◌else◌, nat_lt}
use Rattle.nt_status.proofs.Lists.{contains_front, contains_later}
use Rattle.nt_waits.specs.Waits.{next_after}
use Rattle.nt_explore.specs.Hash.{folded, mixed_thread, mixed_queue}
use Rattle.std.proofs.lemmas.Bool.Decides.{nat_tests}
use Rattle.std.proofs.Math.Seq.{take-append_seam}
use Rattle.std.proofs.lemmas.List.{length-set, length_push, get_or-set_same, get_or-set_other, get_or_push, get_or_append_left}
use Rattle.nt_look.specs.Orders.{Plan, Point}
use Rattle.nt_explore.specs.declared.met.Visit.{Visit}
use Rattle.nt_explore.specs.Walk.{no_visit, hash_at, IsOther, IsFound, slot_from, slot_after, slot_at, NoneFree, StandsIn, PutsIn, used, AreInSlots, IsTable}
use Rattle.nt_explore.proofs.Losing.{below_or}
use Rattle.nt_explore.proofs.Walks.{behind_more}

-- either the first is looked for, and who stands next is the first of the rest, or it is as in the rest
next_or : (x : ℕ) (q : List ℕ) (u : ℕ) (b : Bool) (later : Option ℕ) → (later ≡ Some u → Contains q u) → (if b then slice_get q 0 else later) ≡ Some u → Contains (x ∷ q) u
next_or x q u true later rest is = contains_later x q u (contains_front q u is)
next_or x q u false later rest is = contains_later x q u (rest is)

after_stands : (q : List ℕ) (t u : ℕ) → next_after t q ≡ Some u → Contains q u
after_stands [] t u is = absurd (none-some u is)
after_stands (x ∷ q) t u is = next_or x q u (eqb x t) (next_after t q) (after_stands q t u) is

pub first_stands : (q : List ℕ) (first : Option ℕ) → first ≡ slice_get q 0 → ForSome first (λ t. Contains q t)
first_stands q first is = λ t there. contains_front q t (sym is ∙ there)

pub next_stands : (q : List ℕ) (t : ℕ) (next : Option ℕ) → next ≡ next_after t q → ForSome next (λ u. Contains q u)
next_stands q t next is = λ u there. after_stands q t u (sym is ∙ there)

-- the next position
pub folded_more : (step : ℕ → ℕ → ℕ) (hash n so_far next : ℕ) → so_far ≡ folded step hash n → next ≡ step so_far n → next ≡ folded step hash (n + 1)
folded_more step hash n so_far next is one =
    let more : suc n ≡ n + 1 = omega arith in
    one ∙ (ap (λ (h : ℕ). step h n) is ∙ ap (λ (k : ℕ). folded step hash k) more)

-- the last position
pub folded_all : (step : ℕ → ℕ → ℕ) (hash n count so_far : ℕ) → so_far ≡ folded step hash n → n ≡ count → so_far ≡ folded step hash count
folded_all step hash n count so_far is all = is ∙ ap (λ (k : ℕ). folded step hash k) all

-- one thread more of a queue
pub queue_on : (n m : ℕ) (queue : List ℕ) (hash t : ℕ) (next : Option ℕ) → n ≡ m + 1 → next ≡ Some t → mixed_queue n queue hash next ≡ mixed_queue m queue (mixed_thread hash (Some t)) (next_after t queue)
queue_on n m queue hash t next more is =
    let one : n ≡ suc m = omega (arith, more) in
    ap (λ (k : ℕ). mixed_queue k queue hash next) one ∙ ap (λ (o : Option ℕ). mixed_queue (suc m) queue hash o) is

-- its end
pub queue_end : (n m : ℕ) (queue : List ℕ) (hash : ℕ) (next : Option ℕ) → n ≡ m + 1 → next ≡ None → mixed_queue n queue hash next ≡ mixed_thread hash next
queue_end n m queue hash next more is =
    let one : n ≡ suc m = omega (arith, more) in
    ap (λ (k : ℕ). mixed_queue k queue hash next) one ∙ (ap (λ (o : Option ℕ). mixed_queue (suc m) queue hash o) is ∙ sym (ap (λ (o : Option ℕ). mixed_thread hash o) is))

-- no thread more is looked at
pub queue_over : (n : ℕ) (queue : List ℕ) (hash : ℕ) (next : Option ℕ) → n ≡ 0 → mixed_queue n queue hash next ≡ hash
queue_over n queue hash next none = ap (λ (k : ℕ). mixed_queue k queue hash next) none

-- ---- how many are used

used_more : (n : ℕ) (slots : List ℕ) → used slots ≤ used (n ∷ slots)
used_more zero slots = omega arith
used_more (suc n) slots = omega arith

used_one : (n : ℕ) (slots : List ℕ) → used (n ∷ slots) ≤ used slots + 1
used_one zero slots = omega arith
used_one (suc n) slots = omega arith

used_set : (slots : List ℕ) (s n : ℕ) → used (set slots s n) ≤ used slots + 1
used_set [] s n = omega arith
used_set (x ∷ slots) zero n = let a = used_one n slots in let b = used_more x slots in omega (arith, a, b)
used_set (zero ∷ slots) (suc s) n = used_set slots s n
used_set (suc x ∷ slots) (suc s) n = let rest = used_set slots s n in omega (arith, rest)

pub used_none : (n : ℕ) → used (replicate n 0) ≡ 0
used_none zero = refl
used_none (suc n) = used_none n

-- one is free where fewer are used than there are
has_free : (slots : List ℕ) → used slots < length slots → (s : ℕ) × (s < length slots) × (get_or slots s 0 ≡ 0)
has_free [] below = absurd (omega (arith, below))
has_free (zero ∷ slots) below = (0, omega arith, refl)
has_free (suc n ∷ slots) below =
    let it = has_free slots (omega (arith, below)) in
    let inside = it.1 in
    (suc it.0, omega (arith, inside), it.2)

-- ---- the slots from one on

pub from_low : (first step count : ℕ) → step < count - first → slot_from first step count ≡ first + step
from_low first step count low = go (nat_lt step (count - first)) refl
  where
    go : (b : Bool) → nat_lt step (count - first) ≡ b → (if b then first + step else step - (count - first)) ≡ first + step
    go true e = refl
    go false e = let past : count - first ≤ step = grind (arith, nat_tests, e) in absurd (omega (arith, past, low))

pub from_high : (first step count : ℕ) → count - first ≤ step → slot_from first step count ≡ step - (count - first)
from_high first step count high = go (nat_lt step (count - first)) refl
  where
    go : (b : Bool) → nat_lt step (count - first) ≡ b → (if b then first + step else step - (count - first)) ≡ step - (count - first)
    go true e = let less : step < count - first = grind (arith, nat_tests, e) in absurd (omega (arith, less, high))
    go false e = refl

within : (first step count : ℕ) → first < count → step < count → slot_from first step count < count
within first step count start below = go (nat_lt step (count - first)) refl
  where
    go : (b : Bool) → nat_lt step (count - first) ≡ b → slot_from first step count < count
    go true e =
        let less : step < count - first = grind (arith, nat_tests, e) in
        let is = from_low first step count less in omega (arith, is, less)
    go false e =
        let past : count - first ≤ step = grind (arith, nat_tests, e) in
        let is = from_high first step count past in omega (arith, is, below, start)

-- each slot is reached
reaches : (first s count : ℕ) → first < count → s < count → (step : ℕ) × (step < count) × (slot_from first step count ≡ s)
reaches first s count start below = go (nat_lt s first) refl
  where
    go : (b : Bool) → nat_lt s first ≡ b → (step : ℕ) × (step < count) × (slot_from first step count ≡ s)
    go true e =
        let less : s < first = grind (arith, nat_tests, e) in
        let is = from_high first (s + (count - first)) count (omega arith) in
        (s + (count - first), omega (arith, less, start), omega (arith, is))
    go false e =
        let past : first ≤ s = grind (arith, nat_tests, e) in
        let is = from_low first (s - first) count (omega (arith, past, below, start)) in
        (s - first, omega (arith, below), omega (arith, is, past))

own_slot : (hash count : ℕ) → 0 < count → hash % count < count
own_slot hash count some = omega (arith, some)

-- so one is found as long as one is free
pub finds_free : (slots : List ℕ) (hash step : ℕ) → used slots < length slots → length slots ≤ step → NoneFree slots (length slots) hash step → ⊥
finds_free slots hash step room all none =
    let free = has_free slots room in
    let inside = free.1 in
    let it = reaches (hash % length slots) free.0 (length slots) (own_slot hash (length slots) (omega (arith, inside))) free.1 in
    let before = it.1 in
    none it.0 (omega (arith, before, all)) (ap (λ (s : ℕ). get_or slots s 0) it.2 ∙ free.2)

-- ---- what stands there after a number is put

kept_slot : (old : List ℕ) (at number x : ℕ) → get_or old at 0 ≡ 0 → get_or old x 0 ≢ 0 → get_or (set old at number) x 0 ≡ get_or old x 0
kept_slot old at number x free some = get_or-set_other old at x number 0 (λ e. some (ap (λ (k : ℕ). get_or old k 0) e ∙ free))

none_free : (old : List ℕ) (at number count hash step : ℕ) → get_or old at 0 ≡ 0 → NoneFree old count hash step → NoneFree (set old at number) count hash step
none_free old at number count hash step free none k below is =
    let x = slot_after hash k count in
    none k below (sym (kept_slot old at number x free (none k below)) ∙ is)

stands_on : (old : List ℕ) (at number count hash n : ℕ) → get_or old at 0 ≡ 0 → StandsIn old count hash (n + 1) → StandsIn (set old at number) count hash (n + 1)
stands_on old at number count hash n free it = (
  it.0,
  it.1,
  kept_slot old at number (slot_after hash it.0 count) free (λ none. let is = it.2 in omega (arith, is, none)) ∙ it.2,
  none_free old at number count hash it.0 free it.3,
)

pub puts_length : (old new : List ℕ) (hash number : ℕ) → PutsIn old new (length old) hash number → length new ≡ length old
puts_length old new hash number puts = ap (λ (ns : List ℕ). length ns) puts.4 ∙ length-set old (slot_after hash puts.0 (length old)) number

pub puts_used : (old new : List ℕ) (hash number : ℕ) → PutsIn old new (length old) hash number → used new ≤ used old + 1
puts_used old new hash number puts = subst (λ (ns : List ℕ). used ns ≤ used old + 1) (sym puts.4) (used_set old (slot_after hash puts.0 (length old)) number)

stands_still : (old new : List ℕ) (hash number h n : ℕ) → PutsIn old new (length old) hash number → StandsIn old (length old) h (n + 1) → StandsIn new (length new) h (n + 1)
stands_still old new hash number h n puts it =
    subst (λ (k : ℕ). StandsIn new k h (n + 1)) (sym (puts_length old new hash number puts))
    (subst (λ (ns : List ℕ). StandsIn ns (length old) h (n + 1)) (sym puts.4) (stands_on old (slot_after hash puts.0 (length old)) number (length old) h n puts.2 it))

stands_now : (old new : List ℕ) (hash number : ℕ) → PutsIn old new (length old) hash number → StandsIn new (length new) hash number
stands_now old new hash number puts =
    let at = slot_after hash puts.0 (length old) in
    let below = puts.1 in
    let inside : at < length old = within (hash % length old) puts.0 (length old) (own_slot hash (length old) (omega (arith, below))) puts.1 in
    let here : StandsIn (set old at number) (length old) hash number = (
      puts.0,
      puts.1,
      get_or-set_same old at number 0 inside,
      none_free old at number (length old) hash puts.0 puts.2 puts.3,
    ) in
    subst (λ (k : ℕ). StandsIn new k hash number) (sym (puts_length old new hash number puts)) (subst (λ (ns : List ℕ). StandsIn ns (length old) hash number) (sym puts.4) here)

-- a vector, as a slice of it was left
pub written : (len : ℕ) (old new : List ℕ) → length new ≡ length old → len ≡ length old → take len (new ++ drop (length new) old) ≡ new
written len old new same is = ap (λ (k : ℕ). take k (new ++ drop (length new) old)) (is ∙ sym same) ∙ take-append_seam new (drop (length new) old)

-- ---- one state more

pub in_slots_none : (visits : List Visit) (slots : List ℕ) → AreInSlots visits 0 slots
in_slots_none visits slots i some below = absurd (omega (arith, below))

pub in_slots_more : (visits : List Visit) (n : ℕ) (old new : List ℕ) → AreInSlots visits n old → PutsIn old new (length old) (hash_at visits n) (n + 1) → AreInSlots visits (n + 1) new
in_slots_more visits n old new so puts i some below = go (below_or i n below)
  where
    go : (i < n) ⊎ (i ≡ n) → StandsIn new (length new) (hash_at visits i) (i + 1)
    go (inl before) = stands_still old new (hash_at visits n) (n + 1) (hash_at visits i) i puts (so i some before)
    go (inr last) = subst (λ (k : ℕ). StandsIn new (length new) (hash_at visits k) (k + 1)) (sym last) (stands_now old new (hash_at visits n) (n + 1) puts)

pub table_more : (visits : List Visit) (e : Visit) (old new : List ℕ) → e.parent < length visits → IsTable visits old → PutsIn old new (length old) e.hash (length visits + 1) → IsTable (visits ++ e ∷ []) new
table_more visits e old new before so puts =
    let count = length_push visits e in
    let more = puts_used old new e.hash (length visits + 1) puts in
    let few = so.few in
    let last : hash_at (visits ++ e ∷ []) (length visits) ≡ e.hash = ap (λ (x : Visit). x.hash) (get_or_push visits e no_visit (length visits) refl) in
    record {
      behind = behind_more visits e before so.behind;
      stands = subst (λ (n : ℕ). AreInSlots (visits ++ e ∷ []) n new) (sym count) (in_slots_more (visits ++ e ∷ []) (length visits) old new
          (λ i some below. subst (λ (h : ℕ). StandsIn old (length old) h (i + 1)) (sym (ap (λ (x : Visit). x.hash) (get_or_append_left visits (e ∷ []) no_visit i below))) (so.stands i some below))
          (subst (λ (h : ℕ). PutsIn old new (length old) h (length visits + 1)) (sym last) puts));
      few = omega (arith, count, more, few);
    }

pub table_one : (e : Visit) → IsTable (e ∷ []) []
table_one e = record {
  behind = λ i some below. absurd (omega (arith, some, below));
  stands = λ i some below. absurd (omega (arith, some, below));
  few = omega arith;
}

-- ---- what is looked for

-- what stands before this step is no state like the position
abbrev pub LooksPast : Plan → Point → List Visit → List ℕ → ℕ → Point → ℕ → Type 0
LooksPast plan start visits slots hash p step =
    (k : ℕ) → k < step → (slot_at slots (length slots) hash k ≢ 0) × IsOther plan start visits hash p (slot_at slots (length slots) hash k - 1)

pub past_more : (plan : Plan) (start : Point) (visits : List Visit) (slots : List ℕ) (hash : ℕ) (p : Point) (step : ℕ) → LooksPast plan start visits slots hash p step → slot_at slots (length slots) hash step ≢ 0 → IsOther plan start visits hash p (slot_at slots (length slots) hash step - 1) → LooksPast plan start visits slots hash p (step + 1)
past_more plan start visits slots hash p step so some other k below = go (below_or k step below)
  where
    go : (k < step) ⊎ (k ≡ step) → (slot_at slots (length slots) hash k ≢ 0) × IsOther plan start visits hash p (slot_at slots (length slots) hash k - 1)
    go (inl before) = so k before
    go (inr last) = subst (λ (j : ℕ). (slot_at slots (length slots) hash j ≢ 0) × IsOther plan start visits hash p (slot_at slots (length slots) hash j - 1)) (sym last) (some, other)

-- where a slot is free, or all were looked at, none is like it
pub never_found : (plan : Plan) (start : Point) (visits : List Visit) (slots : List ℕ) (hash : ℕ) (p : Point) (step : ℕ) → AreInSlots visits (length visits) slots → LooksPast plan start visits slots hash p step → (slot_at slots (length slots) hash step ≡ 0) ⊎ (length slots ≤ step) → IsFound plan start visits hash p None
never_found plan start visits slots hash p step stands past ends i some below same point walk is = go (nat_lt it.0 step) refl ends
  where
    it : StandsIn slots (length slots) hash (i + 1)
    it = subst (λ (h : ℕ). StandsIn slots (length slots) h (i + 1)) same (stands i some below)

    here : slot_at slots (length slots) hash step ≡ 0 → (step < it.0) ⊎ (step ≡ it.0) → ⊥
    here free (inl later) = it.3 step later free
    here free (inr now) =
        let number = it.2 in
        let read = ap (λ (k : ℕ). slot_at slots (length slots) hash k) now in
        omega (arith, number, read, free)

    go : (b : Bool) → nat_lt it.0 step ≡ b → (slot_at slots (length slots) hash step ≡ 0) ⊎ (length slots ≤ step) → ⊥
    go true e end =
        let before : it.0 < step = grind (arith, nat_tests, e) in
        let number = it.2 in
        let one : slot_at slots (length slots) hash it.0 - 1 ≡ i = omega (arith, number) in
        let other = subst (λ (k : ℕ). IsOther plan start visits hash p k) one (past it.0 before).1 in
        other below same point walk is
    go false e (inl free) = here free (below_or step it.0 (let after : step ≤ it.0 = grind (arith, nat_tests, e) in omega (arith, after)))
    go false e (inr all) =
        let after : step ≤ it.0 = grind (arith, nat_tests, e) in
        let inside = it.1 in omega (arith, after, inside, all)
