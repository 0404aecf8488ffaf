-- What becomes of the spare numbers where handles are opened and closed, and objects come.
use Rattle.std.proofs.Common.{◌≡◌, ◌≢◌, ◌≤◌, ◌<◌, ℕ, zero, suc, ◌+◌, ◌==◌, Bool, true, false, not, ◌&&◌, List, [], ◌∷◌, ◌++◌, length, length-append, set, refl, sym, ap, ◌∙◌, arith, Option, Some, None, inl, inr}
use Rattle.std.specs.Prelude.{nat_lt, nat_le, is_none}
use Rattle.std.proofs.lemmas.Bool.{cases_eq}
use Rattle.std.proofs.lemmas.Bool.Decides.{nat_tests}
use Rattle.std.proofs.lemmas.List.{length-set, get_or-set_other, get_or-set_same}
use Rattle.nt_tables.specs.declared.handles.Opened.{Opened}
use Rattle.nt_tables.specs.Handles.{opened_at, count_named}
use Rattle.nt_tables.proofs.Counting.{weight, counted_again, counted_more, counted_less}
use Rattle.nt_calls.specs.State.{State}
use Rattle.nt_calls.specs.Living.{is_opened}
use Rattle.nt_core.specs.Renewals.{is_closed}
use Rattle.nt_life.specs.Lasting.{Spares, IsSpare, times, is_unnamed}
use Rattle.nt_life.proofs.Times.{same_weight, other_weight, times_end, bounded}

pub and_not : (b : Bool) → (b && false) ≡ false
and_not true = refl
and_not false = refl

pub weight_most : (b : Bool) → weight b ≤ 1
weight_most true = omega arith
weight_most false = omega arith

-- ---- which handles are closed

abbrev closed_in : List (Option Opened) → ℕ → Bool
closed_in hs h = nat_lt h (length hs) && is_none (opened_at hs h)

closed_elsewhere : (hs : List (Option Opened)) (h n : ℕ) (o : Option Opened) → n ≢ h → closed_in (set hs h o) n ≡ closed_in hs n
closed_elsewhere hs h n o differs =
    ap (λ k. nat_lt n k && is_none (opened_at (set hs h o) n)) (length-set hs h o)
    ∙ ap (λ x. nat_lt n (length hs) && is_none x) (get_or-set_other hs h n o None differs)

closed_here : (hs : List (Option Opened)) (h : ℕ) (o : Option Opened) → h < length hs → closed_in (set hs h o) h ≡ is_none o
closed_here hs h o there =
    let long = length-set hs h o in
    let below : h < length (set hs h o) = omega (arith, there, long) in
    let test : nat_lt h (length (set hs h o)) ≡ true = grind (arith, nat_tests, below) in
    ap (λ b. b && is_none (opened_at (set hs h o) h)) test ∙ ap (λ x. is_none x) (get_or-set_same hs h o None there)

opened_more : (hs : List (Option Opened)) (x : Option Opened) (n : ℕ) → n ≢ length hs → opened_at (hs ++ x ∷ []) n ≡ opened_at hs n
opened_more [] x zero differs = absurd (differs refl)
opened_more [] x (suc n) differs = refl
opened_more (y ∷ hs) x zero differs = refl
opened_more (y ∷ hs) x (suc n) differs = opened_more hs x n (λ same. differs (ap suc same))

opened_last : (hs : List (Option Opened)) (x : Option Opened) → opened_at (hs ++ x ∷ []) (length hs) ≡ x
opened_last [] x = refl
opened_last (y ∷ hs) x = opened_last hs x

pub below_more : (k n m : ℕ) → m ≡ n + 1 → k ≢ n → nat_lt k m ≡ nat_lt k n
below_more k n m more differs = go (nat_lt k n) refl
  where
    go : (b : Bool) → nat_lt k n ≡ b → nat_lt k m ≡ nat_lt k n
    go true e =
        let below : k < n = grind (arith, nat_tests, e) in
        let less : k < m = omega (arith, below, more) in
        let is : nat_lt k m ≡ true = grind (arith, nat_tests, less) in
        is ∙ sym e
    go false e =
        let above : n ≤ k = grind (arith, nat_tests, e) in
        let most : m ≤ k = omega (arith, above, more, differs) in
        let is : nat_lt k m ≡ false = grind (arith, nat_tests, most) in
        is ∙ sym e

none_below : (k n : ℕ) → k ≡ n → nat_lt k n ≡ false
none_below k n same = grind (arith, nat_tests, same)

pub closed_more : (hs : List (Option Opened)) (opened : Opened) (n : ℕ) → closed_in (hs ++ Some opened ∷ []) n ≡ closed_in hs n
closed_more hs opened n = elim (cases_eq n (length hs)) [
  | inl same ↦
      ap (λ (i : ℕ). nat_lt n (length (hs ++ Some opened ∷ [])) && is_none (opened_at (hs ++ Some opened ∷ []) i)) same
      ∙ (ap (λ o. nat_lt n (length (hs ++ Some opened ∷ [])) && is_none o) (opened_last hs (Some opened))
      ∙ (and_not (nat_lt n (length (hs ++ Some opened ∷ [])))
      ∙ sym (ap (λ b. b && is_none (opened_at hs n)) (none_below n (length hs) same))))
  | inr differs ↦
      ap (λ b. b && is_none (opened_at (hs ++ Some opened ∷ []) n)) (below_more n (length hs) (length (hs ++ Some opened ∷ [])) (length-append hs (Some opened ∷ [])) differs)
      ∙ ap (λ o. nat_lt n (length hs) && is_none o) (opened_more hs (Some opened) n differs)
]

-- ---- which objects no handle names

-- by whether a handle names it
pub unnamed_by : (s new : State) (o : ℕ) → new.threads ≡ s.threads → length new.objects ≡ length s.objects → is_opened new o ≡ is_opened s o → is_unnamed new o ≡ is_unnamed s o
unnamed_by s new o threads count named =
    ap (λ t. nat_le t o && (nat_lt o (length new.objects) && not (is_opened new o))) threads
    ∙ (ap (λ n. nat_le s.threads o && (nat_lt o n && not (is_opened new o))) count
    ∙ ap (λ b. nat_le s.threads o && (nat_lt o (length s.objects) && not b)) named)

pub named_not : (s : State) (o : ℕ) → is_opened s o ≡ true → is_unnamed s o ≡ false
named_not s o named =
    ap (λ b. nat_le s.threads o && (nat_lt o (length s.objects) && not b)) named
    ∙ (ap (λ b. nat_le s.threads o && b) (and_not (nat_lt o (length s.objects))) ∙ and_not (nat_le s.threads o))

pub some_named : (n : ℕ) → 0 < n → nat_lt 0 n ≡ true
some_named n some = grind (arith, nat_tests, some)

-- ---- a number is given again

-- the number of a closed handle is spare no longer once it is open
pub handles_given : (s new : State) (spare : Spares) (closed : List ℕ) (h : ℕ) (opened : Opened) → IsSpare s spare → h < length s.handles → opened_at s.handles h ≡ None → new.handles ≡ set s.handles h (Some opened) → ((n : ℕ) → times n closed + weight (h == n) ≡ times n spare.closed) → (n : ℕ) → times n closed ≡ weight (is_closed new n)
handles_given s new spare closed h opened is there was handles fewer n = elim (cases_eq n h) [
  | inl same ↦
      let now : weight (closed_in new.handles n) ≡ 0 = ap (λ hs. weight (closed_in hs n)) handles ∙ (ap (λ (i : ℕ). weight (closed_in (set s.handles h (Some opened)) i)) same ∙ ap weight (closed_here s.handles h (Some opened) there)) in
      let before : times n spare.closed ≡ weight (is_closed s n) = is.handles n in
      let most = weight_most (is_closed s n) in
      let one = same_weight h n (sym same) in
      let less = fewer n in
      omega (arith, now, before, most, one, less)
  | inr differs ↦
      let now : weight (closed_in new.handles n) ≡ weight (is_closed s n) = ap (λ hs. weight (closed_in hs n)) handles ∙ ap weight (closed_elsewhere s.handles h n (Some opened) differs) in
      let before : times n spare.closed ≡ weight (is_closed s n) = is.handles n in
      let none = other_weight h n (λ e. differs (sym e)) in
      let less = fewer n in
      omega (arith, now, before, none, less)
]

-- the object that it names is named from then on
pub objects_given : (s new : State) (spare : Spares) (unnamed : List ℕ) (h : ℕ) (opened : Opened) → IsSpare s spare → h < length s.handles → opened_at s.handles h ≡ None → new.handles ≡ set s.handles h (Some opened) → new.threads ≡ s.threads → length new.objects ≡ length s.objects → ((n : ℕ) → times n unnamed + weight (opened.object == n) ≡ times n spare.unnamed) → (n : ℕ) → times n unnamed ≡ weight (is_unnamed new n)
objects_given s new spare unnamed h opened is there was handles threads count fewer n = elim (cases_eq n opened.object) [
  | inl same ↦
      let one = same_weight opened.object n (sym same) in
      let more = named n in
      let now : weight (is_unnamed new n) ≡ 0 = ap weight (named_not new n (some_named (count_named new.handles n) (omega (arith, more, one)))) in
      let before : times n spare.unnamed ≡ weight (is_unnamed s n) = is.objects n in
      let most = weight_most (is_unnamed s n) in
      let less = fewer n in
      omega (arith, now, before, most, one, less)
  | inr differs ↦
      let none = other_weight opened.object n (λ e. differs (sym e)) in
      let more = named n in
      let as_often : count_named new.handles n ≡ count_named s.handles n = omega (arith, more, none) in
      let now : weight (is_unnamed new n) ≡ weight (is_unnamed s n) = ap weight (unnamed_by s new n threads count (ap (λ k. nat_lt 0 k) as_often)) in
      let before : times n spare.unnamed ≡ weight (is_unnamed s n) = is.objects n in
      let less = fewer n in
      omega (arith, now, before, none, less)
]
  where
    named : (k : ℕ) → count_named new.handles k ≡ count_named s.handles k + weight (opened.object == k)
    named k = ap (λ hs. count_named hs k) handles ∙ counted_again s.handles h opened k there was

-- where another handle named it before, no object is unnamed that was not
pub objects_shared : (s new : State) (spare : Spares) (opened : Opened) → IsSpare s spare → is_opened s opened.object ≡ true → ((k : ℕ) → count_named new.handles k ≡ count_named s.handles k + weight (opened.object == k)) → new.threads ≡ s.threads → length new.objects ≡ length s.objects → (n : ℕ) → times n spare.unnamed ≡ weight (is_unnamed new n)
objects_shared s new spare opened is source more threads count n = is.objects n ∙ sym (ap weight (unnamed_by s new n threads count (elim (cases_eq n opened.object) [
  | inl same ↦
      let was : is_opened s n ≡ true = ap (λ (k : ℕ). is_opened s k) same ∙ source in
      let some : 0 < count_named s.handles n = grind (arith, nat_tests, was) in
      let all = more n in
      some_named (count_named new.handles n) (omega (arith, some, all)) ∙ sym was
  | inr differs ↦
      let none = other_weight opened.object n (λ e. differs (sym e)) in
      let all = more n in
      let as_often : count_named new.handles n ≡ count_named s.handles n = omega (arith, all, none) in
      ap (λ k. nat_lt 0 k) as_often
])))

-- a thread's object is never among them
pub objects_begun : (s new : State) (spare : Spares) (opened : Opened) → IsSpare s spare → opened.object < s.threads → ((k : ℕ) → count_named new.handles k ≡ count_named s.handles k + weight (opened.object == k)) → new.threads ≡ s.threads → length new.objects ≡ length s.objects → (n : ℕ) → times n spare.unnamed ≡ weight (is_unnamed new n)
objects_begun s new spare opened is own more threads count n = is.objects n ∙ sym (ap weight (elim (cases_eq n opened.object) [
  | inl same ↦
      let below : nat_le s.threads n ≡ false = grind (arith, nat_tests, own, same) in
      ap (λ t. nat_le t n && (nat_lt n (length new.objects) && not (is_opened new n))) threads
      ∙ (ap (λ b. b && (nat_lt n (length new.objects) && not (is_opened new n))) below
      ∙ sym (ap (λ b. b && (nat_lt n (length s.objects) && not (is_opened s n))) below))
  | inr differs ↦
      let none = other_weight opened.object n (λ e. differs (sym e)) in
      let all = more n in
      let as_often : count_named new.handles n ≡ count_named s.handles n = omega (arith, all, none) in
      unnamed_by s new n threads count (ap (λ k. nat_lt 0 k) as_often)
]))

-- ---- the machine's own steps

-- one handle more, with a new number
pub handles_more : (s new : State) (spare : Spares) (opened : Opened) → IsSpare s spare → new.handles ≡ s.handles ++ Some opened ∷ [] → (n : ℕ) → times n spare.closed ≡ weight (is_closed new n)
handles_more s new spare opened is handles n = is.handles n ∙ sym (ap (λ hs. weight (closed_in hs n)) handles ∙ ap weight (closed_more s.handles opened n))

named_more : (s new : State) (opened : Opened) → new.handles ≡ s.handles ++ Some opened ∷ [] → (k : ℕ) → count_named new.handles k ≡ count_named s.handles k + weight (opened.object == k)
named_more s new opened handles k = ap (λ hs. count_named hs k) handles ∙ counted_more s.handles (Some opened) k

pub spare_duplicated : (s new : State) (spare : Spares) (opened : Opened) → IsSpare s spare → is_opened s opened.object ≡ true → new.handles ≡ s.handles ++ Some opened ∷ [] → new.threads ≡ s.threads → length new.objects ≡ length s.objects → IsSpare new spare
spare_duplicated s new spare opened is source handles threads count = record {
  handles = handles_more s new spare opened is handles;
  objects = objects_shared s new spare opened is source (named_more s new opened handles) threads count;
}

-- one object more, last, and its handle
pub spare_created : (s new : State) (spare : Spares) (opened : Opened) → IsSpare s spare → opened.object ≡ length s.objects → new.handles ≡ s.handles ++ Some opened ∷ [] → new.threads ≡ s.threads → length new.objects ≡ length s.objects + 1 → IsSpare new spare
spare_created s new spare opened is last handles threads count = record {
  handles = handles_more s new spare opened is handles;
  objects = λ n. is.objects n ∙ sym (ap weight (same n));
}
  where
    same : (n : ℕ) → is_unnamed new n ≡ is_unnamed s n
    same n = elim (cases_eq n (length s.objects)) [
      | inl here ↦
          let one = same_weight opened.object n (last ∙ sym here) in
          let more = named_more s new opened handles n in
          named_not new n (some_named (count_named new.handles n) (omega (arith, more, one)))
          ∙ sym (ap (λ b. nat_le s.threads n && (b && not (is_opened s n))) (none_below n (length s.objects) here) ∙ and_not (nat_le s.threads n))
      | inr differs ↦
          let none = other_weight opened.object n (λ e. differs (sym (sym last ∙ e))) in
          let more = named_more s new opened handles n in
          let as_often : count_named new.handles n ≡ count_named s.handles n = omega (arith, more, none) in
          ap (λ t. nat_le t n && (nat_lt n (length new.objects) && not (is_opened new n))) threads
          ∙ (ap (λ b. nat_le s.threads n && (b && not (is_opened new n))) (below_more n (length s.objects) (length new.objects) count differs)
          ∙ ap (λ k. nat_le s.threads n && (nat_lt n (length s.objects) && not (nat_lt 0 k))) as_often)
    ]

-- no handle comes or goes, and no object comes
pub spare_same : (s new : State) (spare : Spares) → IsSpare s spare → new.handles ≡ s.handles → new.threads ≡ s.threads → length new.objects ≡ length s.objects → IsSpare new spare
spare_same s new spare is handles threads count = record {
  handles = λ n. is.handles n ∙ sym (ap (λ hs. weight (closed_in hs n)) handles);
  objects = λ n. is.objects n ∙ sym (ap weight (unnamed_by s new n threads count (ap (λ hs. nat_lt 0 (count_named hs n)) handles)));
}

-- ---- a handle is closed

pub handles_closed : (s new : State) (spare : Spares) (h : ℕ) (opened : Opened) → IsSpare s spare → h < length s.handles → opened_at s.handles h ≡ Some opened → new.handles ≡ set s.handles h None → (n : ℕ) → times n (spare.closed ++ h ∷ []) ≡ weight (is_closed new n)
handles_closed s new spare h opened is there was handles n = elim (cases_eq n h) [
  | inl same ↦
      let now : weight (closed_in new.handles n) ≡ 1 = ap (λ hs. weight (closed_in hs n)) handles ∙ (ap (λ (i : ℕ). weight (closed_in (set s.handles h None) i)) same ∙ ap weight (closed_here s.handles h None there)) in
      let before : times n spare.closed ≡ 0 = is.handles n ∙ (ap (λ (i : ℕ). weight (closed_in s.handles i)) same ∙ ap weight unclosed) in
      let one = same_weight h n (sym same) in
      let end = times_end n h spare.closed in
      omega (arith, now, before, one, end)
  | inr differs ↦
      let now : weight (closed_in new.handles n) ≡ weight (is_closed s n) = ap (λ hs. weight (closed_in hs n)) handles ∙ ap weight (closed_elsewhere s.handles h n None differs) in
      let before : times n spare.closed ≡ weight (is_closed s n) = is.handles n in
      let none = other_weight h n (λ e. differs (sym e)) in
      let end = times_end n h spare.closed in
      omega (arith, now, before, none, end)
]
  where
    unclosed : closed_in s.handles h ≡ false
    unclosed = ap (λ o. nat_lt h (length s.handles) && is_none o) was ∙ and_not (nat_lt h (length s.handles))

-- what the handle named may be named no longer, and all else is as it was
named_less : (s new : State) (h : ℕ) (opened : Opened) → opened_at s.handles h ≡ Some opened → new.handles ≡ set s.handles h None → (k : ℕ) → count_named new.handles k + weight (opened.object == k) ≡ count_named s.handles k
named_less s new h opened was handles k = ap (λ hs. count_named hs k + weight (opened.object == k)) handles ∙ counted_less s.handles h opened k was

others_named : (s new : State) (h : ℕ) (opened : Opened) → opened_at s.handles h ≡ Some opened → new.handles ≡ set s.handles h None → new.threads ≡ s.threads → length new.objects ≡ length s.objects → (n : ℕ) → n ≢ opened.object → is_unnamed new n ≡ is_unnamed s n
others_named s new h opened was handles threads count n differs =
    let none = other_weight opened.object n (λ e. differs (sym e)) in
    let less = named_less s new h opened was handles n in
    let as_often : count_named new.handles n ≡ count_named s.handles n = omega (arith, less, none) in
    unnamed_by s new n threads count (ap (λ k. nat_lt 0 k) as_often)

was_named : (s new : State) (h : ℕ) (opened : Opened) → opened_at s.handles h ≡ Some opened → new.handles ≡ set s.handles h None → is_unnamed s opened.object ≡ false
was_named s new h opened was handles =
    let one = same_weight opened.object opened.object refl in
    let less = named_less s new h opened was handles opened.object in
    named_not s opened.object (some_named (count_named s.handles opened.object) (omega (arith, less, one)))

-- no handle names it, and it is no thread's
pub objects_closed : (s new : State) (spare : Spares) (h : ℕ) (opened : Opened) → IsSpare s spare → opened_at s.handles h ≡ Some opened → new.handles ≡ set s.handles h None → new.threads ≡ s.threads → length new.objects ≡ length s.objects → is_unnamed new opened.object ≡ true → (n : ℕ) → times n (spare.unnamed ++ opened.object ∷ []) ≡ weight (is_unnamed new n)
objects_closed s new spare h opened is was handles threads count unnamed n = elim (cases_eq n opened.object) [
  | inl same ↦
      let now : weight (is_unnamed new n) ≡ 1 = ap (λ (i : ℕ). weight (is_unnamed new i)) same ∙ ap weight unnamed in
      let before : times n spare.unnamed ≡ 0 = is.objects n ∙ (ap (λ (i : ℕ). weight (is_unnamed s i)) same ∙ ap weight (was_named s new h opened was handles)) in
      let one = same_weight opened.object n (sym same) in
      let end = times_end n opened.object spare.unnamed in
      omega (arith, now, before, one, end)
  | inr differs ↦
      let now : weight (is_unnamed new n) ≡ weight (is_unnamed s n) = ap weight (others_named s new h opened was handles threads count n differs) in
      let before : times n spare.unnamed ≡ weight (is_unnamed s n) = is.objects n in
      let none = other_weight opened.object n (λ e. differs (sym e)) in
      let end = times_end n opened.object spare.unnamed in
      omega (arith, now, before, none, end)
]

-- another handle names it still, or it is a thread's
pub objects_kept : (s new : State) (spare : Spares) (h : ℕ) (opened : Opened) → IsSpare s spare → opened_at s.handles h ≡ Some opened → new.handles ≡ set s.handles h None → new.threads ≡ s.threads → length new.objects ≡ length s.objects → is_unnamed new opened.object ≡ false → (n : ℕ) → times n spare.unnamed ≡ weight (is_unnamed new n)
objects_kept s new spare h opened is was handles threads count named n = elim (cases_eq n opened.object) [
  | inl same ↦
      is.objects n ∙ (ap (λ (i : ℕ). weight (is_unnamed s i)) same ∙ (ap weight (was_named s new h opened was handles)
      ∙ sym (ap (λ (i : ℕ). weight (is_unnamed new i)) same ∙ ap weight named)))
  | inr differs ↦ is.objects n ∙ sym (ap weight (others_named s new h opened was handles threads count n differs))
]

-- ---- one object number more, that no handle names

pub spare_added : (s new : State) (spare : Spares) → IsSpare s spare → new.handles ≡ s.handles → new.threads ≡ s.threads → length new.objects ≡ length s.objects + 1 → s.threads ≤ length s.objects → is_opened s (length s.objects) ≡ false → IsSpare new (record spare { unnamed = spare.unnamed ++ length s.objects ∷ [] })
spare_added s new spare is handles threads count first unnamed = record {
  handles = λ n. is.handles n ∙ sym (ap (λ hs. weight (closed_in hs n)) handles);
  objects = λ n. elim (cases_eq n (length s.objects)) [
    | inl same ↦
        let now : weight (is_unnamed new n) ≡ 1 = ap weight (here n same) in
        let before : times n spare.unnamed ≡ 0 = is.objects n ∙ ap weight (ap (λ b. nat_le s.threads n && (b && not (is_opened s n))) (none_below n (length s.objects) same) ∙ and_not (nat_le s.threads n)) in
        let one = same_weight (length s.objects) n (sym same) in
        let end = times_end n (length s.objects) spare.unnamed in
        omega (arith, now, before, one, end)
    | inr differs ↦
        let now : weight (is_unnamed new n) ≡ weight (is_unnamed s n) = ap weight (there n differs) in
        let before : times n spare.unnamed ≡ weight (is_unnamed s n) = is.objects n in
        let none = other_weight (length s.objects) n (λ e. differs (sym e)) in
        let end = times_end n (length s.objects) spare.unnamed in
        omega (arith, now, before, none, end)
  ];
}
  where
    here : (n : ℕ) → n ≡ length s.objects → is_unnamed new n ≡ true
    here n same =
        let beyond : new.threads ≤ n = omega (arith, first, threads, same) in
        let a : nat_le new.threads n ≡ true = grind (arith, nat_tests, beyond) in
        let below : n < length new.objects = omega (arith, count, same) in
        let b : nat_lt n (length new.objects) ≡ true = grind (arith, nat_tests, below) in
        let c : is_opened new n ≡ false = ap (λ hs. nat_lt 0 (count_named hs n)) handles ∙ (ap (λ (i : ℕ). is_opened s i) same ∙ unnamed) in
        ap (λ x. x && (nat_lt n (length new.objects) && not (is_opened new n))) a
        ∙ (ap (λ x. x && not (is_opened new n)) b ∙ ap (λ x. not x) c)

    there : (n : ℕ) → n ≢ length s.objects → is_unnamed new n ≡ is_unnamed s n
    there n differs =
        ap (λ t. nat_le t n && (nat_lt n (length new.objects) && not (is_opened new n))) threads
        ∙ (ap (λ b. nat_le s.threads n && (b && not (is_opened new n))) (below_more n (length s.objects) (length new.objects) count differs)
        ∙ ap (λ hs. nat_le s.threads n && (nat_lt n (length s.objects) && not (nat_lt 0 (count_named hs n)))) handles)

-- ---- how many are spare

-- no more than there are handles
pub few_closed : (s : State) (closed : List ℕ) → ((n : ℕ) → times n closed ≡ weight (is_closed s n)) → length closed ≤ length s.handles
few_closed s closed is = bounded closed (length s.handles) (λ n. let all = is n in let most = weight_most (is_closed s n) in omega (arith, all, most)) below
  where
    below : (n : ℕ) → 0 < times n closed → n < length s.handles
    below n some = go (nat_lt n (length s.handles)) refl
      where
        go : (b : Bool) → nat_lt n (length s.handles) ≡ b → n < length s.handles
        go true e = grind (arith, nat_tests, e)
        go false e = let none : times n closed ≡ 0 = is n ∙ ap weight (ap (λ b. b && is_none (opened_at s.handles n)) e) in absurd (omega (arith, none, some))

-- no more than there are objects
pub few_unnamed : (s : State) (unnamed : List ℕ) → ((n : ℕ) → times n unnamed ≡ weight (is_unnamed s n)) → length unnamed ≤ length s.objects
few_unnamed s unnamed is = bounded unnamed (length s.objects) (λ n. let all = is n in let most = weight_most (is_unnamed s n) in omega (arith, all, most)) below
  where
    below : (n : ℕ) → 0 < times n unnamed → n < length s.objects
    below n some = go (nat_lt n (length s.objects)) refl
      where
        go : (b : Bool) → nat_lt n (length s.objects) ≡ b → n < length s.objects
        go true e = grind (arith, nat_tests, e)
        go false e = let none : times n unnamed ≡ 0 = is n ∙ ap weight (ap (λ b. nat_le s.threads n && (b && not (is_opened s n))) e ∙ and_not (nat_le s.threads n)) in absurd (omega (arith, none, some))
