-- Marks that are taken away until a knot is left.
use Rattle.std.proofs.Common.{◌≡◌, ◌<◌, ℕ, zero, suc, ◌+◌, Bool, true, false, cond, not, ◌==◌, List, [], ◌∷◌, length, set, refl, sym, ◌∙◌, subst, arith, Some, None, inl, inr}
use Rattle.std.specs.Prelude.{nat_le, slice_index, slice_index_or, slice_set}
use Rattle.std.specs.List.{list_any, list_all}
use Rattle.std.specs.FinMap.{get}
use Rattle.std.proofs.lemmas.Bool.{false≢true, cases_eq}
use Rattle.std.proofs.lemmas.List.{get_or-set_other, length-set}
use Rattle.nt_status.specs.Access.{modify_state}
use Rattle.nt_objects.specs.declared.object.Object.{Object}
use Rattle.nt_objects.specs.declared.object.Object.TheVariants.{Event, Semaphore, Mutex, Timer, Thread, Gone}
use Rattle.nt_calls.specs.State.{State, object_at}
use Rattle.nt_machine.specs.Dispatcher.{Dispatcher, state}
use Rattle.nt_look.specs.Hangs.{is_given, holds, held_at, marked, unmarked, IsTied, IsKnot}
use Rattle.nt_look.specs.Deciding.{IsUntied}
use Rattle.nt_look.proofs.Parts.{both_of, together, any_kept, all_kept}

-- ---- fewer marks

-- how many marks there are
abbrev pub left_marked : List Bool → ℕ
left_marked [] = 0
left_marked (true ∷ marks) = suc (left_marked marks)
left_marked (false ∷ marks) = left_marked marks

pub fewer_marks : (marks : List Bool) (t : ℕ) → marked marks t ≡ true → left_marked (slice_set marks t false) < left_marked marks
fewer_marks [] t is = absurd (false≢true is)
fewer_marks (true ∷ marks) zero is = omega arith
fewer_marks (false ∷ marks) zero is = absurd (false≢true is)
fewer_marks (true ∷ marks) (suc t) is = let less = fewer_marks marks t is in omega (arith, less)
fewer_marks (false ∷ marks) (suc t) is = fewer_marks marks t is

-- no mark stands past the last
pub marked_below : (marks : List Bool) (t : ℕ) → marked marks t ≡ true → t < length marks
marked_below [] t is = absurd (false≢true is)
marked_below (b ∷ marks) zero is = omega arith
marked_below (b ∷ marks) (suc t) is = let below = marked_below marks t is in omega (arith, below)

-- ---- the search for a thread that is not tied

-- each thread of any knot has a mark
pub record HasAllKnots (over : List Bool) (s : State) (knot : List Bool) : Type 0 where
  pub count : length knot ≡ s.threads
  pub all : (other : ℕ → Bool) → ((t : ℕ) → other t ≡ true → t < s.threads) → IsKnot (unmarked over) other s → (t : ℕ) → other t ≡ true → marked knot t ≡ true

-- no thread below this number is untied
abbrev pub TiedBelow : Dispatcher → List Bool → List Bool → ℕ → Type 0
TiedBelow d over knot n = (t : ℕ) → t < n → marked knot t ≡ true → unmarked over t ≡ true → IsTied (marked knot) (state d) t

pub one_tied : (d : Dispatcher) (over knot : List Bool) (n : ℕ) → TiedBelow d over knot n → (marked knot n ≡ true → unmarked over n ≡ true → IsTied (marked knot) (state d) n) → TiedBelow d over knot (n + 1)
one_tied d over knot n before here t below inside calls = elim (cases_eq t n) [
  | inl same ↦ subst (λ k. IsTied (marked knot) (state d) k) (sym same) (here (subst (λ k. marked knot k ≡ true) same inside) (subst (λ k. unmarked over k ≡ true) same calls))
  | inr differs ↦ before t (omega (arith, below, differs)) inside calls
]

pub all_tied : (d : Dispatcher) (over knot : List Bool) → length knot ≡ d.threads → TiedBelow d over knot d.threads → IsKnot (unmarked over) (marked knot) (state d)
all_tied d over knot count below t inside calls = let there = marked_below knot t inside in below t (omega (arith, there, count)) inside calls

-- ---- a larger knot holds more

holds_more : (other knot : ℕ → Bool) (free : Bool) (t o : ℕ) (x : Object) → ((u : ℕ) → other u ≡ true → knot u ≡ true) → holds other free t o x ≡ true → holds knot free t o x ≡ true
holds_more other knot free t o (Mutex (Some owner) depth abandoned) more e =
    let two = both_of (other owner) (not (owner == t)) e in
    together (knot owner) (not (owner == t)) (more owner two.0) two.1
holds_more other knot free t o (Mutex None depth abandoned) more e = absurd (false≢true e)
holds_more other knot free t o (Thread ended) more e =
    let two = both_of (other o) (not ended) e in
    together (knot o) (not ended) (more o two.0) two.1
holds_more other knot free t o Gone more e = e
holds_more other knot free t o (Event manual set) more e = e
holds_more other knot free t o (Semaphore count maximum) more e = e
holds_more other knot free t o (Timer manual set None) more e = e
holds_more other knot free t o (Timer manual set (Some armed)) more e = e

tied_more : (other knot : ℕ → Bool) (s : State) (t : ℕ) → ((u : ℕ) → other u ≡ true → knot u ≡ true) → IsTied other s t → IsTied knot s t
tied_more other knot s t more tied = record {
  wait = tied.wait;
  pends = tied.pends;
  endless = tied.endless;
  plain = tied.plain;
  held = go tied.wait.all tied.held;
}
  where
    each : (j : ℕ) → j < length tied.wait.objects → held_at s other t (slice_index tied.wait.objects j) ≡ true → held_at s knot t (slice_index tied.wait.objects j) ≡ true
    each j below is = let o = slice_index tied.wait.objects j in holds_more other knot (not (is_given s modify_state o)) t o (object_at s.objects o) more is

    go : (all : Bool) → cond all (list_any (held_at s other t) tied.wait.objects) (list_all (held_at s other t) tied.wait.objects) ≡ true
        → cond all (list_any (held_at s knot t) tied.wait.objects) (list_all (held_at s knot t) tied.wait.objects) ≡ true
    go true held = any_kept (held_at s other t) (held_at s knot t) tied.wait.objects each held
    go false held = all_kept (held_at s other t) (held_at s knot t) tied.wait.objects each held

-- a thread that is not tied is in no knot
pub one_free : (over knot : List Bool) (s : State) (t : ℕ) → HasAllKnots over s knot → IsUntied over knot s t → HasAllKnots over s (slice_set knot t false)
one_free over knot s t has untied = record {
  count = length-set knot t false ∙ has.count;
  all = λ other within is u inside. elim (cases_eq u t) [
    | inl same ↦
        let mine : other t ≡ true = subst (λ k. other k ≡ true) same inside in
        absurd (untied.free (tied_more other (marked knot) s t (has.all other within is) (is t mine untied.calls)))
    | inr differs ↦ get_or-set_other knot t u false false differs ∙ has.all other within is u inside
  ];
}

-- ---- where the search begins

pub all_marked : (n t : ℕ) (marks : List Bool) → marks ≡ Rattle.std.specs.Prelude.replicate n true → t < n → marked marks t ≡ true
all_marked n t marks is below = subst (λ (ms : List Bool). marked ms t ≡ true) (sym is) (go n t below)
  where
    go : (n t : ℕ) → t < n → marked (Rattle.std.specs.Prelude.replicate n true) t ≡ true
    go zero t less = absurd (omega (arith, less))
    go (suc n) zero less = refl
    go (suc n) (suc t) less = go n t (omega (arith, less))
