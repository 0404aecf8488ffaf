-- What the view of a table shows.
use Rattle.std.proofs.Common.{◌≡◌, ◌≢◌, ◌<◌, ◌+◌, ℕ, zero, suc, List, [], ◌∷◌, length, get_or, set, map, Option, Some, None, true, false, refl, sym, ◌∙◌, inl, inr, arith}
use Rattle.std.proofs.lemmas.Bool.{cases_lt, cases_eq}
use Rattle.std.proofs.lemmas.List.{get_or-set_same, get_or-set_other}
use Rattle.std.proofs.lemmas.Option.{none-some}
use Rattle.std.specs.Prelude.{IsSome, slice_get}
use Rattle.std.specs.Option.{option_map}
use Rattle.std.specs.Ordering.{nat_cmp, eq_by_cmp}
use Rattle.std.specs.Cmp.{nat_cmp_total, nat_cmp_is}
use Rattle.std.specs.FinMap as finmap
use Rattle.std.specs.declared.cmp.Ordering.TheVariants.{Less, Equal, Greater}
use Rattle.nt_waits.specs.declared.wait.Wait.{Wait}
use Rattle.nt_waits.specs.declared.pending.Pending.{Pending}
use Rattle.nt_waits.specs.Link.{Link, first_thread}
use Rattle.nt_waits.specs.Table.{threads, slot_at, waits_from}

tied : (a b : ℕ) → a ≡ b → eq_by_cmp nat_cmp a b ≡ true
tied a b e = rw (← nat_cmp_is a b Equal e) refl

untied : (a b : ℕ) → a ≢ b → eq_by_cmp nat_cmp a b ≡ false
untied a b differs = elim (cases_lt a b) [
  | inl below ↦ rw (← nat_cmp_is a b Less below) refl
  | inr above ↦ let strictly : b < a = omega arith in rw (← nat_cmp_is a b Greater strictly) refl
]

find-before : (first q : ℕ) (slots : List (Option Pending)) → q < first → finmap.find nat_cmp q (waits_from first slots) ≡ None
find-before first q [] before = refl
find-before first q (None ∷ slots) before = find-before (first + 1) q slots (omega arith)
find-before first q (Some p ∷ slots) before = rw (untied q first (omega arith)) (find-before (first + 1) q slots (omega arith))

find-later : (first q : ℕ) (p : Pending) (slots : List (Option Pending)) → q ≢ first → finmap.find nat_cmp q (waits_from first (Some p ∷ slots)) ≡ finmap.find nat_cmp q (waits_from (first + 1) slots)
find-later first q p slots differs = rw (untied q first differs) refl

find-waits_from : (first i : ℕ) (slots : List (Option Pending)) → finmap.find nat_cmp (first + i) (waits_from first slots) ≡ option_map (λ p. p.wait) (slot_at slots i)
find-waits_from first i [] = refl
find-waits_from first zero (None ∷ slots) = find-before (first + 1) (first + 0) slots (omega arith)
find-waits_from first zero (Some p ∷ slots) = rw (tied (first + 0) first (omega arith)) refl
find-waits_from first (suc i) (None ∷ slots) = let shift : first + suc i ≡ first + 1 + i = omega arith in rw shift (find-waits_from (first + 1) i slots)
find-waits_from first (suc i) (Some p ∷ slots) =
    let shift : first + suc i ≡ first + 1 + i = omega arith in
    find-later first (first + suc i) p slots (omega arith) ∙ rw shift (find-waits_from (first + 1) i slots)

-- the wait of a thread in the view is the one in its place
pub get-waits : (slots : List (Option Pending)) (t : ℕ) → finmap.get (finmap.from_entries {R = nat_cmp} (waits_from 0 slots)) t ≡ option_map (λ p. p.wait) (slot_at slots t)
get-waits slots t = let shift : 0 + t ≡ t = omega arith in finmap.get-from_entries nat_cmp_total (waits_from 0 slots) t ∙ rw shift at (find-waits_from 0 t slots)

-- with an emptied place the map has lost that thread
pub waits-removed : (slots : List (Option Pending)) (t : ℕ) → t < length slots → finmap.from_entries {R = nat_cmp} (waits_from 0 (set slots t None)) ≡ finmap.remove (finmap.from_entries {R = nat_cmp} (waits_from 0 slots)) t
waits-removed slots t within = finmap.same_map nat_cmp_total finmap.nat_cmp-IsAntisymmetric _ _ (λ q.
    get-waits (set slots t None) q ∙ elim (cases_eq q t) [
      | inl same ↦ rw (same, get_or-set_same slots t None None within) (sym (finmap.get-remove nat_cmp_total (finmap.from_entries {R = nat_cmp} (waits_from 0 slots)) t t ∙ rw (tied t t refl) refl))
      | inr differs ↦ rw (get_or-set_other slots t q None None differs) (sym (finmap.get-remove nat_cmp_total (finmap.from_entries {R = nat_cmp} (waits_from 0 slots)) t q ∙ rw (untied q t differs) (get-waits slots q)))
    ])

-- the queue of an object in the view
pub get_or-threads : (lists : List (List Link)) (h : ℕ) → get_or (map threads lists) h [] ≡ threads (get_or lists h [])
get_or-threads [] h = refl
get_or-threads (ls ∷ lists) zero = refl
get_or-threads (ls ∷ lists) (suc h) = get_or-threads lists h

pub IsSome-mapped : (slot : Option Pending) → IsSome (option_map (λ p. p.wait) slot) → IsSome slot
IsSome-mapped None there = there
IsSome-mapped (Some p) there = refl

pub None-mapped : (slot : Option Pending) → option_map (λ p. p.wait) slot ≡ None → slot ≡ None
None-mapped None e = refl
None-mapped (Some p) e = absurd (none-some p.wait (sym e))

-- with one more place filled the map has one more wait
pub waits-inserted : (old new : List (Option Pending)) (t : ℕ) (wait : Wait) (p : Pending) → slot_at new t ≡ Some p → p.wait ≡ wait → ((u : ℕ) → u ≢ t → slot_at new u ≡ slot_at old u) → finmap.from_entries {R = nat_cmp} (waits_from 0 new) ≡ finmap.insert (finmap.from_entries {R = nat_cmp} (waits_from 0 old)) t wait
waits-inserted old new t wait p placed is kept = finmap.same_map nat_cmp_total finmap.nat_cmp-IsAntisymmetric _ _ (λ q.
    get-waits new q ∙ elim (cases_eq q t) [
      | inl same ↦ rw (same, placed, is) (sym (finmap.get-insert nat_cmp_total (finmap.from_entries {R = nat_cmp} (waits_from 0 old)) t wait t ∙ rw (tied t t refl) refl))
      | inr differs ↦ rw (kept q differs) (sym (finmap.get-insert nat_cmp_total (finmap.from_entries {R = nat_cmp} (waits_from 0 old)) t wait q ∙ rw (untied q t differs) (get-waits old q)))
    ])

pub first_thread-threads : (ls : List Link) → first_thread ls ≡ slice_get (threads ls) 0
first_thread-threads [] = refl
first_thread-threads (link ∷ ls) = refl
