-- The count of the pending waits.
use Rattle.std.proofs.Common.{◌≡◌, ◌≤◌, ◌+◌, ◌-◌, ℕ, List, [], ◌∷◌, length, Option, Some, None, true, false, cond, refl, sym, ap, ◌∙◌, inl, inr, arith}
use Rattle.std.proofs.lemmas.Bool.{cases_lt, false≢true}
use Rattle.std.specs.Ordering.{nat_cmp}
use Rattle.std.specs.Cmp.{nat_cmp_total}
use Rattle.std.specs.Prelude.{is_some, IsSome}
use Rattle.std.specs.FinMap as finmap
use Rattle.nt_waits.specs.declared.wait.Wait.{Wait}
use Rattle.nt_waits.specs.declared.pending.Pending.{Pending}
use Rattle.nt_waits.specs.Table.{waits_from, waits_of}

length-waits_from : (first : ℕ) (slots : List (Option Pending)) → length (waits_from first slots) ≤ length slots
length-waits_from first [] = omega arith
length-waits_from first (None ∷ slots) = omega (arith, length-waits_from (first + 1) slots)
length-waits_from first (Some p ∷ slots) = omega (arith, length-waits_from (first + 1) slots)

len-from_entries : (es : List (ℕ × Wait)) → finmap.len (finmap.from_entries {R = nat_cmp} es) ≤ length es
len-from_entries [] = rw (finmap.len-empty nat_cmp Wait) (omega arith)
len-from_entries (e ∷ es) =
    let rest = len-from_entries es in
    rw (finmap.len-insert nat_cmp_total (finmap.from_entries {R = nat_cmp} es) e.0 e.1) (elim (finmap.contains_key (finmap.from_entries {R = nat_cmp} es) e.0) as (λ b. cond b (finmap.len (finmap.from_entries {R = nat_cmp} es)) (finmap.len (finmap.from_entries {R = nat_cmp} es) + 1) ≤ length (e ∷ es)) [
      | true ↦ omega (arith, rest)
      | false ↦ omega (arith, rest)
    ])

-- there are no more waits than places
pub len-waits_of : (slots : List (Option Pending)) → finmap.len (waits_of slots) ≤ length slots
len-waits_of slots = omega (arith, len-from_entries (waits_from 0 slots), length-waits_from 0 slots)

pub len-begun : (m : finmap.FinMap nat_cmp Wait) (t : ℕ) (wait : Wait) → finmap.get m t ≡ None → finmap.len (finmap.insert m t wait) ≡ finmap.len m + 1
len-begun m t wait free = finmap.len-insert nat_cmp_total m t wait ∙ rw free refl

pub len-ended : (m : finmap.FinMap nat_cmp Wait) (t : ℕ) → IsSome (finmap.get m t) → finmap.len (finmap.remove m t) ≡ finmap.len m - 1
len-ended m t there = finmap.len-remove nat_cmp_total m t ∙ rw there refl

-- where a thread waits the count is not 0
pub len-some : (m : finmap.FinMap nat_cmp Wait) (t : ℕ) → IsSome (finmap.get m t) → 1 ≤ finmap.len m
len-some m t there = elim (cases_lt 0 (finmap.len m)) [
  | inl above ↦ omega arith
  | inr not_above ↦
      let none : finmap.len m ≡ 0 = omega arith in
      let empty = ap (λ (n : finmap.FinMap nat_cmp Wait). is_some (finmap.get n t)) (finmap.empty_of_len m none) ∙ ap is_some (finmap.get-empty nat_cmp t) in
      absurd (false≢true (sym empty ∙ there))
]

-- no places, no waits
pub len-none : (slots : List (Option Pending)) → slots ≡ [] → 0 ≡ finmap.len (waits_of slots)
len-none slots e = rw e (sym (finmap.len-empty nat_cmp Wait))
