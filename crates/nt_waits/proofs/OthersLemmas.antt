-- A queue without one thread.
use Rattle.std.proofs.Common.{◌≡◌, ◌≢◌, ℕ, List, [], ◌∷◌, refl, sym, ap, ◌∙◌, inl, inr, Contains, nat_eq}
use Rattle.std.proofs.lemmas.Bool.{cases_eq}
use Rattle.std.specs.List.{IsDistinct}
use Rattle.std.proofs.lemmas.Map.Keys.{IsDistinct-tail}
use Rattle.nt_status.proofs.Lists.{contains_none, contains_first, contains_later, contains_cases, distinct_none, distinct_first, distinct_cons}
use Rattle.nt_waits.specs.Waits.{others}
use Rattle.nt_waits.proofs.ChainLemmas.{same_test, other_test}

-- a queue in which the thread does not stand is as it was
pub others_absent : (thread : ℕ) (queue : List ℕ) → (Contains queue thread → ⊥) → others thread queue ≡ queue
others_absent thread [] absent = refl
others_absent thread (first ∷ queue) absent = rw (other_test first thread (λ same. absent (contains_first first queue thread same))) (ap (λ q. first ∷ q) (others_absent thread queue (λ later. absent (contains_later first queue thread later))))

-- each other thread of the queue still stands there
pub member_others : (thread x : ℕ) (queue : List ℕ) → x ≢ thread → Contains queue x → Contains (others thread queue) x
member_others thread x [] differs member = absurd (contains_none x member)
member_others thread x (first ∷ queue) differs member = elim (contains_cases first queue x member) [
  | inl here ↦ rw (other_test first thread (λ same. differs (sym here ∙ same))) (contains_first first (others thread queue) x here)
  | inr later ↦ elim (cases_eq first thread) [
    | inl same ↦ rw (same_test first thread same) (member_others thread x queue differs later)
    | inr other ↦ rw (other_test first thread other) (contains_later first (others thread queue) x (member_others thread x queue differs later))
  ]
]

-- who stands there still stood in the queue, and is another thread
pub member_of_others : (thread x : ℕ) (queue : List ℕ) → Contains (others thread queue) x → Contains queue x × (x ≢ thread)
member_of_others thread x [] member = absurd (contains_none x member)
member_of_others thread x (first ∷ queue) member = elim (cases_eq first thread) [
  | inl same ↦ let rest = member_of_others thread x queue (rw (same_test first thread same) at member) in (contains_later first queue x rest.0, rest.1)
  | inr other ↦
      let stays : Contains (first ∷ others thread queue) x = rw (other_test first thread other) at member in
      elim (contains_cases first (others thread queue) x stays) [
        | inl here ↦ (contains_first first queue x here, λ same. other (here ∙ same))
        | inr later ↦ let rest = member_of_others thread x queue later in (contains_later first queue x rest.0, rest.1)
      ]
]

-- each thread that stood once still stands once
pub once_others : (thread : ℕ) (queue : List ℕ) → IsDistinct nat_eq queue → IsDistinct nat_eq (others thread queue)
once_others thread [] once = distinct_none
once_others thread (first ∷ queue) once = elim (cases_eq first thread) [
  | inl same ↦ rw (same_test first thread same) (once_others thread queue (IsDistinct-tail nat_eq first queue once))
  | inr other ↦ rw (other_test first thread other) (distinct_cons first (others thread queue) (λ member. distinct_first first queue once (member_of_others thread first queue member).0) (once_others thread queue (IsDistinct-tail nat_eq first queue once)))
]
