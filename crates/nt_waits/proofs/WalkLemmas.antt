-- How long a queue is: by a walk along it, and by its ends.
use Rattle.std.proofs.Common.{◌≡◌, ◌<◌, ◌+◌, ℕ, List, [], ◌∷◌, length, Option, Some, None, Bool, true, false, refl, sym, ap, ◌∙◌, inl, inr, arith, nat_lt}
use Rattle.std.specs.Prelude.{◌↔◌, ◌≤◌, not, is_none}
use Rattle.std.proofs.lemmas.Bool.{cases_lt, false≢true}
use Rattle.std.proofs.lemmas.Bool.Decides.{nat_tests}
use Rattle.std.proofs.lemmas.Option.{same_Some, none-some}
use Rattle.slab.specs.Slab.{Slab, get, ContainsKey}
use Rattle.nt_waits.specs.declared.block.Block.{Block}
use Rattle.nt_waits.specs.declared.block.Ends.{Ends}
use Rattle.nt_waits.specs.Link.{Link}
use Rattle.nt_waits.specs.Chain.{IsChain}
use Rattle.nt_waits.specs.Queue.{next_of, next_at, previous_at, owner_at, links, IsQueue}
use Rattle.nt_waits.proofs.QueueLemmas.{owner_of-present, ends_same, ends_differ}

-- so many blocks of the queue were passed, and the walk stands at this one, from which the others follow
pub record HasCounted (blocks : Slab Block) (ends : Ends) (count : ℕ) (at : Option ℕ) : Type 0 where
  pub object : ℕ
  pub before : Option ℕ
  pub rest : List Link
  pub here : at ≡ next_at blocks ends before
  pub chain : IsChain (next_at blocks ends) (previous_at blocks ends) (owner_at blocks) object before rest
  pub counted : count + length rest ≡ length (links blocks ends)

module _ (blocks : Slab Block) (ends : Ends) where
  pub none_counted : (object : ℕ) → IsQueue blocks ends object (links blocks ends) → HasCounted blocks ends 0 ends.first
  none_counted object queue = record { object = object; before = None; rest = links blocks ends; here = refl; chain = queue.chain; counted = omega arith }

  module _ (count : ℕ) (at : Option ℕ) (so_far : HasCounted blocks ends count at) where
    -- where the walk stands at a block, this is one of the queue, and it is passed next
    pub one_more : (x : ℕ) → at ≡ Some x → (count < length (links blocks ends)) × ContainsKey blocks x × ((block : Block) → get blocks x ≡ Some block → HasCounted blocks ends (count + 1) block.next)
    one_more x is = go so_far.rest so_far.chain so_far.counted
      where
        go : (rest : List Link) → IsChain (next_at blocks ends) (previous_at blocks ends) (owner_at blocks) so_far.object so_far.before rest → count + length rest ≡ length (links blocks ends) → (count < length (links blocks ends)) × ContainsKey blocks x × ((block : Block) → get blocks x ≡ Some block → HasCounted blocks ends (count + 1) block.next)
        go [] chain counted = absurd (none-some x (sym chain.0 ∙ sym so_far.here ∙ is))
        go (link ∷ rest) chain counted =
            let same : link.number ≡ x = same_Some link.number x (sym chain.0 ∙ sym so_far.here ∙ is) in (
              omega (arith, counted),
              owner_of-present (get blocks x) (link.thread, so_far.object) (rw same at chain.2),
              λ block read. record { object = so_far.object; before = Some link.number; rest = rest; here = rw same (sym (ap next_of read)); chain = chain.3; counted = omega (arith, counted) },
            )

    -- where it stands at none, all were passed
    pub all_counted : at ≡ None → count ≡ length (links blocks ends)
    all_counted is = go so_far.rest so_far.chain so_far.counted
      where
        go : (rest : List Link) → IsChain (next_at blocks ends) (previous_at blocks ends) (owner_at blocks) so_far.object so_far.before rest → count + length rest ≡ length (links blocks ends) → count ≡ length (links blocks ends)
        go [] chain counted = omega (arith, counted)
        go (link ∷ rest) chain counted = absurd (none-some link.number (sym is ∙ so_far.here ∙ chain.0))

-- what a test for none says
pub number_there : (at : Option ℕ) (none : Bool) → none ≡ is_none at → none ≡ false → (x : ℕ) × (at ≡ Some x)
number_there None none is there = absurd (false≢true (sym there ∙ is))
number_there (Some x) none is there = (x, refl)

pub none_there : (at : Option ℕ) (none : Bool) → none ≡ is_none at → none ≡ true → at ≡ None
none_there None none is gone = refl
none_there (Some x) none is gone = absurd (false≢true (sym is ∙ gone))

-- a queue has a block exactly where it has a first
pub some_by_first : (blocks : Slab Block) (ends : Ends) (object : ℕ) (ls : List Link) → IsQueue blocks ends object ls → not (is_none ends.first) ≡ nat_lt 0 (length ls)
some_by_first blocks ends object [] queue = rw queue.chain.0 refl
some_by_first blocks ends object (link ∷ ls) queue = let more : nat_lt 0 (length (link ∷ ls)) ≡ true = grind (arith, nat_tests) in rw (queue.chain.0, more) refl

-- it has two or more exactly where its first is not its last
pub two_by_ends : (blocks : Slab Block) (ends : Ends) (object : ℕ) (ls : List Link) → IsQueue blocks ends object ls → (same : Bool) → (same ≡ true) ↔ (ends.first ≡ ends.last) → not same ≡ nat_lt 1 (length ls)
two_by_ends blocks ends object ls queue same told = elim (cases_lt 1 (length ls)) [
  | inl many ↦ let more : nat_lt 1 (length ls) ≡ true = grind (arith, nat_tests, many) in rw more (apart same told many)
  | inr few ↦ let less : nat_lt 1 (length ls) ≡ false = grind (arith, nat_tests, few) in rw less (alone same told (omega (arith, few)))
]
  where
    apart : (b : Bool) → (b ≡ true) ↔ (ends.first ≡ ends.last) → 1 < length ls → not b ≡ true
    apart true told many = absurd (ends_differ blocks ends object ls queue (omega (arith, many)) (told.0 refl))
    apart false told many = refl

    alone : (b : Bool) → (b ≡ true) ↔ (ends.first ≡ ends.last) → length ls ≤ 1 → not b ≡ false
    alone true told few = refl
    alone false told few = absurd (false≢true (told.1 (ends_same blocks ends object ls queue few)))

pub few_of_not_two : (two : Bool) (n : ℕ) → two ≡ nat_lt 1 n → two ≡ false → n ≤ 1
few_of_not_two two n is less = elim (cases_lt 1 n) [
  | inl many ↦ let more : nat_lt 1 n ≡ true = grind (arith, nat_tests, many) in absurd (false≢true (sym less ∙ is ∙ more))
  | inr few ↦ omega (arith, few)
]
