-- The queue of one object after a block is added or taken out.
use Rattle.std.proofs.Common.{◌≡◌, ◌≢◌, ◌⊎◌, ◌<◌, ◌≤◌, ℕ, zero, suc, List, [], ◌∷◌, ◌++◌, length, map, Option, Some, None, true, false, cond, eqb, refl, sym, ap, ◌∙◌, inl, inr, arith, Contains, nat_eq}
use Rattle.std.proofs.lemmas.Bool.{cases_lt, false≢true}
use Rattle.std.proofs.lemmas.List.{get_or_past, length-map}
use Rattle.std.specs.List.{IsDistinct}
use Rattle.nt_status.proofs.Lists.{contains_none, contains_cases, distinct_none, distinct_cons, few_below}
use Rattle.std.proofs.lemmas.Option.{none-some, same_Some, some_pair_parts}
use Rattle.std.specs.Prelude.{IsSome}
use Rattle.std.specs.Option.{option_map}
use Rattle.slab.specs.Slab.{Slab, get, ContainsKey, Updates}
use Rattle.nt_waits.specs.declared.block.Block.{Block}
use Rattle.nt_waits.specs.declared.block.Ends.{Ends}
use Rattle.nt_waits.specs.Link.{Link, HasNumber, AreNumbersOnce, without}
use Rattle.nt_waits.specs.Chain.{IsChain}
use Rattle.nt_waits.specs.Queue.{next_of, previous_of, owner_of, thread_of, next_at, previous_at, owner_at, links_from, links, IsQueue}
use Rattle.nt_waits.proofs.ChainLemmas.{chain_owner, chain_previous, chain_next, chain_last_in, chain_kept, chain_unlinked, chain_linked}

-- what is walked from the front, for long enough, is the chain
links_from-chain : (next previous : Option ℕ → Option ℕ) (owner : ℕ → Option (ℕ × ℕ)) (thread : ℕ → ℕ) (object : ℕ) → ((k t : ℕ) → owner k ≡ Some (t, object) → thread k ≡ t) → (n : ℕ) (at : Option ℕ) (ls : List Link) → length ls ≤ n → IsChain next previous owner object at ls → links_from next thread n at ≡ ls
links_from-chain next previous owner thread object owned zero at [] few chain = refl
links_from-chain next previous owner thread object owned (suc n) at [] few chain = rw chain.0 refl
links_from-chain next previous owner thread object owned zero at (link ∷ ls) few chain = absurd (omega (arith, few))
links_from-chain next previous owner thread object owned (suc n) at (link ∷ ls) few chain =
    let rest = links_from-chain next previous owner thread object owned n (Some link.number) ls (omega (arith, few)) chain.3 in
    let whose = owned link.number link.thread chain.2 in
    rw (chain.0, rest, whose)

pub owner_of-thread : (block : Option Block) (t object : ℕ) → owner_of block ≡ Some (t, object) → thread_of block ≡ t
owner_of-thread None t object e = absurd (cc)
owner_of-thread (Some block) t object e = (some_pair_parts block.thread t block.object object e).0

pub HasNumber-without : (number : ℕ) (ls : List Link) (k : ℕ) → HasNumber (without number ls) k → HasNumber ls k
HasNumber-without number [] k = λ has. has
HasNumber-without number (link ∷ ls) k = elim (eqb link.number number) as (λ b. HasNumber (cond b ls (link ∷ without number ls)) k → HasNumber (link ∷ ls) k) [
  | true ↦ λ has. inr has
  | false ↦ λ has. elim has [ inl here ↦ inl here | inr later ↦ inr (HasNumber-without number ls k later) ]
]

AreNumbersOnce-without : (number : ℕ) (ls : List Link) → AreNumbersOnce ls → AreNumbersOnce (without number ls)
AreNumbersOnce-without number [] distinct = tt
AreNumbersOnce-without number (link ∷ ls) distinct = elim (eqb link.number number) as (λ b. AreNumbersOnce (cond b ls (link ∷ without number ls))) [
  | true ↦ distinct.1
  | false ↦ (λ has. distinct.0 (HasNumber-without number ls link.number has), AreNumbersOnce-without number ls distinct.1)
]

pub owner_of-present : (block : Option Block) (p : ℕ × ℕ) → owner_of block ≡ Some p → IsSome block
owner_of-present None p e = absurd (cc)
owner_of-present (Some block) p e = refl

present_by_owner : (block block' : Option Block) → owner_of block' ≡ owner_of block → IsSome block → IsSome block'
present_by_owner None block' same there = absurd (cc)
present_by_owner (Some block) block' same there = owner_of-present block' (block.thread, block.object) same

thread_by_owner : (block block' : Option Block) → owner_of block' ≡ owner_of block → thread_of block' ≡ thread_of block
thread_by_owner (Some block) block' same = owner_of-thread block' block.thread block.object same
thread_by_owner None None same = refl
thread_by_owner None (Some block') same = absurd (cc)

numbers_contain : (ls : List Link) (k : ℕ) → Contains (map (λ (l : Link). l.number) ls) k → HasNumber ls k
numbers_contain [] k member = absurd (contains_none k member)
numbers_contain (link ∷ ls) k member = elim (contains_cases link.number (map (λ (l : Link). l.number) ls) k member) [ inl here ↦ inl here | inr later ↦ inr (numbers_contain ls k later) ]

numbers_distinct : (ls : List Link) → AreNumbersOnce ls → IsDistinct nat_eq (map (λ (l : Link). l.number) ls)
numbers_distinct [] once = distinct_none
numbers_distinct (link ∷ ls) once = distinct_cons link.number (map (λ (l : Link). l.number) ls) (λ member. once.0 (numbers_contain ls link.number member)) (numbers_distinct ls once.1)

key_within : (blocks : Slab Block) (k : ℕ) → ContainsKey blocks k → k < length blocks.slots
key_within blocks k there = elim (cases_lt k (length blocks.slots)) [
  | inl below ↦ below
  | inr past ↦ let gone : IsSome {T = Block} None = rw (get_or_past blocks.slots k None past) at there in absurd (false≢true gone)
]

module _ (blocks : Slab Block) (ends : Ends) (object : ℕ) (ls : List Link) (queue : IsQueue blocks ends object ls) where
  -- a block of the queue is of its object
  pub queue_owner : (k : ℕ) → HasNumber ls k → (thread : ℕ) × (owner_at blocks k ≡ Some (thread, object))
  queue_owner k has = chain_owner (next_at blocks ends) (previous_at blocks ends) (owner_at blocks) object None ls k queue.chain has

  pub queue_present : (k : ℕ) → HasNumber ls k → ContainsKey blocks k
  queue_present k has = let whose = queue_owner k has in owner_of-present (get blocks k) (whose.0, object) whose.1

  -- a queue has no more blocks than there are numbers
  pub queue_fits : length ls ≤ length blocks.slots
  queue_fits =
      let few = few_below (length blocks.slots) (map (λ (l : Link). l.number) ls) (numbers_distinct ls queue.distinct) (λ k member. key_within blocks k (queue_present k (numbers_contain ls k member))) in
      let same = length-map ls (λ (l : Link). l.number) in
      omega (arith, few, same)

  -- the walk from the first block gives the queue
  pub links_queue : links blocks ends ≡ ls
  links_queue = links_from-chain (next_at blocks ends) (previous_at blocks ends) (owner_at blocks) (λ number. thread_of (get blocks number)) object (λ k t. owner_of-thread (get blocks k) t object) (length blocks.slots) None ls queue_fits queue.chain

  pub queue_previous : (number x : ℕ) → HasNumber ls number → previous_at blocks ends (Some number) ≡ Some x → HasNumber ls x × (x ≢ number)
  queue_previous number x has e =
      let found = chain_previous (next_at blocks ends) (previous_at blocks ends) (owner_at blocks) object None ls number x queue.chain queue.distinct (λ k _ f. none-some k f) has e in
      (elim found.0 [ inl start ↦ absurd (none-some x start) | inr within ↦ within ], found.1)

  pub queue_next : (number x : ℕ) → HasNumber ls number → next_at blocks ends (Some number) ≡ Some x → HasNumber ls x × (x ≢ number)
  queue_next number x has e = chain_next (next_at blocks ends) (previous_at blocks ends) (owner_at blocks) object None ls number x queue.chain queue.distinct has e

  pub queue_last : (x : ℕ) → ends.last ≡ Some x → HasNumber ls x
  queue_last x e = elim (chain_last_in (next_at blocks ends) (previous_at blocks ends) (owner_at blocks) object None ls x queue.chain e) [
    | inl start ↦ absurd (none-some x start)
    | inr within ↦ within
  ]

  -- a queue none of whose blocks changed
  pub queue_kept : (blocks' : Slab Block) → ((k : ℕ) → HasNumber ls k → get blocks' k ≡ get blocks k) → IsQueue blocks' ends object ls
  queue_kept blocks' same = record {
    chain = chain_kept (next_at blocks ends) (previous_at blocks ends) (owner_at blocks) (next_at blocks' ends) (previous_at blocks' ends) (owner_at blocks') object None ls refl refl (λ k has. (ap next_of (same k has), ap previous_of (same k has), ap owner_of (same k has))) queue.chain;
    distinct = queue.distinct;
  }

-- a change of one block leaves what stands after and before the others
next_at-update : (old new : Slab Block) (ends : Ends) (number : ℕ) (slot : Option Block) → Updates old new number slot → (x : Option ℕ) → x ≢ Some number → next_at new ends x ≡ next_at old ends x
next_at-update old new ends number slot update None differs = refl
next_at-update old new ends number slot update (Some k) differs = ap next_of (update.others k (λ e. differs (ap Some e)))

previous_at-update : (old new : Slab Block) (ends : Ends) (number : ℕ) (slot : Option Block) → Updates old new number slot → (x : Option ℕ) → x ≢ Some number → previous_at new ends x ≡ previous_at old ends x
previous_at-update old new ends number slot update None differs = refl
previous_at-update old new ends number slot update (Some k) differs = ap previous_of (update.others k (λ e. differs (ap Some e)))

next_at-ends : (blocks : Slab Block) (ends ends' : Ends) → ends'.first ≡ ends.first → (x : Option ℕ) → next_at blocks ends' x ≡ next_at blocks ends x
next_at-ends blocks ends ends' same None = same
next_at-ends blocks ends ends' same (Some k) = refl

previous_at-ends : (blocks : Slab Block) (ends ends' : Ends) → ends'.last ≡ ends.last → (x : Option ℕ) → previous_at blocks ends' x ≡ previous_at blocks ends x
previous_at-ends blocks ends ends' same None = same
previous_at-ends blocks ends ends' same (Some k) = refl

-- a block is taken out, and then its neighbours are made to name each other
module _ (old gone : Slab Block) (ends : Ends) (object : ℕ) (ls : List Link) (number : ℕ) (block : Block)
    (queue : IsQueue old ends object ls)
    (has : HasNumber ls number)
    (was : get old number ≡ Some block)
    (removed : Updates old gone number None) where
  before_is : previous_at old ends (Some number) ≡ block.previous
  before_is = ap previous_of was

  after_is : next_at old ends (Some number) ≡ block.next
  after_is = ap next_of was

  pub previous_there : (x : ℕ) → block.previous ≡ Some x → ContainsKey gone x
  previous_there x e =
      let found = queue_previous old ends object ls queue number x has (before_is ∙ e) in
      rw (removed.others x found.1) (queue_present old ends object ls queue x found.0)

  pub next_there : (mid : Slab Block) → ((k : ℕ) → owner_at mid k ≡ owner_at gone k) → (x : ℕ) → block.next ≡ Some x → ContainsKey mid x
  next_there mid owners x e =
      let found = queue_next old ends object ls queue number x has (after_is ∙ e) in
      present_by_owner (get gone x) (get mid x) (owners x) (rw (removed.others x found.1) (queue_present old ends object ls queue x found.0))

  -- the thread of the block after is what it was
  pub next_thread : (mid : Slab Block) → ((k : ℕ) → owner_at mid k ≡ owner_at gone k) → option_map (λ k. thread_of (get mid k)) block.next ≡ option_map (λ k. thread_of (get old k)) (next_of (get old number))
  next_thread mid owners = go block.next refl ∙ ap (option_map (λ k. thread_of (get old k))) (sym after_is)
    where
      go : (o : Option ℕ) → block.next ≡ o → option_map (λ k. thread_of (get mid k)) o ≡ option_map (λ k. thread_of (get old k)) o
      go None e = refl
      go (Some x) e =
          let found = queue_next old ends object ls queue number x has (after_is ∙ e) in
          ap Some (thread_by_owner (get gone x) (get mid x) (owners x) ∙ ap thread_of (removed.others x found.1))

  module _ (mid new : Slab Block) (ends_mid ends_new ends_last : Ends)
      (written : next_at mid ends_mid block.previous ≡ block.next)
      (others : (x : Option ℕ) → x ≢ block.previous → next_at mid ends_mid x ≡ next_at gone ends x)
      (backward : (x : Option ℕ) → previous_at mid ends_mid x ≡ previous_at gone ends x)
      (owners : (k : ℕ) → owner_at mid k ≡ owner_at gone k)
      (written_back : previous_at new ends_new block.next ≡ block.previous)
      (others_back : (x : Option ℕ) → x ≢ block.next → previous_at new ends_new x ≡ previous_at mid ends_mid x)
      (forward : (x : Option ℕ) → next_at new ends_new x ≡ next_at mid ends_mid x)
      (owners_again : (k : ℕ) → owner_at new k ≡ owner_at mid k)
      (first_kept : ends_last.first ≡ ends_new.first)
      (last_kept : ends_last.last ≡ ends_new.last) where
    pub queue_detached : IsQueue new ends_last object (without number ls)
    queue_detached =
        let next_is = next_at-ends new ends_new ends_last first_kept in
        let previous_is = previous_at-ends new ends_new ends_last last_kept in
        record {
          chain = chain_unlinked (next_at old ends) (previous_at old ends) (owner_at old) (next_at new ends_last) (previous_at new ends_last) (owner_at new) object number
              (rw (before_is, after_is) (next_is block.previous ∙ forward block.previous ∙ written))
              (λ x apart differs. next_is x ∙ forward x ∙ others x (λ e. apart (e ∙ sym before_is)) ∙ next_at-update old gone ends number None removed x differs)
              (rw (before_is, after_is) (previous_is block.next ∙ written_back))
              (λ x apart differs. previous_is x ∙ others_back x (λ e. apart (e ∙ sym after_is)) ∙ backward x ∙ previous_at-update old gone ends number None removed x differs)
              (λ k differs. owners_again k ∙ owners k ∙ ap owner_of (removed.others k differs))
              None ls has (λ e. none-some number e) (λ k _ e. none-some k e) queue.distinct queue.chain;
          distinct = AreNumbersOnce-without number ls queue.distinct;
        }

  -- a block of another object is none of those that were reached
  pub detached_elsewhere : (mid new : Slab Block) → ((k : ℕ) → Some k ≢ block.previous → get mid k ≡ get gone k) → ((k : ℕ) → Some k ≢ block.next → get new k ≡ get mid k) → (k : ℕ) → ((thread : ℕ) → owner_at old k ≢ Some (thread, object)) → get new k ≡ get old k
  detached_elsewhere mid new kept kept_again k foreign =
      let outside : (m : ℕ) → HasNumber ls m → k ≢ m = λ m within e. let whose = queue_owner old ends object ls queue m within in foreign whose.0 (rw e whose.1) in
      kept_again k (λ e. outside k (queue_next old ends object ls queue number k has (after_is ∙ sym e)).0 refl)
      ∙ kept k (λ e. outside k (queue_previous old ends object ls queue number k has (before_is ∙ sym e)).0 refl)
      ∙ removed.others k (λ e. outside number has e)

AreNumbersOnce-push : (ls : List Link) (link : Link) → (HasNumber ls link.number → ⊥) → AreNumbersOnce ls → AreNumbersOnce (ls ++ link ∷ [])
AreNumbersOnce-push [] link fresh distinct = (λ h. h, tt)
AreNumbersOnce-push (first ∷ ls) link fresh distinct =
    (λ has. elim (HasNumber-push ls link first.number has) [ inl before ↦ distinct.0 before | inr here ↦ fresh (inl (sym here)) ], AreNumbersOnce-push ls link (λ has. fresh (inr has)) distinct.1)
  where
    HasNumber-push : (ls : List Link) (link : Link) (k : ℕ) → HasNumber (ls ++ link ∷ []) k → HasNumber ls k ⊎ (link.number ≡ k)
    HasNumber-push [] link k (inl here) = inr here
    HasNumber-push [] link k (inr later) = absurd later
    HasNumber-push (first ∷ ls) link k (inl here) = inl (inl here)
    HasNumber-push (first ∷ ls) link k (inr later) = elim (HasNumber-push ls link k later) [ inl before ↦ inl (inr before) | inr last ↦ inr last ]

-- a block is put under a new number, and then the last one is made to name it
module _ (old put : Slab Block) (ends : Ends) (object thread : ℕ) (ls : List Link) (number : ℕ)
    (queue : IsQueue old ends object ls)
    (vacant : get old number ≡ None)
    (stored : Updates old put number (Some (record { thread = thread; object = object; previous = ends.last; next = None }))) where
  fresh_number : HasNumber ls number → ⊥
  fresh_number has = let there = queue_present old ends object ls queue number has in let gone : IsSome {T = Block} None = rw vacant at there in false≢true gone

  last_differs : (x : ℕ) → ends.last ≡ Some x → x ≢ number
  last_differs x e same = fresh_number (rw same at (queue_last old ends object ls queue x e))

  pub last_there : (x : ℕ) → ends.last ≡ Some x → ContainsKey put x
  last_there x e = rw (stored.others x (last_differs x e)) (queue_present old ends object ls queue x (queue_last old ends object ls queue x e))

  module _ (mid : Slab Block) (ends_mid ends_last : Ends)
      (written : next_at mid ends_mid ends.last ≡ Some number)
      (others : (x : Option ℕ) → x ≢ ends.last → next_at mid ends_mid x ≡ next_at put ends x)
      (backward : (x : Option ℕ) → previous_at mid ends_mid x ≡ previous_at put ends x)
      (owners : (k : ℕ) → owner_at mid k ≡ owner_at put k)
      (first_kept : ends_last.first ≡ ends_mid.first)
      (last_is : ends_last.last ≡ Some number) where
    pub queue_attached : IsQueue mid ends_last object (ls ++ record { number = number; thread = thread } ∷ [])
    queue_attached =
        let next_is = next_at-ends mid ends_mid ends_last first_kept in
        record {
          chain = chain_linked (next_at old ends) (previous_at old ends) (owner_at old) (next_at mid ends_last) (previous_at mid ends_last) (owner_at mid) object number thread
              (next_is ends.last ∙ written)
              (next_is (Some number) ∙ others (Some number) (λ e. last_differs number (sym e) refl) ∙ ap next_of stored.changed)
              (λ x apart differs. next_is x ∙ others x apart ∙ next_at-update old put ends number _ stored x differs)
              (backward (Some number) ∙ ap previous_of stored.changed)
              last_is
              (λ k differs. backward (Some k) ∙ ap previous_of (stored.others k differs))
              (owners number ∙ ap owner_of stored.changed)
              (λ k differs. owners k ∙ ap owner_of (stored.others k differs))
              None ls (λ e. none-some number e) fresh_number queue.chain;
          distinct = AreNumbersOnce-push ls (record { number = number; thread = thread }) fresh_number queue.distinct;
        }

  pub attached_elsewhere : (mid : Slab Block) → ((k : ℕ) → Some k ≢ ends.last → get mid k ≡ get put k) → (k : ℕ) → k ≢ number → ((t : ℕ) → owner_at old k ≢ Some (t, object)) → get mid k ≡ get old k
  attached_elsewhere mid kept k differs foreign =
      kept k (λ e. let whose = queue_owner old ends object ls queue k (queue_last old ends object ls queue k (sym e)) in foreign whose.0 whose.1)
      ∙ stored.others k differs

-- the last block is one of those after the first, if there are such
later_last : (next previous : Option ℕ → Option ℕ) (owner : ℕ → Option (ℕ × ℕ)) (object : ℕ) (at : Option ℕ) (second : Link) (ls : List Link) (x : ℕ) → IsChain next previous owner object at (second ∷ ls) → previous None ≡ Some x → HasNumber (second ∷ ls) x
later_last next previous owner object at second ls x chain e = elim (chain_last_in next previous owner object (Some second.number) ls x chain.3 e) [
  | inl start ↦ inl (same_Some second.number x start)
  | inr within ↦ inr within
]

-- one block alone, or none, is the first and the last
pub ends_same : (blocks : Slab Block) (ends : Ends) (object : ℕ) (ls : List Link) → IsQueue blocks ends object ls → length ls ≤ 1 → ends.first ≡ ends.last
ends_same blocks ends object [] queue few = queue.chain.0 ∙ sym queue.chain.1
ends_same blocks ends object (only ∷ []) queue few = queue.chain.0 ∙ sym queue.chain.3.1
ends_same blocks ends object (first ∷ second ∷ ls) queue few = absurd (omega (arith, few))

-- of two blocks or more the first is not the last
pub ends_differ : (blocks : Slab Block) (ends : Ends) (object : ℕ) (ls : List Link) → IsQueue blocks ends object ls → 2 ≤ length ls → ends.first ≢ ends.last
ends_differ blocks ends object [] queue many same = omega (arith, many)
ends_differ blocks ends object (only ∷ []) queue many same = omega (arith, many)
ends_differ blocks ends object (first ∷ second ∷ ls) queue many same =
    queue.distinct.0 (later_last (next_at blocks ends) (previous_at blocks ends) (owner_at blocks) object (Some first.number) second ls first.number queue.chain.3 (sym same ∙ queue.chain.0))
