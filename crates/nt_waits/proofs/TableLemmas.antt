-- The table after the blocks of one thread were unlinked.
use Rattle.std.proofs.Common.{◌≡◌, ◌≢◌, ◌<◌, ◌⊎◌, ℕ, zero, suc, List, [], ◌∷◌, length, get_or, set, Option, Some, None, refl, sym, ap, ◌∙◌, inl, inr, arith, length-set, Contains, nat_eq}
use Rattle.std.proofs.lemmas.Bool.{cases_lt, cases_eq, false≢true}
use Rattle.std.proofs.lemmas.List.{get_or-set_same, get_or-set_other, get_or_past}
use Rattle.std.proofs.lemmas.Map.Keys.{IsDistinct-tail}
use Rattle.std.proofs.lemmas.Option.{same_Some, none-some}
use Rattle.std.specs.Prelude.{IsSome}
use Rattle.std.specs.List.{IsDistinct}
use Rattle.nt_waits.specs.declared.pending.Pending.{Pending}
use Rattle.nt_waits.specs.Link.{Link, HasNumber, AreNumbersOnce, without}
use Rattle.nt_waits.specs.Queues.{Lists, list_at}
use Rattle.nt_waits.specs.Steps.{IsOutside, AreUnlinked}
use Rattle.nt_waits.specs.Table.{HasLink, threads, slot_at, IsLinked, IsTable}
use Rattle.nt_status.proofs.Lists.{contains_none, contains_first, contains_later, contains_cases, contains_same, distinct_first}
use Rattle.nt_waits.specs.Waits.{others}
use Rattle.nt_waits.proofs.ChainLemmas.{same_test, other_test}
use Rattle.nt_waits.proofs.OthersLemmas.{others_absent, once_others}

pub HasNumber-link : (ls : List Link) (link : Link) → HasLink ls link → HasNumber ls link.number
HasNumber-link [] link has = absurd has
HasNumber-link (first ∷ ls) link (inl here) = inl (ap (λ l. l.number) here)
HasNumber-link (first ∷ ls) link (inr later) = inr (HasNumber-link ls link later)

pub Contains-link : (ls : List Link) (link : Link) → HasLink ls link → Contains (threads ls) link.thread
Contains-link [] link has = absurd has
Contains-link (first ∷ ls) link (inl here) = contains_first first.thread (threads ls) link.thread (ap (λ l. l.thread) here)
Contains-link (first ∷ ls) link (inr later) = contains_later first.thread (threads ls) link.thread (Contains-link ls link later)

pub link_of_member : (ls : List Link) (thread : ℕ) → Contains (threads ls) thread → (link : Link) × HasLink ls link × (link.thread ≡ thread)
link_of_member [] thread member = absurd (contains_none thread member)
link_of_member (first ∷ ls) thread member = elim (contains_cases first.thread (threads ls) thread member) [
  | inl here ↦ (first, inl refl, here)
  | inr later ↦ let found = link_of_member ls thread later in (found.0, inr found.1, found.2)
]

-- a link that stays is an old one, and not the one that was taken out
pub HasLink-without : (number : ℕ) (ls : List Link) (link : Link) → AreNumbersOnce ls → HasLink (without number ls) link → HasLink ls link × (link.number ≢ number)
HasLink-without number [] link distinct = λ has. absurd has
HasLink-without number (first ∷ ls) link distinct = elim (cases_eq first.number number) [
  | inl same ↦ rw (same_test first.number number same) (λ has. (inr has, λ e. distinct.0 (rw (same ∙ sym e) (HasNumber-link ls link has))))
  | inr differs ↦ rw (other_test first.number number differs) (λ has. elim has [
    | inl here ↦ (inl here, λ e. differs (ap (λ l. l.number) here ∙ e))
    | inr later ↦ let rest = HasLink-without number ls link distinct.1 later in (inr rest.0, rest.1)
  ])
]

-- and each other link stays
pub HasLink-stays : (number : ℕ) (ls : List Link) (link : Link) → link.number ≢ number → HasLink ls link → HasLink (without number ls) link
HasLink-stays number [] link differs has = absurd has
HasLink-stays number (first ∷ ls) link differs has = elim (cases_eq first.number number) [
  | inl same ↦ rw (same_test first.number number same) (elim has [ inl here ↦ absurd (differs (ap (λ l. l.number) (sym here) ∙ same)) | inr later ↦ later ])
  | inr apart ↦ rw (other_test first.number number apart) (elim has [ inl here ↦ inl here | inr later ↦ inr (HasLink-stays number ls link differs later) ])
]

-- without its block, a thread is out of the queue, and the others keep their order
pub threads-without : (number thread : ℕ) (ls : List Link) → HasLink ls (record { number = number; thread = thread }) → AreNumbersOnce ls → IsDistinct nat_eq (threads ls) → threads (without number ls) ≡ others thread (threads ls)
threads-without number thread [] has distinct once = absurd has
threads-without number thread (first ∷ ls) (inl here) distinct once =
    let same : first.thread ≡ thread = ap (λ l. l.thread) here in
    rw (same_test first.number number (ap (λ l. l.number) here), same_test first.thread thread same) (sym (others_absent thread (threads ls) (λ m. distinct_first first.thread (threads ls) once (contains_same (threads ls) thread first.thread (sym same) m))))
threads-without number thread (first ∷ ls) (inr later) distinct once =
    let link : Link = record { number = number; thread = thread } in
    let apart : first.number ≢ number = λ e. distinct.0 (rw e (HasNumber-link ls link later)) in
    let differs : first.thread ≢ thread = λ e. distinct_first first.thread (threads ls) once (contains_same (threads ls) thread first.thread (sym e) (Contains-link ls link later)) in
    rw (other_test first.number number apart, other_test first.thread thread differs) (ap (λ q. first.thread ∷ q) (threads-without number thread ls later distinct.1 (IsDistinct-tail nat_eq first.thread (threads ls) once)))

-- two links with one number, or of one thread, are one
link_of_number : (ls : List Link) (a b : Link) → AreNumbersOnce ls → HasLink ls a → HasLink ls b → a.number ≡ b.number → a ≡ b
link_of_number [] a b distinct has_a has_b same = absurd has_a
link_of_number (first ∷ ls) a b distinct (inl here) (inl there) same = sym here ∙ there
link_of_number (first ∷ ls) a b distinct (inl here) (inr there) same = absurd (distinct.0 (rw (ap (λ l. l.number) here, same) (HasNumber-link ls b there)))
link_of_number (first ∷ ls) a b distinct (inr here) (inl there) same = absurd (distinct.0 (rw (ap (λ l. l.number) there, ← same) (HasNumber-link ls a here)))
link_of_number (first ∷ ls) a b distinct (inr here) (inr there) same = link_of_number ls a b distinct.1 here there same

link_of_thread : (ls : List Link) (a b : Link) → IsDistinct nat_eq (threads ls) → HasLink ls a → HasLink ls b → a.thread ≡ b.thread → a ≡ b
link_of_thread [] a b once has_a has_b same = absurd has_a
link_of_thread (first ∷ ls) a b once (inl here) (inl there) same = sym here ∙ there
link_of_thread (first ∷ ls) a b once (inl here) (inr there) same = absurd (distinct_first first.thread (threads ls) once (rw (ap (λ l. l.thread) here, same) (Contains-link ls b there)))
link_of_thread (first ∷ ls) a b once (inr here) (inl there) same = absurd (distinct_first first.thread (threads ls) once (rw (ap (λ l. l.thread) there, ← same) (Contains-link ls a here)))
link_of_thread (first ∷ ls) a b once (inr here) (inr there) same = link_of_thread ls a b (IsDistinct-tail nat_eq first.thread (threads ls) once) here there same

-- one of the first objects is this one, or none is
pub find_place : (objects : List ℕ) (count object : ℕ) → ((j : ℕ) × (j < count) × (get_or objects j 0 ≡ object)) ⊎ IsOutside objects count object
find_place objects zero object = inr (λ j below. absurd (omega arith))
find_place objects (suc count) object = elim (cases_eq (get_or objects count 0) object) [
  | inl here ↦ inl (count, omega arith, here)
  | inr not_here ↦ elim (find_place objects count object) [
    | inl found ↦ inl (found.0, omega (arith, found.1), found.2)
    | inr outside ↦ inr (λ j below. elim (cases_eq j count) [ inl last ↦ rw last not_here | inr earlier ↦ outside j (omega arith) ])
  ]
]

pub slot_within : (slots : List (Option Pending)) (thread : ℕ) → IsSome (slot_at slots thread) → thread < length slots
slot_within slots thread there = elim (cases_lt thread (length slots)) [
  | inl below ↦ below
  | inr past ↦ let gone : IsSome {T = Pending} None = rw (get_or_past slots thread None past) at there in absurd (false≢true gone)
]

-- the counts of the queues changed before
pub unlinked_from : (old mid new : Lists) (objects numbers : List ℕ) (count : ℕ) → mid.lists ≡ old.lists → AreUnlinked mid new objects numbers count → AreUnlinked old new objects numbers count
unlinked_from old mid new objects numbers count same unlinked = record {
  done = λ j below. rw (← same) (unlinked.done j below);
  others = λ h outside. rw (← same) (unlinked.others h outside);
}

module _ (old new : Lists) (slots : List (Option Pending)) (thread : ℕ) (pending : Pending)
    (table : IsTable old slots)
    (there : slot_at slots thread ≡ Some pending)
    (unlinked : AreUnlinked old new pending.wait.objects pending.numbers.items (length pending.wait.objects))
    (distinct : (h : ℕ) → AreNumbersOnce (list_at new h)) where
  mine : IsLinked old thread pending
  mine = table.linked thread pending there

  -- the queue of each object: one block less where the wait names it, and as it was elsewhere
  queue_cases : (h : ℕ) → ((j : ℕ) × (j < length pending.wait.objects) × (get_or pending.wait.objects j 0 ≡ h) × (list_at new h ≡ without (get_or pending.numbers.items j 0) (list_at old h)) × HasLink (list_at old h) (record { number = get_or pending.numbers.items j 0; thread = thread })) ⊎ ((list_at new h ≡ list_at old h) × (Contains (threads (list_at old h)) thread → ⊥))
  queue_cases h = elim (find_place pending.wait.objects (length pending.wait.objects) h) [
    | inl found ↦ inl (found.0, found.1, found.2, rw (← found.2) (unlinked.done found.0 found.1), rw (← found.2) (mine.linked found.0 found.1))
    | inr outside ↦ inr (
      unlinked.others h outside,
      λ member.
          let link = link_of_member (list_at old h) thread member in
          let owner = table.owned h link.0 link.1 in
          let same : owner.0 ≡ pending = same_Some owner.0 pending (sym owner.1 ∙ ap (slot_at slots) link.2 ∙ there) in
          outside owner.2.0 (rw same at owner.2.1) (rw same at owner.2.2),
    )
  ]

  pub threads_ended : (h : ℕ) → threads (list_at new h) ≡ others thread (threads (list_at old h))
  threads_ended h = elim (queue_cases h) [
    | inl named ↦ rw named.3 (threads-without (get_or pending.numbers.items named.0 0) thread (list_at old h) named.4 (table.distinct h) (table.once h))
    | inr kept ↦ rw kept.0 (sym (others_absent thread (threads (list_at old h)) kept.1))
  ]

  at_slot : (t : ℕ) (p : Pending) → slot_at (set slots thread None) t ≡ Some p → (t ≢ thread) × (slot_at slots t ≡ Some p)
  at_slot t p e = elim (cases_eq t thread) [
    | inl same ↦
        let emptied : slot_at (set slots thread None) t ≡ None = elim (cases_lt thread (length slots)) [
          | inl below ↦ rw same (get_or-set_same slots thread None None below)
          | inr past ↦ rw same (get_or_past (set slots thread None) thread None (omega (arith, length-set slots thread None)))
        ] in
        absurd (none-some p (sym emptied ∙ e))
    | inr differs ↦ (differs, sym (get_or-set_other slots thread t None None differs) ∙ e)
  ]

  linked_still : (t : ℕ) (p : Pending) → t ≢ thread → IsLinked old t p → IsLinked new t p
  linked_still t p differs was = record {
    same_length = was.same_length;
    few = was.few;
    apart = was.apart;
    linked = λ j below. elim (queue_cases (get_or p.wait.objects j 0)) [
      | inl named ↦ rw named.3 (HasLink-stays (get_or pending.numbers.items named.0 0) (list_at old (get_or p.wait.objects j 0)) (record { number = get_or p.numbers.items j 0; thread = t })
          (λ e. differs (ap (λ l. l.thread) (link_of_number (list_at old (get_or p.wait.objects j 0)) (record { number = get_or p.numbers.items j 0; thread = t }) (record { number = get_or pending.numbers.items named.0 0; thread = thread }) (table.distinct (get_or p.wait.objects j 0)) (was.linked j below) named.4 e)))
          (was.linked j below))
      | inr kept ↦ rw kept.0 (was.linked j below)
    ];
  }

  owned_still : (h : ℕ) (link : Link) → HasLink (list_at new h) link → HasLink (list_at old h) link × (link.thread ≢ thread)
  owned_still h link has = elim (queue_cases h) [
    | inl named ↦
        let mine_there : Link = record { number = get_or pending.numbers.items named.0 0; thread = thread } in
        let rest = HasLink-without (get_or pending.numbers.items named.0 0) (list_at old h) link (table.distinct h) (rw named.3 at has) in
        (rest.0, λ e. rest.1 (ap (λ l. l.number) (link_of_thread (list_at old h) link mine_there (table.once h) rest.0 named.4 e)))
    | inr kept ↦
        let was : HasLink (list_at old h) link = rw kept.0 at has in
        (was, λ e. kept.1 (rw (← e) (Contains-link (list_at old h) link was)))
  ]

  pub table_ended : IsTable new (set slots thread None)
  table_ended = record {
    linked = λ t p e. let found = at_slot t p e in linked_still t p found.0 (table.linked t p found.1);
    owned = λ h link has.
        let still = owned_still h link has in
        let owner = table.owned h link still.0 in
        (owner.0, get_or-set_other slots thread link.thread None None still.1 ∙ owner.1, owner.2);
    distinct = distinct;
    once = λ h. rw (threads_ended h) (once_others thread (threads (list_at old h)) (table.once h));
    small = let same = length-set slots thread None in let small = table.small in omega (arith, same, small);
  }
