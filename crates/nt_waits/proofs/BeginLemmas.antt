-- The table after one thread's blocks were linked.
use Rattle.std.proofs.Common.{◌≡◌, ◌≢◌, ◌<◌, ◌≤◌, ◌⊎◌, ℕ, List, [], ◌∷◌, ◌++◌, length, get_or, set, Option, Some, None, refl, sym, ap, ◌∙◌, inl, inr, arith, length-set, Contains}
use Rattle.std.proofs.lemmas.Bool.{cases_eq}
use Rattle.std.proofs.lemmas.List.{get_or-set_same, get_or-set_other, map-append}
use Rattle.std.proofs.lemmas.Option.{same_Some, none-some}
use Rattle.std.specs.Prelude.{nat_eq}
use Rattle.std.specs.List.{IsDistinct}
use Rattle.nt_status.specs.declared.limits.TheConstants.{MAX_WAIT_OBJECTS}
use Rattle.nt_waits.specs.declared.pending.Pending.{Pending}
use Rattle.nt_waits.specs.Link.{Link, AreNumbersOnce}
use Rattle.nt_waits.specs.Queues.{Lists, list_at}
use Rattle.nt_waits.specs.Steps.{AreLinked}
use Rattle.nt_waits.specs.Table.{HasLink, threads, slot_at, IsLinked, IsTable}
use Rattle.nt_status.proofs.Lists.{distinct_push}
use Rattle.nt_waits.specs.Waits.{Names}
use Rattle.nt_waits.proofs.TableLemmas.{link_of_member, find_place}

HasLink-before : (ls more : List Link) (link : Link) → HasLink ls link → HasLink (ls ++ more) link
HasLink-before [] more link has = absurd has
HasLink-before (first ∷ ls) more link (inl here) = inl here
HasLink-before (first ∷ ls) more link (inr later) = inr (HasLink-before ls more link later)

HasLink-last : (ls : List Link) (link : Link) → HasLink (ls ++ link ∷ []) link
HasLink-last [] link = inl refl
HasLink-last (first ∷ ls) link = inr (HasLink-last ls link)

HasLink-cases : (ls : List Link) (last link : Link) → HasLink (ls ++ last ∷ []) link → HasLink ls link ⊎ (last ≡ link)
HasLink-cases [] last link (inl here) = inr here
HasLink-cases [] last link (inr later) = absurd later
HasLink-cases (first ∷ ls) last link (inl here) = inl (inl here)
HasLink-cases (first ∷ ls) last link (inr later) = elim (HasLink-cases ls last link later) [ inl before ↦ inl (inr before) | inr here ↦ inr here ]

module _ (old new : Lists) (slots : List (Option Pending)) (thread : ℕ) (pending : Pending)
    (table : IsTable old slots)
    (free : slot_at slots thread ≡ None)
    (within : thread < length slots)
    (same_length : length pending.numbers.items ≡ length pending.wait.objects)
    (few : length pending.wait.objects ≤ MAX_WAIT_OBJECTS)
    (apart : IsDistinct nat_eq pending.wait.objects)
    (linked : AreLinked old new thread pending.wait.objects pending.numbers.items (length pending.wait.objects))
    (distinct : (h : ℕ) → AreNumbersOnce (list_at new h)) where
  -- no block is of the thread yet
  owner_differs : (h : ℕ) (link : Link) → HasLink (list_at old h) link → link.thread ≢ thread
  owner_differs h link has same = let owner = table.owned h link has in none-some owner.0 (sym free ∙ ap (slot_at slots) (sym same) ∙ owner.1)

  queue_now : (h : ℕ) → ((j : ℕ) × (j < length pending.wait.objects) × (get_or pending.wait.objects j 0 ≡ h) × (list_at new h ≡ list_at old h ++ record { number = get_or pending.numbers.items j 0; thread = thread } ∷ [])) ⊎ (list_at new h ≡ list_at old h)
  queue_now h = elim (find_place pending.wait.objects (length pending.wait.objects) h) [
    | inl found ↦ inl (found.0, found.1, found.2, rw (← found.2) (linked.done found.0 found.1))
    | inr outside ↦ inr (linked.others h outside)
  ]

  still_linked : (h : ℕ) (link : Link) → HasLink (list_at old h) link → HasLink (list_at new h) link
  still_linked h link has = elim (queue_now h) [
    | inl named ↦ rw named.3 (HasLink-before (list_at old h) _ link has)
    | inr kept ↦ rw kept has
  ]

  slot_here : slot_at (set slots thread (Some pending)) thread ≡ Some pending
  slot_here = get_or-set_same slots thread (Some pending) None within

  slot_other : (t : ℕ) → t ≢ thread → slot_at (set slots thread (Some pending)) t ≡ slot_at slots t
  slot_other t differs = get_or-set_other slots thread t (Some pending) None differs

  linked_now : (t : ℕ) (p : Pending) → slot_at (set slots thread (Some pending)) t ≡ Some p → IsLinked new t p
  linked_now t p e = elim (cases_eq t thread) [
    | inl same ↦
        let here : pending ≡ p = same_Some pending p (sym slot_here ∙ ap (slot_at (set slots thread (Some pending))) (sym same) ∙ e) in
        rw (← here, same) (record {
          same_length = same_length;
          few = few;
          apart = apart;
          linked = λ j below. rw (linked.done j below) (HasLink-last (list_at old (get_or pending.wait.objects j 0)) (record { number = get_or pending.numbers.items j 0; thread = thread }));
        })
    | inr differs ↦
        let was = table.linked t p (sym (slot_other t differs) ∙ e) in
        record {
          same_length = was.same_length;
          few = was.few;
          apart = was.apart;
          linked = λ j below. still_linked (get_or p.wait.objects j 0) (record { number = get_or p.numbers.items j 0; thread = t }) (was.linked j below);
        }
  ]

  owned_before : (h : ℕ) (link : Link) → HasLink (list_at old h) link → (p : Pending) × (slot_at (set slots thread (Some pending)) link.thread ≡ Some p) × Names p.wait h
  owned_before h link has = let owner = table.owned h link has in (owner.0, slot_other link.thread (owner_differs h link has) ∙ owner.1, owner.2)

  owned_now : (h : ℕ) (link : Link) → HasLink (list_at new h) link → (p : Pending) × (slot_at (set slots thread (Some pending)) link.thread ≡ Some p) × Names p.wait h
  owned_now h link has = elim (queue_now h) [
    | inl named ↦ elim (HasLink-cases (list_at old h) (record { number = get_or pending.numbers.items named.0 0; thread = thread }) link (rw named.3 at has)) [
      | inl before ↦ owned_before h link before
      | inr here ↦ (pending, ap (λ l. slot_at (set slots thread (Some pending)) l.thread) (sym here) ∙ slot_here, (named.0, named.1, named.2))
    ]
    | inr kept ↦ owned_before h link (rw kept at has)
  ]

  once_now : (h : ℕ) → IsDistinct nat_eq (threads (list_at new h))
  once_now h = elim (queue_now h) [
    | inl named ↦
        let fresh : Contains (threads (list_at old h)) thread → ⊥ = λ member. let link = link_of_member (list_at old h) thread member in owner_differs h link.0 link.1 link.2 in
        rw (named.3, map-append (λ (l : Link). l.thread) (list_at old h) _) (distinct_push (threads (list_at old h)) thread (table.once h) fresh)
    | inr kept ↦ rw kept (table.once h)
  ]

  pub table_begun : IsTable new (set slots thread (Some pending))
  table_begun = record {
    linked = linked_now;
    owned = owned_now;
    distinct = distinct;
    once = once_now;
    small = let same = length-set slots thread (Some pending) in let small = table.small in omega (arith, same, small);
  }

-- lists and places that show the same
pub table_same : (old new : Lists) (slots slots' : List (Option Pending)) → ((h : ℕ) → list_at new h ≡ list_at old h) → ((u : ℕ) → slot_at slots' u ≡ slot_at slots u) → length slots' ≤ 65536 → IsTable old slots → IsTable new slots'
table_same old new slots slots' lists_same slots_same small table = record {
  linked = λ t p e. let was = table.linked t p (sym (slots_same t) ∙ e) in record {
    same_length = was.same_length;
    few = was.few;
    apart = was.apart;
    linked = λ j below. rw (lists_same (get_or p.wait.objects j 0)) (was.linked j below);
  };
  owned = λ h link has. let owner = table.owned h link (rw (lists_same h) at has) in (owner.0, slots_same link.thread ∙ owner.1, owner.2);
  distinct = λ h. rw (lists_same h) (table.distinct h);
  once = λ h. rw (lists_same h) (table.once h);
  small = small;
}

-- one object is named once
pub one_once : (object : ℕ) → IsDistinct nat_eq (object ∷ [])
unfolding IsDistinct
one_once object = (tt, tt)
