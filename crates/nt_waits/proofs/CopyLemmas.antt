-- A copy of the blocks, the ends and the places.
use Rattle.std.proofs.Common.{◌≡◌, ℕ, List, [], ◌∷◌, length, get_or, map, Option, Some, None, refl, sym, ap, subst, ◌∙◌, inl, inr, arith}
use Rattle.std.proofs.lemmas.Bool.{cases_lt}
use Rattle.std.proofs.lemmas.List.{get_or_past}
use Rattle.std.proofs.lemmas.Option.{same_Some, none-some}
use Rattle.std.proofs.lemmas.List.Elements.{AllZip-get_or, length_all_zip}
use Rattle.std.specs.List.{AllZip, each_same}
use Rattle.std.specs.Option.{option_map}
use Rattle.std.specs.Cmp.{nat_cmp_total}
use Rattle.std.specs.FinMap as finmap
use Rattle.slab.specs.Slab.{Slab, IsSlotClone, IsSlabClone}
use Rattle.nt_waits.specs.declared.block.Block.{Block}
use Rattle.nt_waits.specs.declared.block.Ends.{Ends}
use Rattle.nt_waits.specs.declared.wait.Wait.{Wait}
use Rattle.nt_waits.specs.declared.pending.Pending.{Pending}
use Rattle.nt_waits.specs.Queue.{links}
use Rattle.nt_waits.specs.Queues.{Lists}
use Rattle.nt_waits.specs.Table.{slot_at, waits_of, IsLinked, IsTable}
use Rattle.nt_waits.specs.Waits.{Names}
use Rattle.nt_waits.specs.Pending.{IsCopy}
use Rattle.nt_waits.specs.Slot.{IsSlotCopy}
use Rattle.nt_waits.specs.Deadlines.{deadline_in}
use Rattle.nt_waits.proofs.DeadlineLemmas.{AreAlarmed}
use Rattle.nt_waits.proofs.ViewLemmas.{get-waits}
use Rattle.nt_waits.specs.Sound.{IsSound}
use Rattle.nt_waits.proofs.SoundLemmas.{sound_kept}

slots_copied : (slots copy : List (Option Block)) → AllZip (IsSlotClone (λ (block other : Block). other ≡ block)) slots copy → copy ≡ slots
slots_copied [] [] same = refl
slots_copied [] (c ∷ copy) same = absurd same
slots_copied (s ∷ slots) [] same = absurd same
slots_copied (None ∷ slots) (c ∷ copy) same = let rest = slots_copied slots copy same.1 in let here = same.0 in cc
slots_copied (Some b ∷ slots) (None ∷ copy) same = absurd same.0
slots_copied (Some b ∷ slots) (Some c ∷ copy) same = let rest = slots_copied slots copy same.1 in let here = same.0 in cc

module _ (blocks blocks' : Slab Block) (ends ends' : List Ends)
    (cloned : IsSlabClone (λ (block other : Block). other ≡ block) blocks blocks')
    (copied : AllZip (λ (e other : Ends). other ≡ e) ends ends') where
  same_slots : blocks'.slots ≡ blocks.slots
  same_slots = slots_copied blocks.slots blocks'.slots cloned.slots

  pub sound_copied : IsSound blocks ends → IsSound blocks' ends'
  sound_copied sound = rw (each_same ends ends' copied) (sound_kept blocks blocks' ends sound (λ k. ap (λ (slots : List (Option Block)). get_or slots k None) same_slots))

  pub lists_copied : map (links blocks') ends' ≡ map (links blocks) ends
  lists_copied = rw (each_same ends ends' copied) (ap (λ (slots : List (Option Block)). map (links (record blocks { slots = slots })) ends) same_slots)

-- what holds of clones, place by place, holds at each thread
pub slots_cloned : (slots copy : List (Option Pending)) → AllZip IsSlotCopy slots copy → (t : ℕ) → IsSlotCopy (slot_at slots t) (slot_at copy t)
slots_cloned slots copy same t = elim (cases_lt t (length slots)) [
  | inl below ↦ AllZip-get_or IsSlotCopy slots copy t None None same below
  | inr past ↦ rw (get_or_past slots t None past) (get_or_past copy t None (omega (arith, length_all_zip IsSlotCopy slots copy same)))
]

module _ (old new : Lists) (slots copy : List (Option Pending))
    (lists : new.lists ≡ old.lists)
    (same : (t : ℕ) → IsSlotCopy (slot_at slots t) (slot_at copy t)) where
  shown_same : (t : ℕ) → option_map (λ p. p.wait) (slot_at copy t) ≡ option_map (λ p. p.wait) (slot_at slots t)
  shown_same t = go (slot_at slots t) (slot_at copy t) (same t)
    where
      go : (slot other : Option Pending) → IsSlotCopy slot other → option_map (λ (p : Pending). p.wait) other ≡ option_map (λ (p : Pending). p.wait) slot
      go None other e = rw e refl
      go (Some p) None e = absurd e
      go (Some p) (Some q) e = ap Some e.0

  -- the copy shows the same waits
  pub waits-copied : waits_of copy ≡ waits_of slots
  waits-copied = finmap.same_map nat_cmp_total finmap.nat_cmp-IsAntisymmetric _ _ (λ q. get-waits copy q ∙ shown_same q ∙ sym (get-waits slots q))

  -- what stands in a place of the copy, and what it is a copy of
  original : (t : ℕ) (p : Pending) → slot_at copy t ≡ Some p → (q : Pending) × (slot_at slots t ≡ Some q) × IsCopy q p
  original t p e = go (slot_at slots t) (slot_at copy t) (same t) e
    where
      go : (slot other : Option Pending) → IsSlotCopy slot other → other ≡ Some p → (q : Pending) × (slot ≡ Some q) × IsCopy q p
      go None other is e = absurd (none-some p (sym is ∙ e))
      go (Some q) None is e = absurd is
      go (Some q) (Some r) is e = (q, refl, subst (IsCopy q) (same_Some r p e) is)

  copied_slot : (t : ℕ) (q : Pending) → slot_at slots t ≡ Some q → (p : Pending) × (slot_at copy t ≡ Some p) × IsCopy q p
  copied_slot t q e = go (slot_at slots t) (slot_at copy t) (same t) e
    where
      go : (slot other : Option Pending) → IsSlotCopy slot other → slot ≡ Some q → (p : Pending) × (other ≡ Some p) × IsCopy q p
      go None other is e = absurd (none-some q e)
      go (Some r) None is e = absurd is
      go (Some r) (Some p) is e = (p, refl, subst (λ (r : Pending). IsCopy r p) (same_Some r q e) is)

  linked_copy : (t : ℕ) (q p : Pending) → IsCopy q p → IsLinked old t q → IsLinked new t p
  linked_copy t q p is was = record {
    same_length = rw (is.1, is.0) was.same_length;
    few = rw is.0 was.few;
    apart = rw is.0 was.apart;
    linked = rw (is.0, is.1, lists) was.linked;
  }

  pub table_copied : length copy ≡ length slots → IsTable old slots → IsTable new copy
  table_copied long table = record {
    linked = λ t p e. let from = original t p e in linked_copy t from.0 p from.2 (table.linked t from.0 from.1);
    owned = λ h link has.
        let owner = table.owned h link (rw lists at has) in
        let now = copied_slot link.thread owner.0 owner.1 in
        (now.0, now.1, subst (λ (w : Wait). Names w h) (sym now.2.0) owner.2);
    distinct = rw lists table.distinct;
    once = rw lists table.once;
    small = rw long table.small;
  }

  -- the alarms of the waits are those of the copy
  pub alarmed_copied : (deadlines : List (Option ℕ)) → AreAlarmed deadlines slots → AreAlarmed deadlines copy
  alarmed_copied deadlines alarmed t = alarmed t ∙ ap deadline_in (sym (shown_same t))
