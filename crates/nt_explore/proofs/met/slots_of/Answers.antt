use Rattle.std.proofs.Common.{◌≡◌, ◌+◌, ◌++◌, ℕ, List, length, replicate, take, drop, ap, sym, subst, ◌∙◌, arith}
use Rattle.std.proofs.lemmas.List.{length-replicate}
use Rattle.nt_explore.specs.Walk.{hash_at, used, AreInSlots}
use Rattle.nt_explore.proofs.Slots.{used_none, in_slots_none, in_slots_more, puts_length, puts_used, written}
use Rattle.nt_explore.proofs.met.slots_of.Goals as goal

pub loop-index-init : goal.loop-index-init
loop-index-init c =
    let count = c.saturating_add-count.result in
    let all : c.in_ok-slots.slots.items ≡ replicate count 0 = c.in_ok-slots.ensures.items_if_clones_equal (λ y e. e) in
    let none = ap used all ∙ used_none count in
    record {
      stand = in_slots_none c.args.visits.now c.in_ok-slots.slots.items;
      few = omega (arith, none);
      room = ap (λ (ns : List ℕ). length ns) all ∙ length-replicate count 0;
    }

pub loop-index-preserved : goal.loop-index-preserved
loop-index-preserved c =
    let l = c.loop-index in
    let read = c.deref_mut.result.now in
    let new = c.put.new.slots in
    let value = c.deref_mut.ensures.value in
    let hash = hash_at c.args.visits.now l.index in
    let same : length new ≡ length l.slots.items = puts_length read new hash (l.index + 1) c.put.ensures ∙ ap (λ (ns : List ℕ). length ns) value in
    let len : l.slots.len ≡ length l.slots.items = sym c.deref_mut.ensures.len ∙ ap (λ (ns : List ℕ). length ns) value in
    let left : take l.slots.len (new ++ drop (length new) l.slots.items) ≡ new = written l.slots.len l.slots.items new same len in
    let stand : AreInSlots c.args.visits.now (l.index + 1) new = in_slots_more c.args.visits.now l.index read new (subst (AreInSlots c.args.visits.now l.index) (sym value) l.invariant.stand) c.put.ensures in
    let more = puts_used read new hash (l.index + 1) c.put.ensures in
    let few = l.invariant.few in
    let before = ap used value in
    let after = ap used left in
    record {
      stand = subst (AreInSlots c.args.visits.now (l.index + 1)) (sym left) stand;
      few = omega (arith, more, few, before, after);
      room = ap (λ (ns : List ℕ). length ns) left ∙ (same ∙ l.invariant.room);
    }
