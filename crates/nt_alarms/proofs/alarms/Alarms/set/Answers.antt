use Rattle.std.proofs.Common.{rules, ◌+◌, Some, None, sym, ap, ◌∙◌, ◌≡◌, ◌<◌, length, slice_set, arith, get_or-set_same, length-set}
use Rattle.std.proofs.lemmas.List.{set-set, with_items_is}
use Rattle.nt_alarms.specs.Alarms.{alarm_at}
use Rattle.nt_alarms.specs.Heap.{alarms_of}
use Rattle.nt_alarms.proofs.HeapLemmas.{length-alarms, rank_is_past}
use Rattle.nt_alarms.proofs.alarms.Alarms.set.Goals as goal

pub arm-requires-clause-in_range : goal.arm-requires-clause-in_range
arm-requires-clause-in_range c =
    let count : length c.clear.new.self ≡ length c.self.inside.moments.items =
    ap length (sym c.self.view_is) ∙ length-alarms _ _ _ c.self.invariant.sound.ranks_too in
    let lt = c.requires in
    rw c.deref_mut.ensures.value (omega (arith, ap length c.clear.ensures, length-set c.args.self.now c.args.place None))

pub arm-requires-clause-clear : goal.arm-requires-clause-clear
arm-requires-clause-clear c =
    let count : length c.clear.new.self ≡ length c.self.inside.moments.items =
    ap length (sym c.self.view_is) ∙ length-alarms _ _ _ c.self.invariant.sound.ranks_too in
    let none : alarm_at (alarms_of c.self.inside.armed c.self.inside.moments.items c.self.inside.ranks.items) c.args.place ≡ None =
    ap (λ alarms. alarm_at alarms c.args.place) (c.self.view_is ∙ c.clear.ensures) ∙ get_or-set_same c.args.self.now c.args.place None None c.requires in
    let lt = c.requires in
    rw c.deref_mut-2.ensures.value
    (rank_is_past _ _ _ c.args.place c.self.invariant.sound.ranks_too
    (omega (arith, ap length c.clear.ensures, length-set c.args.self.now c.args.place None)) none)

pub returns : goal.returns
returns c =
    let set : alarms_of (c.self.inside.armed + 1) c.arm.new.moments c.arm.new.ranks ≡ slice_set c.args.self.now c.args.place (Some c.args.moment) =
    c.arm.ensures.set
    ∙ rw (c.deref_mut.ensures.value, c.deref_mut-2.ensures.value)
    (ap (λ alarms. slice_set alarms c.args.place (Some c.args.moment)) (c.self.view_is ∙ c.clear.ensures)
    ∙ set-set c.args.self.now c.args.place None (Some c.args.moment)) in
    rw (with_items_is c.self.inside.moments c.arm.new.moments (search rules), with_items_is c.self.inside.ranks c.arm.new.ranks (search rules)) set
