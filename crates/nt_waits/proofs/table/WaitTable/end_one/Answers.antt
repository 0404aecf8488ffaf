use Rattle.std.proofs.Common.{arith, subst, ap, sym, ◌∙◌}
use Rattle.std.specs.Prelude.{IsSome}
use Rattle.std.specs.Option.{option_map}
use Rattle.nt_waits.specs.declared.pending.Pending.{Pending}
use Rattle.nt_waits.specs.Table.{slot_at, waits_of}
use Rattle.nt_waits.specs.Waits.{Waits, wait_of}
use Rattle.nt_waits.proofs.ViewLemmas.{get-waits, IsSome-mapped}
use Rattle.nt_waits.proofs.EndedLemmas.{ends_wait, whole_ended}
use Rattle.nt_waits.proofs.AgreeLemmas.{agrees}
use Rattle.nt_waits.proofs.CountLemmas.{len-some}
use Rattle.nt_waits.proofs.table.WaitTable.end_one.Goals as goal

pub end_one_wait-requires-clause-there : goal.end_one_wait-requires-clause-there
end_one_wait-requires-clause-there c =
    let items = c.self.inside.waits.items in
    let shown = ap (λ v. wait_of v c.args.t) (sym c.self.view_is) ∙ get-waits items c.args.t in
    IsSome-mapped (slot_at items c.args.t) (rw shown at c.requires.there)

pub end_one_wait-requires-clause-one : goal.end_one_wait-requires-clause-one
end_one_wait-requires-clause-one c p is =
    let items = c.self.inside.waits.items in
    let shown = ap (λ v. wait_of v c.args.t) (sym c.self.view_is) ∙ get-waits items c.args.t in
    c.requires.one p.wait (shown ∙ ap (option_map (λ (q : Pending). q.wait)) is)

pub returns-clause-ended : goal.returns-clause-ended
returns-clause-ended c =
    let items = c.self.inside.waits.items in
    let shown = ap (λ v. wait_of v c.args.t) (sym c.self.view_is) ∙ get-waits items c.args.t in
    let there = IsSome-mapped (slot_at items c.args.t) (rw shown at c.requires.there) in
    ends_wait c.self.inside.queues c.end_one_wait.new.queues items c.end_one_wait.new.waits.items c.args.t c.end_one_wait.ensures.ended there c.self.inside.looked c.self.inside.room c.args.self.now c.self.view_is c.end_one_wait.ensures.touched

pub overflow_sub-others : goal.overflow_sub-others
overflow_sub-others c =
    let waits = waits_of c.self.inside.waits.items in
    let there = subst (λ (v : Waits). IsSome (wait_of v c.args.t)) (sym c.self.view_is) c.requires.there in
    omega (arith, c.self.invariant.counted, len-some waits c.args.t there)

pub invariant_of-self : goal.invariant_of-self
invariant_of-self c =
    let items = c.self.inside.waits.items in
    let shown = ap (λ v. wait_of v c.args.t) (sym c.self.view_is) ∙ get-waits items c.args.t in
    let there = subst (λ (v : Waits). IsSome (wait_of v c.args.t)) (sym c.self.view_is) c.requires.there in
    whole_ended c.self.inside.queues c.end_one_wait.new.queues items c.end_one_wait.new.waits.items c.args.t c.end_one_wait.ensures.ended (IsSome-mapped (slot_at items c.args.t) (rw shown at c.requires.there))
    c.self.inside.count c.self.inside.deadlines c.clear_alarm.new.alarms c.self.inside.room c.self.invariant there c.clear_alarm.ensures.here c.clear_alarm.ensures.others c.clear_alarm.ensures.places

pub returns-clause-agrees : goal.returns-clause-agrees
returns-clause-agrees c = agrees c.end_one_wait.new.queues c.end_one_wait.new.waits.items c.end_one_wait.ensures.ended.table
