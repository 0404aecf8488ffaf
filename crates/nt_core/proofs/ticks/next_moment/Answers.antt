use Rattle.std.proofs.Common.{◌<◌, ◌≤◌, ◌∙◌, ℕ, sym, subst, arith}
use Rattle.std.specs.Prelude.{Option}
use Rattle.nt_machine.specs.Dispatcher.{Dispatcher, dispatcher_of, state}
use Rattle.nt_calls.specs.Steps.{IsNextMoment, NothingDue}
use Rattle.nt_machine.specs.Lawful.{IsMachineSound}
use Rattle.nt_machine.proofs.Ticking.{IsNext, next_of}
use Rattle.nt_core.proofs.ticks.next_moment.Goals as goal

pub returns-then-next-get : goal.returns-then-next-get
returns-then-next-get c =
    let d = dispatcher_of c.machine.inside.threads c.machine.inside.handles.opened c.machine.inside.objects.items c.machine.inside.objects.owned c.machine.inside.waits c.machine.inside.apcs c.machine.inside.handing.items c.machine.inside.standings.items c.machine.inside.moment c.machine.inside.grants.items c.machine.inside.alarms c.machine.inside.leaving c.machine.inside.changed c.machine.inside.alerted in
    let sound : IsMachineSound d = subst IsMachineSound (sym c.machine.view_is) c.requires in
    let next = subst (λ (o : Option ℕ). IsNext d o) (sym c.earlier.ensures ∙ c.in_ok-next.was) (next_of d c.earliest.result c.earliest_deadline.result sound c.earliest.ensures c.earliest_deadline.ensures) in
    let le : c.in_ok-next.next ≤ c.args.m = let h = c.if-next-get.true in let k = c.get.ensures.value in omega (arith, h, k) in
    subst (λ (x : Dispatcher). IsNextMoment (state x) c.args.m c.in_ok-next.next) c.machine.view_is (next.0, le, next.1)

pub returns-else-next-get : goal.returns-else-next-get
returns-else-next-get c =
    let d = dispatcher_of c.machine.inside.threads c.machine.inside.handles.opened c.machine.inside.objects.items c.machine.inside.objects.owned c.machine.inside.waits c.machine.inside.apcs c.machine.inside.handing.items c.machine.inside.standings.items c.machine.inside.moment c.machine.inside.grants.items c.machine.inside.alarms c.machine.inside.leaving c.machine.inside.changed c.machine.inside.alerted in
    let sound : IsMachineSound d = subst IsMachineSound (sym c.machine.view_is) c.requires in
    let next = subst (λ (o : Option ℕ). IsNext d o) (sym c.earlier.ensures ∙ c.in_ok-next.was) (next_of d c.earliest.result c.earliest_deadline.result sound c.earliest.ensures c.earliest_deadline.ensures) in
    let later : c.args.m < c.in_ok-next.next = let h = c.if-next-get.false in let k = c.get.ensures.value in omega (arith, h, k) in
    subst (λ (x : Dispatcher). NothingDue (state x) c.args.m) c.machine.view_is (λ v awaited. let least = next.1 v awaited in omega (arith, later, least))
