use Rattle.std.proofs.Common.{◌≡◌, ◌+◌, ◌-◌, ℕ, Some, ap, sym, subst, ◌∙◌, arith}
use Rattle.std.specs.Option.{option_map, IsSome}
use Rattle.std.specs.FinMap as map
use Rattle.nt_waits.specs.Waits.{Waits, one_for, only_of}
use Rattle.nt_machine.specs.Dispatcher.{Dispatcher, dispatcher_of}
use Rattle.nt_machine.specs.Lawful.{IsMachineSound}
use Rattle.nt_machine.specs.Visits.{HasVisited, uncounted}
use Rattle.nt_machine.proofs.Visiting.{looked_sound, stands_waits, only_this}
use Rattle.nt_machine.proofs.machine.Machine.visit.Goals as goal

pub look-requires-clause-there : goal.look-requires-clause-there
look-requires-clause-there c =
    subst (λ (x : Dispatcher). IsSome (map.get x.table.pending c.args.thread)) (sym c.self.view_is) (stands_waits c.args.self.now c.args.thread c.args.object c.requires.sound c.requires.waits)

pub visit_one-requires-clause-only : goal.visit_one-requires-clause-only
visit_one-requires-clause-only c =
    let named : option_map only_of (map.get c.self.inside.waits.pending c.args.thread) ≡ Some (Some (c.args.object, c.in-Some.all)) =
    subst (λ (x : Dispatcher). option_map only_of (map.get x.table.pending c.args.thread) ≡ Some (Some (c.args.object, c.in-Some.all))) (sym c.self.view_is)
    (only_this c.args.self.now c.args.thread c.args.object c.in-Some.field-0-0 c.in-Some.all c.requires.sound c.requires.waits
    (ap (λ (x : Dispatcher). option_map only_of (map.get x.table.pending c.args.thread)) (sym c.self.view_is) ∙ sym c.in-Some.ensures.told)) in
    subst (λ (w : Waits). option_map only_of (map.get w.pending c.args.thread) ≡ Some (Some (c.args.object, c.in-Some.all))) (sym c.in-Some.ensures.counted) named

pub visit_one-requires-clause-sound : goal.visit_one-requires-clause-sound
visit_one-requires-clause-sound c =
    subst (λ (w : Waits). IsMachineSound (dispatcher_of c.self.inside.threads c.self.inside.handles.opened c.self.inside.objects.items c.self.inside.objects.owned w c.self.inside.apcs c.self.inside.handing.items c.self.inside.standings.items c.self.inside.moment c.self.inside.grants.items c.self.inside.alarms c.self.inside.leaving c.self.inside.changed c.self.inside.alerted)) (sym c.in-Some.ensures.counted)
    (looked_sound (dispatcher_of c.self.inside.threads c.self.inside.handles.opened c.self.inside.objects.items c.self.inside.objects.owned c.self.inside.waits c.self.inside.apcs c.self.inside.handing.items c.self.inside.standings.items c.self.inside.moment c.self.inside.grants.items c.self.inside.alarms c.self.inside.leaving c.self.inside.changed c.self.inside.alerted) (c.self.inside.waits.looked + 1) (subst IsMachineSound (sym c.self.view_is) c.requires.sound))

pub returns-in-Some-clause-visited : goal.returns-in-Some-clause-visited
returns-in-Some-clause-visited c =
    let at = λ (w : Waits). dispatcher_of c.self.inside.threads c.self.inside.handles.opened c.self.inside.objects.items c.self.inside.objects.owned w c.self.inside.apcs c.self.inside.handing.items c.self.inside.standings.items c.self.inside.moment c.self.inside.grants.items c.self.inside.alarms c.self.inside.leaving c.self.inside.changed c.self.inside.alerted in
    let back : c.self.inside.waits.looked + 1 - 1 ≡ c.self.inside.waits.looked = omega arith in
    let before : uncounted (at c.look.new.self) ≡ c.args.self.now =
    ap (λ (w : Waits). uncounted (at w)) c.in-Some.ensures.counted ∙ (ap (λ (n : ℕ). at (record c.self.inside.waits { looked = n })) back ∙ c.self.view_is) in
    subst (λ (x : Dispatcher). HasVisited x c.visit_one.new.self c.args.thread) before c.visit_one.ensures.visited

pub visit_any-requires-clause-sound : goal.visit_any-requires-clause-sound
visit_any-requires-clause-sound c =
    subst (λ (w : Waits). IsMachineSound (dispatcher_of c.self.inside.threads c.self.inside.handles.opened c.self.inside.objects.items c.self.inside.objects.owned w c.self.inside.apcs c.self.inside.handing.items c.self.inside.standings.items c.self.inside.moment c.self.inside.grants.items c.self.inside.alarms c.self.inside.leaving c.self.inside.changed c.self.inside.alerted)) (sym c.look.ensures.counted)
    (looked_sound (dispatcher_of c.self.inside.threads c.self.inside.handles.opened c.self.inside.objects.items c.self.inside.objects.owned c.self.inside.waits c.self.inside.apcs c.self.inside.handing.items c.self.inside.standings.items c.self.inside.moment c.self.inside.grants.items c.self.inside.alarms c.self.inside.leaving c.self.inside.changed c.self.inside.alerted) (c.self.inside.waits.looked + one_for c.look.result) (subst IsMachineSound (sym c.self.view_is) c.requires.sound))

pub returns-clause-visited : goal.returns-clause-visited
returns-clause-visited c =
    let at = λ (w : Waits). dispatcher_of c.self.inside.threads c.self.inside.handles.opened c.self.inside.objects.items c.self.inside.objects.owned w c.self.inside.apcs c.self.inside.handing.items c.self.inside.standings.items c.self.inside.moment c.self.inside.grants.items c.self.inside.alarms c.self.inside.leaving c.self.inside.changed c.self.inside.alerted in
    let none : one_for c.look.result ≡ 0 = ap one_for c.in_default.is in
    let same : c.self.inside.waits.looked + one_for c.look.result ≡ c.self.inside.waits.looked = omega (arith, none) in
    let before : at c.look.new.self ≡ c.args.self.now =
    ap at c.look.ensures.counted ∙ (ap (λ (n : ℕ). at (record c.self.inside.waits { looked = n })) same ∙ c.self.view_is) in
    subst (λ (x : Dispatcher). HasVisited x c.visit_any.new.self c.args.thread) before c.visit_any.ensures
