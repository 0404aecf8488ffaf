use Rattle.std.proofs.Common.{◌≡◌, ◌<◌, ◌≤◌, ℕ, true, List, [], length, set, sym, ap, ◌∙◌, subst, arith}
use Rattle.std.specs.Vec.{vec_capacity}
use Rattle.nt_calls.specs.State.{pends, wait_over}
use Rattle.nt_machine.specs.declared.standing.Standing.TheVariants.{Free}
use Rattle.nt_machine.specs.Dispatcher.{Dispatcher, dispatcher_of, state}
use Rattle.nt_machine.specs.Lawful.{IsMachineSound, MarksAgreeBut}
use Rattle.nt_machine.proofs.Visiting.{room_for}
use Rattle.nt_machine.proofs.Alerting.{pending_wait, ended_sound, ended_unmarked, ended_over}
use Rattle.nt_machine.proofs.machine.Machine.end_wait.Goals as goal

pub index_mut-requires : goal.index_mut-requires
index_mut-requires c =
    let d = dispatcher_of c.self.inside.threads c.self.inside.handles.opened c.self.inside.objects.items c.self.inside.objects.owned c.self.inside.waits c.self.inside.apcs c.self.inside.handing.items c.self.inside.standings.items c.self.inside.moment c.self.inside.grants.items c.self.inside.alarms c.self.inside.leaving c.self.inside.changed c.self.inside.alerted in
    let sound : IsMachineSound d = subst IsMachineSound (sym c.self.view_is) c.requires.sound in
    let pending = pending_wait (state d) c.args.thread (subst (λ (x : Dispatcher). pends (state x) c.args.thread ≡ true) (sym c.self.view_is) c.requires.pends) in
    let hands : length c.self.inside.handing.items ≡ d.threads = sound.hands in
    let known : c.args.thread < d.threads = (sound.waits c.args.thread pending.0 (sym pending.1)).known in
    let thread : c.get-place.result ≡ c.args.thread = c.get-place.ensures in
    omega (arith, hands, known, thread, c.self.inside.handing.ok.0)

pub index_mut-requires-2 : goal.index_mut-requires-2
index_mut-requires-2 c =
    let d = dispatcher_of c.self.inside.threads c.self.inside.handles.opened c.self.inside.objects.items c.self.inside.objects.owned c.self.inside.waits c.self.inside.apcs c.self.inside.handing.items c.self.inside.standings.items c.self.inside.moment c.self.inside.grants.items c.self.inside.alarms c.self.inside.leaving c.self.inside.changed c.self.inside.alerted in
    let sound : IsMachineSound d = subst IsMachineSound (sym c.self.view_is) c.requires.sound in
    let pending = pending_wait (state d) c.args.thread (subst (λ (x : Dispatcher). pends (state x) c.args.thread ≡ true) (sym c.self.view_is) c.requires.pends) in
    let count : length c.self.inside.standings.items ≡ d.threads = sound.standings.count in
    let known : c.args.thread < d.threads = (sound.waits c.args.thread pending.0 (sym pending.1)).known in
    let thread : c.get-place.result ≡ c.args.thread = c.get-place.ensures in
    omega (arith, count, known, thread, c.self.inside.standings.ok.0)

pub push_reserved-requires : goal.push_reserved-requires
push_reserved-requires c =
    let d = dispatcher_of c.self.inside.threads c.self.inside.handles.opened c.self.inside.objects.items c.self.inside.objects.owned c.self.inside.waits c.self.inside.apcs c.self.inside.handing.items c.self.inside.standings.items c.self.inside.moment c.self.inside.grants.items c.self.inside.alarms c.self.inside.leaving c.self.inside.changed c.self.inside.alerted in
    let sound : IsMachineSound d = subst IsMachineSound (sym c.self.view_is) c.requires.sound in
    let pending = pending_wait (state d) c.args.thread (subst (λ (x : Dispatcher). pends (state x) c.args.thread ≡ true) (sym c.self.view_is) c.requires.pends) in
    let room : length d.grants < d.threads = room_for d c.args.thread pending.0 sound pending.1 in
    let capacity : d.threads ≤ vec_capacity c.self.inside.grants = c.self.invariant.1 in
    omega (arith, room, capacity, c.self.inside.grants.ok.0)

pub let_go-requires : goal.let_go-requires
let_go-requires c =
    let d = dispatcher_of c.self.inside.threads c.self.inside.handles.opened c.self.inside.objects.items c.self.inside.objects.owned c.self.inside.waits c.self.inside.apcs c.self.inside.handing.items c.self.inside.standings.items c.self.inside.moment c.self.inside.grants.items c.self.inside.alarms c.self.inside.leaving c.self.inside.changed c.self.inside.alerted in
    let sound : IsMachineSound d = subst IsMachineSound (sym c.self.view_is) c.requires.sound in
    let ended = c.end-ended.ensures in
    subst (λ (k : ℕ). MarksAgreeBut c.as_slice-2.result.now (record d { table = c.end-ended.new.self; handing = set d.handing k c.args.alerted; standings = set d.standings k Free; grants = c.push_reserved.new.self.items })) (sym c.get-place.ensures)
    (subst (λ (hs : List ℕ). MarksAgreeBut hs (record d { table = c.end-ended.new.self; handing = set d.handing c.args.thread c.args.alerted; standings = set d.standings c.args.thread Free; grants = c.push_reserved.new.self.items })) (sym c.as_slice-2.ensures)
    (ended_unmarked d c.end-ended.new.self c.args.thread c.args.alerted c.end-ended.result c.push_reserved.new.self.items sound (sym ended.wait) ended.ended.queues))

pub returns-clause-over : goal.returns-clause-over
returns-clause-over c =
    let d = dispatcher_of c.self.inside.threads c.self.inside.handles.opened c.self.inside.objects.items c.self.inside.objects.owned c.self.inside.waits c.self.inside.apcs c.self.inside.handing.items c.self.inside.standings.items c.self.inside.moment c.self.inside.grants.items c.self.inside.alarms c.self.inside.leaving c.self.inside.changed c.self.inside.alerted in
    let ended = c.end-ended.ensures in
    let leaving = c.let_go.new.self.leaving in
    let is : c.let_go.new.self ≡ record d { table = c.end-ended.new.self; handing = set d.handing c.args.thread c.args.alerted; standings = set d.standings c.args.thread Free; grants = c.push_reserved.new.self.items; leaving = leaving } =
    c.let_go.ensures.rest ∙ ap (λ (k : ℕ). record d { table = c.end-ended.new.self; handing = set d.handing k c.args.alerted; standings = set d.standings k Free; grants = c.push_reserved.new.self.items; leaving = leaving }) c.get-place.ensures in
    subst (λ (x : Dispatcher). state c.let_go.new.self ≡ wait_over (state x) c.args.thread c.args.alerted) c.self.view_is
    (ap (λ (x : Dispatcher). state x) is ∙ ended_over d c.end-ended.new.self c.args.thread c.args.alerted c.push_reserved.new.self.items ended.ended.pending ended.ended.queues)

pub returns-clause-sound : goal.returns-clause-sound
returns-clause-sound c =
    let d = dispatcher_of c.self.inside.threads c.self.inside.handles.opened c.self.inside.objects.items c.self.inside.objects.owned c.self.inside.waits c.self.inside.apcs c.self.inside.handing.items c.self.inside.standings.items c.self.inside.moment c.self.inside.grants.items c.self.inside.alarms c.self.inside.leaving c.self.inside.changed c.self.inside.alerted in
    let sound : IsMachineSound d = subst IsMachineSound (sym c.self.view_is) c.requires.sound in
    let ended = c.end-ended.ensures in
    let leaving = c.let_go.new.self.leaving in
    let is : c.let_go.new.self ≡ record d { table = c.end-ended.new.self; handing = set d.handing c.args.thread c.args.alerted; standings = set d.standings c.args.thread Free; grants = c.push_reserved.new.self.items; leaving = leaving } =
    c.let_go.ensures.rest ∙ ap (λ (k : ℕ). record d { table = c.end-ended.new.self; handing = set d.handing k c.args.alerted; standings = set d.standings k Free; grants = c.push_reserved.new.self.items; leaving = leaving }) c.get-place.ensures in
    subst IsMachineSound (sym is)
    (ended_sound d c.end-ended.new.self c.args.thread c.unmet_status-status.result c.args.alerted c.end-ended.result c.push_reserved.new.self.items leaving sound (sym ended.wait) ended.ended.pending ended.agrees c.push_reserved.ensures.items
    (subst (λ (x : Dispatcher). MarksAgreeBut [] x) is c.let_go.ensures.marks))
