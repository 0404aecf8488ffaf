use Rattle.std.proofs.Common.{set, ◌≡◌, ◌+◌, ◌<◌, ℕ, [], ◌∷◌, Option, None, Ok, false, length, refl, sym, ap, subst, arith, ◌∙◌}
use Rattle.std.specs.FinMap as fin
use Rattle.nt_waits.specs.declared.room.Room.{Room}
use Rattle.nt_waits.specs.declared.wait.Wait.{Wait}
use Rattle.nt_waits.specs.Waits.{Begins}
use Rattle.nt_calls.specs.declared.call.WaitCall.{WaitCall}
use Rattle.nt_status.specs.declared.limits.TheConstants.{INFINITE}
use Rattle.nt_machine.specs.Accepts.{HasPended}
use Rattle.nt_machine.specs.declared.standing.Standing.TheVariants.{Waiting}
use Rattle.nt_machine.specs.Dispatcher.{Dispatcher, dispatcher_of}
use Rattle.nt_machine.specs.Lawful.{IsMachineSound, IsSoundWait}
use Rattle.nt_machine.proofs.Beginning.{pends_too, queues_longer, sound_begun}
use Rattle.nt_machine.proofs.machine.Machine.pend_for_good.Goals as goal

pub index_mut-requires : goal.index_mut-requires
index_mut-requires c =
    let d = dispatcher_of c.self.inside.threads c.self.inside.handles.opened c.self.inside.objects.items c.self.inside.objects.owned c.self.inside.waits c.self.inside.apcs c.self.inside.handing.items c.self.inside.standings.items c.self.inside.moment c.self.inside.grants.items c.self.inside.alarms c.self.inside.leaving c.self.inside.changed c.self.inside.alerted in
    let sound : IsMachineSound d = subst IsMachineSound (sym c.self.view_is) c.requires.sound in
    let count : length c.self.inside.standings.items ≡ d.threads = sound.standings.count in
    let known : c.args.thread < d.threads = subst (λ (x : Dispatcher). c.args.thread < x.threads) (sym c.self.view_is) c.requires.can.able.known in
    let thread : c.get.result ≡ c.args.thread = c.get.ensures in
    omega (arith, count, known, thread, c.self.inside.standings.ok.0)

pub returns : goal.returns
returns c =
    let d = dispatcher_of c.self.inside.threads c.self.inside.handles.opened c.self.inside.objects.items c.self.inside.objects.owned c.self.inside.waits c.self.inside.apcs c.self.inside.handing.items c.self.inside.standings.items c.self.inside.moment c.self.inside.grants.items c.self.inside.alarms c.self.inside.leaving c.self.inside.changed c.self.inside.alerted in
    let w : Wait = record { objects = c.args.object ∷ []; all = c.args.all; alertable = c.args.alertable; deadline = None } in
    let sound : IsMachineSound d = subst IsMachineSound (sym c.self.view_is) c.requires.sound in
    let able : IsSoundWait d.threads d.objects c.args.thread w =
    let same = subst (λ (x : Dispatcher). IsSoundWait x.threads x.objects c.args.thread (record { objects = c.args.object ∷ []; all = c.args.all; alertable = false; deadline = None })) (sym c.self.view_is) c.requires.can.able in
    record { known = same.known; runs = same.runs; few = same.few; apart = same.apart; named = same.named; living = same.living } in
    let idle : fin.get d.table.pending c.args.thread ≡ None = subst (λ (x : Dispatcher). fin.get x.table.pending c.args.thread ≡ None) (sym c.self.view_is) c.requires.can.idle in
    let room : length d.grants + fin.len d.table.pending < d.threads = subst (λ (x : Dispatcher). length x.grants + fin.len x.table.pending < x.threads) (sym c.self.view_is) c.requires.can.room in
    let done : Begins d.table c.begin_one.new.self c.args.thread w = c.begin_one.ensures.begins in
    subst (λ (k : ℕ). HasPended c.args.self.now (record d { table = c.begin_one.new.self; standings = set d.standings k Waiting }) c.args.thread (WaitCall.Objects c.args.all (record { ms = INFINITE; alertable = c.args.alertable }) (c.args.object ∷ [])) (Ok tt)) (sym c.get.ensures)
    (subst (λ (x : Dispatcher). HasPended x (record d { table = c.begin_one.new.self; standings = set d.standings c.args.thread Waiting }) c.args.thread (WaitCall.Objects c.args.all (record { ms = INFINITE; alertable = c.args.alertable }) (c.args.object ∷ [])) (Ok tt)) c.self.view_is
    (record {
      state = pends_too d c.begin_one.new.self c.args.thread w done.pending done.joined done.queues_kept;
      sound = sound_begun d c.begin_one.new.self c.args.thread w sound able idle room done.pending c.begin_one.ensures.agrees (queues_longer d.table c.begin_one.new.self c.args.thread w done.joined done.queues_kept);
      grants = refl;
      looked = done.looked;
      marked = refl;
      memory = tt;
      err = tt;
    }))

pub begin_one-requires-clause-free : goal.begin_one-requires-clause-free
begin_one-requires-clause-free c = ap (λ (x : Dispatcher). fin.get x.table.pending c.args.thread) c.self.view_is ∙ c.requires.can.idle

pub begin_one-requires-clause-place : goal.begin_one-requires-clause-place
begin_one-requires-clause-place c =
    let threads = ap (λ (x : Dispatcher). x.threads) c.self.view_is in
    let room = ap (λ (r : Room). r.threads) c.self.invariant.3 in
    let known = c.requires.can.able.known in
    omega (arith, threads, room, known)

pub begin_one-requires-clause-queue : goal.begin_one-requires-clause-queue
begin_one-requires-clause-queue c =
    let alarms = ap (λ (x : Dispatcher). length x.alarms) c.self.view_is in
    let room = ap (λ (r : Room). r.objects) c.self.invariant.3 in
    let count = c.requires.sound.timers.count in
    let known = (c.requires.can.able.named c.args.object (0, omega arith, refl)).0 in
    omega (arith, alarms, room, count, known)
