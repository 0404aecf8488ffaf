use Rattle.std.proofs.Common.{◌≡◌, ℕ, set, sym, subst, Some, None, false}
use Rattle.std.specs.FinMap as fin
use Rattle.nt_machine.specs.Dispatcher.{Dispatcher, dispatcher_of}
use Rattle.nt_calls.specs.Serving.{wait_on, IsTried}
use Rattle.nt_machine.specs.Lawful.{IsSteady, IsSoundWait}
use Rattle.nt_machine.proofs.Beginning.{began_taken}
use Rattle.nt_machine.proofs.machine.Machine.take_now.Goals as goal

pub returns-clause-steady : goal.returns-clause-steady
returns-clause-steady c =
    let d = dispatcher_of c.self.inside.threads c.self.inside.handles.opened c.self.inside.objects.items c.self.inside.objects.owned c.self.inside.waits c.self.inside.apcs c.self.inside.handing.items c.self.inside.standings.items c.self.inside.moment c.self.inside.grants.items c.self.inside.alarms c.self.inside.leaving c.self.inside.changed c.self.inside.alerted in
    let steady : IsSteady d = subst IsSteady (sym c.self.view_is) c.requires.steady in
    let w = wait_on c.args.objects.now c.args.all in
    let able : IsSoundWait d.threads d.objects c.args.thread w = subst (λ (x : Dispatcher). IsSoundWait x.threads x.objects c.args.thread w) (sym c.self.view_is) c.requires.can.able in
    let idle : fin.get d.table.pending c.args.thread ≡ None = subst (λ (x : Dispatcher). fin.get x.table.pending c.args.thread ≡ None) (sym c.self.view_is) c.requires.can.idle in
    let objects = c.try_wait.new.objects.items in
    let owned = c.try_wait.new.objects.owned in
    let tried : IsTried d.objects c.try_wait.new.objects.items c.args.thread w (Some c.in_ok-status.status) = c.in_ok-status.ensures.tried in
    let here : IsSteady (record d { objects = objects; owned = owned; handing = set d.handing c.args.thread false }) =
    began_taken d objects owned c.args.thread c.in_ok-status.status w steady able idle tried in
    subst (λ (k : ℕ). IsSteady (record d { objects = objects; owned = owned; handing = set d.handing k false })) (sym c.get.ensures) here
