use Rattle.std.proofs.Common.{subst}
use Rattle.nt_machine.specs.Dispatcher.{Dispatcher, dispatcher_of}
use Rattle.nt_machine.specs.Accepts.{IsPromised}
use Rattle.nt_machine.proofs.Arming.{promised_one}
use Rattle.nt_machine.proofs.machine.Machine.promise.Goals as goal

pub returns-in_ok-promise-clause-ok : goal.returns-in_ok-promise-clause-ok
returns-in_ok-promise-clause-ok c =
    let d = dispatcher_of c.self.inside.threads c.self.inside.handles.opened c.self.inside.objects.items c.self.inside.objects.owned c.self.inside.waits c.self.inside.apcs c.self.inside.handing.items c.self.inside.standings.items c.self.inside.moment c.self.inside.grants.items c.self.inside.alarms c.self.inside.leaving c.self.inside.changed c.self.inside.alerted in
    let done = c.in_ok-promise.ensures in
    subst (λ (x : Dispatcher). IsPromised x c.args.timer c.args.routine (record d { apcs = c.promise.new.self })) c.self.view_is
    (promised_one d c.promise.new.self c.args.timer c.args.routine c.in-Some.routine c.in-Some.is done.queues done.place done.others)
