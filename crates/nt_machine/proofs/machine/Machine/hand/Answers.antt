use Rattle.std.proofs.Common.{sym, subst}
use Rattle.nt_machine.specs.Dispatcher.{dispatcher_of}
use Rattle.nt_machine.specs.Lawful.{IsSteady}
use Rattle.nt_machine.proofs.Beginning.{handed_steady}
use Rattle.nt_machine.proofs.machine.Machine.hand.Goals as goal

pub returns-clause-steady : goal.returns-clause-steady
returns-clause-steady c =
    let d = dispatcher_of c.self.inside.threads c.self.inside.handles.opened c.self.inside.objects.items c.self.inside.objects.owned c.self.inside.waits c.self.inside.apcs c.self.inside.handing.items c.self.inside.standings.items c.self.inside.moment c.self.inside.grants.items c.self.inside.alarms c.self.inside.leaving c.self.inside.changed c.self.inside.alerted in
    let steady : IsSteady d = subst IsSteady (sym c.self.view_is) c.requires.steady in
    handed_steady d c.get.result c.args.may steady
