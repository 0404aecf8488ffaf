use Rattle.std.proofs.Common.{List, sym, subst}
use Rattle.nt_machine.specs.Dispatcher.{dispatcher_of}
use Rattle.nt_calls.specs.declared.call.Grant.{Grant}
use Rattle.nt_machine.specs.Lawful.{IsSteady}
use Rattle.nt_machine.specs.Accepts.{IsFresh}
use Rattle.nt_machine.proofs.Accepting.{told_anew}
use Rattle.nt_machine.proofs.machine.Machine.tell_anew.Goals as goal

pub returns-clause-fresh : goal.returns-clause-fresh
returns-clause-fresh c =
    let d = dispatcher_of c.self.inside.threads c.self.inside.handles.opened c.self.inside.objects.items c.self.inside.objects.owned c.self.inside.waits c.self.inside.apcs c.self.inside.handing.items c.self.inside.standings.items c.self.inside.moment c.self.inside.grants.items c.self.inside.alarms c.self.inside.leaving c.self.inside.changed c.self.inside.alerted in
    let steady : IsSteady d = subst IsSteady (sym c.self.view_is) c.requires in
    subst (λ (gs : List Grant). IsFresh (record d { table = c.look_anew.new.self; grants = gs })) (sym c.clear.ensures.items) (told_anew d c.look_anew.new.self steady c.look_anew.ensures)
