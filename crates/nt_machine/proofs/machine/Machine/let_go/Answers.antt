use Rattle.std.proofs.Common.{sym, subst, arith}
use Rattle.nt_machine.specs.Dispatcher.{Dispatcher, dispatcher_of}
use Rattle.nt_machine.specs.Lawful.{MarksAgreeBut}
use Rattle.nt_machine.proofs.LettingGo.{let_go_agree}
use Rattle.nt_machine.proofs.machine.Machine.let_go.Goals as goal

pub let_go-requires : goal.let_go-requires
let_go-requires c o member =
    let d = dispatcher_of c.self.inside.threads c.self.inside.handles.opened c.self.inside.objects.items c.self.inside.objects.owned c.self.inside.waits c.self.inside.apcs c.self.inside.handing.items c.self.inside.standings.items c.self.inside.moment c.self.inside.grants.items c.self.inside.alarms c.self.inside.leaving c.self.inside.changed c.self.inside.alerted in
    let marks : MarksAgreeBut c.args.ended.now d = subst (λ (x : Dispatcher). MarksAgreeBut c.args.ended.now x) (sym c.self.view_is) c.requires in
    let known = marks.known o member in
    let count = marks.count in
    omega (arith, known, count)

pub returns-clause-marks : goal.returns-clause-marks
returns-clause-marks c =
    let d = dispatcher_of c.self.inside.threads c.self.inside.handles.opened c.self.inside.objects.items c.self.inside.objects.owned c.self.inside.waits c.self.inside.apcs c.self.inside.handing.items c.self.inside.standings.items c.self.inside.moment c.self.inside.grants.items c.self.inside.alarms c.self.inside.leaving c.self.inside.changed c.self.inside.alerted in
    let marks : MarksAgreeBut c.args.ended.now d = subst (λ (x : Dispatcher). MarksAgreeBut c.args.ended.now x) (sym c.self.view_is) c.requires in
    let_go_agree d c.args.ended.now c.let_go.new.leaving marks c.let_go.ensures
