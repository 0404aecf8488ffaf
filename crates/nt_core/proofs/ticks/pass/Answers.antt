use Rattle.std.proofs.Common.{inl, sym, ap, ◌∙◌}
use Rattle.nt_marks.specs.Marks.{is_marked, marked_places}
use Rattle.nt_machine.specs.Dispatcher.{state, with_marked}
use Rattle.nt_calls.specs.Serving.{sequence}
use Rattle.nt_core.proofs.Moments.{Grants_alerted, expired_fit, expired_remarked, expired_countable, passed_whole, none_earlier_left}
use Rattle.nt_core.proofs.ticks.pass.Goals as goal

pub expire_all-requires-clause-earliest : goal.expire_all-requires-clause-earliest
expire_all-requires-clause-earliest c = λ h v at. c.requires.next.2 v (inl (h, sym (c.requires.sound.timers.alarm h) ∙ at))

pub serve_marked-requires-clause-countable : goal.serve_marked-requires-clause-countable
serve_marked-requires-clause-countable c =
    let d = c.expire_all.new.machine in
    expired_countable c.args.machine.now d c.args.m c.args.u (marked_places d.marked.changed) d.marked.alerted c.expire_all.ensures.expired c.requires.countable

pub alert_all-requires-clause-marked : goal.alert_all-requires-clause-marked
alert_all-requires-clause-marked c = λ t alerted.
    let d = c.expire_all.new.machine in
    let visits = c.serve_marked.ensures.visits in
    ap (λ marks. is_marked marks t) c.serve_marked.ensures.alerted ∙ (c.expire_all.ensures.expired).marked t (Grants_alerted (sequence (state d) (marked_places d.marked.changed)) (state d) (state c.serve_marked.new.self) visits.ended visits.granted t alerted)

pub time_out_all-requires-clause-earliest : goal.time_out_all-requires-clause-earliest
time_out_all-requires-clause-earliest c =
    let d = c.expire_all.new.machine in
    let now = with_marked d c.serve_marked.new.self.marked in
    let timers = marked_places d.marked.changed in
    let after = expired_remarked c.args.machine.now d c.args.m c.args.u timers d.marked.alerted c.serve_marked.new.self.marked c.expire_all.ensures.expired in
    none_earlier_left c.args.machine.now now c.serve_marked.new.self c.alert_all.new.machine c.args.m c.args.u timers d.marked.alerted c.requires.next after c.serve_marked.ensures.visits c.alert_all.ensures.alerted

pub returns : goal.returns
returns c =
    let d = c.expire_all.new.machine in
    let now = with_marked d c.serve_marked.new.self.marked in
    let timers = marked_places d.marked.changed in
    let after = expired_remarked c.args.machine.now d c.args.m c.args.u timers d.marked.alerted c.serve_marked.new.self.marked c.expire_all.ensures.expired in
    let local = expired_fit c.args.machine.now now c.args.m c.args.u timers d.marked.alerted c.requires.sound c.requires.served after in
    passed_whole c.args.machine.now now c.serve_marked.new.self c.alert_all.new.machine c.time_out_all.new.machine c.args.m c.args.u timers d.marked.alerted after local c.serve_marked.ensures.visits c.alert_all.ensures.alerted c.time_out_all.ensures.timed c.time_out_all.ensures.sound
