use Rattle.std.proofs.Common.{◌≡◌, None, true, false, sym, ◌∙◌, subst, ap}
use Rattle.std.specs.declared.option.Option.{Option}
use Rattle.nt_apc.specs.declared.apc.Apc.{Apc}
use Rattle.nt_apc.specs.Queues.{oldest_taken, oldest, apc_of, apc_queue_of}
use Rattle.nt_calls.specs.declared.call.Call.{Call}
use Rattle.nt_calls.specs.declared.call.Act.{Act}
use Rattle.nt_calls.specs.declared.call.Reply.{Reply}
use Rattle.nt_machine.specs.Dispatcher.{Dispatcher, state}
use Rattle.nt_calls.specs.Change.{may_take}
use Rattle.nt_machine.specs.Lawful.{IsSteady}
use Rattle.nt_machine.specs.Accepts.{Accepts}
use Rattle.nt_machine.proofs.Alerting.{taken_accepted, untaken_accepted}
use Rattle.nt_machine.specs.contracts.machine.Machine.{the_view}
use Rattle.nt_machine.proofs.Queueing.{queues_in}
use Rattle.nt_machine.proofs.machine.Machine.next_apc.Goals as goal

pub returns-then-may_take : goal.returns-then-may_take
returns-then-may_take c =
    let old = c.args.self.now in
    let may : may_take (state old) c.args.thread ≡ true = sym c.may_take.ensures ∙ c.if-may_take.true in
    subst (λ (d : Dispatcher). Accepts old d c.args.thread (Call.Act Act.NextApc) (Reply.Apc c.next.result)) (sym (queues_in (the_view c.self.inside) old (λ queues. oldest_taken queues c.args.thread) c.next.new.self c.self.view_is c.next.ensures.queues c.next.ensures.places))
    (subst (λ (a : Option Apc). Accepts old (record old { apcs = record old.apcs { queues = oldest_taken old.apcs.queues c.args.thread } }) c.args.thread (Call.Act Act.NextApc) (Reply.Apc a)) (sym (c.next.ensures.apc ∙ ap (λ (x : Dispatcher). apc_of (oldest (apc_queue_of x.apcs.queues c.args.thread))) c.self.view_is))
    (taken_accepted old c.args.thread c.requires.fresh c.requires.running.idle may))

pub returns-else-may_take : goal.returns-else-may_take
returns-else-may_take c =
    let old = c.args.self.now in
    let may : may_take (state old) c.args.thread ≡ false = sym c.may_take.ensures ∙ c.if-may_take.false in
    subst (λ (d : Dispatcher). Accepts old d c.args.thread (Call.Act Act.NextApc) (Reply.Apc None)) (sym c.hand.ensures.handing)
    (untaken_accepted old c.args.thread c.requires.fresh may (subst IsSteady c.hand.ensures.handing c.hand.ensures.steady))
