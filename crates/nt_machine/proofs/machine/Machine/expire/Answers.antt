use Rattle.std.proofs.Common.{◌≡◌, sym, ap, ◌∙◌, Some, subst}
use Rattle.std.specs.Prelude.{IfSome}
use Rattle.nt_objects.specs.Object.{mutex_owner}
use Rattle.nt_apc.specs.Queues.{place_of}
use Rattle.nt_machine.specs.Dispatcher.{Dispatcher}
use Rattle.nt_machine.proofs.Owned.{owner_rung}
use Rattle.nt_machine.proofs.Arming.{ringing_placed, ringing_sound}
use Rattle.nt_machine.proofs.machine.Machine.expire.Goals as goal

pub put_timer-requires-clause-owner : goal.put_timer-requires-clause-owner
put_timer-requires-clause-owner c =
    owner_rung c.object-object.result c.expire-routine.new.self c.args.now c.in-Some.due (sym c.in-Some.ensures) c.expire-routine.ensures.change ∙ ap mutex_owner c.object-object.ensures

pub notify-requires : goal.notify-requires
notify-requires c =
    subst (λ (d : Dispatcher). IfSome c.expire-routine.result (λ r. place_of d.apcs.places c.args.timer ≡ Some r.thread)) (sym c.put_timer.ensures)
    (ringing_placed c.args.self.now c.args.timer c.in-Some.due c.object-object.result c.expire-routine.result c.requires.sound c.object-object.ensures (sym c.in-Some.ensures) c.expire-routine.ensures.routine)

pub returns-clause-sound : goal.returns-clause-sound
returns-clause-sound c =
    ringing_sound c.args.self.now c.put_timer.new.self c.notify.new.self c.args.timer c.in-Some.due c.in-Some-new.due c.args.now c.object-object.result c.expire-routine.new.self c.expire-routine.result c.requires.sound c.object-object.ensures (sym c.in-Some.ensures) c.expire-routine.ensures.change c.put_timer.ensures c.notify.ensures
