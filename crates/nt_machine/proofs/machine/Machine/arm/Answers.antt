use Rattle.std.proofs.Common.{ap, ◌∙◌, Some, false}
use Rattle.nt_objects.specs.declared.object.Object.{Object}
use Rattle.nt_objects.specs.Object.{mutex_owner, armed_with, with_set}
use Rattle.nt_machine.proofs.Owned.{owner_set, owner_armed}
use Rattle.nt_machine.proofs.Arming.{armed_sound}
use Rattle.nt_machine.proofs.machine.Machine.arm.Goals as goal

pub put_timer-requires-clause-owner : goal.put_timer-requires-clause-owner
put_timer-requires-clause-owner c =
    ap mutex_owner c.arm.ensures ∙ (owner_armed (Some c.args.armed) (with_set false c.object-object.result) ∙ (owner_set false c.object-object.result ∙ ap mutex_owner c.object-object.ensures))

pub returns-clause-sound : goal.returns-clause-sound
returns-clause-sound c =
    armed_sound c.args.self.now c.promise.new.self c.withdraw.new.self c.put_timer.new.self c.args.timer c.arm.new.self c.args.armed c.requires.sound c.requires.kind c.requires.runs c.in_ok-promise.ensures.ok c.withdraw.ensures
    (c.arm.ensures ∙ ap (λ (o : Object). armed_with (Some c.args.armed) (with_set false o)) c.object-object.ensures)
    c.put_timer.ensures
