use Rattle.std.proofs.Common.{◌≡◌, true, set, sym, ap, ◌∙◌, subst, List, ℕ, Bool, false}
use Rattle.nt_calls.specs.State.{State}
use Rattle.nt_machine.specs.Dispatcher.{Dispatcher, state}
use Rattle.nt_calls.specs.Living.{is_forgotten}
use Rattle.nt_machine.specs.Lawful.{IsMachineSound}
use Rattle.nt_machine.proofs.Ended.{unmarked_sound, gone_needless}
use Rattle.nt_machine.proofs.Lives.{forgotten_known}
use Rattle.nt_machine.specs.contracts.machine.Machine.{the_view}
use Rattle.nt_machine.proofs.machine.Machine.end_marked.Goals as goal
use Rattle.nt_machine.proofs.machine.Machine.end_marked.Goals.{then-is_forgotten, else-is_forgotten}

pub returns-clause-sound : goal.returns-clause-sound
returns-clause-sound c = subst IsMachineSound (sym (ap (λ (l : List Bool). record (the_view c.self-2.inside) { leaving = l }) (c.clear.ensures ∙ ap (λ (k : ℕ). set (the_view c.self-2.inside).leaving k false) c.get.ensures) ∙ ap (λ (x : Dispatcher). record x { leaving = set x.leaving c.args.object false }) c.self-2.view_is)) (elim c.if-is_forgotten.branch [
  | then-is_forgotten w ↦
      let forgotten : is_forgotten (state c.args.self.now) c.args.object ≡ true = sym c.is_forgotten.ensures ∙ w.if-is_forgotten.true in
      subst (λ (d : Dispatcher). IsMachineSound (record d { leaving = set d.leaving c.args.object false })) (sym w.self-is)
      (unmarked_sound w.end_object.new.self c.args.object w.end_object.ensures.sound
      (ap (λ (s : State). is_forgotten s c.args.object) w.end_object.ensures.gone ∙ gone_needless (state c.args.self.now) c.args.object (forgotten_known (state c.args.self.now) c.args.object forgotten)))
  | else-is_forgotten w ↦
      subst (λ (d : Dispatcher). IsMachineSound (record d { leaving = set d.leaving c.args.object false })) (sym w.self-is)
      (unmarked_sound c.args.self.now c.args.object c.requires.sound (sym c.is_forgotten.ensures ∙ w.if-is_forgotten.false))
])
