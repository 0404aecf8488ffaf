use Rattle.std.proofs.Common.{◌≡◌, ℕ, Bool, true, ◌+◌, ◌==◌, ◌&&◌, refl, ap, ◌∙◌, subst}
use Rattle.std.specs.List.{swap_remove}
use Rattle.std.specs.declared.result.Result.TheVariants.{Ok}
use Rattle.nt_tables.proofs.Counting.{weight}
use Rattle.nt_machine.specs.Dispatcher.{state}
use Rattle.nt_core.specs.Renewals.{is_vacant}
use Rattle.nt_core.specs.SetAside.{SetsAside}
use Rattle.nt_life.specs.Lasting.{times, MovesAside}
use Rattle.nt_life.proofs.Aside.{aside_spare}
use Rattle.nt_life.proofs.Times.{times_taken}
use Rattle.nt_life.proofs.set_aside.set_aside_at.Goals as goal

-- it can have that number, so it gets it
done : (c : goal.After-take_object) → c.set_aside-done.result ≡ true
done c =
    let vacant : is_vacant (state c.args.core.now) c.object-object.result ≡ true = ap (λ (o : ℕ). is_vacant (state c.args.core.now) o) c.object-object.ensures ∙ c.requires.vacant in
    c.set_aside-done.ensures.aside.0 ∙ (ap (λ b. b && is_vacant (state c.args.core.now) c.object-object.result) c.requires.movable ∙ vacant)

sets : (c : goal.After-take_object) → SetsAside (state c.args.core.now) c.args.thread c.object-object.result true c.set_aside-done.new.self.grants (state c.set_aside-done.new.self)
sets c = subst (λ (b : Bool). SetsAside (state c.args.core.now) c.args.thread c.object-object.result b c.set_aside-done.new.self.grants (state c.set_aside-done.new.self)) (done c) c.set_aside-done.ensures.aside

pub returns-clause-moves : goal.returns-clause-moves
returns-clause-moves c =
    subst (λ (o : ℕ). MovesAside (state c.args.core.now) c.args.thread o (Ok c.object-object.result) c.set_aside-done.new.self.grants (state c.set_aside-done.new.self)) c.object-object.ensures (refl, sets c)

pub returns-clause-has : goal.returns-clause-has
returns-clause-has c =
    let spare = c.args.spare.now in
    record {
      lawful = c.set_aside-done.ensures.lawful;
      spare = aside_spare c.args.core.now c.args.thread c.object-object.result spare c.take_object.new.self c.set_aside-done.new.self.grants (state c.set_aside-done.new.self) c.requires.has.lawful c.requires.has.spare (sets c) c.take_object.ensures.closed
          (λ n. ap (λ ns. times n ns + weight (c.object-object.result == n)) c.take_object.ensures.unnamed
          ∙ (ap (λ (o : ℕ). times n (swap_remove spare.unnamed c.args.place 0) + weight (o == n)) c.object-object.ensures
          ∙ times_taken n spare.unnamed c.args.place c.requires.place));
    }
