use Rattle.std.proofs.Common.{◌≡◌, ℕ, true, false, sym, ap, ◌∙◌, subst}
use Rattle.nt_calls.specs.State.{State}
use Rattle.nt_calls.specs.Living.{LivesWhileKept}
use Rattle.nt_machine.specs.Dispatcher.{Dispatcher, state}
use Rattle.nt_machine.specs.Lawful.{IsSteady}
use Rattle.nt_core.specs.SetAside.{can_set_aside, set_aside, with_aside}
use Rattle.nt_core.proofs.SettingAside.{MayMove, may_move, steady_aside, living_aside}
use Rattle.nt_core.proofs.set_aside.set_aside.Goals as goal

refused : (old mid : State) → mid ≡ old → LivesWhileKept old → LivesWhileKept mid
refused old mid same living = subst (λ (s : State). LivesWhileKept s) (sym same) living

pub returns-then-not-can_set_aside-clause-aside : goal.returns-then-not-can_set_aside-clause-aside
returns-then-not-can_set_aside-clause-aside c =
    let mid = state c.tell_anew.new.self in
    let never : false ≡ can_set_aside mid c.args.thread c.args.object = sym c.if-not-can_set_aside.true ∙ c.can_set_aside.ensures in (
      never ∙ ap (λ (s : State). can_set_aside s c.args.thread c.args.object) c.tell_anew.ensures.state,
      c.tell_anew.ensures.fresh.no_grants,
      c.tell_anew.ensures.state,
    )

pub returns-then-not-can_set_aside-clause-living : goal.returns-then-not-can_set_aside-clause-living
returns-then-not-can_set_aside-clause-living c = refused (state c.args.machine.now) (state c.tell_anew.new.self) c.tell_anew.ensures.state c.requires.living

-- what the machine is then
given : (c : goal.After-renumber) → c.renumber.new.machine ≡ with_aside c.tell_anew.new.self c.args.thread c.args.object c.renumber.new.machine.owned
given c = c.renumber.ensures ∙ ap (λ (t : ℕ). with_aside c.tell_anew.new.self t c.args.object c.renumber.new.machine.owned) c.new.ensures

may : (c : goal.After-renumber) → MayMove (state c.tell_anew.new.self) c.args.thread c.args.object
may c = may_move (state c.tell_anew.new.self) c.args.thread c.args.object (sym c.can_set_aside.ensures ∙ c.if-not-can_set_aside.false)

pub returns-clause-aside : goal.returns-clause-aside
returns-clause-aside c =
    let mid = state c.tell_anew.new.self in
    let is : true ≡ can_set_aside mid c.args.thread c.args.object = sym c.if-not-can_set_aside.false ∙ c.can_set_aside.ensures in (
      is ∙ ap (λ (s : State). can_set_aside s c.args.thread c.args.object) c.tell_anew.ensures.state,
      ap (λ (d : Dispatcher). d.grants) (given c) ∙ c.tell_anew.ensures.fresh.no_grants,
      ap (λ (d : Dispatcher). state d) (given c) ∙ ap (λ (s : State). set_aside s c.args.thread c.args.object) c.tell_anew.ensures.state,
    )

pub returns-clause-steady : goal.returns-clause-steady
returns-clause-steady c =
    let d = c.tell_anew.new.self in
    let living = refused (state c.args.machine.now) (state d) c.tell_anew.ensures.state c.requires.living in
    subst IsSteady (sym (given c)) (steady_aside d c.args.thread c.args.object c.renumber.new.machine.owned c.tell_anew.ensures.fresh.steady living (may c))

pub returns-clause-living : goal.returns-clause-living
returns-clause-living c =
    let d = c.tell_anew.new.self in
    let living = refused (state c.args.machine.now) (state d) c.tell_anew.ensures.state c.requires.living in
    subst (λ (new : Dispatcher). LivesWhileKept (state new)) (sym (given c)) (living_aside d c.args.thread c.args.object c.renumber.new.machine.owned c.tell_anew.ensures.fresh.steady.sound living (may c))
