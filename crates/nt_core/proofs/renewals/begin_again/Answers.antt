use Rattle.std.proofs.Common.{◌≡◌, ℕ, true, false, ◌&&◌, refl, sym, ap, ◌∙◌, subst, Some, None, set}
use Rattle.nt_status.specs.declared.refusal.Refusal.TheVariants.{InvalidHandle}
use Rattle.nt_objects.specs.declared.object.Object.{Object}
use Rattle.nt_objects.specs.declared.object.Object.TheVariants.{Thread}
use Rattle.nt_calls.specs.State.{State}
use Rattle.nt_calls.specs.Living.{LivesWhileKept}
use Rattle.nt_machine.specs.declared.standing.Standing.TheVariants.{Free}
use Rattle.nt_machine.specs.Dispatcher.{Dispatcher, state}
use Rattle.nt_machine.specs.Lawful.{IsSteady}
use Rattle.nt_core.specs.Renewals.{thread_refusal, begun_again, is_left, is_closed, with_again}
use Rattle.nt_core.proofs.Renewing.{begun_where, may_begin_again, steady_again, living_again}
use Rattle.nt_core.proofs.renewals.begin_again.Goals as goal

refused : (old mid : State) → mid ≡ old → LivesWhileKept old → LivesWhileKept mid
refused old mid same living = subst (λ (s : State). LivesWhileKept s) (sym same) living

-- what the machine is then
given : (c : goal.After-give_again) → c.give_again.new.machine ≡ with_again c.tell_anew.new.self c.args.thread c.args.handle (Thread false) (set c.tell_anew.new.self.handing c.args.thread false) (set c.tell_anew.new.self.standings c.args.thread Free) c.give_again.new.machine.owned
given c =
    c.give_again.ensures
    ∙ (ap (λ (d : Dispatcher). with_again d c.new.result c.args.handle c.new_thread.result d.handing d.standings c.give_again.new.machine.owned) c.set_free.ensures
    ∙ (ap (λ (o : ℕ). with_again c.tell_anew.new.self o c.args.handle c.new_thread.result (set c.tell_anew.new.self.handing c.args.thread false) (set c.tell_anew.new.self.standings c.args.thread Free) c.give_again.new.machine.owned) c.new.ensures
    ∙ ap (λ (x : Object). with_again c.tell_anew.new.self c.args.thread c.args.handle x (set c.tell_anew.new.self.handing c.args.thread false) (set c.tell_anew.new.self.standings c.args.thread Free) c.give_again.new.machine.owned) c.new_thread.ensures))

pub returns-then-not-may_begin-clause-begun : goal.returns-then-not-may_begin-clause-begun
returns-then-not-may_begin-clause-begun c =
    let mid = state c.tell_anew.new.self in
    let taken : (is_left mid c.args.thread && is_closed mid c.args.handle) ≡ false = sym c.may_begin.ensures ∙ c.if-not-may_begin.true in (
      subst (λ (s : State). thread_refusal s c.args.thread c.args.handle ≡ Some InvalidHandle) c.tell_anew.ensures.state
          (begun_where mid c.args.thread c.args.handle false taken),
      c.tell_anew.ensures.fresh.no_grants,
      c.tell_anew.ensures.state,
    )

pub returns-then-not-may_begin-clause-living : goal.returns-then-not-may_begin-clause-living
returns-then-not-may_begin-clause-living c = refused (state c.args.machine.now) (state c.tell_anew.new.self) c.tell_anew.ensures.state c.requires.living

pub returns-clause-begun : goal.returns-clause-begun
returns-clause-begun c =
    let mid = state c.tell_anew.new.self in
    let free : (is_left mid c.args.thread && is_closed mid c.args.handle) ≡ true = sym c.may_begin.ensures ∙ c.if-not-may_begin.false in (
      subst (λ (s : State). thread_refusal s c.args.thread c.args.handle ≡ None) c.tell_anew.ensures.state
          (begun_where mid c.args.thread c.args.handle true free),
      refl,
      ap (λ (d : Dispatcher). d.grants) (given c) ∙ c.tell_anew.ensures.fresh.no_grants,
      ap (λ (d : Dispatcher). state d) (given c)
          ∙ ap (λ (s : State). begun_again s c.args.thread c.args.handle) c.tell_anew.ensures.state,
    )

pub returns-clause-steady : goal.returns-clause-steady
returns-clause-steady c =
    let d = c.tell_anew.new.self in
    let fresh = c.tell_anew.ensures.fresh in
    let free : (is_left (state d) c.args.thread && is_closed (state d) c.args.handle) ≡ true = sym c.may_begin.ensures ∙ c.if-not-may_begin.false in
    subst IsSteady (sym (given c))
    (steady_again d c.args.thread c.args.handle (Thread false) (set d.handing c.args.thread false) (set d.standings c.args.thread Free) c.give_again.new.machine.owned fresh.steady (refused (state c.args.machine.now) (state d) c.tell_anew.ensures.state c.requires.living) (may_begin_again d c.args.thread c.args.handle fresh.steady.sound free))

pub returns-clause-living : goal.returns-clause-living
returns-clause-living c =
    let d = c.tell_anew.new.self in
    let fresh = c.tell_anew.ensures.fresh in
    let free : (is_left (state d) c.args.thread && is_closed (state d) c.args.handle) ≡ true = sym c.may_begin.ensures ∙ c.if-not-may_begin.false in
    subst (λ (new : Dispatcher). LivesWhileKept (state new)) (sym (given c))
    (living_again d c.args.thread c.args.handle (Thread false) (set d.handing c.args.thread false) (set d.standings c.args.thread Free) c.give_again.new.machine.owned (refused (state c.args.machine.now) (state d) c.tell_anew.ensures.state c.requires.living) (may_begin_again d c.args.thread c.args.handle fresh.steady.sound free))
