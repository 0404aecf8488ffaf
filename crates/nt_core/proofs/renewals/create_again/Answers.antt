use Rattle.std.proofs.Common.{◌≡◌, ℕ, true, false, ◌&&◌, refl, sym, ap, ◌∙◌, subst, Some, None}
use Rattle.nt_status.specs.declared.refusal.Refusal.TheVariants.{InvalidHandle, InvalidParameter}
use Rattle.nt_calls.specs.declared.call.Call.{Call}
use Rattle.nt_calls.specs.State.{State}
use Rattle.nt_calls.specs.Living.{LivesWhileKept}
use Rattle.nt_machine.specs.Dispatcher.{Dispatcher, state}
use Rattle.nt_machine.specs.Lawful.{IsSteady}
use Rattle.nt_core.specs.Renewals.{creation, created_by, created_again, creation_refusal, is_vacant, is_closed}
use Rattle.nt_core.proofs.Renewing.{creation_barred, uncreated, created_where, may_renew, steady_again, living_again}
use Rattle.nt_core.proofs.renewals.create_again.Goals as goal

-- a refusal, told of the state before
refused : (old mid : State) → mid ≡ old → LivesWhileKept old → LivesWhileKept mid
refused old mid same living = subst (λ (s : State). LivesWhileKept s) (sym same) living

pub returns-in-Some-clause-created : goal.returns-in-Some-clause-created
returns-in-Some-clause-created c =
    let mid = state c.tell_anew.new.self in (
      subst (λ (s : State). creation_refusal s c.args.who c.args.act.now c.args.object c.args.handle ≡ Some c.in-Some.refusal) c.tell_anew.ensures.state
          (creation_barred mid c.args.who c.args.act.now c.args.object c.args.handle c.in-Some.refusal (c.in-Some.ensures.refused false Call.Exit)),
      c.tell_anew.ensures.fresh.no_grants,
      c.tell_anew.ensures.state,
    )

pub returns-in-Some-clause-living : goal.returns-in-Some-clause-living
returns-in-Some-clause-living c = refused (state c.args.machine.now) (state c.tell_anew.new.self) c.tell_anew.ensures.state c.requires.living

pub returns-in_default-creation-clause-created : goal.returns-in_default-creation-clause-created
returns-in_default-creation-clause-created c =
    let mid = state c.tell_anew.new.self in
    let none : creation c.args.who c.args.act.now ≡ None = ap (λ (t : ℕ). creation t c.args.act.now) (sym c.new.ensures) ∙ (sym c.creation.ensures.value ∙ c.in_default-creation.is) in (
      subst (λ (s : State). creation_refusal s c.args.who c.args.act.now c.args.object c.args.handle ≡ Some InvalidParameter) c.tell_anew.ensures.state
          (uncreated mid c.args.who c.args.act.now c.args.object c.args.handle c.in_default.ensures.free none),
      c.tell_anew.ensures.fresh.no_grants,
      c.tell_anew.ensures.state,
    )

pub returns-in_default-creation-clause-living : goal.returns-in_default-creation-clause-living
returns-in_default-creation-clause-living c = refused (state c.args.machine.now) (state c.tell_anew.new.self) c.tell_anew.ensures.state c.requires.living

pub returns-then-not-may_create-clause-created : goal.returns-then-not-may_create-clause-created
returns-then-not-may_create-clause-created c =
    let mid = state c.tell_anew.new.self in
    let made : creation c.args.who c.args.act.now ≡ Some c.in-Some-creation.new = ap (λ (t : ℕ). creation t c.args.act.now) (sym c.new.ensures) ∙ (sym c.creation.ensures.value ∙ c.in-Some-creation.is) in
    let taken : (is_vacant mid c.args.object && is_closed mid c.args.handle) ≡ false = sym c.may_create.ensures ∙ c.if-not-may_create.true in (
      subst (λ (s : State). creation_refusal s c.args.who c.args.act.now c.args.object c.args.handle ≡ Some InvalidHandle) c.tell_anew.ensures.state
          (created_where mid c.args.who c.args.act.now c.args.object c.args.handle c.in-Some-creation.new false c.in_default.ensures.free made taken),
      c.tell_anew.ensures.fresh.no_grants,
      c.tell_anew.ensures.state,
    )

pub returns-then-not-may_create-clause-living : goal.returns-then-not-may_create-clause-living
returns-then-not-may_create-clause-living c = refused (state c.args.machine.now) (state c.tell_anew.new.self) c.tell_anew.ensures.state c.requires.living

pub returns-clause-created : goal.returns-clause-created
returns-clause-created c =
    let mid = state c.tell_anew.new.self in
    let made : creation c.args.who c.args.act.now ≡ Some c.in-Some-creation.new = ap (λ (t : ℕ). creation t c.args.act.now) (sym c.new.ensures) ∙ (sym c.creation.ensures.value ∙ c.in-Some-creation.is) in
    let free : (is_vacant mid c.args.object && is_closed mid c.args.handle) ≡ true = sym c.may_create.ensures ∙ c.if-not-may_create.false in (
      subst (λ (s : State). creation_refusal s c.args.who c.args.act.now c.args.object c.args.handle ≡ None) c.tell_anew.ensures.state
          (created_where mid c.args.who c.args.act.now c.args.object c.args.handle c.in-Some-creation.new true c.in_default.ensures.free made free),
      refl,
      ap (λ (d : Dispatcher). d.grants) c.give_again.ensures ∙ c.tell_anew.ensures.fresh.no_grants,
      ap (λ (d : Dispatcher). state d) c.give_again.ensures
          ∙ (ap (λ m. created_again mid c.args.object c.args.handle (created_by m)) (sym made)
          ∙ ap (λ (s : State). created_again s c.args.object c.args.handle (created_by (creation c.args.who c.args.act.now))) c.tell_anew.ensures.state),
    )

pub returns-clause-steady : goal.returns-clause-steady
returns-clause-steady c =
    let d = c.tell_anew.new.self in
    let x = c.in-Some-creation.new in
    let made : creation c.args.who c.args.act.now ≡ Some x = ap (λ (t : ℕ). creation t c.args.act.now) (sym c.new.ensures) ∙ (sym c.creation.ensures.value ∙ c.in-Some-creation.is) in
    let free : (is_vacant (state d) c.args.object && is_closed (state d) c.args.handle) ≡ true = sym c.may_create.ensures ∙ c.if-not-may_create.false in
    let fresh = c.tell_anew.ensures.fresh in
    let may = may_renew d c.args.who c.args.act.now c.args.object c.args.handle x free made c.in-Some-creation.ensures.lawful fresh.steady.sound in
    subst IsSteady (sym c.give_again.ensures)
    (steady_again d c.args.object c.args.handle x d.handing d.standings c.give_again.new.machine.owned fresh.steady (refused (state c.args.machine.now) (state d) c.tell_anew.ensures.state c.requires.living) may)

pub returns-clause-living : goal.returns-clause-living
returns-clause-living c =
    let d = c.tell_anew.new.self in
    let x = c.in-Some-creation.new in
    let made : creation c.args.who c.args.act.now ≡ Some x = ap (λ (t : ℕ). creation t c.args.act.now) (sym c.new.ensures) ∙ (sym c.creation.ensures.value ∙ c.in-Some-creation.is) in
    let free : (is_vacant (state d) c.args.object && is_closed (state d) c.args.handle) ≡ true = sym c.may_create.ensures ∙ c.if-not-may_create.false in
    let fresh = c.tell_anew.ensures.fresh in
    let may = may_renew d c.args.who c.args.act.now c.args.object c.args.handle x free made c.in-Some-creation.ensures.lawful fresh.steady.sound in
    subst (λ (new : Dispatcher). LivesWhileKept (state new)) (sym c.give_again.ensures)
    (living_again d c.args.object c.args.handle x d.handing d.standings c.give_again.new.machine.owned (refused (state c.args.machine.now) (state d) c.tell_anew.ensures.state c.requires.living) may)
