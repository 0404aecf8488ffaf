use Rattle.std.proofs.Common.{◌≡◌, ℕ, true, false, not, ◌||◌, refl, sym, ap, ◌∙◌, subst, Option, Some, None}
use Rattle.nt_status.specs.declared.refusal.Refusal.TheVariants.{AccessDenied, InvalidHandle}
use Rattle.nt_calls.specs.declared.call.Call.{Call}
use Rattle.nt_calls.specs.State.{State}
use Rattle.nt_calls.specs.Living.{LivesWhileKept}
use Rattle.nt_machine.specs.Dispatcher.{Dispatcher, state}
use Rattle.nt_machine.specs.Lawful.{IsSteady}
use Rattle.nt_status.specs.Flags.{only_known, has_flag}
use Rattle.nt_status.specs.Access.{access_bits}
use Rattle.nt_tables.specs.declared.handles.Opened.{Opened}
use Rattle.nt_tables.specs.Handles.{opened_at}
use Rattle.std.specs.Prelude.{is_none}
use Rattle.nt_calls.specs.Naming.{object_in, lacks}
use Rattle.nt_machine.proofs.Making.{unknown_bits}
use Rattle.nt_core.specs.Renewals.{duplicate_refusal, opened_again, is_closed}
use Rattle.nt_core.proofs.Renewing.{MayOpen, with_opened, duplicate_barred, duplicated_where, lacks_none, or_true, closed_parts, steady_opened, living_opened}
use Rattle.nt_core.proofs.renewals.duplicate_again.Goals as goal

refused : (old mid : State) → mid ≡ old → LivesWhileKept old → LivesWhileKept mid
refused old mid same living = subst (λ (s : State). LivesWhileKept s) (sym same) living

pub returns-in-Some-clause-duplicated : goal.returns-in-Some-clause-duplicated
returns-in-Some-clause-duplicated c =
    let mid = state c.tell_anew.new.self in (
      subst (λ (s : State). duplicate_refusal s c.args.who c.args.source c.args.access c.args.handle ≡ Some c.in-Some.refusal) c.tell_anew.ensures.state
          (duplicate_barred mid c.args.who c.args.source c.args.access c.args.handle c.in-Some.refusal (c.in-Some.ensures.refused false Call.Exit)),
      c.tell_anew.ensures.fresh.no_grants,
      c.tell_anew.ensures.state,
    )

pub returns-in-Some-clause-living : goal.returns-in-Some-clause-living
returns-in-Some-clause-living c = refused (state c.args.machine.now) (state c.tell_anew.new.self) c.tell_anew.ensures.state c.requires.living

pub returns-in_default-opened-clause-duplicated : goal.returns-in_default-opened-clause-duplicated
returns-in_default-opened-clause-duplicated c =
    let mid = state c.tell_anew.new.self in (
      subst (λ (s : State). duplicate_refusal s c.args.who c.args.source c.args.access c.args.handle ≡ Some InvalidHandle) c.tell_anew.ensures.state
          (duplicated_where mid c.args.who c.args.source c.args.access c.args.handle true (lacks c.args.access mid.handles c.args.source || not (only_known access_bits c.args.access)) (is_closed mid c.args.handle) c.in_default.ensures.free (ap is_none (sym c.opened.ensures ∙ c.in_default-opened.is)) refl refl),
      c.tell_anew.ensures.fresh.no_grants,
      c.tell_anew.ensures.state,
    )

pub returns-in_default-opened-clause-living : goal.returns-in_default-opened-clause-living
returns-in_default-opened-clause-living c = refused (state c.args.machine.now) (state c.tell_anew.new.self) c.tell_anew.ensures.state c.requires.living

pub returns-in_default-from_bits-clause-duplicated : goal.returns-in_default-from_bits-clause-duplicated
returns-in_default-from_bits-clause-duplicated c =
    let mid = state c.tell_anew.new.self in (
      subst (λ (s : State). duplicate_refusal s c.args.who c.args.source c.args.access c.args.handle ≡ Some AccessDenied) c.tell_anew.ensures.state
          (duplicated_where mid c.args.who c.args.source c.args.access c.args.handle false true (is_closed mid c.args.handle) c.in_default.ensures.free (ap is_none (sym c.opened.ensures ∙ c.in-Some-opened.is)) (ap (λ b. lacks c.args.access mid.handles c.args.source || not b) (unknown_bits (only_known access_bits c.args.access) (λ known. c.in_default-from_bits.ensures.known.1 known)) ∙ or_true (lacks c.args.access mid.handles c.args.source)) refl),
      c.tell_anew.ensures.fresh.no_grants,
      c.tell_anew.ensures.state,
    )

pub returns-in_default-from_bits-clause-living : goal.returns-in_default-from_bits-clause-living
returns-in_default-from_bits-clause-living c = refused (state c.args.machine.now) (state c.tell_anew.new.self) c.tell_anew.ensures.state c.requires.living

pub returns-then-not-contains-clause-duplicated : goal.returns-then-not-contains-clause-duplicated
returns-then-not-contains-clause-duplicated c =
    let mid = state c.tell_anew.new.self in (
      subst (λ (s : State). duplicate_refusal s c.args.who c.args.source c.args.access c.args.handle ≡ Some AccessDenied) c.tell_anew.ensures.state
          (duplicated_where mid c.args.who c.args.source c.args.access c.args.handle false true (is_closed mid c.args.handle) c.in_default.ensures.free (ap is_none (sym c.opened.ensures ∙ c.in-Some-opened.is)) (ap (λ b. b || not (only_known access_bits c.args.access)) (lacks_none mid c.args.source c.args.access c.in-Some-opened.opened false (sym c.opened.ensures ∙ c.in-Some-opened.is) (ap (λ (rights : ℕ). has_flag c.in-Some-opened.opened.access rights) (sym c.in-Some-from_bits.ensures.value) ∙ (sym c.contains.ensures ∙ c.if-not-contains.true)))) refl),
      c.tell_anew.ensures.fresh.no_grants,
      c.tell_anew.ensures.state,
    )

pub returns-then-not-contains-clause-living : goal.returns-then-not-contains-clause-living
returns-then-not-contains-clause-living c = refused (state c.args.machine.now) (state c.tell_anew.new.self) c.tell_anew.ensures.state c.requires.living

pub returns-then-not-is_closed-clause-duplicated : goal.returns-then-not-is_closed-clause-duplicated
returns-then-not-is_closed-clause-duplicated c =
    let mid = state c.tell_anew.new.self in (
      subst (λ (s : State). duplicate_refusal s c.args.who c.args.source c.args.access c.args.handle ≡ Some InvalidHandle) c.tell_anew.ensures.state
          (duplicated_where mid c.args.who c.args.source c.args.access c.args.handle false false false c.in_default.ensures.free (ap is_none (sym c.opened.ensures ∙ c.in-Some-opened.is)) (ap (λ b. b || not (only_known access_bits c.args.access)) (lacks_none mid c.args.source c.args.access c.in-Some-opened.opened true (sym c.opened.ensures ∙ c.in-Some-opened.is) (ap (λ (rights : ℕ). has_flag c.in-Some-opened.opened.access rights) (sym c.in-Some-from_bits.ensures.value) ∙ (sym c.contains.ensures ∙ c.if-not-contains.false))) ∙ ap (λ b. not b) (c.in-Some-from_bits.ensures.known.0 refl)) (sym c.is_closed.ensures ∙ c.if-not-is_closed.true)),
      c.tell_anew.ensures.fresh.no_grants,
      c.tell_anew.ensures.state,
    )

pub returns-then-not-is_closed-clause-living : goal.returns-then-not-is_closed-clause-living
returns-then-not-is_closed-clause-living c = refused (state c.args.machine.now) (state c.tell_anew.new.self) c.tell_anew.ensures.state c.requires.living

-- what the machine is then
given : (c : goal.After-open_again) → c.open_again.new.machine ≡ with_opened c.tell_anew.new.self c.args.handle c.in-Some-opened.opened c.args.access
given c = c.open_again.ensures ∙ ap (λ (access : ℕ). with_opened c.tell_anew.new.self c.args.handle c.in-Some-opened.opened access) c.in-Some-from_bits.ensures.value

may : (c : goal.After-open_again) → MayOpen c.tell_anew.new.self c.args.handle c.args.source c.in-Some-opened.opened
may c =
    let closed = closed_parts (state c.tell_anew.new.self) c.args.handle (sym c.is_closed.ensures ∙ c.if-not-is_closed.false) in
    record { there = sym c.opened.ensures ∙ c.in-Some-opened.is; known = closed.0; closed = closed.1 }

pub returns-clause-duplicated : goal.returns-clause-duplicated
returns-clause-duplicated c =
    let mid = state c.tell_anew.new.self in (
      subst (λ (s : State). duplicate_refusal s c.args.who c.args.source c.args.access c.args.handle ≡ None) c.tell_anew.ensures.state
          (duplicated_where mid c.args.who c.args.source c.args.access c.args.handle false false true c.in_default.ensures.free (ap is_none (sym c.opened.ensures ∙ c.in-Some-opened.is)) (ap (λ b. b || not (only_known access_bits c.args.access)) (lacks_none mid c.args.source c.args.access c.in-Some-opened.opened true (sym c.opened.ensures ∙ c.in-Some-opened.is) (ap (λ (rights : ℕ). has_flag c.in-Some-opened.opened.access rights) (sym c.in-Some-from_bits.ensures.value) ∙ (sym c.contains.ensures ∙ c.if-not-contains.false))) ∙ ap (λ b. not b) (c.in-Some-from_bits.ensures.known.0 refl)) (sym c.is_closed.ensures ∙ c.if-not-is_closed.false)),
      refl,
      ap (λ (d : Dispatcher). d.grants) (given c) ∙ c.tell_anew.ensures.fresh.no_grants,
      ap (λ (d : Dispatcher). state d) (given c)
          ∙ (ap (λ (o : Option Opened). opened_again mid c.args.handle (object_in o) c.args.access) (sym (sym c.opened.ensures ∙ c.in-Some-opened.is))
          ∙ ap (λ (s : State). opened_again s c.args.handle (object_in (opened_at s.handles c.args.source)) c.args.access) c.tell_anew.ensures.state),
    )

pub returns-clause-steady : goal.returns-clause-steady
returns-clause-steady c =
    let d = c.tell_anew.new.self in
    subst IsSteady (sym (given c))
    (steady_opened d c.args.handle c.args.source c.args.access c.in-Some-opened.opened c.tell_anew.ensures.fresh.steady (refused (state c.args.machine.now) (state c.tell_anew.new.self) c.tell_anew.ensures.state c.requires.living) (may c))

pub returns-clause-living : goal.returns-clause-living
returns-clause-living c =
    let d = c.tell_anew.new.self in
    subst (λ (new : Dispatcher). LivesWhileKept (state new)) (sym (given c))
    (living_opened d c.args.handle c.args.source c.args.access c.in-Some-opened.opened c.tell_anew.ensures.fresh.steady.sound (refused (state c.args.machine.now) (state c.tell_anew.new.self) c.tell_anew.ensures.state c.requires.living) (may c))
