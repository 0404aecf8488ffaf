use Rattle.std.proofs.Common.{◌≡◌, ◌<◌, ◌≤◌, sym, ap, ◌∙◌, subst, arith}
use Rattle.std.specs.Prelude.{ℤ, unsigned_abs, Option, IsSomeAnd}
use Rattle.std.proofs.Common.{ℕ, w32, w64}
use Rattle.std.proofs.lemmas.Int.{to_z-of_z}
use Rattle.nt_objects.specs.declared.object.Object.{Object}
use Rattle.nt_objects.specs.declared.object.Armed.{Armed}
use Rattle.nt_objects.specs.Object.{signaled}
use Rattle.nt_calls.specs.Change.{due_moment}
use Rattle.nt_machine.specs.Dispatcher.{Dispatcher}
use Rattle.nt_machine.proofs.Arming.{asked, anew_due, set_local, set_needed, set_ahead, set_at_once, set_and_served}
use Rattle.nt_machine.proofs.machine.Machine.start.Goals as goal

pub serve_one-requires-clause-local : goal.serve_one-requires-clause-local
serve_one-requires-clause-local c =
    let old = c.args.self.now in
    let now : c.self.inside.moment ≡ old.now = ap (λ (d : Dispatcher). d.now) c.self.view_is in
    let armed : Armed = record { due = c.due_moment-due.result; period = c.unsigned_abs-period.result; routine = c.routine_for.result } in
    set_local old c.arm.new.self c.expire.new.self c.args.timer c.self.inside.moment armed c.requires.fresh c.requires.kind now c.in_ok-arm.ensures.armed c.expire.ensures.expired

pub serve_one-requires-clause-needed : goal.serve_one-requires-clause-needed
serve_one-requires-clause-needed c =
    let old = c.args.self.now in
    let now : c.self.inside.moment ≡ old.now = ap (λ (d : Dispatcher). d.now) c.self.view_is in
    let armed : Armed = record { due = c.due_moment-due.result; period = c.unsigned_abs-period.result; routine = c.routine_for.result } in
    set_needed old c.arm.new.self c.expire.new.self c.args.timer c.self.inside.moment armed c.requires.fresh c.requires.kind now c.in_ok-arm.ensures.armed c.expire.ensures.expired

pub returns-then-not-was_set-clause-ok : goal.returns-then-not-was_set-clause-ok
returns-then-not-was_set-clause-ok c =
    let old = c.args.self.now in
    let now : c.self.inside.moment ≡ old.now = ap (λ (d : Dispatcher). d.now) c.self.view_is in
    let armed : Armed = record { due = c.due_moment-due.result; period = c.unsigned_abs-period.result; routine = c.routine_for.result } in
    let due : c.due_moment-due.result ≡ due_moment old.now c.args.due = c.due_moment-due.ensures ∙ (ap (λ (z : ℤ). due_moment c.self.inside.moment z) (to_z-of_z w64 c.args.due c.ranges.due) ∙ ap (λ (k : ℕ). due_moment k c.args.due) now) in
    let period : c.unsigned_abs-period.result ≡ unsigned_abs c.args.period = c.unsigned_abs-period.ensures.value ∙ ap (λ (z : ℤ). unsigned_abs z) (to_z-of_z w32 c.args.period c.ranges.period) in
    let same : armed ≡ asked old.now c.args.thread c.args.due c.args.period c.args.routine = λ i. record { due = due i; period = period i; routine = c.routine_for.ensures i } in
    let past : c.due_moment-due.result ≤ c.self.inside.moment = let h = c.if-due-get.true in let k = c.get.ensures.value in omega (arith, h, k) in
    let was = ap (λ (o : Object). signaled o c.args.thread) (sym c.object.ensures) ∙ sym c.signaled_for-was_set.ensures in
    set_and_served old c.arm.new.self c.expire.new.self c.serve_one.new.self c.args.thread c.args.timer c.self.inside.moment c.args.due c.args.period c.args.routine armed c.requires.fresh c.requires.running.idle c.requires.kind same now past (was ∙ c.if-not-was_set.true) c.in_ok-arm.ensures.armed c.expire.ensures.expired c.serve_one.ensures.served c.serve_one.ensures.sound c.serve_one.ensures.tested.1 c.serve_one.ensures.tested.0 (c.serve_one.ensures.marked ∙ (c.expire.ensures.kept.marked ∙ c.in_ok-arm.ensures.kept.marked))

pub returns-else-not-was_set-clause-ok : goal.returns-else-not-was_set-clause-ok
returns-else-not-was_set-clause-ok c =
    let old = c.args.self.now in
    let now : c.self.inside.moment ≡ old.now = ap (λ (d : Dispatcher). d.now) c.self.view_is in
    let armed : Armed = record { due = c.due_moment-due.result; period = c.unsigned_abs-period.result; routine = c.routine_for.result } in
    let due : c.due_moment-due.result ≡ due_moment old.now c.args.due = c.due_moment-due.ensures ∙ (ap (λ (z : ℤ). due_moment c.self.inside.moment z) (to_z-of_z w64 c.args.due c.ranges.due) ∙ ap (λ (k : ℕ). due_moment k c.args.due) now) in
    let period : c.unsigned_abs-period.result ≡ unsigned_abs c.args.period = c.unsigned_abs-period.ensures.value ∙ ap (λ (z : ℤ). unsigned_abs z) (to_z-of_z w32 c.args.period c.ranges.period) in
    let same : armed ≡ asked old.now c.args.thread c.args.due c.args.period c.args.routine = λ i. record { due = due i; period = period i; routine = c.routine_for.ensures i } in
    let past : c.due_moment-due.result ≤ c.self.inside.moment = let h = c.if-due-get.true in let k = c.get.ensures.value in omega (arith, h, k) in
    let was = ap (λ (o : Object). signaled o c.args.thread) (sym c.object.ensures) ∙ sym c.signaled_for-was_set.ensures in
    set_at_once old c.arm.new.self c.expire.new.self c.args.thread c.args.timer c.self.inside.moment c.args.due c.args.period c.args.routine armed c.requires.fresh c.requires.running.idle c.requires.kind same now past (was ∙ c.if-not-was_set.false) c.in_ok-arm.ensures.armed c.expire.ensures.expired c.expire.ensures.sound (c.expire.ensures.kept.grants ∙ c.in_ok-arm.ensures.kept.grants) (c.expire.ensures.kept.table ∙ c.in_ok-arm.ensures.kept.table) (c.expire.ensures.kept.marked ∙ c.in_ok-arm.ensures.kept.marked)

pub returns-else-due-get-clause-ok : goal.returns-else-due-get-clause-ok
returns-else-due-get-clause-ok c =
    let old = c.args.self.now in
    let now : c.self.inside.moment ≡ old.now = ap (λ (d : Dispatcher). d.now) c.self.view_is in
    let armed : Armed = record { due = c.due_moment-due.result; period = c.unsigned_abs-period.result; routine = c.routine_for.result } in
    let due : c.due_moment-due.result ≡ due_moment old.now c.args.due = c.due_moment-due.ensures ∙ (ap (λ (z : ℤ). due_moment c.self.inside.moment z) (to_z-of_z w64 c.args.due c.ranges.due) ∙ ap (λ (k : ℕ). due_moment k c.args.due) now) in
    let period : c.unsigned_abs-period.result ≡ unsigned_abs c.args.period = c.unsigned_abs-period.ensures.value ∙ ap (λ (z : ℤ). unsigned_abs z) (to_z-of_z w32 c.args.period c.ranges.period) in
    let same : armed ≡ asked old.now c.args.thread c.args.due c.args.period c.args.routine = λ i. record { due = due i; period = period i; routine = c.routine_for.ensures i } in
    let ahead : old.now < c.due_moment-due.result = let h = c.if-due-get.false in let k = c.get.ensures.value in omega (arith, h, k, now) in
    set_ahead old c.arm.new.self c.args.thread c.args.timer c.args.due c.args.period c.args.routine armed c.requires.fresh c.requires.running.idle c.requires.kind same ahead c.in_ok-arm.ensures.armed c.in_ok-arm.ensures.sound c.in_ok-arm.ensures.kept.grants c.in_ok-arm.ensures.kept.table c.in_ok-arm.ensures.kept.marked

pub expire-requires-clause-due : goal.expire-requires-clause-due
expire-requires-clause-due c =
    let old = c.args.self.now in
    let armed : Armed = record { due = c.due_moment-due.result; period = c.unsigned_abs-period.result; routine = c.routine_for.result } in
    let past : c.due_moment-due.result ≤ c.self.inside.moment = let h = c.if-due-get.true in let k = c.get.ensures.value in omega (arith, h, k) in
    subst (λ (o : Option ℕ). IsSomeAnd o (λ due. due ≤ c.self.inside.moment)) (sym (anew_due old c.arm.new.self c.args.timer armed c.requires.kind c.in_ok-arm.ensures.armed)) past
