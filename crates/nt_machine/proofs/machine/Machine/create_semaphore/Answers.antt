use Rattle.std.proofs.Common.{◌≡◌, false, refl, ap, ◌∙◌, subst, w32}
use Rattle.std.specs.Prelude.{ℤ}
use mir.Val.{to_z, of_z}
use Rattle.std.proofs.lemmas.Int.{to_z-of_z}
use Rattle.nt_status.specs.declared.refusal.Refusal.TheVariants.{InvalidParameter}
use Rattle.nt_objects.specs.declared.object.Object.TheVariants.{Semaphore}
use Rattle.nt_objects.specs.Object.{may_count, IsLawfulObject}
use Rattle.nt_calls.specs.declared.call.Act.{Act}
use Rattle.nt_calls.specs.declared.call.Call.{Call}
use Rattle.nt_machine.proofs.Making.{refused_made, unlawful_creation, unknown_bits, created_made, created_as}
use Rattle.nt_machine.proofs.machine.Machine.create_semaphore.Goals as goal

pub returns-in_default : goal.returns-in_default
returns-in_default c t free =
    let old = c.args.self.now in
    let initial : to_z w32 (of_z w32 c.args.initial) ≡ c.args.initial = to_z-of_z w32 c.args.initial c.ranges.initial in
    let maximum : to_z w32 (of_z w32 c.args.maximum) ≡ c.args.maximum = to_z-of_z w32 c.args.maximum c.ranges.maximum in
    let told = (rw (initial, maximum) at c.in_default.ensures.ok) in
    refused_made old t false (Call.Act (Act.CreateSemaphore c.args.initial c.args.maximum)) InvalidParameter c.requires.fresh free
    (unlawful_creation old.handles (may_count c.args.initial c.args.maximum) (unknown_bits (may_count c.args.initial c.args.maximum) (λ known. told.1 known)))

pub returns : goal.returns
returns c t free =
    let old = c.args.self.now in
    let new = c.create.new.self in
    let o = Semaphore c.args.initial c.args.maximum in
    let made = c.in-Ok.ensures in
    let initial : to_z w32 (of_z w32 c.args.initial) ≡ c.args.initial = to_z-of_z w32 c.args.initial c.ranges.initial in
    let maximum : to_z w32 (of_z w32 c.args.maximum) ≡ c.args.maximum = to_z-of_z w32 c.args.maximum c.ranges.maximum in
    let is_o : c.in-Ok.semaphore ≡ o = made.semaphore ∙ (ap (λ (z : ℤ). Semaphore z (to_z w32 (of_z w32 c.args.maximum))) initial ∙ ap (λ (z : ℤ). Semaphore c.args.initial z) maximum) in
    let counts = (rw (initial, maximum) at made.ok) in
    created_made old new t o new.owned (Act.CreateSemaphore c.args.initial c.args.maximum) (may_count c.args.initial c.args.maximum) c.create.result c.requires.fresh free refl (counts.0 refl) refl
    (subst IsLawfulObject is_o made.lawful) refl refl refl refl (λ s. refl) (λ s. refl)
    c.create.ensures.few c.create.ensures.handle (created_as c.create.result old new c.in-Ok.semaphore o is_o c.create.ensures.ok) c.create.ensures.refused c.create.ensures.err
