use Rattle.std.proofs.Common.{◌≡◌, ℕ, false, refl, ap, ◌∙◌}
use Rattle.nt_status.specs.Flags.{only_known, timer_bits}
use Rattle.nt_status.specs.declared.refusal.Refusal.TheVariants.{InvalidParameter}
use Rattle.nt_objects.specs.Object.{timer_of}
use Rattle.nt_calls.specs.declared.call.Act.{Act}
use Rattle.nt_calls.specs.declared.call.Call.{Call}
use Rattle.nt_machine.proofs.Making.{refused_made, unlawful_creation, unknown_bits, created_made, created_as}
use Rattle.nt_machine.proofs.machine.Machine.create_timer.Goals as goal

pub returns-in_default : goal.returns-in_default
returns-in_default c t free =
    let old = c.args.self.now in
    refused_made old t false (Call.Act (Act.CreateTimer c.args.flags)) InvalidParameter c.requires.fresh free
    (unlawful_creation old.handles (only_known timer_bits c.args.flags) (unknown_bits (only_known timer_bits c.args.flags) (λ known. c.in_default.ensures.known.1 known)))

pub returns : goal.returns
returns c t free =
    let old = c.args.self.now in
    let new = c.create.new.self in
    let o = timer_of c.args.flags in
    let made = c.new_timer.ensures in
    let is_o : c.new_timer.result ≡ o = made.timer ∙ ap (λ (flags : ℕ). timer_of flags) c.in-Some.ensures.value in
    created_made old new t o new.owned (Act.CreateTimer c.args.flags) (only_known timer_bits c.args.flags) c.create.result c.requires.fresh free refl (c.in-Some.ensures.known.0 refl) refl
    tt refl refl refl refl (λ s. refl) (λ s. refl)
    c.create.ensures.few c.create.ensures.handle (created_as c.create.result old new c.new_timer.result o is_o c.create.ensures.ok) c.create.ensures.refused c.create.ensures.err
