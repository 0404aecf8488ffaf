use Rattle.std.proofs.Common.{◌≡◌, ℕ, false, true, refl, ap, ◌∙◌, subst}
use Rattle.nt_status.specs.Flags.{only_known, mutex_bits}
use Rattle.nt_status.specs.declared.refusal.Refusal.TheVariants.{InvalidParameter}
use Rattle.nt_objects.specs.declared.object.Object.{Object}
use Rattle.nt_objects.specs.Object.{mutex_of, IsLawfulObject, owned_by}
use Rattle.nt_calls.specs.declared.call.Act.{Act}
use Rattle.nt_calls.specs.declared.call.Call.{Call}
use Rattle.nt_machine.proofs.Owned.{new_owner}
use Rattle.nt_machine.proofs.Replacing.{mutex_undue, mutex_no_thread, mutex_lives}
use Rattle.nt_machine.proofs.Making.{refused_made, unlawful_creation, unknown_bits, created_made, created_as}
use Rattle.nt_machine.proofs.Running.{free_runs}
use Rattle.nt_machine.proofs.machine.Machine.create_mutex.Goals as goal

pub returns-in_default : goal.returns-in_default
returns-in_default c =
    let old = c.args.self.now in
    refused_made old c.args.thread false (Call.Act (Act.CreateMutex c.args.flags)) InvalidParameter c.requires.fresh c.requires.free
    (unlawful_creation old.handles (only_known mutex_bits c.args.flags) (unknown_bits (only_known mutex_bits c.args.flags) (λ known. c.in_default.ensures.known.1 known)))

pub returns : goal.returns
returns c =
    let old = c.args.self.now in
    let new = c.create.new.self in
    let o = mutex_of c.args.flags c.args.thread in
    let made = c.new_mutex.ensures in
    let is_o : c.new_mutex.result ≡ o = made.mutex ∙ ap (λ (flags : ℕ). mutex_of flags c.args.thread) c.in-Some.ensures.value in
    created_made old new c.args.thread o new.owned (Act.CreateMutex c.args.flags) (only_known mutex_bits c.args.flags) c.create.result c.requires.fresh c.requires.free refl (c.in-Some.ensures.known.0 refl) refl
    (subst IsLawfulObject is_o made.lawful) (mutex_no_thread c.args.flags c.args.thread) (mutex_lives c.args.flags c.args.thread) (mutex_undue c.args.flags c.args.thread) refl (λ s. refl) (λ s. refl)
    c.create.ensures.few c.create.ensures.handle (created_as c.create.result old new c.new_mutex.result o is_o c.create.ensures.ok) c.create.ensures.refused c.create.ensures.err

pub create-requires-clause-owner : goal.create-requires-clause-owner
create-requires-clause-owner c t owns = new_owner c.in-Some.flags c.args.thread t c.args.self.now.threads (free_runs c.args.self.now c.args.thread c.requires.free).known (subst (λ (o : Object). owned_by o t ≡ true) (c.new_mutex.ensures.mutex) owns)
