-- Changes that leave an object with its owner.
use Rattle.std.proofs.Common.{◌≡◌, ◌<◌, ◌==◌, ℕ, Bool, arith, true, false, sym, ap, ◌∙◌, refl, Option, Some, None}
use Rattle.std.specs.Prelude.{IfSome}
use Rattle.std.proofs.lemmas.Bool.{false≢true}
use Rattle.std.proofs.lemmas.Option.{none-some}
use Rattle.std.proofs.lemmas.Bool.Decides.{nat_tests}
use Rattle.nt_status.specs.Flags.{has_flag, mutex_initial_owner}
use Rattle.nt_objects.specs.declared.object.Object.{Object}
use Rattle.nt_objects.specs.declared.object.Object.TheVariants.{Event, Semaphore, Mutex, Timer, Thread, Gone}
use Rattle.nt_objects.specs.declared.object.Armed.{Armed}
use Rattle.nt_objects.specs.Object.{mutex_owner, owned_by, with_set, armed_with, due_of, setting_of, rearmed, mutex_of}

pub owner_set : (b : Bool) (o : Object) → mutex_owner (with_set b o) ≡ mutex_owner o
owner_set b (Event manual set) = refl
owner_set b (Semaphore count maximum) = refl
owner_set b (Mutex owner depth abandoned) = refl
owner_set b (Timer manual set armed) = refl
owner_set b (Thread ended) = refl
owner_set b Gone = refl

pub owner_armed : (armed : Option Armed) (o : Object) → mutex_owner (armed_with armed o) ≡ mutex_owner o
owner_armed armed (Event manual set) = refl
owner_armed armed (Semaphore count maximum) = refl
owner_armed armed (Mutex owner depth abandoned) = refl
owner_armed armed (Timer manual set was) = refl
owner_armed armed (Thread ended) = refl
owner_armed armed Gone = refl

-- a timer that expired is nobody's still
pub owner_rung : (o o' : Object) (now due : ℕ) → due_of o ≡ Some due → IfSome (setting_of o) (λ armed. o' ≡ armed_with (rearmed now armed) (with_set true o)) → mutex_owner o' ≡ mutex_owner o
owner_rung (Timer manual set (Some armed)) o' now due is change = ap mutex_owner change
owner_rung (Timer manual set None) o' now due is change = absurd (none-some due is)
owner_rung (Event manual set) o' now due is change = absurd (none-some due is)
owner_rung (Semaphore count maximum) o' now due is change = absurd (none-some due is)
owner_rung (Mutex owner depth abandoned) o' now due is change = absurd (none-some due is)
owner_rung (Thread ended) o' now due is change = absurd (none-some due is)
owner_rung Gone o' now due is change = absurd (none-some due is)

-- whether a thread is the owner
abbrev pub is_owner : Option ℕ → ℕ → Bool
is_owner None t = false
is_owner (Some owner) t = owner == t

owned_as : (o : Object) (t : ℕ) → owned_by o t ≡ is_owner (mutex_owner o) t
owned_as (Event manual set) t = refl
owned_as (Semaphore count maximum) t = refl
owned_as (Mutex None depth abandoned) t = refl
owned_as (Mutex (Some owner) depth abandoned) t = refl
owned_as (Timer manual set armed) t = refl
owned_as (Thread ended) t = refl
owned_as Gone t = refl

-- who owns the new object owned the old one, where both have the same owner
pub owned_still : (old new : Object) (t : ℕ) → mutex_owner new ≡ mutex_owner old → owned_by new t ≡ true → owned_by old t ≡ true
owned_still old new t same owns = owned_as old t ∙ (ap (λ owner. is_owner owner t) (sym same) ∙ (sym (owned_as new t) ∙ owns))

-- a new mutex is nobody's or its creator's
pub new_owner : (flags who t n : ℕ) → who < n → owned_by (mutex_of flags who) t ≡ true → t < n
new_owner flags who t n below owns = go (has_flag flags mutex_initial_owner) refl
  where
    go : (b : Bool) → has_flag flags mutex_initial_owner ≡ b → t < n
    go true is = let same : (who == t) ≡ true = rw is at owns in grind (arith, nat_tests, same, below)
    go false is = absurd (false≢true (rw is at owns))
