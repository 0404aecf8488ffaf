-- What a call looks at: a renewal looks at no wait.
use Rattle.std.proofs.Common.{◌≡◌, ◌<◌, ◌≤◌, ◌∙◌, ◌⊎◌, ℕ, true, List, [], ◌∷◌, ◌++◌, length, refl, sym, ap, subst, arith, inl, inr}
use Rattle.std.specs.Prelude.{OnOk, OnErr}
use Rattle.std.specs.List.{filter}
use Rattle.std.specs.declared.result.Result.{Result}
use Rattle.std.specs.declared.result.Result.TheVariants.{Ok, Err}
use Rattle.std.proofs.lemmas.Bool.{false≢true}
use Rattle.nt_status.proofs.Lists.{contains_none}
use Rattle.nt_status.specs.declared.refusal.Refusal.{Refusal}
use Rattle.nt_objects.specs.declared.object.Object.{Object}
use Rattle.nt_objects.specs.declared.object.Object.TheVariants.{Semaphore}
use Rattle.nt_objects.specs.Object.{event_of, mutex_of, timer_of}
use Rattle.nt_calls.specs.declared.call.Act.{Act}
use Rattle.nt_calls.specs.declared.call.Call.{Call}
use Rattle.nt_calls.specs.declared.call.Reply.{Reply}
use Rattle.nt_calls.specs.declared.call.Grant.{Grant}
use Rattle.nt_calls.specs.State.{State, object_at}
use Rattle.nt_calls.specs.Change.{change}
use Rattle.nt_calls.specs.Naming.{call_named, object_named}
use Rattle.nt_machine.specs.Accepts.{IsLocal, is_by_objects}
use Rattle.nt_machine.specs.Dispatcher.{Dispatcher, state}
use Rattle.nt_core.specs.Renewals.{CreatesAgain, DuplicatesAgain}
use Rattle.nt_machine.proofs.Changing.{object_at-append}
use Rattle.nt_life.specs.Lasting.{Spares, LooksAt, CreatesSpare, CreatesMore, CreatesBeside, is_creation, last_closed}

-- it changes no object that there was, so it has nobody to look at; and it looks at nobody
none_local : (old : State) (who : ℕ) (call : Call) (tested : ℕ) (grants : List Grant) → ((o : ℕ) → o < length old.objects → object_at (change old who call).objects o ≡ object_at old.objects o) → tested ≡ 0 → grants ≡ [] → IsLocal old who call tested grants
none_local old who call tested grants same none nobody = record {
  numbers = [];
  changed = record { rising = tt; exactly = λ o. (λ m. absurd (contains_none o m), λ is. absurd (is.1 (same o is.0))) };
  most = omega (arith, none);
  least = subst (λ (gs : List Grant). length (filter is_by_objects gs) ≤ tested) (sym nobody) (omega arith);
}

none_looks : (old new : Dispatcher) (who : ℕ) (call : Call) (result : Result Reply Refusal) → IsLocal (state old) who (call_named old.handles call) new.table.looked new.grants → new.table.looked ≡ 0 → LooksAt old who call result new
none_looks old new who call (Ok reply) local none = record { local = local; untested = tt }
none_looks old new who call (Err cause) local none = record { local = tt; untested = none }

more_objects : (old new : Dispatcher) (who : ℕ) (act : Act) (made : Object) → (change (state old) who (call_named old.handles (Call.Act act))).objects ≡ old.objects ++ made ∷ [] → new.table.looked ≡ 0 → new.grants ≡ [] → IsLocal (state old) who (call_named old.handles (Call.Act act)) new.table.looked new.grants
more_objects old new who act made is none nobody =
    none_local (state old) who (call_named old.handles (Call.Act act)) new.table.looked new.grants
    (λ o below. ap (λ os. object_at os o) is ∙ object_at-append old.objects (made ∷ []) o below) none nobody

creation_local : (old new : Dispatcher) (who : ℕ) (act : Act) → is_creation act ≡ true → new.table.looked ≡ 0 → new.grants ≡ [] → IsLocal (state old) who (call_named old.handles (Call.Act act)) new.table.looked new.grants
creation_local old new who (Act.CreateEvent flags) creates none nobody = more_objects old new who (Act.CreateEvent flags) (event_of flags) refl none nobody
creation_local old new who (Act.CreateSemaphore initial maximum) creates none nobody = more_objects old new who (Act.CreateSemaphore initial maximum) (Semaphore initial maximum) refl none nobody
creation_local old new who (Act.CreateMutex flags) creates none nobody = more_objects old new who (Act.CreateMutex flags) (mutex_of flags who) refl none nobody
creation_local old new who (Act.CreateTimer flags) creates none nobody = more_objects old new who (Act.CreateTimer flags) (timer_of flags) refl none nobody
creation_local old new who act creates none nobody = absurd (false≢true creates)

-- what renews looks at no wait
pub creation_looks : (old new : Dispatcher) (who : ℕ) (act : Act) (result : Result Reply Refusal) → is_creation act ≡ true → new.table.looked ≡ 0 → new.grants ≡ [] → LooksAt old who (Call.Act act) result new
creation_looks old new who act result creates none nobody = none_looks old new who (Call.Act act) result (creation_local old new who act creates none nobody) none

pub duplicate_looks : (old new : Dispatcher) (who source access : ℕ) (result : Result Reply Refusal) → new.table.looked ≡ 0 → new.grants ≡ [] → LooksAt old who (Call.Act (Act.Duplicate source access)) result new
duplicate_looks old new who source access result none nobody =
    none_looks old new who (Call.Act (Act.Duplicate source access)) result
    (none_local (state old) who (Call.Act (Act.Duplicate (object_named old.handles source) access)) new.table.looked new.grants (λ o below. refl) none nobody) none

-- a call of the machine
pub own_looks : (old new : Dispatcher) (who : ℕ) (made call : Call) (result : Result Reply Refusal) → made ≡ call → OnOk result (IsLocal (state old) who (call_named old.handles made) new.table.looked new.grants) → OnErr result (new.table.looked ≡ 0) → LooksAt old who call result new
own_looks old new who made call result same local untested =
    record { local = subst (λ (c : Call). OnOk result (IsLocal (state old) who (call_named old.handles c) new.table.looked new.grants)) same local; untested = untested }

-- ---- a renewal ends no wait

pub created_nobody : (old : State) (who : ℕ) (act : Act) (o h : ℕ) (result : Result Reply Refusal) (grants : List Grant) (new : State) → CreatesAgain old who act o h result grants new → grants ≡ []
created_nobody old who act o h (Ok reply) grants new is = is.2
created_nobody old who act o h (Err cause) grants new is = is.1

pub duplicated_nobody : (old : State) (who source access h : ℕ) (result : Result Reply Refusal) (grants : List Grant) (new : State) → DuplicatesAgain old who source access h result grants new → grants ≡ []
duplicated_nobody old who source access h (Ok reply) grants new is = is.2
duplicated_nobody old who source access h (Err cause) grants new is = is.1

beside_nobody : (added : Result ℕ Refusal) (old mid : State) (h who : ℕ) (act : Act) (result : Result Reply Refusal) (grants : List Grant) (new : State) → CreatesBeside added old mid h who act result grants new → grants ≡ []
beside_nobody (Ok o) old mid h who act result grants new is = created_nobody mid who act o h result grants new is.1
beside_nobody (Err cause) old mid h who act result grants new is = is.1

pub more_nobody : (old : State) (spare : Spares) (who : ℕ) (act : Act) (result : Result Reply Refusal) (grants : List Grant) (new : State) → CreatesSpare old spare who act result grants new ⊎ CreatesMore old spare who act result grants new → grants ≡ []
more_nobody old spare who act result grants new (inl again) = created_nobody old who act again.1.0 (last_closed spare) result grants new again.1.2
more_nobody old spare who act result grants new (inr more) = beside_nobody more.2.0 old more.2.1 (last_closed spare) who act result grants new more.2.3
