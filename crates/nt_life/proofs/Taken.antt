-- Where there is no number, no creation and no duplicate is accepted.
use Rattle.std.proofs.Common.{◌≡◌, ◌<◌, ℕ, Bool, true, false, not, ◌||◌, List, [], ◌∷◌, length, refl, sym, ap, ◌∙◌, arith, inl, inr, ◌⊎◌}
use Rattle.std.specs.Prelude.{nat_lt, MatchBool, OnOk}
use Rattle.std.specs.declared.option.Option.{Option}
use Rattle.std.specs.declared.option.Option.TheVariants.{None}
use Rattle.std.specs.declared.result.Result.{Result}
use Rattle.std.specs.declared.result.Result.TheVariants.{Ok, Err}
use Rattle.std.proofs.lemmas.Bool.{false≢true}
use Rattle.std.proofs.lemmas.Bool.Decides.{nat_tests}
use Rattle.nt_status.specs.declared.limits.TheConstants.{MAX_HANDLES}
use Rattle.nt_status.specs.declared.refusal.Refusal.{Refusal}
use Rattle.nt_status.specs.declared.refusal.Refusal.TheVariants.{AccessDenied, HandleLimit, InvalidHandle, InvalidParameter}
use Rattle.nt_status.specs.Access.{access_bits}
use Rattle.nt_status.specs.Flags.{only_known, event_bits, mutex_bits, timer_bits}
use Rattle.nt_objects.specs.declared.object.Object.{Object}
use Rattle.nt_tables.specs.declared.handles.Opened.{Opened}
use Rattle.nt_objects.specs.Object.{may_count}
use Rattle.nt_calls.specs.declared.call.Act.{Act}
use Rattle.nt_calls.specs.declared.call.Call.{Call}
use Rattle.nt_calls.specs.declared.call.Reply.{Reply}
use Rattle.nt_calls.specs.declared.call.Grant.{Grant}
use Rattle.nt_calls.specs.State.{State}
use Rattle.nt_calls.specs.Naming.{call_named, object_named}
use Rattle.nt_calls.specs.Rights.{is_denied}
use Rattle.nt_calls.specs.Refusals.{first_of_causes, is_full, is_unknown, call_causes, creation_causes, duplicate_causes}
use Rattle.nt_calls.specs.Steps.{Called}
use Rattle.nt_machine.specs.Lawful.{HandlesAgree}
use Rattle.nt_core.specs.Renewals.{is_closed, is_vacant, AddsVacant, CreatesAgain, DuplicatesAgain}
use Rattle.nt_machine.proofs.Accepting.{next_causes}
use Rattle.nt_laws.proofs.CallKinds.{call_causes_none}
use Rattle.nt_life.specs.Lasting.{Spares, is_creation, can_give_last, last_closed, last_unnamed, CreatesBeside, CreatesByTurn, CreatesElse, LastsCreation, LastsDuplicate, LastsCall, NoHandle, NoObject, FindsNone}
use Rattle.nt_life.proofs.Renewed.{created_free, duplicated_free}
use Rattle.nt_life.proofs.Turning.{turn_else}

not_both : (b : Bool) → b ≡ true → b ≡ false → ⊥
not_both b is other = false≢true (sym other ∙ is)

-- ---- the machine's own call finds a handle number

room_test : (hs : List (Option Opened)) → is_full hs ≡ false → length hs < MAX_HANDLES
room_test hs is = grind (arith, nat_tests, is)

creation_room : (hs : List (Option Opened)) (lawful : Bool) → first_of_causes (creation_causes hs lawful) ≡ None → length hs < MAX_HANDLES
creation_room hs lawful none =
    let first = next_causes (not lawful) InvalidParameter ((is_full hs, HandleLimit) ∷ []) none in
    room_test hs (next_causes (is_full hs) HandleLimit [] first.1).0

duplicate_room : (hs : List (Option Opened)) (os : List Object) (denied : Bool) (object access : ℕ) → first_of_causes (duplicate_causes hs os denied object access) ≡ None → length hs < MAX_HANDLES
duplicate_room hs os denied object access none =
    let first = next_causes (is_unknown os object) InvalidHandle ((denied || not (only_known access_bits access), AccessDenied) ∷ (is_full hs, HandleLimit) ∷ []) none in
    let second = next_causes (denied || not (only_known access_bits access)) AccessDenied ((is_full hs, HandleLimit) ∷ []) first.1 in
    room_test hs (next_causes (is_full hs) HandleLimit [] second.1).0

act_room : (s : State) (who : ℕ) (denied : Bool) (act : Act) → is_creation act ≡ true → first_of_causes (call_causes s who denied (call_named s.handles (Call.Act act))) ≡ None → length s.handles < MAX_HANDLES
act_room s who denied (Act.CreateEvent flags) creates none = creation_room s.handles (only_known event_bits flags) none
act_room s who denied (Act.CreateSemaphore initial maximum) creates none = creation_room s.handles (may_count initial maximum) none
act_room s who denied (Act.CreateMutex flags) creates none = creation_room s.handles (only_known mutex_bits flags) none
act_room s who denied (Act.CreateTimer flags) creates none = creation_room s.handles (only_known timer_bits flags) none
act_room s who denied act creates none = absurd (false≢true creates)

called_room : (old : State) (who : ℕ) (act : Act) (reply : Reply) (grants : List Grant) (new : State) → is_creation act ≡ true → Called old who (Call.Act act) (Ok reply) grants new → length old.handles < MAX_HANDLES
called_room old who act reply grants new creates called =
    act_room old who (is_denied old (Call.Act act)) act creates
    (call_causes_none old who (is_denied old (Call.Act act)) (call_named old.handles (Call.Act act)) called.1.0)

-- ---- creations

again_taken : (old : State) (who : ℕ) (act : Act) (o h : ℕ) (reply : Reply) (grants : List Grant) (new : State) → CreatesAgain old who act o h (Ok reply) grants new → NoHandle old ⊎ NoObject old → ⊥
again_taken old who act o h reply grants new is (inl none) = not_both (is_closed old h) (created_free old who act o h reply grants new is).1 (none.1 h)
again_taken old who act o h reply grants new is (inr none) = not_both (is_vacant old o) (created_free old who act o h reply grants new is).0 (none.1 o)

called_taken : (old : State) (who : ℕ) (act : Act) (reply : Reply) (grants : List Grant) (new : State) → HandlesAgree (length old.objects) old.handles → is_creation act ≡ true → Called old who (Call.Act act) (Ok reply) grants new → NoHandle old ⊎ NoObject old → ⊥
called_taken old who act reply grants new agree creates called (inl none) =
    let room = called_room old who act reply grants new creates called in
    let all = none.0 in
    absurd (omega (arith, room, all))
called_taken old who act reply grants new agree creates called (inr none) =
    let room = called_room old who act reply grants new creates called in
    let all = none.0 in
    let enough = agree.enough in
    absurd (omega (arith, room, all, enough))

ok_not_err : (reply : Reply) (cause : Refusal) → Ok reply ≡ Err cause → ⊥
ok_not_err reply cause e = (cc)

beside_taken : (added : Result ℕ Refusal) (old mid : State) (who : ℕ) (act : Act) (h : ℕ) (reply : Reply) (grants : List Grant) (new : State) → HandlesAgree (length old.objects) old.handles → AddsVacant old added [] mid → CreatesBeside added old mid h who act (Ok reply) grants new → NoHandle old ⊎ NoObject old → ⊥
beside_taken (Err cause) old mid who act h reply grants new agree adds creates none = ok_not_err reply cause creates.0
beside_taken (Ok o) old mid who act h reply grants new agree adds creates (inl none) =
    let closed : is_closed mid h ≡ true = (created_free mid who act o h reply grants new creates.1).1 in
    let same : is_closed mid h ≡ is_closed old h = ap (λ (s : State). is_closed s h) adds.3 in
    not_both (is_closed old h) (sym same ∙ closed) (none.1 h)
beside_taken (Ok o) old mid who act h reply grants new agree adds creates (inr none) =
    let test = adds.0 in
    let fewer : length old.objects < length old.handles = grind (arith, nat_tests, test) in
    let all = none.0 in
    let few = agree.few in
    absurd (omega (arith, fewer, all, few))

else_taken : (old : State) (spare : Spares) (who : ℕ) (act : Act) (reply : Reply) (grants : List Grant) (new : State) → HandlesAgree (length old.objects) old.handles → is_creation act ≡ true → CreatesElse old spare who act (Ok reply) grants new → NoHandle old ⊎ NoObject old → ⊥
else_taken old spare who act reply grants new agree creates (inl called) none = called_taken old who act reply grants new agree creates called none
else_taken old spare who act reply grants new agree creates (inr (inl again)) none = again_taken old who act again.1.0 (last_closed spare) reply grants new again.1.2 none
else_taken old spare who act reply grants new agree creates (inr (inr more)) none =
    beside_taken more.2.0 old more.2.1 who act (last_closed spare) reply grants new agree more.2.2 more.2.3 none

pub creation_taken : (old : State) (spare : Spares) (who : ℕ) (act : Act) (reply : Reply) (grants : List Grant) (new : State) → HandlesAgree (length old.objects) old.handles → is_creation act ≡ true → LastsCreation old spare who act (Ok reply) grants new → NoHandle old ⊎ NoObject old → ⊥
creation_taken old spare who act reply grants new agree creates lasts none = go (can_give_last old spare) lasts
  where
    go : (b : Bool) → MatchBool b (CreatesAgain old who act (last_unnamed spare) (last_closed spare) (Ok reply) grants new) (CreatesByTurn old spare who act (Ok reply) grants new) → ⊥
    go true is = again_taken old who act (last_unnamed spare) (last_closed spare) reply grants new is none
    go false is = else_taken old spare who act reply grants new agree creates (turn_else old spare who act (Ok reply) grants new is) none

-- ---- duplicates

pub duplicate_taken : (old : State) (spare : Spares) (who source access : ℕ) (reply : Reply) (grants : List Grant) (new : State) → LastsDuplicate old spare who source access (Ok reply) grants new → NoHandle old → ⊥
duplicate_taken old spare who source access reply grants new lasts none = go (nat_lt 0 (length spare.closed)) lasts
  where
    go : (b : Bool) → MatchBool b (DuplicatesAgain old who source access (last_closed spare) (Ok reply) grants new) (Called old who (Call.Act (Act.Duplicate source access)) (Ok reply) grants new) → ⊥
    go true is = not_both (is_closed old (last_closed spare)) (duplicated_free old who source access (last_closed spare) reply grants new is).1 (none.1 (last_closed spare))
    go false is =
        let denied = is_denied old (Call.Act (Act.Duplicate source access)) in
        let room = duplicate_room old.handles old.objects denied (object_named old.handles source) access (call_causes_none old who denied (Call.Act (Act.Duplicate (object_named old.handles source) access)) is.1.0) in
        let all = none.0 in
        absurd (omega (arith, room, all))

-- ---- any call

pub call_taken : (old : State) (spare : Spares) (who : ℕ) (call : Call) (result : Result Reply Refusal) (grants : List Grant) (new : State) → HandlesAgree (length old.objects) old.handles → LastsCall old spare who call result grants new → FindsNone old call → OnOk result ⊥
call_taken old spare who call (Err cause) grants new agree lasts none = tt
call_taken old spare who (Call.Act (Act.Duplicate source access)) (Ok reply) grants new agree lasts none = duplicate_taken old spare who source access reply grants new lasts none
call_taken old spare who (Call.Act (Act.CreateEvent flags)) (Ok reply) grants new agree lasts none = creation_taken old spare who (Act.CreateEvent flags) reply grants new agree refl lasts none.1
call_taken old spare who (Call.Act (Act.CreateSemaphore initial maximum)) (Ok reply) grants new agree lasts none = creation_taken old spare who (Act.CreateSemaphore initial maximum) reply grants new agree refl lasts none.1
call_taken old spare who (Call.Act (Act.CreateMutex flags)) (Ok reply) grants new agree lasts none = creation_taken old spare who (Act.CreateMutex flags) reply grants new agree refl lasts none.1
call_taken old spare who (Call.Act (Act.CreateTimer flags)) (Ok reply) grants new agree lasts none = creation_taken old spare who (Act.CreateTimer flags) reply grants new agree refl lasts none.1
call_taken old spare who (Call.Act act) (Ok reply) grants new agree lasts none = absurd (false≢true none.0)
call_taken old spare who call (Ok reply) grants new agree lasts none = absurd none
