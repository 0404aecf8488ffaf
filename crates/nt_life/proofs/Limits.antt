-- When a call is refused with HandleLimit.
use Rattle.std.proofs.Common.{◌≡◌, ◌≤◌, ℕ, Bool, true, false, not, ◌&&◌, ◌||◌, List, [], ◌∷◌, length, refl, sym, ap, ◌∙◌, subst, arith, Option, Some, None}
use Rattle.std.specs.Prelude.{nat_le, is_none, if◌then◌else◌, IsTrue, MatchOption}
use Rattle.std.specs.declared.result.Result.{Result}
use Rattle.std.specs.declared.result.Result.TheVariants.{Ok, Err}
use Rattle.std.proofs.lemmas.Bool.{false≢true}
use Rattle.std.proofs.lemmas.Bool.Decides.{nat_tests}
use Rattle.nt_status.specs.declared.limits.TheConstants.{MAX_HANDLES}
use Rattle.nt_status.specs.declared.refusal.Refusal.{Refusal}
use Rattle.nt_status.specs.declared.refusal.Refusal.TheVariants.{AccessDenied, HandleLimit, InvalidHandle, InvalidParameter, Memory, ThreadEnded, ThreadWaiting, UnknownThread}
use Rattle.nt_status.specs.Access.{access_bits}
use Rattle.nt_status.specs.Flags.{only_known, event_bits, mutex_bits, timer_bits}
use Rattle.nt_objects.specs.declared.object.Object.{Object}
use Rattle.nt_tables.specs.declared.handles.Opened.{Opened}
use Rattle.nt_tables.specs.Handles.{opened_at}
use Rattle.nt_objects.specs.declared.object.Object.TheVariants.{Semaphore}
use Rattle.nt_objects.specs.Object.{event_of, mutex_of, timer_of, may_count, has_ended}
use Rattle.nt_calls.specs.declared.call.Act.{Act}
use Rattle.nt_calls.specs.declared.call.Call.{Call}
use Rattle.nt_calls.specs.declared.call.WaitCall.{WaitCall}
use Rattle.nt_calls.specs.declared.call.Reply.{Reply}
use Rattle.nt_calls.specs.declared.call.Grant.{Grant}
use Rattle.nt_calls.specs.State.{State, object_at, pends}
use Rattle.nt_calls.specs.Naming.{call_named, act_named, wait_named, object_named, lacks}
use Rattle.nt_calls.specs.Rights.{is_denied}
use Rattle.nt_calls.specs.Refusals.{Cause, first_of_causes, refusal, IsRefusal, is_full, is_unknown, call_causes, act_causes, wait_causes, creation_causes, duplicate_causes, grows}
use Rattle.nt_calls.specs.Steps.{Called}
use Rattle.nt_core.specs.Renewals.{is_closed, is_vacant, creation, creation_refusal, or_else, CreatesAgain, DuplicatesAgain}
use Rattle.nt_life.specs.Lasting.{is_creation}

-- ---- which causes are it

is_limit : Refusal → Bool
is_limit HandleLimit = true
is_limit r = false

has_limit : List Cause → Bool
has_limit [] = false
has_limit (c ∷ cs) = is_limit c.1 || has_limit cs

nothing_limit : None ≡ Some HandleLimit → ⊥
nothing_limit e = (cc)

memory_limit : HandleLimit ≡ Memory → ⊥
memory_limit e = (cc)

ok_not_limit : (reply : Reply) → Ok reply ≡ Err HandleLimit → ⊥
ok_not_limit reply e = (cc)

some_same : (a b : Refusal) → Some a ≡ Some b → a ≡ b
some_same a b e = (cc)

never : (cs : List Cause) → has_limit cs ≡ false → first_of_causes cs ≡ Some HandleLimit → ⊥
unfolding is_limit has_limit
never [] none is = nothing_limit is
never ((true, r) ∷ cs) none is = false≢true (sym none ∙ ap (λ (q : Refusal). is_limit q || has_limit cs) (some_same r HandleLimit is))
never ((false, r) ∷ cs) none is = never cs (rest (is_limit r) none) is
  where
    rest : (b : Bool) → (b || has_limit cs) ≡ false → has_limit cs ≡ false
    rest true e = absurd (false≢true (sym e))
    rest false e = e

-- the call creates an object, or duplicates a handle
unfoldable pub wants_number : Call → Bool
wants_number (Call.Act (Act.Duplicate source access)) = true
wants_number (Call.Act act) = is_creation act
wants_number call = false

other_act : (hs : List (Option Opened)) (os : List Object) (t : ℕ) (denied : Bool) (act : Act) → wants_number (Call.Act act) ≡ false → has_limit (act_causes hs os t denied (act_named hs act)) ≡ false
unfolding is_limit has_limit wants_number
other_act hs os t denied (Act.CreateEvent flags) other = absurd (false≢true (sym other))
other_act hs os t denied (Act.CreateSemaphore initial maximum) other = absurd (false≢true (sym other))
other_act hs os t denied (Act.CreateMutex flags) other = absurd (false≢true (sym other))
other_act hs os t denied (Act.CreateTimer flags) other = absurd (false≢true (sym other))
other_act hs os t denied (Act.Duplicate source access) other = absurd (false≢true (sym other))
other_act hs os t denied act other = refl

other_wait : (os : List Object) (t : ℕ) (denied : Bool) (wait : WaitCall) → has_limit (wait_causes os t denied wait) ≡ false
unfolding is_limit has_limit
other_wait os t denied (WaitCall.Objects all mode named) = refl
other_wait os t denied (WaitCall.Sleep mode) = refl
other_wait os t denied (WaitCall.Swap h object mode) = refl

other_call : (s : State) (t : ℕ) (denied : Bool) (call : Call) → wants_number call ≡ false → has_limit (call_causes s t denied (call_named s.handles call)) ≡ false
unfolding is_limit has_limit wants_number
other_call s t denied (Call.Act act) other = other_act s.handles s.objects t denied act other
other_call s t denied (Call.Wait wait) other = other_wait s.objects t denied (wait_named s.handles wait)
other_call s t denied Call.Exit other = refl

-- ---- the first cause that is it

some_other : (b : Bool) (r : Refusal) (cs : List Cause) → is_limit r ≡ false → first_of_causes ((b, r) ∷ cs) ≡ Some HandleLimit → first_of_causes cs ≡ Some HandleLimit
unfolding is_limit
some_other true r cs differs is = absurd (false≢true (sym differs ∙ ap is_limit (some_same r HandleLimit is)))
some_other false r cs differs is = is

last_limit : (b : Bool) → first_of_causes ((b, HandleLimit) ∷ []) ≡ Some HandleLimit → b ≡ true
last_limit true is = refl
last_limit false is = absurd (nothing_limit is)

-- a cause of the call itself
own_limit : (s : State) (who : ℕ) (denied : Bool) (call : Call) → refusal s who denied call ≡ Some HandleLimit → first_of_causes (call_causes s who denied call) ≡ Some HandleLimit
unfolding is_limit
own_limit s who denied call is =
    some_other (pends s who) ThreadWaiting (call_causes s who denied call) refl
    (some_other (has_ended (object_at s.objects who)) ThreadEnded ((pends s who, ThreadWaiting) ∷ call_causes s who denied call) refl
    (some_other (nat_le s.threads who) UnknownThread ((has_ended (object_at s.objects who), ThreadEnded) ∷ (pends s who, ThreadWaiting) ∷ call_causes s who denied call) refl is))

told_limit : (s : State) (who : ℕ) (denied : Bool) (call : Call) → IsRefusal s who denied call HandleLimit → refusal s who denied call ≡ Some HandleLimit
told_limit s who denied call is = go (refusal s who denied call) refl is
  where
    go : (first : Option Refusal) → refusal s who denied call ≡ first → MatchOption first (IsTrue (grows s who call) × (HandleLimit ≡ Memory)) (λ r. HandleLimit ≡ r) → refusal s who denied call ≡ Some HandleLimit
    go None e told = absurd (memory_limit told.1)
    go (Some r) e told = e ∙ ap (λ (c : Refusal). Some c) (sym told)

full_test : (hs : List (Option Opened)) → is_full hs ≡ true → MAX_HANDLES ≤ length hs
full_test hs is = grind (arith, nat_tests, is)

creation_limit : (hs : List (Option Opened)) (lawful : Bool) → first_of_causes (creation_causes hs lawful) ≡ Some HandleLimit → MAX_HANDLES ≤ length hs
unfolding is_limit
creation_limit hs lawful is = full_test hs (last_limit (is_full hs) (some_other (not lawful) InvalidParameter ((is_full hs, HandleLimit) ∷ []) refl is))

duplicate_limit : (hs : List (Option Opened)) (os : List Object) (denied : Bool) (object access : ℕ) → first_of_causes (duplicate_causes hs os denied object access) ≡ Some HandleLimit → MAX_HANDLES ≤ length hs
unfolding is_limit
duplicate_limit hs os denied object access is =
    full_test hs (last_limit (is_full hs)
    (some_other (denied || not (only_known access_bits access)) AccessDenied ((is_full hs, HandleLimit) ∷ []) refl
    (some_other (is_unknown os object) InvalidHandle ((denied || not (only_known access_bits access), AccessDenied) ∷ (is_full hs, HandleLimit) ∷ []) refl is)))

-- every handle number was handed out, and the call wants one
pub record IsFull (s : State) (call : Call) : Type 0 where
  pub handles : MAX_HANDLES ≤ length s.handles
  pub wants : wants_number call ≡ true

call_limit : (s : State) (who : ℕ) (denied : Bool) (call : Call) → first_of_causes (call_causes s who denied (call_named s.handles call)) ≡ Some HandleLimit → IsFull s call
unfolding wants_number
call_limit s who denied (Call.Act (Act.CreateEvent flags)) is = record { handles = creation_limit s.handles (only_known event_bits flags) is; wants = refl }
call_limit s who denied (Call.Act (Act.CreateSemaphore initial maximum)) is = record { handles = creation_limit s.handles (may_count initial maximum) is; wants = refl }
call_limit s who denied (Call.Act (Act.CreateMutex flags)) is = record { handles = creation_limit s.handles (only_known mutex_bits flags) is; wants = refl }
call_limit s who denied (Call.Act (Act.CreateTimer flags)) is = record { handles = creation_limit s.handles (only_known timer_bits flags) is; wants = refl }
call_limit s who denied (Call.Act (Act.Duplicate source access)) is = record { handles = duplicate_limit s.handles s.objects denied (object_named s.handles source) access is; wants = refl }
call_limit s who denied call is = absurd (never (call_causes s who denied (call_named s.handles call)) (other_call s who denied call refl) is)

-- a call that is refused so
pub called_limit : (old : State) (who : ℕ) (call : Call) (grants : List Grant) (new : State) → Called old who call (Err HandleLimit) grants new → IsFull old call
called_limit old who call grants new is =
    call_limit old who (is_denied old call) call
    (own_limit old who (is_denied old call) (call_named old.handles call)
    (told_limit old who (is_denied old call) (call_named old.handles call) is.0))

pub refused_full : (old : State) (who : ℕ) (call : Call) (result : Result Reply Refusal) (grants : List Grant) (new : State) → Called old who call result grants new → result ≡ Err HandleLimit → IsFull old call
refused_full old who call result grants new called limit = called_limit old who call grants new (subst (λ (r : Result Reply Refusal). Called old who call r grants new) limit called)

-- ---- then nothing but a number is lacking

-- what comes before that cause is none
before_limit : (b : Bool) (r : Refusal) (cs : List Cause) → is_limit r ≡ false → first_of_causes ((b, r) ∷ cs) ≡ Some HandleLimit → b ≡ false
unfolding is_limit
before_limit true r cs differs is = absurd (false≢true (sym differs ∙ ap is_limit (some_same r HandleLimit is)))
before_limit false r cs differs is = refl

may_call : (s : State) (who : ℕ) (denied : Bool) (call : Call) → refusal s who denied call ≡ Some HandleLimit → refusal s who false Call.Exit ≡ None
unfolding is_limit
may_call s who denied call is =
    let third = (pends s who, ThreadWaiting) ∷ call_causes s who denied call in
    let second = (has_ended (object_at s.objects who), ThreadEnded) ∷ third in
    let runs = some_other (nat_le s.threads who) UnknownThread second refl is in
    let idle = some_other (has_ended (object_at s.objects who)) ThreadEnded third refl runs in
    ap (λ b. first_of_causes ((b, UnknownThread) ∷ (has_ended (object_at s.objects who), ThreadEnded) ∷ (pends s who, ThreadWaiting) ∷ [])) (before_limit (nat_le s.threads who) UnknownThread second refl is)
    ∙ (ap (λ b. first_of_causes ((b, ThreadEnded) ∷ (pends s who, ThreadWaiting) ∷ [])) (before_limit (has_ended (object_at s.objects who)) ThreadEnded third refl runs)
    ∙ ap (λ b. first_of_causes ((b, ThreadWaiting) ∷ [])) (before_limit (pends s who) ThreadWaiting (call_causes s who denied call) refl idle))

unturned : (b : Bool) → not b ≡ false → b ≡ true
unturned true e = refl
unturned false e = absurd (false≢true (sym e))

lawful_arguments : (hs : List (Option Opened)) (lawful : Bool) → first_of_causes (creation_causes hs lawful) ≡ Some HandleLimit → lawful ≡ true
unfolding is_limit
lawful_arguments hs lawful is = unturned lawful (before_limit (not lawful) InvalidParameter ((is_full hs, HandleLimit) ∷ []) refl is)

made_by : (made : Object) (lawful : Bool) → lawful ≡ true → is_none (if lawful then Some made else None) ≡ false
made_by made lawful is = ap (λ b. is_none (if b then Some made else None)) is

may_make : (s : State) (who : ℕ) (denied : Bool) (act : Act) → is_creation act ≡ true → first_of_causes (call_causes s who denied (call_named s.handles (Call.Act act))) ≡ Some HandleLimit → is_none (creation who act) ≡ false
may_make s who denied (Act.CreateEvent flags) creates is = made_by (event_of flags) (only_known event_bits flags) (lawful_arguments s.handles (only_known event_bits flags) is)
may_make s who denied (Act.CreateSemaphore initial maximum) creates is = made_by (Semaphore initial maximum) (may_count initial maximum) (lawful_arguments s.handles (may_count initial maximum) is)
may_make s who denied (Act.CreateMutex flags) creates is = made_by (mutex_of flags who) (only_known mutex_bits flags) (lawful_arguments s.handles (only_known mutex_bits flags) is)
may_make s who denied (Act.CreateTimer flags) creates is = made_by (timer_of flags) (only_known timer_bits flags) (lawful_arguments s.handles (only_known timer_bits flags) is)
may_make s who denied act creates is = absurd (false≢true creates)

told_so : (old : State) (who : ℕ) (call : Call) (result : Result Reply Refusal) (grants : List Grant) (new : State) → Called old who call result grants new → result ≡ Err HandleLimit → refusal old who (is_denied old call) (call_named old.handles call) ≡ Some HandleLimit
told_so old who call result grants new called limit =
    told_limit old who (is_denied old call) (call_named old.handles call) (subst (λ (r : Result Reply Refusal). Called old who call r grants new) limit called).0

-- the caller may call
pub limit_caller : (old : State) (who : ℕ) (call : Call) (result : Result Reply Refusal) (grants : List Grant) (new : State) → Called old who call result grants new → result ≡ Err HandleLimit → refusal old who false Call.Exit ≡ None
limit_caller old who call result grants new called limit =
    may_call old who (is_denied old call) (call_named old.handles call) (told_so old who call result grants new called limit)

-- what it creates is lawful
pub limit_lawful : (old : State) (who : ℕ) (act : Act) (result : Result Reply Refusal) (grants : List Grant) (new : State) → is_creation act ≡ true → Called old who (Call.Act act) result grants new → result ≡ Err HandleLimit → is_none (creation who act) ≡ false
limit_lawful old who act result grants new creates called limit =
    may_make old who (is_denied old (Call.Act act)) act creates
    (own_limit old who (is_denied old (Call.Act act)) (call_named old.handles (Call.Act act)) (told_so old who (Call.Act act) result grants new called limit))

-- so once there are numbers, it is made
pub created_surely : (s : State) (who : ℕ) (act : Act) (o h : ℕ) (result : Result Reply Refusal) (grants : List Grant) (new : State) → refusal s who false Call.Exit ≡ None → is_none (creation who act) ≡ false → is_vacant s o ≡ true → is_closed s h ≡ true → CreatesAgain s who act o h result grants new → result ≡ Ok (Reply.Handle h)
created_surely s who act o h (Ok reply) grants new caller lawful vacant closed created = ap (λ (r : Reply). Ok r) created.1
created_surely s who act o h (Err cause) grants new caller lawful vacant closed created =
    let none : creation_refusal s who act o h ≡ None =
    ap (λ r. or_else r (first_of_causes ((is_none (creation who act), InvalidParameter) ∷ (not (is_vacant s o && is_closed s h), InvalidHandle) ∷ []))) caller
    ∙ (ap (λ b. first_of_causes ((b, InvalidParameter) ∷ (not (is_vacant s o && is_closed s h), InvalidHandle) ∷ [])) lawful
    ∙ (ap (λ b. first_of_causes ((not (b && is_closed s h), InvalidHandle) ∷ [])) vacant
    ∙ ap (λ b. first_of_causes ((not b, InvalidHandle) ∷ [])) closed)) in
    let first = created.0 in
    absurd (cc (none, first))

-- it changes nothing
pub refused_same : (old : State) (who : ℕ) (call : Call) (result : Result Reply Refusal) (grants : List Grant) (new : State) → Called old who call result grants new → result ≡ Err HandleLimit → new ≡ old
refused_same old who call (Ok reply) grants new called limit = absurd (ok_not_limit reply limit)
refused_same old who call (Err cause) grants new called limit = called.2

-- ---- numbers that are given again are never refused so

or_else_limit : (first later : Option Refusal) → (first ≡ Some HandleLimit → ⊥) → (later ≡ Some HandleLimit → ⊥) → or_else first later ≡ Some HandleLimit → ⊥
or_else_limit None later a b is = b is
or_else_limit (Some r) later a b is = a is

caller_limit : (s : State) (who : ℕ) → refusal s who false Call.Exit ≡ Some HandleLimit → ⊥
caller_limit s who is = nothing_limit (own_limit s who false Call.Exit is)

pub created_limit : (old : State) (who : ℕ) (act : Act) (o h : ℕ) (grants : List Grant) (new : State) → CreatesAgain old who act o h (Err HandleLimit) grants new → ⊥
unfolding is_limit has_limit
created_limit old who act o h grants new is =
    or_else_limit (refusal old who false Call.Exit) (first_of_causes ((is_none (creation who act), InvalidParameter) ∷ (not (is_vacant old o && is_closed old h), InvalidHandle) ∷ []))
    (caller_limit old who)
    (never ((is_none (creation who act), InvalidParameter) ∷ (not (is_vacant old o && is_closed old h), InvalidHandle) ∷ []) refl)
    is.0

pub duplicated_limit : (old : State) (who source access h : ℕ) (grants : List Grant) (new : State) → DuplicatesAgain old who source access h (Err HandleLimit) grants new → ⊥
unfolding is_limit has_limit
duplicated_limit old who source access h grants new is =
    or_else_limit (refusal old who false Call.Exit) (first_of_causes ((is_none (opened_at old.handles source), InvalidHandle) ∷ (lacks access old.handles source || not (only_known access_bits access), AccessDenied) ∷ (not (is_closed old h), InvalidHandle) ∷ []))
    (caller_limit old who)
    (never ((is_none (opened_at old.handles source), InvalidHandle) ∷ (lacks access old.handles source || not (only_known access_bits access), AccessDenied) ∷ (not (is_closed old h), InvalidHandle) ∷ []) refl)
    is.0

pub again_limit : (old : State) (who : ℕ) (act : Act) (o h : ℕ) (result : Result Reply Refusal) (grants : List Grant) (new : State) → CreatesAgain old who act o h result grants new → result ≡ Err HandleLimit → ⊥
again_limit old who act o h result grants new created limit = created_limit old who act o h grants new (subst (λ (r : Result Reply Refusal). CreatesAgain old who act o h r grants new) limit created)
