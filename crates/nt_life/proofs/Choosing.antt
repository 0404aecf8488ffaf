-- Which numbers a creation or a duplicate takes.
use Rattle.std.proofs.Common.{◌≡◌, ◌≤◌, ◌<◌, ℕ, Bool, true, false, not, ◌&&◌, List, [], ◌∷◌, ◌++◌, length, length-append, zero, suc, get_or, refl, sym, ap, ◌∙◌, subst, arith, None, ◌⊎◌}
use Rattle.std.specs.Prelude.{nat_lt, nat_le, MatchBool, if◌then◌else◌}
use Rattle.std.specs.declared.result.Result.{Result}
use Rattle.std.specs.declared.result.Result.TheVariants.{Ok, Err}
use Rattle.std.proofs.lemmas.Bool.{false≢true}
use Rattle.std.proofs.lemmas.Bool.Decides.{nat_tests}
use Rattle.nt_status.specs.declared.limits.TheConstants.{MAX_HANDLES}
use Rattle.nt_status.specs.declared.refusal.Refusal.{Refusal}
use Rattle.nt_status.specs.declared.refusal.Refusal.TheVariants.{HandleLimit, Memory, ThreadEnded, ThreadWaiting, UnknownThread}
use Rattle.nt_objects.specs.declared.object.Object.{Object}
use Rattle.nt_objects.specs.declared.object.Object.TheVariants.{Gone}
use Rattle.nt_objects.specs.Object.{has_ended, is_gone}
use Rattle.nt_apc.specs.Queues.{has_apc}
use Rattle.nt_calls.specs.declared.call.Act.{Act}
use Rattle.nt_calls.specs.declared.call.Call.{Call}
use Rattle.nt_calls.specs.declared.call.Reply.{Reply}
use Rattle.nt_calls.specs.declared.call.Grant.{Grant}
use Rattle.nt_calls.specs.State.{State, pends}
use Rattle.nt_calls.specs.Living.{is_opened, is_awaited}
use Rattle.nt_calls.specs.Refusals.{first_of_causes, refusal}
use Rattle.nt_calls.specs.Steps.{Called}
use Rattle.nt_machine.specs.Dispatcher.{Dispatcher, state}
use Rattle.nt_machine.specs.Lawful.{IsLawful}
use Rattle.nt_core.specs.Renewals.{is_closed, is_vacant, AddsVacant, DuplicatesAgain}
use Rattle.nt_core.specs.SetAside.{is_movable}
use Rattle.nt_machine.proofs.Accepting.{free_caller}
use Rattle.nt_machine.proofs.Changing.{object_at-append, reading_created}
use Rattle.nt_machine.proofs.Remaining.{some_handle}
use Rattle.nt_life.specs.Lasting.{Spares, IsSpare, times, is_creation, last_closed, LastsCreation, LastsDuplicate, LastsAct, LastsCall, NoHandle, NoObject, FindsNone}
use Rattle.nt_life.proofs.Calls.{none_vacant}
use Rattle.nt_life.proofs.Limits.{wants_number, IsFull}
use Rattle.nt_life.proofs.Spares.{spare_added, few_unnamed}

-- ---- a duplicate

pub duplicates_own : (old : State) (spare : Spares) (who source access : ℕ) (result : Result Reply Refusal) (grants : List Grant) (new : State) → length spare.closed ≡ 0 → Called old who (Call.Act (Act.Duplicate source access)) result grants new → LastsDuplicate old spare who source access result grants new
duplicates_own old spare who source access result grants new none called =
    let test : nat_lt 0 (length spare.closed) ≡ false = grind (arith, nat_tests, none) in
    subst (λ (b : Bool). MatchBool b (DuplicatesAgain old who source access (last_closed spare) result grants new) (Called old who (Call.Act (Act.Duplicate source access)) result grants new)) (sym test) called

pub duplicates_spare : (old : State) (spare : Spares) (who source access : ℕ) (result : Result Reply Refusal) (grants : List Grant) (new : State) → 0 < length spare.closed → DuplicatesAgain old who source access (last_closed spare) result grants new → LastsDuplicate old spare who source access result grants new
duplicates_spare old spare who source access result grants new some again =
    let test : nat_lt 0 (length spare.closed) ≡ true = grind (arith, nat_tests, some) in
    subst (λ (b : Bool). MatchBool b (DuplicatesAgain old who source access (last_closed spare) result grants new) (Called old who (Call.Act (Act.Duplicate source access)) result grants new)) (sym test) again

-- ---- any act

pub creates_lasts : (old : State) (spare : Spares) (who : ℕ) (act : Act) (result : Result Reply Refusal) (grants : List Grant) (new : State) → is_creation act ≡ true → LastsCreation old spare who act result grants new → LastsAct old spare who act result grants new
creates_lasts old spare who (Act.CreateEvent flags) result grants new creates lasts = lasts
creates_lasts old spare who (Act.CreateSemaphore initial maximum) result grants new creates lasts = lasts
creates_lasts old spare who (Act.CreateMutex flags) result grants new creates lasts = lasts
creates_lasts old spare who (Act.CreateTimer flags) result grants new creates lasts = lasts
creates_lasts old spare who act result grants new creates lasts = absurd (false≢true creates)

pub creation_finds : (s : State) (act : Act) → is_creation act ≡ true → NoHandle s ⊎ NoObject s → FindsNone s (Call.Act act)
creation_finds s (Act.CreateEvent flags) creates none = (refl, none)
creation_finds s (Act.CreateSemaphore initial maximum) creates none = (refl, none)
creation_finds s (Act.CreateMutex flags) creates none = (refl, none)
creation_finds s (Act.CreateTimer flags) creates none = (refl, none)
creation_finds s act creates none = absurd (false≢true creates)

pub other_lasts : (old : State) (spare : Spares) (who : ℕ) (act : Act) (result : Result Reply Refusal) (grants : List Grant) (new : State) → ((source access : ℕ) → act ≡ Act.Duplicate source access → ⊥) → is_creation act ≡ false → Called old who (Call.Act act) result grants new → LastsAct old spare who act result grants new
other_lasts old spare who (Act.Duplicate source access) result grants new other creates called = absurd (other source access refl)
other_lasts old spare who (Act.CreateEvent flags) result grants new other creates called = absurd (false≢true (sym creates))
other_lasts old spare who (Act.CreateSemaphore initial maximum) result grants new other creates called = absurd (false≢true (sym creates))
other_lasts old spare who (Act.CreateMutex flags) result grants new other creates called = absurd (false≢true (sym creates))
other_lasts old spare who (Act.CreateTimer flags) result grants new other creates called = absurd (false≢true (sym creates))
other_lasts old spare who act result grants new other creates called = called

pub other_full : (s : State) (act : Act) → ((source access : ℕ) → act ≡ Act.Duplicate source access → ⊥) → is_creation act ≡ false → IsFull s (Call.Act act) → ⊥
unfolding wants_number
other_full s (Act.Duplicate source access) other creates full = other source access refl
other_full s (Act.CreateEvent flags) other creates full = false≢true (sym creates)
other_full s (Act.CreateSemaphore initial maximum) other creates full = false≢true (sym creates)
other_full s (Act.CreateMutex flags) other creates full = false≢true (sym creates)
other_full s (Act.CreateTimer flags) other creates full = false≢true (sym creates)
other_full s act other creates full = false≢true full.wants

-- ---- a call that is no act

pub no_act_lasts : (old : State) (spare : Spares) (who : ℕ) (call : Call) (result : Result Reply Refusal) (grants : List Grant) (new : State) → ((act : Act) → call ≡ Call.Act act → ⊥) → Called old who call result grants new → LastsCall old spare who call result grants new
no_act_lasts old spare who (Call.Act act) result grants new none called = absurd (none act refl)
no_act_lasts old spare who call result grants new none called = called

pub no_act_full : (s : State) (call : Call) → ((act : Act) → call ≡ Call.Act act → ⊥) → IsFull s call → ⊥
unfolding wants_number
no_act_full s (Call.Act act) none full = none act refl
no_act_full s call none full = false≢true full.wants

-- ---- one object number more

-- no handle names an object that there is not
unnamed_beyond : (d : Dispatcher) → IsLawful d → is_opened (state d) (length d.objects) ≡ false
unnamed_beyond d lawful = go (is_opened (state d) (length d.objects)) refl
  where
    go : (b : Bool) → is_opened (state d) (length d.objects) ≡ b → is_opened (state d) (length d.objects) ≡ false
    go false e = e
    go true e =
        let one = some_handle d.handles (length d.objects) e in
        let known = lawful.steady.sound.handles.named one.0 one.1 one.2 in
        let same = one.3 in
        absurd (omega (arith, known, same))

-- each thread has an object of its own
own_first : (d : Dispatcher) → IsLawful d → d.threads ≤ length d.objects
own_first d lawful = go d.threads refl
  where
    go : (n : ℕ) → d.threads ≡ n → d.threads ≤ length d.objects
    go zero e = omega (arith, e)
    go (suc n) e =
        let own = (lawful.steady.sound.own n (omega (arith, e))).0 in
        omega (arith, own, e)

pub added_spare : (d : Dispatcher) (spare after : Spares) (object : ℕ) (grants : List Grant) (new : State) → IsLawful d → IsSpare (state d) spare → AddsVacant (state d) (Ok object) grants new → after.closed ≡ spare.closed → after.unnamed ≡ spare.unnamed ++ object ∷ [] → IsSpare new after
added_spare d spare after object grants new lawful is adds closed unnamed =
    let more = spare_added (state d) new spare is (ap (λ (s : State). s.handles) adds.3) (ap (λ (s : State). s.threads) adds.3) (ap (λ (s : State). length s.objects) adds.3 ∙ length-append d.objects (Gone ∷ [])) (own_first d lawful) (unnamed_beyond d lawful) in
    record {
      handles = λ h. ap (λ ns. times h ns) closed ∙ more.handles h;
      objects = λ o. ap (λ ns. times o ns) unnamed ∙ (ap (λ (k : ℕ). times o (spare.unnamed ++ k ∷ [])) adds.1 ∙ more.objects o);
    }

last_added : (ns : List ℕ) (k : ℕ) → get_or (ns ++ k ∷ []) (length ns) 0 ≡ k
last_added [] k = refl
last_added (n ∷ ns) k = last_added ns k

-- who could call may call still, since each thread has an object of its own
pub added_caller : (d : Dispatcher) (new : State) (o : ℕ) (grants : List Grant) (who : ℕ) → IsLawful d → AddsVacant (state d) (Ok o) grants new → refusal (state d) who false Call.Exit ≡ None → refusal new who false Call.Exit ≡ None
added_caller d new o grants who lawful adds none =
    let known = (free_caller (state d) who Call.Exit none).0 in
    let first = own_first d lawful in
    subst (λ (s : State). refusal s who false Call.Exit ≡ None) (sym adds.3)
    (ap (λ (x : Object). first_of_causes ((nat_le d.threads who, UnknownThread) ∷ (has_ended x, ThreadEnded) ∷ (pends (state d) who, ThreadWaiting) ∷ [])) (object_at-append d.objects (Gone ∷ []) who (omega (arith, known, first))) ∙ none)

-- what could be moved can be moved still
pub added_movable : (old new : State) (o : ℕ) (grants : List Grant) (t : ℕ) → AddsVacant old (Ok o) grants new → is_movable old t ≡ true → is_movable new t ≡ true
added_movable old new o grants t adds is =
    subst (λ (s : State). is_movable s t ≡ true) (sym adds.3)
    (reading_created (λ x. nat_lt t old.threads && (has_ended x && (not (is_gone x) && (not (is_awaited old t) && not (has_apc old.apcs t))))) old.objects Gone refl t ∙ is)

-- and what was closed is closed still
pub added_closed : (old new : State) (o : ℕ) (grants : List Grant) (h : ℕ) → AddsVacant old (Ok o) grants new → is_closed old h ≡ true → is_closed new h ≡ true
added_closed old new o grants h adds is = ap (λ (s : State). is_closed s h) adds.3 ∙ is

-- it stands last
pub added_at : (spare after : Spares) (object place : ℕ) → place ≡ length spare.unnamed → after.unnamed ≡ spare.unnamed ++ object ∷ [] → get_or after.unnamed place 0 ≡ object
added_at spare after object place last unnamed =
    ap (λ (p : ℕ). get_or after.unnamed p 0) last ∙ (ap (λ ns. get_or ns (length spare.unnamed) 0) unnamed ∙ last_added spare.unnamed object)

-- there is room for it
pub added_room : (d : Dispatcher) (spare : Spares) (object : ℕ) (grants : List Grant) (new : State) → IsLawful d → IsSpare (state d) spare → AddsVacant (state d) (Ok object) grants new → length spare.unnamed < MAX_HANDLES
added_room d spare object grants new lawful is adds =
    let test = adds.0 in
    let fewer : length d.objects < length d.handles = grind (arith, nat_tests, test) in
    let most = few_unnamed (state d) spare.unnamed is.objects in
    let few = lawful.steady.sound.handles.few in
    omega (arith, fewer, most, few)

if_limit : (b : Bool) → HandleLimit ≡ (if b then Memory else HandleLimit) → b ≡ false
if_limit false e = refl
if_limit true e = let h : HandleLimit ≡ Memory = e in (cc)

-- where none can be added, each is taken
pub none_added : (d : Dispatcher) (spare : Spares) (grants : List Grant) (new : State) → IsLawful d → IsSpare (state d) spare → MAX_HANDLES ≤ length d.handles → ((place : ℕ) → place < length spare.unnamed → is_vacant (state d) (get_or spare.unnamed place 0) ≡ false) → AddsVacant (state d) (Err HandleLimit) grants new → NoObject (state d)
none_added d spare grants new lawful is full none adds =
    let test = if_limit (nat_lt (length d.objects) (length d.handles)) adds.0 in
    let most : length d.handles ≤ length d.objects = grind (arith, nat_tests, test) in
    (omega (arith, most, full), none_vacant (state d) spare is lawful.living none)
