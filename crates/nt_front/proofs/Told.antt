-- What is told of a call, as the entry that is written of it.
use Rattle.std.proofs.Common.{◌≡◌, ℕ, Bool, true, false, ◌&&◌, ◌⊎◌, List, length, Option, Some, None, is_some, is_err, Result, Ok, Err, IsTrue, refl, sym, ap, ◌∙◌, subst}
use Rattle.std.specs.Prelude.{MatchOption}
use Rattle.std.proofs.lemmas.Bool.{false≢true}
use Rattle.nt_status.specs.declared.refusal.Refusal.{Refusal}
use Rattle.nt_calls.specs.declared.call.Act.{Act}
use Rattle.nt_calls.specs.declared.call.Call.{Call}
use Rattle.nt_calls.specs.declared.call.Reply.{Reply}
use Rattle.nt_calls.specs.declared.call.Grant.{Grant}
use Rattle.nt_calls.specs.State.{State, pends}
use Rattle.nt_calls.specs.Naming.{call_named}
use Rattle.nt_calls.specs.Rights.{is_denied}
use Rattle.nt_calls.specs.Refusals.{refusal}
use Rattle.nt_core.specs.Renewals.{or_else, creation_refusal, is_left, CreatesAgain, BeginsAgain}
use Rattle.nt_machine.specs.Dispatcher.{state}
use Rattle.nt_machine.specs.Lawful.{IsLawful}
use Rattle.nt_machine.proofs.Accepting.{free_caller}
use Rattle.nt_machine.proofs.Judging.{undenied}
use Rattle.nt_answers.specs.Answers.{is_done, is_handle, created_reply as reply_of}
use Rattle.nt_answers.specs.Kinds.{Kind, act_kind, kind_of, tells_kind, is_answer}
use Rattle.nt_answers.proofs.Telling.{call_told}
use Rattle.nt_life.specs.Lasting.{Spares, WithSpare, IsUnchanged, KeepsPace, MakesCall, MayBeginThis, MayPop, MayStack, gives}
use Rattle.nt_life.specs.Renewals.{Tells, Renewed as IsRenewed}
use Rattle.nt_life.specs.declared.renewal.Renewal.{Renewal}
use Rattle.nt_life.specs.declared.renewal.Renewal.TheVariants.{Create, CreateAdded, Unadded, Duplicate, Begin}
use Rattle.nt_mail.specs.declared.entry.Entry.{Entry}
use Rattle.nt_mail.specs.declared.entry.Entry.TheVariants.{Called, Renewed}
use Rattle.nt_mail.specs.Entries.{handle_reply}
use Rattle.nt_mail.specs.Packed.{CanHand, hands_apc}
use Rattle.nt_mail.specs.Journals.{IsDeed, is_renewal}
use Rattle.nt_front.specs.Books.{IsOfCall, IsCarriedOut}

-- the words of both crates for a handle's reply are the same
pub same_reply : (told : Result ℕ Refusal) → handle_reply told ≡ reply_of told
same_reply (Ok handle) = refl
same_reply (Err cause) = refl

-- ---- who is answered an APC

pub can_hand : (call : Call) (result : Result Reply Refusal) → IsTrue (is_answer call result) → CanHand call result
can_hand call (Err cause) is hands = absurd (false≢true hands)
can_hand call (Ok Reply.Done) is hands = absurd (false≢true hands)
can_hand call (Ok (Reply.Handle h)) is hands = absurd (false≢true hands)
can_hand call (Ok (Reply.Previous n)) is hands = absurd (false≢true hands)
can_hand call (Ok (Reply.Status s)) is hands = absurd (false≢true hands)
can_hand call (Ok Reply.Pended) is hands = absurd (false≢true hands)
can_hand (Call.Act Act.NextApc) (Ok (Reply.Apc apc)) is hands = refl
can_hand (Call.Act (Act.CreateEvent flags)) (Ok (Reply.Apc apc)) is hands = absurd (false≢true is)
can_hand (Call.Act (Act.CreateSemaphore initial maximum)) (Ok (Reply.Apc apc)) is hands = absurd (false≢true is)
can_hand (Call.Act (Act.CreateMutex flags)) (Ok (Reply.Apc apc)) is hands = absurd (false≢true is)
can_hand (Call.Act (Act.SetEvent h)) (Ok (Reply.Apc apc)) is hands = absurd (false≢true is)
can_hand (Call.Act (Act.ResetEvent h)) (Ok (Reply.Apc apc)) is hands = absurd (false≢true is)
can_hand (Call.Act (Act.PulseEvent h)) (Ok (Reply.Apc apc)) is hands = absurd (false≢true is)
can_hand (Call.Act (Act.ReleaseSemaphore h n)) (Ok (Reply.Apc apc)) is hands = absurd (false≢true is)
can_hand (Call.Act (Act.ReleaseMutex h)) (Ok (Reply.Apc apc)) is hands = absurd (false≢true is)
can_hand (Call.Act (Act.CreateTimer flags)) (Ok (Reply.Apc apc)) is hands = absurd (false≢true is)
can_hand (Call.Act (Act.SetTimer h due period routine)) (Ok (Reply.Apc apc)) is hands = absurd (false≢true is)
can_hand (Call.Act (Act.CancelTimer h)) (Ok (Reply.Apc apc)) is hands = absurd (false≢true is)
can_hand (Call.Act (Act.QueueApc h routine arg)) (Ok (Reply.Apc apc)) is hands = absurd (false≢true is)
can_hand (Call.Act (Act.Duplicate h access)) (Ok (Reply.Apc apc)) is hands = absurd (false≢true is)
can_hand (Call.Act (Act.Close h)) (Ok (Reply.Apc apc)) is hands = absurd (false≢true is)
can_hand (Call.Wait wait) (Ok (Reply.Apc apc)) is hands = absurd (false≢true is)
can_hand Call.Exit (Ok (Reply.Apc apc)) is hands = absurd (false≢true is)

pub no_apc_done : (result : Result Reply Refusal) → IsTrue (is_done result) → hands_apc result ≡ false
no_apc_done (Err cause) is = refl
no_apc_done (Ok Reply.Done) is = refl
no_apc_done (Ok (Reply.Handle h)) is = refl
no_apc_done (Ok (Reply.Previous n)) is = refl
no_apc_done (Ok (Reply.Status s)) is = refl
no_apc_done (Ok Reply.Pended) is = refl
no_apc_done (Ok (Reply.Apc apc)) is = absurd (false≢true is)

-- ---- a renewal that is accepted answers a handle

pub tells_handle : (old : State) (who : ℕ) (call : Call) (renewal : Renewal) (result : Result Reply Refusal) (grants : List Grant) (new : State) → Tells old who call (Some renewal) result grants new → IsTrue (is_handle result)
tells_handle old who call renewal (Err cause) grants new is = refl
tells_handle old who call (Create act object handle) (Ok reply) grants new is = subst (λ (r : Reply). IsTrue (is_handle (Ok r))) (sym is.1.1.1.1) refl
tells_handle old who call (CreateAdded act object handle) (Ok reply) grants new is = subst (λ (r : Reply). IsTrue (is_handle (Ok r))) (sym is.1.1.2.1.1) refl
tells_handle old who call (Unadded act) (Ok reply) grants new is = absurd (false≢true is.1.0)
tells_handle old who call (Duplicate source access handle) (Ok reply) grants new is = subst (λ (r : Reply). IsTrue (is_handle (Ok r))) (sym is.1.1.1.1) refl
tells_handle old who call (Begin handle) (Ok reply) grants new is = absurd is.0

-- ---- and its call answers handles

refused_some : (first : Option Refusal) (r : Refusal) → or_else first (Some r) ≡ None → ⊥
refused_some None r e = (cc)
refused_some (Some f) r e = (cc)

creation_kind : (s : State) (who : ℕ) (act : Act) (o h : ℕ) → creation_refusal s who act o h ≡ None → act_kind act ≡ Kind.Handle
creation_kind s who (Act.CreateEvent flags) o h none = refl
creation_kind s who (Act.CreateSemaphore initial maximum) o h none = refl
creation_kind s who (Act.CreateMutex flags) o h none = refl
creation_kind s who (Act.CreateTimer flags) o h none = refl
creation_kind s who act o h none = absurd (refused_some (refusal s who false Call.Exit) _ none)

refused_answer : (kind : Kind) (cause : Refusal) → IsTrue (tells_kind kind (Err cause))
refused_answer Kind.Began cause = refl
refused_answer _ cause = refl

handle_answer : (call : Call) (reply : Reply) (h : ℕ) → kind_of call ≡ Kind.Handle → reply ≡ Reply.Handle h → IsTrue (is_answer call (Ok reply))
handle_answer call reply h kind is = subst (λ (x : Kind × Reply). IsTrue (tells_kind x.0 (Ok x.1))) {x = (Kind.Handle, Reply.Handle h)} {y = (kind_of call, reply)} (λ i. (sym kind i, sym is i)) refl

created_answer : (old : State) (who : ℕ) (call : Call) (act : Act) (o h : ℕ) (reply : Reply) (grants : List Grant) (new : State) → call ≡ Call.Act act → CreatesAgain old who act o h (Ok reply) grants new → IsTrue (is_answer call (Ok reply))
created_answer old who call act o h reply grants new made_for is = handle_answer call reply h (ap kind_of made_for ∙ creation_kind old who act o h is.0) is.1

pub tells_answer : (old : State) (who : ℕ) (call : Call) (told : Option Renewal) (result : Result Reply Refusal) (grants : List Grant) (new : State) → Tells old who call told result grants new → IsTrue (is_answer call result)
tells_answer old who call None result grants new is = call_told old new who call result grants is
tells_answer old who call (Some renewal) (Err cause) grants new is = refused_answer (kind_of call) cause
tells_answer old who call (Some (Create act object handle)) (Ok reply) grants new is = created_answer old who call act object handle reply grants is.1.1.0 is.0 is.1.1.1
tells_answer old who call (Some (CreateAdded act object handle)) (Ok reply) grants new is = created_answer is.1.1.0 who call act object handle reply grants is.1.1.2.0 is.0 is.1.1.2.1
tells_answer old who call (Some (Unadded act)) (Ok reply) grants new is = absurd (false≢true is.1.0)
tells_answer old who call (Some (Duplicate source access handle)) (Ok reply) grants new is = handle_answer call reply handle (ap kind_of is.0) is.1.1.1.1
tells_answer old who call (Some (Begin handle)) (Ok reply) grants new is = absurd is.0

-- ---- who is accepted waited for nothing

accepted_free : (s : State) (who : ℕ) (denied : Bool) (call : Call) → refusal s who denied call ≡ None → pends s who ≡ false
accepted_free s who denied call none = ap is_some (free_caller s who call (undenied s who denied call none)).2

first_none : (first later : Option Refusal) → or_else first later ≡ None → first ≡ None
first_none None later e = refl
first_none (Some r) later e = e

caller_free : (s : State) (who : ℕ) (later : Option Refusal) → or_else (refusal s who false Call.Exit) later ≡ None → pends s who ≡ false
caller_free s who later none = accepted_free s who false Call.Exit (first_none (refusal s who false Call.Exit) later none)

tells_free : (old : State) (who : ℕ) (call : Call) (told : Option Renewal) (reply : Reply) (grants : List Grant) (new : State) → Tells old who call told (Ok reply) grants new → pends old who ≡ false
tells_free old who call None reply grants new is = accepted_free old who (is_denied old call) (call_named old.handles call) is.1.0
tells_free old who call (Some (Create act object handle)) reply grants new is = caller_free old who _ is.1.1.1.0
tells_free old who call (Some (CreateAdded act object handle)) reply grants new is = sym (ap (λ (s : State). pends s who) is.1.1.1.3) ∙ caller_free is.1.1.0 who _ is.1.1.2.1.0
tells_free old who call (Some (Unadded act)) reply grants new is = absurd (false≢true is.1.0)
tells_free old who call (Some (Duplicate source access handle)) reply grants new is = caller_free old who _ is.1.1.1.0
tells_free old who call (Some (Begin handle)) reply grants new is = absurd is.0

-- a wait of the caller pended before its call exactly where one pends after it, and the call was refused
pub waits_before : (old : State) (who : ℕ) (call : Call) (told : Option Renewal) (result : Result Reply Refusal) (grants : List Grant) (new : State) → Tells old who call told result grants new → IsUnchanged old result grants new
    → (is_err result && pends new who) ≡ pends old who
waits_before old who call told (Ok reply) grants new is same = sym (tells_free old who call told reply grants new is)
waits_before old who call told (Err cause) grants new is same = ap (λ (s : State). pends s who) same.1

-- ---- what its entry tells

pub own_deed : (old : State) (who : ℕ) (call : Call) (result : Result Reply Refusal) (grants : List Grant) (new : State) → Tells old who call None result grants new → IsDeed old (record { entry = Called who call result; grants = grants }) new
own_deed old who call result grants new is = (refl, (new, is, refl))

pub renewal_deed : (old : State) (who : ℕ) (call : Call) (renewal : Renewal) (told : Result ℕ Refusal) (result : Result Reply Refusal) (grants : List Grant) (new : State) → Tells old who call (Some renewal) result grants new → handle_reply told ≡ result
    → IsDeed old (record { entry = Renewed who renewal told; grants = grants }) new
renewal_deed old who call renewal told result grants new is same =
    subst (λ (r : Result Reply Refusal). IsRenewed old who renewal r grants new) (sym same) is.1

-- ---- whether numbers are given again

pub gives_none : (spare : Option Spares) (call : Call) → is_some spare ≡ false → gives spare call ≡ false
gives_none None call none = refl
gives_none (Some spare) call none = absurd (false≢true (sym none))

pub stays_lasting : (call : Call) (result : Result Reply Refusal) (old new : Option Spares) → MayStack call result old new → is_some new ≡ is_some old
stays_lasting call result (Some old) (Some new) is = refl
stays_lasting call result (Some old) None is = ap is_some (sym is.0)
stays_lasting call result None new is = ap is_some is.1

-- ---- a thread that begins again

pub begun_this : (old : State) (spare : Option Spares) (t h : ℕ) (grants : List Grant) (new : State) → MayBeginThis old spare t (Some h) grants new → (is_some spare ≡ true) × BeginsAgain old t h (Ok (Reply.Handle h)) grants new
begun_this old (Some spare) t h grants new is = (refl, is.2)
begun_this old None t h grants new is = absurd (some_is_none h is.0)
  where
    some_is_none : (n : ℕ) → Some n ≡ None → ⊥
    some_is_none n e = (cc)

pub begun_none : (old : State) (spare : Option Spares) (t : ℕ) (grants : List Grant) (new : State) → MayBeginThis old spare t None grants new
    → (new ≡ old) × MatchOption spare (Unit {0}) (λ s. (length s.closed ≡ 0) ⊎ (is_left old t ≡ false))
begun_none old (Some spare) t grants new is = (is.1, is.0)
begun_none old None t grants new is = (is.1, tt)

pub stays_begun : (old new : Option Spares) → MayPop old new → is_some new ≡ is_some old
stays_begun (Some old) (Some new) is = refl
stays_begun (Some old) None is = ap is_some (sym is.0)
stays_begun None new is = ap is_some is.1

pub only_lasting : (lasts : Bool) → lasts ≡ true → lasts ≡ false → ⊥
only_lasting lasts is once = false≢true (sym once ∙ is)

-- ---- a call that was carried out

carried : (old new : WithSpare) (who : ℕ) (call : Call) (told : Option Renewal) (result : Result Reply Refusal) (e : Entry) → IsOfCall who call result e → IsDeed (state old.core) (record { entry = e; grants = new.core.grants }) (state new.core) → (is_some old.spare ≡ false → is_renewal e ≡ false)
    → Tells (state old.core) who call told result new.core.grants (state new.core) → MakesCall (state old.core) old.spare who call result new.core.grants (state new.core) → MayStack call result old.spare new.spare → KeepsPace (state old.core) who call result new.core.grants (state new.core)
    → IsUnchanged (state old.core) result new.core.grants (state new.core) → IsLawful new.core → IsCarriedOut old who call result e new
carried old new who call told result e of step once told_is makes stacked pace unchanged lawful = record {
  of = of;
  step = step;
  once = once;
  lasts = stays_lasting call result old.spare new.spare stacked;
  makes = makes;
  lawful = lawful;
  moves = pace.moves;
  waits = pace.waits;
  moment = pace.moment;
  most = pace.most;
  free = waits_before (state old.core) who call told result new.core.grants (state new.core) told_is unchanged;
  answer = tells_answer (state old.core) who call told result new.core.grants (state new.core) told_is;
}

pub carried_own : (old new : WithSpare) (who : ℕ) (call : Call) (result : Result Reply Refusal) → Tells (state old.core) who call None result new.core.grants (state new.core) → MakesCall (state old.core) old.spare who call result new.core.grants (state new.core) → MayStack call result old.spare new.spare
    → KeepsPace (state old.core) who call result new.core.grants (state new.core) → IsUnchanged (state old.core) result new.core.grants (state new.core) → IsLawful new.core → IsCarriedOut old who call result (Called who call result) new
carried_own old new who call result told_is makes stacked pace unchanged lawful =
    carried old new who call None result (Called who call result) (refl, refl, refl) (own_deed (state old.core) who call result new.core.grants (state new.core) told_is) (λ once. refl) told_is makes stacked pace unchanged lawful

pub carried_renewal : (old new : WithSpare) (who : ℕ) (call : Call) (renewal : Renewal) (told : Result ℕ Refusal) (result : Result Reply Refusal) → handle_reply told ≡ result → (gives old.spare call ≡ false → Some renewal ≡ None) → Tells (state old.core) who call (Some renewal) result new.core.grants (state new.core)
    → MakesCall (state old.core) old.spare who call result new.core.grants (state new.core) → MayStack call result old.spare new.spare → KeepsPace (state old.core) who call result new.core.grants (state new.core) → IsUnchanged (state old.core) result new.core.grants (state new.core) → IsLawful new.core
    → IsCarriedOut old who call result (Renewed who renewal told) new
carried_renewal old new who call renewal told result same own told_is makes stacked pace unchanged lawful =
    carried old new who call (Some renewal) result (Renewed who renewal told) (refl, told_is.0, same) (renewal_deed (state old.core) who call renewal told result new.core.grants (state new.core) told_is same)
    (λ once. absurd (some_none renewal (own (gives_none old.spare call once)))) told_is makes stacked pace unchanged lawful
  where
    some_none : (r : Renewal) → Some r ≡ None → ⊥
    some_none r e = (cc)
