-- What the machine did again, and whether it is what an entry tells.
use Rattle.std.proofs.Common.{◌≡◌, ◌≢◌, ℕ, List, [], ◌∷◌, refl, sym, ap, subst, Result, Ok, Err}
use Rattle.std.specs.Prelude.{IfOk, IfErr}
use Rattle.nt_status.specs.declared.refusal.Refusal.{Refusal}
use Rattle.nt_calls.specs.declared.call.Act.{Act}
use Rattle.nt_calls.specs.declared.call.Call.{Call}
use Rattle.nt_calls.specs.declared.call.Reply.{Reply}
use Rattle.nt_calls.specs.declared.call.Grant.{Grant}
use Rattle.nt_calls.specs.State.{State}
use Rattle.nt_calls.specs.Runs.{Calls, Ticks}
use Rattle.nt_calls.specs.Steps.{Called as Makes, Ticked as Passes}
use Rattle.nt_machine.specs.Dispatcher.{Dispatcher, state}
use Rattle.nt_core.specs.Renewals.{CreatesAgain, DuplicatesAgain, BeginsAgain, AddsVacant}
use Rattle.nt_laws.specs.Laws.{AsksCall}
use Rattle.nt_laws.specs.Lives.{Stage, Takes, Creates, Shares, Begins, Adds, IsStage, LivesOneWay, wish, AsksTurn, AsksNumber}
use Rattle.nt_mail.specs.declared.entry.Entry.{Entry}
use Rattle.nt_mail.specs.declared.entry.Entry.TheVariants.{Called, Ticked, Granted, Renewed}
use Rattle.nt_life.specs.declared.renewal.Renewal.TheVariants.{Create, CreateAdded, Unadded, Duplicate, Begin}
use Rattle.nt_mail.specs.Entries.{handle_reply}
use Rattle.nt_replay.specs.Replays.{IsReached, IsMismatch, IsNumberMismatch, EntryIsDone, IsUndone}
use Rattle.nt_replay.specs.declared.unreplayed.Unreplayed.{Unreplayed}
use Rattle.nt_replay.specs.declared.unreplayed.Unreplayed.TheVariants.{Differs, Memory}
use Rattle.nt_replay.proofs.Following.{no_grant, stages_one_way}

-- two stages that ask for the same are the same, and lead to the same state
stage_one_way : LivesOneWay → (s a b : State) (t u : Stage) → IsReached s → IsStage s t a → IsStage s u b → wish t ≡ wish u → (t ≡ u) × (a ≡ b)
stage_one_way law s a b t u reached x y alike =
    let same = stages_one_way law s a b (t ∷ []) (u ∷ []) reached (a, x, refl) (b, y, refl) (ap (λ w. w ∷ []) alike) in
    ((cc), same.1)

-- what an answer to one entry says: it was done, or it was not
abbrev pub IsJudged : Dispatcher → Entry → ℕ → Dispatcher → Result ℕ Unreplayed → Type 0
IsJudged old e place new result = IfOk result (λ now. (now ≡ 0) × EntryIsDone e old new) × IfErr result (IsUndone (state old) e place)

-- the same answer by another name
pub answered_ok : (result : Result ℕ Unreplayed) (made told same : Result Reply Refusal) → told ≡ same → IfOk result (λ now. (now ≡ 0) × (made ≡ told)) → IfOk result (λ now. (now ≡ 0) × (made ≡ same))
answered_ok result made told same is ok = subst (λ (r : Result Reply Refusal). IfOk result (λ now. (now ≡ 0) × (made ≡ r))) is ok

pub answered_err : (result : Result ℕ Unreplayed) (place : ℕ) (made told same : Result Reply Refusal) → told ≡ same → IfErr result (λ cause. (cause ≡ Differs place) × (made ≢ told)) → IfErr result (λ cause. (cause ≡ Differs place) × (made ≢ same))
answered_err result place made told same is err = subst (λ (r : Result Reply Refusal). IfErr result (λ cause. (cause ≡ Differs place) × (made ≢ r))) is err

-- a call
pub call_judged : LivesOneWay → (old new : Dispatcher) (place who : ℕ) (call : Call) (made told : Result Reply Refusal) → Makes (state old) who call made new.grants (state new) → (result : Result ℕ Unreplayed)
    → IfOk result (λ now. (now ≡ 0) × (made ≡ told)) → IfErr result (IsMismatch made told place) → IsJudged old (Called who call told) place new result
call_judged law old new place who call made told makes (Ok now) same other =
    ((same.0, (refl, (state new, subst (λ (r : Result Reply Refusal). Makes (state old) who call r new.grants (state new)) same.1 makes, refl))), tt)
call_judged law old new place who call made told makes (Err (Differs at)) same other = (
  tt,
  (
    other.0,
    λ reached gs s done.
        let is = stage_one_way law (state old) (state new) done.1.0 (Takes (Calls who call made new.grants)) (Takes (Calls who call told gs)) reached makes done.1.1 (ap (λ b. AsksTurn (AsksCall who call b)) other.1) in
        let h : Takes (Calls who call made new.grants) ≡ Takes (Calls who call told gs) = is.0 in
        other.2 (cc),
  ),
)
call_judged law old new place who call made told makes (Err (Memory at)) same other =
    (tt, (other.0, record { made = made; grants = new.grants; new = state new; makes = makes; apart = other.1 }))

-- a tick
pub tick_judged : LivesOneWay → (old new : Dispatcher) (place by moment : ℕ) (made told : Result Reply Refusal) → Passes (state old) moment made new.grants (state new) → (result : Result ℕ Unreplayed)
    → IfOk result (λ now. (now ≡ 0) × (made ≡ told)) → IfErr result (λ cause. (cause ≡ Differs place) × (made ≢ told)) → IsJudged old (Ticked by moment told) place new result
tick_judged law old new place by moment made told makes (Ok now) same other =
    ((same.0, (refl, (state new, subst (λ (r : Result Reply Refusal). Passes (state old) moment r new.grants (state new)) same.1 makes, refl))), tt)
tick_judged law old new place by moment made told makes (Err cause) same other = (
  tt,
  subst (λ (x : Unreplayed). IsUndone (state old) (Ticked by moment told) place x) (sym other.0) (
    refl,
    λ reached gs s done.
        let is = stage_one_way law (state old) (state new) done.1.0 (Takes (Ticks by moment made new.grants)) (Takes (Ticks by moment told gs)) reached makes done.1.1 refl in
        let h : Takes (Ticks by moment made new.grants) ≡ Takes (Ticks by moment told gs) = is.0 in
        other.1 (cc),
  ),
)

-- a creation at numbers that are given again
pub create_judged : LivesOneWay → (old new : Dispatcher) (place who : ℕ) (act : Act) (object handle : ℕ) (made : Result Reply Refusal) (told : Result ℕ Refusal) → CreatesAgain (state old) who act object handle made new.grants (state new) → (result : Result ℕ Unreplayed)
    → IfOk result (λ now. (now ≡ 0) × (made ≡ handle_reply told)) → IfErr result (λ cause. (cause ≡ Differs place) × (made ≢ handle_reply told)) → IsJudged old (Renewed who (Create act object handle) told) place new result
create_judged law old new place who act object handle made told makes (Ok now) same other =
    ((same.0, (refl, (state new, subst (λ (r : Result Reply Refusal). CreatesAgain (state old) who act object handle r new.grants (state new)) same.1 makes, refl))), tt)
create_judged law old new place who act object handle made told makes (Err cause) same other = (
  tt,
  subst (λ (x : Unreplayed). IsUndone (state old) (Renewed who (Create act object handle) told) place x) (sym other.0) (
    refl,
    λ reached gs s done.
        let is = stage_one_way law (state old) (state new) done.1.0 (Creates who act object handle made new.grants) (Creates who act object handle (handle_reply told) gs) reached makes done.1.1 refl in
        let h : Creates who act object handle made new.grants ≡ Creates who act object handle (handle_reply told) gs = is.0 in
        other.1 (cc),
  ),
)

-- a duplicate whose number is given again
pub duplicate_judged : LivesOneWay → (old new : Dispatcher) (place who source access handle : ℕ) (made : Result Reply Refusal) (told : Result ℕ Refusal) → DuplicatesAgain (state old) who source access handle made new.grants (state new) → (result : Result ℕ Unreplayed)
    → IfOk result (λ now. (now ≡ 0) × (made ≡ handle_reply told)) → IfErr result (λ cause. (cause ≡ Differs place) × (made ≢ handle_reply told)) → IsJudged old (Renewed who (Duplicate source access handle) told) place new result
duplicate_judged law old new place who source access handle made told makes (Ok now) same other =
    ((same.0, (refl, (state new, subst (λ (r : Result Reply Refusal). DuplicatesAgain (state old) who source access handle r new.grants (state new)) same.1 makes, refl))), tt)
duplicate_judged law old new place who source access handle made told makes (Err cause) same other = (
  tt,
  subst (λ (x : Unreplayed). IsUndone (state old) (Renewed who (Duplicate source access handle) told) place x) (sym other.0) (
    refl,
    λ reached gs s done.
        let is = stage_one_way law (state old) (state new) done.1.0 (Shares who source access handle made new.grants) (Shares who source access handle (handle_reply told) gs) reached makes done.1.1 refl in
        let h : Shares who source access handle made new.grants ≡ Shares who source access handle (handle_reply told) gs = is.0 in
        other.1 (cc),
  ),
)

-- a thread that begins again
pub begin_judged : LivesOneWay → (old new : Dispatcher) (place who handle : ℕ) (made : Result Reply Refusal) (told : Result ℕ Refusal) → BeginsAgain (state old) who handle made new.grants (state new) → (result : Result ℕ Unreplayed)
    → IfOk result (λ now. (now ≡ 0) × (made ≡ handle_reply told)) → IfErr result (λ cause. (cause ≡ Differs place) × (made ≢ handle_reply told)) → IsJudged old (Renewed who (Begin handle) told) place new result
begin_judged law old new place who handle made told makes (Ok now) same other =
    ((same.0, (refl, (state new, subst (λ (r : Result Reply Refusal). BeginsAgain (state old) who handle r new.grants (state new)) same.1 makes, refl))), tt)
begin_judged law old new place who handle made told makes (Err cause) same other = (
  tt,
  subst (λ (x : Unreplayed). IsUndone (state old) (Renewed who (Begin handle) told) place x) (sym other.0) (
    refl,
    λ reached gs s done.
        let is = stage_one_way law (state old) (state new) done.1.0 (Begins who handle made new.grants) (Begins who handle (handle_reply told) gs) reached makes done.1.1 refl in
        let h : Begins who handle made new.grants ≡ Begins who handle (handle_reply told) gs = is.0 in
        other.1 (cc),
  ),
)

-- ---- an object number that is added

-- none could be added
pub unadded_judged : LivesOneWay → (old new : Dispatcher) (place who : ℕ) (act : Act) (made : Result ℕ Refusal) (cause : Refusal) → AddsVacant (state old) made new.grants (state new) → (result : Result ℕ Unreplayed)
    → IfOk result (λ now. (now ≡ 0) × (made ≡ Err cause)) → IfErr result (IsNumberMismatch made (Err cause) place) → IsJudged old (Renewed who (Unadded act) (Err cause)) place new result
unadded_judged law old new place who act made cause adds (Ok now) same other =
    ((same.0, (refl, (state new, subst (λ (r : Result ℕ Refusal). AddsVacant (state old) r new.grants (state new)) same.1 adds, refl))), tt)
unadded_judged law old new place who act made cause adds (Err (Differs at)) same other = (
  tt,
  (
    other.0,
    λ reached gs s done.
        let is = stage_one_way law (state old) (state new) done.1.0 (Adds made new.grants) (Adds (Err cause) gs) reached adds done.1.1 (ap AsksNumber other.1) in
        let h : Adds made new.grants ≡ Adds (Err cause) gs = is.0 in
        other.2 (cc),
  ),
)
unadded_judged law old new place who act made cause adds (Err (Memory at)) same other =
    (tt, (other.0, record { made = made; grants = new.grants; new = state new; adds = adds; apart = other.1 }))

-- the number that the machine adds is not the one that is told
pub added_apart : LivesOneWay → (old mid : Dispatcher) (place who : ℕ) (act : Act) (object handle : ℕ) (told : Result ℕ Refusal) (made : Result ℕ Refusal) (cause : Unreplayed) → AddsVacant (state old) made mid.grants (state mid)
    → IsNumberMismatch made (Ok object) place cause → IsUndone (state old) (Renewed who (CreateAdded act object handle) told) place cause
added_apart law old mid place who act object handle told made (Differs at) adds other = (
  other.0,
  λ reached gs s done.
      let is = stage_one_way law (state old) (state mid) done.1.0 (Adds made mid.grants) (Adds (Ok object) []) reached adds done.1.1 (ap AsksNumber other.1) in
      let h : Adds made mid.grants ≡ Adds (Ok object) [] = is.0 in
      other.2 (cc),
)
added_apart law old mid place who act object handle told made (Memory at) adds other =
    (other.0, record { made = made; grants = mid.grants; new = state mid; adds = adds; apart = other.1 })

-- no wait ended with it
added_alone : (s a : State) (object : ℕ) (gs : List Grant) → AddsVacant s (Ok object) gs a → AddsVacant s (Ok object) [] a
added_alone s a object gs adds = (adds.0, adds.1, refl, adds.3)

-- it is, and the creation is compared
pub added_judged : LivesOneWay → (old mid new : Dispatcher) (place who : ℕ) (act : Act) (object handle : ℕ) (added : Result ℕ Refusal) (made : Result Reply Refusal) (told : Result ℕ Refusal)
    → AddsVacant (state old) added mid.grants (state mid) → added ≡ Ok object → CreatesAgain (state mid) who act object handle made new.grants (state new) → (result : Result ℕ Unreplayed)
    → IfOk result (λ now. (now ≡ 0) × (made ≡ handle_reply told)) → IfErr result (λ cause. (cause ≡ Differs place) × (made ≢ handle_reply told)) → IsJudged old (Renewed who (CreateAdded act object handle) told) place new result
added_judged law old mid new place who act object handle added made told adds is makes (Ok now) same other =
    let alone = added_alone (state old) (state mid) object mid.grants (subst (λ (r : Result ℕ Refusal). AddsVacant (state old) r mid.grants (state mid)) is adds) in
    ((same.0, (refl, (state mid, alone, (state new, subst (λ (r : Result Reply Refusal). CreatesAgain (state mid) who act object handle r new.grants (state new)) same.1 makes, refl)))), tt)
added_judged law old mid new place who act object handle added made told adds is makes (Err cause) same other =
    let alone = added_alone (state old) (state mid) object mid.grants (subst (λ (r : Result ℕ Refusal). AddsVacant (state old) r mid.grants (state mid)) is adds) in (
      tt,
      subst (λ (x : Unreplayed). IsUndone (state old) (Renewed who (CreateAdded act object handle) told) place x) (sym other.0) (
        refl,
        λ reached gs s done.
            let both = stages_one_way law (state old) (state new) s (Adds (Ok object) [] ∷ Creates who act object handle made new.grants ∷ []) (Adds (Ok object) [] ∷ Creates who act object handle (handle_reply told) gs ∷ []) reached (state mid, alone, (state new, makes, refl)) done.1 refl in
            let h : Adds (Ok object) [] ∷ Creates who act object handle made new.grants ∷ [] ≡ Adds (Ok object) [] ∷ Creates who act object handle (handle_reply told) gs ∷ [] = both.0 in
            other.1 (cc),
      ),
    )

-- ---- a grant alone

pub grant_judged : (old : Dispatcher) (e : Entry) (place who status : ℕ) → e ≡ Granted who status → IsUndone (state old) e place (Differs place)
grant_judged old e place who status is = (refl, λ reached gs s done. no_grant e (record { thread = who; status = status }) done.0 is)
