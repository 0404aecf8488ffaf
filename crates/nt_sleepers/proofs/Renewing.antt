-- Numbers that are given again leave who sleeps, and what is awaited.
use Rattle.std.proofs.Common.{◌≡◌, ◌∙◌, ℕ, Bool, true, false, not, ◌&&◌, List, [], ◌∷◌, ◌++◌, length, Option, None, Some, refl, sym, ap, subst, inl, inr}
use Rattle.std.specs.Prelude.{Result, Ok, Err, MatchBool, is_some, nat_lt}
use Rattle.std.specs.FinMap as map
use Rattle.std.proofs.lemmas.Bool.{false≢true}
use Rattle.nt_status.specs.declared.refusal.Refusal.{Refusal}
use Rattle.nt_status.specs.declared.refusal.Refusal.TheVariants.{InvalidHandle}
use Rattle.nt_objects.specs.declared.object.Object.{Object}
use Rattle.nt_objects.specs.declared.object.Object.TheVariants.{Gone, Thread}
use Rattle.nt_objects.specs.Object.{due_of, is_gone}
use Rattle.nt_apc.specs.Queues.{has_apc}
use Rattle.nt_calls.specs.declared.call.Act.{Act}
use Rattle.nt_calls.specs.declared.call.Call.{Call}
use Rattle.nt_calls.specs.declared.call.Grant.{Grant}
use Rattle.nt_calls.specs.declared.call.Reply.{Reply}
use Rattle.nt_calls.specs.Moves.{pended}
use Rattle.nt_calls.specs.Naming.{object_named}
use Rattle.nt_calls.specs.Refusals.{first_of_causes}
use Rattle.nt_calls.specs.State.{State, Pending, object_at}
use Rattle.nt_calls.specs.Steps.{IsAwaited, Called}
use Rattle.nt_core.specs.Renewals.{AddsVacant, CreatesAgain, DuplicatesAgain, Renews, begun_again, created_again, created_by, creation, creation_refusal, duplicate_refusal, is_closed, opened_again, thread_refusal}
use Rattle.nt_core.specs.SetAside.{is_movable, set_aside}
use Rattle.nt_machine.proofs.Changing.{reading_created, reading_set}
use Rattle.nt_core.proofs.SettingAside.{MayMove, may_move, read_aside}
use Rattle.nt_life.specs.Lasting.{Spares, AsideBeside, FindsNumber, MaySetAside, MovesAside, CreatesBeside, CreatesByTurn, CreatesElse, LastsAct, LastsCreation, LastsDuplicate, MakesCall, MayBegin, can_give_last, last_closed, last_unnamed}
use Rattle.nt_life.specs.declared.begun.Begun.{Begun}
use Rattle.nt_life.proofs.Turning.{turn_else}
use Rattle.nt_sleepers.specs.Sleepers.{TimeIsKept, time_out_of}
use Rattle.nt_sleepers.proofs.Staying.{StayedOrBegan, call_stayed, same_stayed}

-- ---- the same waits, and no object with a moment that had none

keeps_time : (old new : State) (alarms : List (Option ℕ)) (watchers : List Bool) → new.waits ≡ old.waits → new.threads ≡ old.threads → ((u : ℕ) → IsAwaited new u → IsAwaited old u) → TimeIsKept old alarms watchers → TimeIsKept new alarms watchers
keeps_time old new alarms watchers waits threads fewer kept =
    let due : (t : ℕ) → time_out_of (map.get old.waits t) ≡ time_out_of (map.get new.waits t) = λ t. ap (λ (p : Pending). time_out_of (map.get p t)) (sym waits) in
    record {
      few = kept.few;
      places = kept.places ∙ sym threads;
      count = kept.count;
      asleep = λ t m is. ap (λ (p : Pending). is_some (map.get p t)) waits ∙ kept.asleep t m is;
      watching = λ t is. ap (λ (p : Pending). is_some (map.get p t)) waits ∙ kept.watching t is;
      deadlines = λ t u is. kept.deadlines t u (due t ∙ is);
      in_time = λ u low awaited. elim (kept.in_time u low (fewer u awaited)) [
        | inl soon ↦ inl soon
        | inr stopped ↦ inr (stopped.0, λ t is. stopped.1 t (due t ∙ is))
      ];
    }

-- an object number more is of an object that has no moment
more_awaits : (s : State) (u : ℕ) → IsAwaited (record s { objects = s.objects ++ Gone ∷ [] }) u → IsAwaited s u
more_awaits s u (inl due) = inl (due.0, sym (reading_created due_of s.objects Gone refl due.0) ∙ due.1)
more_awaits s u (inr late) = inr late

kept_added : (old new : State) (o : ℕ) (alarms : List (Option ℕ)) (watchers : List Bool) → AddsVacant old (Ok o) [] new → TimeIsKept old alarms watchers → TimeIsKept new alarms watchers
kept_added old new o alarms watchers adds kept =
    subst (λ (s : State). TimeIsKept s alarms watchers) (sym adds.3)
    (keeps_time old (record old { objects = old.objects ++ Gone ∷ [] }) alarms watchers refl refl (more_awaits old) kept)

-- ---- a thread that begins

gone_due : (o : Object) → is_gone o ≡ true → due_of (Thread false) ≡ due_of o
gone_due Gone gone = refl
gone_due o gone = absurd (false≢true gone)

begun_awaits : (s : State) (t h u : ℕ) → is_gone (object_at s.objects t) ≡ true → IsAwaited (begun_again s t h) u → IsAwaited s u
begun_awaits s t h u gone (inl due) = inl (due.0, sym (reading_set due_of s.objects t (Thread false) (gone_due (object_at s.objects t) gone) due.0) ∙ due.1)
begun_awaits s t h u gone (inr late) = inr late

left_gone : (s : State) (t h : ℕ) → thread_refusal s t h ≡ None → is_gone (object_at s.objects t) ≡ true
left_gone s t h none = go (nat_lt t s.threads) (is_gone (object_at s.objects t)) (not (has_apc s.apcs t)) (is_closed s h) none
  where
    go : (a b c d : Bool) → first_of_causes ((not ((a && (b && c)) && d), InvalidHandle) ∷ []) ≡ None → b ≡ true
    go a true c d e = refl
    go true false c d e = absurd (cc)
    go false false c d e = absurd (cc)

pub kept_begun : (old new : State) (spare : Option Spares) (begun : Option Begun) (gs : List Grant) (alarms : List (Option ℕ)) (watchers : List Bool) → MayBegin old spare begun gs new → TimeIsKept old alarms watchers → TimeIsKept new alarms watchers
kept_begun old new None begun gs alarms watchers is kept = subst (λ (s : State). TimeIsKept s alarms watchers) (sym is.1) kept
kept_begun old new (Some spare) None gs alarms watchers is kept = subst (λ (s : State). TimeIsKept s alarms watchers) (sym is.1) kept
kept_begun old new (Some spare) (Some begun) gs alarms watchers is kept =
    subst (λ (s : State). TimeIsKept s alarms watchers) (sym is.1.2.3)
    (keeps_time old (begun_again old begun.thread begun.handle) alarms watchers refl refl (λ u. begun_awaits old begun.thread begun.handle u (left_gone old begun.thread begun.handle is.1.2.0)) kept)

-- ---- an object that is set aside

aside_awaits : (s : State) (t o u : ℕ) → MayMove s t o → IsAwaited (set_aside s t o) u → IsAwaited s u
aside_awaits s t o u may (inl due) = inl (due.0, sym (read_aside due_of s.objects t o may.ended may.vacant refl due.0) ∙ due.1)
aside_awaits s t o u may (inr late) = inr late

kept_moved : (old new : State) (t o : ℕ) (result : Result ℕ Refusal) (gs : List Grant) (alarms : List (Option ℕ)) (watchers : List Bool) → MovesAside old t o result gs new → TimeIsKept old alarms watchers → TimeIsKept new alarms watchers
kept_moved old new t o result gs alarms watchers is kept =
    subst (λ (s : State). TimeIsKept s alarms watchers) (sym is.1.2)
    (keeps_time old (set_aside old t o) alarms watchers refl refl (λ u. aside_awaits old t o u (may_move old t o (sym is.1.0))) kept)

kept_beside : (added : Result ℕ Refusal) (old mid new : State) (t : ℕ) (result : Result ℕ Refusal) (gs : List Grant) (alarms : List (Option ℕ)) (watchers : List Bool) → AddsVacant old added [] mid → AsideBeside added old mid t result gs new → TimeIsKept old alarms watchers → TimeIsKept new alarms watchers
kept_beside (Ok o) old mid new t result gs alarms watchers adds is kept = kept_moved mid new t o result gs alarms watchers is (kept_added old mid o alarms watchers adds kept)
kept_beside (Err cause) old mid new t result gs alarms watchers adds is kept = subst (λ (s : State). TimeIsKept s alarms watchers) (sym is.1) kept

kept_found : (old new : State) (t : ℕ) (result : Result ℕ Refusal) (gs : List Grant) (alarms : List (Option ℕ)) (watchers : List Bool) → FindsNumber old t result gs new → TimeIsKept old alarms watchers → TimeIsKept new alarms watchers
kept_found old new t result gs alarms watchers (inl spare) kept = kept_moved old new t spare.0 result gs alarms watchers spare.2 kept
kept_found old new t result gs alarms watchers (inr more) kept = kept_beside more.1.0 old more.1.1 new t result gs alarms watchers more.1.2 more.1.3 kept

pub kept_aside : (old new : State) (spare : Option Spares) (t : ℕ) (result : Result ℕ Refusal) (gs : List Grant) (alarms : List (Option ℕ)) (watchers : List Bool) → MaySetAside old spare t result gs new → TimeIsKept old alarms watchers → TimeIsKept new alarms watchers
kept_aside old new None t result gs alarms watchers is kept = subst (λ (s : State). TimeIsKept s alarms watchers) (sym is.1) kept
kept_aside old new (Some spare) t result gs alarms watchers is kept = go (is_movable old t) is
  where
    go : (b : Bool) → MatchBool b (FindsNumber old t result gs new) ((result ≡ Err InvalidHandle) × (new ≡ old)) → TimeIsKept new alarms watchers
    go true found = kept_found old new t result gs alarms watchers found kept
    go false refused = subst (λ (s : State). TimeIsKept s alarms watchers) (sym refused.1) kept

-- ---- a call that may be a renewal

renewal_stayed : (old mid becomes : State) (refused : Option Refusal) (who h : ℕ) (began : Bool) (result : Result Reply Refusal) (gs : List Grant) (new : State) → mid.waits ≡ old.waits → becomes.waits ≡ mid.waits → Renews mid refused h becomes result gs new → StayedOrBegan old who began new
renewal_stayed old mid becomes refused who h began (Ok reply) gs new before after is = same_stayed old new who began (ap (λ (s : State). s.waits) is.3 ∙ (after ∙ before))
renewal_stayed old mid becomes refused who h began (Err cause) gs new before after is = same_stayed old new who began (ap (λ (s : State). s.waits) is.2 ∙ before)

created_stayed : (old mid : State) (who : ℕ) (act : Act) (o h : ℕ) (result : Result Reply Refusal) (gs : List Grant) (new : State) → mid.waits ≡ old.waits → CreatesAgain mid who act o h result gs new → StayedOrBegan old who (pended result) new
created_stayed old mid who act o h result gs new before is =
    renewal_stayed old mid (created_again mid o h (created_by (creation who act))) (creation_refusal mid who act o h) who h (pended result) result gs new before refl is

beside_stayed : (added : Result ℕ Refusal) (old mid : State) (h who : ℕ) (act : Act) (result : Result Reply Refusal) (gs : List Grant) (new : State) → AddsVacant old added [] mid → CreatesBeside added old mid h who act result gs new → StayedOrBegan old who (pended result) new
beside_stayed (Ok o) old mid h who act result gs new adds is = created_stayed old mid who act o h result gs new (ap (λ (s : State). s.waits) adds.3) is.1
beside_stayed (Err cause) old mid h who act result gs new adds is = same_stayed old new who (pended result) (ap (λ (s : State). s.waits) is.2)

else_stayed : (old : State) (spare : Spares) (who : ℕ) (act : Act) (result : Result Reply Refusal) (gs : List Grant) (new : State) → CreatesElse old spare who act result gs new → StayedOrBegan old who (pended result) new
else_stayed old spare who act result gs new (inl own) = call_stayed old who (Call.Act act) result gs new own
else_stayed old spare who act result gs new (inr (inl again)) = created_stayed old old who act again.1.0 (last_closed spare) result gs new refl again.1.2
else_stayed old spare who act result gs new (inr (inr more)) = beside_stayed more.2.0 old more.2.1 (last_closed spare) who act result gs new more.2.2 more.2.3

creation_stayed : (old : State) (spare : Spares) (who : ℕ) (act : Act) (result : Result Reply Refusal) (gs : List Grant) (new : State) → LastsCreation old spare who act result gs new → StayedOrBegan old who (pended result) new
creation_stayed old spare who act result gs new lasts = go (can_give_last old spare) lasts
  where
    go : (b : Bool) → MatchBool b (CreatesAgain old who act (last_unnamed spare) (last_closed spare) result gs new) (CreatesByTurn old spare who act result gs new) → StayedOrBegan old who (pended result) new
    go true again = created_stayed old old who act (last_unnamed spare) (last_closed spare) result gs new refl again
    go false other = else_stayed old spare who act result gs new (turn_else old spare who act result gs new other)

duplicate_stayed : (old : State) (spare : Spares) (who source access : ℕ) (result : Result Reply Refusal) (gs : List Grant) (new : State) → LastsDuplicate old spare who source access result gs new → StayedOrBegan old who (pended result) new
duplicate_stayed old spare who source access result gs new lasts = go (nat_lt 0 (length spare.closed)) lasts
  where
    go : (b : Bool) → MatchBool b (DuplicatesAgain old who source access (last_closed spare) result gs new) (Called old who (Call.Act (Act.Duplicate source access)) result gs new) → StayedOrBegan old who (pended result) new
    go true again =
        renewal_stayed old old (opened_again old (last_closed spare) (object_named old.handles source) access) (duplicate_refusal old who source access (last_closed spare)) who (last_closed spare) (pended result) result gs new refl refl again
    go false own = call_stayed old who (Call.Act (Act.Duplicate source access)) result gs new own

act_stayed : (old : State) (spare : Spares) (who : ℕ) (act : Act) (result : Result Reply Refusal) (gs : List Grant) (new : State) → LastsAct old spare who act result gs new → StayedOrBegan old who (pended result) new
act_stayed old spare who (Act.Duplicate source access) result gs new lasts = duplicate_stayed old spare who source access result gs new lasts
act_stayed old spare who (Act.CreateEvent flags) result gs new lasts = creation_stayed old spare who (Act.CreateEvent flags) result gs new lasts
act_stayed old spare who (Act.CreateSemaphore initial maximum) result gs new lasts = creation_stayed old spare who (Act.CreateSemaphore initial maximum) result gs new lasts
act_stayed old spare who (Act.CreateMutex flags) result gs new lasts = creation_stayed old spare who (Act.CreateMutex flags) result gs new lasts
act_stayed old spare who (Act.CreateTimer flags) result gs new lasts = creation_stayed old spare who (Act.CreateTimer flags) result gs new lasts
act_stayed old spare who act result gs new own = call_stayed old who (Call.Act act) result gs new own

pub makes_stayed : (old : State) (spare : Option Spares) (who : ℕ) (call : Call) (result : Result Reply Refusal) (gs : List Grant) (new : State) → MakesCall old spare who call result gs new → StayedOrBegan old who (pended result) new
makes_stayed old None who call result gs new own = call_stayed old who call result gs new own
makes_stayed old (Some spare) who (Call.Act act) result gs new lasts = act_stayed old spare who act result gs new lasts
makes_stayed old (Some spare) who call result gs new own = call_stayed old who call result gs new own
