-- In a turn an object lives exactly while something keeps it.
use Rattle.std.proofs.Common.{◌≡◌, ◌<◌, ℕ, zero, suc, Bool, true, false, not, ◌&&◌, ◌||◌, ◌==◌, List, [], ◌∷◌, length, refl, sym, ap, ◌∙◌, subst, arith, Option, Some, None, inl, inr, Contains}
use Rattle.std.specs.Prelude.{pos, nat_lt, map, replicate, slice_index}
use Rattle.std.specs.List.{list_any}
use Rattle.std.specs.FinMap.{get}
use Rattle.std.specs.declared.result.Result.TheVariants.{Ok, Err}
use Rattle.std.proofs.lemmas.Bool.{false≢true}
use Rattle.std.proofs.lemmas.Bool.Decides.{nat_tests}
use Rattle.std.proofs.lemmas.List.{length-replicate}
use Rattle.nt_status.proofs.Lists.{contains_none}
use Rattle.nt_status.specs.Flags.{has_flag}
use Rattle.nt_status.specs.Access.{synchronize}
use Rattle.nt_status.specs.declared.refusal.Refusal.TheVariants.{AccessDenied, InvalidHandle, InvalidParameter, NotOwner, TooManyPosts, RecursionLimit}
use Rattle.nt_waits.specs.declared.wait.Wait.{Wait}
use Rattle.nt_waits.specs.Waits.{Names}
use Rattle.nt_objects.specs.declared.object.Object.TheVariants.{Thread}
use Rattle.nt_tables.specs.declared.handles.Opened.{Opened}
use Rattle.nt_tables.specs.Handles.{opened_at, own_handles, count_named}
use Rattle.nt_objects.specs.Object.{is_gone, has_ended, overflows, full_access}
use Rattle.nt_status.specs.declared.limits.TheConstants.{MAX_WAIT_OBJECTS}
use Rattle.nt_calls.specs.declared.call.Call.{Call}
use Rattle.nt_calls.specs.declared.call.WaitCall.{WaitCall}
use Rattle.nt_calls.specs.declared.call.Reply.{Reply}
use Rattle.nt_calls.specs.declared.call.Grant.{Grant}
use Rattle.nt_calls.specs.Naming.{call_named, wait_named, object_named, object_in, access_in, lacks}
use Rattle.nt_calls.specs.Rights.{is_denied, signal_denied}
use Rattle.nt_calls.specs.State.{State, opening, object_at, pending_too}
use Rattle.nt_calls.specs.Living.{is_opened, is_awaited, runs, is_kept, lives, LivesWhileKept, Ends}
use Rattle.nt_laws.specs.Laws.{IsKept}
use Rattle.nt_calls.specs.Refusals.{Cause, refusal, has_twice, is_unknown, is_no, is_foreign, is_at_limit, may_signal}
use Rattle.nt_calls.specs.Change.{change}
use Rattle.nt_calls.specs.Steps.{Made, asked_wait}
use Rattle.nt_calls.specs.Runs.{Turn, Calls, Ticks, IsTurn}
use Rattle.nt_machine.proofs.Accepting.{next_causes, free_caller, nothing_pends, object_at-replicate}
use Rattle.nt_machine.proofs.Judging.{undenied}
use Rattle.nt_laws.proofs.Lasting.{step_lasts, moments_last}
use Rattle.nt_laws.proofs.CallKinds.{call_causes_none, change_kind}
use Rattle.nt_laws.proofs.Numbers.{opened_more, opening_enough}
use Rattle.nt_machine.proofs.Remaining.{both, turned, same_handles, same_queues, same_threads, same_waits, same_count, some_handle, some_member, ends_living}
use Rattle.nt_machine.proofs.Lives.{one_of, not_gone, counted_opened}
use Rattle.nt_machine.proofs.Settling.{queue_there}
use Rattle.nt_laws.proofs.Standing.{is_living, Stands, lives_there, IsIdle, idle_lasts, stands_last, stands_pending, changed_idle}

-- ---- what a wait names lives

-- a handle that lacks no right names an object
handle_living : (s : State) (h : ℕ) → Stands s → lacks synchronize s.handles h ≡ false → is_living s.objects (object_named s.handles h) ≡ true
handle_living s h sound has = go (opened_at s.handles h) refl
  where
    go : (o : Option Opened) → opened_at s.handles h ≡ o → is_living s.objects (object_named s.handles h) ≡ true
    go (Some opened) is = ap (λ o. is_living s.objects (object_in o)) is ∙ sound.named h opened is
    go None is =
        let lacking : lacks synchronize s.handles h ≡ true = ap (λ o. not (has_flag (access_in o) synchronize)) is in
        absurd (false≢true (sym has ∙ lacking))

neither : (a b : Bool) → (a || b) ≡ false → (a ≡ false) × (b ≡ false)
neither true b e = absurd (false≢true (sym e))
neither false b e = (refl, e)

each_living : (s : State) (hs : List ℕ) → Stands s → list_any (lacks synchronize s.handles) hs ≡ false → (j : ℕ) → j < length (map (object_named s.handles) hs) → is_living s.objects (slice_index (map (object_named s.handles) hs) j) ≡ true
each_living s [] sound has j below = absurd (omega (arith, below))
each_living s (h ∷ hs) sound has zero below = handle_living s h sound (neither (lacks synchronize s.handles h) (list_any (lacks synchronize s.handles) hs) has).0
each_living s (h ∷ hs) sound has (suc j) below = each_living s hs sound (neither (lacks synchronize s.handles h) (list_any (lacks synchronize s.handles) hs) has).1 j (omega (arith, below))

wait_living : (s : State) (t : ℕ) (wait : WaitCall) → Stands s → refusal s t (is_denied s (Call.Wait wait)) (call_named s.handles (Call.Wait wait)) ≡ None → (now o : ℕ) → Names (asked_wait now (wait_named s.handles wait)) o → is_living s.objects o ≡ true
wait_living s t (WaitCall.Objects all mode hs) sound none now o named =
    let denied : Bool = list_any (lacks synchronize s.handles) hs in
    let objects : List ℕ = map (object_named s.handles) hs in
    let own = call_causes_none s t denied (Call.Wait (WaitCall.Objects all mode objects)) none in
    let last : List Cause = (has_twice objects, InvalidParameter) ∷ (list_any (is_at_limit s.objects t) objects, RecursionLimit) ∷ [] in
    let few = next_causes (length objects == 0 || nat_lt MAX_WAIT_OBJECTS (length objects)) InvalidParameter ((list_any (is_unknown s.objects) objects, InvalidHandle) ∷ (denied, AccessDenied) ∷ last) own in
    let known = next_causes (list_any (is_unknown s.objects) objects) InvalidHandle ((denied, AccessDenied) ∷ last) few.1 in
    let allowed = next_causes denied AccessDenied last known.1 in
    subst (λ k. is_living s.objects k ≡ true) named.2 (each_living s hs sound allowed.0 named.0 named.1)
wait_living s t (WaitCall.Sleep mode) sound none now o named = absurd (omega (arith, named.1))
wait_living s t (WaitCall.Swap h object mode) sound none now o named =
    let denied : Bool = signal_denied s.handles s.objects h || lacks synchronize s.handles object in
    let signals : ℕ = object_named s.handles h in
    let waits : ℕ = object_named s.handles object in
    let own = call_causes_none s t denied (Call.Wait (WaitCall.Swap signals waits mode)) none in
    let last : List Cause = (is_foreign s.objects t signals, NotOwner) ∷ (overflows (pos 1) (object_at s.objects signals), TooManyPosts) ∷ (is_at_limit s.objects t waits, RecursionLimit) ∷ [] in
    let first = next_causes (is_no may_signal s.objects signals) InvalidHandle ((is_unknown s.objects waits, InvalidHandle) ∷ (denied, AccessDenied) ∷ last) own in
    let known = next_causes (is_unknown s.objects waits) InvalidHandle ((denied, AccessDenied) ∷ last) first.1 in
    let allowed = next_causes denied AccessDenied last known.1 in
    one named.0 named.1 named.2 (handle_living s object sound (neither (signal_denied s.handles s.objects h) (lacks synchronize s.handles object) allowed.0).1)
  where
    one : (j : ℕ) → j < 1 → slice_index (object_named s.handles object ∷ []) j ≡ o → is_living s.objects (object_named s.handles object) ≡ true → is_living s.objects o ≡ true
    one zero below is lives = subst (λ k. is_living s.objects k ≡ true) is lives
    one (suc j) below is lives = absurd (omega (arith, below))

-- ---- an accepted call, before the end of objects

made_stands : (old : State) (who : ℕ) (call : Call) (reply : Reply) (grants : List Grant) (left : State) → Stands old → Made old who (is_denied old call) (call_named old.handles call) (Ok reply) grants left → Stands left
made_stands old who call reply grants left sound made =
    let named : Call = call_named old.handles call in
    let caller = free_caller old who named (undenied old who (is_denied old call) named made.0) in
    step_lasts (IsIdle who old) Stands (idle_lasts who old) (λ s here. here.stands) old who named reply grants left made.1
    (pend call made.0) (changed_idle old (change old who named) who call (change_kind old who call sound.enough made.0) sound caller.2)
  where
    waits_not : {P : Type 0} (act : _) (wait : WaitCall) → Call.Act act ≡ Call.Wait wait → P
    waits_not act wait e = (cc)

    exits_not : {P : Type 0} (wait : WaitCall) → Call.Exit ≡ Call.Wait wait → P
    exits_not wait e = (cc)

    same_wait : (a b : WaitCall) → Call.Wait a ≡ Call.Wait b → a ≡ b
    same_wait a b e = (cc)

    pend : (call : Call) → refusal old who (is_denied old call) (call_named old.handles call) ≡ None → (s : State) (wait : WaitCall) → call_named old.handles call ≡ Call.Wait wait → IsIdle who old s → Stands (pending_too s who (asked_wait s.now wait))
    pend (Call.Wait asked) none s wait same here =
        stands_pending s who (asked_wait s.now wait) here.stands here.idle
        (λ o named. here.lives o (wait_living old who asked sound none s.now o (subst (λ (w : WaitCall). Names (asked_wait s.now w) o) (sym (same_wait (wait_named old.handles asked) wait same)) named)))
    pend (Call.Act act) none s wait same here = waits_not _ wait same
    pend Call.Exit none s wait same here = exits_not wait same

-- ---- what is kept

-- the test, in the words of the law
pub kept_by : (s : State) (o : ℕ) → Stands s → is_kept s o ≡ true → IsKept s o
kept_by s o sound kept = elim (one_of (is_opened s o) (is_awaited s o) (runs s o) kept) [
  | inl opened ↦ inl (some_handle s.handles o opened)
  | inr (inl awaited) ↦
      let first = some_member (s.queues o) awaited in
      let wait = sound.pends first.0 o first.1 in
      inr (inl (first.0, wait.0, wait.1, wait.2))
  | inr (inr running) ↦ inr (inr running)
]

second_of : (a b c : Bool) → b ≡ true → (a || (b || c)) ≡ true
second_of true b c e = refl
second_of false b c e = ap (λ x. x || c) e

third_of : (a b c : Bool) → c ≡ true → (a || (b || c)) ≡ true
third_of true b c e = refl
third_of false true c e = refl
third_of false false c e = e

pub is_kept_by : (s : State) (o : ℕ) → Stands s → IsKept s o → is_kept s o ≡ true
is_kept_by s o sound (inl handle) =
    let opened : is_opened s o ≡ true = subst (λ k. nat_lt 0 (count_named s.handles k) ≡ true) handle.3 (counted_opened s.handles handle.0 handle.1 handle.2) in
    ap (λ b. b || (is_awaited s o || runs s o)) opened
is_kept_by s o sound (inr (inl wait)) = second_of (is_opened s o) (is_awaited s o) (runs s o) (queue_there (s.queues o) wait.0 (sound.listed wait.0 o wait.1 wait.2 wait.3))
is_kept_by s o sound (inr (inr running)) = third_of (is_opened s o) (is_awaited s o) (runs s o) running

pub kept_lives : (s : State) → Stands s → (o : ℕ) → is_kept s o ≡ true → lives s o ≡ true
kept_lives s sound o kept = by (kept_by s o sound kept)
  where
    by : IsKept s o → lives s o ≡ true
    by (inl handle) = subst (λ k. lives s k ≡ true) handle.3 (sound.named handle.0 handle.1 handle.2)
    by (inr (inl wait)) = sound.awaited wait.0 o wait.1 wait.2 wait.3
    by (inr (inr running)) =
        let two = both (nat_lt o s.threads) (not (has_ended (object_at s.objects o))) running in
        let below : o < s.threads = let test = two.0 in grind (arith, nat_tests, test) in
        let own = sound.own in
        lives_there s.objects o (object_at s.objects o) (omega (arith, below, own)) refl (not_gone (object_at s.objects o) (turned (has_ended (object_at s.objects o)) two.1))

-- ---- the end of objects

ends_stand : (old new : State) → Stands old → Ends old new → Stands new × LivesWhileKept new
ends_stand old new sound ends = (stands, living)
  where
    living : LivesWhileKept new
    living = ends_living old new (kept_lives old sound) ends

    handles : new.handles ≡ old.handles
    handles = ap (λ (s : State). s.handles) ends.leaves ∙ same_handles old ends.objects

    waits : new.waits ≡ old.waits
    waits = ap (λ (s : State). s.waits) ends.leaves ∙ same_waits old ends.objects

    queues : new.queues ≡ old.queues
    queues = ap (λ (s : State). s.queues) ends.leaves ∙ same_queues old ends.objects

    threads : new.threads ≡ old.threads
    threads = ap (λ (s : State). s.threads) ends.leaves ∙ same_threads old ends.objects

    count : length new.objects ≡ length old.objects
    count = ap (λ (s : State). length s.objects) ends.leaves ∙ same_count old ends.objects

    listed : (t o : ℕ) (w : Wait) → get new.waits t ≡ Some w → Names w o → Contains (new.queues o) t
    listed t o w is named = subst (λ (qs : ℕ → List ℕ). Contains (qs o) t) (sym queues) (sound.listed t o w (ap (λ (m : _). get m t) (sym waits) ∙ is) named)

    stands : Stands new
    stands =
        let enough = sound.enough in
        let own = sound.own in
        let many : length new.handles ≡ length old.handles = ap (λ hs. length hs) handles in
        record {
          enough = omega (arith, enough, many, count);
          own = omega (arith, own, threads, count);
          listed = listed;
          pends = λ t o member.
              let wait = sound.pends t o (subst (λ (qs : ℕ → List ℕ). Contains (qs o) t) queues member) in
              (wait.0, ap (λ (m : _). get m t) waits ∙ wait.1, wait.2);
          named = λ h opened is.
              living opened.object ∙ ap (λ b. b || (is_awaited new opened.object || runs new opened.object)) (counted_opened new.handles h opened is);
          awaited = λ t o w is named.
              living o ∙ second_of (is_opened new o) (is_awaited new o) (runs new o) (queue_there (new.queues o) t (listed t o w is named));
        }

-- ---- a turn

pub turn_stands : (old : State) (turn : Turn) (new : State) → Stands old → LivesWhileKept old → IsTurn old turn new → Stands new × LivesWhileKept new
turn_stands old (Calls who call (Ok reply) grants) new sound living is = ends_stand is.0 new (made_stands old who call reply grants is.0 sound is.1) is.2
turn_stands old (Calls who call (Err r) grants) new sound living is = subst (λ (s : State). Stands s × LivesWhileKept s) (sym is.2) (sound, living)
turn_stands old (Ticks by m (Ok reply) grants) new sound living is = ends_stand is.2.1 new (moments_last Stands stands_last is.2.0 old m grants is.2.1 is.2.2 sound) is.2.3
turn_stands old (Ticks by m (Err r) grants) new sound living is = subst (λ (s : State). Stands s × LivesWhileKept s) (sym is.3) (sound, living)

own_named : (n access h : ℕ) (opened : Opened) → opened_at (own_handles n access) h ≡ Some opened → opened.object < n
own_named zero access h opened is = let no : None ≡ Some opened = is in (cc)
own_named (suc n) access h opened is = elim (opened_more (own_handles n access) (record { object = n; access = access }) opened h is) [
  | inl before ↦ let below = own_named n access h opened before in omega (arith, below)
  | inr last ↦ subst (λ (x : Opened). x.object < suc n) last (omega arith)
]

pub opening_stands : (n : ℕ) → Stands (opening n)
opening_stands n =
    let count : length (opening n).objects ≡ n = length-replicate n (Thread false) in
    record {
      enough = opening_enough n;
      own = omega (arith, count);
      listed = λ t o w is named. nothing_pends t w is;
      pends = λ t o member. absurd (contains_none t member);
      named = λ h opened is.
          let below = own_named n (full_access (Thread false)) h opened is in
          lives_there (replicate n (Thread false)) opened.object (Thread false) (omega (arith, below, count)) (object_at-replicate n opened.object) refl;
      awaited = λ t o w is named. nothing_pends t w is;
    }

pub opening_living : (n : ℕ) → LivesWhileKept (opening n)
opening_living n o = go (lives (opening n) o) (is_kept (opening n) o) refl refl
  where
    count : length (opening n).objects ≡ n
    count = length-replicate n (Thread false)

    running : lives (opening n) o ≡ true → is_kept (opening n) o ≡ true
    running is =
        let test = (both (nat_lt o (length (opening n).objects)) (not (is_gone (object_at (opening n).objects o))) is).0 in
        let below : o < length (opening n).objects = grind (arith, nat_tests, test) in
        let known : nat_lt o n ≡ true = (let less : o < n = omega (arith, below, count) in grind (arith, nat_tests, less)) in
        third_of (is_opened (opening n) o) (is_awaited (opening n) o) (runs (opening n) o)
        (ap (λ b. b && not (has_ended (object_at (opening n).objects o))) known ∙ ap (λ x. not (has_ended x)) (object_at-replicate n o))

    go : (a b : Bool) → lives (opening n) o ≡ a → is_kept (opening n) o ≡ b → lives (opening n) o ≡ is_kept (opening n) o
    go true true p q = p ∙ sym q
    go true false p q = p ∙ sym (running p)
    go false true p q = kept_lives (opening n) (opening_stands n) o q ∙ sym q
    go false false p q = p ∙ sym q
