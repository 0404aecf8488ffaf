-- Over every life an object lives exactly while something keeps it.
use Rattle.std.proofs.Common.{◌≡◌, ◌<◌, ℕ, Bool, true, false, cond, not, ◌&&◌, ◌||◌, List, [], ◌∷◌, length, sym, ap, ◌∙◌, subst, refl, arith, Option, Some, None, inr}
use Rattle.std.specs.Prelude.{◌↔◌, nat_lt, nat_le, is_none}
use Rattle.std.specs.declared.result.Result.TheVariants.{Ok, Err}
use Rattle.std.proofs.lemmas.Bool.{false≢true}
use Rattle.std.proofs.lemmas.Bool.Decides.{nat_tests}
use Rattle.nt_status.specs.Access.{access_bits}
use Rattle.nt_status.specs.Flags.{has_flag, only_known, event_bits, mutex_bits, timer_bits, mutex_initial_owner}
use Rattle.nt_status.specs.declared.refusal.Refusal.TheVariants.{AccessDenied, InvalidHandle, InvalidParameter}
use Rattle.nt_objects.specs.declared.object.Object.{Object}
use Rattle.nt_objects.specs.declared.object.Object.TheVariants.{Semaphore, Mutex, Thread}
use Rattle.nt_tables.specs.declared.handles.Opened.{Opened}
use Rattle.nt_tables.specs.Handles.{opened_at}
use Rattle.nt_objects.specs.Object.{is_gone, event_of, mutex_of, timer_of, may_count}
use Rattle.nt_apc.specs.Queues.{has_apc, is_queued}
use Rattle.nt_calls.specs.declared.call.Act.{Act}
use Rattle.nt_calls.specs.declared.call.Call.{Call}
use Rattle.nt_calls.specs.Naming.{object_named, object_in, lacks}
use Rattle.nt_calls.specs.Refusals.{first_of_causes, refusal}
use Rattle.nt_calls.specs.State.{State, opening, object_at}
use Rattle.nt_calls.specs.Living.{lives, LivesWhileKept}
use Rattle.nt_core.specs.Renewals.{creation, created_by, created_again, opened_again, begun_again, creation_refusal, duplicate_refusal, thread_refusal, is_closed, is_vacant, is_left}
use Rattle.nt_machine.proofs.Accepting.{next_causes}
use Rattle.nt_machine.proofs.Remaining.{both}
use Rattle.nt_core.proofs.SettingAside.{may_move}
use Rattle.nt_laws.specs.Laws.{IsKept}
use Rattle.nt_laws.specs.Lives.{Stage, Takes, Creates, Shares, Begins, Adds, Renumbers, IsStage, Stages, Life}
use Rattle.nt_laws.proofs.Keepers.{kept_by, is_kept_by, turn_stands, opening_stands, opening_living}
use Rattle.nt_laws.proofs.Staging.{no_first, has_some, unturned}
use Rattle.nt_laws.proofs.Standing.{is_living, Stands}
use Rattle.nt_laws.proofs.GivenAgain.{kept_as, opened_stands, created_stands, added_stands, moved_stands}

-- ---- what is asked before

pub none_made : {P : Type 0} (x : Object) → None ≡ Some x → P
none_made x h = (cc)

-- what a creation makes, and that its arguments are lawful
pub made_of : (b : Bool) (o x : Object) → cond b (Some o) None ≡ Some x → (b ≡ true) × (o ≡ x)
made_of true o x is = (refl, ap created_by is)
made_of false o x is = none_made x is

mutex_lives : (flags t : ℕ) → is_gone (mutex_of flags t) ≡ false
mutex_lives flags t = go (has_flag flags mutex_initial_owner)
  where
    go : (b : Bool) → is_gone (cond b (Mutex (Some t) 1 false) (Mutex None 0 false)) ≡ false
    go true = refl
    go false = refl

-- what is created lives
creation_lives : (t : ℕ) (act : Act) (x : Object) → creation t act ≡ Some x → is_gone x ≡ false
creation_lives t (Act.CreateEvent flags) x made = sym (ap is_gone (made_of (only_known event_bits flags) (event_of flags) x made).1)
creation_lives t (Act.CreateSemaphore initial maximum) x made = sym (ap is_gone (made_of (may_count initial maximum) (Semaphore initial maximum) x made).1)
creation_lives t (Act.CreateMutex flags) x made = sym (ap is_gone (made_of (only_known mutex_bits flags) (mutex_of flags t) x made).1) ∙ mutex_lives flags t
creation_lives t (Act.CreateTimer flags) x made = sym (ap is_gone (made_of (only_known timer_bits flags) (timer_of flags) x made).1)
creation_lives t act x made = none_made x made

is_none_of : (o : Option Opened) → is_none o ≡ true → o ≡ None
is_none_of None is = refl
is_none_of (Some opened) is = absurd (false≢true is)

closed_parts : (s : State) (h : ℕ) → is_closed s h ≡ true → (h < length s.handles) × (opened_at s.handles h ≡ None)
closed_parts s h is =
    let two = both (nat_lt h (length s.handles)) (is_none (opened_at s.handles h)) is in
    (let test = two.0 in grind (arith, nat_tests, test), is_none_of (opened_at s.handles h) two.1)

-- what an accepted creation finds: numbers that can be given, and what it creates
pub record MayCreate (old : State) (who : ℕ) (act : Act) (o h : ℕ) : Type 0 where
  pub known : o < length old.objects
  pub gone : is_gone (object_at old.objects o) ≡ true
  pub below : h < length old.handles
  pub closed : opened_at old.handles h ≡ None
  pub made : (x : Object) × (creation who act ≡ Some x)

some_made : (o : Option Object) → is_none o ≡ false → (x : Object) × (o ≡ Some x)
some_made None e = absurd (false≢true (sym e))
some_made (Some x) e = (x, refl)

pub may_create : (old : State) (who : ℕ) (act : Act) (o h : ℕ) → creation_refusal old who act o h ≡ None → MayCreate old who act o h
may_create old who act o h none =
    let own = no_first (refusal old who false Call.Exit) (first_of_causes ((is_none (creation who act), InvalidParameter) ∷ (not (is_vacant old o && is_closed old h), InvalidHandle) ∷ [])) none in
    let one = next_causes (is_none (creation who act)) InvalidParameter ((not (is_vacant old o && is_closed old h), InvalidHandle) ∷ []) own in
    let two = next_causes (not (is_vacant old o && is_closed old h)) InvalidHandle [] one.1 in
    let free = both (is_vacant old o) (is_closed old h) (unturned (is_vacant old o && is_closed old h) two.0) in
    let quiet : Bool = not (is_queued old.apcs o) in
    let beyond = both (nat_le old.threads o) (nat_lt o (length old.objects) && (is_gone (object_at old.objects o) && quiet)) free.0 in
    let there = both (nat_lt o (length old.objects)) (is_gone (object_at old.objects o) && quiet) beyond.1 in
    let handle = closed_parts old h free.1 in
    record {
      known = let test = there.0 in grind (arith, nat_tests, test);
      gone = (both (is_gone (object_at old.objects o)) quiet there.1).0;
      below = handle.0;
      closed = handle.1;
      made = some_made (creation who act) one.0;
    }

-- what an accepted beginning finds
pub record MayBegin (old : State) (t h : ℕ) : Type 0 where
  pub known : t < old.threads
  pub gone : is_gone (object_at old.objects t) ≡ true
  pub below : h < length old.handles
  pub closed : opened_at old.handles h ≡ None

pub may_begin : (old : State) (t h : ℕ) → thread_refusal old t h ≡ None → MayBegin old t h
may_begin old t h none =
    let one = next_causes (not (is_left old t && is_closed old h)) InvalidHandle [] none in
    let free = both (is_left old t) (is_closed old h) (unturned (is_left old t && is_closed old h) one.0) in
    let known = both (nat_lt t old.threads) (is_gone (object_at old.objects t) && not (has_apc old.apcs t)) free.0 in
    let handle = closed_parts old h free.1 in
    record {
      known = let test = known.0 in grind (arith, nat_tests, test);
      gone = (both (is_gone (object_at old.objects t)) (not (has_apc old.apcs t)) known.1).0;
      below = handle.0;
      closed = handle.1;
    }

-- what an accepted duplicate finds: a handle that is open, and a number that can be given
record MayShare (old : State) (source h : ℕ) : Type 0 where
  opened : Opened
  is : opened_at old.handles source ≡ Some opened
  below : h < length old.handles
  closed : opened_at old.handles h ≡ None

may_share : (old : State) (who source access h : ℕ) → duplicate_refusal old who source access h ≡ None → MayShare old source h
may_share old who source access h none =
    let unallowed : Bool = lacks access old.handles source || not (only_known access_bits access) in
    let own = no_first (refusal old who false Call.Exit) (first_of_causes ((is_none (opened_at old.handles source), InvalidHandle) ∷ (unallowed, AccessDenied) ∷ (not (is_closed old h), InvalidHandle) ∷ [])) none in
    let one = next_causes (is_none (opened_at old.handles source)) InvalidHandle ((unallowed, AccessDenied) ∷ (not (is_closed old h), InvalidHandle) ∷ []) own in
    let two = next_causes unallowed AccessDenied ((not (is_closed old h), InvalidHandle) ∷ []) one.1 in
    let three = next_causes (not (is_closed old h)) InvalidHandle [] two.1 in
    let there = has_some (opened_at old.handles source) one.0 in
    let handle = closed_parts old h (unturned (is_closed old h) three.0) in
    record { opened = there.0; is = there.1; below = handle.0; closed = handle.1 }

-- ---- a stage

-- handles and waits name objects that live, and what lives is kept
pub record IsWhole (s : State) : Type 0 where
  pub stands : Stands s
  pub living : LivesWhileKept s

whole : (s : State) → Stands s × LivesWhileKept s → IsWhole s
whole s both = record { stands = both.0; living = both.1 }

created_whole : (old : State) (who : ℕ) (act : Act) (o h : ℕ) → IsWhole old → MayCreate old who act o h → IsWhole (created_again old o h (created_by (creation who act)))
created_whole old who act o h is may =
    let lives : is_gone (created_by (creation who act)) ≡ false = ap (λ x. is_gone (created_by x)) may.made.1 ∙ creation_lives who act may.made.0 may.made.1 in
    whole _ (created_stands old o h (created_by (creation who act)) is.stands is.living may.known may.gone may.below may.closed lives)

shared_whole : (old : State) (source access h : ℕ) → IsWhole old → MayShare old source h → IsWhole (opened_again old h (object_named old.handles source) access)
shared_whole old source access h is may =
    let there : is_living old.objects (object_named old.handles source) ≡ true = ap (λ x. is_living old.objects (object_in x)) may.is ∙ is.stands.named source may.opened may.is in
    whole _ (opened_stands old h (object_named old.handles source) access is.stands may.below may.closed there (λ k lives. inr (kept_as old is.stands is.living k lives)))

begun_whole : (old : State) (t h : ℕ) → IsWhole old → MayBegin old t h → IsWhole (begun_again old t h)
begun_whole old t h is may =
    let known = may.known in
    let own = is.stands.own in
    let below : t < length old.objects = omega (arith, known, own) in
    let made = created_stands old t h (Thread false) is.stands is.living below may.gone may.below may.closed refl in
    record { stands = made.0; living = made.1 }

pub stage_whole : (old : State) (stage : Stage) (new : State) → IsWhole old → IsStage old stage new → IsWhole new
stage_whole old (Takes turn) new here is = whole new (turn_stands old turn new here.stands here.living is)
stage_whole old (Creates who act object handle (Ok reply) grants) new here is = subst IsWhole (sym is.3) (created_whole old who act object handle here (may_create old who act object handle is.0))
stage_whole old (Creates who act object handle (Err cause) grants) new here is = subst IsWhole (sym is.2) here
stage_whole old (Shares who source access handle (Ok reply) grants) new here is = subst IsWhole (sym is.3) (shared_whole old source access handle here (may_share old who source access handle is.0))
stage_whole old (Shares who source access handle (Err cause) grants) new here is = subst IsWhole (sym is.2) here
stage_whole old (Begins thread handle (Ok reply) grants) new here is = subst IsWhole (sym is.3) (begun_whole old thread handle here (may_begin old thread handle is.0))
stage_whole old (Begins thread handle (Err cause) grants) new here is = subst IsWhole (sym is.2) here
stage_whole old (Adds (Ok number) grants) new here is =
    let test = is.0 in
    let room : length old.objects < length old.handles = grind (arith, nat_tests, test) in
    subst IsWhole (sym is.3) (whole _ (added_stands old here.stands here.living room))
stage_whole old (Adds (Err cause) grants) new here is = subst IsWhole (sym is.2) here
stage_whole old (Renumbers thread object true grants) new here is = subst IsWhole (sym is.2) (whole _ (moved_stands old thread object here.stands here.living (may_move old thread object (sym is.0))))
stage_whole old (Renumbers thread object false grants) new here is = subst IsWhole (sym is.2) here

-- ---- a life

pub stages_whole : (stages : List Stage) (old new : State) → IsWhole old → Stages old stages new → IsWhole new
stages_whole [] old new here life = subst IsWhole (sym life) here
stages_whole (stage ∷ stages) old new here life = stages_whole stages life.0 new (stage_whole old stage life.0 here life.1) life.2

pub opening_whole : (n : ℕ) → IsWhole (opening n)
opening_whole n = record { stands = opening_stands n; living = opening_living n }

pub life_living : (n : ℕ) (stages : List Stage) (s : State) → Life n stages s → (o : ℕ) → (lives s o ≡ true) ↔ IsKept s o
life_living n stages s life o =
    let last = stages_whole stages (opening n) s (opening_whole n) life in
    (λ is. kept_by s o last.stands (sym (last.living o) ∙ is), λ kept. last.living o ∙ is_kept_by s o last.stands kept)
