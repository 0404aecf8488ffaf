-- A handle that is closed, as a whole call: it ends the object that it named, or none.
use Rattle.std.proofs.Common.{◌≡◌, ◌≢◌, ◌<◌, ◌≤◌, ◌+◌, ℕ, zero, suc, Bool, true, false, cond, not, ◌&&◌, ◌||◌, List, [], ◌∷◌, length, refl, sym, ap, ◌∙◌, subst, Option, Some, None, inl, inr, Contains, arith}
use Rattle.std.specs.Prelude.{slice_set, nat_lt, nat_le, is_none, if◌then◌else◌, Ok}
use Rattle.std.proofs.lemmas.Bool.{cases_eq, false≢true}
use Rattle.std.proofs.lemmas.Bool.Decides.{nat_tests}
use Rattle.std.proofs.lemmas.List.{length-set, get_or-set_other}
use Rattle.nt_status.proofs.Lists.{contains_first, contains_later, contains_none, contains_cases}
use Rattle.nt_status.specs.declared.refusal.Refusal.TheVariants.{InvalidHandle, ThreadWaiting, ThreadEnded, UnknownThread}
use Rattle.nt_machine.proofs.Accepting.{next_causes}
use Rattle.nt_machine.proofs.Changing.{served_fewer}
use Rattle.nt_machine.proofs.Listing.{same_no}
use Rattle.nt_machine.proofs.Remaining.{both, turned, ends_living}
use Rattle.nt_objects.specs.declared.object.Object.{Object}
use Rattle.nt_objects.specs.declared.object.Object.TheVariants.{Thread, Gone}
use Rattle.nt_objects.specs.Object.{signaled, has_ended, is_gone}
use Rattle.nt_tables.specs.declared.handles.Opened.{Opened}
use Rattle.nt_tables.specs.Handles.{opened_at, names, count_named}
use Rattle.nt_calls.specs.declared.call.Call.{Call}
use Rattle.nt_calls.specs.declared.call.Act.{Act}
use Rattle.nt_calls.specs.declared.call.Reply.{Reply}
use Rattle.nt_calls.specs.declared.call.Grant.{Grant}
use Rattle.nt_calls.specs.Rising.{IsRising}
use Rattle.nt_calls.specs.State.{State, object_at, with_object, pends}
use Rattle.nt_calls.specs.Change.{handle_closed}
use Rattle.nt_calls.specs.Living.{is_opened, is_awaited, runs, is_kept, lives, is_forgotten, gone, all_gone, Ends, LivesWhileKept}
use Rattle.nt_calls.specs.Naming.{object_in, object_named}
use Rattle.nt_calls.specs.Refusals.{refusal, first_of_causes}
use Rattle.nt_calls.specs.Steps.{Called}
use Rattle.nt_apart.specs.Apart.{IsQuiet}
use Rattle.nt_apart.proofs.Unawaited.{none_changed, none_forgotten}
use Rattle.nt_apart.proofs.Timers.{IsQuietTo, IsQuietStep, quiet_step, make_quiet, calm_so, unready}
use Rattle.nt_apart.proofs.Parts.{Part, Changes, Withdraws, Closes, all_done, closes_closes}

-- ---- which object ends with a handle

named_not : (x : Option Opened) (o : ℕ) → object_in x ≢ o → names o x ≡ false
named_not None o differ = refl
named_not (Some opened) o differ = same_no opened.object o differ

-- the handles of another object
count_other : (hs : List (Option Opened)) (h o : ℕ) → object_named hs h ≢ o → count_named (slice_set hs h None) o ≡ count_named hs o
count_other [] h o differ = refl
count_other (x ∷ hs) zero o differ = ap (λ (b : Bool). (if b then 1 else 0) + count_named hs o) (sym (named_not x o differ))
count_other (x ∷ hs) (suc h) o differ = ap (λ (n : ℕ). (if names o x then 1 else 0) + n) (count_other hs h o differ)

count_less : (hs : List (Option Opened)) (h o : ℕ) → count_named (slice_set hs h None) o ≤ count_named hs o
count_less [] h o = omega arith
count_less (x ∷ hs) zero o =
    let here : count_named (None ∷ hs) o ≡ 0 + count_named hs o = refl in
    let was : count_named (x ∷ hs) o ≡ cond (names o x) 1 0 + count_named hs o = refl in
    omega (arith, here, was)
count_less (x ∷ hs) (suc h) o =
    let rest = count_less hs h o in
    let here : count_named (x ∷ slice_set hs h None) o ≡ cond (names o x) 1 0 + count_named (slice_set hs h None) o = refl in
    let was : count_named (x ∷ hs) o ≡ cond (names o x) 1 0 + count_named hs o = refl in
    omega (arith, rest, here, was)

-- the same is forgotten where it is the same, and so are what keep it
pub forgotten_alike : (x y : State) (o : ℕ) → length y.objects ≡ length x.objects → object_at y.objects o ≡ object_at x.objects o → count_named y.handles o ≡ count_named x.handles o → y.queues o ≡ x.queues o → y.threads ≡ x.threads → is_forgotten y o ≡ is_forgotten x o
forgotten_alike x y o long object count queue threads =
    ap (λ (n : ℕ). (nat_lt o n && not (is_gone (object_at y.objects o))) && not (is_kept y o)) long
    ∙ (ap (λ (z : Object). (nat_lt o (length x.objects) && not (is_gone z)) && not (is_opened y o || (is_awaited y o || (nat_lt o y.threads && not (has_ended z))))) object
    ∙ (ap (λ (n : ℕ). lives x o && not (nat_lt 0 n || (is_awaited y o || (nat_lt o y.threads && not (has_ended (object_at x.objects o)))))) count
    ∙ (ap (λ (q : List ℕ). lives x o && not (is_opened x o || (nat_lt 0 (length q) || (nat_lt o y.threads && not (has_ended (object_at x.objects o)))))) queue
    ∙ ap (λ (n : ℕ). lives x o && not (is_opened x o || (is_awaited x o || (nat_lt o n && not (has_ended (object_at x.objects o)))))) threads)))

-- only the object that the handle named may be forgotten
only_named : (s : State) (h : ℕ) → LivesWhileKept s → (o : ℕ) → is_forgotten (handle_closed s h) o ≡ true → o ≡ object_named s.handles h
only_named s h living o is = elim (cases_eq o (object_named s.handles h)) [
  | inl same ↦ same
  | inr differs ↦
      absurd
      (false≢true (sym (none_forgotten s living o) ∙ (sym (forgotten_alike s (handle_closed s h) o refl refl (count_other s.handles h o (λ e. differs (sym e))) refl refl) ∙ is)))
]

-- ---- the end of one object, or of none

pub record EndsOne (left new : State) (o : ℕ) : Type 0 where
  pub ends : Bool
  pub is : is_forgotten left o ≡ ends
  pub state : new ≡ cond ends (gone left o) left

not_so : (b : Bool) → (b ≡ true → ⊥) → b ≡ false
not_so true none = absurd (none refl)
not_so false none = refl

ends_one : (left new : State) (o : ℕ) → ((x : ℕ) → is_forgotten left x ≡ true → x ≡ o) → Ends left new → EndsOne left new o
ends_one left new o only ends = go ends.objects (λ x. (ends.forgotten.exactly x).0) (λ x. (ends.forgotten.exactly x).1) (rises ends.objects ends.forgotten.rising) ends.leaves
  where
    rises : (os : List ℕ) → IsRising os → (x y : ℕ) (more : List ℕ) → os ≡ x ∷ y ∷ more → x < y
    rises os rising x y more is = (subst IsRising is rising).0 y (contains_first y more y refl)

    go : (os : List ℕ) → ((x : ℕ) → Contains os x → is_forgotten left x ≡ true) → ((x : ℕ) → is_forgotten left x ≡ true → Contains os x) → ((x y : ℕ) (more : List ℕ) → os ≡ x ∷ y ∷ more → x < y) → new ≡ all_gone left os → EndsOne left new o
    go [] those all rise leaves = record { ends = false; is = not_so (is_forgotten left o) (λ e. contains_none o (all o e)); state = leaves }
    go (x ∷ []) those all rise leaves =
        let here = those x (contains_first x [] x refl) in
        let same = only x here in
        record { ends = true; is = subst (λ (i : ℕ). is_forgotten left i ≡ true) same here; state = leaves ∙ ap (λ (i : ℕ). gone left i) same }
    go (x ∷ y ∷ more) those all rise leaves =
        let first = only x (those x (contains_first x (y ∷ more) x refl)) in
        let second = only y (those y (contains_later x (y ∷ more) y (contains_first y more y refl))) in
        let less = rise x y more refl in
        absurd (omega (arith, first, second, less))

one_ends : (left : State) (o : ℕ) → ((x : ℕ) → is_forgotten left x ≡ true → x ≡ o) → (b : Bool) → is_forgotten left o ≡ b → Ends left (cond b (gone left o) left)
one_ends left o only true is = record {
  objects = o ∷ [];
  forgotten = record { rising = (λ y m. absurd (contains_none y m), tt); exactly = λ x. (there x, λ f. contains_first o [] x (sym (only x f))) };
  leaves = refl;
}
  where
    there : (x : ℕ) → Contains (o ∷ []) x → is_forgotten left x ≡ true
    there x m = elim (contains_cases o [] x m) [ inl e ↦ subst (λ (i : ℕ). is_forgotten left i ≡ true) e is | inr none ↦ absurd (contains_none x none) ]
one_ends left o only false is = record {
  objects = [];
  forgotten = record { rising = tt; exactly = λ x. (λ m. absurd (contains_none x m), λ f. absurd (false≢true (sym is ∙ (ap (λ (i : ℕ). is_forgotten left i) (sym (only x f)) ∙ f)))) };
  leaves = refl;
}

-- ---- a close as a whole

abbrev pub ending : Bool → ℕ → List Part
ending true o = Changes o (λ _. Gone) ∷ Withdraws o ∷ []
ending false o = []

abbrev pub closing : Bool → ℕ → ℕ → List Part
closing b h o = Closes h ∷ ending b o

pub closing_is : (s : State) (b : Bool) (h o : ℕ) → cond b (gone (handle_closed s h) o) (handle_closed s h) ≡ all_done (closing b h o) s
closing_is s true h o = refl
closing_is s false h o = refl

close_to : (s : State) (t h : ℕ) → IsQuiet s → IsQuietTo s (handle_closed s h) t (Act.Close h)
close_to s t h quiet = record { changes = refl; settles = λ x. refl; served = quiet.served; calm = quiet.calm }

pub record IsClosed (s new : State) (h : ℕ) (r : Reply) (gs : List Grant) : Type 0 where
  pub ends : Bool
  pub is : is_forgotten (handle_closed s h) (object_named s.handles h) ≡ ends
  pub state : new ≡ all_done (closing ends h (object_named s.handles h)) s
  pub living : LivesWhileKept new
  pub grants : gs ≡ []
  pub reply : r ≡ Reply.Done

or_true : (b : Bool) → (b || true) ≡ true
or_true true = refl
or_true false = refl

lives_still : (s : State) (h : ℕ) → LivesWhileKept s → (o : ℕ) → is_kept (handle_closed s h) o ≡ true → lives (handle_closed s h) o ≡ true
lives_still s h living o kept = living o ∙ more (is_opened (handle_closed s h) o) refl (is_awaited s o || runs s o) refl
  where
    more : (a : Bool) → is_opened (handle_closed s h) o ≡ a → (b : Bool) → (is_awaited s o || runs s o) ≡ b → is_kept s o ≡ true
    more true e b e' =
        let less = count_less s.handles h o in
        let some : 0 < count_named (slice_set s.handles h None) o = grind (arith, nat_tests, e) in
        let was : 0 < count_named s.handles o = omega (arith, less, some) in
        let opened : nat_lt 0 (count_named s.handles o) ≡ true = grind (arith, nat_tests, was) in
        ap (λ (c : Bool). c || (is_awaited s o || runs s o)) opened
    more false e true e' = ap (λ (c : Bool). is_opened s o || c) e' ∙ or_true (is_opened s o)
    more false e false e' = absurd (false≢true (sym (ap (λ (c : Bool). c || (is_awaited s o || runs s o)) e ∙ e') ∙ kept))

pub close_called : (s new : State) (t h : ℕ) (r : Reply) (gs : List Grant) → IsQuiet s → LivesWhileKept s → Called s t (Call.Act (Act.Close h)) (Ok r) gs new → IsClosed s new h r gs
close_called s new t h r gs quiet living called =
    let step = quiet_step s called.0 (handle_closed s h) t (Act.Close h) r gs (close_to s t h quiet) called.1.1 in
    let ends : Ends (handle_closed s h) new = subst (λ (x : State). Ends x new) step.state called.2 in
    let one = ends_one (handle_closed s h) new (object_named s.handles h) (only_named s h living) ends in
    record {
      ends = one.ends;
      is = one.is;
      state = one.state ∙ closing_is s one.ends h (object_named s.handles h);
      living = ends_living (handle_closed s h) new (lives_still s h living) ends;
      grants = step.grants;
      reply = step.reply;
    }

pub make_called : (s : State) (t h : ℕ) (b : Bool) (r : Reply) (gs : List Grant) → IsQuiet s → LivesWhileKept s → refusal s t false (Call.Act (Act.Close h)) ≡ None → is_forgotten (handle_closed s h) (object_named s.handles h) ≡ b → gs ≡ [] → r ≡ Reply.Done → Called s t (Call.Act (Act.Close h)) (Ok r) gs (all_done (closing b h (object_named s.handles h)) s)
make_called s t h b r gs quiet living free is none told =
    let made : IsQuietStep s (handle_closed s h) (handle_closed s h) t (Act.Close h) r gs = record { numbers = []; changed = none_changed s.objects; grants = none; state = refl; reply = told } in (
      handle_closed s h,
      (free, make_quiet s (handle_closed s h) (handle_closed s h) t (Act.Close h) r gs (close_to s t h quiet) made),
      subst (λ (x : State). Ends (handle_closed s h) x) (closing_is s b h (object_named s.handles h)) (one_ends (handle_closed s h) (object_named s.handles h) (only_named s h living) b is),
    )

-- ---- what a close leaves

unsignaled_gone : (o : Object) (u : ℕ) → signaled o u ≡ false → signaled Gone u ≡ false
unsignaled_gone o u e = refl

pub quiet_closed : (s : State) (b : Bool) (h o : ℕ) → IsQuiet s → IsQuiet (all_done (closing b h o) s)
quiet_closed s true h o quiet = record {
  served = served_fewer s (with_object s.objects o (λ _. Gone)) quiet.served (λ u k e. unready (λ _. Gone) unsignaled_gone s.objects o u k e);
  calm = calm_so s o (λ _. Gone) quiet.calm;
}
quiet_closed s false h o quiet = record { served = quiet.served; calm = quiet.calm }

pub handles_closed : (s : State) (b : Bool) (h o : ℕ) → (all_done (closing b h o) s).handles ≡ slice_set s.handles h None
handles_closed s true h o = refl
handles_closed s false h o = refl

pub object_closed : (s : State) (b : Bool) (h o p : ℕ) → p ≢ o → object_at (all_done (closing b h o) s).objects p ≡ object_at s.objects p
object_closed s true h o p differ = get_or-set_other s.objects o p Gone (Thread false) differ
object_closed s false h o p differ = refl

pub long_closed : (s : State) (b : Bool) (h o : ℕ) → length (all_done (closing b h o) s).objects ≡ length s.objects
long_closed s true h o = length-set s.objects o Gone
long_closed s false h o = refl

-- the other handle's object is forgotten as it would be
pub forgotten_after : (s : State) (b : Bool) (h k : ℕ) → h ≢ k → object_named s.handles h ≢ object_named s.handles k →
    is_forgotten (handle_closed (all_done (closing b h (object_named s.handles h)) s) k) (object_named s.handles k) ≡ is_forgotten (handle_closed s k) (object_named s.handles k)
forgotten_after s b h k handles differ =
    let o = object_named s.handles h in
    let p = object_named s.handles k in
    let x : State = all_done (closing b h o) s in
    let same : object_named (slice_set s.handles k None) h ≡ o = ap object_in (get_or-set_other s.handles k h None None handles) in
    let counts : count_named (slice_set x.handles k None) p ≡ count_named (slice_set s.handles k None) p =
    ap (λ (hs : List (Option Opened)). count_named (slice_set hs k None) p) (handles_closed s b h o)
    ∙ (ap (λ (hs : List (Option Opened)). count_named hs p) (closes_closes s.handles h k)
    ∙ count_other (slice_set s.handles k None) h p (λ e. differ (sym same ∙ e))) in
    forgotten_alike (handle_closed s k) (handle_closed x k) p (long_closed s b h o) (object_closed s b h o p (λ e. differ (sym e))) counts (queues b) (threads b)
  where
    queues : (c : Bool) → (all_done (closing c h (object_named s.handles h)) s).queues (object_named s.handles k) ≡ s.queues (object_named s.handles k)
    queues true = refl
    queues false = refl

    threads : (c : Bool) → (all_done (closing c h (object_named s.handles h)) s).threads ≡ s.threads
    threads true = refl
    threads false = refl

-- ---- what refuses it

ended_gone : (os : List Object) (o u : ℕ) → has_ended (object_at (slice_set os o Gone) u) ≡ false → has_ended (object_at os u) ≡ false
ended_gone [] o u e = e
ended_gone (x ∷ os) zero zero e = absurd (false≢true (sym e))
ended_gone (x ∷ os) zero (suc u) e = e
ended_gone (x ∷ os) (suc o) zero e = e
ended_gone (x ∷ os) (suc o) (suc u) e = ended_gone os o u e

pub record IsFree (s : State) (t h : ℕ) : Type 0 where
  pub known : nat_le s.threads t ≡ false
  pub runs : has_ended (object_at s.objects t) ≡ false
  pub idle : pends s t ≡ false
  pub opened : is_none (opened_at s.handles h) ≡ false

pub is_free : (s : State) (t h : ℕ) → refusal s t false (Call.Act (Act.Close h)) ≡ None → IsFree s t h
is_free s t h free =
    let a = next_causes (nat_le s.threads t) UnknownThread ((has_ended (object_at s.objects t), ThreadEnded) ∷ (pends s t, ThreadWaiting) ∷ (is_none (opened_at s.handles h), InvalidHandle) ∷ []) free in
    let b = next_causes (has_ended (object_at s.objects t)) ThreadEnded ((pends s t, ThreadWaiting) ∷ (is_none (opened_at s.handles h), InvalidHandle) ∷ []) a.1 in
    let c = next_causes (pends s t) ThreadWaiting ((is_none (opened_at s.handles h), InvalidHandle) ∷ []) b.1 in
    let d = next_causes (is_none (opened_at s.handles h)) InvalidHandle [] c.1 in
    record { known = a.0; runs = b.0; idle = c.0; opened = d.0 }

pub unrefused : (s : State) (t h : ℕ) → IsFree s t h → refusal s t false (Call.Act (Act.Close h)) ≡ None
unrefused s t h free =
    ap (λ (b : Bool). first_of_causes ((b, UnknownThread) ∷ (has_ended (object_at s.objects t), ThreadEnded) ∷ (pends s t, ThreadWaiting) ∷ (is_none (opened_at s.handles h), InvalidHandle) ∷ [])) free.known
    ∙ (ap (λ (b : Bool). first_of_causes ((b, ThreadEnded) ∷ (pends s t, ThreadWaiting) ∷ (is_none (opened_at s.handles h), InvalidHandle) ∷ [])) free.runs
    ∙ (ap (λ (b : Bool). first_of_causes ((b, ThreadWaiting) ∷ (is_none (opened_at s.handles h), InvalidHandle) ∷ [])) free.idle
    ∙ ap (λ (b : Bool). first_of_causes ((b, InvalidHandle) ∷ [])) free.opened))

-- before the other close
pub free_before : (s : State) (b : Bool) (h o u k : ℕ) → h ≢ k → IsFree (all_done (closing b h o) s) u k → IsFree s u k
free_before s true h o u k handles free = record { known = free.known; runs = ended_gone s.objects o u free.runs; idle = free.idle; opened = ap is_none (sym (get_or-set_other s.handles h k None None (λ e. handles (sym e)))) ∙ free.opened }
free_before s false h o u k handles free = record { known = free.known; runs = free.runs; idle = free.idle; opened = ap is_none (sym (get_or-set_other s.handles h k None None (λ e. handles (sym e)))) ∙ free.opened }

-- a thread that runs is not forgotten
runs_on : (s : State) (t h : ℕ) → IsFree s t h → (x o : ℕ) → is_forgotten (handle_closed s x) o ≡ true → t ≢ o
runs_on s t h free x o is same =
    let below : nat_lt t s.threads ≡ true = (let known : nat_le s.threads t ≡ false = free.known in grind (arith, nat_tests, known)) in
    let running : runs s t ≡ true = ap (λ (b : Bool). b && not (has_ended (object_at s.objects t))) below ∙ ap not free.runs in
    let there : runs s o ≡ true = subst (λ (i : ℕ). runs s i ≡ true) same running in
    let unkept : is_kept (handle_closed s x) o ≡ false = turned (is_kept (handle_closed s x) o) (both (lives (handle_closed s x) o) (not (is_kept (handle_closed s x) o)) is).1 in
    false≢true (sym unkept ∙ (ap (λ (c : Bool). is_opened (handle_closed s x) o || (is_awaited s o || c)) there ∙ keeps (is_opened (handle_closed s x) o) (is_awaited s o)))
  where
    keeps : (a b : Bool) → (a || (b || true)) ≡ true
    keeps true b = refl
    keeps false true = refl
    keeps false false = refl

-- after the other close
pub free_after : (s : State) (b : Bool) (k t h : ℕ) → h ≢ k → is_forgotten (handle_closed s k) (object_named s.handles k) ≡ b → IsFree s t h → IsFree (all_done (closing b k (object_named s.handles k)) s) t h
free_after s true k t h handles is free = record {
  known = free.known;
  runs = ap has_ended (object_closed s true k (object_named s.handles k) t (runs_on s t h free k (object_named s.handles k) is)) ∙ free.runs;
  idle = free.idle;
  opened = ap is_none (get_or-set_other s.handles k h None None handles) ∙ free.opened;
}
free_after s false k t h handles is free = record { known = free.known; runs = free.runs; idle = free.idle; opened = ap is_none (get_or-set_other s.handles k h None None handles) ∙ free.opened }
