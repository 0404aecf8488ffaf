-- A timer that is set for a moment that is not ahead is made of its change, its APC, and the pieces of the waits that it ends.
use Rattle.std.proofs.Common.{◌≡◌, ◌≢◌, inl, inr, ℕ, ℤ, zero, suc, Bool, true, false, not, ◌||◌, List, [], ◌∷◌, ◌++◌, refl, sym, ap, ◌∙◌, subst, Option, Some, None, is_some}
use Rattle.std.specs.Prelude.{unsigned_abs, nat_le, ◌==◌, if◌then◌else◌}
use Rattle.std.specs.FinMap.{get}
use Rattle.std.proofs.lemmas.Bool.{cases_eq}
use Rattle.std.proofs.lemmas.List.{length-set}
use Rattle.nt_machine.proofs.Accepting.{Grants-calm}
use Rattle.nt_machine.proofs.Changing.{served_fewer}
use Rattle.nt_objects.specs.declared.object.Object.{Object}
use Rattle.nt_objects.specs.declared.object.Object.TheVariants.{Event, Semaphore, Mutex, Timer, Thread, Gone}
use Rattle.nt_objects.specs.declared.object.Armed.{Armed}
use Rattle.nt_objects.specs.Object.{with_set, armed_with, set_by, setting_of, rearmed, next_above, units}
use Rattle.nt_apc.specs.declared.apc.Queued.{Queued}
use Rattle.nt_apc.specs.Queues.{has_apc, is_from, has_from, without_from, withdrawn, is_queued, pushed}
use Rattle.nt_calls.specs.declared.call.Call.{Call}
use Rattle.nt_calls.specs.declared.call.Act.{Act}
use Rattle.nt_calls.specs.declared.call.Reply.{Reply}
use Rattle.nt_calls.specs.declared.call.Grant.{Grant}
use Rattle.nt_calls.specs.Rising.{AreRising}
use Rattle.nt_calls.specs.State.{State, object_at, with_object, pends}
use Rattle.nt_calls.specs.Serving.{IsServed, Serve, IsAlerted, IsChanged, sequence}
use Rattle.nt_calls.specs.Change.{change, due_moment, routine_for, armed_anew, expired, expired_as, notified}
use Rattle.nt_calls.specs.Steps.{Step}
use Rattle.nt_apart.specs.Apart.{IsQuiet}
use Rattle.nt_apart.specs.Footprint.{belongs, fires_one, TouchesThread}
use Rattle.nt_apart.proofs.Quiet.{alert_none, none_to_alert}
use Rattle.nt_apart.proofs.Pieces.{Piece, all_made, alerted_before}
use Rattle.nt_apart.proofs.Reach.{AreOf, IsBeside, change_agree, is_named, only_one, pieces_of, source_is, granted_beside, due_beside}
use Rattle.nt_apart.proofs.Apcs.{has_other}
use Rattle.nt_apart.proofs.Timers.{IsQuietTo, IsQuietStep, quiet_step, make_quiet, timed, set_so, unready, calm_so, had_apc, both_true, numbers_for}
use Rattle.nt_apart.proofs.Parts.{Part, Changes, Posts, Withdraws, AllKeep, AllStrange, all_done, SomeOnObject, SomeOnThread, SomeMoves, in_parts, in_parts_is, pieces_keep}
use Rattle.nt_apart.proofs.Alike.{not_idle, set_strange, armed_strange, unarmed_strange, routine_strange, ends_fair, pieces_strange}
use Rattle.nt_apart.proofs.PartsOfCalls.{AlikeFor, IsFrom, IsMade, are_known, on_reached, on_waiting, left_idle}
use Rattle.nt_apart.proofs.Swaps.{done_append, objects_append, threads_append, moves_append, keep_append, strange_append}

-- ---- what such an act changes

-- the timer is armed anew, and not set
abbrev anew : Armed → Object → Object
anew armed o = armed_with (Some armed) (with_set false o)

-- and then it expires
abbrev lit : ℕ → Armed → Object → Object
lit now armed o = armed_with (rearmed now armed) (with_set true (anew armed o))

abbrev arming : ℕ → ℕ → ℤ → ℤ → Option (ℕ × ℕ) → Armed
arming now t due period routine = record { due = due_moment now due; period = unsigned_abs period; routine = routine_for t routine }

-- the APC that its expiry queues
abbrev timed_apc : ℕ → ℕ → ℕ × ℕ → Queued
timed_apc h due r = record { apc = record { routine = r.0; arg = r.1; at = Some due }; timer = Some h }

abbrev posted : ℕ → ℕ → ℕ → Option (ℕ × ℕ) → List (List Queued) → List (List Queued)
posted t h due None qs = qs
posted t h due (Some r) qs = pushed qs t (timed_apc h due r)

abbrev posts : ℕ → ℕ → ℕ → Option (ℕ × ℕ) → List Part
posts t h due None = []
posts t h due (Some r) = Posts t (timed_apc h due r) ∷ []

abbrev first : ℕ → ℕ → ℕ → Armed → Option (ℕ × ℕ) → State → State
first now t h armed routine z = record z { objects = with_object z.objects h (lit now armed); apcs = posted t h armed.due routine (withdrawn z.apcs h) }

abbrev lights : ℕ → ℕ → ℕ → Armed → Option (ℕ × ℕ) → List Part
lights now t h armed routine = Changes h (lit now armed) ∷ Withdraws h ∷ posts t h armed.due routine

first_is : (now t h : ℕ) (armed : Armed) (routine : Option (ℕ × ℕ)) (z : State) → first now t h armed routine z ≡ all_done (lights now t h armed routine) z
first_is now t h armed None z = refl
first_is now t h armed (Some r) z = refl

with_twice : (os : List Object) (h : ℕ) (f g : Object → Object) → with_object (with_object os h f) h g ≡ with_object os h (λ o. g (f o))
with_twice [] h f g = refl
with_twice (o ∷ os) zero f g = refl
with_twice (o ∷ os) (suc h) f g = ap (λ (xs : List Object). o ∷ xs) (with_twice os h f g)

set_here : (os : List Object) (h : ℕ) (f : Object → Object) → f (Thread false) ≡ Thread false → object_at (with_object os h f) h ≡ f (object_at os h)
set_here [] h f same = sym same
set_here (o ∷ os) zero f same = refl
set_here (o ∷ os) (suc h) f same = set_here os h f same

none_left : (h : ℕ) (l : List Queued) → has_from h (without_from h l) ≡ false
none_left h [] = refl
none_left h (q ∷ l) = go (is_from h q.timer) refl (none_left h l)
  where
    go : (b : Bool) → is_from h q.timer ≡ b → has_from h (without_from h l) ≡ false → has_from h (if not b then q ∷ without_from h l else without_from h l) ≡ false
    go true is rest = rest
    go false is rest = ap (λ (b : Bool). b || has_from h (without_from h l)) is ∙ rest

none_queued : (qs : List (List Queued)) (h : ℕ) → is_queued (withdrawn qs h) h ≡ false
none_queued [] h = refl
none_queued (l ∷ qs) h = ap (λ (b : Bool). b || is_queued (withdrawn qs h) h) (none_left h l) ∙ none_queued qs h

notified_is : (t h due : ℕ) (routine : Option (ℕ × ℕ)) (qs : List (List Queued)) → notified (withdrawn qs h) h due (routine_for t routine) ≡ posted t h due routine (withdrawn qs h)
notified_is t h due None qs = refl
notified_is t h due (Some r) qs = ap (λ (b : Bool). if b then withdrawn qs h else pushed (withdrawn qs h) t (timed_apc h due r)) (none_queued qs h)

-- it is armed, and expires at once
fired_is : (z : State) (now t h : ℕ) (due period : ℤ) (routine : Option (ℕ × ℕ)) → z.now ≡ now → nat_le (due_moment now due) now ≡ true →
    change z t (Call.Act (Act.SetTimer h due period routine))
    ≡ expired_as (armed_anew z h (arming now t due period routine)) now h (setting_of (anew (arming now t due period routine) (object_at z.objects h)))
fired_is z now t h due period routine same kind =
    let armed : Armed = arming now t due period routine in
    let z1 : State = armed_anew z h armed in
    ap (λ (i : ℕ). if nat_le (due_moment i due) i then expired i (armed_anew z h (arming i t due period routine)) h else armed_anew z h (arming i t due period routine)) same
    ∙ (ap {B = State} (λ (b : Bool). if b then expired now z1 h else z1) kind
    ∙ ap (λ (o : Object). expired_as z1 now h (setting_of o)) (set_here z.objects h (anew armed) refl))

lit_is : (z : State) (now t h : ℕ) (due period : ℤ) (routine : Option (ℕ × ℕ)) → z.now ≡ now → nat_le (due_moment now due) now ≡ true → setting_of (anew (arming now t due period routine) (object_at z.objects h)) ≡ Some (arming now t due period routine) →
    change z t (Call.Act (Act.SetTimer h due period routine)) ≡ first now t h (arming now t due period routine) routine z
lit_is z now t h due period routine same kind is =
    let armed : Armed = arming now t due period routine in
    let z1 : State = armed_anew z h armed in
    fired_is z now t h due period routine same kind
    ∙ (ap (λ (o : Option Armed). expired_as z1 now h o) is
    ∙ (ap (λ (os : List Object). record z { objects = os; apcs = notified (withdrawn z.apcs h) h armed.due armed.routine }) (with_twice z.objects h (anew armed) (λ o. armed_with (rearmed now armed) (with_set true o)))
    ∙ ap (λ (qs : List (List Queued)). record z { objects = with_object z.objects h (lit now armed); apcs = qs }) (notified_is t h armed.due routine z.apcs)))

-- ---- nobody is to be alerted then

posted_other : (t h due : ℕ) (routine : Option (ℕ × ℕ)) (qs : List (List Queued)) (u : ℕ) → u ≢ t → has_apc (posted t h due routine qs) u ≡ true → has_apc qs u ≡ true
posted_other t h due None qs u differs e = e
posted_other t h due (Some r) qs u differs e = sym (has_other qs t u (timed_apc h due r) differs) ∙ e

calm_first : (now t h : ℕ) (armed : Armed) (routine : Option (ℕ × ℕ)) (z : State) → pends z t ≡ false → ((u : ℕ) → IsAlerted z u → ⊥) → (u : ℕ) → IsAlerted (first now t h armed routine z) u → ⊥
calm_first now t h armed routine z idle calm u alerted = elim (cases_eq u t) [
  | inl same ↦ not_idle z t alerted.0 (ap (λ (i : ℕ). get z.waits i) (sym same) ∙ alerted.1) idle
  | inr differs ↦
      calm u (
        alerted.0,
        alerted.1,
        both_true alerted.0.alertable (has_apc (posted t h armed.due routine (withdrawn z.apcs h)) u) (has_apc z.apcs u)
            (λ e. had_apc z.apcs h u (posted_other t h armed.due routine (withdrawn z.apcs h) u differs e)) alerted.2,
      )
]

-- ---- what its parts touch

on_timer : (now t h : ℕ) (armed : Armed) (routine : Option (ℕ × ℕ)) (o : ℕ) → SomeOnObject (lights now t h armed routine) o → o ≡ h
on_timer now t h armed routine o (inl e) = sym e
on_timer now t h armed routine o (inr (inl e)) = sym e
on_timer now t h armed None o (inr (inr none)) = absurd none
on_timer now t h armed (Some r) o (inr (inr (inl e))) = let same : h ≡ o = cc in sym same
on_timer now t h armed (Some r) o (inr (inr (inr none))) = absurd none

moves_none : (now t h : ℕ) (armed : Armed) (routine : Option (ℕ × ℕ)) (v : ℕ) → SomeMoves (lights now t h armed routine) v → ⊥
moves_none now t h armed routine v (inl none) = none
moves_none now t h armed routine v (inr (inl none)) = none
moves_none now t h armed None v (inr (inr none)) = none
moves_none now t h armed (Some r) v (inr (inr (inl none))) = none
moves_none now t h armed (Some r) v (inr (inr (inr none))) = none

lights_keep : (s : State) (now t h : ℕ) (armed : Armed) (routine : Option (ℕ × ℕ)) → AllKeep s (lights now t h armed routine)
lights_keep s now t h armed None = (tt, (tt, tt))
lights_keep s now t h armed (Some r) = (tt, (tt, (tt, tt)))

anew_strange : (v : ℕ) (armed : Armed) (o : Object) → set_by armed.routine v ≡ false → belongs v o ≡ false → belongs v (anew armed o) ≡ false
anew_strange v armed o of e = armed_strange v armed (with_set false o) of (set_strange v false o e)

rearmed_so : (v : ℕ) (armed other : Armed) (b : Bool) (o : Object) → set_by other.routine v ≡ false → belongs v o ≡ false → belongs v (armed_with (if b then None else Some other) o) ≡ false
rearmed_so v armed other true o of e = unarmed_strange v o e
rearmed_so v armed other false o of e = armed_strange v other o of e

lit_strange : (now v : ℕ) (armed : Armed) (o : Object) → set_by armed.routine v ≡ false → belongs v o ≡ false → belongs v (lit now armed o) ≡ false
lit_strange now v armed o of e =
    rearmed_so v armed (record armed { due = next_above now armed.due (units armed.period) }) (armed.period == 0) (with_set true (anew armed o)) of (set_strange v true (anew armed o) (anew_strange v armed o of e))

lights_strange : (now t h : ℕ) (armed : Armed) (routine : Option (ℕ × ℕ)) (v : ℕ) → set_by armed.routine v ≡ false → AllStrange v (lights now t h armed routine)
lights_strange now t h armed None v of = ((λ o e. lit_strange now v armed o of e), (tt, tt))
lights_strange now t h armed (Some r) v of = ((λ o e. lit_strange now v armed o of e), (tt, (tt, tt)))

on_threads : (s : State) (now t h : ℕ) (due period : ℤ) (routine : Option (ℕ × ℕ)) (armed : Armed) (v : ℕ) → fires_one s.now (Act.SetTimer h due period routine) ≡ true → SomeOnThread s (lights now t h armed routine) v → TouchesThread s t (Call.Act (Act.SetTimer h due period routine)) v
on_threads s now t h due period routine armed v kind (inl none) = absurd none
on_threads s now t h due period routine armed v kind (inr (inl e)) = inr (inr (inr (inr (kind, inr (inl e)))))
on_threads s now t h due period None armed v kind (inr (inr none)) = absurd none
on_threads s now t h due period (Some r) armed v kind (inr (inr (inl e))) = inr (inr (inr (inr (kind, inl (sym e)))))
on_threads s now t h due period (Some r) armed v kind (inr (inr (inr none))) = absurd none

-- ---- a timer

lit_made : (s x y new : State) (t h : ℕ) (due period : ℤ) (routine : Option (ℕ × ℕ)) (r : Reply) (gs : List Grant) → nat_le (due_moment s.now due) s.now ≡ true → setting_of (anew (arming s.now t due period routine) (object_at x.objects h)) ≡ Some (arming s.now t due period routine) → IsFrom s t (Call.Act (Act.SetTimer h due period routine)) x → IsQuiet y → pends x t ≡ false → pends y t ≡ false → AlikeFor s t (Call.Act (Act.SetTimer h due period routine)) x y → Step x t (Call.Act (Act.SetTimer h due period routine)) r gs new → IsMade s x y new t (Call.Act (Act.SetTimer h due period routine)) r gs
lit_made s x y new t h due period routine r gs kind is from quiet idle_x idle_y alike step =
    let now = s.now in
    let a : Act = Act.SetTimer h due period routine in
    let armed : Armed = arming now t due period routine in
    let f : Object → Object = lit now armed in
    let fx : State = first now t h armed routine x in
    let fy : State = first now t h armed routine y in
    let same : object_at y.objects h ≡ object_at x.objects h = alike.objects h (inr (inr (kind, inl refl))) in
    let is_x : change x t (Call.Act a) ≡ fx = lit_is x now t h due period routine from.now kind is in
    let is_y : change y t (Call.Act a) ≡ fy = lit_is y now t h due period routine (alike.now ∙ from.now) kind (ap (λ (o : Object). setting_of (anew armed o)) same ∙ is) in
    let threads = sequence x step.numbers in
    let serves : Serve threads fx step.served step.calm = subst (λ (z : State). Serve threads z step.served step.calm) is_x step.serves in
    let still = Grants-calm threads fx step.calm step.served serves.0 (calm_first now t h armed routine x idle_x from.quiet.calm) in
    let none = alert_none step.calm step.woken step.alerted still step.alerts in
    let ps : List Piece = pieces_of threads fx step.calm step.served serves.0 in
    let beside : IsBeside h fx fy = record {
      long = length-set y.objects h (f (object_at y.objects h)) ∙ (alike.long ∙ sym (length-set x.objects h (f (object_at x.objects h))));
      there = λ v w e n. alike.there v w (inr (kind, n)) e;
      back = λ v w e n. alike.back v w (inr (kind, n)) e;
      agree = λ v w e n o m. change_agree y.objects x.objects h o f alike.long same (alike.objects o (inr (inr (kind, inr (v, w, from.known v w (inr (kind, n)) e, n, is_named o w.objects m)))));
      only = only_one x h f from.quiet.served;
      only_too = only_one y h f quiet.served;
    } in
    let go = granted_beside x h threads (sequence y step.numbers) fx fy step.calm step.served (λ u w e. e) (alike.queues step.numbers) beside serves.0 in
    let are : AreOf s h ps = are_known s x h ps (λ v w n e. from.known v w (inr (kind, n)) e) go.are in
    let last : State = all_made ps fy in
    let served_last : IsServed last = λ u. due_beside h step.calm last go.beside u ∙ serves.1 u in
    let still_y : (u : ℕ) → IsAlerted last u → ⊥ = λ u alerted. calm_first now t h armed routine y idle_y quiet.calm u (alerted_before ps fy u alerted) in
    let numbers_x : AreRising (IsChanged x.objects (with_object x.objects h f)) step.numbers = subst (λ (z : State). AreRising (IsChanged x.objects z.objects) step.numbers) is_x step.changed in
    let numbers_y : AreRising (IsChanged y.objects (with_object y.objects h f)) step.numbers = numbers_for x y h f step.numbers alike.long same numbers_x in
    let step_y : Step y t (Call.Act a) r gs last = record {
      numbers = step.numbers;
      served = step.served;
      calm = last;
      alerted = [];
      woken = last;
      changed = subst (λ (z : State). AreRising (IsChanged y.objects z.objects) step.numbers) (sym is_y) numbers_y;
      serves = subst (λ (z : State). Serve (sequence y step.numbers) z step.served last) (sym is_y) (go.grants, served_last);
      alerts = none_to_alert last still_y;
      in_order = step.in_order ∙ ap (λ (l : List Grant). step.served ++ l) none.0;
      answers = ap {B = Reply × State} (λ (q : Reply). (q, last)) (ap (λ (z : Reply × State). z.0) step.answers);
    } in
    let cs : List Part = lights now t h armed routine in
    let leads : (z : State) → all_made ps (first now t h armed routine z) ≡ all_done (cs ++ in_parts ps) z = λ z.
    in_parts_is ps (first now t h armed routine z) ∙ (ap (λ (n : State). all_done (in_parts ps) n) (first_is now t h armed routine z) ∙ sym (done_append cs (in_parts ps) z)) in
    record {
      parts = cs ++ in_parts ps;
      state = ap (λ (z : Reply × State). z.1) step.answers ∙ (none.1 ∙ (source_is threads fx step.calm step.served serves.0 ∙ leads x));
      step = subst (λ (z : State). Step y t (Call.Act a) r gs z) (leads y) step_y;
      quiet = subst IsQuiet (leads y) (record { served = served_last; calm = still_y });
      objects = λ o m. inr (inr (kind, elim (objects_append cs (in_parts ps) o m) [ inl n ↦ inl (on_timer now t h armed routine o n) | inr n ↦ on_reached s h ps o are n ]));
      threads = λ v m. elim (threads_append s cs (in_parts ps) v m) [
        | inl n ↦ on_threads s now t h due period routine armed v kind n
        | inr n ↦ inr (inr (inr (inr (kind, inr (inr (on_waiting s h ps v are n))))))
      ];
      idle = λ v m. elim (moves_append cs (in_parts ps) v m) [
        | inl n ↦ absurd (moves_none now t h armed routine v n)
        | inr n ↦ inr (ap (λ (z : State). pends z v) (sym (leads y)) ∙ left_idle ps fy v n)
      ];
      keeps = keep_append s cs (in_parts ps) (lights_keep s now t h armed routine) (pieces_keep s ps);
      strange = λ v differs idle. strange_append v cs (in_parts ps) (lights_strange now t h armed routine v (routine_strange t v routine differs)) (pieces_strange s h ps v are (ends_fair v threads fx step.calm step.served serves.0) idle);
    }

-- ---- what is no timer is left unset

unlit_made : (s x y new : State) (t h : ℕ) (due period : ℤ) (routine : Option (ℕ × ℕ)) (r : Reply) (gs : List Grant) → nat_le (due_moment s.now due) s.now ≡ true → setting_of (anew (arming s.now t due period routine) (object_at x.objects h)) ≡ None → IsFrom s t (Call.Act (Act.SetTimer h due period routine)) x → IsQuiet y → AlikeFor s t (Call.Act (Act.SetTimer h due period routine)) x y → Step x t (Call.Act (Act.SetTimer h due period routine)) r gs new → IsMade s x y new t (Call.Act (Act.SetTimer h due period routine)) r gs
unlit_made s x y new t h due period routine r gs kind is from quiet alike step =
    let now = s.now in
    let a : Act = Act.SetTimer h due period routine in
    let armed : Armed = arming now t due period routine in
    let f : Object → Object = anew armed in
    let same : object_at y.objects h ≡ object_at x.objects h = alike.objects h (inr (inr (kind, inl refl))) in
    let to : (z : State) → IsQuiet z → z.now ≡ now → object_at z.objects h ≡ object_at x.objects h → IsQuietTo z (timed z h f) t a = λ z q at_now o. record {
      changes = fired_is z now t h due period routine at_now kind ∙ ap (λ (b : Option Armed). expired_as (armed_anew z h armed) now h b) (ap (λ (v : Object). setting_of (anew armed v)) o ∙ is);
      settles = λ v. refl;
      served = served_fewer z (with_object z.objects h f) q.served (λ u k e. unready f (set_so now t a) z.objects h u k e);
      calm = calm_so z h f q.calm;
    } in
    let to_x = to x from.quiet from.now refl in
    let to_y = to y quiet (alike.now ∙ from.now) same in
    let one = quiet_step x new (timed x h f) t a r gs to_x step in
    let second : IsQuietStep y (timed y h f) (timed y h f) t a r gs = record {
      numbers = one.numbers;
      changed = numbers_for x y h f one.numbers alike.long same one.changed;
      grants = one.grants;
      state = refl;
      reply = one.reply;
    } in
    record {
      parts = Changes h f ∷ Withdraws h ∷ [];
      state = one.state;
      step = make_quiet y (timed y h f) (timed y h f) t a r gs to_y second;
      quiet = record { served = to_y.served; calm = to_y.calm };
      objects = λ o m. inr (inr (kind, inl (elim m [ inl e ↦ sym e | inr later ↦ elim later [ inl e ↦ sym e | inr never ↦ absurd never ] ])));
      threads = λ v m. inr (inr (inr (inr (kind, inr (inl (elim m [ inl none ↦ absurd none | inr here ↦ elim here [ inl e ↦ e | inr never ↦ absurd never ] ]))))));
      idle = λ v m. elim m [ inl none ↦ absurd none | inr here ↦ elim here [ inl never ↦ absurd never | inr never ↦ absurd never ] ];
      keeps = (tt, (tt, tt));
      strange = λ v differs idle. ((λ o e. anew_strange v armed o (routine_strange t v routine differs) e), (tt, tt));
    }

-- ---- either

fire_made_so : (s x y new : State) (t h : ℕ) (due period : ℤ) (routine : Option (ℕ × ℕ)) (r : Reply) (gs : List Grant) → fires_one s.now (Act.SetTimer h due period routine) ≡ true → IsFrom s t (Call.Act (Act.SetTimer h due period routine)) x → IsQuiet y → (TouchesThread s t (Call.Act (Act.SetTimer h due period routine)) t → pends y t ≡ false) → AlikeFor s t (Call.Act (Act.SetTimer h due period routine)) x y → Step x t (Call.Act (Act.SetTimer h due period routine)) r gs new → IsMade s x y new t (Call.Act (Act.SetTimer h due period routine)) r gs
fire_made_so s x y new t h due period routine r gs kind from quiet idle alike step = go (object_at x.objects h) refl
  where
    armed : Armed
    armed = arming s.now t due period routine

    here : TouchesThread s t (Call.Act (Act.SetTimer h due period routine)) t
    here = inr (inr (inr (inr (kind, inl refl))))

    unlit : (o : Object) → object_at x.objects h ≡ o → setting_of (anew armed o) ≡ None → IsMade s x y new t (Call.Act (Act.SetTimer h due period routine)) r gs
    unlit o e none = unlit_made s x y new t h due period routine r gs kind (ap (λ (v : Object). setting_of (anew armed v)) e ∙ none) from quiet alike step

    go : (o : Object) → object_at x.objects h ≡ o → IsMade s x y new t (Call.Act (Act.SetTimer h due period routine)) r gs
    go (Event manual set) e = unlit (Event manual set) e refl
    go (Semaphore count maximum) e = unlit (Semaphore count maximum) e refl
    go (Mutex owner depth abandoned) e = unlit (Mutex owner depth abandoned) e refl
    go (Timer manual set was) e =
        lit_made s x y new t h due period routine r gs kind (ap (λ (v : Object). setting_of (anew armed v)) e) from quiet
        (sym (ap is_some (alike.waits t here)) ∙ idle here) (idle here) alike step
    go (Thread ended) e = unlit (Thread ended) e refl
    go Gone e = unlit Gone e refl

fires_of : (now : ℕ) (a : Act) → fires_one now a ≡ true → (h : ℕ) × (due : ℤ) × (period : ℤ) × (routine : Option (ℕ × ℕ)) × (a ≡ Act.SetTimer h due period routine)
fires_of now (Act.SetTimer h due period routine) kind = (h, due, period, routine, refl)
fires_of now _ kind = (cc)

pub fire_made : (s x y new : State) (t : ℕ) (a : Act) (r : Reply) (gs : List Grant) → fires_one s.now a ≡ true → IsFrom s t (Call.Act a) x → IsQuiet y → (TouchesThread s t (Call.Act a) t → pends y t ≡ false) → AlikeFor s t (Call.Act a) x y → Step x t (Call.Act a) r gs new → IsMade s x y new t (Call.Act a) r gs
fire_made s x y new t a r gs kind from quiet idle alike step =
    let is = fires_of s.now a kind in
    subst (λ (c : Act). fires_one s.now c ≡ true → IsFrom s t (Call.Act c) x → (TouchesThread s t (Call.Act c) t → pends y t ≡ false) → AlikeFor s t (Call.Act c) x y → Step x t (Call.Act c) r gs new → IsMade s x y new t (Call.Act c) r gs) (sym is.4)
    (λ k f i l p. fire_made_so s x y new t is.0 is.1 is.2 is.3 r gs k f quiet i l p)
    kind
    from
    idle
    alike
    step
