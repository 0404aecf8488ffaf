-- Which objects have a mark.
use Rattle.std.proofs.Common.{◌≡◌, ◌≢◌, ℕ, zero, suc, ◌<◌, Bool, true, false, not, ◌&&◌, ◌||◌, List, [], ◌∷◌, ◌++◌, length, length-append, set, refl, sym, ap, ◌∙◌, subst, arith, Option, Some, inl, inr, ◌⊎◌, Contains}
use Rattle.std.specs.Prelude.{nat_lt, replicate}
use Rattle.std.specs.FinMap.{get}
use Rattle.std.proofs.lemmas.Bool.{cases_eq, false≢true}
use Rattle.std.proofs.lemmas.Bool.Decides.{nat_tests}
use Rattle.std.proofs.lemmas.List.{length-replicate, length-set, get_or-set_same, get_or-set_other}
use Rattle.std.proofs.lemmas.List.Elements.{at_from_Contains}
use Rattle.nt_tables.specs.declared.handles.Opened.{Opened}
use Rattle.nt_objects.specs.declared.object.Object.{Object}
use Rattle.nt_objects.specs.declared.object.Object.TheVariants.{Thread}
use Rattle.nt_tables.specs.Handles.{opened_at, count_named}
use Rattle.nt_objects.specs.Object.{has_ended, is_gone, full_access}
use Rattle.nt_waits.specs.declared.wait.Wait.{Wait}
use Rattle.nt_status.proofs.Lists.{contains_none, contains_at, contains_or_not}
use Rattle.nt_waits.specs.Waits.{Names, Waits, queue_of, others}
use Rattle.nt_marks.specs.Marks.{is_marked}
use Rattle.nt_apc.specs.Queues.{Apcs}
use Rattle.nt_waits.proofs.OthersLemmas.{others_absent}
use Rattle.nt_calls.specs.State.{State, object_at}
use Rattle.nt_machine.specs.Dispatcher.{Dispatcher, state, with_created}
use Rattle.nt_calls.specs.Living.{is_opened, is_awaited, runs, is_kept, lives, is_forgotten}
use Rattle.nt_machine.specs.Lawful.{IsMachineSound, HandlesAgree, MarksAgreeBut}
use Rattle.nt_machine.proofs.Handling.{opened_longer}
use Rattle.nt_machine.proofs.Lives.{IsForgotten, parts, whole, counted_opened}

-- ---- what is forgotten

-- where all that the tests read is the same, so is the answer
pub forgotten_same : (s r : State) (o : ℕ) → length r.objects ≡ length s.objects → is_gone (object_at r.objects o) ≡ is_gone (object_at s.objects o) → has_ended (object_at r.objects o) ≡ has_ended (object_at s.objects o) → r.threads ≡ s.threads → nat_lt 0 (count_named r.handles o) ≡ nat_lt 0 (count_named s.handles o) → length (r.queues o) ≡ length (s.queues o) → is_forgotten r o ≡ is_forgotten s o
forgotten_same s r o count gone ended threads opened queue =
    ap (λ n. (nat_lt o n && not (is_gone (object_at r.objects o))) && not (is_kept r o)) count
    ∙ (ap (λ b. (nat_lt o (length s.objects) && not b) && not (is_kept r o)) gone
    ∙ (ap (λ b. lives s o && not (b || (is_awaited r o || runs r o))) opened
    ∙ (ap (λ n. lives s o && not (is_opened s o || (nat_lt 0 n || runs r o))) queue
    ∙ (ap (λ n. lives s o && not (is_opened s o || (is_awaited s o || (nat_lt o n && not (has_ended (object_at r.objects o)))))) threads
    ∙ ap (λ b. lives s o && not (is_opened s o || (is_awaited s o || (nat_lt o s.threads && not b)))) ended))))

-- ---- marks stay

pub marks_from : (old new : Dispatcher) (left : List ℕ) → new.handles ≡ old.handles → new.leaving ≡ old.leaving → length new.objects ≡ length old.objects → ((o : ℕ) → is_gone (object_at new.objects o) ≡ is_gone (object_at old.objects o)) → ((o : ℕ) → is_forgotten (state new) o ≡ true → (is_forgotten (state old) o ≡ true) ⊎ Contains left o) → ((o : ℕ) → Contains left o → o < length new.objects) → MarksAgreeBut [] old → MarksAgreeBut left new
marks_from old new left handles leaving count gone before known marks = record {
  living = λ h opened is. gone opened.object ∙ marks.living h opened (ap (λ hs. opened_at hs h) (sym handles) ∙ is);
  count = ap (λ m. length m) leaving ∙ (marks.count ∙ sym count);
  marked = λ o forgotten. elim (before o forgotten) [
    | inl earlier ↦ elim (marks.marked o earlier) [
      | inl mark ↦ inl (ap (λ m. is_marked m o) leaving ∙ mark)
      | inr none ↦ absurd (contains_none o none)
    ]
    | inr member ↦ inr member
  ];
  known = known;
}

-- where objects change to others that are gone and ended alike
pub marks_same : (old new : Dispatcher) → new.threads ≡ old.threads → new.handles ≡ old.handles → new.leaving ≡ old.leaving → ((o : ℕ) → queue_of new.table o ≡ queue_of old.table o) → length new.objects ≡ length old.objects → ((o : ℕ) → is_gone (object_at new.objects o) ≡ is_gone (object_at old.objects o)) → ((o : ℕ) → has_ended (object_at new.objects o) ≡ has_ended (object_at old.objects o)) → MarksAgreeBut [] old → MarksAgreeBut [] new
marks_same old new threads handles leaving queues count gone ended marks =
    marks_from old new [] handles leaving count gone
    (λ o forgotten. inl (sym (forgotten_same (state old) (state new) o count (gone o) (ended o) threads (ap (λ hs. nat_lt 0 (count_named hs o)) handles) (ap (λ q. length q) (queues o))) ∙ forgotten))
    (λ o m. absurd (contains_none o m)) marks

-- where no object changes, nor what keeps it
pub marks_along : {old new : Dispatcher} → new.threads ≡ old.threads → new.handles ≡ old.handles → new.leaving ≡ old.leaving → ((o : ℕ) → queue_of new.table o ≡ queue_of old.table o) → new.objects ≡ old.objects → MarksAgreeBut [] old → MarksAgreeBut [] new
marks_along {old} {new} threads handles leaving queues objects marks =
    marks_same old new threads handles leaving queues (ap (λ os. length os) objects) (λ o. ap (λ os. is_gone (object_at os o)) objects) (λ o. ap (λ os. has_ended (object_at os o)) objects) marks

-- at first each object is a thread that runs, and no mark stands
pub marks_opening : (d : Dispatcher) → d.objects ≡ replicate d.threads (Thread false) → d.leaving ≡ replicate d.threads false → ((h : ℕ) → object_at d.objects h ≡ Thread false) → MarksAgreeBut [] d
marks_opening d objects leaving running = record {
  living = λ h opened is. ap is_gone (running opened.object);
  count = ap (λ m. length m) leaving ∙ (length-replicate d.threads false ∙ sym count);
  marked = λ o forgotten.
      let is = parts (state d) o forgotten in
      let known = is.known in
      let below : o < d.threads = omega (arith, known, count) in
      let test : nat_lt o d.threads ≡ true = grind (arith, nat_tests, below) in
      absurd (false≢true (sym is.idle ∙ (ap (λ b. b && not (has_ended (object_at d.objects o))) test ∙ ap (λ x. not (has_ended x)) (running o))));
  known = λ o m. absurd (contains_none o m);
}
  where
    count : length d.objects ≡ d.threads
    count = ap (λ os. length os) objects ∙ length-replicate d.threads (Thread false)

-- ---- a wait begins

-- no queue is shorter
pub marks_begun : (old : Dispatcher) (table : Waits) → ((o : ℕ) → nat_lt 0 (length (queue_of old.table o)) ≡ true → nat_lt 0 (length (queue_of table o)) ≡ true) → MarksAgreeBut [] old → MarksAgreeBut [] (record old { table = table })
marks_begun old table more marks = marks_from old new [] refl refl refl (λ o. refl) (λ o forgotten. inl (before o (parts (state new) o forgotten))) (λ o m. absurd (contains_none o m)) marks
  where
    new : Dispatcher
    new = record old { table = table }

    none : (o : ℕ) (b : Bool) → is_awaited (state old) o ≡ b → is_awaited (state new) o ≡ false → b ≡ false
    none o true is now = sym (more o is) ∙ now
    none o false is now = refl

    before : (o : ℕ) → IsForgotten (state new) o → is_forgotten (state old) o ≡ true
    before o is = whole (state old) o (record { known = is.known; living = is.living; unopened = is.unopened; unawaited = none o (is_awaited (state old) o) refl is.unawaited; idle = is.idle })

-- ---- one handle more

count_more : (hs : List (Option Opened)) (new : Opened) (o : ℕ) → count_named (hs ++ Some new ∷ []) o ≡ 0 → count_named hs o ≡ 0
count_more [] new o none = refl
count_more (h ∷ hs) new o none = let rest : count_named (hs ++ Some new ∷ []) o ≡ 0 = omega (arith, none) in let here : count_named hs o ≡ 0 = count_more hs new o rest in omega (arith, none, here)

still_unopened : (hs : List (Option Opened)) (new : Opened) (o : ℕ) → nat_lt 0 (count_named (hs ++ Some new ∷ []) o) ≡ false → nat_lt 0 (count_named hs o) ≡ false
still_unopened hs new o is =
    let none : count_named (hs ++ Some new ∷ []) o ≡ 0 = grind (arith, nat_tests, is) in
    let before : count_named hs o ≡ 0 = count_more hs new o none in
    grind (arith, nat_tests, before)

opened_last : (hs : List (Option Opened)) (new : Opened) → opened_at (hs ++ Some new ∷ []) (length hs) ≡ Some new
opened_last [] new = refl
opened_last (h ∷ hs) new = opened_last hs new

-- for an object that lives
pub marks_opened : (d : Dispatcher) (object access : ℕ) → is_gone (object_at d.objects object) ≡ false → MarksAgreeBut [] d → MarksAgreeBut [] (record d { handles = d.handles ++ Some (record { object = object; access = access }) ∷ [] })
marks_opened d object access alive marks = record {
  living = λ h opened is. elim (opened_longer d.handles new opened h is) [
    | inl before ↦ marks.living h opened before
    | inr same ↦ ap (λ k. is_gone (object_at d.objects k)) (sym same) ∙ alive
  ];
  count = marks.count;
  marked = λ o forgotten. marks.marked o (before o (parts (state (record d { handles = d.handles ++ Some new ∷ [] })) o forgotten));
  known = λ o m. absurd (contains_none o m);
}
  where
    new : Opened
    new = record { object = object; access = access }

    before : (o : ℕ) → IsForgotten (state (record d { handles = d.handles ++ Some new ∷ [] })) o → is_forgotten (state d) o ≡ true
    before o is = whole (state d) o (record { known = is.known; living = is.living; unopened = still_unopened d.handles new o is.unopened; unawaited = is.unawaited; idle = is.idle })

-- ---- one object more, with a handle

appended : (os : List Object) (o : Object) (h : ℕ) → h < length os → object_at (os ++ o ∷ []) h ≡ object_at os h
appended [] o h known = absurd (omega (arith, known))
appended (x ∷ os) o zero known = refl
appended (x ∷ os) o (suc h) known = appended os o h (omega (arith, known))

appended_last : (os : List Object) (o : Object) → object_at (os ++ o ∷ []) (length os) ≡ o
appended_last [] o = refl
appended_last (x ∷ os) o = appended_last os o

pub mark_created : (marks : List Bool) (h : ℕ) → is_marked (marks ++ false ∷ []) h ≡ is_marked marks h
mark_created [] zero = refl
mark_created [] (suc h) = refl
mark_created (a ∷ marks) zero = refl
mark_created (a ∷ marks) (suc h) = mark_created marks h

pub marks_created : (d : Dispatcher) (o : Object) (owned : List (List ℕ)) → HandlesAgree (length d.objects) d.handles → is_gone o ≡ false → MarksAgreeBut [] d → MarksAgreeBut [] (with_created d o owned)
marks_created d o owned agree alive marks = record {
  living = λ h opened is. elim (opened_longer d.handles new opened h is) [
    | inl before ↦ ap is_gone (appended d.objects o opened.object (agree.named h opened before)) ∙ marks.living h opened before
    | inr same ↦ ap (λ k. is_gone (object_at (d.objects ++ o ∷ []) k)) (sym same) ∙ (ap is_gone (appended_last d.objects o) ∙ alive)
  ];
  count = let objects = length-append d.objects (o ∷ []) in let places = length-append d.leaving (false ∷ []) in let before = marks.count in omega (arith, objects, places, before);
  marked = λ x forgotten. elim (marks.marked x (before x (parts (state (with_created d o owned)) x forgotten))) [
    | inl mark ↦ inl (mark_created d.leaving x ∙ mark)
    | inr none ↦ absurd (contains_none x none)
  ];
  known = λ x m. absurd (contains_none x m);
}
  where
    new : Opened
    new = record { object = length d.objects; access = full_access o }

    not_last : (x : ℕ) → is_opened (state (with_created d o owned)) x ≡ false → x ≢ length d.objects
    not_last x is same = false≢true (sym is ∙ (ap (λ k. nat_lt 0 (count_named (d.handles ++ Some new ∷ []) k)) same ∙ counted_opened (d.handles ++ Some new ∷ []) (length d.handles) new (opened_last d.handles new)))

    before : (x : ℕ) → IsForgotten (state (with_created d o owned)) x → is_forgotten (state d) x ≡ true
    before x is =
        let other = not_last x is.unopened in
        let longer = length-append d.objects (o ∷ []) in
        let below = is.known in
        let known : x < length d.objects = omega (arith, other, longer, below) in
        let same = appended d.objects o x known in
        whole (state d) x (record {
          known = known;
          living = ap is_gone (sym same) ∙ is.living;
          unopened = still_unopened d.handles new x is.unopened;
          unawaited = is.unawaited;
          idle = ap (λ y. nat_lt x d.threads && not (has_ended y)) (sym same) ∙ is.idle;
        })

-- ---- a wait ends

pub named_member : (hs : List ℕ) (w : Wait) (o : ℕ) → w.objects ≡ hs → Names w o → Contains hs o
named_member hs w o is named = subst (λ (xs : List ℕ). Contains xs o) is (contains_at w.objects named.0 0 o named.1 named.2)

pub member_named : (w : Wait) (o : ℕ) → Contains w.objects o → Names w o
member_named w o m = let place = at_from_Contains w.objects o m in (place.0, place.1, place.2 0)

-- the wait of thread t is over, and perhaps it took objects: what it named may lack its mark
pub marks_ended : (old new : Dispatcher) (t : ℕ) (w : Wait) → IsMachineSound old → get old.table.pending t ≡ Some w → new.threads ≡ old.threads → new.handles ≡ old.handles → new.leaving ≡ old.leaving → ((o : ℕ) → queue_of new.table o ≡ others t (queue_of old.table o)) → length new.objects ≡ length old.objects → ((o : ℕ) → is_gone (object_at new.objects o) ≡ is_gone (object_at old.objects o)) → ((o : ℕ) → has_ended (object_at new.objects o) ≡ has_ended (object_at old.objects o)) → MarksAgreeBut w.objects new
marks_ended old new t w sound pends threads handles leaving queues count gone ended =
    marks_from old new w.objects handles leaving count gone before
    (λ o m. subst (λ (n : ℕ). o < n) (sym count) ((sound.waits t w pends).named o (member_named w o m)).0) sound.marks
  where
    before : (o : ℕ) → is_forgotten (state new) o ≡ true → (is_forgotten (state old) o ≡ true) ⊎ Contains w.objects o
    before o forgotten = elim (contains_or_not w.objects o) [
      | inl member ↦ inr member
      | inr never ↦
          let absent : Contains (queue_of old.table o) t → ⊥ = λ m.
          let named = sound.blocks.named t o m in
          never (named_member w.objects w o refl (subst (λ (v : Wait). Names v o) (same_wait named.0 w (sym named.1 ∙ pends)) named.2)) in
          inl (sym (forgotten_same (state old) (state new) o count (gone o) (ended o) threads (ap (λ hs. nat_lt 0 (count_named hs o)) handles) (ap (λ q. length q) (queues o ∙ others_absent t (queue_of old.table o) absent))) ∙ forgotten)
    ]
      where
        same_wait : (v u : Wait) → Some v ≡ Some u → v ≡ u
        same_wait v u e = (cc)

-- the thread ends, and its own object has a mark
pub marks_ending : (d : Dispatcher) (t : ℕ) (apcs : Apcs) → t < length d.objects → is_gone (object_at d.objects t) ≡ false → MarksAgreeBut [] d → MarksAgreeBut [] (record d { objects = set d.objects t (Thread true); apcs = apcs; leaving = set d.leaving t true })
marks_ending d t apcs known alive marks = record {
  living = λ h opened is. gone opened.object ∙ marks.living h opened is;
  count = length-set d.leaving t true ∙ (marks.count ∙ sym (length-set d.objects t (Thread true)));
  marked = λ o forgotten. elim (cases_eq o t) [
    | inl here ↦ inl (ap (λ (k : ℕ). is_marked (set d.leaving t true) k) here ∙ get_or-set_same d.leaving t true false (let count = marks.count in omega (arith, known, count)))
    | inr other ↦ elim (marks.marked o (sym (forgotten_same (state d) (state new) o (length-set d.objects t (Thread true)) (gone o) (ap has_ended (get_or-set_other d.objects t o (Thread true) (Thread false) other)) refl refl refl) ∙ forgotten)) [
      | inl mark ↦ inl (get_or-set_other d.leaving t o true false other ∙ mark)
      | inr none ↦ absurd (contains_none o none)
    ]
  ];
  known = λ o m. absurd (contains_none o m);
}
  where
    new : Dispatcher
    new = record d { objects = set d.objects t (Thread true); apcs = apcs; leaving = set d.leaving t true }

    gone : (o : ℕ) → is_gone (object_at (set d.objects t (Thread true)) o) ≡ is_gone (object_at d.objects o)
    gone o = elim (cases_eq o t) [
      | inl here ↦ ap (λ (k : ℕ). is_gone (object_at (set d.objects t (Thread true)) k)) here ∙ (ap is_gone (get_or-set_same d.objects t (Thread true) (Thread false) known) ∙ (sym alive ∙ ap (λ (k : ℕ). is_gone (object_at d.objects k)) (sym here)))
      | inr other ↦ ap is_gone (get_or-set_other d.objects t o (Thread true) (Thread false) other)
    ]
