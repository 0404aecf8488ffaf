-- Numbers of objects, renamed: those that a call changes, those of timers that are due, and those that nothing keeps any more.
use Rattle.std.proofs.Common.{◌≡◌, ◌≢◌, ◌<◌, ◌≤◌, ◌⊎◌, inl, inr, ℕ, zero, suc, Bool, true, false, not, ◌&&◌, ◌||◌, List, [], ◌∷◌, length, map, refl, sym, ap, ◌∙◌, subst, arith, Option, Some, None, Contains}
use Rattle.std.specs.Prelude.{slice_index_or, slice_set, ◌==◌, nat_le, if◌then◌else◌, option_map}
use Rattle.std.proofs.lemmas.Bool.{cases_eq, cases_lt}
use Rattle.nt_status.proofs.Lists.{contains_first, contains_later}
use Rattle.nt_objects.specs.declared.object.Object.{Object}
use Rattle.nt_objects.specs.declared.object.Object.TheVariants.{Event, Semaphore, Mutex, Timer, Thread, Gone}
use Rattle.nt_objects.specs.declared.object.Armed.{Armed}
use Rattle.nt_objects.specs.declared.object.Routine.{Routine}
use Rattle.nt_objects.specs.Object.{with_set, released, unlocked, abandoned_by, unset_by, armed_with, rearmed, setting_of, due_of}
use Rattle.nt_calls.specs.declared.call.Call.{Call}
use Rattle.nt_calls.specs.declared.call.Act.{Act}
use Rattle.nt_calls.specs.declared.call.WaitCall.{WaitCall}
use Rattle.nt_calls.specs.Rising.{IsRising, AreRising}
use Rattle.nt_apc.specs.Queues.{oldest_taken, is_from, without_from, withdrawn}
use Rattle.nt_calls.specs.State.{State, object_at, with_object, with_handing}
use Rattle.nt_calls.specs.Serving.{IsChanged}
use Rattle.nt_calls.specs.Change.{expired_as, expired, armed_anew, timer_set, signal, exited, act_change, change, may_take, IsTimerDue}
use Rattle.nt_apart.specs.Fewer.{IsRenaming, IsRenamed, renamed_object, renamed_routine, renamed_call, is_own, AreMoved, renamed_apc}
use Rattle.nt_apart.proofs.Renaming.{turned, get_front, get_map, lt_there, mapped_has, has_mapped, past, moved_map, renamed_order, among, among_renamed, rising_renamed}
use Rattle.nt_apart.proofs.RenamedObjects.{due_renamed}
use Rattle.nt_apart.proofs.RenamedChanges.{change_renamed, forgotten_renamed}
use Rattle.std.specs.List.{filter}
use Rattle.std.proofs.lemmas.List.{length-set, get_or-set_other, get_or-set_same}
use Rattle.nt_apc.specs.declared.apc.Queued.{Queued}
use Rattle.nt_calls.specs.Living.{is_forgotten, gone, all_gone, Ends}
use Rattle.nt_apart.proofs.RenamedStates.{with_objects, with_apcs, filter_mapped}
use Rattle.nt_machine.proofs.Listing.{same_yes, same_no}

-- ---- a thread's own object stays, but where its thread exits

own_is : (o : Object) → is_own o ≡ true → (P : Object → Type 0) → ((ended : Bool) → P (Thread ended)) → P Gone → P o
own_is (Event manual set) is P thread gone = absurd (let h : false ≡ true = is in cc)
own_is (Semaphore count maximum) is P thread gone = absurd (let h : false ≡ true = is in cc)
own_is (Mutex owner depth abandoned) is P thread gone = absurd (let h : false ≡ true = is in cc)
own_is (Timer manual set armed) is P thread gone = absurd (let h : false ≡ true = is in cc)
own_is (Thread ended) is P thread gone = thread ended
own_is Gone is P thread gone = gone

stays_at : (xs : List Object) (h x : ℕ) (f : Object → Object) → ((ended : Bool) → f (Thread ended) ≡ Thread ended) → f Gone ≡ Gone → is_own (object_at xs x) ≡ true → object_at (with_object xs h f) x ≡ object_at xs x
stays_at [] h x f thread gone is = refl
stays_at (o ∷ xs) zero zero f thread gone is = own_is o is (λ (z : Object). f z ≡ z) thread gone
stays_at (o ∷ xs) zero (suc x) f thread gone is = refl
stays_at (o ∷ xs) (suc h) zero f thread gone is = refl
stays_at (o ∷ xs) (suc h) (suc x) f thread gone is = stays_at xs h x f thread gone is

stays_expired : (s : State) (v timer : ℕ) (armed : Option Armed) (x : ℕ) → is_own (object_at s.objects x) ≡ true → object_at (expired_as s v timer armed).objects x ≡ object_at s.objects x
stays_expired s v timer None x is = refl
stays_expired s v timer (Some armed) x is = stays_at s.objects timer x (λ o. armed_with (rearmed v armed) (with_set true o)) (λ ended. refl) refl is

stays_set : (s : State) (timer : ℕ) (armed : Armed) (x : ℕ) → is_own (object_at s.objects x) ≡ true → object_at (timer_set s timer armed).objects x ≡ object_at s.objects x
stays_set s timer armed x is = go (nat_le armed.due s.now)
  where
    anew : object_at (armed_anew s timer armed).objects x ≡ object_at s.objects x
    anew = stays_at s.objects timer x (λ o. armed_with (Some armed) (with_set false o)) (λ ended. refl) refl is

    go : (b : Bool) → object_at (if b then expired s.now (armed_anew s timer armed) timer else armed_anew s timer armed).objects x ≡ object_at s.objects x
    go true =
        stays_expired (armed_anew s timer armed) s.now timer (setting_of (object_at (armed_anew s timer armed).objects timer)) x (subst (λ (o : Object). is_own o ≡ true) (sym anew) is) ∙ anew
    go false = anew

stays_taken : (s : State) (t x : ℕ) → object_at (act_change s t Act.NextApc).objects x ≡ object_at s.objects x
stays_taken s t x = go (may_take s t)
  where
    go : (b : Bool) → object_at (if b then record s { apcs = oldest_taken s.apcs t } else with_handing s t false).objects x ≡ object_at s.objects x
    go true = refl
    go false = refl

set_elsewhere : (xs : List Object) (t x : ℕ) (o : Object) → x ≢ t → object_at (slice_set xs t o) x ≡ object_at xs x
set_elsewhere [] t x o differs = refl
set_elsewhere (y ∷ xs) zero zero o differs = absurd (differs refl)
set_elsewhere (y ∷ xs) zero (suc x) o differs = refl
set_elsewhere (y ∷ xs) (suc t) zero o differs = refl
set_elsewhere (y ∷ xs) (suc t) (suc x) o differs = set_elsewhere xs t x o (λ e. differs (ap (λ (k : ℕ). suc k) e))

stays_left : (s : State) (t x : ℕ) → x ≢ t → is_own (object_at s.objects x) ≡ true → object_at (exited s t).objects x ≡ object_at s.objects x
stays_left s t x differs is =
    set_elsewhere (map (λ o. unset_by t (abandoned_by t o)) s.objects) t x (Thread true) differs
    ∙ (get_map (λ o. unset_by t (abandoned_by t o)) (Thread false) refl s.objects x
    ∙ own_is (object_at s.objects x) is (λ (z : Object). unset_by t (abandoned_by t z) ≡ z) (λ ended. refl) refl)

stays_own : (s : State) (t : ℕ) (call : Call) (x : ℕ) → x < length s.objects → x ≢ t → is_own (object_at s.objects x) ≡ true → object_at (change s t call).objects x ≡ object_at s.objects x
stays_own s t (Call.Act (Act.CreateEvent flags)) x less differs is = get_front s.objects _ (Thread false) x less
stays_own s t (Call.Act (Act.CreateSemaphore initial maximum)) x less differs is = get_front s.objects _ (Thread false) x less
stays_own s t (Call.Act (Act.CreateMutex flags)) x less differs is = get_front s.objects _ (Thread false) x less
stays_own s t (Call.Act (Act.SetEvent h)) x less differs is = stays_at s.objects h x (with_set true) (λ ended. refl) refl is
stays_own s t (Call.Act (Act.ResetEvent h)) x less differs is = stays_at s.objects h x (with_set false) (λ ended. refl) refl is
stays_own s t (Call.Act (Act.PulseEvent h)) x less differs is = stays_at s.objects h x (with_set true) (λ ended. refl) refl is
stays_own s t (Call.Act (Act.ReleaseSemaphore h n)) x less differs is = stays_at s.objects h x (released n) (λ ended. refl) refl is
stays_own s t (Call.Act (Act.ReleaseMutex h)) x less differs is = stays_at s.objects h x unlocked (λ ended. refl) refl is
stays_own s t (Call.Act (Act.CreateTimer flags)) x less differs is = get_front s.objects _ (Thread false) x less
stays_own s t (Call.Act (Act.SetTimer h due period routine)) x less differs is = stays_set s h _ x is
stays_own s t (Call.Act (Act.CancelTimer h)) x less differs is = stays_at s.objects h x (armed_with None) (λ ended. refl) refl is
stays_own s t (Call.Act (Act.QueueApc h routine arg)) x less differs is = refl
stays_own s t (Call.Act Act.NextApc) x less differs is = stays_taken s t x
stays_own s t (Call.Act (Act.Duplicate object access)) x less differs is = refl
stays_own s t (Call.Act (Act.Close h)) x less differs is = refl
stays_own s t (Call.Wait (WaitCall.Objects all mode named)) x less differs is = refl
stays_own s t (Call.Wait (WaitCall.Sleep mode)) x less differs is = refl
stays_own s t (Call.Wait (WaitCall.Swap h object mode)) x less differs is = stays_at s.objects h x signal (λ ended. refl) refl is
stays_own s t Call.Exit x less differs is = stays_left s t x differs is

-- ---- numbers of which at most one is a thread's rise as they did

abbrev pub AtMostOne : ℕ → ℕ → List ℕ → Type 0
AtMostOne n t xs = (x : ℕ) → Contains xs x → x < n → x ≡ t

rises : (n : ℕ) (r : ℕ → ℕ) → IsRenaming n r → (t : ℕ) (xs : List ℕ) → AtMostOne n t xs → IsRising xs → IsRising (map r xs)
rises n r ren t [] one rising = tt
rises n r ren t (x ∷ xs) one rising = (
  λ z has. let it = has_mapped r xs z has in subst (λ (k : ℕ). r x < k) it.2 (after it.0 it.1 (cases_lt it.0 n) (cases_lt x n)),
  rises n r ren t xs (λ y has less. one y (contains_later x xs y has) less) rising.1,
)
  where
    after : (y : ℕ) → Contains xs y → (y < n) ⊎ (n ≤ y) → (x < n) ⊎ (n ≤ x) → r x < r y
    after y has (inl less) where_x =
        let more = rising.0 y has in
        let second = one y (contains_later x xs y has) less in
        let first = one x (contains_first x xs x refl) (omega (arith, more, less)) in
        absurd (omega (arith, more, first, second))
    after y has (inr most) (inl less) =
        let still = ren.outside y most in
        let there = ren.inside x less in
        omega (arith, still, there, most)
    after y has (inr most) (inr above) =
        let still = ren.outside y most in
        let also = ren.outside x above in
        let more = rising.0 y has in
        omega (arith, still, also, more)

numbers_rising : (n : ℕ) (r : ℕ → ℕ) → IsRenaming n r → (P Q : ℕ → Type 0) (t : ℕ) (xs : List ℕ) → AtMostOne n t xs → AreRising P xs → ((x : ℕ) → P x → Q (r x)) → ((x : ℕ) → Q x → P (r x)) → AreRising Q (map r xs)
numbers_rising n r ren P Q t xs one rising there back = record {
  rising = rises n r ren t xs one rising.rising;
  exactly = λ y. (
    λ has. let it = has_mapped r xs y has in subst (λ (z : ℕ). Q z) it.2 (there it.0 ((rising.exactly it.0).0 it.1)),
    λ is. subst (λ (z : ℕ). Contains (map r xs) z) (ren.back y) (mapped_has r xs (r y) ((rising.exactly (r y)).1 (back y is))),
  );
}

-- ---- what a call changes

pub object_twice : (n : ℕ) (r : ℕ → ℕ) → IsRenaming n r → (o : Object) → renamed_object r (renamed_object r o) ≡ o
object_twice n r ren (Event manual set) = refl
object_twice n r ren (Semaphore count maximum) = refl
object_twice n r ren (Mutex None depth abandoned) = refl
object_twice n r ren (Mutex (Some owner) depth abandoned) = ap (λ (k : ℕ). Mutex (Some k) depth abandoned) (ren.back owner)
object_twice n r ren (Timer manual set None) = refl
object_twice n r ren (Timer manual set (Some armed)) = ap (λ (x : Option Routine). Timer manual set (Some (record armed { routine = x }))) (twice armed.routine)
  where
    twice : (x : Option Routine) → option_map (renamed_routine r) (option_map (renamed_routine r) x) ≡ x
    twice None = refl
    twice (Some routine) = ap (λ (k : ℕ). Some (record routine { thread = k })) (ren.back routine.thread)
object_twice n r ren (Thread ended) = refl
object_twice n r ren Gone = refl

-- what differs, differs renamed
differs_renamed : (n : ℕ) (r : ℕ → ℕ) → IsRenaming n r → (o p : Object) → renamed_object r o ≡ renamed_object r p → o ≡ p
differs_renamed n r ren o p e = sym (object_twice n r ren o) ∙ (ap (λ (z : Object). renamed_object r z) e ∙ object_twice n r ren p)

changed_there : (r : ℕ → ℕ) (s u s' u' : State) → IsRenamed r s u → IsRenamed r s' u' → (x : ℕ) → IsChanged s.objects s'.objects x → IsChanged u.objects u'.objects (r x)
changed_there r s u s' u' are are' x (less, differs) =
    let count = are.objects.count in
    let near = lt_there s.threads r are.renaming (length s.objects) x are.objects.enough less in (
      omega (arith, near, count),
      λ e. differs (differs_renamed s.threads r are.renaming (object_at s'.objects x) (object_at s.objects x) (sym (are'.objects.each x) ∙ (e ∙ are.objects.each x))),
    )

changed_back : (r : ℕ → ℕ) (s u s' u' : State) → IsRenamed r s u → IsRenamed r s' u' → (x : ℕ) → IsChanged u.objects u'.objects x → IsChanged s.objects s'.objects (r x)
changed_back r s u s' u' are are' x (less, differs) =
    let count = are.objects.count in (
      lt_there s.threads r are.renaming (length s.objects) x are.objects.enough (omega (arith, less, count)),
      λ e. differs (same u'.objects s'.objects are'.objects.each ∙ (ap (λ (o : Object). renamed_object r o) e ∙ sym (same u.objects s.objects are.objects.each))),
    )
  where
    same : (ys xs : List Object) → ((z : ℕ) → object_at ys (r z) ≡ renamed_object r (object_at xs z)) → object_at ys x ≡ renamed_object r (object_at xs (r x))
    same ys xs each = ap (λ (k : ℕ). object_at ys k) (sym (are.renaming.back x)) ∙ each (r x)

pub numbers_renamed : (r : ℕ → ℕ) (s u : State) → IsRenamed r s u → (t : ℕ) (call : Call) (numbers : List ℕ) → AreRising (IsChanged s.objects (change s t call).objects) numbers → AreRising (IsChanged u.objects (change u (r t) (renamed_call r call)).objects) (map r numbers)
numbers_renamed r s u are t call numbers rising =
    let are' = change_renamed r s u are t call in
    let s' = change s t call in
    let u' = change u (r t) (renamed_call r call) in
    numbers_rising s.threads r are.renaming (IsChanged s.objects s'.objects) (IsChanged u.objects u'.objects) t numbers one rising
    (changed_there r s u s' u' are are') (changed_back r s u s' u' are are')
  where
    one : AtMostOne s.threads t numbers
    one x has less =
        let it = (rising.exactly x).0 has in
        elim (cases_eq x t) [ inl same ↦ same | inr differs ↦ absurd (it.1 (stays_own s t call x it.0 differs (are.own x less))) ]

-- ---- timers that are due

pub due_there : (r : ℕ → ℕ) (s u : State) → IsRenamed r s u → (moment x : ℕ) → IsTimerDue s moment x → IsTimerDue u moment (r x)
due_there r s u are moment x due = ap (λ (o : Object). due_of o) (are.objects.each x) ∙ (due_renamed r (object_at s.objects x) ∙ due)

pub due_back : (r : ℕ → ℕ) (s u : State) → IsRenamed r s u → (moment x : ℕ) → IsTimerDue u moment x → IsTimerDue s moment (r x)
due_back r s u are moment x due =
    sym (due_renamed r (object_at s.objects (r x))) ∙ (ap (λ (o : Object). due_of o) (sym (are.objects.each (r x)) ∙ ap (λ (k : ℕ). object_at u.objects k) (are.renaming.back x)) ∙ due)

pub timers_renamed : (r : ℕ → ℕ) (s u : State) → IsRenamed r s u → (moment : ℕ) (timers : List ℕ) → AreRising (IsTimerDue s moment) timers → AreRising (IsTimerDue u moment) (map r timers)
timers_renamed r s u are moment timers rising =
    numbers_rising s.threads r are.renaming (IsTimerDue s moment) (IsTimerDue u moment) 0 timers one rising (due_there r s u are moment) (due_back r s u are moment)
  where
    one : AtMostOne s.threads 0 timers
    one x has less = absurd (own_is (object_at s.objects x) (are.own x less) (λ (o : Object). due_of o ≡ Some moment → ⊥) (λ ended e. let h : None ≡ Some moment = e in cc) (λ e. let h : None ≡ Some moment = e in cc) ((rising.exactly x).0 has))

gone_is : (os : List ℕ) (s : State) → all_gone s os ≡ record s { objects = (all_gone s os).objects; apcs = (all_gone s os).apcs }
gone_is [] s = refl
gone_is (o ∷ os) s = gone_is os (gone s o)

gone_long : (os : List ℕ) (s : State) → length (all_gone s os).objects ≡ length s.objects
gone_long [] s = refl
gone_long (o ∷ os) s = gone_long os (gone s o) ∙ length-set s.objects o Gone

gone_at : (os : List ℕ) (s : State) (x : ℕ) → x < length s.objects → object_at (all_gone s os).objects x ≡ (if among os x then Gone else object_at s.objects x)
gone_at [] s x less = refl
gone_at (o ∷ os) s x less =
    let long = length-set s.objects o Gone in
    gone_at os (gone s o) x (omega (arith, less, long)) ∙ elim (cases_eq o x) [
      | inl same ↦
          ap (λ (z : Object). if among os x then Gone else z) (ap (λ (k : ℕ). slice_index_or (slice_set s.objects k Gone) x (Thread false)) same ∙ get_or-set_same s.objects x Gone (Thread false) less)
          ∙ (either (among os x) ∙ ap (λ (b : Bool). if b || among os x then Gone else object_at s.objects x) (sym (same_yes o x same)))
      | inr differs ↦
          ap (λ (z : Object). if among os x then Gone else z) (get_or-set_other s.objects o x Gone (Thread false) (λ e. differs (sym e)))
          ∙ ap (λ (b : Bool). if b || among os x then Gone else object_at s.objects x) (sym (same_no o x differs))
    ]
  where
    either : (b : Bool) → (if b then Gone else Gone) ≡ Gone
    either true = refl
    either false = refl

-- whether the APC is of none of these timers
abbrev stays : List ℕ → Option ℕ → Bool
stays os None = true
stays os (Some x) = not (among os x)

gone_apcs : (os : List ℕ) (s : State) → (all_gone s os).apcs ≡ map (filter (λ (q : Queued). stays os q.timer)) s.apcs
gone_apcs [] s = whole s.apcs
  where
    every : (o : Option ℕ) → stays [] o ≡ true
    every None = refl
    every (Some x) = refl

    all : (l : List Queued) → l ≡ filter (λ (q : Queued). stays [] q.timer) l
    all [] = refl
    all (q ∷ l) = ap (λ (z : List Queued). q ∷ z) (all l) ∙ ap (λ (b : Bool). if b then q ∷ filter (λ (x : Queued). stays [] x.timer) l else filter (λ (x : Queued). stays [] x.timer) l) (sym (every q.timer))

    whole : (ls : List (List Queued)) → ls ≡ map (filter (λ (q : Queued). stays [] q.timer)) ls
    whole [] = refl
    whole (l ∷ ls) = ap (λ (z : List Queued). z ∷ ls) (all l) ∙ ap (λ (zs : List (List Queued)). filter (λ (q : Queued). stays [] q.timer) l ∷ zs) (whole ls)
gone_apcs (o ∷ os) s = gone_apcs os (gone s o) ∙ whole s.apcs
  where
    none_of : (a b c : Bool) → a ≡ b → (not a && not c) ≡ not (b || c)
    none_of true b c e = ap (λ (z : Bool). not (z || c)) e
    none_of false b c e = ap (λ (z : Bool). not (z || c)) e

    test : (o : ℕ) (os : List ℕ) (x : Option ℕ) → (not (is_from o x) && stays os x) ≡ stays (o ∷ os) x
    test o os None = refl
    test o os (Some x) = none_of (x == o) (o == x) (among os x) (turned x o)

    queue : (l : List Queued) → filter (λ (q : Queued). stays os q.timer) (without_from o l) ≡ filter (λ (q : Queued). stays (o ∷ os) q.timer) l
    queue [] = refl
    queue (q ∷ l) = go (is_from o q.timer) refl (stays os q.timer) refl (queue l)
      where
        go : (a : Bool) → is_from o q.timer ≡ a → (b : Bool) → stays os q.timer ≡ b
            → filter (λ (q : Queued). stays os q.timer) (without_from o l) ≡ filter (λ (q : Queued). stays (o ∷ os) q.timer) l
            → filter (λ (q : Queued). stays os q.timer) (if not a then q ∷ without_from o l else without_from o l)
            ≡ (if stays (o ∷ os) q.timer then q ∷ filter (λ (q : Queued). stays (o ∷ os) q.timer) l else filter (λ (q : Queued). stays (o ∷ os) q.timer) l)
        go true e b f rest =
            rest ∙ ap (λ (c : Bool). if c then q ∷ filter (λ (x : Queued). stays (o ∷ os) x.timer) l else filter (λ (x : Queued). stays (o ∷ os) x.timer) l)
            (sym (ap (λ (c : Bool). not c && stays os q.timer) e) ∙ test o os q.timer)
        go false e b f rest =
            ap (λ (z : List Queued). if stays os q.timer then q ∷ z else z) rest
            ∙ ap (λ (c : Bool). if c then q ∷ filter (λ (x : Queued). stays (o ∷ os) x.timer) l else filter (λ (x : Queued). stays (o ∷ os) x.timer) l)
            (sym (ap (λ (c : Bool). not c && stays os q.timer) e) ∙ test o os q.timer)

    whole : (ls : List (List Queued)) → map (filter (λ (q : Queued). stays os q.timer)) (withdrawn ls o) ≡ map (filter (λ (q : Queued). stays (o ∷ os) q.timer)) ls
    whole [] = refl
    whole (l ∷ ls) = ap (λ (z : List Queued). z ∷ map (filter (λ (q : Queued). stays os q.timer)) (withdrawn ls o)) (queue l) ∙ ap (λ (zs : List (List Queued)). filter (λ (q : Queued). stays (o ∷ os) q.timer) l ∷ zs) (whole ls)

gone_renamed : (r : ℕ → ℕ) (s u : State) → IsRenamed r s u → (os us : List ℕ) → ((x : ℕ) → among us (r x) ≡ among os x) → IsRenamed r (all_gone s os) (all_gone u us)
gone_renamed r s u are os us same =
    subst (λ (x : State). IsRenamed r x (all_gone u us)) (sym (gone_is os s))
    (subst (λ (x : State). IsRenamed r (record s { objects = (all_gone s os).objects; apcs = (all_gone s os).apcs }) x) (sym (gone_is us u))
    (with_apcs r (record s { objects = (all_gone s os).objects }) (record u { objects = (all_gone u us).objects })
    (with_objects r s u are (all_gone s os).objects (all_gone u us).objects
    (record {
      renaming = are.renaming;
      own = λ x less. let enough = are.objects.enough in subst (λ (o : Object). is_own o ≡ true) (sym (gone_at os s x (omega (arith, less, enough)))) (own (among os x) (object_at s.objects x) (are.own x less));
      moved = record {
        enough = let long = gone_long os s in let most = are.objects.enough in omega (arith, long, most);
        count = gone_long us u ∙ (are.objects.count ∙ sym (gone_long os s));
        each = λ x. at x (cases_lt x (length s.objects));
      };
    }))
    (all_gone s os).apcs (all_gone u us).apcs
    (subst (λ (l : List (List Queued)). AreMoved s.threads r (map (renamed_apc r)) [] l (all_gone u us).apcs) (sym (gone_apcs os s))
    (subst (λ (l : List (List Queued)). AreMoved s.threads r (map (renamed_apc r)) [] (map (filter (λ (q : Queued). stays os q.timer)) s.apcs) l) (sym (gone_apcs us u))
    (moved_map s.threads r (map (renamed_apc r)) [] s.apcs u.apcs are.apcs (filter (λ (q : Queued). stays os q.timer)) (filter (λ (q : Queued). stays us q.timer)) refl refl
    (filter_mapped (renamed_apc r) (λ (q : Queued). stays os q.timer) (λ (q : Queued). stays us q.timer) (λ (q : Queued). stay q.timer)))))))
  where
    own : (b : Bool) (o : Object) → is_own o ≡ true → is_own (if b then Gone else o) ≡ true
    own true o is = refl
    own false o is = is

    stay : (o : Option ℕ) → stays us (option_map r o) ≡ stays os o
    stay None = refl
    stay (Some x) = ap not (same x)

    either : (b : Bool) (x : ℕ) → (if b then Gone else object_at u.objects (r x)) ≡ renamed_object r (if b then Gone else object_at s.objects x)
    either true x = refl
    either false x = are.objects.each x

    at : (x : ℕ) → (x < length s.objects) ⊎ (length s.objects ≤ x) → object_at (all_gone u us).objects (r x) ≡ renamed_object r (object_at (all_gone s os).objects x)
    at x (inl less) =
        let count = are.objects.count in
        let there : r x < length u.objects = let near = lt_there s.threads r are.renaming (length s.objects) x are.objects.enough less in omega (arith, near, count) in
        gone_at us u (r x) there
        ∙ (ap (λ (b : Bool). if b then Gone else object_at u.objects (r x)) (same x)
        ∙ (either (among os x) x ∙ ap (λ (o : Object). renamed_object r o) (sym (gone_at os s x less))))
    at x (inr most) =
        let count = are.objects.count in
        let enough = are.objects.enough in
        let still = are.renaming.outside x (omega (arith, enough, most)) in
        let long = gone_long us u in
        let other = gone_long os s in
        past (all_gone u us).objects (r x) (Thread false) (omega (arith, long, count, still, most))
        ∙ ap (λ (o : Object). renamed_object r o) (sym (past (all_gone s os).objects x (Thread false) (omega (arith, other, most))))

pub ends_renamed : (r : ℕ → ℕ) (s u new : State) → IsRenamed r s u → Ends s new → (v : State) × Ends u v × IsRenamed r new v
ends_renamed r s u new are ends = (
  all_gone u (renamed_order r ends.objects),
  record {
    objects = renamed_order r ends.objects;
    forgotten = rising_renamed s.threads r are.renaming (λ o. is_forgotten s o ≡ true) (λ o. is_forgotten u o ≡ true) ends.objects ends.forgotten
        (λ o is. forgotten_renamed r s u are o ∙ is)
        (λ o is. sym (forgotten_renamed r s u are (r o)) ∙ (ap (λ (x : ℕ). is_forgotten u x) (are.renaming.back o) ∙ is));
    leaves = refl;
  },
  subst (λ (x : State). IsRenamed r x (all_gone u (renamed_order r ends.objects))) (sym ends.leaves)
      (gone_renamed r s u are ends.objects (renamed_order r ends.objects) (among_renamed s.threads r are.renaming ends.objects)),
)
