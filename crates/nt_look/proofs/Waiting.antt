-- Waits that time alone does not end, and what leaves them so.
use Rattle.std.proofs.Common.{◌≡◌, ◌≢◌, ℕ, zero, suc, Bool, true, false, cond, not, ◌&&◌, ◌||◌, ◌==◌, List, [], ◌∷◌, ◌++◌, refl, sym, ap, ◌∙◌, subst, arith, Option, Some, None, inl, inr, Contains}
use Rattle.std.specs.Prelude.{nat_lt, slice_set, slice_index_or, option_map}
use Rattle.std.specs.List.{list_any, list_all}
use Rattle.std.specs.FinMap.{get}
use Rattle.std.proofs.lemmas.Bool.{false≢true}
use Rattle.std.proofs.lemmas.Bool.Decides.{nat_tests}
use Rattle.std.proofs.lemmas.List.{get_or-set_other}
use Rattle.nt_status.proofs.Lists.{contains_first, contains_later}
use Rattle.nt_objects.specs.declared.object.Object.{Object}
use Rattle.nt_objects.specs.declared.object.Object.TheVariants.{Event, Semaphore, Mutex, Timer, Thread, Gone}
use Rattle.nt_objects.specs.declared.object.Armed.{Armed}
use Rattle.nt_objects.specs.declared.object.Routine.{Routine}
use Rattle.nt_objects.specs.Object.{signaled, due_of, setter_of, setting_of, has_ended, with_set, armed_with, rearmed}
use Rattle.nt_waits.specs.declared.wait.Wait.{Wait}
use Rattle.nt_apc.specs.declared.apc.Queued.{Queued}
use Rattle.nt_apc.specs.Queues.{has_apc, is_queued, withdrawn, without_from}
use Rattle.nt_calls.specs.State.{State, object_at}
use Rattle.nt_calls.specs.Rising.{IsRising}
use Rattle.nt_calls.specs.Serving.{is_ready, is_sleep, fits}
use Rattle.nt_calls.specs.Change.{expired, expired_as, all_expired, notified}
use Rattle.nt_calls.specs.Living.{runs, gone, all_gone}
use Rattle.nt_machine.proofs.Changing.{object_at-set_other}
use Rattle.nt_look.specs.Hangs.{will_come, comes_in_time, fits_in_time, is_by, will_call, is_called_in_time, ends_in_time}
use Rattle.nt_look.proofs.Parts.{neither, none_of, not_both, not_first, not_second, second_false, not_with, both_of, any_less, all_less, at_set, any_set, any_at}

-- time alone ends no wait
abbrev pub AreLasting : State → Type 0
AreLasting s = (t : ℕ) (w : Wait) → get s.waits t ≡ Some w → ends_in_time s t w ≡ false

-- ---- less than before comes in time

by_less : (p q : ℕ → Bool) → ((h : ℕ) → p h ≡ false → q h ≡ false) → (w : Wait) → cond w.all (not (is_sleep w) && list_all p w.objects) (list_any p w.objects) ≡ false → cond w.all (not (is_sleep w) && list_all q w.objects) (list_any q w.objects) ≡ false
by_less p q less w e = go w.all e
  where
    go : (all : Bool) → cond all (not (is_sleep w) && list_all p w.objects) (list_any p w.objects) ≡ false → cond all (not (is_sleep w) && list_all q w.objects) (list_any q w.objects) ≡ false
    go true is = elim (not_both (not (is_sleep w)) (list_all p w.objects) is) [
      | inl sleeps ↦ not_first (not (is_sleep w)) (list_all q w.objects) sleeps
      | inr some ↦ not_second (not (is_sleep w)) (list_all q w.objects) (all_less p q less w.objects some)
    ]
    go false is = any_less p q less w.objects is

-- of thread t: an APC is queued, or will be by a timer
abbrev pub is_called : List (List Queued) → List Object → ℕ → Bool
is_called apcs objects t = has_apc apcs t || is_called_in_time objects t

pub lasting_less : (s new : State) → new.waits ≡ s.waits → ((t o : ℕ) → comes_in_time s.objects t o ≡ false → comes_in_time new.objects t o ≡ false)
    → ((t : ℕ) → is_called s.apcs s.objects t ≡ false → is_called new.apcs new.objects t ≡ false) → AreLasting s → AreLasting new
lasting_less s new waits comes calls lasting t w pends =
    let old = lasting t w (ap (λ m. get m t) (sym waits) ∙ pends) in
    let alert : Bool = w.alertable && is_called s.apcs s.objects t in
    let first = neither (will_come w.deadline) (fits_in_time s.objects t w || alert) old in
    let second = neither (fits_in_time s.objects t w) alert first.1 in
    none_of (will_come w.deadline) (fits_in_time new.objects t w || (w.alertable && is_called new.apcs new.objects t)) first.0
    (none_of (fits_in_time new.objects t w) (w.alertable && is_called new.apcs new.objects t)
    (by_less (comes_in_time s.objects t) (comes_in_time new.objects t) (comes t) w second.0)
    (not_with w.alertable (is_called s.apcs s.objects t) (is_called new.apcs new.objects t) (calls t) second.1))

-- what time does not satisfy, the objects do not
pub unfit : (s : State) (t : ℕ) (w : Wait) → ends_in_time s t w ≡ false → fits s.objects t w ≡ false
unfit s t w e =
    let alert : Bool = w.alertable && is_called s.apcs s.objects t in
    let first = neither (will_come w.deadline) (fits_in_time s.objects t w || alert) e in
    let second = neither (fits_in_time s.objects t w) alert first.1 in
    by_less (comes_in_time s.objects t) (is_ready s.objects t) (λ h none. (neither (is_ready s.objects t h) (will_come (due_of (object_at s.objects h))) none).0) w second.0

-- nor is it alerted
pub unalerted : (s : State) (t : ℕ) (w : Wait) → ends_in_time s t w ≡ false → (w.alertable && has_apc s.apcs t) ≡ false
unalerted s t w e =
    let alert : Bool = w.alertable && is_called s.apcs s.objects t in
    let first = neither (will_come w.deadline) (fits_in_time s.objects t w || alert) e in
    let second = neither (fits_in_time s.objects t w) alert first.1 in
    not_with w.alertable (is_called s.apcs s.objects t) (has_apc s.apcs t) (λ none. (neither (has_apc s.apcs t) (is_called_in_time s.objects t) none).0) second.1

-- nor does its deadline come
pub endless : (s : State) (t : ℕ) (w : Wait) → ends_in_time s t w ≡ false → will_come w.deadline ≡ false
endless s t w e = (neither (will_come w.deadline) (fits_in_time s.objects t w || (w.alertable && is_called s.apcs s.objects t)) e).0

-- ---- what time does

-- the same waits, which time alone does not end, and no thread runs that did not
pub record IsLater (old new : State) : Type 0 where
  pub waits : new.waits ≡ old.waits
  pub lasting : AreLasting new
  pub runs : (t : ℕ) → runs new t ≡ true → runs old t ≡ true

pub later_then : (a b c : State) → IsLater a b → IsLater b c → IsLater a c
later_then a b c x y = record { waits = y.waits ∙ x.waits; lasting = y.lasting; runs = λ t r. x.runs t (y.runs t r) }

pub later_same : (s : State) → AreLasting s → IsLater s s
later_same s lasting = record { waits = refl; lasting = lasting; runs = λ t r. r }

-- ---- a timer expires

setter_less : (x : Object) (armed : Armed) (v t : ℕ) → setting_of x ≡ Some armed → is_by t (setter_of x) ≡ false → is_by t (setter_of (armed_with (rearmed v armed) (with_set true x))) ≡ false
setter_less (Timer manual set (Some own)) armed v t e none = again (own.period == 0) (subst (λ (a : Armed). cond (own.period == 0) None (Some (record own { due = Rattle.nt_objects.specs.Object.next_above v own.due (Rattle.nt_objects.specs.Object.units own.period) })) ≡ rearmed v a) same refl)
  where
    same : own ≡ armed
    same = let h : Some own ≡ Some armed = e in (cc)

    again : (b : Bool) → cond b None (Some (record own { due = Rattle.nt_objects.specs.Object.next_above v own.due (Rattle.nt_objects.specs.Object.units own.period) })) ≡ rearmed v armed → is_by t (setter_of (Timer manual true (rearmed v armed))) ≡ false
    again true is = subst (λ (a : Option Armed). is_by t (setter_of (Timer manual true a)) ≡ false) is refl
    again false is = subst (λ (a : Option Armed). is_by t (setter_of (Timer manual true a)) ≡ false) is none
setter_less (Timer manual set None) armed v t e none = let h : None ≡ Some armed = e in (cc)
setter_less (Event manual set) armed v t e none = let h : None ≡ Some armed = e in (cc)
setter_less (Semaphore count maximum) armed v t e none = let h : None ≡ Some armed = e in (cc)
setter_less (Mutex owner depth abandoned) armed v t e none = let h : None ≡ Some armed = e in (cc)
setter_less (Thread ended) armed v t e none = let h : None ≡ Some armed = e in (cc)
setter_less Gone armed v t e none = let h : None ≡ Some armed = e in (cc)

-- who set it
setter_is : (x : Object) (armed : Armed) (r : Routine) → setting_of x ≡ Some armed → armed.routine ≡ Some r → setter_of x ≡ Some r.thread
setter_is (Timer manual set (Some own)) armed r e is =
    let h : Some own ≡ Some armed = e in
    let same : own ≡ armed = (cc) in
    ap (λ (a : Armed). option_map (λ (routine : Routine). routine.thread) a.routine) same ∙ ap (λ (o : Option Routine). option_map (λ (routine : Routine). routine.thread) o) is
setter_is (Timer manual set None) armed r e is = let h : None ≡ Some armed = e in (cc)
setter_is (Event manual set) armed r e is = let h : None ≡ Some armed = e in (cc)
setter_is (Semaphore count maximum) armed r e is = let h : None ≡ Some armed = e in (cc)
setter_is (Mutex owner depth abandoned) armed r e is = let h : None ≡ Some armed = e in (cc)
setter_is (Thread ended) armed r e is = let h : None ≡ Some armed = e in (cc)
setter_is Gone armed r e is = let h : None ≡ Some armed = e in (cc)

-- its APC comes to who set it alone
notified_other : (apcs : List (List Queued)) (timer due t : ℕ) (routine : Option Routine) → ((r : Routine) → routine ≡ Some r → (r.thread == t) ≡ false) → has_apc apcs t ≡ false → has_apc (notified apcs timer due routine) t ≡ false
notified_other apcs timer due t None other none = none
notified_other apcs timer due t (Some r) other none = go (is_queued apcs timer)
  where
    differs : t ≢ r.thread
    differs = let test = other r refl in grind (arith, nat_tests, test)

    queue : List Queued
    queue = slice_index_or apcs r.thread [] ++ record { apc = record { routine = r.routine; arg = r.arg; at = Some due }; timer = Some timer } ∷ []

    go : (b : Bool) → has_apc (cond b apcs (slice_set apcs r.thread queue)) t ≡ false
    go true = none
    go false = ap (λ q. list_any (λ _. true) q) (get_or-set_other apcs r.thread t queue [] differs) ∙ none

changed_ended : (armed : Option Armed) (set : Bool) (x : Object) → has_ended (armed_with armed (with_set set x)) ≡ has_ended x
changed_ended armed set (Event manual own) = refl
changed_ended armed set (Semaphore count maximum) = refl
changed_ended armed set (Mutex owner depth abandoned) = refl
changed_ended armed set (Timer manual own old) = refl
changed_ended armed set (Thread ended) = refl
changed_ended armed set Gone = refl

-- whoever an expiry calls set the timer
expired_as_uncalled : (v : ℕ) (s : State) (timer t : ℕ) (setting : Option Armed) → setting_of (object_at s.objects timer) ≡ setting → is_by t (setter_of (object_at s.objects timer)) ≡ false → is_called s.apcs s.objects t ≡ false
    → is_called (expired_as s v timer setting).apcs (expired_as s v timer setting).objects t ≡ false
expired_as_uncalled v s timer t None is apart none = none
expired_as_uncalled v s timer t (Some armed) is apart none =
    let new : Object = armed_with (rearmed v armed) (with_set true (object_at s.objects timer)) in
    let two = neither (has_apc s.apcs t) (is_called_in_time s.objects t) none in
    none_of (has_apc (notified s.apcs timer armed.due armed.routine) t) (is_called_in_time (slice_set s.objects timer new) t)
    (notified_other s.apcs timer armed.due t armed.routine (λ r by. ap (is_by t) (sym (setter_is (object_at s.objects timer) armed r is by)) ∙ apart) two.0)
    (any_set (will_call t) s.objects timer new (λ was. not_second (will_come (due_of new)) (is_by t (setter_of new)) (setter_less (object_at s.objects timer) armed v t is apart)) two.1)

pub expired_uncalled : (v : ℕ) (s : State) (timer t : ℕ) → is_by t (setter_of (object_at s.objects timer)) ≡ false → is_called s.apcs s.objects t ≡ false → is_called (expired v s timer).apcs (expired v s timer).objects t ≡ false
expired_uncalled v s timer t apart none = expired_as_uncalled v s timer t (setting_of (object_at s.objects timer)) refl apart none

-- a timer that will be set, and calls thread t by none of its APCs, is another's
uncalled_by : (s : State) (timer t : ℕ) → will_come (due_of (object_at s.objects timer)) ≡ true → is_called s.apcs s.objects t ≡ false → is_by t (setter_of (object_at s.objects timer)) ≡ false
uncalled_by s timer t due none =
    let two = neither (has_apc s.apcs t) (is_called_in_time s.objects t) none in
    second_false (will_come (due_of (object_at s.objects timer))) (is_by t (setter_of (object_at s.objects timer))) due (any_at (will_call t) refl s.objects timer two.1)

expired_later : (v : ℕ) (s : State) (timer : ℕ) → will_come (due_of (object_at s.objects timer)) ≡ true → AreLasting s → IsLater s (expired v s timer)
expired_later v s timer timely lasting = go (setting_of (object_at s.objects timer)) refl
  where
    go : (setting : Option Armed) → setting_of (object_at s.objects timer) ≡ setting → IsLater s (expired_as s v timer setting)
    go None is = later_same s lasting
    go (Some armed) is = record {
      waits = refl;
      lasting = lasting_less s (expired_as s v timer (Some armed)) refl comes calls lasting;
      runs = running;
    }
      where
        new : Object
        new = armed_with (rearmed v armed) (with_set true (object_at s.objects timer))

        never : (o t : ℕ) → comes_in_time s.objects t o ≡ false → timer ≡ o → (signaled new t || will_come (due_of new)) ≡ false
        never o t none same =
            let due = (neither (signaled (object_at s.objects o) t) (will_come (due_of (object_at s.objects o))) none).1 in
            absurd (false≢true (sym due ∙ (ap (λ k. will_come (due_of (object_at s.objects k))) (sym same) ∙ timely)))

        comes : (t o : ℕ) → comes_in_time s.objects t o ≡ false → comes_in_time (slice_set s.objects timer new) t o ≡ false
        comes t o none = at_set (λ x. (signaled x t || will_come (due_of x)) ≡ false) s.objects timer o new none (never o t none)

        calls : (t : ℕ) → is_called s.apcs s.objects t ≡ false → is_called (notified s.apcs timer armed.due armed.routine) (slice_set s.objects timer new) t ≡ false
        calls t none = expired_as_uncalled v s timer t (Some armed) is (uncalled_by s timer t timely none) none

        running : (t : ℕ) → (nat_lt t s.threads && not (has_ended (object_at (slice_set s.objects timer new) t))) ≡ true → runs s t ≡ true
        running t = at_set (λ x. (nat_lt t s.threads && not (has_ended x)) ≡ true → runs s t ≡ true) s.objects timer t new (λ r. r)
            (λ same r. ap (λ e. nat_lt t s.threads && not e) (ap (λ k. has_ended (object_at s.objects k)) (sym same) ∙ sym (changed_ended (rearmed v armed) true (object_at s.objects timer))) ∙ r)

-- an expiry changes no other object
pub expired_other : (v : ℕ) (s : State) (timer o : ℕ) → o ≢ timer → object_at (expired v s timer).objects o ≡ object_at s.objects o
expired_other v s timer o differs = go (setting_of (object_at s.objects timer))
  where
    go : (setting : Option Armed) → object_at (expired_as s v timer setting).objects o ≡ object_at s.objects o
    go None = refl
    go (Some armed) = object_at-set_other s.objects timer o (armed_with (rearmed v armed) (with_set true (object_at s.objects timer))) differs

-- each of these timers will be set
abbrev pub AreTimely : State → List ℕ → Type 0
AreTimely s timers = (timer : ℕ) → Contains timers timer → will_come (due_of (object_at s.objects timer)) ≡ true

timely_rest : (v : ℕ) (s : State) (timer : ℕ) (timers : List ℕ) → IsRising (timer ∷ timers) → AreTimely s (timer ∷ timers) → AreTimely (expired v s timer) timers
timely_rest v s timer timers rising timely o has =
    let above = rising.0 o has in
    ap (λ x. will_come (due_of x)) (expired_other v s timer o (λ same. omega (arith, above, same))) ∙ timely o (contains_later timer timers o has)

pub all_expired_later : (v : ℕ) (s : State) (timers : List ℕ) → IsRising timers → AreTimely s timers → AreLasting s → IsLater s (all_expired v s timers)
all_expired_later v s [] rising timely lasting = later_same s lasting
all_expired_later v s (timer ∷ timers) rising timely lasting =
    let first = expired_later v s timer (timely timer (contains_first timer timers timer refl)) lasting in
    later_then s (expired v s timer) (all_expired v (expired v s timer) timers) first
    (all_expired_later v (expired v s timer) timers rising.1 (timely_rest v s timer timers rising timely) first.lasting)

-- whom no timer calls they call not
pub all_expired_uncalled : (v : ℕ) (s : State) (timers : List ℕ) (t : ℕ) → IsRising timers → AreTimely s timers → is_called s.apcs s.objects t ≡ false → is_called (all_expired v s timers).apcs (all_expired v s timers).objects t ≡ false
all_expired_uncalled v s [] t rising timely none = none
all_expired_uncalled v s (timer ∷ timers) t rising timely none =
    all_expired_uncalled v (expired v s timer) timers t rising.1 (timely_rest v s timer timers rising timely)
    (expired_uncalled v s timer t (uncalled_by s timer t (timely timer (contains_first timer timers timer refl)) none) none)

-- ---- an object ends

pub withdrawn_fewer : (queues : List (List Queued)) (timer t : ℕ) → has_apc queues t ≡ false → has_apc (withdrawn queues timer) t ≡ false
withdrawn_fewer [] timer t none = refl
withdrawn_fewer (q ∷ qs) timer zero none = one q none
  where
    one : (q : List Queued) → list_any (λ _. true) q ≡ false → list_any (λ _. true) (without_from timer q) ≡ false
    one [] e = refl
    one (x ∷ xs) e = absurd (false≢true (sym e))
withdrawn_fewer (q ∷ qs) timer (suc t) none = withdrawn_fewer qs timer t none

pub gone_uncalled : (s : State) (o t : ℕ) → is_called s.apcs s.objects t ≡ false → is_called (gone s o).apcs (gone s o).objects t ≡ false
gone_uncalled s o t none =
    let two = neither (has_apc s.apcs t) (is_called_in_time s.objects t) none in
    none_of (has_apc (withdrawn s.apcs o) t) (is_called_in_time (slice_set s.objects o Gone) t) (withdrawn_fewer s.apcs o t two.0)
    (any_set (will_call t) s.objects o Gone (λ was. refl) two.1)

pub all_gone_uncalled : (s : State) (os : List ℕ) (t : ℕ) → is_called s.apcs s.objects t ≡ false → is_called (all_gone s os).apcs (all_gone s os).objects t ≡ false
all_gone_uncalled s [] t none = none
all_gone_uncalled s (o ∷ os) t none = all_gone_uncalled (gone s o) os t (gone_uncalled s o t none)

gone_later : (s : State) (o : ℕ) → AreLasting s → IsLater s (gone s o)
gone_later s o lasting = record {
  waits = refl;
  lasting = lasting_less s (gone s o) refl
      (λ t h none. at_set (λ x. (signaled x t || will_come (due_of x)) ≡ false) s.objects o h Gone none (λ same. refl))
      (λ t none. gone_uncalled s o t none)
      lasting;
  runs = λ t. at_set (λ x. (nat_lt t s.threads && not (has_ended x)) ≡ true → runs s t ≡ true) s.objects o t Gone (λ r. r)
      (λ same r. absurd (false≢true (both_of (nat_lt t s.threads) false r).1));
}

pub all_gone_later : (s : State) (os : List ℕ) → AreLasting s → IsLater s (all_gone s os)
all_gone_later s [] lasting = later_same s lasting
all_gone_later s (o ∷ os) lasting =
    let first = gone_later s o lasting in
    later_then s (gone s o) (all_gone (gone s o) os) first (all_gone_later (gone s o) os first.lasting)
