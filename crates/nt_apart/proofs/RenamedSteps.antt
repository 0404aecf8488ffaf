-- Calls and ticks of renamed threads.
use Rattle.std.proofs.Common.{◌≡◌, ◌<◌, ◌≤◌, inl, inr, ℕ, Bool, true, false, ◌&&◌, List, [], ◌∷◌, ◌++◌, map, refl, sym, ap, ◌∙◌, subst, arith, Option, Result, Ok, Err, Some, None}
use Rattle.std.specs.Prelude.{◌==◌, if◌then◌else◌, option_map}
use Rattle.std.proofs.lemmas.List.Elements.{Contains-append_left, Contains-append_right, Contains-append_cases}
use Rattle.nt_status.specs.Status.{io_completion_code}
use Rattle.nt_objects.specs.Object.{with_set}
use Rattle.nt_waits.specs.declared.wait.Wait.{Wait}
use Rattle.nt_apc.specs.Queues.{has_apc}
use Rattle.nt_calls.specs.declared.call.Call.{Call}
use Rattle.nt_calls.specs.declared.call.Act.{Act}
use Rattle.nt_calls.specs.declared.call.Reply.{Reply}
use Rattle.nt_calls.specs.declared.call.Grant.{Grant}
use Rattle.nt_calls.specs.State.{State, with_handing, pending_too, waits_over}
use Rattle.nt_calls.specs.Serving.{fits, status, taken_by, sequence, Serve, late_status, is_sleep, sleeps, ending, IsAlerted, Alert, IsLate, TimeOut}
use Rattle.nt_calls.specs.Change.{change, all_expired}
use Rattle.nt_calls.specs.Steps.{begun, after_serving, answered, asked_wait, timeout_of, Step, IsAwaited, IsNextMoment, NothingDue, MomentPasses, MomentsPass, Made, Called, Ticked}
use Rattle.nt_apart.specs.Fewer.{IsRenamed, AreGrantsRenamed, renamed_wait, renamed_waiting, renamed_call, renamed_grant, ComesRenamed}
use Rattle.nt_apart.proofs.RenamedObjects.{fits_renamed, status_renamed, sleep_renamed, setting}
use Rattle.nt_apart.proofs.RenamedStates.{objects_of, changed, handed, too, has_apc_renamed, taken_state, served_renamed, sequence_renamed, over_renamed}
use Rattle.nt_apart.proofs.RenamedChanges.{asked_renamed, timeout_renamed, change_renamed, reply_renamed, all_expired_renamed}
use Rattle.nt_apart.proofs.Renaming.{grants_mapped, past, renamed_order, among_renamed, rising_renamed, grants_in_order}
use Rattle.nt_apart.proofs.RenamedNumbers.{numbers_renamed, timers_renamed, due_there, due_back, ends_renamed}
use Rattle.nt_status.specs.declared.refusal.Refusal.{Refusal}
use Rattle.nt_calls.specs.Naming.{call_named}
use Rattle.nt_calls.specs.Rights.{is_denied}
use Rattle.nt_apart.proofs.RenamedRefusals.{call_named_renamed, denied_renamed, refusal_renamed, is_refusal_renamed}
use Rattle.std.specs.FinMap as fin

-- ---- alerts and deadlines

alerted_there : (r : ℕ → ℕ) (s u : State) → IsRenamed r s u → (t : ℕ) → IsAlerted s t → IsAlerted u (r t)
alerted_there r s u are t (w, pending, alerted) = (
  renamed_wait r w,
  are.waits t ∙ ap (λ (o : Option Wait). option_map (renamed_wait r) o) pending,
  ap (λ (b : Bool). w.alertable && b) (has_apc_renamed s.threads r s.apcs u.apcs are.apcs t) ∙ alerted,
)

-- what the renamed wait was
was : (r : ℕ → ℕ) (o : Option Wait) (w : Wait) → option_map (renamed_wait r) o ≡ Some w → (v : Wait) × (o ≡ Some v) × (renamed_wait r v ≡ w)
was r None w e = absurd (let h : None ≡ Some w = e in cc)
was r (Some v) w e = (v, refl, let h : Some (renamed_wait r v) ≡ Some w = e in cc)

pub was_pending : (r : ℕ → ℕ) (s u : State) → IsRenamed r s u → (t : ℕ) (w : Wait) → fin.get u.waits t ≡ Some w → (v : Wait) × (fin.get s.waits (r t) ≡ Some v) × (renamed_wait r v ≡ w)
was_pending r s u are t w e = was r (fin.get s.waits (r t)) w (sym (are.waits (r t)) ∙ (ap (λ (x : ℕ). fin.get u.waits x) (are.renaming.back t) ∙ e))

alerted_back : (r : ℕ → ℕ) (s u : State) → IsRenamed r s u → (t : ℕ) → IsAlerted u t → IsAlerted s (r t)
alerted_back r s u are t (w, pending, alerted) =
    let before = was_pending r s u are t w pending in (
      before.0,
      before.1,
      ap (λ (b : Bool). before.0.alertable && b) (sym (has_apc_renamed s.threads r s.apcs u.apcs are.apcs (r t)) ∙ ap (λ (x : ℕ). has_apc u.apcs x) (are.renaming.back t))
          ∙ (ap (λ (v : Wait). v.alertable && has_apc u.apcs t) before.2 ∙ alerted),
    )

-- grants and a state of which this is true, with the renamed state
pub record ComeRenamed (r : ℕ → ℕ) (come : List Grant → State → Type 0) (grants : List Grant) (new : State) : Type 0 where
  pub others : List Grant
  pub state : State
  pub comes : come others state
  pub same : AreGrantsRenamed r grants others
  pub are : IsRenamed r new state

pub alert_renamed : (r : ℕ → ℕ) (s u new : State) (grants : List Grant) → IsRenamed r s u → Alert s grants new → ComeRenamed r (Alert u) grants new
alert_renamed r s u new grants are alert = record {
  others = map (ending io_completion_code) (renamed_order r alert.threads);
  state = waits_over u (renamed_order r alert.threads) true;
  comes = record {
    threads = renamed_order r alert.threads;
    alerted = rising_renamed s.threads r are.renaming (IsAlerted s) (IsAlerted u) alert.threads alert.alerted (alerted_there r s u are) (alerted_back r s u are);
    ends = refl;
    leaves = refl;
  };
  same = subst (λ (gs : List Grant). AreGrantsRenamed r gs (map (ending io_completion_code) (renamed_order r alert.threads))) (sym alert.ends)
      (grants_in_order s.threads r are.renaming (ending io_completion_code) (ending io_completion_code) (λ t. refl) alert.threads);
  are = subst (λ (x : State). IsRenamed r x (waits_over u (renamed_order r alert.threads) true)) (sym alert.leaves)
      (over_renamed r s u are alert.threads (renamed_order r alert.threads) (among_renamed s.threads r are.renaming alert.threads) true);
}

sleeps_renamed : (r : ℕ → ℕ) (o : Option Wait) → sleeps (option_map (renamed_wait r) o) ≡ sleeps o
sleeps_renamed r None = refl
sleeps_renamed r (Some w) = sleep_renamed r w

abbrev late_grant : State → ℕ → Grant
late_grant s t = ending (late_status (sleeps (fin.get s.waits t))) t

pub time_out_renamed : (r : ℕ → ℕ) (s u new : State) (moment : ℕ) (grants : List Grant) → IsRenamed r s u → TimeOut s moment grants new → ComeRenamed r (TimeOut u moment) grants new
time_out_renamed r s u new moment grants are out = record {
  others = map (late_grant u) (renamed_order r out.threads);
  state = waits_over u (renamed_order r out.threads) false;
  comes = record {
    threads = renamed_order r out.threads;
    late = rising_renamed s.threads r are.renaming (IsLate s moment) (IsLate u moment) out.threads out.late there back;
    ends = refl;
    leaves = refl;
  };
  same = subst (λ (gs : List Grant). AreGrantsRenamed r gs (map (late_grant u) (renamed_order r out.threads))) (sym out.ends)
      (grants_in_order s.threads r are.renaming (late_grant s) (late_grant u) same out.threads);
  are = subst (λ (x : State). IsRenamed r x (waits_over u (renamed_order r out.threads) false)) (sym out.leaves)
      (over_renamed r s u are out.threads (renamed_order r out.threads) (among_renamed s.threads r are.renaming out.threads) false);
}
  where
    same : (t : ℕ) → ending (late_status (sleeps (fin.get u.waits (r t)))) (r t) ≡ renamed_grant r (ending (late_status (sleeps (fin.get s.waits t))) t)
    same t = ap (λ (b : Bool). ending (late_status b) (r t)) (ap (λ (o : Option Wait). sleeps o) (are.waits t) ∙ sleeps_renamed r (fin.get s.waits t))

    there : (t : ℕ) → IsLate s moment t → IsLate u moment (r t)
    there t (w, pending, due) = (renamed_wait r w, are.waits t ∙ ap (λ (o : Option Wait). option_map (renamed_wait r) o) pending, due)

    back : (t : ℕ) → IsLate u moment t → IsLate s moment (r t)
    back t (w, pending, due) =
        let before = was_pending r s u are t w pending in
        (before.0, before.1, ap (λ (v : Wait). v.deadline) before.2 ∙ due)

-- ---- a wait begins

abbrev pub Answer : Type 0
Answer = Reply × State

-- the same reply, and the renamed state
abbrev pub AnswersAlike : (ℕ → ℕ) → Answer → Answer → Type 0
AnswersAlike r p q = (q.0 ≡ p.0) × IsRenamed r p.1 q.1

-- how a wait begins, by what is known of it
abbrev begun_by : State → ℕ → Wait → Bool → Bool → Bool → Answer
begun_by s t w fit alerted now =
    if fit then (Reply.Status (status s.objects t w), taken_by s t w)
    else if alerted then (Reply.Status io_completion_code, with_handing s t true)
    else if now then (Reply.Status (late_status (is_sleep w)), with_handing s t false)
    else (Reply.Pended, pending_too s t w)

begun_alike : (r : ℕ → ℕ) (s u : State) → IsRenamed r s u → (t : ℕ) (w : Wait) (a b c : Bool) → fits s.objects t w ≡ a → AnswersAlike r (begun_by s t w a b c) (begun_by u (r t) (renamed_wait r w) a b c)
begun_alike r s u are t w true b c fit =
    (ap (λ (k : ℕ). Reply.Status k) (status_renamed s.threads r s.objects u.objects (objects_of r s u are) t w fit), taken_state r s u are t w fit)
begun_alike r s u are t w false true c fit = (refl, handed r s u are t true)
begun_alike r s u are t w false false true fit = (ap (λ (b : Bool). Reply.Status (late_status b)) (sleep_renamed r w), handed r s u are t false)
begun_alike r s u are t w false false false fit = (refl, too r s u are t w)

begun_renamed : (r : ℕ → ℕ) (s u : State) → IsRenamed r s u → (t : ℕ) (w : Wait) (ms : ℕ) → AnswersAlike r (begun s t w ms) (begun u (r t) (renamed_wait r w) ms)
begun_renamed r s u are t w ms =
    subst (λ (b : Bool). AnswersAlike r (begun s t w ms) (begun_by u (r t) (renamed_wait r w) b (w.alertable && has_apc u.apcs (r t)) (ms == 0)))
    (sym (fits_renamed s.threads r s.objects u.objects (objects_of r s u are) t w))
    (subst (λ (b : Bool). AnswersAlike r (begun s t w ms) (begun_by u (r t) (renamed_wait r w) (fits s.objects t w) (w.alertable && b) (ms == 0)))
    (sym (has_apc_renamed s.threads r s.apcs u.apcs are.apcs t))
    (begun_alike r s u are t w (fits s.objects t w) (w.alertable && has_apc s.apcs t) (ms == 0) refl))

-- ---- a call

after_renamed : (r : ℕ → ℕ) (s u : State) → IsRenamed r s u → (call : Call) → IsRenamed r (after_serving call s) (after_serving (renamed_call r call) u)
after_renamed r s u are (Call.Act (Act.CreateEvent flags)) = are
after_renamed r s u are (Call.Act (Act.CreateSemaphore initial maximum)) = are
after_renamed r s u are (Call.Act (Act.CreateMutex flags)) = are
after_renamed r s u are (Call.Act (Act.SetEvent h)) = are
after_renamed r s u are (Call.Act (Act.ResetEvent h)) = are
after_renamed r s u are (Call.Act (Act.PulseEvent h)) = changed r s u are h (with_set false) (with_set false) (setting r false)
after_renamed r s u are (Call.Act (Act.ReleaseSemaphore h n)) = are
after_renamed r s u are (Call.Act (Act.ReleaseMutex h)) = are
after_renamed r s u are (Call.Act (Act.CreateTimer flags)) = are
after_renamed r s u are (Call.Act (Act.SetTimer h due period routine)) = are
after_renamed r s u are (Call.Act (Act.CancelTimer h)) = are
after_renamed r s u are (Call.Act (Act.QueueApc h routine arg)) = are
after_renamed r s u are (Call.Act Act.NextApc) = are
after_renamed r s u are (Call.Act (Act.Duplicate object access)) = are
after_renamed r s u are (Call.Act (Act.Close h)) = are
after_renamed r s u are (Call.Wait wait) = are
after_renamed r s u are Call.Exit = are

answered_renamed : (r : ℕ → ℕ) (old old' s u : State) → IsRenamed r old old' → IsRenamed r s u → (t : ℕ) (call : Call) → AnswersAlike r (answered old s t call) (answered old' u (r t) (renamed_call r call))
answered_renamed r old old' s u before are t (Call.Act act) = (reply_renamed r old old' before t act, are)
answered_renamed r old old' s u before are t (Call.Wait wait) =
    subst (λ (ms : ℕ). AnswersAlike r (begun s t (asked_wait s.now wait) (timeout_of wait)) (begun u (r t) (asked_wait u.now (renamed_waiting r wait)) ms)) (sym (timeout_renamed r wait))
    (subst (λ (w : Wait). AnswersAlike r (begun s t (asked_wait s.now wait) (timeout_of wait)) (begun u (r t) w (timeout_of wait))) (sym (asked_renamed r s u are wait))
    (begun_renamed r s u are t (asked_wait s.now wait) (timeout_of wait)))
answered_renamed r old old' s u before are t Call.Exit = (refl, are)

pub grants_append : (r : ℕ → ℕ) (a b c d : List Grant) → AreGrantsRenamed r a b → AreGrantsRenamed r c d → AreGrantsRenamed r (a ++ c) (b ++ d)
grants_append r a b c d one two = record {
  there = λ g has. elim (Contains-append_cases a c g has) [
    | inl first ↦ Contains-append_left b d (renamed_grant r g) (one.there g first)
    | inr second ↦ Contains-append_right b d (renamed_grant r g) (two.there g second)
  ];
  back = λ g has. elim (Contains-append_cases b d g has) [
    | inl first ↦ Contains-append_left a c (renamed_grant r g) (one.back g first)
    | inr second ↦ Contains-append_right a c (renamed_grant r g) (two.back g second)
  ];
}

pub step_renamed : (r : ℕ → ℕ) (s u new : State) (t : ℕ) (call : Call) (reply : Reply) (grants : List Grant) → IsRenamed r s u → Step s t call reply grants new → ComeRenamed r (Step u (r t) (renamed_call r call) reply) grants new
step_renamed r s u new t call reply grants are step =
    let serve = served_renamed r step.served (sequence s step.numbers) (change s t call) (change u (r t) (renamed_call r call)) step.calm (change_renamed r s u are t call) step.serves in
    let alert = alert_renamed r (after_serving call step.calm) (after_serving (renamed_call r call) serve.0) step.woken step.alerted (after_renamed r step.calm serve.0 serve.2 call) step.alerts in
    let last = answered_renamed r s u step.woken alert.state are alert.are t call in
    record {
      others = map (renamed_grant r) step.served ++ alert.others;
      state = (answered u alert.state (r t) (renamed_call r call)).1;
      comes = record {
        numbers = map r step.numbers;
        served = map (renamed_grant r) step.served;
        calm = serve.0;
        alerted = alert.others;
        woken = alert.state;
        changed = numbers_renamed r s u are t call step.numbers step.changed;
        serves = subst (λ (q : List ℕ). Serve q (change u (r t) (renamed_call r call)) (map (renamed_grant r) step.served) serve.0) (sym (sequence_renamed r s u are step.numbers)) serve.1;
        alerts = alert.comes;
        in_order = refl;
        answers = ap (λ (a : Reply). (a, (answered u alert.state (r t) (renamed_call r call)).1)) (ap (λ (p : Answer). p.0) step.answers ∙ sym last.0);
      };
      same = subst (λ (gs : List Grant). AreGrantsRenamed r gs (map (renamed_grant r) step.served ++ alert.others)) (sym step.in_order)
          (grants_append r step.served (map (renamed_grant r) step.served) step.alerted alert.others (grants_mapped s.threads r are.renaming step.served) alert.same);
      are = subst (λ (x : State). IsRenamed r x (answered u alert.state (r t) (renamed_call r call)).1) (sym (ap (λ (p : Answer). p.1) step.answers)) last.1;
    }

-- ---- moments

awaited_there : (r : ℕ → ℕ) (s u : State) → IsRenamed r s u → (v : ℕ) → IsAwaited s v → IsAwaited u v
awaited_there r s u are v (inl (h, due)) = inl (r h, due_there r s u are v h due)
awaited_there r s u are v (inr (t, w, pending, due)) = inr (r t, renamed_wait r w, are.waits t ∙ ap (λ (o : Option Wait). option_map (renamed_wait r) o) pending, due)

awaited_back : (r : ℕ → ℕ) (s u : State) → IsRenamed r s u → (v : ℕ) → IsAwaited u v → IsAwaited s v
awaited_back r s u are v (inl (h, due)) = inl (r h, due_back r s u are v h due)
awaited_back r s u are v (inr (t, w, pending, due)) =
    let before = was_pending r s u are t w pending in
    inr (r t, before.0, before.1, ap (λ (x : Wait). x.deadline) before.2 ∙ due)

next_renamed : (r : ℕ → ℕ) (s u : State) → IsRenamed r s u → (m v : ℕ) → IsNextMoment s m v → IsNextMoment u m v
next_renamed r s u are m v next = (awaited_there r s u are v next.0, next.1, λ k awaited. next.2 k (awaited_back r s u are k awaited))

passes_renamed : (r : ℕ → ℕ) (s u new : State) (m v : ℕ) (grants : List Grant) → IsRenamed r s u → MomentPasses s m v grants new → ComeRenamed r (MomentPasses u m v) grants new
passes_renamed r s u new m v grants are passes =
    let serve = served_renamed r passes.served (sequence s passes.timers) (all_expired m s passes.timers) (all_expired m u (map r passes.timers)) passes.calm (all_expired_renamed r passes.timers s u are m) passes.serves in
    let alert = alert_renamed r passes.calm serve.0 passes.woken passes.alerted serve.2 passes.alerts in
    let out = time_out_renamed r passes.woken alert.state new v passes.timed alert.are passes.times_out in
    record {
      others = (map (renamed_grant r) passes.served ++ alert.others) ++ out.others;
      state = out.state;
      comes = record {
        timers = map r passes.timers;
        served = map (renamed_grant r) passes.served;
        calm = serve.0;
        alerted = alert.others;
        woken = alert.state;
        timed = out.others;
        due = timers_renamed r s u are v passes.timers passes.due;
        serves = subst (λ (q : List ℕ). Serve q (all_expired m u (map r passes.timers)) (map (renamed_grant r) passes.served) serve.0) (sym (sequence_renamed r s u are passes.timers)) serve.1;
        alerts = alert.comes;
        times_out = out.comes;
        in_order = refl;
      };
      same = subst (λ (gs : List Grant). AreGrantsRenamed r gs ((map (renamed_grant r) passes.served ++ alert.others) ++ out.others)) (sym passes.in_order)
          (grants_append r (passes.served ++ passes.alerted) (map (renamed_grant r) passes.served ++ alert.others) passes.timed out.others
          (grants_append r passes.served (map (renamed_grant r) passes.served) passes.alerted alert.others (grants_mapped s.threads r are.renaming passes.served) alert.same)
          out.same);
      are = out.are;
    }

none_due : (r : ℕ → ℕ) (s u : State) → IsRenamed r s u → (m : ℕ) → NothingDue s m → NothingDue u m
none_due r s u are m none v awaited = none v (awaited_back r s u are v awaited)

at_moment : (r : ℕ → ℕ) (s u : State) → IsRenamed r s u → (m : ℕ) → IsRenamed r (record s { now = m }) (record u { now = m })
at_moment r s u are m = record {
  renaming = are.renaming;
  few = are.few;
  own = are.own;
  threads = are.threads;
  now = refl;
  handles = are.handles;
  objects = are.objects;
  waits = are.waits;
  queues = are.queues;
  apcs = are.apcs;
  handing = are.handing;
}

pub no_grants : (r : ℕ → ℕ) → AreGrantsRenamed r [] []
no_grants r = record { there = λ g has. absurd (let less = has.1 in omega (arith, less)); back = λ g has. absurd (let less = has.1 in omega (arith, less)) }

pub moments_renamed : (r : ℕ → ℕ) (m : ℕ) (moments : List ℕ) (s u new : State) (grants : List Grant) → IsRenamed r s u → MomentsPass s m moments grants new → ComeRenamed r (MomentsPass u m moments) grants new
moments_renamed r m [] s u new grants are (none, empty, is) = record {
  others = [];
  state = record u { now = m };
  comes = (none_due r s u are m none, refl, refl);
  same = subst (λ (gs : List Grant). AreGrantsRenamed r gs []) (sym empty) (no_grants r);
  are = subst (λ (x : State). IsRenamed r x (record u { now = m })) (sym is) (at_moment r s u are m);
}
moments_renamed r m (v ∷ moments) s u new grants are (here, later, mid, next, passes, pass, in_order) =
    let one = passes_renamed r s u mid m v here are passes in
    let rest = moments_renamed r m moments mid one.state new later one.are pass in
    record {
      others = one.others ++ rest.others;
      state = rest.state;
      comes = (one.others, rest.others, one.state, next_renamed r s u are m v next, one.comes, rest.comes, refl);
      same = subst (λ (gs : List Grant). AreGrantsRenamed r gs (one.others ++ rest.others)) (sym in_order) (grants_append r here one.others later rest.others one.same rest.same);
      are = rest.are;
    }

pub called_renamed : (r : ℕ → ℕ) (s u new : State) (t : ℕ) (call : Call) (result : Result Reply Refusal) (grants : List Grant) → IsRenamed r s u → Called s t call result grants new → ComesRenamed r (Called u (r t) (renamed_call r call) result) grants new
called_renamed r s u new t call (Ok reply) grants are (left, (accepted, step), ends) =
    let one = step_renamed r s u left t (call_named s.handles call) reply grants are step in
    let last = ends_renamed r left one.state new one.are ends in
    let names = call_named_renamed r s u are call in
    let denied = denied_renamed r s u are call in
    record {
      others = one.others;
      state = last.0;
      made = (
        one.state,
        subst (λ (c : Call). Made u (r t) (is_denied u (renamed_call r call)) c (Ok reply) one.others one.state) (sym names)
            (subst (λ (b : Bool). Made u (r t) b (renamed_call r (call_named s.handles call)) (Ok reply) one.others one.state) (sym denied)
            (refusal_renamed r s u are t (is_denied s call) (call_named s.handles call) ∙ accepted, one.comes)),
        last.1,
      );
      same = one.same;
      is = last.2;
    }
called_renamed r s u new t call (Err x) grants are (refused, empty, is) =
    let names = call_named_renamed r s u are call in
    let denied = denied_renamed r s u are call in
    record {
      others = [];
      state = u;
      made =
          subst (λ (c : Call). Made u (r t) (is_denied u (renamed_call r call)) c (Err x) [] u) (sym names)
          (subst (λ (b : Bool). Made u (r t) b (renamed_call r (call_named s.handles call)) (Err x) [] u) (sym denied)
          (is_refusal_renamed r s u are t (is_denied s call) (call_named s.handles call) x refused, refl, refl));
      same = subst (λ (gs : List Grant). AreGrantsRenamed r gs []) (sym empty) (no_grants r);
      is = subst (λ (z : State). IsRenamed r z u) (sym is) are;
    }

pub ticked_renamed : (r : ℕ → ℕ) (s u new : State) (moment : ℕ) (result : Result Reply Refusal) (grants : List Grant) → IsRenamed r s u → Ticked s moment result grants new → ComesRenamed r (Ticked u moment result) grants new
ticked_renamed r s u new moment (Ok reply) grants are (ahead, done, (moments, left, passes, ends)) =
    let one = moments_renamed r moment moments s u left grants are passes in
    let last = ends_renamed r left one.state new one.are ends in
    record {
      others = one.others;
      state = last.0;
      made = (subst (λ (now : ℕ). now ≤ moment) (sym are.now) ahead, done, (moments, one.state, one.comes, last.1));
      same = one.same;
      is = last.2;
    }
ticked_renamed r s u new moment (Err x) grants are (past, is_back, empty, is) = record {
  others = [];
  state = u;
  made = (subst (λ (now : ℕ). moment < now) (sym are.now) past, is_back, refl, refl);
  same = subst (λ (gs : List Grant). AreGrantsRenamed r gs []) (sym empty) (no_grants r);
  is = subst (λ (z : State). IsRenamed r z u) (sym is) are;
}
