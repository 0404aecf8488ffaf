-- A knot holds, whatever the others do.
use Rattle.std.proofs.Common.{◌≡◌, ◌≢◌, ◌≤◌, ◌<◌, ℕ, Bool, true, false, not, ◌||◌, List, [], ◌∷◌, ◌++◌, refl, sym, ap, ◌∙◌, subst, arith, None, is_some, inl, inr, ◌⊎◌}
use Rattle.std.specs.Prelude.{nat_le}
use Rattle.std.specs.FinMap.{get}
use Rattle.std.specs.declared.result.Result.TheVariants.{Ok, Err}
use Rattle.std.proofs.lemmas.Bool.{false≢true}
use Rattle.std.proofs.lemmas.Bool.Decides.{nat_tests}
use Rattle.nt_status.specs.declared.limits.TheConstants.{MAX_MOMENT}
use Rattle.nt_status.specs.Access.{modify_state, set_context}
use Rattle.nt_objects.specs.declared.object.Object.{Object}
use Rattle.nt_objects.specs.Object.{is_thread, is_gone}
use Rattle.nt_calls.specs.declared.call.Call.{Call}
use Rattle.nt_calls.specs.declared.call.Reply.{Reply}
use Rattle.nt_calls.specs.declared.call.Grant.{Grant}
use Rattle.nt_calls.specs.Calls.{asked_wait, timeout_of}
use Rattle.nt_calls.specs.State.{State, object_at}
use Rattle.nt_calls.specs.Serving.{sequence}
use Rattle.nt_calls.specs.Change.{change, all_expired}
use Rattle.nt_calls.specs.Living.{all_gone, Ends}
use Rattle.nt_calls.specs.Naming.{call_named}
use Rattle.nt_calls.specs.Rights.{is_denied}
use Rattle.nt_calls.specs.Refusals.{refusal}
use Rattle.nt_calls.specs.Steps.{Step, answered, after_serving, MomentPasses, MomentsPass}
use Rattle.nt_calls.specs.Moves.{granted_to, one_if}
use Rattle.nt_calls.specs.Runs.{Turn, Calls, Ticks, Turns}
use Rattle.nt_machine.specs.Dispatcher.{Dispatcher, state}
use Rattle.nt_machine.specs.Lawful.{IsLawful}
use Rattle.nt_apc.specs.Queues.{has_apc}
use Rattle.nt_look.specs.Hangs.{is_called_in_time, is_given, can_be_called, IsKnot}
use Rattle.nt_look.proofs.Parts.{neither, none_of}
use Rattle.nt_look.specs.Hanging.{AreBy, IsIdleIn}
use Rattle.nt_look.proofs.Standstill.{free_to_call}
use Rattle.nt_look.proofs.Holding.{holds_firm, change_kept, after_kept, all_expired_kept, all_gone_kept}
use Rattle.nt_look.proofs.Waiting.{is_called, all_expired_uncalled, all_gone_uncalled}
use Rattle.nt_look.proofs.Passing.{due_timely}
use Rattle.nt_look.proofs.Calling.{change_uncalled, after_uncalled}
use Rattle.nt_look.proofs.Tied.{still_free, reach_none, Begins, Stays, stays_kept, grants_stay, alert_stays, time_out_stays, begun_stays, knot_stays}

-- no grant is a tied thread's
abbrev pub NoneTold : (ℕ → Bool) → (ℕ → Bool) → List Grant → Type 0
NoneTold callers knot gs = (t : ℕ) → knot t ≡ true → callers t ≡ true → granted_to t gs ≡ 0

told_append : (gs hs : List Grant) (t : ℕ) → granted_to t gs ≡ 0 → granted_to t hs ≡ 0 → granted_to t (gs ++ hs) ≡ 0
told_append [] hs t a b = b
told_append (g ∷ gs) hs t a b =
    let first : one_if (Rattle.std.specs.Prelude.nat_eq g.thread t) ≡ 0 = omega (arith, a) in
    let rest : granted_to t gs ≡ 0 = omega (arith, a) in
    let more = told_append gs hs t rest b in
    omega (arith, first, more)

-- ---- a call

-- who makes a call that is accepted is in no knot
outside : (callers knot : ℕ → Bool) (a s : State) (who : ℕ) (denied : Bool) (call : Call) → Begins callers knot a → Stays callers knot a s → callers who ≡ true → refusal s who denied call ≡ None → knot who ≡ false
outside callers knot a s who denied call begins stays may none = go (knot who) refl
  where
    go : (b : Bool) → knot who ≡ b → knot who ≡ false
    go false is = is
    go true is =
        let tied = begins.tied who is may in
        let waits : is_some (get s.waits who) ≡ true = ap is_some (stays.waits who tied.wait is may tied.pends) in
        absurd (false≢true (sym (free_to_call s who denied call none).2 ∙ waits))

step_stays : (callers knot : ℕ → Bool) (a s : State) (who : ℕ) (denied : Bool) (call : Call) (reply : Reply) (gs : List Grant) (new : State) → Begins callers knot a → Stays callers knot a s → knot who ≡ false → denied ≡ is_denied s call → refusal s who denied (call_named s.handles call) ≡ None → Step s who (call_named s.handles call) reply gs new
    → Stays callers knot a new × NoneTold callers knot gs
step_stays callers knot a s who denied asked reply gs new begins stays out so none step =
    (answers call step.woken woken.0 step.answers, λ t inside may. ap (granted_to t) step.in_order ∙ told_append step.served step.alerted t (served.1 t inside may) (woken.1 t inside may))
  where
    call : Call
    call = call_named s.handles asked

    other : (t : ℕ) → knot t ≡ true → callers t ≡ true → t ≢ who
    other t inside may same = false≢true (sym out ∙ (ap knot (sym same) ∙ inside))

    changed : Stays callers knot a (change s who call)
    changed = stays_kept callers knot a s (change s who call) begins stays
        (change_kept a.threads knot false 0 0 who s denied asked stays.threads (omega arith) (λ e. absurd (false≢true e)) out so none)
        (λ t o below. let few = begins.few in change_kept a.threads knot (not (is_given a modify_state o)) t o who s denied asked stays.threads (omega (arith, below, few)) (still_free callers knot a s o stays below) out so none)
        (λ t inside may never.
        let below = begins.known t inside may in
        let few = begins.few in
        change_uncalled t who s denied asked (other t inside may) (omega (arith, below, few)) (stays.ungiven set_context t below (reach_none a t never)) so none)

    served : Stays callers knot a step.calm × NoneTold callers knot step.served
    served = grants_stay callers knot (sequence s step.numbers) a (change s who call) step.served step.calm begins changed step.serves.0

    after : Stays callers knot a (after_serving call step.calm)
    after = stays_kept callers knot a step.calm (after_serving call step.calm) begins served.0 (after_kept a.threads knot false 0 0 call step.calm) (λ t o below. after_kept a.threads knot (not (is_given a modify_state o)) t o call step.calm)
        (λ t inside may never. after_uncalled call step.calm t)

    woken : Stays callers knot a step.woken × NoneTold callers knot step.alerted
    woken = alert_stays callers knot a (after_serving call step.calm) step.alerted step.woken begins after step.alerts

    answers : (call : Call) (woken : State) → Stays callers knot a woken → (reply, new) ≡ answered s woken who call → Stays callers knot a new
    answers (Call.Wait wait) w here is = begun_stays callers knot a w who (asked_wait w.now wait) (timeout_of wait) reply new other here is
    answers (Call.Act act) w here is = subst (Stays callers knot a) (sym (ap (λ p. p.1) is)) here
    answers Call.Exit w here is = subst (Stays callers knot a) (sym (ap (λ p. p.1) is)) here

ends_stay : (callers knot : ℕ → Bool) (a left new : State) → Begins callers knot a → Stays callers knot a left → Ends left new → Stays callers knot a new
ends_stay callers knot a left new begins stays ends =
    subst (Stays callers knot a) (sym ends.leaves)
    (stays_kept callers knot a left (all_gone left ends.objects) begins stays (all_gone_kept a.threads knot false 0 0 left ends.objects) (λ t o below. all_gone_kept a.threads knot (not (is_given a modify_state o)) t o left ends.objects)
    (λ t inside may never. all_gone_uncalled left ends.objects t))

-- ---- a tick

moment_stays : (callers knot : ℕ → Bool) (a s : State) (m u : ℕ) (gs : List Grant) (new : State) → u ≤ MAX_MOMENT → Begins callers knot a → Stays callers knot a s → MomentPasses s m u gs new → Stays callers knot a new × NoneTold callers knot gs
moment_stays callers knot a s m u gs new most begins stays passes =
    let timely = due_timely s u passes.timers most passes.due in
    let expired = stays_kept callers knot a s (all_expired m s passes.timers) begins stays (all_expired_kept a.threads knot false 0 0 m s passes.timers timely)
    (λ t o below. all_expired_kept a.threads knot (not (is_given a modify_state o)) t o m s passes.timers timely)
    (λ t inside may never. all_expired_uncalled m s passes.timers t passes.due.rising timely) in
    let served = grants_stay callers knot (sequence s passes.timers) a (all_expired m s passes.timers) passes.served passes.calm begins expired passes.serves.0 in
    let alerted = alert_stays callers knot a passes.calm passes.alerted passes.woken begins served.0 passes.alerts in
    let timed = time_out_stays callers knot a passes.woken u passes.timed new most begins alerted.0 passes.times_out in
    (timed.0, λ t inside may. ap (granted_to t) passes.in_order ∙ told_append (passes.served ++ passes.alerted) passes.timed t (told_append passes.served passes.alerted t (served.1 t inside may) (alerted.1 t inside may)) (timed.1 t inside may))

moments_stay : (callers knot : ℕ → Bool) (us : List ℕ) (a s : State) (m : ℕ) (gs : List Grant) (new : State) → m ≤ MAX_MOMENT → Begins callers knot a → Stays callers knot a s → MomentsPass s m us gs new → Stays callers knot a new × NoneTold callers knot gs
moments_stay callers knot [] a s m gs new most begins stays pass = (
  subst (Stays callers knot a) (sym pass.2) (record { threads = stays.threads; longer = stays.longer; waits = stays.waits; ungiven = stays.ungiven; uncalled = stays.uncalled; held = stays.held }),
  λ t inside may. ap (granted_to t) pass.1,
)
moments_stay callers knot (u ∷ us) a s m gs new most begins stays pass =
    let before = pass.3.1 in
    let here = moment_stays callers knot a s m u pass.0 pass.2 (omega (arith, before, most)) begins stays pass.4 in
    let later = moments_stay callers knot us a pass.2 m pass.1 new most begins here.0 pass.5 in
    (later.0, λ t inside may. ap (granted_to t) pass.6 ∙ told_append pass.0 pass.1 t (here.1 t inside may) (later.1 t inside may))

-- ---- turns

turns_stay : (callers knot : ℕ → Bool) (turns : List Turn) (a s new : State) → Begins callers knot a → Stays callers knot a s → AreBy callers turns → Turns s turns new → Stays callers knot a new × ((t : ℕ) → knot t ≡ true → callers t ≡ true → IsIdleIn turns t)
turns_stay callers knot [] a s new begins stays by run = (subst (Stays callers knot a) (sym run) stays, λ t inside may. tt)
turns_stay callers knot (Calls who call (Ok reply) grants ∷ turns) a s new begins stays by run =
    let mid : State = run.0 in
    let left : State = run.1.0 in
    let out = outside callers knot a s who (is_denied s call) (call_named s.handles call) begins stays by.0 run.1.1.0 in
    let here = step_stays callers knot a s who (is_denied s call) call reply grants left begins stays out refl run.1.1.0 run.1.1.1 in
    let later = turns_stay callers knot turns a mid new begins (ends_stay callers knot a left mid begins here.0 run.1.2) by.1 run.2 in
    (later.0, λ t inside may. (λ same. absurd (false≢true (sym out ∙ (ap knot same ∙ inside))), here.1 t inside may, later.1 t inside may))
turns_stay callers knot (Calls who call (Err cause) grants ∷ turns) a s new begins stays by run =
    let mid : State = run.0 in
    let later = turns_stay callers knot turns a mid new begins (subst (Stays callers knot a) (sym run.1.2) stays) by.1 run.2 in
    (later.0, λ t inside may. (λ same. refl, ap (granted_to t) run.1.1, later.1 t inside may))
turns_stay callers knot (Ticks by' m (Ok reply) grants ∷ turns) a s new begins stays by run =
    let mid : State = run.0 in
    let left : State = run.1.2.1 in
    let here = moments_stay callers knot run.1.2.0 a s m grants left by.0 begins stays run.1.2.2 in
    let later = turns_stay callers knot turns a mid new begins (ends_stay callers knot a left mid begins here.0 run.1.2.3) by.1 run.2 in
    (later.0, λ t inside may. (here.1 t inside may, later.1 t inside may))
turns_stay callers knot (Ticks by' m (Err cause) grants ∷ turns) a s new begins stays by run =
    let mid : State = run.0 in
    let later = turns_stay callers knot turns a mid new begins (subst (Stays callers knot a) (sym run.1.3) stays) by.1 run.2 in
    (later.0, λ t inside may. (ap (granted_to t) run.1.2, later.1 t inside may))

-- ---- a lawful dispatcher

none_else : (x : Object) → is_thread x ≡ false → is_gone x ≡ false → (is_thread x ≡ true) ⊎ (is_gone x ≡ true) → ⊥
none_else x thread gone (inl e) = false≢true (sym thread ∙ e)
none_else x thread gone (inr e) = false≢true (sym gone ∙ e)

-- what can not come is not queued, and by no timer
called_less : (a : State) (t : ℕ) → can_be_called a t ≡ false → is_called a.apcs a.objects t ≡ false
called_less a t none =
    let first = neither (has_apc a.apcs t) (is_called_in_time a.objects t || is_given a set_context t) none in
    none_of (has_apc a.apcs t) (is_called_in_time a.objects t) first.0 (neither (is_called_in_time a.objects t) (is_given a set_context t) first.1).0

begins_lawful : (d : Dispatcher) (callers knot : ℕ → Bool) → IsLawful d → IsKnot callers knot (state d) → Begins callers knot (state d)
begins_lawful d callers knot lawful tied =
    let enough = lawful.steady.sound.handles.enough in
    let few = lawful.steady.sound.handles.few in
    record {
      tied = tied;
      known = λ t inside may. (lawful.steady.sound.own t (lawful.steady.sound.waits t (tied t inside may).wait (tied t inside may).pends).known).0;
      there = λ t w o inside may is named. ((lawful.steady.sound.waits t w is).named o named).0;
      few = omega (arith, enough, few);
      firm = λ t o is. holds_firm d.threads knot (not (is_given (state d) modify_state o)) t o (object_at d.objects o) (λ thread gone. after o thread gone (nat_le d.threads o) refl) is;
    }
  where
    after : (o : ℕ) → is_thread (object_at d.objects o) ≡ false → is_gone (object_at d.objects o) ≡ false → (b : Bool) → nat_le d.threads o ≡ b → nat_le d.threads o ≡ true
    after o thread gone true is = is
    after o thread gone false is =
        let below : o < d.threads = grind (arith, nat_tests, is) in
        absurd (none_else (object_at d.objects o) thread gone (lawful.steady.sound.own o below).1)

pub knots_stay : (d : Dispatcher) (callers knot : ℕ → Bool) (turns : List Turn) (new : State) → IsLawful d → IsKnot callers knot (state d) → AreBy callers turns → Turns (state d) turns new
    → IsKnot callers knot new × ((t : ℕ) → knot t ≡ true → callers t ≡ true → IsIdleIn turns t × (get new.waits t ≡ get (state d).waits t))
knots_stay d callers knot turns new lawful tied by run =
    let begins = begins_lawful d callers knot lawful tied in
    let start : Stays callers knot (state d) (state d) = record { threads = refl; longer = omega arith; waits = λ t w inside may is. is; ungiven = λ right o below none. none; uncalled = λ t inside may none. called_less (state d) t none; held = λ t w o inside may is named was. was } in
    let last = turns_stay callers knot turns (state d) (state d) new begins start by run in
    (knot_stays callers knot (state d) new begins last.0, λ t inside may. (last.1 t inside may, last.0.waits t (tied t inside may).wait inside may (tied t inside may).pends ∙ sym (tied t inside may).pends))
