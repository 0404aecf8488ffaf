-- A tick ends no wait that time alone does not end.
use Rattle.std.proofs.Common.{◌≡◌, ◌≤◌, ℕ, true, false, List, [], ◌∷◌, ◌++◌, refl, sym, ap, ◌∙◌, subst, arith, Some}
use Rattle.std.specs.Prelude.{map, nat_le}
use Rattle.std.specs.FinMap.{get}
use Rattle.std.proofs.lemmas.Bool.{false≢true}
use Rattle.std.proofs.lemmas.Bool.Decides.{nat_tests}
use Rattle.nt_status.specs.declared.limits.TheConstants.{MAX_MOMENT}
use Rattle.nt_status.specs.Status.{io_completion_code}
use Rattle.nt_calls.specs.declared.call.Grant.{Grant}
use Rattle.nt_calls.specs.State.{State, waits_over}
use Rattle.nt_calls.specs.Serving.{Grants, sequence, IsAlerted, Alert, IsLate, TimeOut, ending, late_status, sleeps}
use Rattle.nt_calls.specs.Rising.{AreRising}
use Rattle.nt_calls.specs.Change.{all_expired, IsTimerDue}
use Rattle.nt_calls.specs.Steps.{MomentPasses, MomentsPass}
use Rattle.nt_look.specs.Hangs.{will_come}
use Rattle.nt_look.proofs.Parts.{nobody}
use Rattle.nt_look.proofs.Waiting.{AreLasting, AreTimely, IsLater, later_then, unfit, unalerted, endless, all_expired_later}

none_granted : (threads : List ℕ) (s : State) (gs : List Grant) (new : State) → AreLasting s → Grants threads s gs new → (gs ≡ []) × (new ≡ s)
none_granted threads s [] new lasting is = (refl, is)
none_granted threads s (g ∷ gs) new lasting is =
    absurd (false≢true (sym (unfit s g.thread is.1 (lasting g.thread is.1 is.2.pends)) ∙ is.2.fits))

none_alerted : (s : State) (gs : List Grant) (new : State) → AreLasting s → Alert s gs new → (gs ≡ []) × (new ≡ s)
none_alerted s gs new lasting alert =
    let none : alert.threads ≡ [] = nobody alert.threads (λ t has. never t ((alert.alerted.exactly t).0 has)) in
    (alert.ends ∙ ap (λ ts. map (ending io_completion_code) ts) none, alert.leaves ∙ ap (λ ts. waits_over s ts true) none)
  where
    never : (t : ℕ) → IsAlerted s t → ⊥
    never t alerted = false≢true (sym (unalerted s t alerted.0 (lasting t alerted.0 alerted.1)) ∙ alerted.2)

-- a moment up to the greatest comes
pub moment_comes : (u : ℕ) → u ≤ MAX_MOMENT → will_come (Some u) ≡ true
moment_comes u most = let test : nat_le u MAX_MOMENT ≡ true = grind (arith, nat_tests, most) in test

pub due_timely : (s : State) (u : ℕ) (timers : List ℕ) → u ≤ MAX_MOMENT → AreRising (IsTimerDue s u) timers → AreTimely s timers
due_timely s u timers most due timer has = ap will_come ((due.exactly timer).0 has) ∙ moment_comes u most

none_late : (s : State) (u : ℕ) (gs : List Grant) (new : State) → u ≤ MAX_MOMENT → AreLasting s → TimeOut s u gs new → (gs ≡ []) × (new ≡ s)
none_late s u gs new most lasting out =
    let none : out.threads ≡ [] = nobody out.threads (λ t has. never t ((out.late.exactly t).0 has)) in
    (out.ends ∙ ap (λ ts. map (λ t. ending (late_status (sleeps (get s.waits t))) t) ts) none, out.leaves ∙ ap (λ ts. waits_over s ts false) none)
  where
    never : (t : ℕ) → IsLate s u t → ⊥
    never t late = false≢true (sym (endless s t late.0 (lasting t late.0 late.1)) ∙ (ap will_come late.2 ∙ moment_comes u most))

moment_vain : (s : State) (m u : ℕ) (gs : List Grant) (new : State) → u ≤ MAX_MOMENT → AreLasting s → MomentPasses s m u gs new → (gs ≡ []) × IsLater s new
moment_vain s m u gs new most lasting passes =
    let expired = all_expired_later m s passes.timers passes.due.rising (due_timely s u passes.timers most passes.due) lasting in
    let served = none_granted (sequence s passes.timers) (all_expired m s passes.timers) passes.served passes.calm expired.lasting passes.serves.0 in
    let calm : AreLasting passes.calm = subst AreLasting (sym served.1) expired.lasting in
    let alerted = none_alerted passes.calm passes.alerted passes.woken calm passes.alerts in
    let woken : AreLasting passes.woken = subst AreLasting (sym alerted.1) calm in
    let timed = none_late passes.woken u passes.timed new most woken passes.times_out in (
      passes.in_order ∙ (ap (λ a. a ++ passes.alerted ++ passes.timed) served.0 ∙ (ap (λ a. a ++ passes.timed) alerted.0 ∙ timed.0)),
      subst (IsLater s) (sym (timed.1 ∙ (alerted.1 ∙ served.1))) expired,
    )

pub moments_vain : (us : List ℕ) (s : State) (m : ℕ) (gs : List Grant) (new : State) → m ≤ MAX_MOMENT → AreLasting s → MomentsPass s m us gs new → (gs ≡ []) × IsLater s new
moments_vain [] s m gs new most lasting pass = (pass.1, subst (IsLater s) (sym pass.2) (record { waits = refl; lasting = lasting; runs = λ t r. r }))
moments_vain (u ∷ us) s m gs new most lasting pass =
    let before = pass.3.1 in
    let here = moment_vain s m u pass.0 pass.2 (omega (arith, before, most)) lasting pass.4 in
    let rest = moments_vain us pass.2 m pass.1 new most here.1.lasting pass.5 in
    (pass.6 ∙ (ap (λ a. a ++ pass.1) here.0 ∙ rest.0), later_then s pass.2 new here.1 rest.1)
