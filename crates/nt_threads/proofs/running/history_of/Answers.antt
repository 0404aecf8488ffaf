use Rattle.std.proofs.Common.{◌≡◌, ◌+◌, ◌∙◌, ℕ, true, Ok, Err, sym, subst}
use Rattle.std.specs.Prelude.{MatchResult, IfOk, is_ok}
use Rattle.std.specs.declared.result.Result.{Result}
use Rattle.std.proofs.lemmas.Result.{IfOk-weaker}
use Rattle.nt_front.specs.declared.receipt.History.{History}
use Rattle.nt_threads.specs.Reports.{ComesOfRun, PlanIsCarriedOut}
use Rattle.nt_threads.proofs.Planned.{told_of_workers}
use Rattle.nt_threads.proofs.running.history_of.Given.{Over}
use Rattle.nt_threads.proofs.running.history_of.Goals as goal
use Rattle.nt_threads.proofs.running.history_of.Goals.{After-whole_history}

-- the value of an Ok whose error alone was mapped
value_kept : {B E F : Type 0} (P : B → Type 0) (r : Result B E) (m : Result B F) (b : B) (Q : E → Type 0) → true ≡ is_ok r →
    MatchResult r (λ x. m ≡ Ok x) Q → m ≡ Ok b → IfOk r P → P b
value_kept P (Ok x) m b Q ok same is holds =
    let value : x ≡ b = (let both : Ok x ≡ Ok b = sym same ∙ is in cc) in
    subst P value holds
value_kept P (Err e) m b Q ok same is holds = absurd (cc)

-- the blank is for one thread more than there are workers
blank_threads : (g : Over) (c : After-whole_history g) → c.in_ok-blank.blank.threads ≡ c.args.workers + 1
blank_threads g c =
    value_kept (λ b. b.threads ≡ c.args.workers + 1) c.prepare.result c.map_err.result c.in_ok-blank.blank _ c.in_ok-blank.ensures.variant
    c.map_err.ensures.cases c.in_ok-blank.was (IfOk-weaker c.prepare.result _ _ (λ b is. is.0) c.prepare.ensures.ok)

pub returns-clause-comes : goal.returns-clause-comes
returns-clause-comes g c =
    let threads = blank_threads g c in
    let comes : c.in_ok-ran.ran.whole ≡ true → ComesOfRun (c.args.workers + 1) c.in_ok-ran.ran.history.entries.items
    = λ whole. subst (λ (n : ℕ). ComesOfRun n c.in_ok-ran.ran.history.entries.items) threads (c.in_ok-ran.ensures.comes whole) in
    IfOk-weaker c.whole_history.result _ _ (λ history is. subst (λ (h : History). ComesOfRun (c.args.workers + 1) h.entries.items) (sym is.1) (comes is.0)) c.whole_history.ensures

pub returns-clause-whole : goal.returns-clause-whole
returns-clause-whole g c =
    let threads = blank_threads g c in
    let told : c.in_ok-ran.ran.whole ≡ true → PlanIsCarriedOut c.args.workers c.args.rounds c.in_ok-ran.ran.history.entries.items
    = λ whole. told_of_workers c.in_ok-blank.blank.threads c.args.workers c.args.rounds c.in_ok-ran.ran.history.entries.items threads (c.in_ok-ran.ensures.whole whole) in
    IfOk-weaker c.whole_history.result _ _ (λ history is. subst (λ (h : History). PlanIsCarriedOut c.args.workers c.args.rounds h.entries.items) (sym is.1) (told is.0)) c.whole_history.ensures
