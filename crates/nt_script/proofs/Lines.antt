-- One line after `threads`, with its witness.
use Rattle.std.proofs.Common.{◌≡◌, ℕ, ◌+◌, List, [], ◌∷◌, Option, None, Some, Result, refl, ap, subst, ◌∙◌, arith}
use Rattle.nt_status.specs.declared.refusal.Refusal.{Refusal}
use Rattle.nt_calls.specs.declared.call.Act.{Act}
use Rattle.nt_calls.specs.declared.call.Call.{Call}
use Rattle.nt_calls.specs.declared.call.Reply.{Reply}
use Rattle.nt_calls.specs.declared.call.Grant.{Grant}
use Rattle.nt_calls.specs.Steps.{Called, Ticked}
use Rattle.nt_calls.specs.Runs.{Calls, Ticks}
use Rattle.nt_grammar.specs.declared.parser.Statement.TheVariants.{Blank, Create, Perform, Tick}
use Rattle.nt_grammar.specs.Scope.{Scope}
use Rattle.nt_script.specs.declared.tally.Tally.{Tally}
use Rattle.nt_script.specs.Transcript.{turn_text, binds}
use Rattle.nt_grammar.specs.Naming.{handle_of}
use Rattle.nt_grammar.specs.Lines.{IsLine}
use Rattle.nt_script.specs.Progress.{Progress, Advances, ProgressIsCounted, add_tally, tally_of}

binds-threads : (name : List ℕ) (handle : Option ℕ) (scope : Scope) → (binds name handle scope).threads ≡ scope.threads
binds-threads name None scope = refl
binds-threads name (Some handle) scope = refl

module _ (number who : ℕ) (bytes : List ℕ) (call : Call) (result : Result Reply Refusal) (grants : List Grant) (text : List ℕ) (old mid new : Progress)
    (same : mid ≡ old) (called : Called mid.state who call result grants new.state) (writes : text ≡ turn_text number result grants)
    (tally : new.tally ≡ add_tally mid.tally (tally_of (Calls who call result grants ∷ []))) where
  pub perform_line : IsLine old.scope (Perform who call) bytes → new.scope ≡ mid.scope
      → Advances number bytes (Some old) (Calls who call result grants ∷ []) text (Some new)
  perform_line read scope =
      subst (λ (p : Progress). IsLine p.scope (Perform who call) bytes → Advances number bytes (Some p) (Calls who call result grants ∷ []) text (Some new)) same
      (λ h. record {
        gives = (Perform who call, h, (result, grants, record { turn = refl; output = writes }, scope));
        goes = record { run = (new.state, called, refl); tally = tally; threads = ap (λ (s : Scope). s.threads) scope };
      }) read

module _ (number moment : ℕ) (bytes : List ℕ) (result : Result Reply Refusal) (grants : List Grant) (text : List ℕ) (old mid new : Progress)
    (same : mid ≡ old) (ticked : Ticked mid.state moment result grants new.state) (writes : text ≡ turn_text number result grants)
    (tally : new.tally ≡ add_tally mid.tally (tally_of (Ticks 0 moment result grants ∷ []))) where
  pub tick_line : IsLine old.scope (Tick moment) bytes → new.scope ≡ mid.scope
      → Advances number bytes (Some old) (Ticks 0 moment result grants ∷ []) text (Some new)
  tick_line read scope =
      subst (λ (p : Progress). IsLine p.scope (Tick moment) bytes → Advances number bytes (Some p) (Ticks 0 moment result grants ∷ []) text (Some new)) same
      (λ h. record {
        gives = (Tick moment, h, (result, grants, record { turn = refl; output = writes }, scope));
        goes = record { run = (new.state, ticked, refl); tally = tally; threads = ap (λ (s : Scope). s.threads) scope };
      }) read

module _ (number who : ℕ) (bytes : List ℕ) (act : Act) (result : Result Reply Refusal) (grants : List Grant) (text : List ℕ) (old mid new : Progress)
    (same : mid ≡ old) (called : Called mid.state who (Call.Act act) result grants new.state) (writes : text ≡ turn_text number result grants)
    (tally : new.tally ≡ add_tally mid.tally (tally_of (Calls who (Call.Act act) result grants ∷ []))) where
  pub create_line : (name : List ℕ) → IsLine old.scope (Create who name act) bytes → new.scope ≡ binds name (handle_of result) mid.scope
      → Advances number bytes (Some old) (Calls who (Call.Act act) result grants ∷ []) text (Some new)
  create_line name read scope =
      subst (λ (p : Progress). IsLine p.scope (Create who name act) bytes → Advances number bytes (Some p) (Calls who (Call.Act act) result grants ∷ []) text (Some new)) same
      (λ h. record {
        gives = (Create who name act, h, (result, grants, record { turn = refl; output = writes }, scope));
        goes = record { run = (new.state, called, refl); tally = tally; threads = ap (λ (s : Scope). s.threads) scope ∙ binds-threads name (handle_of result) mid.scope };
      }) read

-- nothing was counted
add-none : (tally : Tally) → tally ≡ add_tally tally (tally_of [])
add-none tally =
    let calls : tally.calls ≡ tally.calls + 0 = omega arith in
    let refused : tally.refused ≡ tally.refused + 0 = omega arith in
    let granted : tally.granted ≡ tally.granted + 0 = omega arith in
    λ i. record { calls = calls i; refused = refused i; granted = granted i }

pub blank_line : (number : ℕ) (bytes text : List ℕ) (old mid : Progress) → mid ≡ old → text ≡ [] → IsLine old.scope Blank bytes → Advances number bytes (Some old) [] text (Some mid)
blank_line number bytes text old mid same writes read =
    subst (λ (p : Progress). IsLine p.scope Blank bytes → Advances number bytes (Some p) [] text (Some mid)) same
    (λ h. record { gives = (Blank, h, (refl, writes, refl)); goes = record { run = refl; tally = add-none mid.tally; threads = refl } }) read

pub counted_on : (number : ℕ) (old mid : Progress) → mid ≡ old → ProgressIsCounted number old → ProgressIsCounted (number + 1) mid
counted_on number old mid same h =
    subst (λ (p : Progress). ProgressIsCounted number p → ProgressIsCounted (number + 1) mid) same (λ h. record { calls = omega (arith, h.calls); refused = h.refused; granted = h.granted }) h
