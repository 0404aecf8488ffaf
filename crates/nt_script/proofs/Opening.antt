-- One line before the session, with its witness.
use Rattle.std.proofs.Common.{◌≡◌, ℕ, ◌+◌, List, [], Option, None, Some, Result, Ok, Err, OnOk, IfErr, refl, ap, ◌∙◌, arith}
use Rattle.std.specs.FinMap.{len, len-empty}
use Rattle.std.specs.Ordering.{nat_cmp}
use Rattle.nt_waits.specs.declared.wait.Wait.{Wait}
use Rattle.nt_calls.specs.State.{State}
use Rattle.nt_calls.specs.Runs.{Turn}
use Rattle.nt_script.specs.declared.session.Session.{Session}
use Rattle.nt_script.specs.declared.tally.Tally.{Tally}
use Rattle.nt_grammar.specs.declared.fault.LineFault.{LineFault}
use Rattle.nt_grammar.specs.declared.fault.LineFault.TheVariants.{Memory, Script}
use Rattle.nt_script.specs.Progress.{Progress, ProgressIsFresh, ProgressIsCounted, AreCounted, Advances, LineAnswers, Opens, progress, progress_of}

fresh_counted : (number : ℕ) (now : Progress) → ProgressIsFresh now → ProgressIsCounted (number + 1) now
fresh_counted number now fresh =
    let calls = ap (λ (tally : Tally). tally.calls) fresh.tally in
    let refused = ap (λ (tally : Tally). tally.refused) fresh.tally in
    let granted = ap (λ (tally : Tally). tally.granted) fresh.tally in
    let waits : len now.state.waits ≡ 0 = ap (λ (s : State). len s.waits) fresh.state ∙ len-empty nat_cmp Wait in
    record { calls = omega arith; refused = omega arith; granted = omega arith }

pub opened_line : (number : ℕ) (line : List ℕ) (session : Option Session) → Opens line (Ok session)
    → ((turns : List Turn) × Advances number line None turns [] (progress_of session)) × AreCounted (number + 1) (progress_of session)
opened_line number line None opens = (([], record { gives = (opens, refl, refl); goes = tt }), tt)
opened_line number line (Some session) opens =
    (([], record { gives = (opens.0, refl, refl, opens.1); goes = opens.2 }), fresh_counted number (progress session) opens.2)

pub begun_line : (number : ℕ) (line : List ℕ) (result : Result (Unit {0}) LineFault) (session : Option Session) → OnOk result (Opens line (Ok session)) → IfErr result (λ fault. Opens line (Err fault))
    → LineAnswers number line None result [] (progress_of session)
begun_line number line (Ok done) session opens fault = opened_line number line session opens
begun_line number line (Err (Script script)) session opens fault = fault
begun_line number line (Err Memory) session opens fault = tt
