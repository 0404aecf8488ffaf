-- One line more is carried out.
use Rattle.std.proofs.Common.{◌≡◌, ℕ, ◌+◌, List, [], ◌∷◌, ◌++◌, length, count_by, Option, Some, None, refl, sym, ap, subst, ◌∙◌, append_assoc, append-nil, arith, length-append}
use Rattle.std.specs.List.{sum_by}
use Rattle.std.proofs.lemmas.List.Sums.{sum_by-append}
use Rattle.nt_calls.specs.State.{opening}
use Rattle.nt_calls.specs.Runs.{Turn, Turns}
use Rattle.nt_core.proofs.Runs.{turns-append}
use Rattle.nt_script.specs.declared.tally.Tally.{Tally}
use Rattle.nt_grammar.specs.Scope.{Scope}
use Rattle.nt_script.specs.Transcript.{Transcript, LineGives}
use Rattle.nt_script.specs.Progress.{Progress, TurnsGo, Ran, Advances, CarriedOut, scope_of, tally_of, add_tally, is_refused, granted_by}

pub Transcript-then : (line : ℕ) (a b c : Option Scope) (lines : List (List ℕ)) (turns : List Turn) (text : List ℕ) (bytes : List ℕ) (more : List Turn) (more_text : List ℕ)
    → Transcript line a lines turns text b → LineGives (line + length lines) bytes b more more_text c
    → Transcript line a (lines ++ bytes ∷ []) (turns ++ more) (text ++ more_text) c
Transcript-then line a b c [] turns text bytes more more_text p q =
    let here : LineGives line bytes a more more_text c =
    subst (λ (scope : Option Scope). LineGives line bytes scope more more_text c) p.2 (subst (λ (n : ℕ). LineGives n bytes b more more_text c) (omega arith) q) in
    (more, [], more_text, [], c, ap (λ (t : List Turn). t ++ more) p.0 ∙ sym (append-nil more), ap (λ (t : List ℕ). t ++ more_text) p.1 ∙ sym (append-nil more_text), here, (refl, refl, refl))
Transcript-then line a b c (first ∷ lines) turns text bytes more more_text p q =
    let rest = p.1 in
    let tail = p.3 in
    let there : LineGives ((line + 1) + length lines) bytes b more more_text c = subst (λ (n : ℕ). LineGives n bytes b more more_text c) (omega arith) q in (
      p.0,
      rest ++ more,
      p.2,
      tail ++ more_text,
      p.4,
      ap (λ (t : List Turn). t ++ more) p.5 ∙ append_assoc p.0 rest more,
      ap (λ (t : List ℕ). t ++ more_text) p.6 ∙ append_assoc p.2 tail more_text,
      p.7,
      Transcript-then (line + 1) p.4 b c lines rest tail bytes more more_text p.8 there,
    )

tally-then : (first more : List Turn) → add_tally (tally_of first) (tally_of more) ≡ tally_of (first ++ more)
tally-then first more =
    let calls : length first + length more ≡ length (first ++ more) = omega (arith, length-append first more) in
    let refused : count_by is_refused first + count_by is_refused more ≡ count_by is_refused (first ++ more) = sym (sum_by-append _ first more) in
    let granted : sum_by granted_by first + sum_by granted_by more ≡ sum_by granted_by (first ++ more) = sym (sum_by-append _ first more) in
    rw (calls, refused, granted) refl

nothing : (turns more : List Turn) → turns ≡ [] → more ≡ [] → turns ++ more ≡ []
nothing turns more p q = rw (p, q) refl

ran-then : (number : ℕ) (bytes : List ℕ) (turns more : List Turn) (text : List ℕ) (old new : Option Progress)
    → Ran turns old → LineGives number bytes (scope_of old) more text (scope_of new) → TurnsGo old more new → Ran (turns ++ more) new
ran-then number bytes turns more text None None p gives goes = nothing turns more p gives.1
ran-then number bytes turns more text None (Some new) p gives goes =
    let none = nothing turns more p gives.1 in
    (subst (λ (all : List Turn). Turns (opening new.scope.threads) all new.state) (sym none) goes.state, goes.tally ∙ ap tally_of (sym none))
ran-then number bytes turns more text (Some old) None p gives goes = absurd goes
ran-then number bytes turns more text (Some old) (Some new) p gives goes = (
  turns-append (opening new.scope.threads) old.state new.state turns more (subst (λ (n : ℕ). Turns (opening n) turns old.state) (sym goes.threads) p.0) goes.run,
  goes.tally ∙ ap (λ (tally : Tally). add_tally tally (tally_of more)) p.1 ∙ tally-then turns more,
)

pub CarriedOut-then : (lines : List (List ℕ)) (turns : List Turn) (text : List ℕ) (old new : Option Progress) (bytes : List ℕ) (more : List Turn) (more_text : List ℕ)
    → CarriedOut lines turns text old → Advances (1 + length lines) bytes old more more_text new
    → CarriedOut (lines ++ bytes ∷ []) (turns ++ more) (text ++ more_text) new
CarriedOut-then lines turns text old new bytes more more_text p q = record {
  transcript = Transcript-then 1 None (scope_of old) (scope_of new) lines turns text bytes more more_text p.transcript q.gives;
  ran = ran-then (1 + length lines) bytes turns more more_text old new p.ran q.gives q.goes;
}
