-- Marks for what a wait that ended named.
use Rattle.std.proofs.Common.{◌≡◌, ◌<◌, ℕ, zero, suc, Bool, true, false, Option, length, [], List, ◌∷◌, set, refl, sym, ap, ◌∙◌, subst, arith, inl, inr, Contains}
use Rattle.std.specs.Prelude.{nat_lt, drop}
use Rattle.std.proofs.lemmas.Bool.{cases_eq, false≢true}
use Rattle.std.proofs.lemmas.Bool.Decides.{nat_tests}
use Rattle.std.proofs.lemmas.List.{length-set, get_or-set_same, get_or-set_other}
use Rattle.nt_status.proofs.Lists.{contains_none, contains_first, contains_later, contains_cases}
use Rattle.nt_tables.specs.declared.handles.Opened.{Opened}
use Rattle.nt_tables.specs.Handles.{count_named}
use Rattle.nt_marks.specs.Marks.{is_marked}
use Rattle.nt_machine.specs.Dispatcher.{Dispatcher, state}
use Rattle.nt_machine.specs.Lawful.{MarksAgreeBut, LetsGoBut}
use Rattle.nt_machine.proofs.Lives.{parts}

-- an object that a handle names needs no mark
pub let_go_named : (handles : List (Option Opened)) (ended : List ℕ) (old now : List Bool) (o : ℕ) (left : List ℕ) → LetsGoBut (o ∷ left) handles ended old now → nat_lt 0 (count_named handles o) ≡ true → LetsGoBut left handles ended old now
let_go_named handles ended old now o left far named = record {
  count = far.count;
  marked = λ k member none. elim (far.marked k member none) [
    | inl mark ↦ inl mark
    | inr here_or_later ↦ elim (contains_cases o left k here_or_later) [
      | inl here ↦ absurd (let zero : count_named handles o ≡ 0 = ap (count_named handles) here ∙ none in false≢true (sym (ap (λ n. nat_lt 0 n) zero) ∙ named))
      | inr later ↦ inr later
    ]
  ];
  kept = far.kept;
}

-- the others get one
pub let_go_marked : (handles : List (Option Opened)) (ended : List ℕ) (old now : List Bool) (o : ℕ) (left : List ℕ) → LetsGoBut (o ∷ left) handles ended old now → o < length old → LetsGoBut left handles ended old (set now o true)
let_go_marked handles ended old now o left far known =
    let count = far.count in
    let here : is_marked (set now o true) o ≡ true = get_or-set_same now o true false (omega (arith, known, count)) in
    record {
      count = length-set now o true ∙ far.count;
      marked = λ k member none. elim (cases_eq k o) [
        | inl same ↦ inl (ap (λ j. is_marked (set now o true) j) same ∙ here)
        | inr other ↦ elim (far.marked k member none) [
          | inl mark ↦ inl (get_or-set_other now o k true false other ∙ mark)
          | inr here_or_later ↦ elim (contains_cases o left k here_or_later) [
            | inl is ↦ absurd (other (sym is))
            | inr later ↦ inr later
          ]
        ]
      ];
      kept = λ k was. elim (cases_eq k o) [
        | inl same ↦ ap (λ j. is_marked (set now o true) j) same ∙ here
        | inr other ↦ get_or-set_other now o k true false other ∙ far.kept k was
      ];
    }

-- with these marks each object that lives while nothing keeps it has one
pub let_go_agree : (d : Dispatcher) (ended : List ℕ) (leaving : List Bool) → MarksAgreeBut ended d → LetsGoBut [] d.handles ended d.leaving leaving → MarksAgreeBut [] (record d { leaving = leaving })
let_go_agree d ended leaving marks lets = record {
  living = marks.living;
  count = lets.count ∙ marks.count;
  marked = λ o forgotten. elim (marks.marked o forgotten) [
    | inl mark ↦ inl (lets.kept o mark)
    | inr member ↦ lets.marked o member (none_named (count_named d.handles o) (parts (state d) o forgotten).unopened)
  ];
  known = λ o none. absurd (contains_none o none);
}
  where
    none_named : (n : ℕ) → nat_lt 0 n ≡ false → n ≡ 0
    none_named n unopened = grind (arith, nat_tests, unopened)

-- what a list has from some place on stands in it
pub dropped_member : (i : ℕ) (xs : List ℕ) (h : ℕ) (rest : List ℕ) → drop i xs ≡ h ∷ rest → Contains xs h
dropped_member zero xs h rest is = subst (λ (ys : List ℕ). Contains ys h) (sym is) (contains_first h rest h refl)
dropped_member (suc i) [] h rest is = let none = ap (λ (ys : List ℕ). length ys) is in absurd (omega (arith, none))
dropped_member (suc i) (x ∷ xs) h rest is = contains_later x xs h (dropped_member i xs h rest is)
