-- What becomes of the spare numbers where an object is set aside.
use Rattle.std.proofs.Common.{◌≡◌, ◌≢◌, ℕ, ◌+◌, ◌==◌, true, false, not, ◌&&◌, length, map, refl, sym, ap, ◌∙◌, subst, arith, Option, Some, None, List, inl, inr}
use Rattle.std.specs.Prelude.{nat_lt, nat_le, is_none}
use Rattle.std.proofs.lemmas.Bool.{cases_eq}
use Rattle.std.proofs.lemmas.Bool.Decides.{nat_tests}
use Rattle.std.proofs.lemmas.List.{length-map, length-set}
use Rattle.nt_tables.specs.declared.handles.Opened.{Opened}
use Rattle.nt_objects.specs.declared.object.Object.TheVariants.{Gone}
use Rattle.nt_tables.specs.Handles.{opened_at}
use Rattle.nt_tables.proofs.Counting.{weight}
use Rattle.nt_calls.specs.declared.call.Grant.{Grant}
use Rattle.nt_calls.specs.Living.{is_opened}
use Rattle.nt_calls.specs.State.{State, object_at}
use Rattle.nt_machine.specs.Dispatcher.{Dispatcher, state}
use Rattle.nt_machine.specs.Lawful.{IsLawful}
use Rattle.nt_core.specs.Renewals.{is_closed}
use Rattle.nt_core.specs.SetAside.{SetsAside, named_instead, set_aside}
use Rattle.nt_core.proofs.Renumbering.{opened_instead, count_other, count_to}
use Rattle.nt_core.proofs.SettingAside.{MayMove, may_move, aside_opened}
use Rattle.nt_life.specs.Lasting.{Spares, IsSpare, times, is_unnamed}
use Rattle.nt_life.proofs.Spares.{named_not, unnamed_by, weight_most}
use Rattle.nt_life.proofs.Times.{same_weight, other_weight}

-- a handle is closed exactly if it was
still_closed : (s : State) (t o h : ℕ) → is_closed (set_aside s t o) h ≡ is_closed s h
still_closed s t o h =
    ap (λ n. nat_lt h n && is_none (opened_at (map (named_instead t o) s.handles) h)) (length-map s.handles (named_instead t o))
    ∙ ap (λ b. nat_lt h (length s.handles) && b) (ap is_none (opened_instead t o s.handles h) ∙ none_of (opened_at s.handles h))
  where
    none_of : (x : Option Opened) → is_none (named_instead t o x) ≡ is_none x
    none_of None = refl
    none_of (Some opened) = refl

as_many : (s : State) (t o : ℕ) → length (set_aside s t o).objects ≡ length s.objects
as_many s t o = length-set _ t Gone ∙ length-set s.objects o (object_at s.objects t)

-- of all but the number that it has, which is named then
still_unnamed : (s : State) (t o n : ℕ) → MayMove s t o → n ≢ o → is_unnamed (set_aside s t o) n ≡ is_unnamed s n
still_unnamed s t o n may differs = elim (cases_eq n t) [
  | inl own ↦
      let below = may.below in
      let test : nat_le s.threads n ≡ false = grind (arith, nat_tests, below, own) in
      ap (λ b. b && (nat_lt n (length (set_aside s t o).objects) && not (is_opened (set_aside s t o) n))) test
      ∙ sym (ap (λ b. b && (nat_lt n (length s.objects) && not (is_opened s n))) test)
  | inr from ↦ unnamed_by s (set_aside s t o) n refl (as_many s t o) (ap (λ k. nat_lt 0 k) (count_other t o n s.handles from differs))
]

pub aside_spare : (d : Dispatcher) (t o : ℕ) (spare after : Spares) (grants : List Grant) (new : State) → IsLawful d → IsSpare (state d) spare → SetsAside (state d) t o true grants new → after.closed ≡ spare.closed → ((n : ℕ) → times n after.unnamed + weight (o == n) ≡ times n spare.unnamed) → IsSpare new after
aside_spare d t o spare after grants new lawful is sets closed fewer = subst (λ (s : State). IsSpare s after) (sym sets.2) (record {
  handles = λ h. ap (λ ns. times h ns) closed ∙ (is.handles h ∙ sym (ap weight (still_closed (state d) t o h)));
  objects = λ n. elim (cases_eq n o) [
    | inl same ↦
        let named : is_opened moved n ≡ true = ap (λ (k : ℕ). is_opened moved k) same ∙ count_to t o d.handles (aside_opened d t o lawful.steady.sound lawful.living may) in
        let now : weight (is_unnamed moved n) ≡ 0 = ap weight (named_not moved n named) in
        let before : times n spare.unnamed ≡ weight (is_unnamed (state d) n) = is.objects n in
        let most = weight_most (is_unnamed (state d) n) in
        let one = same_weight o n (sym same) in
        let less = fewer n in
        omega (arith, now, before, most, one, less)
    | inr differs ↦
        let now : weight (is_unnamed moved n) ≡ weight (is_unnamed (state d) n) = ap weight (still_unnamed (state d) t o n may differs) in
        let before : times n spare.unnamed ≡ weight (is_unnamed (state d) n) = is.objects n in
        let none = other_weight o n (λ e. differs (sym e)) in
        let less = fewer n in
        omega (arith, now, before, none, less)
  ];
})
  where
    may : MayMove (state d) t o
    may = may_move (state d) t o (sym sets.0)

    moved : State
    moved = set_aside (state d) t o
