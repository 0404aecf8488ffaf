-- Whether a thread may call, as its object and its pending wait say.
use Rattle.std.proofs.Common.{◌≡◌, ◌≢◌, ℕ, ◌<◌, Bool, true, false, List, length, set, refl, sym, ap, ◌∙◌, subst, Option, Some, None, is_some, inl, inr}
use Rattle.std.specs.Prelude.{slice_index_or, if◌then◌else◌}
use Rattle.std.specs.FinMap as fin
use Rattle.std.proofs.lemmas.Bool.{cases_eq}
use Rattle.std.proofs.lemmas.List.{get_or-set_same, get_or-set_other, length-set}
use Rattle.nt_waits.specs.declared.wait.Wait.{Wait}
use Rattle.nt_objects.specs.declared.object.Object.{Object}
use Rattle.nt_objects.specs.Object.{has_ended}
use Rattle.nt_calls.specs.State.{Pending, object_at}
use Rattle.nt_machine.specs.declared.standing.Standing.{Standing}
use Rattle.nt_machine.specs.declared.standing.Standing.TheVariants.{Free, Waiting, Ended}
use Rattle.nt_machine.specs.Lawful.{standing_of, StandingsAgree}

-- the standing, from whether it has ended and its pending wait
abbrev standing : Bool → Option Wait → Standing
standing ended wait = if ended then Ended else if is_some wait then Waiting else Free

standing_where : (objects : List Object) (waits : Pending) (t : ℕ) (ended : Bool) (wait : Option Wait) → has_ended (object_at objects t) ≡ ended → fin.get waits t ≡ wait → standing_of objects waits t ≡ standing ended wait
standing_where objects waits t ended wait is has = λ i. standing (is i) (has i)

pub standing_free : (objects : List Object) (waits : Pending) (t : ℕ) → has_ended (object_at objects t) ≡ false → fin.get waits t ≡ None → standing_of objects waits t ≡ Free
standing_free objects waits t runs idle = standing_where objects waits t false None runs idle

pub standing_waits : (objects : List Object) (waits : Pending) (t : ℕ) (w : Wait) → has_ended (object_at objects t) ≡ false → fin.get waits t ≡ Some w → standing_of objects waits t ≡ Waiting
standing_waits objects waits t w runs has = standing_where objects waits t false (Some w) runs has

pub standing_ended : (objects : List Object) (waits : Pending) (t : ℕ) → has_ended (object_at objects t) ≡ true → standing_of objects waits t ≡ Ended
standing_ended objects waits t ended = standing_where objects waits t true (fin.get waits t) ended refl

-- ---- back from it

pub free_standing : (ended : Bool) (wait : Option Wait) → standing ended wait ≡ Free → (ended ≡ false) × (is_some wait ≡ false)
free_standing true wait is = (cc)
free_standing false None is = (refl, refl)
free_standing false (Some w) is = (cc)

pub waits_standing : (ended : Bool) (wait : Option Wait) → standing ended wait ≡ Waiting → (ended ≡ false) × (is_some wait ≡ true)
waits_standing true wait is = (cc)
waits_standing false None is = (cc)
waits_standing false (Some w) is = (refl, refl)

pub ended_standing : (ended : Bool) (wait : Option Wait) → standing ended wait ≡ Ended → ended ≡ true
ended_standing true wait is = refl
ended_standing false None is = (cc)
ended_standing false (Some w) is = (cc)

-- ---- as threads go on

-- no thread ends or begins
pub standings_kept : (threads : ℕ) (old new : List Object) (waits : Pending) (xs : List Standing) → ((t : ℕ) → t < threads → has_ended (object_at new t) ≡ has_ended (object_at old t)) → StandingsAgree threads old waits xs → StandingsAgree threads new waits xs
standings_kept threads old new waits xs same agree = record {
  count = agree.count;
  each = λ t below. agree.each t below ∙ sym (ap (λ ended. standing ended (fin.get waits t)) (same t below));
}

-- one thread's standing changes, as its object or its wait does
pub standings_set : (threads : ℕ) (old new : List Object) (before waits : Pending) (xs : List Standing) (t : ℕ) (x : Standing) → standing_of new waits t ≡ x → ((u : ℕ) → u ≢ t → has_ended (object_at new u) ≡ has_ended (object_at old u)) → ((u : ℕ) → u ≢ t → fin.get waits u ≡ fin.get before u) → StandingsAgree threads old before xs → StandingsAgree threads new waits (set xs t x)
standings_set threads old new before waits xs t x here ended same agree = record {
  count = length-set xs t x ∙ agree.count;
  each = λ u below. elim (cases_eq u t) [
    | inl is ↦
        let there : t < length xs = subst (λ (n : ℕ). t < n) (sym agree.count) (subst (λ (k : ℕ). k < threads) is below) in
        ap (λ (k : ℕ). slice_index_or (set xs t x) k Free) is ∙ (get_or-set_same xs t x Free there ∙ (sym here ∙ ap (λ (k : ℕ). standing_of new waits k) (sym is)))
    | inr differs ↦ get_or-set_other xs t u x Free differs ∙ (agree.each u below ∙ sym (λ i. standing (ended u differs i) (same u differs i)))
  ];
}
