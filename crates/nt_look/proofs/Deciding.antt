-- What is decided of a lawful dispatcher.
use Rattle.std.proofs.Common.{◌≡◌, ◌<◌, ℕ, Bool, true, false, not, ◌&&◌, ◌||◌, List, refl, sym, ap, ◌∙◌, subst, arith, Some, None, is_some, inl, inr, ◌+◌}
use Rattle.std.specs.Prelude.{◌↔◌, nat_lt}
use Rattle.std.specs.FinMap.{get}
use Rattle.std.proofs.lemmas.Bool.{false≢true, cases_eq}
use Rattle.std.proofs.lemmas.Bool.Decides.{nat_tests}
use Rattle.nt_objects.specs.Object.{has_ended}
use Rattle.nt_waits.specs.declared.wait.Wait.{Wait}
use Rattle.nt_apc.specs.Queues.{has_apc}
use Rattle.nt_calls.specs.State.{object_at, pends}
use Rattle.nt_machine.specs.Dispatcher.{Dispatcher, state}
use Rattle.nt_machine.specs.Lawful.{IsLawful}
use Rattle.nt_look.specs.Hangs.{will_come, fits_in_time, is_called_in_time, ends_in_time, can_be_called, is_held, marked, unmarked, IsStuck, IsTied}
use Rattle.nt_look.specs.Deciding.{ends_by_time, is_in_reach, is_bound, IsHanging}
use Rattle.nt_look.proofs.Parts.{both_of, together}

-- nobody who waits alertably has an APC
pub calm_ends : (d : Dispatcher) → IsLawful d → (t : ℕ) (w : Wait) → get (state d).waits t ≡ Some w → ends_in_time (state d) t w ≡ ends_by_time d.objects t w
calm_ends d lawful t w pends = ap (λ b. will_come w.deadline || (fits_in_time d.objects t w || b)) (go w.alertable (has_apc (state d).apcs t) (is_called_in_time d.objects t) (λ e. lawful.steady.settled.alerted t (w, pends, e)))
  where
    go : (a b c : Bool) → ((a && b) ≡ true → ⊥) → (a && (b || c)) ≡ (a && c)
    go false b c never = refl
    go true true c never = absurd (never refl)
    go true false c never = refl

opposite : (b : Bool) → (not b ≡ true) → b ≡ false
opposite true e = sym e
opposite false e = refl

same_wait : (v w : Wait) → Some v ≡ Some w → v ≡ w
same_wait v w e = (cc)

-- a thread whose wait this is
pub hangs_waiting : (d : Dispatcher) (over : List Bool) (t : ℕ) (w : Wait) (ends : Bool) → IsLawful d → get (state d).waits t ≡ Some w → ends ≡ ends_by_time d.objects t w → (not ends ≡ true) ↔ IsHanging (unmarked over) (state d) t
hangs_waiting d over t w ends lawful is told = (
  λ e. record {
    waits = λ calls runs. ap is_some is;
    lasts = λ v has. subst (λ (x : Wait). ends_in_time (state d) t x ≡ false) (same_wait w v (sym is ∙ has)) (calm_ends d lawful t w is ∙ (sym told ∙ opposite ends e));
  },
  λ hanging. ap (λ b. not b) (told ∙ (sym (calm_ends d lawful t w is) ∙ hanging.lasts w is)),
)

-- a thread that does not wait
pub hangs_idle : (d : Dispatcher) (over : List Bool) (t : ℕ) (idle : Bool) → t < d.threads → get (state d).waits t ≡ None → idle ≡ (marked over t || has_ended (object_at d.objects t)) → (idle ≡ true) ↔ IsHanging (unmarked over) (state d) t
hangs_idle d over t idle below is told = (
  λ e. record {
    waits = λ calls running. absurd (never (marked over t) (has_ended (object_at d.objects t)) (sym told ∙ e) calls (both_of (nat_lt t d.threads) (not (has_ended (object_at d.objects t))) running).1);
    lasts = λ v has. none_some (sym is ∙ has);
  },
  λ hanging. told ∙ some (marked over t) (has_ended (object_at d.objects t)) (λ calls lives. false≢true (ap is_some (sym is) ∙ hanging.waits calls (together (nat_lt t d.threads) (not (has_ended (object_at d.objects t))) there lives))),
)
  where
    there : nat_lt t d.threads ≡ true
    there = grind (arith, nat_tests, below)

    none_some : {P : Type 0} {v : Wait} → None ≡ Some v → P
    none_some e = (cc)

    never : (a b : Bool) → (a || b) ≡ true → not a ≡ true → not b ≡ true → ⊥
    never true b e f g = false≢true f
    never false true e f g = false≢true g
    never false false e f g = false≢true e

    some : (a b : Bool) → (not a ≡ true → not b ≡ true → ⊥) → (a || b) ≡ true
    some true b none = refl
    some false true none = refl
    some false false none = absurd (none refl refl)

-- the threads below a number hang
abbrev pub HangBelow : Dispatcher → List Bool → ℕ → Type 0
HangBelow d over n = (t : ℕ) → t < n → IsHanging (unmarked over) (state d) t

pub one_more : (d : Dispatcher) (over : List Bool) (n : ℕ) → HangBelow d over n → IsHanging (unmarked over) (state d) n → HangBelow d over (n + 1)
one_more d over n before here t below = elim (cases_eq t n) [
  | inl same ↦ subst (λ k. IsHanging (unmarked over) (state d) k) (sym same) here
  | inr differs ↦ before t (omega (arith, below, differs))
]

pub all_hang : (d : Dispatcher) (over : List Bool) → IsLawful d → HangBelow d over d.threads → IsStuck (unmarked over) (state d)
all_hang d over lawful below = record {
  waits = λ t calls running.
      let test = (both_of (nat_lt t d.threads) (not (has_ended (object_at d.objects t))) running).0 in
      (below t (grind (arith, nat_tests, test))).waits calls running;
  lasts = λ t w is. (below t (lawful.steady.sound.waits t w is).known).lasts w is;
}

pub stuck_hangs : (d : Dispatcher) (over : List Bool) (t : ℕ) → IsStuck (unmarked over) (state d) → IsHanging (unmarked over) (state d) t
stuck_hangs d over t stuck = record { waits = stuck.waits t; lasts = stuck.lasts t }

-- ---- a thread that is tied

-- an alertable wait that pends can be ended by the APCs that may still come
calm_calls : (d : Dispatcher) → IsLawful d → (t : ℕ) (w : Wait) → get (state d).waits t ≡ Some w → (w.alertable && can_be_called (state d) t) ≡ (w.alertable && is_in_reach (state d) t)
calm_calls d lawful t w pends = go w.alertable (has_apc (state d).apcs t) (is_in_reach (state d) t) (λ e. lawful.steady.settled.alerted t (w, pends, e))
  where
    go : (a b c : Bool) → ((a && b) ≡ true → ⊥) → (a && (b || c)) ≡ (a && c)
    go false b c never = refl
    go true true c never = absurd (never refl)
    go true false c never = refl

pub tied_waiting : (d : Dispatcher) (knot : ℕ → Bool) (t : ℕ) (w : Wait) (bound : Bool) → IsLawful d → get (state d).waits t ≡ Some w → bound ≡ is_bound (state d) knot t w → (bound ≡ true) ↔ IsTied knot (state d) t
tied_waiting d knot t w bound lawful is told = (
  λ e.
      let first = both_of (not (will_come w.deadline)) (not (w.alertable && is_in_reach (state d) t) && is_held (state d) knot t w) (sym told ∙ e) in
      let second = both_of (not (w.alertable && is_in_reach (state d) t)) (is_held (state d) knot t w) first.1 in
      record {
        wait = w;
        pends = is;
        endless = opposite (will_come w.deadline) first.0;
        plain = calm_calls d lawful t w is ∙ opposite (w.alertable && is_in_reach (state d) t) second.0;
        held = second.1;
      },
  λ tied.
      let same : tied.wait ≡ w = same_wait tied.wait w (sym tied.pends ∙ is) in
      let endless : will_come w.deadline ≡ false = ap (λ (x : Wait). will_come x.deadline) (sym same) ∙ tied.endless in
      let plain : (w.alertable && can_be_called (state d) t) ≡ false = ap (λ (x : Wait). x.alertable && can_be_called (state d) t) (sym same) ∙ tied.plain in
      let quiet : (w.alertable && is_in_reach (state d) t) ≡ false = sym (calm_calls d lawful t w is) ∙ plain in
      let held : is_held (state d) knot t w ≡ true = ap (λ (x : Wait). is_held (state d) knot t x) (sym same) ∙ tied.held in
      told ∙ together (not (will_come w.deadline)) (not (w.alertable && is_in_reach (state d) t) && is_held (state d) knot t w) (ap (λ b. not b) endless)
      (together (not (w.alertable && is_in_reach (state d) t)) (is_held (state d) knot t w) (ap (λ b. not b) quiet) held),
)
