-- Whether a wait pends that nothing can end.
use Rattle.std.proofs.Common.{◌≡◌, ◌<◌, ◌≤◌, ℕ, suc, Bool, true, false, not, ◌&&◌, ◌||◌, List, [], ◌∷◌, length, refl, sym, ap, ◌∙◌, subst, arith, Option, Some, None, get_or, ltb, inl, inr, eqb}
use Rattle.std.specs.Prelude.{nat_lt, is_some, if◌then◌else◌, MatchBool}
use Rattle.std.specs.FinMap.{get}
use Rattle.std.specs.List.{list_any, list_all}
use Rattle.std.proofs.lemmas.Bool.{false≢true}
use Rattle.std.proofs.lemmas.List.{get_or_past}
use Rattle.std.proofs.lemmas.Bool.Decides.{nat_tests}
use Rattle.nt_objects.specs.declared.object.Object.{Object}
use Rattle.nt_objects.specs.declared.object.Object.TheVariants.{Event, Semaphore, Mutex, Timer, Thread, Gone}
use Rattle.nt_objects.specs.Object.{owned_by, has_ended, is_thread}
use Rattle.nt_waits.specs.declared.wait.Wait.{Wait}
use Rattle.nt_waits.specs.Waits.{Names}
use Rattle.nt_calls.specs.State.{State, object_at, pends}
use Rattle.nt_status.specs.Access.{modify_state}
use Rattle.nt_calls.specs.Living.{runs}
use Rattle.nt_machine.specs.Dispatcher.{Dispatcher, state}
use Rattle.nt_machine.specs.Lawful.{IsLawful}
use Rattle.nt_look.specs.Hangs.{is_given, holds, held_at, is_held, IsTied, IsKnot, IsStuck, IsGreatestKnot, marked, unmarked}
use Rattle.nt_look.specs.Orders.{Plan, Point, Hangs, goes_on}

and_first : (a b : Bool) → (a && b) ≡ true → a ≡ true
and_first true b e = refl
and_first false b e = e

and_second : (a b : Bool) → (a && b) ≡ true → b ≡ true
and_second true b e = e
and_second false b e = absurd (false≢true e)

and_both : (a b : Bool) → a ≡ true → b ≡ true → (a && b) ≡ true
and_both a b x y = rw (x, y) refl

or_second : (a b : Bool) → b ≡ true → (a || b) ≡ true
or_second true b e = refl
or_second false b e = e

-- ---- who calls

-- the two agree on the threads
abbrev Agree : ℕ → (ℕ → Bool) → (ℕ → Bool) → Type 0
Agree n f g = (t : ℕ) → t < n → f t ≡ g t

stuck_by : (f g : ℕ → Bool) (s : State) → Agree s.threads f g → IsStuck f s → IsStuck g s
stuck_by f g s same stuck = record {
  waits = λ t calls running.
      let inside = and_first (nat_lt t s.threads) (not (has_ended (object_at s.objects t))) running in
      let below : t < s.threads = grind (arith, nat_tests, inside) in
      stuck.waits t (same t below ∙ calls) running;
  lasts = stuck.lasts;
}

knot_by : (f g knot : ℕ → Bool) (s : State) → Agree s.threads f g → ((t : ℕ) → knot t ≡ true → t < s.threads) → IsKnot f knot s → IsKnot g knot s
knot_by f g knot s same inside tied t has calls = tied t has (same t (inside t has) ∙ calls)

-- ---- only threads

pub only : ℕ → (ℕ → Bool) → ℕ → Bool
only n knot t = nat_lt t n && knot t

only_inside : (n : ℕ) (knot : ℕ → Bool) (t : ℕ) → only n knot t ≡ true → t < n
unfolding only
only_inside n knot t has = let test = and_first (nat_lt t n) (knot t) has in grind (arith, nat_tests, test)

only_has : (n : ℕ) (knot : ℕ → Bool) (t : ℕ) → t < n → knot t ≡ true → only n knot t ≡ true
unfolding only
only_has n knot t below has = and_both (nat_lt t n) (knot t) (grind (arith, nat_tests, below)) has

only_knot : (n : ℕ) (knot : ℕ → Bool) (t : ℕ) → only n knot t ≡ true → knot t ≡ true
unfolding only
only_knot n knot t has = and_second (nat_lt t n) (knot t) has

-- what the knot holds its threads hold, of an object that there is
holds_only : (n : ℕ) (knot : ℕ → Bool) (free : Bool) (t o : ℕ) (x : Object) → ((u : ℕ) → owned_by x u ≡ true → u < n) → (is_thread x ≡ true → has_ended x ≡ false → o < n) → holds knot free t o x ≡ true → holds (only n knot) free t o x ≡ true
holds_only n knot free t o (Mutex (Some owner) depth abandoned) known runs e =
    let mine : eqb owner owner ≡ true = grind (arith, nat_tests) in
    and_both (only n knot owner) (not (eqb owner t)) (only_has n knot owner (known owner mine) (and_first (knot owner) (not (eqb owner t)) e)) (and_second (knot owner) (not (eqb owner t)) e)
holds_only n knot free t o (Mutex None depth abandoned) known runs e = e
holds_only n knot free t o (Thread true) known runs e = absurd (false≢true (and_second (knot o) false e))
holds_only n knot free t o (Thread false) known runs e = and_both (only n knot o) true (only_has n knot o (runs refl refl) (and_first (knot o) true e)) refl
holds_only n knot free t o Gone known runs e = e
holds_only n knot free t o (Event manual set) known runs e = e
holds_only n knot free t o (Semaphore count maximum) known runs e = e
holds_only n knot free t o (Timer manual set None) known runs e = e
holds_only n knot free t o (Timer manual set (Some armed)) known runs e = e

any_by : (p q : ℕ → Bool) (xs : List ℕ) → ((j : ℕ) → j < length xs → p (get_or xs j 0) ≡ true → q (get_or xs j 0) ≡ true) → list_any p xs ≡ true → list_any q xs ≡ true
any_by p q [] same e = e
any_by p q (x ∷ xs) same e = go (p x) refl (any_by p q xs (λ j below. same (suc j) (omega (arith, below))))
  where
    go : (b : Bool) → p x ≡ b → (list_any p xs ≡ true → list_any q xs ≡ true) → list_any q (x ∷ xs) ≡ true
    go true is more = rw (same 0 (omega arith) is) refl
    go false is more =
        let whole : (p x || list_any p xs) ≡ true = e in
        let rest : list_any p xs ≡ true = rw is at whole in
        or_second (q x) (list_any q xs) (more rest)

all_by : (p q : ℕ → Bool) (xs : List ℕ) → ((j : ℕ) → j < length xs → p (get_or xs j 0) ≡ true → q (get_or xs j 0) ≡ true) → list_all p xs ≡ true → list_all q xs ≡ true
all_by p q [] same e = e
all_by p q (x ∷ xs) same e =
    and_both (q x) (list_all q xs) (same 0 (omega arith) (and_first (p x) (list_all p xs) e)) (all_by p q xs (λ j below. same (suc j) (omega (arith, below))) (and_second (p x) (list_all p xs) e))

held_only : (s : State) (knot small : ℕ → Bool) (t : ℕ) (w : Wait) → ((j : ℕ) → j < length w.objects → held_at s knot t (get_or w.objects j 0) ≡ true → held_at s small t (get_or w.objects j 0) ≡ true) → is_held s knot t w ≡ true → is_held s small t w ≡ true
held_only s knot small t w same e = go w.all refl e
  where
    go : (all : Bool) → w.all ≡ all → (if w.all then list_any (held_at s knot t) w.objects else list_all (held_at s knot t) w.objects) ≡ true → (if w.all then list_any (held_at s small t) w.objects else list_all (held_at s small t) w.objects) ≡ true
    go true is h = rw is (any_by (held_at s knot t) (held_at s small t) w.objects same (rw is at h))
    go false is h = rw is (all_by (held_at s knot t) (held_at s small t) w.objects same (rw is at h))

-- a knot without what is no thread is one
pub knot_only : (d : Dispatcher) (f g knot : ℕ → Bool) → IsLawful d → ((t m : ℕ) → owned_by (object_at d.objects m) t ≡ true → t < d.threads) → Agree d.threads f g → IsKnot g knot (state d) → IsKnot f (only d.threads knot) (state d)
knot_only d f g knot lawful owners same tied t has calls = record {
  wait = old.wait;
  pends = old.pends;
  endless = old.endless;
  plain = old.plain;
  held = held_only (state d) knot (only d.threads knot) t old.wait (λ j below h. here (get_or old.wait.objects j 0) (j, below, refl) h) old.held;
}
  where
    inside : t < d.threads
    inside = only_inside d.threads knot t has

    old : IsTied knot (state d) t
    old = tied t (only_knot d.threads knot t has) (sym (same t inside) ∙ calls)

    here : (o : ℕ) → Names old.wait o → held_at (state d) knot t o ≡ true → held_at (state d) (only d.threads knot) t o ≡ true
    here o named h =
        let known = ((lawful.steady.sound.waits t old.wait old.pends).named o named).0 in
        holds_only d.threads knot (not (is_given (state d) modify_state o)) t o (object_at d.objects o) (λ u owns. owners u o owns) (λ thread runs. go thread runs known (ltb o d.threads) refl) h
      where
        go : is_thread (object_at d.objects o) ≡ true → has_ended (object_at d.objects o) ≡ false → o < length d.objects → (b : Bool) → ltb o d.threads ≡ b → o < d.threads
        go thread runs known true e = grind (arith, nat_tests, e)
        go thread runs known false e =
            let past : d.threads ≤ o = grind (arith, nat_tests, e) in
            let none = lawful.steady.sound.none_else o past known in
            absurd (false≢true (sym none ∙ and_both (is_thread (object_at d.objects o)) (not (has_ended (object_at d.objects o))) thread (ap not runs)))

-- ---- the verdict

pub waiting_known : (d : Dispatcher) → IsLawful d → (t : ℕ) → pends (state d) t ≡ true → t < d.threads
waiting_known d lawful t waits = go (get d.table.pending t) refl waits
  where
    go : (o : Option Wait) → get d.table.pending t ≡ o → is_some o ≡ true → t < d.threads
    go (Some w) e is = (lawful.steady.sound.waits t w e).known
    go None e is = absurd (false≢true is)

pub hangs_stuck : (d : Dispatcher) (plan : Plan) (p : Point) (over : List Bool) → p.state ≡ state d → Agree d.threads (unmarked over) (goes_on plan p) → IsStuck (unmarked over) (state d) → (t : ℕ) → pends (state d) t ≡ true → Hangs plan p
hangs_stuck d plan p over is same stuck t waits =
    inl (subst (IsStuck (goes_on plan p)) (sym is) (stuck_by (unmarked over) (goes_on plan p) (state d) same stuck), t, subst (λ (s : State). pends s t ≡ true) (sym is) waits)

pub hangs_knot : (d : Dispatcher) (plan : Plan) (p : Point) (over knot : List Bool) → p.state ≡ state d → Agree d.threads (unmarked over) (goes_on plan p) → length knot ≡ d.threads → IsGreatestKnot (unmarked over) (state d) knot → (t : ℕ) → marked knot t ≡ true → pends (state d) t ≡ true → Hangs plan p
hangs_knot d plan p over knot is same count greatest t has waits =
    inr (marked knot, subst (IsKnot (goes_on plan p) (marked knot)) (sym is) (knot_by (unmarked over) (goes_on plan p) (marked knot) (state d) same (λ u marks. inside u marks) greatest.knot), t, has, subst (λ (s : State). pends s t ≡ true) (sym is) waits)
  where
    inside : (u : ℕ) → marked knot u ≡ true → u < d.threads
    inside u marks = go (ltb u d.threads) refl
      where
        go : (b : Bool) → ltb u d.threads ≡ b → u < d.threads
        go true e = grind (arith, nat_tests, e)
        go false e = absurd (false≢true (sym (get_or_past knot u false (grind (arith, nat_tests, e, count))) ∙ marks))

pub told_hangs : (d : Dispatcher) (plan : Plan) (p : Point) (over knot : List Bool) → IsLawful d → ((t m : ℕ) → owned_by (object_at d.objects m) t ≡ true → t < d.threads) → p.state ≡ state d → Agree d.threads (unmarked over) (goes_on plan p) → (IsStuck (unmarked over) (state d) → ⊥) → IsGreatestKnot (unmarked over) (state d) knot → Hangs plan p → (t : ℕ) × (t < d.threads) × (marked knot t ≡ true) × (pends (state d) t ≡ true)
told_hangs d plan p over knot lawful owners is same loose greatest (inl (stuck, t, waits)) =
    absurd (loose (stuck_by (goes_on plan p) (unmarked over) (state d) (λ u below. sym (same u below)) (subst (IsStuck (goes_on plan p)) is stuck)))
told_hangs d plan p over knot lawful owners is same loose greatest (inr (other, tied, t, has, waits)) =
    let here : pends (state d) t ≡ true = subst (λ (s : State). pends s t ≡ true) is waits in
    let below = waiting_known d lawful t here in
    let small = knot_only d (unmarked over) (goes_on plan p) other lawful owners same (subst (IsKnot (goes_on plan p) other) is tied) in
    (t, below, greatest.greatest (only d.threads other) (λ u inside. only_inside d.threads other u inside) small t (only_has d.threads other t below has), here)

pub someone_waits : (plan : Plan) (p : Point) → Hangs plan p → (t : ℕ) × (pends p.state t ≡ true)
someone_waits plan p (inl (stuck, t, waits)) = (t, waits)
someone_waits plan p (inr (knot, tied, t, has, waits)) = (t, waits)

-- ---- as it is told

not_twice : (a b : Bool) → a ≡ not b → not a ≡ b
not_twice true true e = sym e
not_twice true false e = refl
not_twice false true e = refl
not_twice false false e = sym e

pub all_agree : (n : ℕ) (over read : List Bool) (g : ℕ → Bool) → read ≡ over → ((t : ℕ) → t < n → marked over t ≡ not (g t)) → (t : ℕ) → t < n → unmarked read t ≡ g t
all_agree n over read g same told t below = not_twice (marked read t) (g t) (ap (λ (ls : List Bool). marked ls t) same ∙ told t below)

pub decided : {A B H : Type 0} (b : Bool) → MatchBool b A B → (A → H) → (B → H → ⊥) → (b ≡ true → H) × (H → b ≡ true)
decided true m holds fails = (λ e. holds m, λ h. refl)
decided false m holds fails = (λ e. absurd (false≢true e), λ h. absurd (fails m h))
