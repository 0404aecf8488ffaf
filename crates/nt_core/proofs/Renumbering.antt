-- Handles that named one object name another.
use Rattle.std.proofs.Common.{◌≡◌, ◌≢◌, ℕ, zero, suc, ◌+◌, ◌<◌, ◌==◌, Bool, true, false, cond, List, [], ◌∷◌, length, map, set, refl, sym, ap, ◌∙◌, arith, Option, Some, None, inl, inr, ◌⊎◌}
use Rattle.std.specs.Prelude.{nat_lt}
use Rattle.std.proofs.lemmas.Bool.{false≢true}
use Rattle.std.proofs.lemmas.Bool.Decides.{nat_tests}
use Rattle.std.proofs.lemmas.List.{length-map}
use Rattle.nt_tables.specs.declared.handles.Opened.{Opened}
use Rattle.nt_tables.specs.Handles.{opened_at, count_named}
use Rattle.nt_calls.specs.Naming.{object_in}
use Rattle.nt_machine.specs.Lawful.{HandlesAgree}
use Rattle.nt_core.specs.SetAside.{named_instead}
use Rattle.nt_machine.proofs.Lives.{counted_opened}
use Rattle.nt_machine.proofs.Remaining.{some_handle}

-- ---- one handle after another

-- the first i handles are changed so
abbrev pub so_far : (Option Opened → Option Opened) → ℕ → List (Option Opened) → List (Option Opened)
so_far f zero hs = hs
so_far f (suc i) [] = []
so_far f (suc i) (x ∷ hs) = f x ∷ so_far f i hs

pub far_length : (f : Option Opened → Option Opened) (i : ℕ) (hs : List (Option Opened)) → length (so_far f i hs) ≡ length hs
far_length f zero hs = refl
far_length f (suc i) [] = refl
far_length f (suc i) (x ∷ hs) = ap suc (far_length f i hs)

pub far_next : (f : Option Opened → Option Opened) (i : ℕ) (hs : List (Option Opened)) → i < length hs → set (so_far f i hs) i (f (opened_at (so_far f i hs) i)) ≡ so_far f (suc i) hs
far_next f i [] known = absurd (omega (arith, known))
far_next f zero (x ∷ hs) known = refl
far_next f (suc i) (x ∷ hs) known = ap (λ ys. f x ∷ ys) (far_next f i hs (omega (arith, known)))

pub far_all : (f : Option Opened → Option Opened) (hs : List (Option Opened)) → so_far f (length hs) hs ≡ map f hs
far_all f [] = refl
far_all f (x ∷ hs) = ap (λ ys. f x ∷ ys) (far_all f hs)

-- what is put there last stands there
pub set_again : (hs : List (Option Opened)) (h : ℕ) (x y : Option Opened) → set (set hs h x) h y ≡ set hs h y
set_again [] h x y = refl
set_again (z ∷ hs) zero x y = refl
set_again (z ∷ hs) (suc h) x y = ap (λ ys. z ∷ ys) (set_again hs h x y)

-- ---- what each handle names then

pub opened_instead : (t o : ℕ) (hs : List (Option Opened)) (k : ℕ) → opened_at (map (named_instead t o) hs) k ≡ named_instead t o (opened_at hs k)
opened_instead t o [] zero = refl
opened_instead t o [] (suc k) = refl
opened_instead t o (x ∷ hs) zero = refl
opened_instead t o (x ∷ hs) (suc k) = opened_instead t o hs k

-- a handle that names something now named the object t, or names what it named
pub record NamedBefore (t o : ℕ) (hs : List (Option Opened)) (k : ℕ) (opened : Opened) : Type 0 where
  pub was : Opened
  pub there : opened_at hs k ≡ Some was
  pub object : ((was.object ≡ t) × (opened.object ≡ o)) ⊎ ((was.object ≢ t) × (opened.object ≡ was.object))

pub named_before : (t o : ℕ) (hs : List (Option Opened)) (k : ℕ) (opened : Opened) → opened_at (map (named_instead t o) hs) k ≡ Some opened → NamedBefore t o hs k opened
named_before t o hs k opened is = go (opened_at hs k) refl (sym (opened_instead t o hs k) ∙ is)
  where
    which : (w : Opened) (b : Bool) → (w.object == t) ≡ b → cond b o w.object ≡ opened.object → ((w.object ≡ t) × (opened.object ≡ o)) ⊎ ((w.object ≢ t) × (opened.object ≡ w.object))
    which w true e same = inl ((let test = e in grind (arith, nat_tests, test)), sym same)
    which w false e same = inr ((λ here. let test : (w.object == t) ≡ true = grind (arith, nat_tests, here) in false≢true (sym e ∙ test)), sym same)

    go : (x : Option Opened) → opened_at hs k ≡ x → named_instead t o x ≡ Some opened → NamedBefore t o hs k opened
    go None there e = let h : None ≡ Some opened = e in (cc)
    go (Some w) there e = record { was = w; there = there; object = which w (w.object == t) refl (ap object_in e) }

-- ---- how many handles name each object then

pub count_other : (t o k : ℕ) (hs : List (Option Opened)) → k ≢ t → k ≢ o → count_named (map (named_instead t o) hs) k ≡ count_named hs k
count_other t o k [] from to = refl
count_other t o k (None ∷ hs) from to = ap (λ n. 0 + n) (count_other t o k hs from to)
count_other t o k (Some w ∷ hs) from to = ap (λ b. cond b 1 0 + count_named (map (named_instead t o) hs) k) (go (w.object == t) refl) ∙ ap (λ n. cond (w.object == k) 1 0 + n) (count_other t o k hs from to)
  where
    go : (b : Bool) → (w.object == t) ≡ b → (cond b o w.object == k) ≡ (w.object == k)
    go false e = refl
    go true e =
        let a : (o == k) ≡ false = grind (arith, nat_tests, to) in
        let b : (w.object == k) ≡ false = (let here : w.object ≡ t = (let test = e in grind (arith, nat_tests, test)) in grind (arith, nat_tests, here, from)) in
        a ∙ sym b

pub count_from : (t o : ℕ) (hs : List (Option Opened)) → o ≢ t → count_named (map (named_instead t o) hs) t ≡ 0
count_from t o [] apart = refl
count_from t o (None ∷ hs) apart = ap (λ n. 0 + n) (count_from t o hs apart)
count_from t o (Some w ∷ hs) apart = ap (λ b. cond b 1 0 + count_named (map (named_instead t o) hs) t) (go (w.object == t) refl) ∙ ap (λ n. 0 + n) (count_from t o hs apart)
  where
    go : (b : Bool) → (w.object == t) ≡ b → (cond b o w.object == t) ≡ false
    go false e = e
    go true e = grind (arith, nat_tests, apart)

-- where a handle named the one, a handle names the other
pub count_to : (t o : ℕ) (hs : List (Option Opened)) → nat_lt 0 (count_named hs t) ≡ true → nat_lt 0 (count_named (map (named_instead t o) hs) o) ≡ true
count_to t o hs some =
    let one = some_handle hs t some in
    let test : (one.1.object == t) ≡ true = (let here = one.3 in grind (arith, nat_tests, here)) in
    let new : Opened = record { object = o; access = one.1.access } in
    let is : opened_at (map (named_instead t o) hs) one.0 ≡ Some new =
    opened_instead t o hs one.0 ∙ (ap (named_instead t o) one.2 ∙ ap (λ b. Some (record { object = cond b o one.1.object; access = one.1.access })) test) in
    counted_opened (map (named_instead t o) hs) one.0 new is

-- ---- handles still name objects that there are

pub handles_instead : (n m t o : ℕ) (hs : List (Option Opened)) → m ≡ n → o < n → HandlesAgree n hs → HandlesAgree m (map (named_instead t o) hs)
handles_instead n m t o hs same known agree =
    let long = length-map hs (named_instead t o) in
    let few = agree.few in
    let enough = agree.enough in
    record {
      few = omega (arith, long, few);
      enough = omega (arith, long, enough, same);
      named = λ k opened is.
          let before = named_before t o hs k opened is in
          elim before.object [
            | inl moved ↦ let e = moved.1 in omega (arith, e, known, same)
            | inr stayed ↦ let e = stayed.1 in let below = agree.named k before.was before.there in omega (arith, e, below, same)
          ];
    }
