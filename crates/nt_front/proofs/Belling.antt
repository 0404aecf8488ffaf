-- Bells in the order of their threads.
use Rattle.std.proofs.Common.{◌≡◌, ◌+◌, ◌<◌, ◌≤◌, ℕ, zero, suc, Bool, true, false, List, [], ◌∷◌, ◌++◌, length, set, refl, subst, arith}
use Rattle.std.specs.Prelude.{IfSome, slice_get}
use Rattle.nt_front.specs.declared.bell.Bell.{Bell}
use Rattle.nt_marks.specs.Marks.{is_marked, NoneMarked}
use Rattle.nt_front.specs.Wakes.{AreNumbered, marked_below}

-- the bells are those of the threads from number n on
AreFrom : ℕ → List Bell → Type 0
AreFrom n bells = (i : ℕ) → IfSome (slice_get bells i) (λ bell. bell.thread ≡ n + i)

one_more : (n : ℕ) (bells : List Bell) (bell : Bell) → AreFrom n bells → bell.thread ≡ n + length bells → AreFrom n (bells ++ bell ∷ [])
unfolding AreFrom
one_more n [] bell are is zero = is
one_more n [] bell are is (suc i) = tt
one_more n (b ∷ bells) bell are is zero = are zero
one_more n (b ∷ bells) bell are is (suc i) =
    subst (λ (m : ℕ). IfSome (slice_get (bells ++ bell ∷ []) i) (λ bell. bell.thread ≡ m)) {x = suc n + i} {y = n + suc i} (omega arith)
    (one_more (suc n) bells bell (λ j. subst (λ (m : ℕ). IfSome (slice_get bells j) (λ bell. bell.thread ≡ m)) {x = n + suc j} {y = suc n + j} (omega arith) (are (suc j))) (omega (arith, is)) i)

pub one_bell_more : (bells : List Bell) (bell : Bell) → AreNumbered bells → bell.thread ≡ length bells → AreNumbered (bells ++ bell ∷ [])
unfolding AreFrom
one_bell_more bells bell are is i =
    subst (λ (m : ℕ). IfSome (slice_get (bells ++ bell ∷ []) i) (λ bell. bell.thread ≡ m)) {x = 0 + i} {y = i} (omega arith)
    (one_more 0 bells bell (λ j. subst (λ (m : ℕ). IfSome (slice_get bells j) (λ bell. bell.thread ≡ m)) {x = j} {y = 0 + j} (omega arith) (are j)) (omega (arith, is)) i)

-- ---- how many bells are rung

pub rings_most : (n : ℕ) (marks : List Bool) → marked_below n marks ≤ n
rings_most zero marks = omega arith
rings_most (suc n) [] = omega arith
rings_most (suc n) (true ∷ marks) = let rest = rings_most n marks in omega (arith, rest)
rings_most (suc n) (false ∷ marks) = let rest = rings_most n marks in omega (arith, rest)

pub rings_none : (n : ℕ) (marks : List Bool) → NoneMarked marks → marked_below n marks ≡ 0
rings_none zero marks none = refl
rings_none (suc n) [] none = refl
rings_none (suc n) (true ∷ marks) none = absurd (none 0 refl)
rings_none (suc n) (false ∷ marks) none = let rest = rings_none n marks (λ place. none (suc place)) in omega (arith, rest)

-- a marked thread has a bell
pub rings_once : (n place : ℕ) (marks : List Bool) → is_marked marks place ≡ true → place < n → marked_below n (set marks place false) + 1 ≡ marked_below n marks
rings_once zero place marks is near = absurd (omega (arith, near))
rings_once (suc n) place [] is near = let e : false ≡ true = is in (cc)
rings_once (suc n) zero (true ∷ marks) is near = omega arith
rings_once (suc n) zero (false ∷ marks) is near = let e : false ≡ true = is in (cc)
rings_once (suc n) (suc place) (true ∷ marks) is near = let rest = rings_once n place marks is (omega (arith, near)) in omega (arith, rest)
rings_once (suc n) (suc place) (false ∷ marks) is near = let rest = rings_once n place marks is (omega (arith, near)) in omega (arith, rest)

-- it has none
pub rings_far : (n place : ℕ) (marks : List Bool) → n ≤ place → marked_below n (set marks place false) ≡ marked_below n marks
rings_far zero place marks far = refl
rings_far (suc n) place [] far = refl
rings_far (suc n) zero (m ∷ marks) far = absurd (omega (arith, far))
rings_far (suc n) (suc place) (m ∷ marks) far = let rest = rings_far n place marks (omega (arith, far)) in omega (arith, rest)
