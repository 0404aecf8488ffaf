-- Tests, and lists of them; one object in the place of another.
use Rattle.std.proofs.Common.{◌≡◌, ℕ, zero, suc, Bool, true, false, not, ◌&&◌, ◌||◌, List, [], ◌∷◌, ◌++◌, length, refl, sym, ap, arith, inl, inr, ◌⊎◌, Contains, ◌<◌, Option, None}
use Rattle.std.specs.Prelude.{map, slice_set, slice_index}
use Rattle.std.specs.List.{list_any, list_all}
use Rattle.std.proofs.lemmas.Bool.{false≢true}
use Rattle.nt_status.proofs.Lists.{contains_first}
use Rattle.nt_objects.specs.declared.object.Object.{Object}
use Rattle.nt_objects.specs.declared.object.Object.TheVariants.{Thread}
use Rattle.nt_tables.specs.declared.handles.Opened.{Opened}
use Rattle.nt_tables.specs.Handles.{opened_at}
use Rattle.nt_calls.specs.State.{object_at}

-- ---- tests

pub neither : (a b : Bool) → (a || b) ≡ false → (a ≡ false) × (b ≡ false)
neither true b e = absurd (false≢true (sym e))
neither false b e = (refl, e)

pub none_of : (a b : Bool) → a ≡ false → b ≡ false → (a || b) ≡ false
none_of true b e f = absurd (false≢true (sym e))
none_of false b e f = f

pub not_both : (a b : Bool) → (a && b) ≡ false → (a ≡ false) ⊎ (b ≡ false)
not_both true b e = inr e
not_both false b e = inl refl

pub not_first : (a b : Bool) → a ≡ false → (a && b) ≡ false
not_first true b e = absurd (false≢true (sym e))
not_first false b e = refl

pub not_second : (a b : Bool) → b ≡ false → (a && b) ≡ false
not_second true b e = e
not_second false b e = refl

pub second_false : (a b : Bool) → a ≡ true → (a && b) ≡ false → b ≡ false
second_false true b is e = e
second_false false b is e = absurd (false≢true is)

pub or_less : (a b c : Bool) → (b ≡ false → c ≡ false) → (a || b) ≡ false → (a || c) ≡ false
or_less a b c less e = let two = neither a b e in none_of a c two.0 (less two.1)

pub not_true : (b : Bool) → not b ≡ true → b ≡ false
not_true true e = sym e
not_true false e = refl

pub not_false : (b : Bool) → not b ≡ false → b ≡ true
not_false true e = refl
not_false false e = absurd (false≢true (sym e))

-- where the one implies the other
pub not_with : (a b c : Bool) → (b ≡ false → c ≡ false) → (a && b) ≡ false → (a && c) ≡ false
not_with true b c less e = less e
not_with false b c less e = refl

pub both_of : (a b : Bool) → (a && b) ≡ true → (a ≡ true) × (b ≡ true)
both_of true b e = (refl, e)
both_of false b e = absurd (false≢true e)

pub together : (a b : Bool) → a ≡ true → b ≡ true → (a && b) ≡ true
together true b e f = f
together false b e f = absurd (false≢true e)

-- ---- lists of tests

-- no member passes the second test that fails the first
pub any_less : {X : Type 0} (p q : X → Bool) → ((x : X) → p x ≡ false → q x ≡ false) → (xs : List X) → list_any p xs ≡ false → list_any q xs ≡ false
any_less p q less [] e = refl
any_less p q less (x ∷ xs) e = let two = neither (p x) (list_any p xs) e in none_of (q x) (list_any q xs) (less x two.0) (any_less p q less xs two.1)

pub all_less : {X : Type 0} (p q : X → Bool) → ((x : X) → p x ≡ false → q x ≡ false) → (xs : List X) → list_all p xs ≡ false → list_all q xs ≡ false
all_less p q less [] e = absurd (false≢true (sym e))
all_less p q less (x ∷ xs) e = elim (not_both (p x) (list_all p xs) e) [
  | inl first ↦ not_first (q x) (list_all q xs) (less x first)
  | inr rest ↦ not_second (q x) (list_all q xs) (all_less p q less xs rest)
]

-- the places that pass the first test pass the second
pub any_kept : (p q : ℕ → Bool) (hs : List ℕ) → ((j : ℕ) → j < length hs → p (slice_index hs j) ≡ true → q (slice_index hs j) ≡ true) → list_any p hs ≡ true → list_any q hs ≡ true
any_kept p q [] kept e = e
any_kept p q (h ∷ hs) kept e = go (p h) (q h) (kept 0 (omega arith)) (any_kept p q hs (λ j below. kept (suc j) (omega (arith, below)))) e
  where
    go : (a b : Bool) → (a ≡ true → b ≡ true) → (list_any p hs ≡ true → list_any q hs ≡ true) → (a || list_any p hs) ≡ true → (b || list_any q hs) ≡ true
    go a true first later is = refl
    go true false first later is = absurd (false≢true (first refl))
    go false false first later is = later is

pub all_kept : (p q : ℕ → Bool) (hs : List ℕ) → ((j : ℕ) → j < length hs → p (slice_index hs j) ≡ true → q (slice_index hs j) ≡ true) → list_all p hs ≡ true → list_all q hs ≡ true
all_kept p q [] kept e = e
all_kept p q (h ∷ hs) kept e =
    let two = both_of (p h) (list_all p hs) e in
    together (q h) (list_all q hs) (kept 0 (omega arith) two.0) (all_kept p q hs (λ j below. kept (suc j) (omega (arith, below))) two.1)

-- one member more, or each of them changed
pub any_push : {X : Type 0} (q : X → Bool) (xs : List X) (last : X) → list_any q xs ≡ false → q last ≡ false → list_any q (xs ++ last ∷ []) ≡ false
any_push q [] last e f = none_of (q last) false f refl
any_push q (x ∷ xs) last e f = let two = neither (q x) (list_any q xs) e in none_of (q x) (list_any q (xs ++ last ∷ [])) two.0 (any_push q xs last two.1 f)

pub any_mapped : {X : Type 0} (q : X → Bool) (f : X → X) → ((x : X) → q x ≡ false → q (f x) ≡ false) → (xs : List X) → list_any q xs ≡ false → list_any q (map f xs) ≡ false
any_mapped q f less [] e = refl
any_mapped q f less (x ∷ xs) e = let two = neither (q x) (list_any q xs) e in none_of (q (f x)) (list_any q (map f xs)) (less x two.0) (any_mapped q f less xs two.1)

-- what passes the first test fails the second
pub all_against : (p r : ℕ → Bool) → ((h : ℕ) → p h ≡ true → r h ≡ false) → (hs : List ℕ) → list_all p hs ≡ true → list_any r hs ≡ false
all_against p r against [] e = refl
all_against p r against (h ∷ hs) e =
    let two = both_of (p h) (list_all p hs) e in
    none_of (r h) (list_any r hs) (against h two.0) (all_against p r against hs two.1)

pub any_against : (p r : ℕ → Bool) → ((h : ℕ) → p h ≡ true → r h ≡ false) → (hs : List ℕ) → list_any p hs ≡ true → list_all r hs ≡ false
any_against p r against [] e = absurd (false≢true e)
any_against p r against (h ∷ hs) e = go (p h) refl (any_against p r against hs) e
  where
    go : (a : Bool) → p h ≡ a → (list_any p hs ≡ true → list_all r hs ≡ false) → (a || list_any p hs) ≡ true → (r h && list_all r hs) ≡ false
    go true here later is = not_first (r h) (list_all r hs) (against h here)
    go false here later is = not_second (r h) (list_all r hs) (later is)

-- a list without members
pub nobody : (xs : List ℕ) → ((x : ℕ) → Contains xs x → ⊥) → xs ≡ []
nobody [] none = refl
nobody (x ∷ xs) none = absurd (none x (contains_first x xs x refl))

-- ---- one object in the place of another

-- what holds of the object that was there, and of the one that is put, holds
pub at_set : (P : Object → Type 0) → (os : List Object) (g h : ℕ) (new : Object) → P (object_at os h) → (g ≡ h → P new) → P (object_at (slice_set os g new) h)
at_set P [] g h new old put = old
at_set P (o ∷ os) zero zero new old put = put refl
at_set P (o ∷ os) zero (suc h) new old put = old
at_set P (o ∷ os) (suc g) zero new old put = old
at_set P (o ∷ os) (suc g) (suc h) new old put = at_set P os g h new old (λ e. put (ap suc e))

pub any_set : (q : Object → Bool) (os : List Object) (g : ℕ) (new : Object) → (q (object_at os g) ≡ false → q new ≡ false) → list_any q os ≡ false → list_any q (slice_set os g new) ≡ false
any_set q [] g new less e = refl
any_set q (o ∷ os) zero new less e = let two = neither (q o) (list_any q os) e in none_of (q new) (list_any q os) (less two.0) two.1
any_set q (o ∷ os) (suc g) new less e = let two = neither (q o) (list_any q os) e in none_of (q o) (list_any q (slice_set os g new)) two.0 (any_set q os g new less two.1)

pub any_at : (q : Object → Bool) → q (Thread false) ≡ false → (os : List Object) (g : ℕ) → list_any q os ≡ false → q (object_at os g) ≡ false
any_at q none [] g e = none
any_at q none (o ∷ os) zero e = (neither (q o) (list_any q os) e).0
any_at q none (o ∷ os) (suc g) e = any_at q none os g (neither (q o) (list_any q os) e).1

-- what holds of the object that is put, and where there is none
pub at_own : (P : Object → Type 0) → (os : List Object) (g : ℕ) (new : Object) → P new → P (Thread false) → P (object_at (slice_set os g new) g)
at_own P [] g new put none = none
at_own P (o ∷ os) zero new put none = put
at_own P (o ∷ os) (suc g) new put none = at_own P os g new put none

-- ---- handles

-- a test that no handle passes
pub handle_at : (q : Option Opened → Bool) → q None ≡ false → (hs : List (Option Opened)) (h : ℕ) → list_any q hs ≡ false → q (opened_at hs h) ≡ false
handle_at q none [] h e = none
handle_at q none (x ∷ hs) zero e = (neither (q x) (list_any q hs) e).0
handle_at q none (x ∷ hs) (suc h) e = handle_at q none hs h (neither (q x) (list_any q hs) e).1

pub handle_closed : (q : Option Opened → Bool) → q None ≡ false → (hs : List (Option Opened)) (h : ℕ) → list_any q hs ≡ false → list_any q (slice_set hs h None) ≡ false
handle_closed q none [] h e = refl
handle_closed q none (x ∷ hs) zero e = let two = neither (q x) (list_any q hs) e in none_of (q None) (list_any q hs) none two.1
handle_closed q none (x ∷ hs) (suc h) e =
    let two = neither (q x) (list_any q hs) e in
    none_of (q x) (list_any q (slice_set hs h None)) two.0 (handle_closed q none hs h two.1)

-- one that each handle fails
pub no_handle : (q : Option Opened → Bool) → (hs : List (Option Opened)) → ((h : ℕ) → q (opened_at hs h) ≡ false) → list_any q hs ≡ false
no_handle q [] none = refl
no_handle q (x ∷ hs) none = none_of (q x) (list_any q hs) (none 0) (no_handle q hs (λ h. none (suc h)))
