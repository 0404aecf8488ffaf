-- What the end of objects leaves of a state.
use Rattle.std.proofs.Common.{◌≡◌, ℕ, zero, suc, ◌<◌, ◌==◌, Bool, true, false, not, ◌&&◌, ◌||◌, cond, List, [], ◌∷◌, length, refl, sym, ap, ◌∙◌, subst, arith, Option, Some, None, inl, inr, eqb-true, Contains}
use Rattle.std.specs.Prelude.{nat_lt, slice_set}
use Rattle.std.proofs.lemmas.Bool.{false≢true}
use Rattle.std.proofs.lemmas.Bool.Decides.{nat_tests}
use Rattle.std.proofs.lemmas.List.{length-set, get_or-set_other}
use Rattle.nt_status.proofs.Lists.{contains_none, contains_first, contains_later, contains_cases}
use Rattle.nt_objects.specs.declared.object.Object.{Object}
use Rattle.nt_objects.specs.declared.object.Object.TheVariants.{Thread, Gone}
use Rattle.nt_objects.specs.Object.{has_ended, is_gone}
use Rattle.nt_tables.specs.declared.handles.Opened.{Opened}
use Rattle.nt_tables.specs.Handles.{opened_at, count_named}
use Rattle.nt_calls.specs.State.{State, object_at}
use Rattle.nt_calls.specs.Living.{is_opened, is_awaited, runs, is_kept, lives, is_forgotten, gone, all_gone, Ends, LivesWhileKept}

-- ---- tests

pub both : (a b : Bool) → (a && b) ≡ true → (a ≡ true) × (b ≡ true)
both true true e = (refl, refl)
both true false e = absurd (false≢true e)
both false b e = absurd (false≢true e)

pub turned : (b : Bool) → not b ≡ true → b ≡ false
turned true e = absurd (false≢true e)
turned false e = refl

none_of : (a b c : Bool) → (a || (b || c)) ≡ false → (a ≡ false) × (b ≡ false)
none_of false false c e = (refl, refl)
none_of false true c e = absurd (false≢true (sym e))
none_of true b c e = absurd (false≢true (sym e))

pub and_not : (a : Bool) → (a && false) ≡ false
and_not true = refl
and_not false = refl

alike : (a b : Bool) → (a && not b) ≡ false → (b ≡ true → a ≡ true) → a ≡ b
alike true true e f = refl
alike true false e f = absurd (false≢true (sym e))
alike false true e f = absurd (false≢true (f refl))
alike false false e f = refl

-- ---- what stays where objects go

pub same_handles : (s : State) (os : List ℕ) → (all_gone s os).handles ≡ s.handles
same_handles s [] = refl
same_handles s (o ∷ os) = same_handles (gone s o) os

pub same_queues : (s : State) (os : List ℕ) → (all_gone s os).queues ≡ s.queues
same_queues s [] = refl
same_queues s (o ∷ os) = same_queues (gone s o) os

pub same_threads : (s : State) (os : List ℕ) → (all_gone s os).threads ≡ s.threads
same_threads s [] = refl
same_threads s (o ∷ os) = same_threads (gone s o) os

pub same_waits : (s : State) (os : List ℕ) → (all_gone s os).waits ≡ s.waits
same_waits s [] = refl
same_waits s (o ∷ os) = same_waits (gone s o) os

pub same_count : (s : State) (os : List ℕ) → length (all_gone s os).objects ≡ length s.objects
same_count s [] = refl
same_count s (o ∷ os) = same_count (gone s o) os ∙ length-set s.objects o Gone

pub stays : (s : State) (os : List ℕ) (o : ℕ) → (Contains os o → ⊥) → object_at (all_gone s os).objects o ≡ object_at s.objects o
stays s [] o none = refl
stays s (p ∷ os) o none =
    stays (gone s p) os o (λ m. none (contains_later p os o m)) ∙ get_or-set_other s.objects p o Gone (Thread false) (λ e. none (contains_first p os o (sym e)))

-- ---- what goes

pub set_here : (os : List Object) (o : ℕ) → o < length os → object_at (slice_set os o Gone) o ≡ Gone
set_here [] o known = absurd (omega (arith, known))
set_here (x ∷ os) zero known = refl
set_here (x ∷ os) (suc o) known = set_here os o (omega (arith, known))

set_again : (os : List Object) (p o : ℕ) → object_at os o ≡ Gone → object_at (slice_set os p Gone) o ≡ Gone
set_again [] p o is = is
set_again (x ∷ os) zero zero is = refl
set_again (x ∷ os) zero (suc o) is = is
set_again (x ∷ os) (suc p) zero is = is
set_again (x ∷ os) (suc p) (suc o) is = set_again os p o is

stays_gone : (s : State) (os : List ℕ) (o : ℕ) → object_at s.objects o ≡ Gone → object_at (all_gone s os).objects o ≡ Gone
stays_gone s [] o is = is
stays_gone s (p ∷ os) o is = stays_gone (gone s p) os o (set_again s.objects p o is)

pub goes : (s : State) (os : List ℕ) (o : ℕ) → Contains os o → o < length s.objects → object_at (all_gone s os).objects o ≡ Gone
goes s [] o m known = absurd (contains_none o m)
goes s (p ∷ os) o m known = elim (contains_cases p os o m) [
  | inl e ↦ stays_gone (gone s p) os o (ap (λ q. object_at (slice_set s.objects q Gone) o) e ∙ set_here s.objects o known)
  | inr later ↦ goes (gone s p) os o later (let same = length-set s.objects p Gone in omega (arith, known, same))
]

-- the end of objects ends no wait
pub ends_waits : (left new : State) → Ends left new → new.waits ≡ left.waits
ends_waits left new ends = ap (λ (s : State). s.waits) ends.leaves ∙ same_waits left ends.objects

-- ---- what keeps an object

-- where handles name an object, one of them does
pub some_handle : (hs : List (Option Opened)) (o : ℕ) → nat_lt 0 (count_named hs o) ≡ true → (h : ℕ) × (opened : Opened) × (opened_at hs h ≡ Some opened) × (opened.object ≡ o)
some_handle [] o is = absurd (false≢true is)
some_handle (None ∷ hs) o is = let rest = some_handle hs o (subst (λ n. nat_lt 0 n ≡ true) (omega arith) is) in (suc rest.0, rest.1, rest.2, rest.3)
some_handle (Some opened ∷ hs) o is = go (opened.object == o) refl (λ less. some_handle hs o less)
  where
    go : (b : Bool) → (opened.object == o) ≡ b → (nat_lt 0 (count_named hs o) ≡ true → (h : ℕ) × (found : Opened) × (opened_at hs h ≡ Some found) × (found.object ≡ o)) → (h : ℕ) × (found : Opened) × (opened_at (Some opened ∷ hs) h ≡ Some found) × (found.object ≡ o)
    go true e rest = (0, opened, refl, eqb-true opened.object o e)
    go false e rest =
        let less : nat_lt 0 (count_named hs o) ≡ true = subst (λ n. nat_lt 0 n ≡ true) (let w : ◌≡◌ {A = ℕ} (cond (opened.object == o) 1 0) 0 = ap (λ b. cond b 1 0) e in omega (arith, w)) is in
        let found = rest less in (suc found.0, found.1, found.2, found.3)

pub some_member : (queue : List ℕ) → nat_lt 0 (length queue) ≡ true → (t : ℕ) × Contains queue t
some_member [] is = absurd (false≢true is)
some_member (t ∷ queue) is = (t, contains_first t queue t refl)

-- ---- after the end of objects each lives exactly while something keeps it, where what is kept lived before

pub ends_living : (old new : State) → ((o : ℕ) → is_kept old o ≡ true → lives old o ≡ true) → Ends old new → LivesWhileKept new
ends_living old new kept_lives ends o = subst (λ (s : State). lives s o ≡ is_kept s o) (sym ends.leaves) (go (is_forgotten old o) refl)
  where
    left : State
    left = all_gone old ends.objects

    opened : is_opened left o ≡ is_opened old o
    opened = ap (λ hs. nat_lt 0 (count_named hs o)) (same_handles old ends.objects)

    awaited : is_awaited left o ≡ is_awaited old o
    awaited = ap (λ (qs : ℕ → List ℕ). nat_lt 0 (length (qs o))) (same_queues old ends.objects)

    living : (object : Object) → object_at left.objects o ≡ object → lives left o ≡ (nat_lt o (length old.objects) && not (is_gone object))
    living object e = ap (λ n. nat_lt o n && not (is_gone (object_at left.objects o))) (same_count old ends.objects) ∙ ap (λ x. nat_lt o (length old.objects) && not (is_gone x)) e

    running : (object : Object) → object_at left.objects o ≡ object → runs left o ≡ (nat_lt o old.threads && not (has_ended object))
    running object e = ap (λ n. nat_lt o n && not (has_ended (object_at left.objects o))) (same_threads old ends.objects) ∙ ap (λ x. nat_lt o old.threads && not (has_ended x)) e

    kept : (a b c : Bool) → is_opened left o ≡ a → is_awaited left o ≡ b → runs left o ≡ c → is_kept left o ≡ (a || (b || c))
    kept a b c p q r = ap (λ x. x || (is_awaited left o || runs left o)) p ∙ (ap (λ x. a || (x || runs left o)) q ∙ ap (λ x. a || (b || x)) r)

    go : (b : Bool) → is_forgotten old o ≡ b → lives left o ≡ is_kept left o
    go true is =
        let two = both (lives old o) (not (is_kept old o)) is in
        let none = none_of (is_opened old o) (is_awaited old o) (runs old o) (turned (is_kept old o) two.1) in
        let test = (both (nat_lt o (length old.objects)) (not (is_gone (object_at old.objects o))) two.0).0 in
        let there = goes old ends.objects o ((ends.forgotten.exactly o).1 is) (grind (arith, nat_tests, test)) in
        living Gone there ∙ (and_not (nat_lt o (length old.objects)) ∙ sym (kept false false false (opened ∙ none.0) (awaited ∙ none.1) (running Gone there ∙ and_not (nat_lt o old.threads))))
    go false is =
        let there = stays old ends.objects o (λ m. false≢true (sym is ∙ (ends.forgotten.exactly o).0 m)) in
        living (object_at old.objects o) there ∙ (alike (lives old o) (is_kept old o) is (kept_lives o) ∙ sym (kept (is_opened old o) (is_awaited old o) (runs old o) opened awaited (running (object_at old.objects o) there)))
