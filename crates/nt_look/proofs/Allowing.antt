-- What handles allow, and that it never grows.
use Rattle.std.proofs.Common.{◌≡◌, ◌≢◌, ◌≤◌, ◌<◌, ◌+◌, ◌==◌, ℕ, zero, suc, Bool, true, false, cond, not, ◌&&◌, List, [], ◌∷◌, length, eqb-true, refl, sym, ap, ◌∙◌, subst, arith, Option, Some, None}
use Rattle.std.specs.Int.RustNames.{bit_and}
use Rattle.std.specs.List.{list_any}
use Rattle.std.proofs.lemmas.Nat.{and_assoc}
use Rattle.std.proofs.lemmas.Bool.{false≢true}
use Rattle.std.proofs.lemmas.Bool.Decides.{nat_tests}
use Rattle.nt_status.specs.Flags.{has_flag}
use Rattle.nt_status.specs.declared.refusal.Refusal.{Refusal}
use Rattle.nt_status.specs.declared.refusal.Refusal.TheVariants.{AccessDenied}
use Rattle.nt_tables.specs.declared.handles.Opened.{Opened}
use Rattle.nt_tables.specs.Handles.{opened_at, names, count_named}
use Rattle.nt_calls.specs.State.{State}
use Rattle.nt_calls.specs.Naming.{no_object, object_in, object_named, access_in, lacks}
use Rattle.nt_calls.specs.Refusals.{Cause, first_of_causes}
use Rattle.nt_machine.proofs.Accepting.{next_causes}
use Rattle.nt_look.specs.Hangs.{gives, is_given}
use Rattle.nt_look.proofs.Parts.{not_first, not_second, not_false, together, handle_at, no_handle}

-- who has all of some rights has each of them
flag_along : (a b c : ℕ) → has_flag a b ≡ true → has_flag b c ≡ true → has_flag a c ≡ true
flag_along a b c has some =
    let first : bit_and a b ≡ b = eqb-true (bit_and a b) b has in
    let second : bit_and b c ≡ c = eqb-true (bit_and b c) c some in
    let all : bit_and a c ≡ c = ap (λ x. bit_and a x) (sym second) ∙ (sym (and_assoc c a b) ∙ (ap (λ x. bit_and x c) first ∙ second)) in
    grind (arith, nat_tests, all)

-- a handle that does not lack a right that no handle of the object has names another
pub not_here : (right : ℕ) (s : State) (o h : ℕ) → o < no_object → is_given s right o ≡ false → lacks right s.handles h ≡ false → object_named s.handles h ≡ o → ⊥
not_here right s o h known none has is = go (opened_at s.handles h) refl
  where
    go : (x : Option Opened) → opened_at s.handles h ≡ x → ⊥
    go None e =
        let far : no_object ≡ o = sym (ap object_in e) ∙ is in
        omega (arith, far, known)
    go (Some opened) e =
        let here : opened.object ≡ o = sym (ap object_in e) ∙ is in
        let same : (opened.object == o) ≡ true = grind (arith, nat_tests, here) in
        let flag : has_flag opened.access right ≡ true = not_false (has_flag opened.access right) (sym (ap (λ x. not (has_flag (access_in x) right)) e) ∙ has) in
        let given : gives right o (Some opened) ≡ true = together (opened.object == o) (has_flag opened.access right) same flag in
        false≢true (sym (handle_at (gives right o) refl s.handles h none) ∙ (ap (gives right o) e ∙ given))

-- a duplicate of what no handle gives a right to has not that right
pub duplicate_less : (right : ℕ) (s : State) (o h access : ℕ) → o < no_object → is_given s right o ≡ false → lacks access s.handles h ≡ false → gives right o (Some (record { object = object_named s.handles h; access = access })) ≡ false
duplicate_less right s o h access known none has = go (object_named s.handles h == o) (has_flag access right) refl refl
  where
    go : (here flag : Bool) → (object_named s.handles h == o) ≡ here → has_flag access right ≡ flag → ((object_named s.handles h == o) && has_flag access right) ≡ false
    go false flag e f = not_first (object_named s.handles h == o) (has_flag access right) e
    go true false e f = not_second (object_named s.handles h == o) (has_flag access right) f
    go true true e f =
        let same : object_named s.handles h ≡ o = grind (arith, nat_tests, e) in
        let all : has_flag (access_in (opened_at s.handles h)) access ≡ true = not_false (has_flag (access_in (opened_at s.handles h)) access) has in
        let one = flag_along (access_in (opened_at s.handles h)) access right all f in
        absurd (not_here right s o h known none (ap (λ b. not b) one) same)

-- a call that is accepted was not denied
pub undenied : (b : Bool) (r : Refusal) (denied : Bool) (cs : List Cause) → first_of_causes ((b, r) ∷ (denied, AccessDenied) ∷ cs) ≡ None → denied ≡ false
undenied b r denied cs none = (next_causes denied AccessDenied cs (next_causes b r ((denied, AccessDenied) ∷ cs) none).1).0

-- ---- the search for a handle

-- how many handles from this number on name the object
abbrev pub named_from : List (Option Opened) → ℕ → ℕ → ℕ
named_from [] n o = 0
named_from (h ∷ hs) zero o = count_named (h ∷ hs) o
named_from (h ∷ hs) (suc n) o = named_from hs n o

pub named_from_first : (hs : List (Option Opened)) (o : ℕ) → named_from hs 0 o ≡ count_named hs o
named_from_first [] o = refl
named_from_first (h ∷ hs) o = refl

named_from_next : (hs : List (Option Opened)) (n o : ℕ) → named_from hs n o ≡ cond (names o (opened_at hs n)) 1 0 + named_from hs (suc n) o
named_from_next [] n o = refl
named_from_next (h ∷ hs) zero o = ap (λ (k : ℕ). cond (names o h) 1 0 + k) (sym (named_from_first hs o))
named_from_next (h ∷ hs) (suc n) o = named_from_next hs n o

unnamed_from : (hs : List (Option Opened)) (n o h : ℕ) → named_from hs n o ≡ 0 → n ≤ h → names o (opened_at hs h) ≡ false
unnamed_from [] n o h none past = refl
unnamed_from (x ∷ hs) zero o zero none past = go (names o x) refl
  where
    go : (b : Bool) → names o x ≡ b → names o x ≡ false
    go false is = is
    go true is =
        let one : ◌≡◌ {A = ℕ} (cond (names o x) 1 0) 1 = ap (λ b. cond b 1 0) is in
        absurd (omega (arith, none, one))
unnamed_from (x ∷ hs) zero o (suc h) none past =
    let rest : count_named hs o ≡ 0 = omega (arith, none) in
    unnamed_from hs zero o h (named_from_first hs o ∙ rest) (omega arith)
unnamed_from (x ∷ hs) (suc n) o zero none past = absurd (omega (arith, past))
unnamed_from (x ∷ hs) (suc n) o (suc h) none past = unnamed_from hs n o h none (omega (arith, past))

unnamed_gives : (right o : ℕ) (x : Option Opened) → names o x ≡ false → gives right o x ≡ false
unnamed_gives right o None none = refl
unnamed_gives right o (Some opened) none = not_first (opened.object == o) (has_flag opened.access right) none

-- no handle below this number gives the right, and so many from there on name the object
pub record IsSearched (handles : List (Option Opened)) (right o n left : ℕ) : Type 0 where
  pub none : (h : ℕ) → h < n → gives right o (opened_at handles h) ≡ false
  pub rest : left ≡ named_from handles n o

pub search_begins : (handles : List (Option Opened)) (right o left : ℕ) → left ≡ count_named handles o → IsSearched handles right o 0 left
search_begins handles right o left is = record { none = λ h below. absurd (omega (arith, below)); rest = is ∙ sym (named_from_first handles o) }

none_below : (handles : List (Option Opened)) (right o n : ℕ) → ((h : ℕ) → h < n → gives right o (opened_at handles h) ≡ false) → gives right o (opened_at handles n) ≡ false → (h : ℕ) → h < n + 1 → gives right o (opened_at handles h) ≡ false
none_below handles right o n none here h below = go (h == n) refl
  where
    go : (b : Bool) → (h == n) ≡ b → gives right o (opened_at handles h) ≡ false
    go true e =
        let same : h ≡ n = grind (arith, nat_tests, e) in
        ap (λ k. gives right o (opened_at handles k)) same ∙ here
    go false e =
        let other : h ≢ n = grind (arith, nat_tests, e) in
        none h (omega (arith, below, other))

-- a handle that names the object, or not
pub search_goes : (handles : List (Option Opened)) (right o n left now : ℕ) (here : Bool) → here ≡ names o (opened_at handles n) → gives right o (opened_at handles n) ≡ false → left ≡ cond here 1 0 + now → IsSearched handles right o n left → IsSearched handles right o (n + 1) now
search_goes handles right o n left now here is none count searched = record {
  none = none_below handles right o n searched.none none;
  rest =
      let step = named_from_next handles n o in
      let one : ◌≡◌ {A = ℕ} (cond here 1 0) (cond (names o (opened_at handles n)) 1 0) = ap (λ b. cond b 1 0) is in
      let so_far = searched.rest in
      let left_now : now ≡ named_from handles (suc n) o = omega (arith, step, one, so_far, count) in
      let next : suc n ≡ n + 1 = omega arith in
      subst (λ (k : ℕ). now ≡ named_from handles k o) next left_now;
}

-- where no handle is left that names the object
pub search_ends : (s : State) (right o n left : ℕ) → left ≡ 0 → IsSearched s.handles right o n left → is_given s right o ≡ false
search_ends s right o n left over searched = no_handle (gives right o) s.handles each
  where
    none_left : named_from s.handles n o ≡ 0
    none_left = sym searched.rest ∙ over

    each : (h : ℕ) → gives right o (opened_at s.handles h) ≡ false
    each h = go (Rattle.std.specs.Prelude.nat_lt h n) refl
      where
        go : (b : Bool) → Rattle.std.specs.Prelude.nat_lt h n ≡ b → gives right o (opened_at s.handles h) ≡ false
        go true e = searched.none h (grind (arith, nat_tests, e))
        go false e = unnamed_gives right o (opened_at s.handles h) (unnamed_from s.handles n o h none_left (grind (arith, nat_tests, e)))

past_end : (handles : List (Option Opened)) (h : ℕ) → length handles ≤ h → opened_at handles h ≡ None
past_end [] h past = refl
past_end (x ∷ hs) zero past = absurd (omega (arith, past))
past_end (x ∷ hs) (suc h) past = past_end hs h (omega (arith, past))

-- where each handle was seen
pub search_passed : (s : State) (right o n left : ℕ) → length s.handles ≤ n → IsSearched s.handles right o n left → is_given s right o ≡ false
search_passed s right o n left all searched = no_handle (gives right o) s.handles each
  where
    each : (h : ℕ) → gives right o (opened_at s.handles h) ≡ false
    each h = go (Rattle.std.specs.Prelude.nat_lt h n) refl
      where
        go : (b : Bool) → Rattle.std.specs.Prelude.nat_lt h n ≡ b → gives right o (opened_at s.handles h) ≡ false
        go true e = searched.none h (grind (arith, nat_tests, e))
        go false e =
            let past : n ≤ h = grind (arith, nat_tests, e) in
            ap (gives right o) (past_end s.handles h (omega (arith, past, all)))

-- a handle that gives the right
pub given_by : (s : State) (right o h : ℕ) → gives right o (opened_at s.handles h) ≡ true → is_given s right o ≡ true
given_by s right o h gives_it = go (is_given s right o) refl
  where
    go : (b : Bool) → is_given s right o ≡ b → is_given s right o ≡ true
    go true e = e
    go false e = absurd (false≢true (sym (handle_at (gives right o) refl s.handles h e) ∙ gives_it))
