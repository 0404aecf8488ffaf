-- What one thread's change keeps.
use Rattle.std.proofs.Common.{◌≡◌, ◌≢◌, ℕ, Bool, true, ◌<◌, refl, sym, ◌∙◌, subst, ap, inl, inr, ◌⊎◌, List, [], ◌∷◌, length, get_or}
use Rattle.std.specs.Prelude.{if◌then◌else◌}
use Rattle.std.proofs.lemmas.Bool.{eq-eqb, ne_eqb}
use Rattle.std.proofs.lemmas.Bool.Decides.{eqb_tells}
use Rattle.std.proofs.lemmas.Grind.{get_or-set_at}
use Rattle.std.proofs.lemmas.List.{get_or-set_other}
use Rattle.std.proofs.Math.Path.{fun_ext}
use Rattle.std.proofs.Math.ListN.{set}
use Rattle.nt_protocols.specs.Threads.{put, Step, Can, after_all}

pub put_same : {A : Type 0} (f : ℕ → A) (t : ℕ) (x : A) → put f t x t ≡ x
put_same {A} f t x = ap (λ (b : Bool). if b then x else f t) (eq-eqb t t refl)

pub put_other : {A : Type 0} (f : ℕ → A) (t : ℕ) (x : A) (u : ℕ) → u ≢ t → put f t x u ≡ f u
put_other {A} f t x u n = ap (λ (b : Bool). if b then x else f u) (ne_eqb u t n)

pub same_or_not : (u t : ℕ) → (u ≡ t) ⊎ (u ≢ t)
same_or_not u t = elim (eqb_tells u t) [ inl e ↦ inl e.1 | inr n ↦ inr n.1 ]

-- nothing changes where what is put is there
pub put_kept : {A : Type 0} (f : ℕ → A) (t : ℕ) (x : A) → x ≡ f t → put f t x ≡ f
put_kept f t x e = fun_ext (λ u. elim (same_or_not u t) [
  | inl h ↦ ap (put f t x) h ∙ put_same f t x ∙ e ∙ ap f (sym h)
  | inr n ↦ put_other f t x u n
])

-- one element of a list changes, as a function of its place
pub set_is : {A B : Type 0} (f : A → B) (xs : List A) (t : ℕ) (x d : A) → t < length xs
    → (λ u. f (get_or (set xs t x) u d)) ≡ put (λ u. f (get_or xs u d)) t (f x)
set_is f xs t x d h = fun_ext (λ u. elim (same_or_not u t) [
  | inl e ↦ ap f (get_or-set_at xs t u x d e h) ∙ sym (ap (put (λ v. f (get_or xs v d)) t (f x)) e ∙ put_same (λ v. f (get_or xs v d)) t (f x))
  | inr n ↦ ap f (get_or-set_other xs t u x d n) ∙ sym (put_other (λ v. f (get_or xs v d)) t (f x) u n)
])

-- what holds of each thread still holds, if it holds of this one
pub each_put : {A : Type 0} (P : ℕ → A → Type 0) (f : ℕ → A) (t : ℕ) (x : A) → P t x → ((u : ℕ) → u ≢ t → P u (f u)) → (u : ℕ) → P u (put f t x u)
each_put {A} P f t x here others u = elim (same_or_not u t) [
  | inl e ↦ subst (λ v. P v (put f t x v)) (sym e) (subst (λ y. P t y) (sym (put_same f t x)) here)
  | inr n ↦ subst (λ y. P u y) (sym (put_other f t x u n)) (others u n)
]

-- some thread still has it, if this one still has it where it had it
pub some_put : {A : Type 0} (P : A → Type 0) (f : ℕ → A) (t : ℕ) (x : A) → (P (f t) → P x) → ((u : ℕ) × P (f u)) → (u : ℕ) × P (put f t x u)
some_put {A} P f t x here some = elim (same_or_not some.0 t) [
  | inl e ↦ (t, subst P (sym (put_same f t x)) (here (subst (λ u. P (f u)) e some.1)))
  | inr n ↦ (some.0, subst P (sym (put_other f t x some.0 n)) some.1)
]

-- what holds of two threads
pub each_put_two : {A : Type 0} (P : ℕ → ℕ → A → Type 0) (f : ℕ → ℕ → A) (t u : ℕ) (x : A) → P t u x → ((v w : ℕ) → (v ≡ t → w ≢ u) → P v w (f v w)) → (v w : ℕ) → P v w (put f t (put (f t) u x) v w)
each_put_two {A} P f t u x here others v =
    let row : (w : ℕ) → P t w (put (f t) u x w) = each_put (λ w y. P t w y) (f t) u x here (λ w n. others t w (λ e. n)) in
    let all : (v' : ℕ) (w : ℕ) → P v' w (put f t (put (f t) u x) v' w) = each_put (λ v' g. (w : ℕ) → P v' w (g w)) f t (put (f t) u x) row (λ v' n w. others v' w (λ e. absurd (n e))) in
    all v

-- one thread at most has it
abbrev pub AtMostOne : {A : Type 0} → (A → Bool) → (ℕ → A) → Type 0
AtMostOne has f = (t u : ℕ) → has (f t) ≡ true → has (f u) ≡ true → t ≡ u

-- one thread at most still has it, if this one, where it has it now, was the only one that may have had it
pub one_put : {A : Type 0} (has : A → Bool) (f : ℕ → A) (t : ℕ) (x : A) → AtMostOne has f → (has x ≡ true → (u : ℕ) → has (f u) ≡ true → u ≡ t) → AtMostOne has (put f t x)
one_put {A} has f t x one mine =
    each_put (λ v a. (w : ℕ) → has a ≡ true → has (put f t x w) ≡ true → v ≡ w) f t x
    (λ w hx. each_put (λ w a. has a ≡ true → t ≡ w) f t x (λ h. refl) (λ w n h. sym (mine hx w h)) w)
    (λ v n w hv. each_put (λ w a. has a ≡ true → v ≡ w) f t x (λ hx. mine hx v hv) (λ w m h. one v w hv h) w)

-- what each step keeps, each run keeps
pub kept_all : {S E : Type 0} (step : S → E → Step S) (K : S → Type 0) → ((s : S) (e : E) → K s → (step s e).may → K (step s e).after)
    → (es : List E) (s : S) → K s → Can step s es → K (after_all step s es)
kept_all {S} {E} step K keeps [] s k can = k
kept_all {S} {E} step K keeps (e ∷ es) s k can = kept_all step K keeps es (step s e).after (keeps s e k can.0) can.1
