-- The order leaves no choice.
use Rattle.std.proofs.Common.{◌≡◌, ℕ, Bool, true, false, List, [], ◌∷◌, refl, sym, ap, ◌∙◌, subst, Some}
use Rattle.std.specs.List.{find}
use Rattle.std.specs.FinMap as map
use Rattle.nt_calls.specs.declared.call.Grant.{Grant}
use Rattle.nt_calls.specs.State.{State}
use Rattle.nt_calls.specs.Serving.{is_due, status, wait_granted, Grants, IsServed}

find_passes : {X : Type 0} (p : X → Bool) (xs : List X) (x : X) → find p xs ≡ Some x → p x ≡ true
find_passes p [] x e = (cc)
find_passes p (y ∷ xs) x e = go (find_passes p xs x) (p y) refl
  where
    go : (find p xs ≡ Some x → p x ≡ true) → (b : Bool) → p y ≡ b → p x ≡ true
    go rest true is = let h : Some y ≡ Some x = rw is at e in let same : y ≡ x = (cc) in ap p (sym same) ∙ is
    go rest false is = let h : find p xs ≡ Some x = rw is at e in rest h

-- where nobody is due there is no next grant
none_next : (threads : List ℕ) (s : State) (t : ℕ) {P : Type 0} → IsServed s → find (is_due s) threads ≡ Some t → P
none_next threads s t {P} served next = let h : true ≡ false = sym (find_passes (is_due s) threads t next) ∙ served t in (cc)

grant_same : (g h : Grant) → g.thread ≡ h.thread → g.status ≡ h.status → g ≡ h
grant_same g h thread status = ap {B = Grant} (λ (t : ℕ). record { thread = t; status = g.status }) thread ∙ ap {B = Grant} (λ (s : ℕ). record { thread = h.thread; status = s }) status

-- grants and new state are a function of the old state and the sequence
pub serve_unique : (threads : List ℕ) (old a b : State) (gs hs : List Grant) → Grants threads old gs a → IsServed a → Grants threads old hs b → IsServed b → (gs ≡ hs) × (a ≡ b)
serve_unique threads old a b [] [] x p y q = (refl, x ∙ sym y)
serve_unique threads old a b [] (h ∷ hs) x p y q = none_next threads old h.thread (subst IsServed x p) y.0
serve_unique threads old a b (g ∷ gs) [] x p y q = none_next threads old g.thread (subst IsServed y q) x.0
serve_unique threads old a b (g ∷ gs) (h ∷ hs) x p y q =
    let both : Some g.thread ≡ Some h.thread = sym x.0 ∙ y.0 in
    let thread : g.thread ≡ h.thread = (cc) in
    let waits : Some x.1 ≡ Some y.1 = sym x.2.pends ∙ (ap (λ t. map.get old.waits t) thread ∙ y.2.pends) in
    let wait : x.1 ≡ y.1 = (cc) in
    let status' : g.status ≡ h.status = x.2.status ∙ (ap (λ t. status old.objects t x.1) thread ∙ (ap (λ w. status old.objects h.thread w) wait ∙ sym y.2.status)) in
    let mid : wait_granted old h.thread y.1 ≡ wait_granted old g.thread x.1 = ap (λ t. wait_granted old t y.1) (sym thread) ∙ ap (λ w. wait_granted old g.thread w) (sym wait) in
    let rest = serve_unique threads (wait_granted old g.thread x.1) a b gs hs x.3 p (subst (λ (s : State). Grants threads s hs b) mid y.3) q in
    (ap (λ k. k ∷ gs) (grant_same g h thread status') ∙ ap (λ ks. h ∷ ks) rest.0, rest.1)
