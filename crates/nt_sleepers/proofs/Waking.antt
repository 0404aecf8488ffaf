-- How those who are woken are cleared, one by one.
use Rattle.std.proofs.Common.{◌≡◌, ℕ, zero, suc, ◌+◌, ◌<◌, ◌≤◌, Bool, true, false, List, [], ◌∷◌, ◌++◌, length, take, get_or, slice_set, refl, sym, ap, ◌∙◌}
use Rattle.std.proofs.lemmas.List.{take_all, take_more}
use Rattle.nt_calls.specs.declared.call.Grant.{Grant}
use Rattle.nt_marks.specs.Marks.{NoneMarked}
use Rattle.nt_sleepers.specs.Sleepers.{without_woken}

without_woken-push : {X : Type 0} (nothing : X) (gs : List Grant) (g : Grant) (places : List X) → without_woken nothing (gs ++ g ∷ []) places ≡ slice_set (without_woken nothing gs places) g.thread nothing
without_woken-push nothing [] g places = refl
without_woken-push nothing (x ∷ gs) g places = without_woken-push nothing gs g (slice_set places x.thread nothing)

-- before the first grant
pub woken_first : {X : Type 0} (nothing : X) (gs : List Grant) (places : List X) → places ≡ without_woken nothing (take 0 gs) places
woken_first nothing gs places = refl

-- after one more grant
pub woken_next : {X : Type 0} (nothing : X) (old now new : List X) (gs : List Grant) (i n : ℕ) (g : Grant) → i < length gs → g ≡ get_or gs i g → n ≡ g.thread → now ≡ without_woken nothing (take i gs) old → new ≡ slice_set now n nothing → new ≡ without_woken nothing (take (i + 1) gs) old
woken_next nothing old now new gs i n g inside is same before after =
    after
    ∙ ap (λ (k : ℕ). slice_set now k nothing) same
    ∙ ap (λ xs. slice_set xs g.thread nothing) before
    ∙ sym (without_woken-push nothing (take i gs) g old)
    ∙ ap (λ xs. without_woken nothing xs old) (sym (take_more gs i g inside ∙ ap (λ x. take i gs ++ x ∷ []) (sym is)))

-- after the last
pub woken_all : {X : Type 0} (nothing : X) (old now : List X) (gs : List Grant) (i : ℕ) → length gs ≤ i → now ≡ without_woken nothing (take i gs) old → now ≡ without_woken nothing gs old
woken_all nothing old now gs i all before = before ∙ ap (λ xs. without_woken nothing xs old) (take_all i gs all)

unmarked_stay : (marks : List Bool) (k : ℕ) → NoneMarked marks → marks ≡ slice_set marks k false
unmarked_stay [] k none = refl
unmarked_stay (false ∷ marks) zero none = refl
unmarked_stay (true ∷ marks) zero none = absurd (none 0 refl)
unmarked_stay (m ∷ marks) (suc k) none = ap (λ rest. m ∷ rest) (unmarked_stay marks k (λ t is. none (suc t) is))

-- where nobody watches, nobody is woken from it
pub none_woken : (marks : List Bool) (gs : List Grant) → NoneMarked marks → marks ≡ without_woken false gs marks
none_woken marks [] none = refl
none_woken marks (g ∷ gs) none = none_woken marks gs none ∙ ap (λ (now : List Bool). without_woken false gs now) (unmarked_stay marks g.thread none)
