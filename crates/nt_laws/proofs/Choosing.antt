-- Lives leave no choice.
use Rattle.std.proofs.Common.{Bool, ◌≡◌, ℕ, List, [], ◌∷◌, map, refl, sym, ap, ◌∙◌, subst, Option, Some, None}
use Rattle.std.specs.declared.result.Result.{Result}
use Rattle.std.specs.declared.result.Result.TheVariants.{Ok, Err}
use Rattle.nt_status.specs.declared.refusal.Refusal.{Refusal}
use Rattle.nt_status.specs.declared.refusal.Refusal.TheVariants.{HandleLimit, Memory}
use Rattle.std.specs.Prelude.{if◌then◌else◌}
use Rattle.std.proofs.lemmas.Bool.{false≢true}
use Rattle.nt_calls.specs.declared.call.Reply.{Reply}
use Rattle.nt_calls.specs.declared.call.Grant.{Grant}
use Rattle.nt_calls.specs.State.{State}
use Rattle.nt_core.specs.Renewals.{Renews, CreatesAgain, DuplicatesAgain, BeginsAgain, AddsVacant, creation, created_by, created_again, opened_again, begun_again, creation_refusal, duplicate_refusal, thread_refusal}
use Rattle.nt_core.specs.SetAside.{SetsAside, set_aside}
use Rattle.nt_calls.specs.Naming.{object_named}
use Rattle.nt_laws.specs.Laws.{question}
use Rattle.nt_laws.specs.Lives.{Stage, Takes, Creates, Shares, Begins, Adds, Renumbers, IsStage, Stages, AsksTurn, AsksCreation, AsksShare, AsksBegin, AsksNumber, AsksMove, wants_number, wish}
use Rattle.nt_laws.proofs.OneWay.{turn_same}

none_some : {P : Type 0} (r : Refusal) → None ≡ Some r → P
none_some r h = (cc)

same_cause : (r q : Refusal) → Some r ≡ Some q → r ≡ q
same_cause r q h = (cc)

renews_same : (old : State) (refused : Option Refusal) (h : ℕ) (becomes a b : State) (r q : Result Reply Refusal) (gs hs : List Grant) → Renews old refused h becomes r gs a → Renews old refused h becomes q hs b → (r ≡ q) × (gs ≡ hs) × (a ≡ b)
renews_same old refused h becomes a b (Ok r) (Ok q) gs hs x y = (ap (λ (z : Reply). Ok z) (x.1 ∙ sym y.1), x.2 ∙ sym y.2, x.3 ∙ sym y.3)
renews_same old refused h becomes a b (Ok r) (Err q) gs hs x y = none_some q (sym x.0 ∙ y.0)
renews_same old refused h becomes a b (Err r) (Ok q) gs hs x y = none_some r (sym y.0 ∙ x.0)
renews_same old refused h becomes a b (Err r) (Err q) gs hs x y = (ap (λ (z : Refusal). Err z) (same_cause r q (sym x.0 ∙ y.0)), x.1 ∙ sym y.1, x.2 ∙ sym y.2)

-- where a number can be added, it is refused for memory alone
adds_same : (old a b : State) (r q : Result ℕ Refusal) (gs hs : List Grant) → wants_number r ≡ wants_number q → AddsVacant old r gs a → AddsVacant old q hs b → (r ≡ q) × (gs ≡ hs) × (a ≡ b)
adds_same old a b (Ok n) (Ok m) gs hs alike x y = (ap (λ (z : ℕ). Ok z) (x.1 ∙ sym y.1), x.2 ∙ sym y.2, x.3 ∙ sym y.3)
adds_same old a b (Ok n) (Err q) gs hs alike x y =
    let memory : q ≡ Memory = y.0 ∙ ap (λ c. if c then Memory else HandleLimit) x.0 in
    absurd (false≢true (alike ∙ ap (λ (z : Refusal). wants_number (Err z)) memory))
adds_same old a b (Err r) (Ok m) gs hs alike x y =
    let memory : r ≡ Memory = x.0 ∙ ap (λ c. if c then Memory else HandleLimit) y.0 in
    absurd (false≢true (sym alike ∙ ap (λ (z : Refusal). wants_number (Err z)) memory))
adds_same old a b (Err r) (Err q) gs hs alike x y = (ap (λ (z : Refusal). Err z) (x.0 ∙ sym y.0), x.1 ∙ sym y.1, x.2 ∙ sym y.2)

-- an object moves exactly where it can
aside_same : (old a b : State) (t o : ℕ) (done done' : Bool) (gs hs : List Grant) → SetsAside old t o done gs a → SetsAside old t o done' hs b → (done ≡ done') × (gs ≡ hs) × (a ≡ b)
aside_same old a b t o done done' gs hs x y =
    let same : done ≡ done' = x.0 ∙ sym y.0 in
    (same, x.1 ∙ sym y.1, x.2 ∙ (ap (λ d. if d then set_aside old t o else old) same ∙ sym y.2))

stage_same : (old a b : State) (s t : Stage) → wish s ≡ wish t → IsStage old s a → IsStage old t b → (s ≡ t) × (a ≡ b)
stage_same old a b (Takes t) (Takes u) alike x y =
    let h : AsksTurn (question t) ≡ AsksTurn (question u) = alike in
    let same_question : question t ≡ question u = (cc) in
    let same = turn_same old a b t u same_question x y in
    (ap (λ z. Takes z) same.0, same.1)
stage_same old a b (Creates who act object handle r gs) (Creates who' act' object' handle' q hs) alike x y =
    let h : AsksCreation who act object handle ≡ AsksCreation who' act' object' handle' = alike in
    let w0 : who ≡ who' = (cc) in
    let w1 : act ≡ act' = (cc) in
    let w2 : object ≡ object' = (cc) in
    let w3 : handle ≡ handle' = (cc) in
    let x' : CreatesAgain old who' act' object' handle' r gs a = subst (λ z. CreatesAgain old who' act' object' z r gs a) w3 (subst (λ z. CreatesAgain old who' act' z handle r gs a) w2 (subst (λ z. CreatesAgain old who' z object handle r gs a) w1 (subst (λ z. CreatesAgain old z act object handle r gs a) w0 (x)))) in
    let same = renews_same old (creation_refusal old who' act' object' handle') handle' (created_again old object' handle' (created_by (creation who' act'))) a b r q gs hs x' y in
    (ap (λ z. Creates z act object handle r gs) w0 ∙ (ap (λ z. Creates who' z object handle r gs) w1 ∙ (ap (λ z. Creates who' act' z handle r gs) w2 ∙ (ap (λ z. Creates who' act' object' z r gs) w3 ∙ (ap (λ z. Creates who' act' object' handle' z gs) same.0 ∙ (ap (λ z. Creates who' act' object' handle' q z) same.1))))), same.2)
stage_same old a b (Shares who source access handle r gs) (Shares who' source' access' handle' q hs) alike x y =
    let h : AsksShare who source access handle ≡ AsksShare who' source' access' handle' = alike in
    let w0 : who ≡ who' = (cc) in
    let w1 : source ≡ source' = (cc) in
    let w2 : access ≡ access' = (cc) in
    let w3 : handle ≡ handle' = (cc) in
    let x' : DuplicatesAgain old who' source' access' handle' r gs a = subst (λ z. DuplicatesAgain old who' source' access' z r gs a) w3 (subst (λ z. DuplicatesAgain old who' source' z handle r gs a) w2 (subst (λ z. DuplicatesAgain old who' z access handle r gs a) w1 (subst (λ z. DuplicatesAgain old z source access handle r gs a) w0 (x)))) in
    let same = renews_same old (duplicate_refusal old who' source' access' handle') handle' (opened_again old handle' (object_named old.handles source') access') a b r q gs hs x' y in
    (ap (λ z. Shares z source access handle r gs) w0 ∙ (ap (λ z. Shares who' z access handle r gs) w1 ∙ (ap (λ z. Shares who' source' z handle r gs) w2 ∙ (ap (λ z. Shares who' source' access' z r gs) w3 ∙ (ap (λ z. Shares who' source' access' handle' z gs) same.0 ∙ (ap (λ z. Shares who' source' access' handle' q z) same.1))))), same.2)
stage_same old a b (Begins thread handle r gs) (Begins thread' handle' q hs) alike x y =
    let h : AsksBegin thread handle ≡ AsksBegin thread' handle' = alike in
    let w0 : thread ≡ thread' = (cc) in
    let w1 : handle ≡ handle' = (cc) in
    let x' : BeginsAgain old thread' handle' r gs a = subst (λ z. BeginsAgain old thread' z r gs a) w1 (subst (λ z. BeginsAgain old z handle r gs a) w0 (x)) in
    let same = renews_same old (thread_refusal old thread' handle') handle' (begun_again old thread' handle') a b r q gs hs x' y in
    (ap (λ z. Begins z handle r gs) w0 ∙ (ap (λ z. Begins thread' z r gs) w1 ∙ (ap (λ z. Begins thread' handle' z gs) same.0 ∙ (ap (λ z. Begins thread' handle' q z) same.1))), same.2)
stage_same old a b (Takes t) (Creates who' act' object' handle' q hs) alike x y = let h : AsksTurn (question t) ≡ AsksCreation who' act' object' handle' = alike in (cc)
stage_same old a b (Takes t) (Shares who' source' access' handle' q hs) alike x y = let h : AsksTurn (question t) ≡ AsksShare who' source' access' handle' = alike in (cc)
stage_same old a b (Takes t) (Begins thread' handle' q hs) alike x y = let h : AsksTurn (question t) ≡ AsksBegin thread' handle' = alike in (cc)
stage_same old a b (Creates who act object handle r gs) (Takes u) alike x y = let h : AsksCreation who act object handle ≡ AsksTurn (question u) = alike in (cc)
stage_same old a b (Creates who act object handle r gs) (Shares who' source' access' handle' q hs) alike x y = let h : AsksCreation who act object handle ≡ AsksShare who' source' access' handle' = alike in (cc)
stage_same old a b (Creates who act object handle r gs) (Begins thread' handle' q hs) alike x y = let h : AsksCreation who act object handle ≡ AsksBegin thread' handle' = alike in (cc)
stage_same old a b (Shares who source access handle r gs) (Takes u) alike x y = let h : AsksShare who source access handle ≡ AsksTurn (question u) = alike in (cc)
stage_same old a b (Shares who source access handle r gs) (Creates who' act' object' handle' q hs) alike x y = let h : AsksShare who source access handle ≡ AsksCreation who' act' object' handle' = alike in (cc)
stage_same old a b (Shares who source access handle r gs) (Begins thread' handle' q hs) alike x y = let h : AsksShare who source access handle ≡ AsksBegin thread' handle' = alike in (cc)
stage_same old a b (Begins thread handle r gs) (Takes u) alike x y = let h : AsksBegin thread handle ≡ AsksTurn (question u) = alike in (cc)
stage_same old a b (Begins thread handle r gs) (Creates who' act' object' handle' q hs) alike x y = let h : AsksBegin thread handle ≡ AsksCreation who' act' object' handle' = alike in (cc)
stage_same old a b (Begins thread handle r gs) (Shares who' source' access' handle' q hs) alike x y = let h : AsksBegin thread handle ≡ AsksShare who' source' access' handle' = alike in (cc)
stage_same old a b (Adds r gs) (Adds q hs) alike x y =
    let h : AsksNumber (wants_number r) ≡ AsksNumber (wants_number q) = alike in
    let wants : wants_number r ≡ wants_number q = (cc) in
    let same = adds_same old a b r q gs hs wants x y in
    (ap (λ z. Adds z gs) same.0 ∙ ap (λ z. Adds q z) same.1, same.2)
stage_same old a b (Adds r gs) (Takes u) alike x y = let h : AsksNumber (wants_number r) ≡ AsksTurn (question u) = alike in (cc)
stage_same old a b (Adds r gs) (Creates who' act' object' handle' q hs) alike x y = let h : AsksNumber (wants_number r) ≡ AsksCreation who' act' object' handle' = alike in (cc)
stage_same old a b (Adds r gs) (Shares who' source' access' handle' q hs) alike x y = let h : AsksNumber (wants_number r) ≡ AsksShare who' source' access' handle' = alike in (cc)
stage_same old a b (Adds r gs) (Begins thread' handle' q hs) alike x y = let h : AsksNumber (wants_number r) ≡ AsksBegin thread' handle' = alike in (cc)
stage_same old a b (Takes t) (Adds q hs) alike x y = let h : AsksTurn (question t) ≡ AsksNumber (wants_number q) = alike in (cc)
stage_same old a b (Creates who act object handle r gs) (Adds q hs) alike x y = let h : AsksCreation who act object handle ≡ AsksNumber (wants_number q) = alike in (cc)
stage_same old a b (Shares who source access handle r gs) (Adds q hs) alike x y = let h : AsksShare who source access handle ≡ AsksNumber (wants_number q) = alike in (cc)
stage_same old a b (Begins thread handle r gs) (Adds q hs) alike x y = let h : AsksBegin thread handle ≡ AsksNumber (wants_number q) = alike in (cc)
stage_same old a b (Renumbers t o done gs) (Renumbers t' o' done' hs) alike x y =
    let h : AsksMove t o ≡ AsksMove t' o' = alike in
    let w0 : t ≡ t' = (cc) in
    let w1 : o ≡ o' = (cc) in
    let x' : SetsAside old t' o' done gs a = subst (λ z. SetsAside old t' z done gs a) w1 (subst (λ z. SetsAside old z o done gs a) w0 x) in
    let same = aside_same old a b t' o' done done' gs hs x' y in
    (ap (λ z. Renumbers z o done gs) w0 ∙ (ap (λ z. Renumbers t' z done gs) w1 ∙ (ap (λ z. Renumbers t' o' z gs) same.0 ∙ ap (λ z. Renumbers t' o' done' z) same.1)), same.2)
stage_same old a b (Renumbers thread number done gs) (Takes u) alike x y = let h : AsksMove thread number ≡ AsksTurn (question u) = alike in (cc)
stage_same old a b (Renumbers thread number done gs) (Creates who' act' object' handle' q hs) alike x y = let h : AsksMove thread number ≡ AsksCreation who' act' object' handle' = alike in (cc)
stage_same old a b (Renumbers thread number done gs) (Shares who' source' access' handle' q hs) alike x y = let h : AsksMove thread number ≡ AsksShare who' source' access' handle' = alike in (cc)
stage_same old a b (Renumbers thread number done gs) (Begins thread' handle' q hs) alike x y = let h : AsksMove thread number ≡ AsksBegin thread' handle' = alike in (cc)
stage_same old a b (Renumbers thread number done gs) (Adds q hs) alike x y = let h : AsksMove thread number ≡ AsksNumber (wants_number q) = alike in (cc)
stage_same old a b (Takes t) (Renumbers thread' number' done' hs) alike x y = let h : AsksTurn (question t) ≡ AsksMove thread' number' = alike in (cc)
stage_same old a b (Creates who act object handle r gs) (Renumbers thread' number' done' hs) alike x y = let h : AsksCreation who act object handle ≡ AsksMove thread' number' = alike in (cc)
stage_same old a b (Shares who source access handle r gs) (Renumbers thread' number' done' hs) alike x y = let h : AsksShare who source access handle ≡ AsksMove thread' number' = alike in (cc)
stage_same old a b (Begins thread handle r gs) (Renumbers thread' number' done' hs) alike x y = let h : AsksBegin thread handle ≡ AsksMove thread' number' = alike in (cc)
stage_same old a b (Adds r gs) (Renumbers thread' number' done' hs) alike x y = let h : AsksNumber (wants_number r) ≡ AsksMove thread' number' = alike in (cc)

pub stages_same : (stages others : List Stage) (old a b : State) → map wish stages ≡ map wish others → Stages old stages a → Stages old others b → (stages ≡ others) × (a ≡ b)
stages_same [] [] old a b alike x y = (refl, x ∙ sym y)
stages_same [] (u ∷ us) old a b alike x y = let h : [] ≡ wish u ∷ map wish us = alike in (cc)
stages_same (t ∷ ts) [] old a b alike x y = let h : wish t ∷ map wish ts ≡ [] = alike in (cc)
stages_same (t ∷ ts) (u ∷ us) old a b alike x y =
    let h : wish t ∷ map wish ts ≡ wish u ∷ map wish us = alike in
    let first : wish t ≡ wish u = (cc) in
    let more : map wish ts ≡ map wish us = (cc) in
    let one = stage_same old x.0 y.0 t u first x.1 y.1 in
    let rest = stages_same ts us y.0 a b more (subst (λ (s : State). Stages s ts a) one.1 x.2) y.2 in
    (ap (λ z. z ∷ ts) one.0 ∙ ap (λ zs. u ∷ zs) rest.0, rest.1)
