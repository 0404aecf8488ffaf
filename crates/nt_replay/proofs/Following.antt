-- Two lives from one base with the same entries go the same way.
use Rattle.std.proofs.Common.{◌≡◌, true, false, List, [], ◌∷◌, ◌++◌, map, refl, sym, ap, ◌∙◌, subst, append_assoc, inl, inr, ◌⊎◌, Ok, Err}
use Rattle.std.proofs.lemmas.Bool.{false≢true}
use Rattle.std.proofs.lemmas.List.{append_cancel_left, map-append}
use Rattle.nt_calls.specs.declared.call.Grant.{Grant}
use Rattle.nt_calls.specs.State.{State, opening}
use Rattle.nt_laws.specs.Lives.{Stage, Stages, LivesOneWay, wish}
use Rattle.nt_mail.specs.declared.entry.Entry.{Entry}
use Rattle.nt_mail.specs.declared.entry.Entry.TheVariants.{Called, Ticked, Granted, Renewed}
use Rattle.nt_life.specs.declared.renewal.Renewal.TheVariants.{Create, CreateAdded, Unadded, Duplicate, Begin}
use Rattle.nt_mail.specs.Journals.{granted, Deed, IsDeed, Deeds, tells, stages_of, written, IsLifeFrom}
use Rattle.nt_mail.proofs.Lives.{stages-append, deeds_stages, all_stages, written-append}
use Rattle.nt_replay.specs.Replays.{IsReached}

tail_same : {x y : Entry} {xs ys : List Entry} → x ∷ xs ≡ y ∷ ys → xs ≡ ys
tail_same e = cc

abbrev pub deed : Entry → List Grant → Deed
deed e gs = record { entry = e; grants = gs }

-- ---- one deed

pub no_grant : (e : Entry) (g : Grant) → tells e ≡ true → e ≡ granted g → ⊥
no_grant e g told is = let none : false ≡ true = ap tells (sym is) ∙ told in absurd (false≢true none)

pub reached_after : (base s : State) (ds : List Deed) → IsReached base → Deeds base ds s → IsReached s
reached_after base s ds (n, before, life) more = (n, before ++ all_stages ds, stages-append (opening n) base s before (all_stages ds) life (deeds_stages ds base s more))

-- the same wishes are granted in the same way
pub stages_one_way : LivesOneWay → (s a b : State) (ts us : List Stage) → IsReached s → Stages s ts a → Stages s us b → map wish ts ≡ map wish us → (ts ≡ us) × (a ≡ b)
stages_one_way law s a b ts us (n, before, life) x y alike =
    let wishes = map-append wish before ts ∙ (ap (λ q. map wish before ++ q) alike ∙ sym (map-append wish before us)) in
    let same = law n (before ++ ts) (before ++ us) a b (stages-append (opening n) s a before ts life x) (stages-append (opening n) s b before us life y) wishes in
    (append_cancel_left before ts us same.0, same.1)

-- an entry says what was asked for
same_wishes : (e : Entry) (gs hs : List Grant) → map wish (stages_of e gs) ≡ map wish (stages_of e hs)
same_wishes (Called who call result) gs hs = refl
same_wishes (Ticked by moment result) gs hs = refl
same_wishes (Granted who status) gs hs = refl
same_wishes (Renewed who (Create act object handle) result) gs hs = refl
same_wishes (Renewed who (CreateAdded act object handle) result) gs hs = refl
same_wishes (Renewed who (Unadded act) (Ok reply)) gs hs = refl
same_wishes (Renewed who (Unadded act) (Err cause)) gs hs = refl
same_wishes (Renewed who (Duplicate source access handle) result) gs hs = refl
same_wishes (Renewed who (Begin handle) result) gs hs = refl

same_grants : (e : Entry) (gs hs : List Grant) → tells e ≡ true → stages_of e gs ≡ stages_of e hs → gs ≡ hs
same_grants (Called who call result) gs hs told is = (cc)
same_grants (Ticked by moment result) gs hs told is = (cc)
same_grants (Granted who status) gs hs told is = absurd (false≢true told)
same_grants (Renewed who (Create act object handle) result) gs hs told is = (cc)
same_grants (Renewed who (CreateAdded act object handle) result) gs hs told is = (cc)
same_grants (Renewed who (Unadded act) (Ok reply)) gs hs told is = absurd (false≢true told)
same_grants (Renewed who (Unadded act) (Err cause)) gs hs told is = (cc)
same_grants (Renewed who (Duplicate source access handle) result) gs hs told is = (cc)
same_grants (Renewed who (Begin handle) result) gs hs told is = (cc)

-- the same entry tells the same deed
pub one_way : LivesOneWay → (s a b : State) (d u : Deed) → IsReached s → IsDeed s d a → IsDeed s u b → d.entry ≡ u.entry → (d.grants ≡ u.grants) × (a ≡ b)
one_way law s a b d u reached x y alike =
    let y' : Stages s (stages_of d.entry u.grants) b = subst (λ (e : Entry). Stages s (stages_of e u.grants) b) (sym alike) y.1 in
    let same = stages_one_way law s a b (stages_of d.entry d.grants) (stages_of d.entry u.grants) reached x.1 y' (same_wishes d.entry d.grants u.grants) in
    (same_grants d.entry d.grants u.grants x.0 same.0, same.1)

-- ---- a life of which some grants are left

only_grants : (gs : List Grant) (J : List Entry) (left : List Grant) → map granted gs ++ J ≡ map granted left → (tail : List Grant) × (J ≡ map granted tail)
only_grants [] J left e = (left, e)
only_grants (g ∷ gs) J [] e = let h : granted g ∷ (map granted gs ++ J) ≡ [] = e in (cc)
only_grants (g ∷ gs) J (l ∷ ls) e = only_grants gs J ls (tail_same e)

no_deed_left : (ds : List Deed) (s a : State) (tail : List Grant) → Deeds s ds a → written ds ≡ map granted tail → ds ≡ []
no_deed_left [] s a tail life e = refl
no_deed_left (d ∷ ds) s a [] life e = let h : d.entry ∷ (map granted d.grants ++ written ds) ≡ [] = e in (cc)
no_deed_left (d ∷ ds) s a (g ∷ gs) life e =
    let h : d.entry ∷ (map granted d.grants ++ written ds) ≡ granted g ∷ map granted gs = e in
    absurd (no_grant d.entry g life.1.0 (cc))

-- after a deed's grants, what comes before the grants that are left, or nothing but grants
parted : (gs : List Grant) (J K done rest : List Entry) (left : List Grant) → map granted gs ++ J ≡ done ++ map granted left → map granted gs ++ K ≡ done ++ rest
    → ((more : List Entry) × (J ≡ more ++ map granted left) × (K ≡ more ++ rest)) ⊎ ((tail : List Grant) × (J ≡ map granted tail))
parted [] J K done rest left p q = inl (done, p, q)
parted (g ∷ gs) J K [] rest left p q = inr (only_grants (g ∷ gs) J left p)
parted (g ∷ gs) J K (e ∷ done) rest left p q = parted gs J K done rest left (tail_same p) (tail_same q)

same_deed : (d u : Deed) → d.entry ≡ u.entry → d.grants ≡ u.grants → d ≡ u
same_deed d u e g = ap (λ (x : Entry). deed x d.grants) e ∙ ap (λ (x : List Grant). deed u.entry x) g

-- whoever has the entries of a life from the base, but for some last grants, has its deeds
goes_on : LivesOneWay → (deeds others : List Deed) (base s a : State) (done rest : List Entry) (left : List Grant) → IsReached base → Deeds base deeds s → Deeds base others a
    → written deeds ≡ done ++ map granted left → written others ≡ done ++ rest → (more : List Deed) × (others ≡ deeds ++ more) × Deeds s more a
goes_on law [] others base s a done rest left reached p q j k = (others, refl, subst (λ (x : State). Deeds x others a) (sym p) q)
goes_on law (d ∷ ds) others base s a [] rest left reached p q j k =
    let none : d ∷ ds ≡ [] = no_deed_left (d ∷ ds) base s left p j in (cc)
goes_on law (d ∷ ds) [] base s a (e ∷ done) rest left reached p q j k = let h : [] ≡ e ∷ (done ++ rest) = k in (cc)
goes_on law (d ∷ ds) (u ∷ us) base s a (e ∷ done) rest left reached p q j k =
    let j' : d.entry ∷ (map granted d.grants ++ written ds) ≡ e ∷ (done ++ map granted left) = j in
    let k' : u.entry ∷ (map granted u.grants ++ written us) ≡ e ∷ (done ++ rest) = k in
    let heads : d.entry ≡ u.entry = (cc) in
    let same = one_way law base p.0 q.0 d u reached p.1 q.1 heads in
    let k'' : map granted d.grants ++ written us ≡ done ++ rest = ap (λ (x : List Grant). map granted x ++ written us) same.0 ∙ tail_same k' in
    let others : Deeds p.0 us a = subst (λ (x : State). Deeds x us a) (sym same.1) q.2 in
    let is : d ≡ u = same_deed d u heads same.0 in
    elim (parted d.grants (written ds) (written us) done rest left (tail_same j') k'') [
      | inl (more, here, there) ↦
          let on = goes_on law ds us p.0 s a more rest left (reached_after base p.0 (d ∷ []) reached (p.0, p.1, refl)) p.2 others here there in
          (on.0, ap (λ (x : Deed). x ∷ us) (sym is) ∙ ap (λ x. d ∷ x) on.1, on.2)
      | inr (tail, only) ↦
          let none : ds ≡ [] = no_deed_left ds p.0 s tail p.2 only in
          let here : s ≡ p.0 = subst (λ (x : List Deed). Deeds p.0 x s) none p.2 in
          (us, ap (λ (x : Deed). x ∷ us) (sym is) ∙ ap (λ (x : List Deed). d ∷ (x ++ us)) (sym none), subst (λ (x : State). Deeds x us a) (sym here) others)
    ]

-- what another life from the base has after these entries: the grants that are left, and more deeds
pub record Continues (s : State) (left : List Grant) (rest : List Entry) (a : State) : Type 0 where
  pub more : List Deed
  pub life : Deeds s more a
  pub rest_is : rest ≡ map granted left ++ written more

pub continues : LivesOneWay → (base s a : State) (done rest : List Entry) (left : List Grant) → IsReached base → IsLifeFrom base (done ++ map granted left) s → IsLifeFrom base (done ++ rest) a → Continues s left rest a
continues law base s a done rest left reached p q =
    let on = goes_on law p.deeds q.deeds base s a done rest left reached p.life q.life (sym p.entries) (sym q.entries) in
    record {
      more = on.0;
      life = on.2;
      rest_is = append_cancel_left done rest (map granted left ++ written on.0) (
          q.entries ∙ (ap written on.1 ∙ (written-append p.deeds on.0 ∙ (ap (λ l. l ++ written on.0) (sym p.entries) ∙ append_assoc done (map granted left) (written on.0)))));
    }

-- where no grants are left, the next entry is that of a deed
pub deed_next : (s a : State) (e : Entry) (rest : List Entry) → Continues s [] (e ∷ rest) a → (gs : List Grant) × (mid : State) × IsDeed s (deed e gs) mid
deed_next s a e rest on = go on.more on.life on.rest_is
  where
    go : (more : List Deed) → Deeds s more a → e ∷ rest ≡ written more → (gs : List Grant) × (mid : State) × IsDeed s (deed e gs) mid
    go [] life is = let h : e ∷ rest ≡ [] = is in (cc)
    go (u ∷ us) life is =
        let h : e ∷ rest ≡ u.entry ∷ (map granted u.grants ++ written us) = is in
        let head : u.entry ≡ e = (cc) in
        (u.grants, life.0, subst (λ (x : Entry). IsDeed s (deed x u.grants) life.0) head life.1)
