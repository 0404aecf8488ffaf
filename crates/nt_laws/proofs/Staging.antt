-- What becomes of the handles in a stage of a life.
use Rattle.std.proofs.Common.{◌≡◌, ◌≤◌, ◌<◌, ℕ, ◌+◌, Bool, true, false, not, cond, ◌||◌, ◌==◌, List, [], ◌∷◌, length, map, length-append, refl, sym, ap, ◌∙◌, subst, arith, Option, Some, None, inl, inr}
use Rattle.std.specs.Prelude.{slice_set, is_none}
use Rattle.std.specs.List.{list_any}
use Rattle.std.specs.declared.result.Result.TheVariants.{Ok, Err}
use Rattle.std.proofs.lemmas.Bool.{false≢true}
use Rattle.std.proofs.lemmas.Bool.Decides.{nat_tests}
use Rattle.std.proofs.lemmas.List.{length-set, length-map, get_or-set_other}
use Rattle.nt_tables.specs.declared.handles.Opened.{Opened}
use Rattle.nt_objects.specs.declared.object.Object.TheVariants.{Thread, Gone}
use Rattle.nt_objects.specs.Object.{full_access}
use Rattle.nt_tables.specs.Handles.{opened_at}
use Rattle.nt_calls.specs.Naming.{object_named, object_in, access_in, lacks}
use Rattle.nt_calls.specs.declared.call.Call.{Call}
use Rattle.nt_calls.specs.Refusals.{first_of_causes, refusal}
use Rattle.nt_machine.proofs.Accepting.{next_causes}
use Rattle.nt_calls.specs.declared.call.Grant.{Grant}
use Rattle.nt_calls.specs.State.{State, object_at}
use Rattle.nt_core.specs.Renewals.{creation, created_by, or_else, duplicate_refusal, is_closed}
use Rattle.nt_core.specs.SetAside.{named_instead}
use Rattle.nt_core.proofs.Renumbering.{opened_instead, named_before}
use Rattle.nt_status.specs.Access.{access_bits}
use Rattle.nt_status.specs.Flags.{has_flag, only_known}
use Rattle.nt_status.specs.declared.refusal.Refusal.{Refusal}
use Rattle.nt_status.specs.declared.refusal.Refusal.TheVariants.{AccessDenied, InvalidHandle}
use Rattle.nt_laws.specs.Laws.{HasRights}
use Rattle.nt_laws.specs.Lives.{Stage, Takes, Creates, Shares, Begins, Adds, Renumbers, IsStage, Stages, gives_handle, closes, gives_object, number_after, named_after}
use Rattle.nt_laws.proofs.Numbers.{AreEnough, turn_longer, turn_stays, turn_rights, opened_given, flag_along}

-- the number of one handle was given again, and there are as many objects as before
record IsGiven (old : State) (g : ℕ) (new : State) : Type 0 where
  opened : Opened
  handles : new.handles ≡ slice_set old.handles g (Some opened)
  objects : length new.objects ≡ length old.objects

given_longer : (old : State) (g : ℕ) (new : State) → IsGiven old g new → AreEnough old → (length old.handles ≤ length new.handles) × AreEnough new
given_longer old g new given enough =
    let long : length new.handles ≡ length old.handles = ap (λ hs. length hs) given.handles ∙ length-set old.handles g (Some given.opened) in
    let same = given.objects in
    (omega (arith, long), omega (arith, long, same, enough))

pub differs : {P : Type 0} (g h : ℕ) → (g == h) ≡ false → h ≡ g → P
differs g h is same =
    let test : (g == h) ≡ true = grind (arith, nat_tests, same) in
    absurd (false≢true (sym is ∙ test))

given_stays : (old : State) (g : ℕ) (new : State) (h : ℕ) → IsGiven old g new → (g == h) ≡ false → opened_at new.handles h ≡ opened_at old.handles h
given_stays old g new h given other =
    ap (λ hs. opened_at hs h) given.handles ∙ get_or-set_other old.handles g h (Some given.opened) None (λ same. differs g h other same)

-- there are as many objects where one moves
moved_objects : (old : State) (thread object : ℕ) (grants : List Grant) (new : State) → IsStage old (Renumbers thread object true grants) new → length new.objects ≡ length old.objects
moved_objects old thread object grants new is =
    ap (λ (s : State). length s.objects) is.2
    ∙ (length-set (slice_set old.objects object (object_at old.objects thread)) thread Gone ∙ length-set old.objects object (object_at old.objects thread))

-- a stage is a turn, gives a number again, moves an object, or changes nothing
stage_longer : (old : State) (stage : Stage) (new : State) → AreEnough old → IsStage old stage new → (length old.handles ≤ length new.handles) × AreEnough new
stage_longer old (Takes turn) new enough is = let more = turn_longer old turn new enough is in (more.0, more.2)
stage_longer old (Creates who act object handle (Ok reply) grants) new enough is = given_longer old handle new (record { opened = record { object = object; access = full_access (created_by (creation who act)) }; handles = ap (λ (s : State). s.handles) is.3; objects = ap (λ (s : State). length s.objects) is.3 ∙ length-set old.objects object (created_by (creation who act)) }) enough
stage_longer old (Creates who act object handle (Err cause) grants) new enough is = (let same : length new.handles ≡ length old.handles = ap (λ (s : State). length s.handles) is.2 in omega (arith, same), subst AreEnough (sym is.2) enough)
stage_longer old (Shares who source access handle (Ok reply) grants) new enough is = given_longer old handle new (record { opened = record { object = object_named old.handles source; access = access }; handles = ap (λ (s : State). s.handles) is.3; objects = ap (λ (s : State). length s.objects) is.3 }) enough
stage_longer old (Shares who source access handle (Err cause) grants) new enough is = (let same : length new.handles ≡ length old.handles = ap (λ (s : State). length s.handles) is.2 in omega (arith, same), subst AreEnough (sym is.2) enough)
stage_longer old (Begins thread handle (Ok reply) grants) new enough is = given_longer old handle new (record { opened = record { object = thread; access = full_access (Thread false) }; handles = ap (λ (s : State). s.handles) is.3; objects = ap (λ (s : State). length s.objects) is.3 ∙ length-set old.objects thread (Thread false) }) enough
stage_longer old (Begins thread handle (Err cause) grants) new enough is = (let same : length new.handles ≡ length old.handles = ap (λ (s : State). length s.handles) is.2 in omega (arith, same), subst AreEnough (sym is.2) enough)
stage_longer old (Adds (Ok number) grants) new enough is =
    let same : length new.handles ≡ length old.handles = ap (λ (s : State). length s.handles) is.3 in
    let more : length new.objects ≡ length old.objects + 1 = ap (λ (s : State). length s.objects) is.3 ∙ length-append old.objects (Gone ∷ []) in
    let test = is.0 in
    let less : length old.objects < length old.handles = grind (arith, nat_tests, test) in
    (omega (arith, same), omega (arith, same, more, less))
stage_longer old (Adds (Err cause) grants) new enough is = (let same : length new.handles ≡ length old.handles = ap (λ (s : State). length s.handles) is.2 in omega (arith, same), subst AreEnough (sym is.2) enough)
stage_longer old (Renumbers thread object true grants) new enough is =
    let handles : length new.handles ≡ length old.handles = ap (λ (s : State). length s.handles) is.2 ∙ length-map old.handles (named_instead thread object) in
    let objects = moved_objects old thread object grants new is in
    (omega (arith, handles), omega (arith, handles, objects, enough))
stage_longer old (Renumbers thread object false grants) new enough is = (let same : length new.handles ≡ length old.handles = ap (λ (s : State). length s.handles) is.2 in omega (arith, same), subst AreEnough (sym is.2) enough)

-- a stage that moves no object leaves a handle what it names
still : (stage : Stage) → ((n : ℕ) → number_after (stage ∷ []) n ≡ n) → (o : Option Opened) → named_after (stage ∷ []) o ≡ o
still stage same None = refl
still stage same (Some opened) = ap (λ n. Some (record { object = n; access = opened.access })) (same opened.object)

stage_stays : (old : State) (stage : Stage) (new : State) → AreEnough old → IsStage old stage new → (h : ℕ) → h < length old.handles → gives_handle h stage ≡ false → opened_at new.handles h ≡ cond (closes h stage) None (named_after (stage ∷ []) (opened_at old.handles h))
stage_stays old (Takes turn) new enough is h below other = turn_stays old turn new enough is h below ∙ ap (λ o. cond (closes h (Takes turn)) None o) (sym (still (Takes turn) (λ n. refl) (opened_at old.handles h)))
stage_stays old (Creates who act object handle (Ok reply) grants) new enough is h below other = given_stays old handle new h (record { opened = record { object = object; access = full_access (created_by (creation who act)) }; handles = ap (λ (s : State). s.handles) is.3; objects = ap (λ (s : State). length s.objects) is.3 ∙ length-set old.objects object (created_by (creation who act)) }) other ∙ sym (still (Creates who act object handle (Ok reply) grants) (λ n. refl) (opened_at old.handles h))
stage_stays old (Creates who act object handle (Err cause) grants) new enough is h below other = ap (λ (s : State). opened_at s.handles h) is.2 ∙ sym (still (Creates who act object handle (Err cause) grants) (λ n. refl) (opened_at old.handles h))
stage_stays old (Shares who source access handle (Ok reply) grants) new enough is h below other = given_stays old handle new h (record { opened = record { object = object_named old.handles source; access = access }; handles = ap (λ (s : State). s.handles) is.3; objects = ap (λ (s : State). length s.objects) is.3 }) other ∙ sym (still (Shares who source access handle (Ok reply) grants) (λ n. refl) (opened_at old.handles h))
stage_stays old (Shares who source access handle (Err cause) grants) new enough is h below other = ap (λ (s : State). opened_at s.handles h) is.2 ∙ sym (still (Shares who source access handle (Err cause) grants) (λ n. refl) (opened_at old.handles h))
stage_stays old (Begins thread handle (Ok reply) grants) new enough is h below other = given_stays old handle new h (record { opened = record { object = thread; access = full_access (Thread false) }; handles = ap (λ (s : State). s.handles) is.3; objects = ap (λ (s : State). length s.objects) is.3 ∙ length-set old.objects thread (Thread false) }) other ∙ sym (still (Begins thread handle (Ok reply) grants) (λ n. refl) (opened_at old.handles h))
stage_stays old (Begins thread handle (Err cause) grants) new enough is h below other = ap (λ (s : State). opened_at s.handles h) is.2 ∙ sym (still (Begins thread handle (Err cause) grants) (λ n. refl) (opened_at old.handles h))
stage_stays old (Adds (Ok number) grants) new enough is h below other = ap (λ (s : State). opened_at s.handles h) is.3 ∙ sym (still (Adds (Ok number) grants) (λ n. refl) (opened_at old.handles h))
stage_stays old (Adds (Err cause) grants) new enough is h below other = ap (λ (s : State). opened_at s.handles h) is.2 ∙ sym (still (Adds (Err cause) grants) (λ n. refl) (opened_at old.handles h))
stage_stays old (Renumbers thread object true grants) new enough is h below other = ap (λ (s : State). opened_at s.handles h) is.2 ∙ (opened_instead thread object old.handles h ∙ moves (opened_at old.handles h))
  where
    moves : (o : Option Opened) → named_instead thread object o ≡ named_after (Renumbers thread object true grants ∷ []) o
    moves None = refl
    moves (Some opened) = refl
stage_stays old (Renumbers thread object false grants) new enough is h below other = ap (λ (s : State). opened_at s.handles h) is.2 ∙ sym (still (Renumbers thread object false grants) (λ n. refl) (opened_at old.handles h))

pub neither : (a b : Bool) → (a || b) ≡ false → (a ≡ false) × (b ≡ false)
neither false b e = (refl, e)
neither true b e = absurd (false≢true (sym e))

-- what is named after one stage, and then after others
followed : (stage : Stage) (stages : List Stage) (a b : Bool) (o : Option Opened) → cond b None (named_after stages (cond a None (named_after (stage ∷ []) o))) ≡ cond (a || b) None (named_after (stage ∷ stages) o)
followed stage stages true true o = refl
followed stage stages true false o = refl
followed stage stages false b None = refl
followed stage stages false b (Some opened) = refl

pub stages_enough : (stages : List Stage) (old new : State) → AreEnough old → Stages old stages new → AreEnough new
stages_enough [] old new enough life = subst AreEnough (sym life) enough
stages_enough (stage ∷ stages) old new enough life = stages_enough stages life.0 new (stage_longer old stage life.0 enough life.1).1 life.2

pub stages_stay : (stages : List Stage) (old new : State) → AreEnough old → Stages old stages new → (h : ℕ) → h < length old.handles → list_any (gives_handle h) stages ≡ false → opened_at new.handles h ≡ cond (list_any (closes h) stages) None (named_after stages (opened_at old.handles h))
stages_stay [] old new enough life h below none = ap (λ (s : State). opened_at s.handles h) life ∙ same (opened_at old.handles h)
  where
    same : (o : Option Opened) → o ≡ named_after [] o
    same None = refl
    same (Some opened) = refl
stages_stay (stage ∷ stages) old new enough life h below none =
    let two = neither (gives_handle h stage) (list_any (gives_handle h) stages) none in
    let more = stage_longer old stage life.0 enough life.1 in
    let longer = more.0 in
    stages_stay stages life.0 new more.1 life.2 h (omega (arith, below, longer)) two.1
    ∙ (ap (λ o. cond (list_any (closes h) stages) None (named_after stages o)) (stage_stays old stage life.0 enough life.1 h below two.0)
    ∙ followed stage stages (closes h stage) (list_any (closes h) stages) (opened_at old.handles h))

-- ---- rights never grow

rights_given : (handles : List (Option Opened)) (g : ℕ) (new : Opened) (o access : ℕ) → (new.object ≡ o → has_flag new.access access ≡ true → HasRights handles o access) → HasRights (slice_set handles g (Some new)) o access → HasRights handles o access
rights_given handles g new o access source has = elim (opened_given handles g new has.1 has.0 has.2) [
  | inl before ↦ (has.0, has.1, before, has.3, has.4)
  | inr is ↦ source (ap (λ (x : Opened). x.object) is ∙ has.3) (ap (λ (x : Opened). has_flag x.access access) is ∙ has.4)
]

pub no_first : (a b : Option Refusal) → or_else a b ≡ None → b ≡ None
no_first None b e = e
no_first (Some r) b e = none_here r e
  where
    none_here : {P : Type 0} (r : Refusal) → Some r ≡ None → P
    none_here r h = (cc)

pub has_some : (o : Option Opened) → is_none o ≡ false → (opened : Opened) × (o ≡ Some opened)
has_some None e = absurd (false≢true (sym e))
has_some (Some opened) e = (opened, refl)

pub unturned : (b : Bool) → not b ≡ false → b ≡ true
unturned true e = refl
unturned false e = absurd (false≢true (sym e))

-- who shares a handle has one of the same object with the rights that it gives
shared_rights : (old : State) (who source access h : ℕ) (o rights : ℕ) → duplicate_refusal old who source access h ≡ None → object_named old.handles source ≡ o → has_flag access rights ≡ true → HasRights old.handles o rights
shared_rights old who source access h o rights none named all =
    let own = no_first (refusal old who false Call.Exit) (first_of_causes ((is_none (opened_at old.handles source), InvalidHandle) ∷ (lacks access old.handles source || not (only_known access_bits access), AccessDenied) ∷ (not (is_closed old h), InvalidHandle) ∷ [])) none in
    let one = next_causes (is_none (opened_at old.handles source)) InvalidHandle ((lacks access old.handles source || not (only_known access_bits access), AccessDenied) ∷ (not (is_closed old h), InvalidHandle) ∷ []) own in
    let two = next_causes (lacks access old.handles source || not (only_known access_bits access)) AccessDenied ((not (is_closed old h), InvalidHandle) ∷ []) one.1 in
    let there = has_some (opened_at old.handles source) one.0 in
    let lacking : lacks access old.handles source ≡ false = (neither (lacks access old.handles source) (not (only_known access_bits access)) two.0).0 in
    let has : has_flag there.0.access access ≡ true = unturned (has_flag there.0.access access) (ap (λ x. not (has_flag (access_in x) access)) (sym there.1) ∙ lacking) in
    (source, there.0, there.1, ap object_in (sym there.1) ∙ named, flag_along there.0.access access rights has all)

-- a handle keeps its rights where an object moves
pub moved_access : (handles : List (Option Opened)) (t p k : ℕ) (was opened : Opened) → opened_at handles k ≡ Some was → opened_at (map (named_instead t p) handles) k ≡ Some opened → opened.access ≡ was.access
moved_access handles t p k was opened there is = ap (λ x. access_in x) (sym is ∙ (opened_instead t p handles k ∙ ap (named_instead t p) there))

-- the rights of handles of an object that is not the one that moves, where its number is not the new one
pub moved_rights : (handles : List (Option Opened)) (t p o access : ℕ) → (o ≡ p → ⊥) → HasRights (map (named_instead t p) handles) o access → HasRights handles o access
moved_rights handles t p o access apart has =
    let before = named_before t p handles has.0 has.1 has.2 in
    let same = moved_access handles t p has.0 before.was has.1 before.there has.2 in
    elim before.object [
      | inl moved ↦ absurd (apart (sym has.3 ∙ moved.1))
      | inr stayed ↦ (has.0, before.was, before.there, sym stayed.1 ∙ has.3, ap (λ a. has_flag a access) (sym same) ∙ has.4)
    ]

pub stage_rights : (old : State) (stage : Stage) (new : State) → AreEnough old → IsStage old stage new → (o access : ℕ) → o < length old.objects → gives_object o stage ≡ false → HasRights new.handles o access → HasRights old.handles o access
stage_rights old (Takes turn) new enough is o access below other has = turn_rights old turn new enough is o access below has
stage_rights old (Creates who act object handle (Ok reply) grants) new enough is o access below other has =
    rights_given old.handles handle (record { object = object; access = full_access (created_by (creation who act)) }) o access (λ here all. differs object o other (sym here))
    (subst (λ (s : State). HasRights s.handles o access) is.3 has)
stage_rights old (Creates who act object handle (Err cause) grants) new enough is o access below other has = subst (λ (s : State). HasRights s.handles o access) is.2 has
stage_rights old (Shares who source rights handle (Ok reply) grants) new enough is o access below other has =
    rights_given old.handles handle (record { object = object_named old.handles source; access = rights }) o access (λ here all. shared_rights old who source rights handle o access is.0 here all)
    (subst (λ (s : State). HasRights s.handles o access) is.3 has)
stage_rights old (Shares who source rights handle (Err cause) grants) new enough is o access below other has = subst (λ (s : State). HasRights s.handles o access) is.2 has
stage_rights old (Begins thread handle (Ok reply) grants) new enough is o access below other has =
    rights_given old.handles handle (record { object = thread; access = full_access (Thread false) }) o access (λ here all. differs thread o other (sym here))
    (subst (λ (s : State). HasRights s.handles o access) is.3 has)
stage_rights old (Begins thread handle (Err cause) grants) new enough is o access below other has = subst (λ (s : State). HasRights s.handles o access) is.2 has
stage_rights old (Adds (Ok number) grants) new enough is o access below other has = subst (λ (s : State). HasRights s.handles o access) is.3 has
stage_rights old (Adds (Err cause) grants) new enough is o access below other has = subst (λ (s : State). HasRights s.handles o access) is.2 has
stage_rights old (Renumbers thread object true grants) new enough is o access below other has =
    moved_rights old.handles thread object o access (λ here. differs object o other here) (subst (λ (s : State). HasRights s.handles o access) is.2 has)
stage_rights old (Renumbers thread object false grants) new enough is o access below other has = subst (λ (s : State). HasRights s.handles o access) is.2 has

-- there are no fewer objects
pub stage_objects : (old : State) (stage : Stage) (new : State) → AreEnough old → IsStage old stage new → length old.objects ≤ length new.objects
stage_objects old (Takes turn) new enough is = (turn_longer old turn new enough is).1
stage_objects old (Creates who act object handle (Ok reply) grants) new enough is = let same : length new.objects ≡ length old.objects = ap (λ (s : State). length s.objects) is.3 ∙ length-set old.objects object (created_by (creation who act)) in omega (arith, same)
stage_objects old (Creates who act object handle (Err cause) grants) new enough is = let same : length new.objects ≡ length old.objects = ap (λ (s : State). length s.objects) is.2 in omega (arith, same)
stage_objects old (Shares who source access handle (Ok reply) grants) new enough is = let same : length new.objects ≡ length old.objects = ap (λ (s : State). length s.objects) is.3 in omega (arith, same)
stage_objects old (Shares who source access handle (Err cause) grants) new enough is = let same : length new.objects ≡ length old.objects = ap (λ (s : State). length s.objects) is.2 in omega (arith, same)
stage_objects old (Begins thread handle (Ok reply) grants) new enough is = let same : length new.objects ≡ length old.objects = ap (λ (s : State). length s.objects) is.3 ∙ length-set old.objects thread (Thread false) in omega (arith, same)
stage_objects old (Begins thread handle (Err cause) grants) new enough is = let same : length new.objects ≡ length old.objects = ap (λ (s : State). length s.objects) is.2 in omega (arith, same)
stage_objects old (Adds (Ok number) grants) new enough is =
    let more : length new.objects ≡ length old.objects + 1 = ap (λ (s : State). length s.objects) is.3 ∙ length-append old.objects (Gone ∷ []) in
    omega (arith, more)
stage_objects old (Adds (Err cause) grants) new enough is = let same : length new.objects ≡ length old.objects = ap (λ (s : State). length s.objects) is.2 in omega (arith, same)
stage_objects old (Renumbers thread object true grants) new enough is = let same = moved_objects old thread object grants new is in omega (arith, same)
stage_objects old (Renumbers thread object false grants) new enough is = let same : length new.objects ≡ length old.objects = ap (λ (s : State). length s.objects) is.2 in omega (arith, same)

pub stages_rights : (stages : List Stage) (old new : State) → AreEnough old → Stages old stages new → (o access : ℕ) → o < length old.objects → list_any (gives_object o) stages ≡ false → HasRights new.handles o access → HasRights old.handles o access
stages_rights [] old new enough life o access below none has = subst (λ (s : State). HasRights s.handles o access) life has
stages_rights (stage ∷ stages) old new enough life o access below none has =
    let two = neither (gives_object o stage) (list_any (gives_object o) stages) none in
    let more = stage_longer old stage life.0 enough life.1 in
    let longer = stage_objects old stage life.0 enough life.1 in
    stage_rights old stage life.0 enough life.1 o access below two.0 (stages_rights stages life.0 new more.1 life.2 o access (omega (arith, below, longer)) two.1 has)
