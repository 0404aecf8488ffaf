-- Rights never grow, by whichever number an object has.
use Rattle.std.proofs.Common.{◌≡◌, ℕ, ◌<◌, Bool, true, false, cond, ◌==◌, List, [], ◌∷◌, length, map, refl, sym, ap, ◌∙◌, subst, arith, inl, inr}
use Rattle.std.proofs.lemmas.Bool.{eqb-true}
use Rattle.nt_status.specs.Flags.{has_flag}
use Rattle.nt_objects.specs.Object.{is_gone}
use Rattle.nt_calls.specs.State.{State}
use Rattle.nt_core.specs.SetAside.{named_instead}
use Rattle.nt_core.proofs.Renumbering.{named_before}
use Rattle.nt_core.proofs.SettingAside.{MayMove, may_move}
use Rattle.nt_laws.specs.Laws.{HasRights}
use Rattle.nt_laws.specs.Lives.{Stage, Takes, Creates, Shares, Begins, Adds, Renumbers, IsStage, Stages, gives_object, number_then, number_after, is_given_on}
use Rattle.nt_laws.proofs.GivenAgain.{living_apart}
use Rattle.nt_laws.proofs.Lifelong.{IsWhole, stage_whole}
use Rattle.nt_laws.proofs.Staging.{neither, differs, moved_access, moved_rights, stage_rights, stage_objects}

-- what has rights to the object by its new number had them by the old one
moved_back : (old : State) (t p access : ℕ) → IsWhole old → MayMove old t p → HasRights (map (named_instead t p) old.handles) p access → HasRights old.handles t access
moved_back old t p access whole may has =
    let before = named_before t p old.handles has.0 has.1 has.2 in
    let same = moved_access old.handles t p has.0 before.was has.1 before.there has.2 in
    elim before.object [
      | inl moved ↦ (has.0, before.was, before.there, moved.0, ap (λ a. has_flag a access) (sym same) ∙ has.4)
      | inr stayed ↦
          absurd (living_apart old.objects p before.was.object (ap is_gone may.vacant) (whole.stands.named has.0 before.was before.there) (sym stayed.1 ∙ has.3))
    ]

stage_follows : (old : State) (stage : Stage) (new : State) → IsWhole old → IsStage old stage new → (o access : ℕ) → o < length old.objects → gives_object o stage ≡ false → HasRights new.handles (number_then stage o) access → HasRights old.handles o access
stage_follows old (Renumbers thread object true grants) new whole is o access below other has = go (o == thread) refl (subst (λ (s : State). HasRights s.handles (cond (o == thread) object o) access) is.2 has)
  where
    go : (b : Bool) → (o == thread) ≡ b → HasRights (map (named_instead thread object) old.handles) (cond b object o) access → HasRights old.handles o access
    go true here has =
        subst (λ k. HasRights old.handles k access) (sym (eqb-true o thread here)) (moved_back old thread object access whole (may_move old thread object (sym is.0)) has)
    go false here has = moved_rights old.handles thread object o access (λ same. differs object o other same) has
stage_follows old (Renumbers thread object false grants) new whole is o access below other has = stage_rights old (Renumbers thread object false grants) new whole.stands.enough is o access below other has
stage_follows old (Takes turn) new whole is o access below other has = stage_rights old (Takes turn) new whole.stands.enough is o access below other has
stage_follows old (Creates who act object handle result grants) new whole is o access below other has = stage_rights old (Creates who act object handle result grants) new whole.stands.enough is o access below other has
stage_follows old (Shares who source rights handle result grants) new whole is o access below other has = stage_rights old (Shares who source rights handle result grants) new whole.stands.enough is o access below other has
stage_follows old (Begins thread handle result grants) new whole is o access below other has = stage_rights old (Begins thread handle result grants) new whole.stands.enough is o access below other has
stage_follows old (Adds result grants) new whole is o access below other has = stage_rights old (Adds result grants) new whole.stands.enough is o access below other has

-- the number that it has then is one of an object
number_known : (old : State) (stage : Stage) (new : State) → IsWhole old → IsStage old stage new → (o : ℕ) → o < length old.objects → number_then stage o < length new.objects
number_known old (Renumbers thread object true grants) new whole is o below =
    let long = stage_objects old (Renumbers thread object true grants) new whole.stands.enough is in
    let there = (may_move old thread object (sym is.0)).there in
    go (o == thread) (omega (arith, there, long)) (omega (arith, below, long))
  where
    go : (b : Bool) → object < length new.objects → o < length new.objects → cond b object o < length new.objects
    go true one other = one
    go false one other = other
number_known old (Renumbers thread object false grants) new whole is o below = let long = stage_objects old (Renumbers thread object false grants) new whole.stands.enough is in omega (arith, below, long)
number_known old (Takes turn) new whole is o below = let long = stage_objects old (Takes turn) new whole.stands.enough is in omega (arith, below, long)
number_known old (Creates who act object handle result grants) new whole is o below = let long = stage_objects old (Creates who act object handle result grants) new whole.stands.enough is in omega (arith, below, long)
number_known old (Shares who source rights handle result grants) new whole is o below = let long = stage_objects old (Shares who source rights handle result grants) new whole.stands.enough is in omega (arith, below, long)
number_known old (Begins thread handle result grants) new whole is o below = let long = stage_objects old (Begins thread handle result grants) new whole.stands.enough is in omega (arith, below, long)
number_known old (Adds result grants) new whole is o below = let long = stage_objects old (Adds result grants) new whole.stands.enough is in omega (arith, below, long)

pub stages_follow : (stages : List Stage) (old new : State) → IsWhole old → Stages old stages new → (o access : ℕ) → o < length old.objects → is_given_on o stages ≡ false → HasRights new.handles (number_after stages o) access → HasRights old.handles o access
stages_follow [] old new whole life o access below none has = subst (λ (s : State). HasRights s.handles o access) life has
stages_follow (stage ∷ stages) old new whole life o access below none has =
    let two = neither (gives_object o stage) (is_given_on (number_then stage o) stages) none in
    stage_follows old stage life.0 whole life.1 o access below two.0
    (stages_follow stages life.0 new (stage_whole old stage life.0 whole life.1) life.2 (number_then stage o) access (number_known old stage life.0 whole life.1 o below) two.1 has)
