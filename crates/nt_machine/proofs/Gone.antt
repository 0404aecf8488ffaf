-- The loop that ends the objects that nothing keeps any more.
use Rattle.std.proofs.Common.{◌≡◌, ◌≢◌, ℕ, ◌<◌, ◌++◌, Bool, true, false, cond, List, [], ◌∷◌, refl, sym, ap, ◌∙◌, subst, arith, inl, inr, ◌⊎◌, Contains}
use Rattle.std.specs.Prelude.{slice_set}
use Rattle.std.proofs.lemmas.Bool.{cases_eq}
use Rattle.std.proofs.lemmas.List.Elements.{Contains-push_cases}
use Rattle.nt_status.proofs.Lists.{contains_none, contains_or_not}
use Rattle.nt_marks.specs.Marks.{is_marked, NoneMarked, IsFirstMarked}
use Rattle.nt_calls.specs.Rising.{IsRising}
use Rattle.nt_calls.specs.State.{State}
use Rattle.nt_machine.specs.Dispatcher.{Dispatcher, state}
use Rattle.nt_calls.specs.Living.{is_forgotten, gone, all_gone, Ends, LivesWhileKept}
use Rattle.nt_machine.specs.Lawful.{IsMachineSound, IsSteady, IsUnmarked}
use Rattle.nt_machine.proofs.Lives.{forgotten_as, still_forgotten, all_living}
use Rattle.nt_machine.proofs.Remaining.{stays}
use Rattle.nt_machine.proofs.Rousing.{cleared_other, cleared_here, lowest_least}
use Rattle.nt_machine.proofs.Settling.{ends_settled}
use Rattle.nt_machine.proofs.Ticking.{rising_append}

gone_append : (s : State) (os : List ℕ) (o : ℕ) → all_gone s (os ++ o ∷ []) ≡ gone (all_gone s os) o
gone_append s [] o = refl
gone_append s (p ∷ os) o = gone_append (gone s p) os o

-- these objects are gone so far; what has a mark still has a greater number
pub record GoneSoFar (old now : Dispatcher) : Type 0 where
  pub objects : List ℕ
  pub rising : IsRising objects
  pub forgotten : (x : ℕ) → Contains objects x → is_forgotten (state old) x ≡ true
  pub over : state now ≡ all_gone (state old) objects
  pub above : (x : ℕ) → is_marked now.leaving x ≡ true → (y : ℕ) → Contains objects y → y < x
  pub sound : IsMachineSound now
  pub grants : now.grants ≡ old.grants
  pub table : now.table ≡ old.table
  pub marked : now.marked ≡ old.marked

pub gone_none : (d : Dispatcher) → IsMachineSound d → GoneSoFar d d
gone_none d sound = record {
  objects = [];
  rising = tt;
  forgotten = λ x m. absurd (contains_none x m);
  over = refl;
  above = λ x is y m. absurd (contains_none y m);
  sound = sound;
  grants = refl;
  table = refl;
  marked = refl;
}

no_mark : {P : Type 0} → false ≡ true → P
no_mark e = (cc)

pub gone_next : (old now new : Dispatcher) (t : ℕ) → GoneSoFar old now → IsFirstMarked now.leaving t → state new ≡ cond (is_forgotten (state now) t) (gone (state now) t) (state now) → new.leaving ≡ slice_set now.leaving t false → IsMachineSound new → new.grants ≡ now.grants → new.table ≡ now.table → new.marked ≡ now.marked → GoneSoFar old new
gone_next old now new t far lowest becomes leaving sound grants table marked = go (is_forgotten (state now) t) refl becomes
  where
    mark_before : (x : ℕ) → x ≢ t → is_marked new.leaving x ≡ is_marked now.leaving x
    mark_before x other = ap (λ (m : List Bool). is_marked m x) leaving ∙ cleared_other now.leaving t x other

    no_mark_here : (x : ℕ) → x ≡ t → is_marked new.leaving x ≡ false
    no_mark_here x same = ap (λ (k : ℕ). is_marked new.leaving k) same ∙ (ap (λ (m : List Bool). is_marked m t) leaving ∙ cleared_here now.leaving t)

    after : (x : ℕ) → is_marked new.leaving x ≡ true → (x ≡ t) ⊎ (x ≢ t) → (y : ℕ) → Contains far.objects y ⊎ (t ≡ y) → y < x
    after x is (inl same) y m = no_mark (sym (no_mark_here x same) ∙ is)
    after x is (inr other) y (inl earlier) = far.above x (sym (mark_before x other) ∙ is) y earlier
    after x is (inr other) y (inr last) = let least = lowest_least now.leaving t x lowest (sym (mark_before x other) ∙ is) in omega (arith, least, other, last)

    go : (b : Bool) → is_forgotten (state now) t ≡ b → state new ≡ cond b (gone (state now) t) (state now) → GoneSoFar old new
    go true is next =
        let before = still_forgotten (state old) far.objects t (subst (λ (s : State). is_forgotten s t ≡ true) far.over is) in
        record {
          objects = far.objects ++ t ∷ [];
          rising = rising_append far.objects t far.rising (far.above t lowest.here);
          forgotten = λ x m. elim (Contains-push_cases far.objects t x m) [
            | inl earlier ↦ far.forgotten x earlier
            | inr last ↦ subst (λ (k : ℕ). is_forgotten (state old) k ≡ true) last before.0
          ];
          over = next ∙ (ap (λ (s : State). gone s t) far.over ∙ sym (gone_append (state old) far.objects t));
          above = λ x mark y m. after x mark (cases_eq x t) y (Contains-push_cases far.objects t y m);
          sound = sound;
          grants = grants ∙ far.grants;
          table = table ∙ far.table;
          marked = marked ∙ far.marked;
        }
    go false is next = record {
      objects = far.objects;
      rising = far.rising;
      forgotten = far.forgotten;
      over = next ∙ far.over;
      above = λ x mark y m. after x mark (cases_eq x t) y (inl m);
      sound = sound;
      grants = grants ∙ far.grants;
      table = table ∙ far.table;
      marked = marked ∙ far.marked;
    }

pub gone_end : (old now : Dispatcher) → GoneSoFar old now → NoneMarked now.leaving → Ends (state old) (state now)
gone_end old now far none = record {
  objects = far.objects;
  forgotten = record {
    rising = far.rising;
    exactly = λ x. (
      λ m. far.forgotten x m,
      λ is. elim (contains_or_not far.objects x) [
        | inl member ↦ member
        | inr never ↦ elim (far.sound.marks.marked x (subst (λ (s : State). is_forgotten s x ≡ true) (sym far.over) (forgotten_as (state old) far.objects x (stays (state old) far.objects x never) ∙ is))) [
          | inl mark ↦ absurd (none x mark)
          | inr other ↦ absurd (contains_none x other)
        ]
      ],
    );
  };
  leaves = far.over;
}

-- the state that is left is steady, and each object lives in it exactly while it is kept
pub gone_steady : (old now : Dispatcher) → IsSteady old → GoneSoFar old now → NoneMarked now.leaving → IsSteady now × LivesWhileKept (state now)
gone_steady old now steady far none =
    let ends = gone_end old now far none in (
      record { sound = far.sound; settled = ends_settled old (state now) steady.sound.blocks steady.settled ends; unmarked = subst IsUnmarked (sym far.marked) steady.unmarked },
      all_living old (state now) steady.sound ends,
    )
