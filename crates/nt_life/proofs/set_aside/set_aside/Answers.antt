use Rattle.std.proofs.Common.{◌≡◌, ℕ, Bool, true, refl, sym, ap, ◌∙◌, subst, inr}
use Rattle.std.specs.Prelude.{MatchBool}
use Rattle.std.specs.declared.result.Result.{Result}
use Rattle.std.specs.declared.result.Result.TheVariants.{Ok, Err}
use Rattle.nt_status.specs.declared.refusal.Refusal.{Refusal}
use Rattle.nt_status.specs.declared.refusal.Refusal.TheVariants.{InvalidHandle}
use Rattle.nt_calls.specs.declared.call.Grant.{Grant}
use Rattle.nt_calls.specs.State.{State}
use Rattle.std.proofs.Common.{List}
use Rattle.nt_machine.specs.Dispatcher.{state}
use Rattle.nt_core.specs.Renewals.{is_vacant}
use Rattle.nt_core.specs.SetAside.{is_movable}
use Rattle.nt_life.specs.Lasting.{MovesAside, FindsNumber, SetsAsideSpare}
use Rattle.nt_life.proofs.Calls.{none_vacant}
use Rattle.nt_life.proofs.Choosing.{added_spare, added_room, added_at, added_movable}
use Rattle.nt_life.proofs.set_aside.set_aside.Goals as goal

-- it can be moved, so it finds a number, or none
finds : (old : State) (t : ℕ) (result : Result ℕ Refusal) (grants : List Grant) (new : State) → is_movable old t ≡ true → FindsNumber old t result grants new → SetsAsideSpare old t result grants new
finds old t result grants new movable found = subst (λ (b : Bool). MatchBool b (FindsNumber old t result grants new) ((result ≡ Err InvalidHandle) × (new ≡ old))) (sym movable) found

pub returns-in-Err-clause-aside : goal.returns-in-Err-clause-aside
returns-in-Err-clause-aside c =
    let adds = c.in-Err.ensures.added in
    finds (state c.args.core.now) c.args.thread (Err c.in-Err.refusal) c.add_vacant.new.self.grants (state c.add_vacant.new.self) (sym c.is_movable.ensures ∙ c.if-not-is_movable.false)
    (inr (
      none_vacant (state c.args.core.now) c.args.spare.now c.requires.spare c.requires.lawful.living c.in_default.ensures.none,
      (Err c.in-Err.refusal, state c.add_vacant.new.self, (adds.0, refl, adds.2), (refl, adds.2)),
    ))

pub add_object-place-requires : goal.add_object-place-requires
add_object-place-requires c =
    added_room c.args.core.now c.args.spare.now c.in-Ok.object c.add_vacant.new.self.grants (state c.add_vacant.new.self) c.requires.lawful c.requires.spare c.in-Ok.ensures.added

pub set_aside_at-requires-2-clause-movable : goal.set_aside_at-requires-2-clause-movable
set_aside_at-requires-2-clause-movable c =
    added_movable (state c.args.core.now) (state c.add_vacant.new.self) c.in-Ok.object c.add_vacant.new.self.grants c.args.thread c.in-Ok.ensures.added (sym c.is_movable.ensures ∙ c.if-not-is_movable.false)

pub set_aside_at-requires-2-clause-vacant : goal.set_aside_at-requires-2-clause-vacant
set_aside_at-requires-2-clause-vacant c =
    let at = added_at c.args.spare.now c.add_object-place.new.self c.in-Ok.object c.add_object-place.result c.add_object-place.ensures.place c.add_object-place.ensures.unnamed in
    ap (λ (o : ℕ). is_vacant (state c.add_vacant.new.self) o) at ∙ c.in-Ok.ensures.vacant

pub returns-clause-aside : goal.returns-clause-aside
returns-clause-aside c =
    let adds = c.in-Ok.ensures.added in
    let mid = state c.add_vacant.new.self in
    let at = added_at c.args.spare.now c.add_object-place.new.self c.in-Ok.object c.add_object-place.result c.add_object-place.ensures.place c.add_object-place.ensures.unnamed in
    finds (state c.args.core.now) c.args.thread (Ok c.set_aside_at-2.result) c.set_aside_at-2.new.core.grants (state c.set_aside_at-2.new.core) (sym c.is_movable.ensures ∙ c.if-not-is_movable.false)
    (inr (
      none_vacant (state c.args.core.now) c.args.spare.now c.requires.spare c.requires.lawful.living c.in_default.ensures.none,
      (
        Ok c.in-Ok.object,
        mid,
        (adds.0, adds.1, refl, adds.3),
        subst (λ (o : ℕ). MovesAside mid c.args.thread o (Ok c.set_aside_at-2.result) c.set_aside_at-2.new.core.grants (state c.set_aside_at-2.new.core)) at c.set_aside_at-2.ensures.moves,
      ),
    ))

pub returns-in-Err-clause-unchanged : goal.returns-in-Err-clause-unchanged
returns-in-Err-clause-unchanged c = (c.in-Err.ensures.added.2, refl)

pub set_aside_at-requires-2-clause-has : goal.set_aside_at-requires-2-clause-has
set_aside_at-requires-2-clause-has c = record {
  lawful = c.add_vacant.ensures.lawful;
  spare = added_spare c.args.core.now c.args.spare.now c.add_object-place.new.self c.in-Ok.object c.add_vacant.new.self.grants (state c.add_vacant.new.self) c.requires.lawful c.requires.spare c.in-Ok.ensures.added
      c.add_object-place.ensures.closed c.add_object-place.ensures.unnamed;
}
