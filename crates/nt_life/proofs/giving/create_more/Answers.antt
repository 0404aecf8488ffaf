use Rattle.nt_life.specs.Lasting.{IsClosedLast}
use Rattle.std.proofs.Common.{rules, List, sym}
use Rattle.std.proofs.Common.{◌≡◌, ◌∙◌, ℕ, true, get_or, refl, ap, subst, inr, inl}
use Rattle.std.specs.declared.result.Result.{Result}
use Rattle.std.specs.declared.result.Result.TheVariants.{Ok, Err}
use Rattle.nt_status.specs.declared.refusal.Refusal.{Refusal}
use Rattle.nt_status.specs.declared.refusal.Refusal.TheVariants.{HandleLimit}
use Rattle.nt_calls.specs.declared.call.Reply.{Reply}
use Rattle.nt_machine.specs.Dispatcher.{state}
use Rattle.nt_core.specs.Renewals.{AddsVacant, CreatesAgain, is_closed}
use Rattle.nt_life.proofs.Calls.{last_is_closed}
use Rattle.nt_life.proofs.Limits.{again_limit, created_surely}
use Rattle.nt_life.proofs.Choosing.{added_spare, added_room, added_at, added_caller, added_closed, none_added}
use Rattle.nt_life.specs.Lasting.{Pops, CreatesBeside}
use Rattle.nt_life.proofs.Telling.{tells_created, tells_added}
use Rattle.nt_life.proofs.giving.create_more.Goals as goal

pub returns-in-Some-clause-limit : goal.returns-in-Some-clause-limit
returns-in-Some-clause-limit c limit =
    absurd (again_limit (state c.args.core.now) c.args.who c.args.act.now (get_or c.args.spare.now.unnamed c.in-Some.place 0) c.args.handle c.create_at.result c.create_at.new.core.grants (state c.create_at.new.core) c.create_at.ensures.created limit)

pub returns-in-Err-clause-created : goal.returns-in-Err-clause-created
returns-in-Err-clause-created c =
    let adds = c.in-Err.ensures.added in
    inr (c.requires.last.closed, c.requires.lacks.full, (Err c.in-Err.refusal, state c.add_vacant.new.self, (adds.0, refl, adds.2), (refl, adds.1, adds.2)))

err_same : (cause : Refusal) (r : Result Reply Refusal) → r ≡ Err cause → r ≡ Err HandleLimit → cause ≡ HandleLimit
err_same cause r is limit = (cc)

pub returns-in-Err-clause-limit : goal.returns-in-Err-clause-limit
returns-in-Err-clause-limit c limit =
    inr (none_added c.args.core.now c.args.spare.now c.add_vacant.new.self.grants (state c.add_vacant.new.self) c.requires.has.lawful c.requires.has.spare c.requires.lacks.full c.in_default.ensures.none
    (subst (λ (r : Result ℕ Refusal). AddsVacant (state c.args.core.now) r c.add_vacant.new.self.grants (state c.add_vacant.new.self)) (ap (λ (cause : Refusal). Err cause) (err_same c.in-Err.refusal (Err c.in-Err.refusal) refl limit)) c.in-Err.ensures.added))

pub add_object-place-requires : goal.add_object-place-requires
add_object-place-requires c =
    added_room c.args.core.now c.args.spare.now c.in-Ok.object c.add_vacant.new.self.grants (state c.add_vacant.new.self) c.requires.has.lawful c.requires.has.spare c.in-Ok.ensures.added

-- it is made with the number that was added
created : (c : goal.After-told-2-1) → CreatesAgain (state c.add_vacant.new.self) c.args.who c.args.act.now c.in-Ok.object c.args.handle c.create_at-answer.result c.create_at-answer.new.core.grants (state c.create_at-answer.new.core)
created c =
    let at = added_at c.args.spare.now c.add_object-place.new.self c.in-Ok.object c.add_object-place.result c.add_object-place.ensures.place c.add_object-place.ensures.unnamed in
    subst (λ (o : ℕ). CreatesAgain (state c.add_vacant.new.self) c.args.who c.args.act.now o c.args.handle c.create_at-answer.result c.create_at-answer.new.core.grants (state c.create_at-answer.new.core)) at c.create_at-answer.ensures.created

made : (c : goal.After-told-2-1) → c.create_at-answer.result ≡ Ok (Reply.Handle c.args.handle)
made c =
    let old = state c.args.core.now in
    let mid = state c.add_vacant.new.self in
    let closed : is_closed old c.args.handle ≡ true = ap (λ (h : ℕ). is_closed old h) c.requires.last.handle ∙ last_is_closed old c.args.spare.now c.requires.has.spare c.requires.last.closed in
    created_surely mid c.args.who c.args.act.now c.in-Ok.object c.args.handle c.create_at-answer.result c.create_at-answer.new.core.grants (state c.create_at-answer.new.core)
    (added_caller c.args.core.now mid c.in-Ok.object c.add_vacant.new.self.grants c.args.who c.requires.has.lawful c.in-Ok.ensures.added c.requires.lacks.caller)
    c.requires.lacks.lawful_act c.in-Ok.ensures.vacant
    (added_closed old mid c.in-Ok.object c.add_vacant.new.self.grants c.args.handle c.in-Ok.ensures.added closed) (created c)

pub returns-clause-created : goal.returns-clause-created
returns-clause-created c =
    let adds = c.in-Ok.ensures.added in
    let mid = state c.add_vacant.new.self in
    inr (
      c.requires.last.closed,
      c.requires.lacks.full,
      (
        Ok c.in-Ok.object,
        mid,
        (adds.0, adds.1, refl, adds.3),
        subst (λ (h : ℕ). CreatesBeside (Ok c.in-Ok.object) (state c.args.core.now) mid h c.args.who c.args.act.now c.create_at-answer.result c.create_at-answer.new.core.grants (state c.create_at-answer.new.core)) c.requires.last.handle (made c, created c),
      ),
    )

pub returns-clause-limit : goal.returns-clause-limit
returns-clause-limit c limit =
    absurd (again_limit (state c.add_vacant.new.self) c.args.who c.args.act.now (get_or c.add_object-place.new.self.unnamed c.add_object-place.result 0) c.args.handle c.create_at-answer.result c.create_at-answer.new.core.grants (state c.create_at-answer.new.core) c.create_at-answer.ensures.created limit)

pub returns-in-Some-clause-told : goal.returns-in-Some-clause-told
returns-in-Some-clause-told c =
    tells_created (state c.args.core.now) c.args.who c.args.act.now (get_or c.args.spare.now.unnamed c.in-Some.place 0) c.args.handle c.create_at.new.told c.create_at.result c.create_at.new.core.grants (state c.create_at.new.core) c.create_at.ensures.told c.create_at.ensures.created

pub returns-clause-told : goal.returns-clause-told
returns-clause-told c =
    tells_added (state c.args.core.now) (state c.add_vacant.new.self) c.args.who c.args.act.now c.in-Ok.object c.args.handle c.create_at-answer.result c.add_vacant.new.self.grants c.create_at-answer.new.core.grants (state c.create_at-answer.new.core) c.in-Ok.ensures.added (created c)

pub create_at-answer-requires-clause-has : goal.create_at-answer-requires-clause-has
create_at-answer-requires-clause-has c = record {
  lawful = c.add_vacant.ensures.lawful;
  spare = added_spare c.args.core.now c.args.spare.now c.add_object-place.new.self c.in-Ok.object c.add_vacant.new.self.grants (state c.add_vacant.new.self) c.requires.has.lawful c.requires.has.spare c.in-Ok.ensures.added
      c.add_object-place.ensures.closed c.add_object-place.ensures.unnamed;
}

pub create_at-answer-requires-clause-last : goal.create_at-answer-requires-clause-last
create_at-answer-requires-clause-last c =
    subst (λ (closed : List ℕ). IsClosedLast (record { closed = closed; unnamed = c.add_object-place.new.self.unnamed; turn = c.add_object-place.new.self.turn }) c.args.handle) (sym c.add_object-place.ensures.closed)
    (record { closed = c.requires.last.closed; handle = c.requires.last.handle })

pub returns-in-Err-clause-leaves : goal.returns-in-Err-clause-leaves
returns-in-Err-clause-leaves c = record { lawful = c.add_vacant.ensures.lawful; spare = search rules; stacked = inl refl }

pub returns-clause-leaves : goal.returns-clause-leaves
returns-clause-leaves c =
    let left = c.create_at-answer.ensures.leaves in
    record { lawful = left.lawful; spare = left.spare; stacked = subst (λ ns. Pops ns c.create_at-answer.new.spare.closed) c.add_object-place.ensures.closed left.stacked }
