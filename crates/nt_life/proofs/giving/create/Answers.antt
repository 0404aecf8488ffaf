use Rattle.std.proofs.Common.{◌≡◌, ◌∙◌, ℕ, List, get_or, refl, sym, ap, subst, None}
use Rattle.std.proofs.lemmas.Bool.{true≢false}
use Rattle.nt_machine.specs.Dispatcher.{Dispatcher, state}
use Rattle.nt_core.specs.Renewals.{CreatesAgain}
use Rattle.nt_life.specs.Lasting.{Spares, CreatesElse, HasSpare, IsClosedLast, LeavesSpare, Pops, times}
use Rattle.nt_life.proofs.Limits.{again_limit}
use Rattle.nt_life.proofs.Looking.{created_nobody, creation_looks}
use Rattle.nt_life.proofs.Pacing.{created_pace}
use Rattle.nt_life.proofs.Telling.{tells_created}
use Rattle.nt_life.proofs.Turning.{creates_found, creates_unfound, found_given, turns_closed}
use Rattle.nt_life.proofs.giving.create.Goals as goal

-- the same numbers are spare, whosever turn it is
same_has : (core : Dispatcher) (old new : Spares) → new.closed ≡ old.closed → new.unnamed ≡ old.unnamed → HasSpare core old → HasSpare core new
same_has core old new closed unnamed has = record {
  lawful = has.lawful;
  spare = record { handles = λ h. ap (λ ns. times h ns) closed ∙ has.spare.handles h; objects = λ o. ap (λ ns. times o ns) unnamed ∙ has.spare.objects o };
}

same_leaves : (old mid : Spares) (core : Dispatcher) (new : Spares) → mid.closed ≡ old.closed → LeavesSpare mid core new → LeavesSpare old core new
same_leaves old mid core new closed leaves = record { lawful = leaves.lawful; spare = leaves.spare; stacked = subst (λ (ns : List ℕ). Pops ns new.closed) closed leaves.stacked }

pub returns-in_default-vacant-clause-created : goal.returns-in_default-vacant-clause-created
returns-in_default-vacant-clause-created c =
    creates_unfound (state c.args.core.now) c.args.spare.now c.args.who c.args.act.now None c.create_new-in_default-vacant.result c.create_new-in_default-vacant.new.core.grants (state c.create_new-in_default-vacant.new.core) refl c.in_default-vacant.ensures.which
    (subst (λ (closed : List ℕ). CreatesElse (state c.args.core.now) (record { closed = closed; unnamed = c.args.spare.now.unnamed; turn = 0 }) c.args.who c.args.act.now c.create_new-in_default-vacant.result c.create_new-in_default-vacant.new.core.grants (state c.create_new-in_default-vacant.new.core)) c.vacant.ensures.closed c.create_new-in_default-vacant.ensures.created)

pub returns-clause-created : goal.returns-clause-created
returns-clause-created c =
    let old = state c.args.core.now in
    let new = state c.create_at.new.core in
    creates_found old c.args.spare.now c.args.who c.args.act.now c.in-Some-vacant.place c.create_at.result c.create_at.new.core.grants new c.in-Some.ensures.some.0 c.in-Some-vacant.ensures.which
    (subst (λ (h : ℕ). CreatesAgain old c.args.who c.args.act.now (get_or c.args.spare.now.unnamed c.in-Some-vacant.place 0) h c.create_at.result c.create_at.new.core.grants new) c.in-Some.ensures.some.1
    (subst (λ (unnamed : List ℕ). CreatesAgain old c.args.who c.args.act.now (get_or unnamed c.in-Some-vacant.place 0) c.in-Some.handle c.create_at.result c.create_at.new.core.grants new) c.vacant.ensures.unnamed c.create_at.ensures.created))

pub returns-clause-limit : goal.returns-clause-limit
returns-clause-limit c limit =
    absurd (again_limit (state c.args.core.now) c.args.who c.args.act.now (get_or c.vacant.new.self.unnamed c.in-Some-vacant.place 0) c.in-Some.handle c.create_at.result c.create_at.new.core.grants (state c.create_at.new.core) c.create_at.ensures.created limit)

pub returns-clause-told : goal.returns-clause-told
returns-clause-told c =
    tells_created (state c.args.core.now) c.args.who c.args.act.now (get_or c.vacant.new.self.unnamed c.in-Some-vacant.place 0) c.in-Some.handle c.create_at.new.told c.create_at.result c.create_at.new.core.grants (state c.create_at.new.core) c.create_at.ensures.told c.create_at.ensures.created

pub returns-in_default-vacant-clause-takes : goal.returns-in_default-vacant-clause-takes
returns-in_default-vacant-clause-takes c =
    let takes = c.create_new-in_default-vacant.ensures.takes in
    record { pace = takes.pace; looks = takes.looks; leaves = same_leaves c.args.spare.now c.vacant.new.self c.create_new-in_default-vacant.new.core c.create_new-in_default-vacant.new.spare c.vacant.ensures.closed takes.leaves }

pub returns-in_default-vacant-clause-turned : goal.returns-in_default-vacant-clause-turned
returns-in_default-vacant-clause-turned c =
    turns_closed (state c.args.core.now) c.args.spare.now c.create_new-in_default-vacant.new.spare c.args.act.now c.requires.creates c.in-Some.ensures.some.0 (c.create_new-in_default-vacant.ensures.turn ∙ c.vacant.ensures.turn)

pub returns-clause-turned : goal.returns-clause-turned
returns-clause-turned c =
    turns_closed (state c.args.core.now) c.args.spare.now c.create_at.new.spare c.args.act.now c.requires.creates c.in-Some.ensures.some.0 (c.create_at.ensures.turn ∙ c.vacant.ensures.turn)

pub returns-in_default-vacant-clause-ordered : goal.returns-in_default-vacant-clause-ordered
returns-in_default-vacant-clause-ordered c = λ none room. c.create_new-in_default-vacant.ensures.ordered room ∙ c.vacant.ensures.unnamed

pub returns-clause-ordered : goal.returns-clause-ordered
returns-clause-ordered c = λ none room. absurd (true≢false (sym (found_given (state c.args.core.now) c.args.spare.now c.in-Some-vacant.place c.in-Some.ensures.some.0 c.in-Some-vacant.ensures.which) ∙ none))

pub returns-clause-takes : goal.returns-clause-takes
returns-clause-takes c = record {
  pace = created_pace (state c.args.core.now) c.args.who c.args.act.now (get_or c.vacant.new.self.unnamed c.in-Some-vacant.place 0) c.in-Some.handle c.create_at.result c.create_at.new.core.grants (state c.create_at.new.core) c.create_at.ensures.created;
  looks = creation_looks c.args.core.now c.create_at.new.core c.args.who c.args.act.now c.create_at.result c.requires.creates c.create_at.ensures.untested
      (created_nobody (state c.args.core.now) c.args.who c.args.act.now (get_or c.vacant.new.self.unnamed c.in-Some-vacant.place 0) c.in-Some.handle c.create_at.result c.create_at.new.core.grants (state c.create_at.new.core) c.create_at.ensures.created);
  leaves = same_leaves c.args.spare.now c.vacant.new.self c.create_at.new.core c.create_at.new.spare c.vacant.ensures.closed c.create_at.ensures.leaves;
}

pub create_at-requires-clause-has : goal.create_at-requires-clause-has
create_at-requires-clause-has c = same_has c.args.core.now c.args.spare.now c.vacant.new.self c.vacant.ensures.closed c.vacant.ensures.unnamed c.requires.has

pub create_at-requires-clause-last : goal.create_at-requires-clause-last
create_at-requires-clause-last c =
    subst (λ (closed : List ℕ). IsClosedLast (record { closed = closed; unnamed = c.vacant.new.self.unnamed; turn = c.vacant.new.self.turn }) c.in-Some.handle) (sym c.vacant.ensures.closed)
    (record { closed = c.in-Some.ensures.some.0; handle = c.in-Some.ensures.some.1 })

pub create_new-requires-in_default-vacant-clause-has : goal.create_new-requires-in_default-vacant-clause-has
create_new-requires-in_default-vacant-clause-has c = same_has c.args.core.now c.args.spare.now c.vacant.new.self c.vacant.ensures.closed c.vacant.ensures.unnamed c.requires.has
