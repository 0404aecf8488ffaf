use Rattle.nt_life.specs.Lasting.{IsSpare, LacksOnlyNumbers}
use Rattle.nt_life.proofs.Whole.{own_pace}
use Rattle.std.proofs.Common.{◌∙◌, ◌⊎◌, arith, sym, ap, subst, inl, inr, refl}
use Rattle.nt_calls.specs.declared.call.Call.{Call}
use Rattle.nt_calls.specs.State.{State}
use Rattle.nt_calls.specs.Steps.{Called}
use Rattle.nt_machine.specs.Dispatcher.{state}
use Rattle.nt_laws.specs.Laws.{call_closes}
use Rattle.nt_life.specs.Lasting.{CreatesSpare, CreatesMore, NoHandle, NoObject}
use Rattle.nt_life.proofs.Calls.{call_spare, creation_closes, none_closed}
use Rattle.nt_life.proofs.Limits.{refused_full, refused_same, limit_caller, limit_lawful}
use Rattle.nt_life.proofs.Looking.{creation_looks, more_nobody, own_looks}
use Rattle.nt_life.specs.Lasting.{KeepsPace}
use Rattle.nt_life.proofs.Pacing.{more_pace}
use Rattle.nt_life.specs.Renewals.{Tells}
use Rattle.nt_life.proofs.Telling.{tells_own}
use Rattle.nt_life.proofs.giving.create_new.Goals as goal

pub returns-in-Some-clause-created : goal.returns-in-Some-clause-created
returns-in-Some-clause-created c =
    let same = refused_same (state c.args.core.now) c.args.who c.args.call.now c.call-answer.result c.call-answer.new.self.grants (state c.call-answer.new.self) c.call-answer.ensures.called (c.is_limit.ensures.0 c.if-not-is_limit.false) in
    inr (subst (λ (s : State). CreatesSpare s c.args.spare.now c.args.who c.args.act.now c.create_more.result c.create_more.new.core.grants (state c.create_more.new.core) ⊎ CreatesMore s c.args.spare.now c.args.who c.args.act.now c.create_more.result c.create_more.new.core.grants (state c.create_more.new.core)) same c.create_more.ensures.created)

pub returns-in-Some-clause-limit : goal.returns-in-Some-clause-limit
returns-in-Some-clause-limit c limit =
    let same = refused_same (state c.args.core.now) c.args.who c.args.call.now c.call-answer.result c.call-answer.new.self.grants (state c.call-answer.new.self) c.call-answer.ensures.called (c.is_limit.ensures.0 c.if-not-is_limit.false) in
    subst (λ (s : State). NoHandle s ⊎ NoObject s) same (c.create_more.ensures.limit limit)

pub returns-in-None-clause-limit : goal.returns-in-None-clause-limit
returns-in-None-clause-limit c limit =
    inl (
      (refused_full (state c.args.core.now) c.args.who c.args.call.now c.call-answer.result c.call-answer.new.self.grants (state c.call-answer.new.self) c.call-answer.ensures.called limit).handles,
      none_closed (state c.args.core.now) c.args.spare.now c.requires.has.spare c.in-None.ensures.none,
    )

pub returns-then-not-is_limit-clause-told : goal.returns-then-not-is_limit-clause-told
returns-then-not-is_limit-clause-told c =
    tells_own (state c.args.core.now) c.args.who (Call.Act c.args.act.now) c.args.call.now c.args.told.now c.call-answer.result c.call-answer.new.self.grants (state c.call-answer.new.self) c.requires.untold c.requires.act c.call-answer.ensures.called

pub returns-in-None-clause-told : goal.returns-in-None-clause-told
returns-in-None-clause-told c =
    tells_own (state c.args.core.now) c.args.who (Call.Act c.args.act.now) c.args.call.now c.args.told.now c.call-answer.result c.call-answer.new.self.grants (state c.call-answer.new.self) c.requires.untold c.requires.act c.call-answer.ensures.called

pub returns-in-Some-clause-told : goal.returns-in-Some-clause-told
returns-in-Some-clause-told c =
    let same = refused_same (state c.args.core.now) c.args.who c.args.call.now c.call-answer.result c.call-answer.new.self.grants (state c.call-answer.new.self) c.call-answer.ensures.called (c.is_limit.ensures.0 c.if-not-is_limit.false) in
    subst (λ (s : State). Tells s c.args.who (Call.Act c.args.act.now) c.create_more.new.told c.create_more.result c.create_more.new.core.grants (state c.create_more.new.core)) same c.create_more.ensures.told

pub returns-then-not-is_limit-clause-takes : goal.returns-then-not-is_limit-clause-takes
returns-then-not-is_limit-clause-takes c = record {
  pace = own_pace (state c.args.core.now) c.args.who c.args.call.now (Call.Act c.args.act.now) c.call-answer.result c.call-answer.new.self.grants (state c.call-answer.new.self) c.requires.act c.call-answer.ensures.most c.call-answer.ensures.few c.call-answer.ensures.moves c.call-answer.ensures.waits c.call-answer.ensures.moment;
  looks = own_looks c.args.core.now c.call-answer.new.self c.args.who c.args.call.now (Call.Act c.args.act.now) c.call-answer.result c.requires.act c.call-answer.ensures.local c.call-answer.ensures.untested;
  leaves = record {
    lawful = c.call-answer.ensures.lawful;
    spare = call_spare (state c.args.core.now) c.args.who c.args.call.now c.call-answer.result c.call-answer.new.self.grants (state c.call-answer.new.self) c.args.spare.now c.requires.has.lawful.steady.sound.handles.enough
        (λ h. ap (λ (call : Call). call_closes h call) c.requires.act ∙ creation_closes c.args.act.now c.requires.creates h)
        c.call-answer.ensures.moves.threads c.call-answer.ensures.called c.requires.has.spare;
    stacked = inl refl;
  };
}

pub returns-in-None-clause-takes : goal.returns-in-None-clause-takes
returns-in-None-clause-takes c = record {
  pace = own_pace (state c.args.core.now) c.args.who c.args.call.now (Call.Act c.args.act.now) c.call-answer.result c.call-answer.new.self.grants (state c.call-answer.new.self) c.requires.act c.call-answer.ensures.most c.call-answer.ensures.few c.call-answer.ensures.moves c.call-answer.ensures.waits c.call-answer.ensures.moment;
  looks = own_looks c.args.core.now c.call-answer.new.self c.args.who c.args.call.now (Call.Act c.args.act.now) c.call-answer.result c.requires.act c.call-answer.ensures.local c.call-answer.ensures.untested;
  leaves = record {
    lawful = c.call-answer.ensures.lawful;
    spare = call_spare (state c.args.core.now) c.args.who c.args.call.now c.call-answer.result c.call-answer.new.self.grants (state c.call-answer.new.self) c.args.spare.now c.requires.has.lawful.steady.sound.handles.enough
        (λ h. ap (λ (call : Call). call_closes h call) c.requires.act ∙ creation_closes c.args.act.now c.requires.creates h)
        c.call-answer.ensures.moves.threads c.call-answer.ensures.called c.requires.has.spare;
    stacked = inl refl;
  };
}

pub returns-in-Some-clause-takes : goal.returns-in-Some-clause-takes
returns-in-Some-clause-takes c =
    let same = refused_same (state c.args.core.now) c.args.who c.args.call.now c.call-answer.result c.call-answer.new.self.grants (state c.call-answer.new.self) c.call-answer.ensures.called (c.is_limit.ensures.0 c.if-not-is_limit.false) in
    record {
      pace = subst (λ (s : State). KeepsPace s c.args.who (Call.Act c.args.act.now) c.create_more.result c.create_more.new.core.grants (state c.create_more.new.core)) same
          (more_pace (state c.call-answer.new.self) c.args.spare.now c.args.who c.args.act.now c.create_more.result c.create_more.new.core.grants (state c.create_more.new.core) c.create_more.ensures.created);
      looks = creation_looks c.args.core.now c.create_more.new.core c.args.who c.args.act.now c.create_more.result c.requires.creates c.create_more.ensures.untested
          (more_nobody (state c.call-answer.new.self) c.args.spare.now c.args.who c.args.act.now c.create_more.result c.create_more.new.core.grants (state c.create_more.new.core) c.create_more.ensures.created);
      leaves = c.create_more.ensures.leaves;
    }

pub returns-in-Some-clause-ordered : goal.returns-in-Some-clause-ordered
returns-in-Some-clause-ordered c = λ room.
    let full = (refused_full (state c.args.core.now) c.args.who c.args.call.now c.call-answer.result c.call-answer.new.self.grants (state c.call-answer.new.self) c.call-answer.ensures.called (c.is_limit.ensures.0 c.if-not-is_limit.false)).handles in
    absurd (omega (arith, full, room))

pub create_more-requires-clause-has : goal.create_more-requires-clause-has
create_more-requires-clause-has c =
    let same = refused_same (state c.args.core.now) c.args.who c.args.call.now c.call-answer.result c.call-answer.new.self.grants (state c.call-answer.new.self) c.call-answer.ensures.called (c.is_limit.ensures.0 c.if-not-is_limit.false) in
    record { lawful = c.call-answer.ensures.lawful; spare = subst (λ (s : State). IsSpare s c.args.spare.now) (sym same) c.requires.has.spare }

pub create_more-requires-clause-last : goal.create_more-requires-clause-last
create_more-requires-clause-last c = record { closed = c.in-Some.ensures.some.0; handle = c.in-Some.ensures.some.1 }

pub create_more-requires-clause-lacks : goal.create_more-requires-clause-lacks
create_more-requires-clause-lacks c =
    let limit = c.is_limit.ensures.0 c.if-not-is_limit.false in
    let old = state c.args.core.now in
    let same = refused_same old c.args.who c.args.call.now c.call-answer.result c.call-answer.new.self.grants (state c.call-answer.new.self) c.call-answer.ensures.called limit in
    let called = subst (λ (call : Call). Called (state c.args.core.now) c.args.who call c.call-answer.result c.call-answer.new.self.grants (state c.call-answer.new.self)) c.requires.act c.call-answer.ensures.called in
    subst (λ (s : State). LacksOnlyNumbers s c.args.who c.args.act.now) (sym same)
    (record {
      full = (refused_full old c.args.who c.args.call.now c.call-answer.result c.call-answer.new.self.grants (state c.call-answer.new.self) c.call-answer.ensures.called limit).handles;
      caller = limit_caller old c.args.who c.args.call.now c.call-answer.result c.call-answer.new.self.grants (state c.call-answer.new.self) c.call-answer.ensures.called limit;
      lawful_act = limit_lawful old c.args.who c.args.act.now c.call-answer.result c.call-answer.new.self.grants (state c.call-answer.new.self) c.requires.creates called limit;
    })
