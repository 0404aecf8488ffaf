use Rattle.nt_life.specs.Lasting.{LooksAt, Lasts}
use Rattle.nt_calls.specs.declared.call.Act.{Act}
use Rattle.std.proofs.Common.{◌≡◌, ◌∙◌, Some, sym, ap, subst, inl, refl}
use Rattle.nt_calls.specs.declared.call.Call.{Call}
use Rattle.nt_calls.specs.Steps.{Called}
use Rattle.nt_machine.specs.Dispatcher.{state}
use Rattle.nt_laws.specs.Laws.{call_closes}
use Rattle.nt_life.proofs.Calls.{call_spare, act_closes, creation_closes}
use Rattle.nt_life.proofs.Limits.{refused_full}
use Rattle.nt_life.proofs.Choosing.{creates_lasts, creation_finds, other_lasts, other_full}
use Rattle.nt_life.proofs.Looking.{own_looks}
use Rattle.nt_life.proofs.Stacking.{stacked_by, stacked_close}
use Rattle.nt_life.proofs.Whole.{lasts_by, own_pace}
use Rattle.nt_life.proofs.Telling.{tells_own}
use Rattle.nt_life.proofs.Turning.{creation_turns, other_order}
use Rattle.nt_life.proofs.giving.make_act.Goals as goal

pub returns-then-is_creation : goal.returns-then-is_creation
returns-then-is_creation c =
    let creates = sym c.is_creation.ensures ∙ c.if-is_creation.true in
    let made = c.create.ensures in
    record {
      told = made.told;
      lasts =
          lasts_by c.args.core.now c.args.spare.now c.args.who (Call.Act c.args.act.now) c.create.result c.create.new.core c.create.new.spare c.requires.has.lawful
          (creates_lasts (state c.args.core.now) c.args.spare.now c.args.who c.args.act.now c.create.result c.create.new.core.grants (state c.create.new.core) creates made.created)
          (λ limit. creation_finds (state c.args.core.now) c.args.act.now creates (made.limit limit))
          (stacked_by (Call.Act c.args.act.now) c.create.result c.args.spare.now.closed c.create.new.spare.closed (creation_closes c.args.act.now creates) made.takes.leaves.stacked)
          made.turned
          (λ _. made.ordered)
          made.takes.pace made.takes.looks made.takes.leaves.lawful;
      spare = made.takes.leaves.spare;
    }

pub returns-else-is_creation : goal.returns-else-is_creation
returns-else-is_creation c =
    let other = sym c.is_creation.ensures ∙ c.if-is_creation.false in
    let old = state c.args.core.now in
    let new = state c.call.new.self in
    let made = c.call.ensures in
    let call = Call.Act c.args.act.now in
    let called = subst (λ (call : Call). Called old c.args.who call c.call.result c.call.new.self.grants new) c.requires.act made.called in
    record {
      told = tells_own old c.args.who call c.args.call.now c.args.told.now c.call.result c.call.new.self.grants new c.requires.untold c.requires.act made.called;
      lasts =
          lasts_by c.args.core.now c.args.spare.now c.args.who call c.call.result c.call.new.self c.args.spare.now c.requires.has.lawful
          (other_lasts old c.args.spare.now c.args.who c.args.act.now c.call.result c.call.new.self.grants new c.in_default.not-Duplicate other called)
          (λ limit. absurd (other_full old c.args.act.now c.in_default.not-Duplicate other (refused_full old c.args.who call c.call.result c.call.new.self.grants new called limit)))
          (stacked_by call c.call.result c.args.spare.now.closed c.args.spare.now.closed (act_closes c.args.act.now c.in_default.not-Close) (inl refl))
          (creation_turns old c.args.spare.now c.args.act.now c.args.spare.now.turn other refl)
          (other_order old c.args.spare.now c.args.spare.now c.args.act.now other)
          (own_pace old c.args.who c.args.call.now call c.call.result c.call.new.self.grants new c.requires.act made.most made.few made.moves made.waits made.moment)
          (own_looks c.args.core.now c.call.new.self c.args.who c.args.call.now call c.call.result c.requires.act made.local made.untested)
          made.lawful;
      spare =
          call_spare old c.args.who c.args.call.now c.call.result c.call.new.self.grants new c.args.spare.now c.requires.has.lawful.steady.sound.handles.enough
          (λ h. ap (λ (call : Call). call_closes h call) c.requires.act ∙ act_closes c.args.act.now c.in_default.not-Close h) made.moves.threads made.called c.requires.has.spare;
    }

pub returns-in-Close-clause-told : goal.returns-in-Close-clause-told
returns-in-Close-clause-told c =
    tells_own (state c.args.core.now) c.args.who (Call.Act c.args.act.now) c.args.call.now c.args.told.now c.close.result c.close.new.core.grants (state c.close.new.core) c.requires.untold c.requires.act c.close.ensures.called

pub returns-in-Close-clause-lasts : goal.returns-in-Close-clause-lasts
returns-in-Close-clause-lasts c =
    let old = state c.args.core.now in
    let new = state c.close.new.core in
    let made = c.close.ensures in
    let call = Call.Act (Act.Close c.in-Close.handle) in
    let same : c.args.call.now ≡ call = c.requires.act ∙ ap (λ (act : Act). Call.Act act) c.in-Close.is in
    let called = subst (λ (call : Call). Called old c.args.who call c.close.result c.close.new.core.grants new) same made.called in
    subst (λ (act : Act). Lasts c.args.core.now (Some c.args.spare.now) c.args.who (Call.Act act) c.close.result c.close.new.core (Some c.close.new.spare)) (sym c.in-Close.is)
    (lasts_by c.args.core.now c.args.spare.now c.args.who call c.close.result c.close.new.core c.close.new.spare c.requires.has.lawful called
    (λ limit. absurd (other_full old (Act.Close c.in-Close.handle) (λ source access is. (cc)) refl (refused_full old c.args.who call c.close.result c.close.new.core.grants new called limit)))
    (stacked_close c.in-Close.handle c.close.result c.args.spare.now.closed c.close.new.spare.closed made.stacked made.kept)
    made.turn
    (other_order old c.args.spare.now c.close.new.spare (Act.Close c.in-Close.handle) refl)
    made.pace
    (subst (λ (call : Call). LooksAt c.args.core.now c.args.who call c.close.result c.close.new.core) same made.looks)
    made.has.lawful)

pub returns-in-Duplicate-clause-lasts : goal.returns-in-Duplicate-clause-lasts
returns-in-Duplicate-clause-lasts c =
    let made = c.duplicate.ensures in
    let call = Call.Act (Act.Duplicate c.in-Duplicate.handle c.in-Duplicate.access) in
    subst (λ (act : Act). Lasts c.args.core.now (Some c.args.spare.now) c.args.who (Call.Act act) c.duplicate.result c.duplicate.new.core (Some c.duplicate.new.spare)) (sym c.in-Duplicate.is)
    (lasts_by c.args.core.now c.args.spare.now c.args.who call c.duplicate.result c.duplicate.new.core c.duplicate.new.spare c.requires.has.lawful
    made.duplicated made.limit made.takes.leaves.stacked made.turn
    (other_order (state c.args.core.now) c.args.spare.now c.duplicate.new.spare (Act.Duplicate c.in-Duplicate.handle c.in-Duplicate.access) refl)
    made.takes.pace made.takes.looks made.takes.leaves.lawful)
