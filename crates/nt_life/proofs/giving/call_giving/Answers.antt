use Rattle.std.proofs.Common.{Some, refl, sym, inl, subst}
use Rattle.nt_calls.specs.declared.call.Call.{Call}
use Rattle.nt_machine.specs.Dispatcher.{state}
use Rattle.nt_life.specs.Lasting.{Lasts}
use Rattle.nt_life.proofs.Calls.{call_spare, no_act_closes}
use Rattle.nt_life.proofs.Limits.{refused_full}
use Rattle.nt_life.proofs.Choosing.{no_act_lasts, no_act_full}
use Rattle.nt_life.proofs.Whole.{lasts_by, own_pace}
use Rattle.nt_life.proofs.Stacking.{stacked_by}
use Rattle.nt_life.proofs.Telling.{tells_own}
use Rattle.nt_life.proofs.Turning.{no_act_turns, no_act_order}
use Rattle.nt_life.proofs.giving.call_giving.Goals as goal

pub returns-in-Act-clause-lasts : goal.returns-in-Act-clause-lasts
returns-in-Act-clause-lasts c =
    subst (λ (call : Call). Lasts c.args.core.now (Some c.args.spare.now) c.args.who call c.make_act.result c.make_act.new.core (Some c.make_act.new.spare)) (sym c.in-Act.is) c.make_act.ensures.lasts

pub returns-in_default : goal.returns-in_default
returns-in_default c =
    let old = state c.args.core.now in
    let new = state c.call.new.self in
    let call = c.args.call.now in
    let made = c.call.ensures in
    record {
      told = tells_own old c.args.who call call c.args.told.now c.call.result c.call.new.self.grants new c.requires.untold refl made.called;
      lasts =
          lasts_by c.args.core.now c.args.spare.now c.args.who call c.call.result c.call.new.self c.args.spare.now c.requires.has.lawful
          (no_act_lasts old c.args.spare.now c.args.who call c.call.result c.call.new.self.grants new c.in_default.not-Act made.called)
          (λ limit. absurd (no_act_full old call c.in_default.not-Act (refused_full old c.args.who call c.call.result c.call.new.self.grants new made.called limit)))
          (stacked_by call c.call.result c.args.spare.now.closed c.args.spare.now.closed (no_act_closes call c.in_default.not-Act) (inl refl))
          (no_act_turns old c.args.spare.now call c.in_default.not-Act)
          (no_act_order old c.args.spare.now c.args.spare.now call c.in_default.not-Act)
          (own_pace old c.args.who call call c.call.result c.call.new.self.grants new refl made.most made.few made.moves made.waits made.moment)
          (record { local = made.local; untested = made.untested })
          made.lawful;
      spare = call_spare old c.args.who call c.call.result c.call.new.self.grants new c.args.spare.now c.requires.has.lawful.steady.sound.handles.enough (no_act_closes call c.in_default.not-Act) made.moves.threads made.called c.requires.has.spare;
    }
