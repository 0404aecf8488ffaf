use Rattle.nt_life.proofs.Whole.{own_pace}
use Rattle.std.proofs.Common.{rules, ℕ, ◌++◌, ◌∷◌, [], sym, ap, ◌∙◌, subst, inl, inr, refl}
use Rattle.nt_calls.specs.declared.call.Call.{Call}
use Rattle.std.specs.declared.result.Result.{Result}
use Rattle.std.specs.declared.result.Result.TheVariants.{Ok}
use Rattle.nt_status.specs.declared.refusal.Refusal.{Refusal}
use Rattle.nt_calls.specs.declared.call.Reply.{Reply}
use Rattle.nt_calls.specs.Steps.{Called}
use Rattle.nt_machine.specs.Dispatcher.{state}
use Rattle.nt_laws.specs.Laws.{call_closes}
use Rattle.nt_life.proofs.Times.{times_last}
use Rattle.nt_life.proofs.Calls.{call_spare, none_closed}
use Rattle.nt_life.proofs.Limits.{refused_full, duplicated_limit}
use Rattle.nt_life.proofs.Choosing.{duplicates_own}
use Rattle.nt_life.proofs.Renewed.{duplicated_spare}
use Rattle.nt_life.proofs.Looking.{duplicate_looks, duplicated_nobody, own_looks}
use Rattle.nt_life.proofs.Pacing.{duplicated_pace}
use Rattle.nt_life.specs.Lasting.{last_closed}
use Rattle.nt_calls.specs.declared.call.Act.{Act}
use Rattle.nt_core.specs.Renewals.{DuplicatesAgain}
use Rattle.nt_life.proofs.Telling.{tells_own, tells_shared}
use Rattle.nt_life.proofs.giving.duplicate.Goals as goal

pub returns-in_default-clause-duplicated : goal.returns-in_default-clause-duplicated
returns-in_default-clause-duplicated c =
    duplicates_own (state c.args.core.now) c.args.spare.now c.args.who c.args.source c.args.access c.call.result c.call.new.self.grants (state c.call.new.self) c.in_default.ensures.none
    (subst (λ (call : Call). Called (state c.args.core.now) c.args.who call c.call.result c.call.new.self.grants (state c.call.new.self)) c.requires.act c.call.ensures.called)

pub returns-in_default-clause-limit : goal.returns-in_default-clause-limit
returns-in_default-clause-limit c limit = (
  (refused_full (state c.args.core.now) c.args.who c.args.call.now c.call.result c.call.new.self.grants (state c.call.new.self) c.call.ensures.called limit).handles,
  none_closed (state c.args.core.now) c.args.spare.now c.requires.has.spare c.in_default.ensures.none,
)

pub returns-in_default-clause-told : goal.returns-in_default-clause-told
returns-in_default-clause-told c =
    tells_own (state c.args.core.now) c.args.who (Call.Act (Act.Duplicate c.args.source c.args.access)) c.args.call.now c.args.told.now c.call.result c.call.new.self.grants (state c.call.new.self) c.requires.untold c.requires.act c.call.ensures.called

pub returns-in_err-reply-clause-told : goal.returns-in_err-reply-clause-told
returns-in_err-reply-clause-told c =
    let shared : DuplicatesAgain (state c.args.core.now) c.args.who c.args.source c.args.access c.in-Some.handle c.from_residual.result c.duplicate_again.new.self.grants (state c.duplicate_again.new.self) = search rules in
    tells_shared (state c.args.core.now) c.args.who c.args.source c.args.access c.in-Some.handle c.from_residual.result c.duplicate_again.new.self.grants (state c.duplicate_again.new.self) shared

pub returns-in_err-reply-clause-limit : goal.returns-in_err-reply-clause-limit
returns-in_err-reply-clause-limit c limit =
    let shared : DuplicatesAgain (state c.args.core.now) c.args.who c.args.source c.args.access c.in-Some.handle c.from_residual.result c.duplicate_again.new.self.grants (state c.duplicate_again.new.self) = search rules in
    absurd (duplicated_limit (state c.args.core.now) c.args.who c.args.source c.args.access c.in-Some.handle c.duplicate_again.new.self.grants (state c.duplicate_again.new.self)
    (subst (λ (r : Result Reply Refusal). DuplicatesAgain (state c.args.core.now) c.args.who c.args.source c.args.access c.in-Some.handle r c.duplicate_again.new.self.grants (state c.duplicate_again.new.self)) limit shared))

pub returns-in_default-clause-takes : goal.returns-in_default-clause-takes
returns-in_default-clause-takes c = record {
  pace = own_pace (state c.args.core.now) c.args.who c.args.call.now (Call.Act (Act.Duplicate c.args.source c.args.access)) c.call.result c.call.new.self.grants (state c.call.new.self) c.requires.act c.call.ensures.most c.call.ensures.few c.call.ensures.moves c.call.ensures.waits c.call.ensures.moment;
  looks = own_looks c.args.core.now c.call.new.self c.args.who c.args.call.now (Call.Act (Act.Duplicate c.args.source c.args.access)) c.call.result c.requires.act c.call.ensures.local c.call.ensures.untested;
  leaves = record {
    lawful = c.call.ensures.lawful;
    spare = call_spare (state c.args.core.now) c.args.who c.args.call.now c.call.result c.call.new.self.grants (state c.call.new.self) c.args.spare.now c.requires.has.lawful.steady.sound.handles.enough
        (λ h. ap (λ (call : Call). call_closes h call) c.requires.act) c.call.ensures.moves.threads c.call.ensures.called c.requires.has.spare;
    stacked = inl refl;
  };
}

pub returns-in_err-reply-clause-takes : goal.returns-in_err-reply-clause-takes
returns-in_err-reply-clause-takes c =
    let shared : DuplicatesAgain (state c.args.core.now) c.args.who c.args.source c.args.access c.in-Some.handle c.from_residual.result c.duplicate_again.new.self.grants (state c.duplicate_again.new.self) = search rules in
    record {
      pace = duplicated_pace (state c.args.core.now) c.args.who c.args.source c.args.access c.in-Some.handle c.from_residual.result c.duplicate_again.new.self.grants (state c.duplicate_again.new.self) shared;
      looks = duplicate_looks c.args.core.now c.duplicate_again.new.self c.args.who c.args.source c.args.access c.from_residual.result c.duplicate_again.ensures.untested
          (duplicated_nobody (state c.args.core.now) c.args.who c.args.source c.args.access c.in-Some.handle c.duplicate_again.result c.duplicate_again.new.self.grants (state c.duplicate_again.new.self) c.duplicate_again.ensures.duplicated);
      leaves = record { lawful = c.duplicate_again.ensures.lawful; spare = search rules; stacked = inl refl };
    }

pub returns-clause-takes : goal.returns-clause-takes
returns-clause-takes c =
    let spare = c.args.spare.now in
    let last = c.in-Some.ensures.some in
    record {
      pace = duplicated_pace (state c.args.core.now) c.args.who c.args.source c.args.access c.in-Some.handle (Ok c.in_ok-reply.reply) c.duplicate_again.new.self.grants (state c.duplicate_again.new.self) c.in_ok-reply.ensures.duplicated;
      looks = duplicate_looks c.args.core.now c.duplicate_again.new.self c.args.who c.args.source c.args.access (Ok c.in_ok-reply.reply) c.duplicate_again.ensures.untested
          (duplicated_nobody (state c.args.core.now) c.args.who c.args.source c.args.access c.in-Some.handle c.duplicate_again.result c.duplicate_again.new.self.grants (state c.duplicate_again.new.self) c.duplicate_again.ensures.duplicated);
      leaves = record {
        lawful = c.duplicate_again.ensures.lawful;
        spare = duplicated_spare (state c.args.core.now) (state c.duplicate_again.new.self) c.args.who c.args.source c.args.access c.in-Some.handle c.in_ok-reply.reply c.duplicate_again.new.self.grants spare c.take_handle.new.self c.requires.has.spare c.in_ok-reply.ensures.duplicated
            (λ n. times_last n c.in-Some.handle spare.closed c.take_handle.new.self.closed (c.take_handle.ensures.closed ∙ ap (λ (h : ℕ). c.take_handle.new.self.closed ++ h ∷ []) (sym last.1)))
            c.take_handle.ensures.unnamed;
        stacked = inr (last_closed c.args.spare.now, c.take_handle.ensures.closed);
      };
    }
