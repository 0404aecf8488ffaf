use Rattle.std.proofs.Common.{ℕ, false, refl, subst}
use Rattle.std.specs.Prelude.{Ok, Err}
use Rattle.nt_calls.specs.declared.call.Act.{Act}
use Rattle.nt_calls.specs.declared.call.Call.{Call}
use Rattle.nt_calls.specs.declared.call.Reply.{Reply}
use Rattle.nt_calls.specs.Naming.{act_named}
use Rattle.nt_calls.specs.Rights.{act_denied}
use Rattle.nt_machine.specs.Accepts.{IsCallMade}
use Rattle.nt_objects.specs.Object.{unlocked}
use Rattle.nt_calls.specs.State.{object_at}
use Rattle.nt_machine.proofs.Replacing.{replaced_accepted}
use Rattle.nt_machine.proofs.Exchanging.{may_unlock}
use Rattle.nt_machine.proofs.Making.{refused_with, accepted_made, unlock_free}
use Rattle.nt_calls.specs.Refusals.{IsJudged, unlock_causes}
use Rattle.nt_machine.specs.Dispatcher.{Dispatcher}
use Rattle.nt_machine.proofs.machine.Machine.release_mutex.Goals as goal

pub returns-in_err-mutex : goal.returns-in_err-mutex
returns-in_err-mutex c =
    let old = c.args.self.now in
    let act = Act.ReleaseMutex c.args.handle in
    refused_with old c.args.thread (act_denied old.handles act) (Call.Act (act_named old.handles act)) c.in_err-mutex.field-0.0 c.from_residual.result c.from_residual.ensures.1 c.requires.fresh c.requires.free (subst (λ (x : Dispatcher). IsJudged x.handles c.args.handle 0 (λ _ h. unlock_causes x.objects c.args.thread h) (Err c.in_err-mutex.field-0.0)) c.self.view_is c.in_err-mutex.ensures)

pub give_back-requires-clause-owner : goal.give_back-requires-clause-owner
give_back-requires-clause-owner c = unlock_free c.args.self.now.objects c.args.thread c.in_ok-mutex.mutex (subst (λ (x : Dispatcher). IsJudged x.handles c.args.handle 0 (λ _ h. unlock_causes x.objects c.args.thread h) (Ok c.in_ok-mutex.mutex)) c.self.view_is c.in_ok-mutex.ensures).1

pub returns : goal.returns
returns c =
    let old = c.args.self.now in
    let new = c.give_back.new.self in
    let mutex = c.in_ok-mutex.mutex in
    let judged = (subst (λ (x : Dispatcher). IsJudged x.handles c.args.handle 0 (λ _ h. unlock_causes x.objects c.args.thread h) (Ok c.in_ok-mutex.mutex)) c.self.view_is c.in_ok-mutex.ensures) in
    let owner = unlock_free old.objects c.args.thread mutex judged.1 in
    let accepted = replaced_accepted old new c.args.thread mutex (unlocked (object_at old.objects mutex)) (Call.Act (Act.ReleaseMutex mutex)) Reply.Done c.requires.fresh (may_unlock old mutex c.args.thread c.requires.fresh owner) refl refl refl c.give_back.ensures in
    subst (λ (h : ℕ). IsCallMade old new c.args.thread false (Call.Act (Act.ReleaseMutex h)) (Ok Reply.Done)) judged.0
    (accepted_made old new c.args.thread false (Call.Act (Act.ReleaseMutex mutex)) Reply.Done c.requires.free judged.1 accepted)
