use Rattle.std.proofs.Common.{sym, subst, ◌∙◌, ℕ}
use Rattle.nt_machine.specs.Dispatcher.{state}
use Rattle.nt_core.specs.Renewals.{CreatesAgain, DuplicatesAgain, BeginsAgain}
use Rattle.nt_life.specs.declared.renewal.Renewal.{Renewal}
use Rattle.nt_life.specs.declared.renewal.Renewal.TheVariants.{CreateAdded, Unadded}
use Rattle.nt_mail.specs.Entries.{handle_reply}
use Rattle.nt_mail.specs.declared.entry.Entry.TheVariants.{Renewed}
use Rattle.nt_replay.proofs.Making.{IsJudged, create_judged, duplicate_judged, begin_judged, answered_ok, answered_err}
use Rattle.nt_replay.proofs.renewing.renew_again.Goals as goal

pub returns-in-Create : goal.returns-in-Create
returns-in-Create c =
    let makes = subst (λ (t : ℕ). CreatesAgain (state c.args.core.now) t c.in-Create.act c.in-Create.object c.in-Create.handle c.create_again-answer.result c.create_again-answer.new.self.grants (state c.create_again-answer.new.self)) (c.from-caller.ensures ∙ c.get.ensures) c.create_again-answer.ensures.created in
    let judged = create_judged c.lives_one_way.ensures c.args.core.now c.create_again-answer.new.self c.args.place c.args.who c.in-Create.act c.in-Create.object c.in-Create.handle c.create_again-answer.result c.args.told makes c.compare.result
    (answered_ok c.compare.result c.create_again-answer.result c.answer_of.result (handle_reply c.args.told) c.answer_of.ensures c.compare.ensures.ok)
    (answered_err c.compare.result c.args.place c.create_again-answer.result c.answer_of.result (handle_reply c.args.told) c.answer_of.ensures c.compare.ensures.err) in
    let both = subst (λ (r : Renewal). IsJudged c.args.core.now (Renewed c.args.who r c.args.told) c.args.place c.create_again-answer.new.self c.compare.result) (sym c.in-Create.is) judged in
    record { ok = both.0; err = both.1 }

pub returns-in-CreateAdded : goal.returns-in-CreateAdded
returns-in-CreateAdded c =
    let judged : IsJudged c.args.core.now (Renewed c.args.who (CreateAdded c.in-CreateAdded.act c.in-CreateAdded.object c.in-CreateAdded.handle) c.args.told) c.args.place c.create_added.new.core c.create_added.result =
    subst (λ (t : ℕ). IsJudged c.args.core.now (Renewed t (CreateAdded c.in-CreateAdded.act c.in-CreateAdded.object c.in-CreateAdded.handle) c.args.told) c.args.place c.create_added.new.core c.create_added.result) (c.from-caller.ensures ∙ c.get.ensures) (c.create_added.ensures.ok, c.create_added.ensures.err) in
    let both = subst (λ (r : Renewal). IsJudged c.args.core.now (Renewed c.args.who r c.args.told) c.args.place c.create_added.new.core c.create_added.result) (sym c.in-CreateAdded.is) judged in
    record { ok = both.0; err = both.1 }

pub returns-in-Unadded : goal.returns-in-Unadded
returns-in-Unadded c =
    let judged : IsJudged c.args.core.now (Renewed c.args.who (Unadded c.in-Unadded.act) c.args.told) c.args.place c.add_in_vain.new.core c.add_in_vain.result =
    subst (λ (t : ℕ). IsJudged c.args.core.now (Renewed t (Unadded c.in-Unadded.act) c.args.told) c.args.place c.add_in_vain.new.core c.add_in_vain.result) (c.from-caller.ensures ∙ c.get.ensures) (c.add_in_vain.ensures.ok, c.add_in_vain.ensures.err) in
    let both = subst (λ (r : Renewal). IsJudged c.args.core.now (Renewed c.args.who r c.args.told) c.args.place c.add_in_vain.new.core c.add_in_vain.result) (sym c.in-Unadded.is) judged in
    record { ok = both.0; err = both.1 }

pub returns-in-Duplicate : goal.returns-in-Duplicate
returns-in-Duplicate c =
    let makes = subst (λ (t : ℕ). DuplicatesAgain (state c.args.core.now) t c.in-Duplicate.source c.in-Duplicate.access c.in-Duplicate.handle c.duplicate_again-answer.result c.duplicate_again-answer.new.self.grants (state c.duplicate_again-answer.new.self)) (c.from-caller.ensures ∙ c.get.ensures) c.duplicate_again-answer.ensures.duplicated in
    let judged = duplicate_judged c.lives_one_way.ensures c.args.core.now c.duplicate_again-answer.new.self c.args.place c.args.who c.in-Duplicate.source c.in-Duplicate.access c.in-Duplicate.handle c.duplicate_again-answer.result c.args.told makes c.compare-in-Duplicate.result
    (answered_ok c.compare-in-Duplicate.result c.duplicate_again-answer.result c.answer_of-in-Duplicate.result (handle_reply c.args.told) c.answer_of-in-Duplicate.ensures c.compare-in-Duplicate.ensures.ok)
    (answered_err c.compare-in-Duplicate.result c.args.place c.duplicate_again-answer.result c.answer_of-in-Duplicate.result (handle_reply c.args.told) c.answer_of-in-Duplicate.ensures c.compare-in-Duplicate.ensures.err) in
    let both = subst (λ (r : Renewal). IsJudged c.args.core.now (Renewed c.args.who r c.args.told) c.args.place c.duplicate_again-answer.new.self c.compare-in-Duplicate.result) (sym c.in-Duplicate.is) judged in
    record { ok = both.0; err = both.1 }

pub returns-in-Begin : goal.returns-in-Begin
returns-in-Begin c =
    let makes = subst (λ (t : ℕ). BeginsAgain (state c.args.core.now) t c.in-Begin.handle c.begin_again-answer.result c.begin_again-answer.new.self.grants (state c.begin_again-answer.new.self)) (c.from-caller.ensures ∙ c.get.ensures) c.begin_again-answer.ensures.begun in
    let judged = begin_judged c.lives_one_way.ensures c.args.core.now c.begin_again-answer.new.self c.args.place c.args.who c.in-Begin.handle c.begin_again-answer.result c.args.told makes c.compare-in-Begin.result
    (answered_ok c.compare-in-Begin.result c.begin_again-answer.result c.answer_of-in-Begin.result (handle_reply c.args.told) c.answer_of-in-Begin.ensures c.compare-in-Begin.ensures.ok)
    (answered_err c.compare-in-Begin.result c.args.place c.begin_again-answer.result c.answer_of-in-Begin.result (handle_reply c.args.told) c.answer_of-in-Begin.ensures c.compare-in-Begin.ensures.err) in
    let both = subst (λ (r : Renewal). IsJudged c.args.core.now (Renewed c.args.who r c.args.told) c.args.place c.begin_again-answer.new.self c.compare-in-Begin.result) (sym c.in-Begin.is) judged in
    record { ok = both.0; err = both.1 }
