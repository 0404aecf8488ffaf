use Rattle.std.proofs.Common.{ℕ, sym, subst}
use Rattle.std.specs.declared.result.Result.{Result}
use Rattle.nt_status.specs.declared.refusal.Refusal.{Refusal}
use Rattle.nt_mail.specs.declared.entry.Entry.TheVariants.{Renewed}
use Rattle.nt_life.specs.declared.renewal.Renewal.TheVariants.{Unadded}
use Rattle.nt_replay.proofs.Making.{IsJudged, unadded_judged}
use Rattle.nt_replay.proofs.renewing.add_in_vain.Goals as goal

pub returns-in-Err-clause-ok : goal.returns-in-Err-clause-ok
returns-in-Err-clause-ok c =
    let judged = unadded_judged c.lives_one_way.ensures c.args.core.now c.add_vacant.new.self c.args.place c.args.who c.args.act.now c.add_vacant.result c.in-Err.cause c.add_vacant.ensures.added c.compare_number.result c.compare_number.ensures.ok c.compare_number.ensures.err in
    (subst (λ (told : Result ℕ Refusal). IsJudged c.args.core.now (Renewed c.args.who (Unadded c.args.act.now) told) c.args.place c.add_vacant.new.self c.compare_number.result) (sym c.in-Err.is) judged).0

pub returns-in-Err-clause-err : goal.returns-in-Err-clause-err
returns-in-Err-clause-err c =
    let judged = unadded_judged c.lives_one_way.ensures c.args.core.now c.add_vacant.new.self c.args.place c.args.who c.args.act.now c.add_vacant.result c.in-Err.cause c.add_vacant.ensures.added c.compare_number.result c.compare_number.ensures.ok c.compare_number.ensures.err in
    (subst (λ (told : Result ℕ Refusal). IsJudged c.args.core.now (Renewed c.args.who (Unadded c.args.act.now) told) c.args.place c.add_vacant.new.self c.compare_number.result) (sym c.in-Err.is) judged).1
