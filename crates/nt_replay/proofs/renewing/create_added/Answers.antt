use Rattle.nt_mail.specs.Entries.{handle_reply}
use Rattle.nt_replay.proofs.Making.{added_judged, added_apart, answered_ok, answered_err}
use Rattle.nt_replay.proofs.renewing.create_added.Goals as goal

pub returns-in-Ok : goal.returns-in-Ok
returns-in-Ok c =
    let both = added_judged c.lives_one_way.ensures c.args.core.now c.add_vacant.new.self c.create_again.new.self c.args.place c.args.who c.args.act.now c.args.object c.args.handle c.add_vacant.result c.create_again.result c.args.told c.add_vacant.ensures.added c.in-Ok.ensures.ok.1 c.create_again.ensures.created c.compare.result
    (answered_ok c.compare.result c.create_again.result c.answer_of.result (handle_reply c.args.told) c.answer_of.ensures c.compare.ensures.ok)
    (answered_err c.compare.result c.args.place c.create_again.result c.answer_of.result (handle_reply c.args.told) c.answer_of.ensures c.compare.ensures.err) in
    record { ok = both.0; err = both.1 }

pub returns-in-Err-clause-err : goal.returns-in-Err-clause-err
returns-in-Err-clause-err c =
    added_apart c.lives_one_way.ensures c.args.core.now c.add_vacant.new.self c.args.place c.args.who c.args.act.now c.args.object c.args.handle c.args.told c.add_vacant.result c.in-Err.cause c.add_vacant.ensures.added c.in-Err.ensures.err
