use Rattle.std.proofs.Common.{sym, ap, subst, ◌∙◌, ◌≡◌, Ok, ℕ}
use Rattle.nt_machine.specs.Dispatcher.{state}
use Rattle.nt_calls.specs.Steps.{Called as Makes}
use Rattle.nt_calls.specs.declared.call.Act.{Act}
use Rattle.nt_calls.specs.declared.call.Call.{Call}
use Rattle.nt_calls.specs.declared.call.Reply.{Reply}
use Rattle.nt_mail.specs.declared.entry.Entry.{Entry}
use Rattle.nt_mail.specs.declared.entry.Entry.TheVariants.{Called, Ticked, Granted, Renewed}
use Rattle.nt_mail.specs.Packed.{read_entry}
use Rattle.nt_replay.proofs.Making.{IsJudged, call_judged, tick_judged, grant_judged}
use Rattle.nt_replay.proofs.replaying.do_again.Goals as goal

pub returns-in-Called : goal.returns-in-Called
returns-in-Called c =
    let call = c.in-Called.call.now in
    let is : c.args.entry.now ≡ Called c.in-Called.who call c.in-Called.result = sym c.read.ensures ∙ ap read_entry c.in-Called.is in
    let makes = subst (λ (t : ℕ). Makes (state c.args.core.now) t call c.call.result c.call.new.self.grants (state c.call.new.self)) (c.from.ensures ∙ c.get.ensures) c.call.ensures.called in
    let judged = call_judged c.lives_one_way.ensures c.args.core.now c.call.new.self c.args.place c.in-Called.who call c.call.result c.in-Called.result makes c.compare_call.result c.compare_call.ensures.ok c.compare_call.ensures.err in
    let both = subst (λ (e : Entry). IsJudged c.args.core.now e c.args.place c.call.new.self c.compare_call.result) (sym is) judged in
    record { ok = both.0; err = both.1 }

pub returns-in-Handed : goal.returns-in-Handed
returns-in-Handed c =
    let call = Call.Act Act.NextApc in
    let answer = Ok (Reply.Apc c.in-Handed.apc) in
    let is : c.args.entry.now ≡ Called c.in-Handed.who call answer = sym c.read.ensures ∙ ap read_entry c.in-Handed.is in
    let makes = subst (λ (t : ℕ). Makes (state c.args.core.now) t call c.call-made.result c.call-made.new.self.grants (state c.call-made.new.self)) (c.from-in-Handed.ensures ∙ c.get-in-Handed.ensures) c.call-made.ensures.called in
    let judged = call_judged c.lives_one_way.ensures c.args.core.now c.call-made.new.self c.args.place c.in-Handed.who call c.call-made.result answer makes c.compare_call-in-Handed.result c.compare_call-in-Handed.ensures.ok c.compare_call-in-Handed.ensures.err in
    let both = subst (λ (e : Entry). IsJudged c.args.core.now e c.args.place c.call-made.new.self c.compare_call-in-Handed.result) (sym is) judged in
    record { ok = both.0; err = both.1 }

pub returns-in-Ticked : goal.returns-in-Ticked
returns-in-Ticked c =
    let is : c.args.entry.now ≡ Ticked c.in-Ticked.by c.in-Ticked.moment c.in-Ticked.result = sym c.read.ensures ∙ ap read_entry c.in-Ticked.is in
    let judged = tick_judged c.lives_one_way.ensures c.args.core.now c.tick.new.self c.args.place c.in-Ticked.by c.in-Ticked.moment c.tick.result c.in-Ticked.result c.tick.ensures.ticked c.compare.result c.compare.ensures.ok c.compare.ensures.err in
    let both = subst (λ (e : Entry). IsJudged c.args.core.now e c.args.place c.tick.new.self c.compare.result) (sym is) judged in
    record { ok = both.0; err = both.1 }

pub returns-in-Renewed : goal.returns-in-Renewed
returns-in-Renewed c =
    let is : c.args.entry.now ≡ Renewed c.in-Renewed.who c.in-Renewed.renewal.now c.in-Renewed.result = sym c.read.ensures ∙ ap read_entry c.in-Renewed.is in
    let both = subst (λ (e : Entry). IsJudged c.args.core.now e c.args.place c.renew_again.new.core c.renew_again.result) (sym is) (c.renew_again.ensures.ok, c.renew_again.ensures.err) in
    record { ok = both.0; err = both.1 }

pub returns-in-Granted : goal.returns-in-Granted
returns-in-Granted c =
    let is : c.args.entry.now ≡ Granted c.in-Granted.who c.in-Granted.status = sym c.read.ensures ∙ ap read_entry c.in-Granted.is in
    record { ok = tt; err = grant_judged c.args.core.now c.args.entry.now c.args.place c.in-Granted.who c.in-Granted.status is }
