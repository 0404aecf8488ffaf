use Rattle.std.proofs.Common.{◌<◌, ◌≤◌, List, length, sym, ap, subst, ◌∙◌}
use Rattle.std.specs.List.{slice_get}
use Rattle.std.proofs.lemmas.Bool.{false≢true}
use Rattle.nt_calls.specs.declared.call.Grant.{Grant}
use Rattle.nt_mail.specs.Packed.{read_entry}
use Rattle.nt_replay.proofs.Comparing.{read_grant, grant_compared, grant_differs, other_grant, done_goes, undone_stops}
use Rattle.nt_replay.proofs.replaying.replay_entry.Goals as goal

pub returns-then-is_next-clause-ok : goal.returns-then-is_next-clause-ok
returns-then-is_next-clause-ok c = λ base r.
    let next = ap (λ (l : List Grant). slice_get l c.args.compared) (sym c.grants.ensures) ∙ c.is_next.ensures.0 c.if-is_next.true in
    grant_compared base c.args.entries.now c.args.place c.index-entries-place.result c.args.compared c.args.core.now (record { thread = c.in-Granted.who; status = c.in-Granted.status }) c.requires c.index-entries-place.is (sym c.read.ensures ∙ ap read_entry c.in-Granted.is) next r

pub returns-else-is_next-clause-err : goal.returns-else-is_next-clause-err
returns-else-is_next-clause-err c = λ base r.
    other_grant c.lives_one_way.ensures base c.args.entries.now c.args.place c.index-entries-place.result c.args.compared c.args.core.now (record { thread = c.in-Granted.who; status = c.in-Granted.status }) c.requires c.index-entries-place.is (sym c.read.ensures ∙ ap read_entry c.in-Granted.is)
    (λ next. false≢true (sym c.if-is_next.false ∙ c.is_next.ensures.1 (ap (λ (l : List Grant). slice_get l c.args.compared) c.grants.ensures ∙ next))) r

pub returns-then-compared-grants : goal.returns-then-compared-grants
returns-then-compared-grants c = record {
  ok = tt;
  err = λ base r.
      let some : c.args.compared < length c.args.core.now.grants = subst (λ (l : List Grant). c.args.compared < length l) c.grants-2.ensures c.if-compared-grants.true in
      grant_differs c.lives_one_way.ensures base c.args.entries.now c.args.place c.index-entries-place.result c.args.compared c.args.core.now c.requires c.index-entries-place.is some (λ g next same. c.in_default.not-Granted g.thread g.status (read_grant c.read.result g.thread g.status (c.read.ensures ∙ same))) r;
}

pub returns-clause-ok : goal.returns-clause-ok
returns-clause-ok c = done_goes c.args.entries.now c.args.place c.index-entries-place-2.result c.args.compared c.args.core.now c.do_again.new.core c.requires c.index-entries-place-2.is
    (subst (λ (l : List Grant). length l ≤ c.args.compared) c.grants-2.ensures c.if-compared-grants.false) c.do_again.result c.do_again.ensures.ok

pub returns-clause-err : goal.returns-clause-err
returns-clause-err c = undone_stops c.lives_one_way.ensures c.args.entries.now c.args.place c.index-entries-place-2.result c.args.compared c.args.core.now c.requires c.index-entries-place-2.is
    (subst (λ (l : List Grant). length l ≤ c.args.compared) c.grants-2.ensures c.if-compared-grants.false) c.do_again.result c.do_again.ensures.err
