use Rattle.std.proofs.Common.{◌≡◌, false, None, length, sym, ap, ◌∙◌, arith}
use Rattle.nt_sleepers.proofs.Counts.{woken_length, set_if_length}
use Rattle.nt_sleepers.proofs.keeping.settle_each.Goals as goal

pub call_one-requires-clause-count : goal.call_one-requires-clause-count
call_one-requires-clause-count c =
    ap length c.unmark_all.ensures ∙ woken_length false c.grants-2.result.now c.args.watchers.now ∙ c.requires.count
    ∙ sym (ap length c.begin.ensures ∙ set_if_length c.args.began c.args.who _ c.clear_all.new.alarms ∙ ap length c.clear_all.ensures ∙ woken_length None c.grants.result.now c.args.alarms.now)

pub call_one-requires-clause-few : goal.call_one-requires-clause-few
call_one-requires-clause-few c =
    let as_many : length c.begin.new.alarms ≡ length c.args.alarms.now = ap length c.begin.ensures ∙ set_if_length c.args.began c.args.who _ c.clear_all.new.alarms ∙ ap length c.clear_all.ensures ∙ woken_length None c.grants.result.now c.args.alarms.now in
    let few = c.requires.few in
    omega (arith, as_many, few)
