use Rattle.std.proofs.Common.{List, length, ◌<◌, subst}
use Rattle.nt_calls.specs.declared.call.Grant.{Grant}
use Rattle.nt_machine.specs.Dispatcher.{state}
use Rattle.nt_replay.proofs.Comparing.{grants_lacking_at}
use Rattle.nt_replay.proofs.replaying.replay_all.Goals as goal

pub returns-in-Err-clause-unreplayed : goal.returns-in-Err-clause-unreplayed
returns-in-Err-clause-unreplayed c = c.in-Err.ensures.err (state c.args.core.now) c.loop-place.invariant

pub loop-place-preserved : goal.loop-place-preserved
loop-place-preserved c = c.in-Ok.ensures.ok (state c.args.core.now) c.loop-place.invariant

pub returns-then-compared-grants-clause-unreplayed : goal.returns-then-compared-grants-clause-unreplayed
returns-then-compared-grants-clause-unreplayed c =
    grants_lacking_at (state c.args.core.now) c.args.entries.now c.loop-place.place c.loop-place.compared c.loop-place.core c.lives_one_way.ensures c.loop-place.invariant c.loop-place-test.false
    (subst (λ (l : List Grant). c.loop-place.compared < length l) c.grants.ensures c.if-compared-grants.true)
