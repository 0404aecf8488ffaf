use Rattle.std.proofs.Common.{rules, ◌≡◌, false}
use Rattle.nt_hangs.specs.Steps.{is_last}
use Rattle.nt_hangs.proofs.Taking.{refused, TakenSoFar-then}
use Rattle.nt_hangs.proofs.taker.take_lines.Goals as goal

pub returns-in-Err-clause-takes : goal.returns-in-Err-clause-takes
returns-in-Err-clause-takes g c =
    let more : is_last c.args.last c.loop-rest.count ≡ false = search rules in
    refused _ _ c.args.input.now c.loop-rest.rest.now c.args.last c.loop-rest.count c.args.taker.now c.loop-rest.taker c.loop-rest.invariant _ c.first_line.result.0.now c.first_line.result.1.now
    c.first_line.ensures.lines more c.in-Err.ensures.refuses

pub loop-rest-preserved : goal.loop-rest-preserved
loop-rest-preserved g c =
    let more : is_last c.args.last c.loop-rest.count ≡ false = search rules in
    TakenSoFar-then _ _ c.args.input.now c.loop-rest.rest.now c.args.last c.loop-rest.count c.args.taker.now c.loop-rest.taker c.loop-rest.invariant c.first_line.result.0.now c.first_line.result.1.now
    c.take_line.new.self c.first_line.ensures.lines c.first_line.ensures.shorter more c.in-Ok.ensures.takes c.in-Ok.ensures.ready
