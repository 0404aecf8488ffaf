use Rattle.std.proofs.Common.{ℕ, ◌<◌, ◌+◌, ◌-◌, length, arith, subst, ap, ◌∙◌, Option, Some}
use Rattle.std.specs.Prelude.{slice_get}
use Rattle.nt_machine.specs.Dispatcher.{Dispatcher, state}
use Rattle.nt_machine.proofs.Walks.{IsAt, at_first, at_next, at_end, at_member, at_countable, looked_visited}
use Rattle.nt_machine.proofs.machine.Machine.serve_on.Goals as goal
use Rattle.nt_machine.proofs.machine.Machine.serve_on.Goals.{In-Some}

-- the walk comes to this thread
here : (c : In-Some) → IsAt c.args.object c.args.self.now c.loop-at.self (Some c.in-Some.thread)
here c = subst (λ (at : Option ℕ). IsAt c.args.object c.args.self.now c.loop-at.self at) c.in-Some.is c.loop-at.invariant

pub loop-at-init : goal.loop-at-init
loop-at-init c =
    at_first c.args.object c.args.self.now c.first_on-at.result c.requires.sound
    (c.first_on-at.ensures.first ∙ ap (λ (d : Dispatcher). slice_get ((state d).queues c.args.object) 0) c.self.view_is)

pub visit-at-requires-clause-waits : goal.visit-at-requires-clause-waits
visit-at-requires-clause-waits c = at_member c.args.object c.args.self.now c.loop-at.self c.in-Some.thread (here (goal.at.visit-at-requires-clause-waits c).In-Some)

pub visit-at-requires-clause-countable : goal.visit-at-requires-clause-countable
visit-at-requires-clause-countable c =
    let more = at_countable c.args.object c.args.self.now c.loop-at.self c.in-Some.thread (here (goal.at.visit-at-requires-clause-countable c).In-Some) in
    omega (arith, more, c.requires.countable)

pub loop-at-preserved : goal.loop-at-preserved
loop-at-preserved c =
    at_next c.args.object c.args.self.now c.loop-at.self c.visit-at.new.self c.in-Some.thread c.visit-at.result
    (here (goal.at.loop-at-preserved c).In-Some)
    c.visit-at.ensures.visited.visited
    c.visit-at.ensures.visited.sound
    c.visit-at.ensures.next

pub loop-at-smaller : goal.loop-at-smaller
loop-at-smaller c =
    let more = at_countable c.args.object c.args.self.now c.loop-at.self c.in-Some.thread (here (goal.at.loop-at-smaller c).In-Some) in
    let looked = looked_visited c.loop-at.self c.visit-at.new.self c.in-Some.thread c.visit-at.ensures.visited.visited in
    let less : (c.args.self.now.table.looked + length ((state c.args.self.now).queues c.args.object)) - c.visit-at.new.self.table.looked < (c.args.self.now.table.looked + length ((state c.args.self.now).queues c.args.object)) - c.loop-at.self.table.looked = omega (arith, more, looked) in
    less

pub returns : goal.returns
returns c =
    let end = subst (λ (at : Option ℕ). IsAt c.args.object c.args.self.now c.loop-at.self at) c.in_default.is c.loop-at.invariant in
    record { visits = at_end c.args.object c.args.self.now c.loop-at.self end; sound = c.loop-at.invariant.sound }
