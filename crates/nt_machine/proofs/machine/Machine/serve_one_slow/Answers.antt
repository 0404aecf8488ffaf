use Rattle.std.proofs.Common.{ℕ, ◌<◌, ◌+◌, ◌-◌, length, arith, subst, sym, ap, ◌∙◌, Option, Some, ◌≡◌, false, List}
use Rattle.nt_machine.specs.Dispatcher.{Dispatcher, state}
use Rattle.nt_calls.specs.Serving.{is_ready}
use Rattle.nt_objects.specs.declared.object.Object.{Object}
use Rattle.nt_machine.proofs.Stopping.{by_visited, by_none, at_stop}
use Rattle.nt_machine.proofs.Walks.{IsAt, at_first, at_next, at_end, at_member, at_countable, looked_visited}
use Rattle.nt_machine.proofs.machine.Machine.serve_one_slow.Goals as goal
use Rattle.nt_machine.proofs.machine.Machine.serve_one_slow.Goals.{In-Some}

-- the walk comes to this thread
here : (c : In-Some) → IsAt c.args.object c.args.self.now c.loop-next.self (Some c.in-Some.thread)
here c = subst (λ (at : Option ℕ). IsAt c.args.object c.args.self.now c.loop-next.self at) c.in-Some.is c.loop-next.invariant.0

pub loop-next-init : goal.loop-next-init
loop-next-init c = (
  at_first c.args.object c.args.self.now (Some c.args.first) c.requires.sound (sym c.requires.first),
  c.requires.needed,
)

pub visit-next-requires-clause-waits : goal.visit-next-requires-clause-waits
visit-next-requires-clause-waits c = at_member c.args.object c.args.self.now c.loop-next.self c.in-Some.thread (here (goal.at.visit-next-requires-clause-waits c).In-Some)

pub visit-next-requires-clause-countable : goal.visit-next-requires-clause-countable
visit-next-requires-clause-countable c =
    let more = at_countable c.args.object c.args.self.now c.loop-next.self c.in-Some.thread (here (goal.at.visit-next-requires-clause-countable c).In-Some) in
    omega (arith, more, c.requires.countable)

pub loop-next-preserved : goal.loop-next-preserved
loop-next-preserved c = (
  at_next c.args.object c.args.self.now c.loop-next.self c.visit-next.new.self c.in-Some.thread c.visit-next.result
      (here (goal.at.loop-next-preserved c).In-Some)
      c.visit-next.ensures.visited.visited
      c.visit-next.ensures.visited.sound
      c.visit-next.ensures.next,
  by_visited c.args.object c.loop-next.self c.visit-next.new.self c.in-Some.thread c.visit-next.ensures.visited.visited c.loop-next.invariant.1,
)

pub loop-next-preserved-else-not-is_ready : goal.loop-next-preserved-else-not-is_ready
loop-next-preserved-else-not-is_ready c = (
  subst (λ (at : Option ℕ). IsAt c.args.object c.args.self.now c.visit-next.new.self at) c.in-Some-next.is (at_next c.args.object c.args.self.now c.loop-next.self c.visit-next.new.self c.in-Some.thread c.visit-next.result
      (here (goal.at.loop-next-preserved-else-not-is_ready c).In-Some)
      c.visit-next.ensures.visited.visited
      c.visit-next.ensures.visited.sound
      c.visit-next.ensures.next),
  by_visited c.args.object c.loop-next.self c.visit-next.new.self c.in-Some.thread c.visit-next.ensures.visited.visited c.loop-next.invariant.1,
)

pub loop-next-smaller : goal.loop-next-smaller
loop-next-smaller c =
    let more = at_countable c.args.object c.args.self.now c.loop-next.self c.in-Some.thread (here (goal.at.loop-next-smaller c).In-Some) in
    let looked = looked_visited c.loop-next.self c.visit-next.new.self c.in-Some.thread c.visit-next.ensures.visited.visited in
    let less : (c.args.self.now.table.looked + length ((state c.args.self.now).queues c.args.object)) - c.visit-next.new.self.table.looked < (c.args.self.now.table.looked + length ((state c.args.self.now).queues c.args.object)) - c.loop-next.self.table.looked = omega (arith, more, looked) in
    less

pub returns : goal.returns
returns c =
    let end = subst (λ (at : Option ℕ). IsAt c.args.object c.args.self.now c.loop-next.self at) c.in_default.is c.loop-next.invariant.0 in
    record { visits = at_end c.args.object c.args.self.now c.loop-next.self end; sound = end.sound }

-- nothing that is left fits
pub returns-then-not-is_ready : goal.returns-then-not-is_ready
returns-then-not-is_ready c =
    let unready : is_ready c.visit-next.new.self.objects c.in-Some-next.after c.args.object ≡ false =
    ap (λ (d : Dispatcher). is_ready d.objects c.in-Some-next.after c.args.object) (sym c.self.view_is)
    ∙ (ap (λ (os : List Object). is_ready os c.in-Some-next.after c.args.object) (sym c.as_slice.ensures) ∙ (sym c.is_ready.ensures ∙ c.if-not-is_ready.true)) in
    let at = at_next c.args.object c.args.self.now c.loop-next.self c.visit-next.new.self c.in-Some.thread c.visit-next.result
    (here (goal.at.returns-then-not-is_ready c).In-Some)
    c.visit-next.ensures.visited.visited
    c.visit-next.ensures.visited.sound
    c.visit-next.ensures.next in
    let by = by_visited c.args.object c.loop-next.self c.visit-next.new.self c.in-Some.thread c.visit-next.ensures.visited.visited c.loop-next.invariant.1 in
    record {
      visits = at_stop c.args.object c.args.self.now c.visit-next.new.self c.visit-next.result at (by_none c.args.object (state c.visit-next.new.self) c.in-Some-next.after by unready);
      sound = c.visit-next.ensures.visited.sound;
    }
