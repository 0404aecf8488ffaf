use Rattle.std.proofs.Common.{[], ◌∷◌, ap}
use Rattle.nt_calls.specs.declared.call.Call.{Call}
use Rattle.nt_calls.specs.Runs.{Calls, Ticks}
use Rattle.nt_script.specs.Progress.{progress}
use Rattle.nt_grammar.specs.Scope.{Bound}
use Rattle.nt_script.proofs.Lines.{perform_line, create_line, tick_line, blank_line, counted_on}
use Rattle.nt_script.proofs.session.Session.carry_out.Goals as goal

pub returns-in-Blank : goal.returns-in-Blank
returns-in-Blank c =
    let now = progress c.make_room.new.self in
    let same = c.in_ok-make_room.ensures.same in (
      ([], blank_line c.args.number c.args.line.now c.make_room.new.out.items (progress c.args.self.now) now same c.in_ok-make_room.ensures.empty (rw c.in-Blank.is at c.in_ok-statement.ensures.reads)),
      counted_on c.args.number (progress c.args.self.now) now same c.requires.counted,
    )

pub returns-in-Perform : goal.returns-in-Perform
returns-in-Perform c =
    let p = c.perform-answer in
    let grants = p.new.self.core.grants in (
      (
        Calls c.in-Perform.who c.in-Perform.call p.result grants ∷ [],
        perform_line c.args.number c.in-Perform.who c.args.line.now c.in-Perform.call p.result grants p.new.out.items (progress c.args.self.now) (progress c.make_room.new.self) (progress p.new.self)
            c.in_ok-make_room.ensures.same p.ensures.turn.step p.ensures.turn.output p.ensures.turn.tally (rw c.in-Perform.is at c.in_ok-statement.ensures.reads) (ap (λ (b : Bound). b.scope) p.ensures.bindings),
      ),
      p.ensures.turn.counted,
    )

pub returns-in-Tick : goal.returns-in-Tick
returns-in-Tick c =
    let p = c.tick-answer in
    let grants = p.new.self.core.grants in (
      (
        Ticks 0 c.in-Tick.moment p.result grants ∷ [],
        tick_line c.args.number c.in-Tick.moment c.args.line.now p.result grants p.new.out.items (progress c.args.self.now) (progress c.make_room.new.self) (progress p.new.self)
            c.in_ok-make_room.ensures.same p.ensures.turn.step p.ensures.turn.output p.ensures.turn.tally (rw c.in-Tick.is at c.in_ok-statement.ensures.reads) (ap (λ (b : Bound). b.scope) p.ensures.bindings),
      ),
      p.ensures.turn.counted,
    )

pub returns-in-Create : goal.returns-in-Create
returns-in-Create c =
    let p = c.create-answer in
    let grants = p.new.self.core.grants in (
      (
        Calls c.in-Create.who (Call.Act c.in-Create.act) p.result grants ∷ [],
        create_line c.args.number c.in-Create.who c.args.line.now c.in-Create.act p.result grants p.new.out.items (progress c.args.self.now) (progress c.make_room.new.self) (progress p.new.self)
            c.in_ok-make_room.ensures.same p.ensures.turn.step p.ensures.turn.output p.ensures.turn.tally c.in-Create.name (rw c.in-Create.is at c.in_ok-statement.ensures.reads) p.ensures.scope,
      ),
      p.ensures.turn.counted,
    )
