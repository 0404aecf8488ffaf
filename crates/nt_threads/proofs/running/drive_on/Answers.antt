use Rattle.std.proofs.Common.{◌∙◌}
use Rattle.nt_threads.specs.Doors.{accepted_calls, made_through}
use Rattle.nt_threads.proofs.Planned.{carried_out-same}
use Rattle.nt_threads.proofs.running.drive_on.Goals as goal

pub returns-clause-whole : goal.returns-clause-whole
returns-clause-whole g c whole =
    let done = c.drive-doors.ensures.whole whole in (
      done.0,
      c.holds_of.ensures.made
          ∙ (done.1
          ∙ carried_out-same (λ d. made_through d.hold) (λ p. accepted_calls p.made) done.0 c.args.rounds c.doors_of-doors.result.items c.args.passes.items c.doors_of-doors.ensures.made),
    )
