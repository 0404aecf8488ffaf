use Rattle.std.proofs.Common.{◌≡◌, ◌∙◌, List, ap, false, refl, rules}
use Rattle.std.proofs.Math.ListN.{replicate}
use Rattle.nt_park_traces.specs.declared.park.ParkSeat.{ParkSeat}
use Rattle.nt_park_traces.specs.declared.park_steps.TheConstants.{OUTSIDE}
use Rattle.nt_park_traces.specs.ParkTrace.{owes_of, seats_of}
use Rattle.nt_park_traces.proofs.ParkSeats.{opening_is, state}
use Rattle.nt_park_traces.proofs.park_run.ParkRun.new.Goals as goal

pub returns-clause-state : goal.returns-clause-state
returns-clause-state c =
    let e : c.in_ok-vec.field-0.items ≡ replicate c.args.threads OUTSIDE = search rules in
    ap (λ (xs : List ParkSeat). state 0 false (seats_of xs) (owes_of xs)) e ∙ opening_is c.args.threads 64 OUTSIDE refl refl
