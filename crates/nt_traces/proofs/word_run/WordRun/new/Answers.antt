use Rattle.std.proofs.Common.{◌≡◌, ◌∙◌, List, ap, refl, rules}
use Rattle.std.proofs.Math.ListN.{replicate}
use Rattle.nt_traces.specs.declared.word.WordSeat.{WordSeat}
use Rattle.nt_traces.specs.declared.word_steps.TheConstants.{OUTSIDE}
use Rattle.nt_traces.specs.WordTrace.{owes_of, seats_of}
use Rattle.nt_traces.proofs.WordSeats.{opening_is, state}
use Rattle.nt_traces.proofs.word_run.WordRun.new.Goals as goal

pub returns-clause-state : goal.returns-clause-state
returns-clause-state c =
    let e : c.in_ok-vec.field-0.items ≡ replicate c.args.threads OUTSIDE = search rules in
    ap (λ (xs : List WordSeat). state (seats_of xs) (owes_of xs)) e ∙ opening_is c.args.threads 64 OUTSIDE refl refl
