use Rattle.std.proofs.Common.{rules, ◌≡◌, sym}
use Rattle.nt_machine.specs.Dispatcher.{state}
use Rattle.nt_look.specs.Hangs.{marked}
use Rattle.nt_look.specs.Deciding.{is_bound}
use Rattle.nt_look.proofs.Deciding.{tied_waiting}
use Rattle.nt_look.proofs.knot.is_tied.Goals as goal

pub returns-in-Some : goal.returns-in-Some
returns-in-Some c =
    let told : c.is_bound.result ≡ is_bound (state c.args.core.now) (marked c.args.knot.now) c.args.thread c.in-Some.wait.now = search (rules) in
    tied_waiting c.args.core.now (marked c.args.knot.now) c.args.thread c.in-Some.wait.now c.is_bound.result c.stands.ensures (sym c.in-Some.ensures) told
