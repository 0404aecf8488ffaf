use Rattle.std.proofs.Common.{rules, ◌≡◌, sym}
use Rattle.nt_machine.specs.Dispatcher.{state}
use Rattle.nt_look.specs.Deciding.{ends_by_time}
use Rattle.nt_look.proofs.Deciding.{hangs_waiting}
use Rattle.nt_look.proofs.stuck.is_hanging.Goals as goal

pub returns-in-Some : goal.returns-in-Some
returns-in-Some c =
    let told : c.ends_by_time.result ≡ ends_by_time (state c.args.core.now).objects c.args.thread c.in-Some.wait.now = search (rules) in
    hangs_waiting c.args.core.now c.args.over.now c.args.thread c.in-Some.wait.now c.ends_by_time.result c.stands.ensures (sym c.in-Some.ensures) told
