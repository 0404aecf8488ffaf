-- no thread with this number waits, since there is none
use Rattle.std.proofs.Common.{◌≡◌, ◌≤◌, Option, None, Some, sym, ap, refl, subst, arith, false}
use Rattle.std.proofs.lemmas.Bool.{false≢true}
use Rattle.std.specs.Prelude.{is_some}
use Rattle.std.specs.FinMap as map
use Rattle.nt_waits.specs.declared.wait.Wait.{Wait}
use Rattle.nt_core.specs.declared.dispatcher.Core.TheInside.{Inside}
use Rattle.nt_machine.specs.Dispatcher.{Dispatcher}
use Rattle.nt_machine.specs.Lawful.{IsLawful}
use Rattle.nt_machine.proofs.Beginning.{nobody_beyond}
use Rattle.nt_core.proofs.dispatcher.Core.waits_for.Goals as goal

none_of : (o : Option Wait) → is_some o ≡ false → None ≡ o
none_of None e = refl
none_of (Some w) e = absurd (false≢true (sym e))

pub returns-then-self-thread : goal.returns-then-self-thread
returns-then-self-thread c =
    let lawful : IsLawful c.args.self.now = subst IsLawful c.self.view_is c.self.invariant in
    let threads : c.args.self.now.threads ≡ c.self.inside.machine.threads = ap (λ (d : Dispatcher). d.threads) (sym c.self.view_is) in
    let inner = ap (λ (i : Inside). i.machine.threads) c.self-inside.view_is in
    let beyond : c.args.self.now.threads ≤ c.args.thread = omega (arith, threads, inner, c.if-self-thread.true) in
    none_of (map.get c.args.self.now.table.pending c.args.thread) (nobody_beyond c.args.self.now c.args.thread lawful.steady.sound beyond)
