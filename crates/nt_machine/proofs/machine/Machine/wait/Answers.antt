use Rattle.std.proofs.Common.{◌≡◌, [], sym, subst, refl, false}
use Rattle.nt_calls.specs.declared.call.Call.{Call}
use Rattle.nt_calls.specs.declared.call.WaitCall.{WaitCall}
use Rattle.nt_calls.specs.State.{deadline_after}
use Rattle.nt_machine.specs.Dispatcher.{state}
use Rattle.nt_calls.specs.Serving.{wait_on}
use Rattle.nt_calls.specs.Steps.{begun}
use Rattle.nt_machine.specs.Accepts.{Accepts, IsWaitMade, reply_of, replied}
use Rattle.nt_machine.proofs.Accepting.{ok_then, sound_sleep, wait_accepted}
use Rattle.nt_machine.proofs.Running.{free_runs, free_can}
use Rattle.nt_machine.proofs.Making.{waited_made}
use Rattle.nt_machine.proofs.machine.Machine.wait.Goals as goal

pub begin_wait-requires-clause-can : goal.begin_wait-requires-clause-can
begin_wait-requires-clause-can c =
    let d = c.args.self.now in
    let runs = free_runs d c.args.thread c.requires.caller in
    free_can d c.args.thread (wait_on [] false) c.requires.fresh c.requires.caller (sound_sleep (state d) c.args.thread runs.known runs.runs)

pub returns-in-Sleep : goal.returns-in-Sleep
returns-in-Sleep c =
    let old = c.args.self.now in
    let new = c.begin_wait.new.self in
    let t = c.args.thread in
    let began = c.begin_wait.ensures in
    let mode = c.in-Sleep.mode in
    let asked = WaitCall.Sleep mode in
    rw c.replied.ensures (subst (λ (w : WaitCall). IsWaitMade old new t w (replied c.begin_wait.result)) (sym c.in-Sleep.is)
    (waited_made old new t false (Call.Wait asked) c.begin_wait.result c.requires.fresh c.requires.caller refl
    (ok_then
    (λ ended. (reply_of ended, state new) ≡ begun (state old) t (record { objects = []; all = false; alertable = mode.alertable; deadline = deadline_after old.now mode.ms }) mode.ms)
    (λ ended. Accepts old new t (Call.Wait asked) (reply_of ended))
    (λ ended begins. wait_accepted old new t asked (reply_of ended) c.requires.fresh began.grants began.looked began.steady refl begins)
    c.begin_wait.result began.begun)
    began.grows began.refused))
