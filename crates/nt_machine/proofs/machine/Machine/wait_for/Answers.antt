use Rattle.std.proofs.Common.{◌≡◌, List, sym, ap, ◌∙◌, refl, false, None}
use Rattle.nt_objects.specs.declared.object.Object.{Object}
use Rattle.nt_calls.specs.declared.call.Call.{Call}
use Rattle.nt_calls.specs.declared.call.WaitCall.{WaitCall}
use Rattle.nt_calls.specs.State.{deadline_after}
use Rattle.nt_machine.specs.Dispatcher.{Dispatcher, state}
use Rattle.nt_calls.specs.Serving.{wait_on}
use Rattle.nt_calls.specs.Steps.{begun}
use Rattle.nt_machine.specs.Accepts.{Accepts, reply_of}
use Rattle.nt_calls.specs.Refusals.{first_of_causes, objects_causes, refusal}
use Rattle.nt_machine.proofs.Accepting.{ok_then, sound_objects, wait_accepted}
use Rattle.nt_machine.proofs.Running.{free_can}
use Rattle.nt_machine.proofs.Judging.{undenied}
use Rattle.nt_machine.proofs.Making.{refused_made, waited_made}
use Rattle.nt_machine.proofs.machine.Machine.wait_for.Goals as goal

pub begin_wait-requires-clause-can : goal.begin_wait-requires-clause-can
begin_wait-requires-clause-can c =
    let d = c.args.self.now in
    let call = Call.Wait (WaitCall.Objects c.args.all c.args.mode c.args.numbers.now) in
    let judged = c.objects_refusal.ensures ∙ (ap (λ (os : List Object). first_of_causes (objects_causes os c.args.thread c.args.denied c.args.numbers.now)) c.as_slice.ensures ∙ ap (λ (x : Dispatcher). first_of_causes (objects_causes x.objects c.args.thread c.args.denied c.args.numbers.now)) c.self.view_is) in
    let free : refusal (state d) c.args.thread false call ≡ None = undenied (state d) c.args.thread c.args.denied call (c.requires.caller c.args.denied call ∙ (sym judged ∙ c.in-None.is)) in
    free_can d c.args.thread (wait_on c.args.numbers.now c.args.all) c.requires.fresh c.requires.caller (sound_objects (state d) c.args.thread c.args.numbers.now c.args.all c.args.mode c.requires.living free)

pub returns-in-Some : goal.returns-in-Some
returns-in-Some c =
    let d = c.args.self.now in
    let call = Call.Wait (WaitCall.Objects c.args.all c.args.mode c.args.numbers.now) in
    let judged = c.objects_refusal.ensures ∙ (ap (λ (os : List Object). first_of_causes (objects_causes os c.args.thread c.args.denied c.args.numbers.now)) c.as_slice.ensures ∙ ap (λ (x : Dispatcher). first_of_causes (objects_causes x.objects c.args.thread c.args.denied c.args.numbers.now)) c.self.view_is) in
    refused_made d c.args.thread c.args.denied call c.in-Some.refusal c.requires.fresh c.requires.caller (sym judged ∙ c.in-Some.is)

pub returns-in-None : goal.returns-in-None
returns-in-None c =
    let old = c.args.self.now in
    let new = c.begin_wait.new.self in
    let t = c.args.thread in
    let began = c.begin_wait.ensures in
    let asked = WaitCall.Objects c.args.all c.args.mode c.args.numbers.now in
    let judged = c.objects_refusal.ensures ∙ (ap (λ (os : List Object). first_of_causes (objects_causes os t c.args.denied c.args.numbers.now)) c.as_slice.ensures ∙ ap (λ (x : Dispatcher). first_of_causes (objects_causes x.objects t c.args.denied c.args.numbers.now)) c.self.view_is) in
    waited_made old new t c.args.denied (Call.Wait asked) c.begin_wait.result c.requires.fresh c.requires.caller (sym judged ∙ c.in-None.is)
    (ok_then
    (λ ended. (reply_of ended, state new) ≡ begun (state old) t (record { objects = c.args.numbers.now; all = c.args.all; alertable = c.args.mode.alertable; deadline = deadline_after old.now c.args.mode.ms }) c.args.mode.ms)
    (λ ended. Accepts old new t (Call.Wait asked) (reply_of ended))
    (λ ended begins. wait_accepted old new t asked (reply_of ended) c.requires.fresh began.grants began.looked began.steady refl begins)
    c.begin_wait.result began.begun)
    began.grows began.refused
