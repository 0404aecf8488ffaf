use Rattle.std.proofs.Common.{◌≡◌, ◌<◌, ◌&&◌, ◌||◌, ℕ, Bool, List, not, false, length, sym, ap, ◌∙◌, subst}
use Rattle.nt_objects.specs.declared.object.Object.{Object}
use Rattle.nt_objects.specs.Object.{is_gone, is_mutex}
use Rattle.nt_calls.specs.declared.call.Call.{Call}
use Rattle.nt_calls.specs.declared.call.WaitCall.{WaitCall}
use Rattle.nt_calls.specs.declared.call.WaitMode.{WaitMode}
use Rattle.nt_calls.specs.declared.call.Reply.{Reply}
use Rattle.nt_status.specs.declared.refusal.Refusal.{Refusal}
use Rattle.std.specs.Prelude.{Result, Ok, Err}
use Rattle.nt_calls.specs.State.{object_at}
use Rattle.nt_calls.specs.Naming.{object_named, lacks}
use Rattle.nt_calls.specs.Rights.{signal_denied}
use Rattle.nt_calls.specs.Refusals.{first_of_causes, swap_causes}
use Rattle.nt_machine.specs.Dispatcher.{Dispatcher, state}
use Rattle.nt_machine.specs.Accepts.{IsCallMade, reply_of}
use Rattle.nt_machine.proofs.Closing.{named_living}
use Rattle.nt_machine.proofs.Judging.{undenied}
use Rattle.nt_machine.proofs.Making.{refused_made, accepted_made}
use Rattle.nt_machine.proofs.machine.Machine.signal_and_wait.Goals as goal

-- the numbers, the rights and the objects as they were found are those of the dispatcher
denied_as : (d inside : Dispatcher) (signal object signaled : ℕ) (os : List Object) (no_signal no_wait denied : Bool) → inside ≡ d → os ≡ inside.objects → signaled ≡ object_named inside.handles signal → no_signal ≡ lacks 0x0002 inside.handles signal → no_wait ≡ lacks 0x00100000 inside.handles object → denied ≡ (not (is_mutex (object_at os signaled)) && no_signal || no_wait) → denied ≡ (signal_denied d.handles d.objects signal || lacks 0x00100000 d.handles object)
denied_as d inside signal object signaled os no_signal no_wait denied same by_objects by_signal by_right by_wait is =
    is ∙ (λ i. not (is_mutex (object_at (by_objects i) (by_signal i))) && by_right i || by_wait i) ∙ ap (λ (x : Dispatcher). signal_denied x.handles x.objects signal || lacks 0x00100000 x.handles object) same

-- how it is made does not hang on how the rights and the numbers of the objects were found
made_as : (old new : Dispatcher) (t : ℕ) (found denied : Bool) (signaled h awaited object : ℕ) (mode : WaitMode) (result : Result Reply Refusal) → found ≡ denied → signaled ≡ h → awaited ≡ object → IsCallMade old new t found (Call.Wait (WaitCall.Swap signaled awaited mode)) result → IsCallMade old new t denied (Call.Wait (WaitCall.Swap h object mode)) result
made_as old new t found denied signaled h awaited object mode result by_right by_signal by_object made =
    subst (λ (b : Bool). IsCallMade old new t b (Call.Wait (WaitCall.Swap h object mode)) result) by_right
    (subst (λ (k : ℕ). IsCallMade old new t found (Call.Wait (WaitCall.Swap k object mode)) result) by_signal
    (subst (λ (k : ℕ). IsCallMade old new t found (Call.Wait (WaitCall.Swap signaled k mode)) result) by_object made))

pub swap-requires-clause-free : goal.swap-requires-clause-free
swap-requires-clause-free c =
    let t = c.args.thread in
    let call = Call.Wait (WaitCall.Swap c.opened-signaled.result.0 c.opened-awaited.result.0 c.args.mode) in
    let judged = c.swap_refusal.ensures ∙ (ap (λ (os : List Object). first_of_causes (swap_causes os t c.is_swap_denied-denied.result c.opened-signaled.result.0 c.opened-awaited.result.0)) c.as_slice-objects.ensures ∙ ap (λ (x : Dispatcher). first_of_causes (swap_causes x.objects t c.is_swap_denied-denied.result c.opened-signaled.result.0 c.opened-awaited.result.0)) c.self.view_is) in
    undenied (state c.args.self.now) t c.is_swap_denied-denied.result call (c.requires.caller c.is_swap_denied-denied.result call ∙ (sym judged ∙ c.in-None.is))

pub swap-requires-clause-living : goal.swap-requires-clause-living
swap-requires-clause-living c =
    let d = c.args.self.now in
    let named : c.opened-awaited.result.0 ≡ object_named d.handles c.args.object = c.opened-awaited.ensures.object ∙ ap (λ (x : Dispatcher). object_named x.handles c.args.object) c.self.view_is in
    subst (λ (k : ℕ). k < length d.objects → is_gone (object_at d.objects k) ≡ false) (sym named) (named_living d c.args.object c.requires.fresh.steady.sound)

pub returns-in-Some : goal.returns-in-Some
returns-in-Some c =
    let old = c.args.self.now in
    let t = c.args.thread in
    let call = Call.Wait (WaitCall.Swap c.opened-signaled.result.0 c.opened-awaited.result.0 c.args.mode) in
    let judged = c.swap_refusal.ensures ∙ (ap (λ (os : List Object). first_of_causes (swap_causes os t c.is_swap_denied-denied.result c.opened-signaled.result.0 c.opened-awaited.result.0)) c.as_slice-objects.ensures ∙ ap (λ (x : Dispatcher). first_of_causes (swap_causes x.objects t c.is_swap_denied-denied.result c.opened-signaled.result.0 c.opened-awaited.result.0)) c.self.view_is) in
    made_as old old t c.is_swap_denied-denied.result _ c.opened-signaled.result.0 _ c.opened-awaited.result.0 _ c.args.mode (Err c.in-Some.refusal)
    (denied_as old _ c.args.signal c.args.object c.opened-signaled.result.0 c.as_slice-objects.result.now c.opened-signaled.result.1 c.opened-awaited.result.1 c.is_swap_denied-denied.result c.self.view_is c.as_slice-objects.ensures c.opened-signaled.ensures.object c.opened-signaled.ensures.denied c.opened-awaited.ensures.denied c.is_swap_denied-denied.ensures)
    (c.opened-signaled.ensures.object ∙ ap (λ (x : Dispatcher). object_named x.handles c.args.signal) c.self.view_is)
    (c.opened-awaited.ensures.object ∙ ap (λ (x : Dispatcher). object_named x.handles c.args.object) c.self.view_is)
    (refused_made old t c.is_swap_denied-denied.result call c.in-Some.refusal c.requires.fresh c.requires.caller (sym judged ∙ c.in-Some.is))

pub returns-in-None : goal.returns-in-None
returns-in-None c =
    let old = c.args.self.now in
    let new = c.swap.new.self in
    let t = c.args.thread in
    let call = Call.Wait (WaitCall.Swap c.opened-signaled.result.0 c.opened-awaited.result.0 c.args.mode) in
    let judged = c.swap_refusal.ensures ∙ (ap (λ (os : List Object). first_of_causes (swap_causes os t c.is_swap_denied-denied.result c.opened-signaled.result.0 c.opened-awaited.result.0)) c.as_slice-objects.ensures ∙ ap (λ (x : Dispatcher). first_of_causes (swap_causes x.objects t c.is_swap_denied-denied.result c.opened-signaled.result.0 c.opened-awaited.result.0)) c.self.view_is) in
    rw c.replied.ensures (made_as old new t c.is_swap_denied-denied.result _ c.opened-signaled.result.0 _ c.opened-awaited.result.0 _ c.args.mode (Ok (reply_of c.swap.result))
    (denied_as old _ c.args.signal c.args.object c.opened-signaled.result.0 c.as_slice-objects.result.now c.opened-signaled.result.1 c.opened-awaited.result.1 c.is_swap_denied-denied.result c.self.view_is c.as_slice-objects.ensures c.opened-signaled.ensures.object c.opened-signaled.ensures.denied c.opened-awaited.ensures.denied c.is_swap_denied-denied.ensures)
    (c.opened-signaled.ensures.object ∙ ap (λ (x : Dispatcher). object_named x.handles c.args.signal) c.self.view_is)
    (c.opened-awaited.ensures.object ∙ ap (λ (x : Dispatcher). object_named x.handles c.args.object) c.self.view_is)
    (accepted_made old new t c.is_swap_denied-denied.result call (reply_of c.swap.result) c.requires.caller (sym judged ∙ c.in-None.is) c.swap.ensures))
