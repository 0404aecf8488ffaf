use Rattle.std.proofs.Common.{◌≡◌, ◌<◌, ◌^◌, length, sym, ap, ◌∙◌, subst, arith}
use Rattle.nt_marks.specs.Marks.{marked_places, NoneMarked}
use Rattle.nt_waits.specs.Waits.{Waits}
use Rattle.nt_calls.specs.State.{State}
use Rattle.nt_calls.specs.Rising.{AreRising}
use Rattle.nt_calls.specs.Serving.{IsChanged, sequence}
use Rattle.nt_machine.specs.Dispatcher.{state, with_marked}
use Rattle.nt_machine.specs.Visits.{FitOnlyIn}
use Rattle.nt_machine.proofs.Exiting.{objects_left}
use Rattle.nt_machine.proofs.Ending.{exited_fit, exited_few, exited_accepted, exited_places}
use Rattle.nt_machine.proofs.Places.{serving_whole}
use Rattle.nt_machine.proofs.machine.Machine.exit.Goals as goal

pub leave-requires : goal.leave-requires
leave-requires c = record { sound = c.requires.fresh.steady.sound; unmarked = c.requires.fresh.steady.unmarked; running = c.requires.running }

pub serve_marked-requires : goal.serve_marked-requires
serve_marked-requires c =
    let old = c.args.self.now in
    let mid = c.leave.new.self in
    let t = c.args.thread in
    let left = c.leave.ensures.left in
    let numbers = marked_places mid.marked.changed in
    let few : length (sequence (state mid) numbers) < 2 ^ 64 = subst (λ (s : State). length (sequence s numbers) < 2 ^ 64) (sym left.becomes) (exited_few old t numbers c.requires.fresh.steady.sound (exited_places old mid t left)) in
    let none : mid.table.looked ≡ 0 = ap (λ (w : Waits). w.looked) left.table ∙ c.requires.fresh.untested in
    record { sound = c.leave.ensures.sound; countable = omega (arith, few, none) }

pub returns : goal.returns
returns c =
    let old = c.args.self.now in
    let mid = c.leave.new.self in
    let new = c.serve_marked.new.self in
    let t = c.args.thread in
    let left = c.leave.ensures.left in
    let numbers = marked_places mid.marked.changed in
    let changed : AreRising (IsChanged old.objects (objects_left old.objects t)) numbers = exited_places old mid t left in
    let fit : FitOnlyIn (sequence (state mid) numbers) (state mid) = subst (λ (s : State). FitOnlyIn (sequence s numbers) s) (sym left.becomes) (exited_fit old t numbers c.requires.fresh.steady c.requires.running.known c.requires.running.runs changed) in
    let whole = serving_whole (sequence (state mid) numbers) (with_marked mid new.marked) new (left.grants ∙ c.requires.fresh.no_grants) (ap (λ (w : Waits). w.looked) left.table ∙ c.requires.fresh.untested) fit c.serve_marked.ensures.visits in
    exited_accepted old mid new t numbers c.requires.fresh left changed whole.0 c.serve_marked.ensures.sound whole.1 whole.2
    (record { changed = c.serve_marked.ensures.served; alerted = subst (λ marks. NoneMarked marks) (sym (c.serve_marked.ensures.alerted ∙ left.alerted)) c.requires.fresh.steady.unmarked.alerted })
