use Rattle.std.proofs.Common.{◌≡◌, ◌<◌, ◌≤◌, ◌-◌, ℕ, List, [], ◌∷◌, length, sym, ap, ◌∙◌, subst, arith}
use Rattle.std.specs.Prelude.{IsSomeAnd}
use Rattle.nt_objects.specs.Object.{due_of}
use Rattle.nt_alarms.specs.Alarms.{IsLowestAt, NoneAt}
use Rattle.nt_marks.specs.Marks.{marked_places}
use Rattle.nt_calls.specs.State.{State, object_at}
use Rattle.nt_machine.specs.Dispatcher.{Dispatcher, state, due_marked}
use Rattle.nt_calls.specs.Change.{expired}
use Rattle.nt_core.proofs.Lengths.{length_expired}
use Rattle.nt_machine.proofs.Places.{none_marked}
use Rattle.nt_machine.proofs.Passing.{ExpiredSoFar, expired_none, expired_marked, expired_fewer, expired_end, lowest_known, marked_sound, due_by}
use Rattle.nt_core.proofs.ticks.expire_all.Goals as goal

pub loop-place-init : goal.loop-place-init
loop-place-init c =
    let d = c.args.machine.now in
    subst (λ (timers : List ℕ). ExpiredSoFar d d c.args.m c.args.u timers d.marked.alerted) (sym (none_marked d.marked.changed c.requires.unmarked.changed))
    (expired_none d c.args.m c.args.u d.marked.alerted c.requires.sound c.requires.calm c.requires.earliest)

pub mark_due-requires : goal.mark_due-requires
mark_due-requires c =
    let far = c.loop-place.invariant in
    let lowest : IsLowestAt c.loop-place.machine.alarms c.args.u c.in-Some.place = subst (λ (d : Dispatcher). IsLowestAt d.alarms c.args.u c.in-Some.place) c.machine.view_is c.in-Some.ensures in
    let timer : c.new-timer.result ≡ c.in-Some.place = c.new-timer.ensures in
    let known = lowest_known c.loop-place.machine c.args.u c.in-Some.place far.sound lowest in
    record { sound = far.sound; known = omega (arith, timer, known) }

pub expire-requires : goal.expire-requires
expire-requires c =
    let now = c.loop-place.machine in
    let far = c.loop-place.invariant in
    let lowest : IsLowestAt now.alarms c.args.u c.in-Some.place = subst (λ (d : Dispatcher). IsLowestAt d.alarms c.args.u c.in-Some.place) c.machine.view_is c.in-Some.ensures in
    let timer : c.new-timer.result ≡ c.in-Some.place = c.new-timer.ensures in
    let marked : c.mark_due.new.machine ≡ due_marked now c.in-Some.place = c.mark_due.ensures ∙ ap (λ (k : ℕ). due_marked now k) timer in
    record {
      sound = marked_sound now c.mark_due.new.machine c.in-Some.place far.sound marked;
      due = subst (λ (k : ℕ). IsSomeAnd (due_of (object_at c.mark_due.new.machine.objects k)) (λ due. due ≤ c.args.m)) (sym timer) (due_by now c.mark_due.new.machine c.args.m c.args.u c.in-Some.place c.requires.within far.sound lowest marked);
    }

pub loop-place-smaller : goal.loop-place-smaller
loop-place-smaller c =
    let now = c.loop-place.machine in
    let far = c.loop-place.invariant in
    let lowest : IsLowestAt now.alarms c.args.u c.in-Some.place = subst (λ (d : Dispatcher). IsLowestAt d.alarms c.args.u c.in-Some.place) c.machine.view_is c.in-Some.ensures in
    let timer : c.new-timer.result ≡ c.in-Some.place = c.new-timer.ensures in
    let marked : c.mark_due.new.machine ≡ due_marked now c.in-Some.place = c.mark_due.ensures ∙ ap (λ (k : ℕ). due_marked now k) timer in
    let same : length c.expire.new.self.objects ≡ length now.objects = ap (λ (s : State). length s.objects) c.expire.ensures.expired ∙ (length_expired (state c.mark_due.new.machine) c.args.m (c.new-timer.result ∷ []) ∙ ap (λ (d : Dispatcher). length d.objects) marked) in
    let less : length c.expire.new.self.objects - length (marked_places c.expire.new.self.marked.changed) < length now.objects - length (marked_places now.marked.changed) = expired_fewer c.args.machine.now now c.mark_due.new.machine c.expire.new.self c.args.m c.args.u c.in-Some.place far lowest marked c.expire.ensures.kept.marked same in
    less

pub loop-place-preserved : goal.loop-place-preserved
loop-place-preserved c =
    let now = c.loop-place.machine in
    let far = c.loop-place.invariant in
    let lowest : IsLowestAt now.alarms c.args.u c.in-Some.place = subst (λ (d : Dispatcher). IsLowestAt d.alarms c.args.u c.in-Some.place) c.machine.view_is c.in-Some.ensures in
    let timer : c.new-timer.result ≡ c.in-Some.place = c.new-timer.ensures in
    let marked : c.mark_due.new.machine ≡ due_marked now c.in-Some.place = c.mark_due.ensures ∙ ap (λ (k : ℕ). due_marked now k) timer in
    expired_marked c.args.machine.now now c.mark_due.new.machine c.expire.new.self c.args.m c.args.u c.in-Some.place c.requires.within far lowest marked
    (c.expire.ensures.expired ∙ ap (λ (k : ℕ). expired c.args.m (state c.mark_due.new.machine) k) timer) c.expire.ensures.kept.grants c.expire.ensures.kept.table c.expire.ensures.kept.marked c.expire.ensures.sound

pub returns-clause-expired : goal.returns-clause-expired
returns-clause-expired c =
    expired_end c.args.machine.now c.loop-place.machine c.args.m c.args.u (marked_places c.loop-place.machine.marked.changed) c.loop-place.machine.marked.alerted c.loop-place.invariant
    (subst (λ (d : Dispatcher). NoneAt d.alarms c.args.u) c.machine.view_is c.in_default.ensures)
