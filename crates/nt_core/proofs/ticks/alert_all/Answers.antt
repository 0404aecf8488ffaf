use Rattle.std.proofs.Common.{◌≡◌, ◌<◌, ℕ, List, set, sym, ap, ◌∙◌, subst, Bool, false}
use Rattle.nt_marks.specs.Marks.{NoneMarked, IsFirstMarked}
use Rattle.nt_machine.specs.Dispatcher.{Dispatcher, with_marked}
use Rattle.nt_machine.specs.Lawful.{IsMachineSound}
use Rattle.nt_machine.specs.Accepts.{IsRoused, IsAlertedAfter}
use Rattle.nt_machine.specs.contracts.machine.Machine.{the_view}
use Rattle.nt_marks.proofs.Counting.{marks_left, marks_less}
use Rattle.nt_machine.proofs.Rousing.{AlertedSoFar, alerted_none, alerted_next, alerted_end, alerted_left, taken_sound}
use Rattle.nt_core.proofs.ticks.alert_all.Goals as goal

pub loop-place-init : goal.loop-place-init
loop-place-init c = alerted_none c.args.machine.now c.requires.sound c.requires.marked

pub rouse-requires : goal.rouse-requires
rouse-requires c =
    let now = c.loop-place.machine in
    let place = c.in-Some.place in
    let lowest : IsFirstMarked now.marked.alerted place = subst (λ (d : Dispatcher). IsFirstMarked d.marked.alerted place) c.machine.view_is c.in-Some.ensures.first in
    let mid : Dispatcher = record (the_view c.machine.inside) { marked = record (the_view c.machine.inside).marked { alerted = c.take_first.new.self } } in
    let taken : mid ≡ with_marked now (record now.marked { alerted = set now.marked.alerted place false }) = ap (λ (xs : List Bool). record (the_view c.machine.inside) { marked = record (the_view c.machine.inside).marked { alerted = xs } }) c.in-Some.ensures.rest ∙ ap (λ (d : Dispatcher). with_marked d (record d.marked { alerted = set d.marked.alerted place false })) c.machine.view_is in
    record { sound = taken_sound now mid place c.loop-place.invariant.sound taken }

pub loop-place-smaller : goal.loop-place-smaller
loop-place-smaller c =
    let now = c.loop-place.machine in
    let place = c.in-Some.place in
    let lowest : IsFirstMarked now.marked.alerted place = subst (λ (d : Dispatcher). IsFirstMarked d.marked.alerted place) c.machine.view_is c.in-Some.ensures.first in
    let mid : Dispatcher = record (the_view c.machine.inside) { marked = record (the_view c.machine.inside).marked { alerted = c.take_first.new.self } } in
    let taken : mid ≡ with_marked now (record now.marked { alerted = set now.marked.alerted place false }) = ap (λ (xs : List Bool). record (the_view c.machine.inside) { marked = record (the_view c.machine.inside).marked { alerted = xs } }) c.in-Some.ensures.rest ∙ ap (λ (d : Dispatcher). with_marked d (record d.marked { alerted = set d.marked.alerted place false })) c.machine.view_is in
    let marks = alerted_left now mid c.rouse.new.self place taken (subst (λ (k : ℕ). IsRoused mid c.rouse.new.self k) c.new.ensures c.rouse.ensures.roused) in
    let less : marks_left c.rouse.new.self.marked.alerted < marks_left now.marked.alerted = subst (λ (m : List Bool). marks_left m < marks_left now.marked.alerted) (sym marks) (marks_less now.marked.alerted place lowest.here) in
    less

pub loop-place-preserved : goal.loop-place-preserved
loop-place-preserved c =
    let now = c.loop-place.machine in
    let place = c.in-Some.place in
    let lowest : IsFirstMarked now.marked.alerted place = subst (λ (d : Dispatcher). IsFirstMarked d.marked.alerted place) c.machine.view_is c.in-Some.ensures.first in
    let mid : Dispatcher = record (the_view c.machine.inside) { marked = record (the_view c.machine.inside).marked { alerted = c.take_first.new.self } } in
    let taken : mid ≡ with_marked now (record now.marked { alerted = set now.marked.alerted place false }) = ap (λ (xs : List Bool). record (the_view c.machine.inside) { marked = record (the_view c.machine.inside).marked { alerted = xs } }) c.in-Some.ensures.rest ∙ ap (λ (d : Dispatcher). with_marked d (record d.marked { alerted = set d.marked.alerted place false })) c.machine.view_is in
    let roused = (subst (λ (k : ℕ). IsRoused mid c.rouse.new.self k) c.new.ensures c.rouse.ensures.roused) in
    let marks = alerted_left now mid c.rouse.new.self place taken roused in
    subst (λ (m : List Bool). AlertedSoFar c.args.machine.now c.rouse.new.self m) (sym marks)
    (alerted_next c.args.machine.now now c.rouse.new.self now.marked.alerted place c.loop-place.invariant lowest
    (subst (λ (d : Dispatcher). IsRoused d c.rouse.new.self place) taken roused) c.rouse.ensures.sound)

pub returns : goal.returns
returns c =
    let now = c.loop-place.machine in
    let none : NoneMarked now.marked.alerted = subst (λ (d : Dispatcher). NoneMarked d.marked.alerted) c.machine.view_is c.in_default.ensures.first in
    let last : Dispatcher = record (the_view c.machine.inside) { marked = record (the_view c.machine.inside).marked { alerted = c.take_first.new.self } } in
    let same : last ≡ now = ap (λ (xs : List Bool). record (the_view c.machine.inside) { marked = record (the_view c.machine.inside).marked { alerted = xs } }) c.in_default.ensures.rest ∙ c.machine.view_is in
    record {
      alerted = subst (λ (d : Dispatcher). IsAlertedAfter c.args.machine.now d) (sym same) (alerted_end c.args.machine.now now now.marked.alerted c.loop-place.invariant none c.requires.served);
      sound = subst IsMachineSound (sym same) c.loop-place.invariant.sound;
    }
