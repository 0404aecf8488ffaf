use Rattle.std.proofs.Common.{◌≡◌, ◌<◌, ◌+◌, ◌^◌, ℕ, List, length, set, sym, ap, ◌∙◌, subst, Bool, false}
use Rattle.nt_marks.specs.Marks.{NoneMarked, IsFirstMarked}
use Rattle.nt_machine.specs.Dispatcher.{Dispatcher, Marked, state}
use Rattle.nt_machine.specs.Visits.{Visits}
use Rattle.nt_machine.specs.contracts.machine.Machine.{the_view}
use Rattle.nt_machine.proofs.Places.{ServedSoFar, without_mark, served_none, served_next, served_countable, served_end, changed_sound}
use Rattle.nt_marks.proofs.Counting.{marks_left, marks_less}
use Rattle.nt_machine.proofs.machine.Machine.serve_marked.Goals as goal

pub loop-place-init : goal.loop-place-init
loop-place-init c = served_none c.args.self.now c.requires.sound

pub serve_on-requires : goal.serve_on-requires
serve_on-requires c =
    let now = c.loop-place.self in
    let place = c.in-Some.place in
    let lowest : IsFirstMarked now.marked.changed place = subst (λ (d : Dispatcher). IsFirstMarked d.marked.changed place) c.self.view_is c.in-Some.ensures.first in
    let mid : Dispatcher = record (the_view c.self.inside) { marked = record (the_view c.self.inside).marked { changed = c.take_first.new.self } } in
    let taken : mid ≡ without_mark now place = ap (λ (xs : List Bool). record (the_view c.self.inside) { marked = record (the_view c.self.inside).marked { changed = xs } }) c.in-Some.ensures.rest ∙ ap (λ (d : Dispatcher). without_mark d place) c.self.view_is in
    record {
      sound = changed_sound now mid place c.loop-place.invariant.sound taken;
      countable = subst (λ (k : ℕ). mid.table.looked + length ((state mid).queues k) < 2 ^ 64) (sym c.new.ensures) (served_countable c.args.self.now now mid place c.loop-place.invariant lowest taken c.requires.countable);
    }

pub loop-place-smaller : goal.loop-place-smaller
loop-place-smaller c =
    let now = c.loop-place.self in
    let place = c.in-Some.place in
    let lowest : IsFirstMarked now.marked.changed place = subst (λ (d : Dispatcher). IsFirstMarked d.marked.changed place) c.self.view_is c.in-Some.ensures.first in
    let mid : Dispatcher = record (the_view c.self.inside) { marked = record (the_view c.self.inside).marked { changed = c.take_first.new.self } } in
    let taken : mid ≡ without_mark now place = ap (λ (xs : List Bool). record (the_view c.self.inside) { marked = record (the_view c.self.inside).marked { changed = xs } }) c.in-Some.ensures.rest ∙ ap (λ (d : Dispatcher). without_mark d place) c.self.view_is in
    let marks : c.serve_on.new.self.marked.changed ≡ set now.marked.changed place false = ap (λ (m : Marked). m.changed) c.serve_on.ensures.visits.marked ∙ ap (λ (d : Dispatcher). d.marked.changed) taken in
    let less : marks_left c.serve_on.new.self.marked.changed < marks_left now.marked.changed = subst (λ (m : List Bool). marks_left m < marks_left now.marked.changed) (sym marks) (marks_less now.marked.changed place lowest.here) in
    less

pub loop-place-preserved : goal.loop-place-preserved
loop-place-preserved c =
    let now = c.loop-place.self in
    let place = c.in-Some.place in
    let lowest : IsFirstMarked now.marked.changed place = subst (λ (d : Dispatcher). IsFirstMarked d.marked.changed place) c.self.view_is c.in-Some.ensures.first in
    let mid : Dispatcher = record (the_view c.self.inside) { marked = record (the_view c.self.inside).marked { changed = c.take_first.new.self } } in
    let taken : mid ≡ without_mark now place = ap (λ (xs : List Bool). record (the_view c.self.inside) { marked = record (the_view c.self.inside).marked { changed = xs } }) c.in-Some.ensures.rest ∙ ap (λ (d : Dispatcher). without_mark d place) c.self.view_is in
    served_next c.args.self.now now mid c.serve_on.new.self place c.loop-place.invariant lowest taken (subst (λ (k : ℕ). Visits ((state mid).queues k) mid c.serve_on.new.self) c.new.ensures c.serve_on.ensures.visits) c.serve_on.ensures.sound

pub returns : goal.returns
returns c =
    let now = c.loop-place.self in
    let far : ServedSoFar c.args.self.now now = c.loop-place.invariant in
    let none : NoneMarked now.marked.changed = subst (λ (d : Dispatcher). NoneMarked d.marked.changed) c.self.view_is c.in_default.ensures.first in
    let last : Dispatcher = record (the_view c.self.inside) { marked = record (the_view c.self.inside).marked { changed = c.take_first.new.self } } in
    let same : now ≡ last = sym (ap (λ (xs : List Bool). record (the_view c.self.inside) { marked = record (the_view c.self.inside).marked { changed = xs } }) c.in_default.ensures.rest ∙ c.self.view_is) in
    let ended : ServedSoFar c.args.self.now last = subst (λ (d : Dispatcher). ServedSoFar c.args.self.now d) same far in
    let clear : NoneMarked last.marked.changed = subst (λ (d : Dispatcher). NoneMarked d.marked.changed) same none in
    record { visits = served_end c.args.self.now last ended clear; served = clear; alerted = ended.alerted; sound = ended.sound }
