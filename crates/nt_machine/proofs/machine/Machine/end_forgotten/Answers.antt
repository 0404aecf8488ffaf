use Rattle.std.proofs.Common.{◌≡◌, ◌<◌, ℕ, List, ap, sym, ◌∙◌, subst, Bool, false}
use Rattle.std.specs.Prelude.{if◌then◌else◌, slice_set}
use Rattle.nt_marks.specs.Marks.{IsFirstMarked, NoneMarked}
use Rattle.nt_machine.specs.Dispatcher.{Dispatcher, state}
use Rattle.nt_calls.specs.Living.{is_forgotten, gone}
use Rattle.nt_machine.proofs.Gone.{gone_none, gone_next, gone_end, gone_steady}
use Rattle.nt_marks.proofs.Counting.{marks_left, marks_less}
use Rattle.nt_machine.proofs.machine.Machine.end_forgotten.Goals as goal

pub loop-place-init : goal.loop-place-init
loop-place-init c = gone_none c.args.self.now c.requires.steady.sound

pub loop-place-smaller : goal.loop-place-smaller
loop-place-smaller c =
    let lowest : IsFirstMarked c.loop-place.self.leaving c.in-Some.place = subst (λ (d : Dispatcher). IsFirstMarked d.leaving c.in-Some.place) c.self.view_is c.in-Some.ensures in
    let marks : c.end_marked.new.self.leaving ≡ slice_set c.loop-place.self.leaving c.in-Some.place false = c.end_marked.ensures.leaving ∙ ap (λ (k : ℕ). slice_set c.loop-place.self.leaving k false) c.new.ensures in
    let less : marks_left c.end_marked.new.self.leaving < marks_left c.loop-place.self.leaving = subst (λ (m : List Bool). marks_left m < marks_left c.loop-place.self.leaving) (sym marks) (marks_less c.loop-place.self.leaving c.in-Some.place lowest.here) in
    less

pub loop-place-preserved : goal.loop-place-preserved
loop-place-preserved c =
    let lowest : IsFirstMarked c.loop-place.self.leaving c.in-Some.place = subst (λ (d : Dispatcher). IsFirstMarked d.leaving c.in-Some.place) c.self.view_is c.in-Some.ensures in
    gone_next c.args.self.now c.loop-place.self c.end_marked.new.self c.in-Some.place c.loop-place.invariant lowest
    (c.end_marked.ensures.becomes ∙ ap (λ (k : ℕ). if is_forgotten (state c.loop-place.self) k then gone (state c.loop-place.self) k else state c.loop-place.self) c.new.ensures)
    (c.end_marked.ensures.leaving ∙ ap (λ (k : ℕ). slice_set c.loop-place.self.leaving k false) c.new.ensures)
    c.end_marked.ensures.sound
    c.end_marked.ensures.kept.grants
    c.end_marked.ensures.kept.table
    c.end_marked.ensures.kept.marked

pub returns : goal.returns
returns c =
    let none : NoneMarked c.loop-place.self.leaving = subst (λ (d : Dispatcher). NoneMarked d.leaving) c.self.view_is c.in_default.ensures in
    let far = c.loop-place.invariant in
    let steady = gone_steady c.args.self.now c.loop-place.self c.requires.steady far none in
    record { ends = gone_end c.args.self.now c.loop-place.self far none; steady = steady.0; living = steady.1; grants = far.grants; table = far.table }
