use Rattle.std.proofs.Common.{◌≡◌, ℕ, List, sym, ap, ◌∙◌, subst}
use Rattle.nt_marks.specs.Marks.{AddsMarks}
use Rattle.nt_machine.specs.Dispatcher.{Dispatcher}
use Rattle.nt_machine.specs.Lawful.{IsMachineSound}
use Rattle.nt_machine.specs.Accepts.{IsSetBy, IsSetAmong, AreStopped, IsStoppedAfter}
use Rattle.nt_machine.specs.contracts.machine.Machine.{the_view}
use Rattle.nt_machine.proofs.Leaving.{set_among, stopped_as}
use Rattle.nt_machine.proofs.Places.{adds_as, sound_marked}
use Rattle.nt_machine.proofs.machine.Machine.stop_all.Goals as goal

pub returns : goal.returns
returns c =
    let old = c.args.self.now in
    let d = the_view c.self.inside in
    let t = c.args.thread in
    let timers = c.timers_of-timers.result.now in
    let sound : IsMachineSound d = subst IsMachineSound (sym c.self.view_is) c.requires.sound in
    let same = set_among d t timers sound c.timers_of-timers.ensures.listed in
    let new = record d { objects = c.stop_each.new.objects.items; owned = c.stop_each.new.objects.owned; alarms = c.stop_each.new.alarms; marked = record d.marked { changed = c.stop_each.new.changed } } in
    let stopped : AreStopped (IsSetBy d.objects t) d.objects new.objects = stopped_as (IsSetAmong timers d.objects t) (IsSetBy d.objects t) d.objects new.objects same c.stop_each.ensures.stopped in
    let marks : AddsMarks (IsSetBy d.objects t) d.marked.changed new.marked.changed = adds_as (IsSetAmong timers d.objects t) (IsSetBy d.objects t) d.marked.changed new.marked.changed same c.stop_each.ensures.marked in
    let rest : new ≡ record d { objects = new.objects; alarms = new.alarms; marked = record d.marked { changed = new.marked.changed } } = ap (λ (owned : List (List ℕ)). record d { objects = new.objects; owned = owned; alarms = new.alarms; marked = new.marked }) c.stop_each.ensures.owned in
    let stops : IsStoppedAfter d t new = record { rest = rest; stopped = stopped; marks = marks } in
    record {
      stopped = subst (λ (x : Dispatcher). IsStoppedAfter x t new) c.self.view_is stops;
      sound = subst IsMachineSound (sym rest) (sound_marked (record d { objects = new.objects; alarms = new.alarms }) new.marked (c.stop_each.ensures.sound d sound) (record { changed = marks.count ∙ (sound.places.changed ∙ sym stopped.count); alerted = sound.places.alerted }));
    }
