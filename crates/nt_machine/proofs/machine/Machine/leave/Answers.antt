use Rattle.std.proofs.Common.{◌≡◌, List, map, sym, ap, ◌∙◌, subst, arith, true}
use Rattle.nt_objects.specs.declared.object.Object.{Object}
use Rattle.nt_objects.specs.Object.{has_ended, abandoned_by, owned_by}
use Rattle.std.specs.FinMap as fin
use Rattle.std.specs.Prelude.{◌↔◌}
use Rattle.nt_marks.specs.Marks.{is_marked, AddsMarks}
use Rattle.nt_calls.specs.State.{State, object_at}
use Rattle.nt_calls.specs.Serving.{IsChanged}
use Rattle.nt_calls.specs.Change.{exited}
use Rattle.nt_machine.specs.Dispatcher.{Dispatcher, Marked, state}
use Rattle.nt_machine.specs.Accepts.{IsSetBy}
use Rattle.nt_machine.proofs.Exiting.{objects_left}
use Rattle.nt_machine.proofs.Ending.{AreMarked, exited_state, stopped_own, none_set, freed_sound, marked_changed, freed_in}
use Rattle.nt_machine.specs.contracts.machine.Machine.{the_view}
use Rattle.nt_machine.proofs.machine.Machine.leave.Goals as goal

pub stop_all-requires : goal.stop_all-requires
stop_all-requires c = record {
  sound = freed_sound c.args.self.now (record (the_view c.self.inside) { objects = c.abandon_all.new.self.items; owned = c.abandon_all.new.self.owned; marked = record (the_view c.self.inside).marked { changed = c.abandon_all.new.changed } }) c.args.thread c.requires.sound (subst (λ (d : Dispatcher). AddsMarks (λ m. owned_by (object_at d.objects m) c.args.thread ≡ true) d.marked.changed c.abandon_all.new.changed) c.self.view_is c.abandon_all.ensures.marked).count (freed_in (the_view c.self.inside) c.args.self.now c.args.thread c.abandon_all.new.self.items c.abandon_all.new.self.owned c.abandon_all.new.changed c.self.view_is c.abandon_all.ensures.items);
  known = let known = c.requires.running.known in let threads : (record (the_view c.self.inside) { objects = c.abandon_all.new.self.items; owned = c.abandon_all.new.self.owned; marked = record (the_view c.self.inside).marked { changed = c.abandon_all.new.changed } }).threads ≡ c.args.self.now.threads = ap (λ (d : Dispatcher). d.threads) (freed_in (the_view c.self.inside) c.args.self.now c.args.thread c.abandon_all.new.self.items c.abandon_all.new.self.owned c.abandon_all.new.changed c.self.view_is c.abandon_all.ensures.items) in omega (arith, known, threads);
}

pub end_own-requires : goal.end_own-requires
end_own-requires c =
    let old = c.args.self.now in
    let mid = (record (the_view c.self.inside) { objects = c.abandon_all.new.self.items; owned = c.abandon_all.new.self.owned; marked = record (the_view c.self.inside).marked { changed = c.abandon_all.new.changed } }) in
    let stopped = c.stop_all.new.self in
    let stops = c.stop_all.ensures.stopped in
    let rest = stops.rest in
    record {
      sound = c.stop_all.ensures.sound;
      running = record {
        idle = ap (λ (d : Dispatcher). fin.get d.table.pending c.args.thread) rest ∙ (ap (λ (d : Dispatcher). fin.get d.table.pending c.args.thread) (freed_in (the_view c.self.inside) c.args.self.now c.args.thread c.abandon_all.new.self.items c.abandon_all.new.self.owned c.abandon_all.new.changed c.self.view_is c.abandon_all.ensures.items) ∙ c.requires.running.idle);
        known = let known = c.requires.running.known in let threads : stopped.threads ≡ old.threads = ap (λ (d : Dispatcher). d.threads) rest ∙ ap (λ (d : Dispatcher). d.threads) (freed_in (the_view c.self.inside) c.args.self.now c.args.thread c.abandon_all.new.self.items c.abandon_all.new.self.owned c.abandon_all.new.changed c.self.view_is c.abandon_all.ensures.items) in omega (arith, known, threads);
        runs = ap has_ended (stopped_own old mid stopped c.args.thread c.requires.sound c.requires.running.known c.requires.running.runs (freed_in (the_view c.self.inside) c.args.self.now c.args.thread c.abandon_all.new.self.items c.abandon_all.new.self.owned c.abandon_all.new.changed c.self.view_is c.abandon_all.ensures.items) stops);
      };
      unset = none_set mid stopped c.args.thread stops;
    }

pub returns-clause-left : goal.returns-clause-left
returns-clause-left c =
    let old = c.args.self.now in
    let t = c.args.thread in
    let mid = (record (the_view c.self.inside) { objects = c.abandon_all.new.self.items; owned = c.abandon_all.new.self.owned; marked = record (the_view c.self.inside).marked { changed = c.abandon_all.new.changed } }) in
    let stopped = c.stop_all.new.self in
    let new = c.end_own.new.self in
    let stops = c.stop_all.ensures.stopped in
    let becomes : state new ≡ exited (state old) t = exited_state old mid stopped new t (freed_in (the_view c.self.inside) c.args.self.now c.args.thread c.abandon_all.new.self.items c.abandon_all.new.self.owned c.abandon_all.new.changed c.self.view_is c.abandon_all.ensures.items) stops c.end_own.ensures.ended in
    let objects : new.objects ≡ objects_left old.objects t = ap (λ (s : State). s.objects) becomes in
    let timers : AddsMarks (IsSetBy (map (abandoned_by t) old.objects) t) mid.marked.changed stopped.marked.changed = subst (λ (os : List Object). AddsMarks (IsSetBy os t) mid.marked.changed stopped.marked.changed) (ap (λ (d : Dispatcher). d.objects) (freed_in (the_view c.self.inside) c.args.self.now c.args.thread c.abandon_all.new.self.items c.abandon_all.new.self.owned c.abandon_all.new.changed c.self.view_is c.abandon_all.ensures.items)) stops.marks in
    let marks : AreMarked old t mid.marked.changed stopped.marked.changed new.marked.changed = record { none = c.requires.unmarked.changed; mutexes = (subst (λ (d : Dispatcher). AddsMarks (λ m. owned_by (object_at d.objects m) c.args.thread ≡ true) d.marked.changed c.abandon_all.new.changed) c.self.view_is c.abandon_all.ensures.marked); timers = timers; own = ap (λ (m : Marked). m.changed) c.end_own.ensures.marked } in
    record {
      becomes = becomes;
      changed = λ h. subst (λ (os : List Object). (is_marked new.marked.changed h ≡ true) ↔ IsChanged old.objects os h) (sym objects) (marked_changed old t mid.marked.changed stopped.marked.changed new.marked.changed c.requires.sound c.requires.running.known c.requires.running.runs marks h);
      grants = c.end_own.ensures.grants ∙ (ap (λ (d : Dispatcher). d.grants) stops.rest ∙ ap (λ (d : Dispatcher). d.grants) (freed_in (the_view c.self.inside) c.args.self.now c.args.thread c.abandon_all.new.self.items c.abandon_all.new.self.owned c.abandon_all.new.changed c.self.view_is c.abandon_all.ensures.items));
      table = c.end_own.ensures.table ∙ (ap (λ (d : Dispatcher). d.table) stops.rest ∙ ap (λ (d : Dispatcher). d.table) (freed_in (the_view c.self.inside) c.args.self.now c.args.thread c.abandon_all.new.self.items c.abandon_all.new.self.owned c.abandon_all.new.changed c.self.view_is c.abandon_all.ensures.items));
      alerted = ap (λ (m : Marked). m.alerted) c.end_own.ensures.marked ∙ (ap (λ (d : Dispatcher). d.marked.alerted) stops.rest ∙ ap (λ (d : Dispatcher). d.marked.alerted) (freed_in (the_view c.self.inside) c.args.self.now c.args.thread c.abandon_all.new.self.items c.abandon_all.new.self.owned c.abandon_all.new.changed c.self.view_is c.abandon_all.ensures.items));
    }
