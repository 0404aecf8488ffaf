use Rattle.std.proofs.Common.{w32, ◌≡◌, true, sym, subst}
use Rattle.std.proofs.lemmas.Int.{to_z-of_z}
use Rattle.nt_objects.specs.Object.{released, is_semaphore}
use Rattle.nt_calls.specs.State.{object_at}
use Rattle.nt_machine.proofs.Replacing.{known_semaphore, released_differs}
use Rattle.nt_machine.proofs.Exchanging.{may_count_more, exchanged_in, exchanged_sound, exchanged_fit, exchanged_needed, exchanged_served}
use Rattle.nt_machine.specs.contracts.machine.Machine.{the_view}
use Rattle.nt_machine.specs.Dispatcher.{Dispatcher}
use Rattle.nt_machine.proofs.machine.Machine.raise_count.Goals as goal

pub release-requires-clause-known : goal.release-requires-clause-known
release-requires-clause-known c =
    known_semaphore c.self.inside.objects.items c.args.semaphore (subst (λ (x : Dispatcher). is_semaphore (object_at x.objects c.args.semaphore) ≡ true) (sym c.self.view_is) c.requires.kind)

pub serve_one-requires-clause-sound : goal.serve_one-requires-clause-sound
serve_one-requires-clause-sound c = exchanged_sound c.args.self.now (record (the_view c.self.inside) { objects = c.release.new.self.items; owned = c.release.new.self.owned }) c.args.semaphore (released c.args.count (object_at c.args.self.now.objects c.args.semaphore)) c.requires.fresh (may_count_more c.args.self.now c.args.semaphore c.args.count c.requires.fresh c.requires.kind c.requires.positive c.requires.within) (exchanged_in (the_view c.self.inside) c.args.self.now c.args.semaphore (released c.args.count) c.release.new.self.items c.release.new.self.owned c.self.view_is (rw (to_z-of_z w32 c.args.count c.ranges.count) at c.in-Ok.ensures.items))

pub serve_one-requires-clause-local : goal.serve_one-requires-clause-local
serve_one-requires-clause-local c = exchanged_fit c.args.self.now (record (the_view c.self.inside) { objects = c.release.new.self.items; owned = c.release.new.self.owned }) c.args.semaphore (released c.args.count (object_at c.args.self.now.objects c.args.semaphore)) c.requires.fresh (exchanged_in (the_view c.self.inside) c.args.self.now c.args.semaphore (released c.args.count) c.release.new.self.items c.release.new.self.owned c.self.view_is (rw (to_z-of_z w32 c.args.count c.ranges.count) at c.in-Ok.ensures.items))

pub serve_one-requires-clause-needed : goal.serve_one-requires-clause-needed
serve_one-requires-clause-needed c = exchanged_needed c.args.self.now (record (the_view c.self.inside) { objects = c.release.new.self.items; owned = c.release.new.self.owned }) c.args.semaphore (released c.args.count (object_at c.args.self.now.objects c.args.semaphore)) c.requires.fresh (may_count_more c.args.self.now c.args.semaphore c.args.count c.requires.fresh c.requires.kind c.requires.positive c.requires.within) (exchanged_in (the_view c.self.inside) c.args.self.now c.args.semaphore (released c.args.count) c.release.new.self.items c.release.new.self.owned c.self.view_is (rw (to_z-of_z w32 c.args.count c.ranges.count) at c.in-Ok.ensures.items))

pub returns-clause-served : goal.returns-clause-served
returns-clause-served c =
    exchanged_served c.args.self.now (record (the_view c.self.inside) { objects = c.release.new.self.items; owned = c.release.new.self.owned }) c.serve_one.new.self c.args.semaphore (released c.args.count (object_at c.args.self.now.objects c.args.semaphore)) c.requires.fresh (known_semaphore c.args.self.now.objects c.args.semaphore c.requires.kind) (released_differs c.args.count (object_at c.args.self.now.objects c.args.semaphore) c.requires.kind c.requires.positive) (exchanged_in (the_view c.self.inside) c.args.self.now c.args.semaphore (released c.args.count) c.release.new.self.items c.release.new.self.owned c.self.view_is (rw (to_z-of_z w32 c.args.count c.ranges.count) at c.in-Ok.ensures.items))
    c.serve_one.ensures.served c.serve_one.ensures.sound c.serve_one.ensures.tested.1 c.serve_one.ensures.tested.0 c.serve_one.ensures.marked
