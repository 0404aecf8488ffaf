use Rattle.std.proofs.Common.{◌≡◌, true, not, sym, ap, ◌∙◌, subst}
use Rattle.nt_objects.specs.Object.{is_event, signaled, with_set}
use Rattle.nt_calls.specs.State.{object_at}
use Rattle.nt_machine.specs.Dispatcher.{Dispatcher}
use Rattle.nt_machine.specs.contracts.machine.Machine.{the_view}
use Rattle.nt_machine.proofs.Changing.{known_event}
use Rattle.nt_machine.proofs.Replacing.{set_may_replace}
use Rattle.nt_machine.proofs.Exchanging.{exchanged_in, exchanged_whole, exchanged_sound, exchanged_fit, exchanged_needed, exchanged_served, raised_differs, raised_already}
use Rattle.nt_machine.proofs.machine.Machine.raise_event.Goals as goal

pub set-requires-clause-known : goal.set-requires-clause-known
set-requires-clause-known c =
    known_event c.self.inside.objects.items c.args.event (subst (λ (x : Dispatcher). is_event (object_at x.objects c.args.event) ≡ true) (sym c.self.view_is) c.requires.kind)

pub serve_one-requires-clause-sound : goal.serve_one-requires-clause-sound
serve_one-requires-clause-sound c = exchanged_sound c.args.self.now (record (the_view c.self.inside) { objects = c.set.new.self.items; owned = c.set.new.self.owned }) c.args.event (with_set true (object_at c.args.self.now.objects c.args.event)) c.requires.fresh (set_may_replace true (object_at c.args.self.now.objects c.args.event) c.requires.kind) (exchanged_in (the_view c.self.inside) c.args.self.now c.args.event (with_set true) c.set.new.self.items c.set.new.self.owned c.self.view_is c.set.ensures.items)

pub serve_one-requires-clause-local : goal.serve_one-requires-clause-local
serve_one-requires-clause-local c = exchanged_fit c.args.self.now (record (the_view c.self.inside) { objects = c.set.new.self.items; owned = c.set.new.self.owned }) c.args.event (with_set true (object_at c.args.self.now.objects c.args.event)) c.requires.fresh (exchanged_in (the_view c.self.inside) c.args.self.now c.args.event (with_set true) c.set.new.self.items c.set.new.self.owned c.self.view_is c.set.ensures.items)

pub serve_one-requires-clause-needed : goal.serve_one-requires-clause-needed
serve_one-requires-clause-needed c = exchanged_needed c.args.self.now (record (the_view c.self.inside) { objects = c.set.new.self.items; owned = c.set.new.self.owned }) c.args.event (with_set true (object_at c.args.self.now.objects c.args.event)) c.requires.fresh (set_may_replace true (object_at c.args.self.now.objects c.args.event) c.requires.kind) (exchanged_in (the_view c.self.inside) c.args.self.now c.args.event (with_set true) c.set.new.self.items c.set.new.self.owned c.self.view_is c.set.ensures.items)

pub returns-then-set : goal.returns-then-set
returns-then-set c =
    exchanged_served c.args.self.now (record (the_view c.self.inside) { objects = c.set.new.self.items; owned = c.set.new.self.owned }) c.serve_one.new.self c.args.event (with_set true (object_at c.args.self.now.objects c.args.event)) c.requires.fresh (known_event c.args.self.now.objects c.args.event c.requires.kind) (raised_differs (object_at c.args.self.now.objects c.args.event) c.set.result c.requires.kind (λ t. c.set.ensures.answer t ∙ ap (λ (x : Dispatcher). not (signaled (object_at x.objects c.args.event) t)) c.self.view_is) c.if-set.true) (exchanged_in (the_view c.self.inside) c.args.self.now c.args.event (with_set true) c.set.new.self.items c.set.new.self.owned c.self.view_is c.set.ensures.items)
    c.serve_one.ensures.served c.serve_one.ensures.sound c.serve_one.ensures.tested.1 c.serve_one.ensures.tested.0 c.serve_one.ensures.marked

pub returns-else-set : goal.returns-else-set
returns-else-set c = raised_already c.args.self.now (record (the_view c.self.inside) { objects = c.set.new.self.items; owned = c.set.new.self.owned }) c.args.event c.set.result c.requires.kind (λ t. c.set.ensures.answer t ∙ ap (λ (x : Dispatcher). not (signaled (object_at x.objects c.args.event) t)) c.self.view_is) c.if-set.false (exchanged_whole (the_view c.self.inside) c.args.self.now c.args.event (with_set true) c.set.new.self.items c.set.new.self.owned c.self.view_is c.set.ensures.items c.set.ensures.owned) c.requires.fresh
