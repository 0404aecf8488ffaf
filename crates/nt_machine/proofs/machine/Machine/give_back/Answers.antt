use Rattle.std.proofs.Common.{◌≡◌, true, sym, subst}
use Rattle.nt_objects.specs.Object.{unlocked, owned_by}
use Rattle.nt_calls.specs.State.{object_at}
use Rattle.nt_machine.proofs.Replacing.{known_mutex, unlocked_differs}
use Rattle.nt_machine.proofs.Exchanging.{may_unlock, exchanged_sound, exchanged_fit, exchanged_needed, exchanged_served, exchanged_in}
use Rattle.nt_machine.specs.contracts.machine.Machine.{the_view}
use Rattle.nt_machine.specs.Dispatcher.{Dispatcher}
use Rattle.nt_machine.proofs.machine.Machine.give_back.Goals as goal

pub unlock-requires-clause-known : goal.unlock-requires-clause-known
unlock-requires-clause-known c =
    known_mutex c.self.inside.objects.items c.args.mutex c.args.thread (subst (λ (x : Dispatcher). owned_by (object_at x.objects c.args.mutex) c.args.thread ≡ true) (sym c.self.view_is) c.requires.owner)

pub serve_one-requires-clause-sound : goal.serve_one-requires-clause-sound
serve_one-requires-clause-sound c = exchanged_sound c.args.self.now (record (the_view c.self.inside) { objects = c.unlock.new.self.items; owned = c.unlock.new.self.owned }) c.args.mutex (unlocked (object_at c.args.self.now.objects c.args.mutex)) c.requires.fresh (may_unlock c.args.self.now c.args.mutex c.args.thread c.requires.fresh c.requires.owner) (exchanged_in (the_view c.self.inside) c.args.self.now c.args.mutex unlocked c.unlock.new.self.items c.unlock.new.self.owned c.self.view_is c.in-Ok.ensures.items)

pub serve_one-requires-clause-local : goal.serve_one-requires-clause-local
serve_one-requires-clause-local c = exchanged_fit c.args.self.now (record (the_view c.self.inside) { objects = c.unlock.new.self.items; owned = c.unlock.new.self.owned }) c.args.mutex (unlocked (object_at c.args.self.now.objects c.args.mutex)) c.requires.fresh (exchanged_in (the_view c.self.inside) c.args.self.now c.args.mutex unlocked c.unlock.new.self.items c.unlock.new.self.owned c.self.view_is c.in-Ok.ensures.items)

pub serve_one-requires-clause-needed : goal.serve_one-requires-clause-needed
serve_one-requires-clause-needed c = exchanged_needed c.args.self.now (record (the_view c.self.inside) { objects = c.unlock.new.self.items; owned = c.unlock.new.self.owned }) c.args.mutex (unlocked (object_at c.args.self.now.objects c.args.mutex)) c.requires.fresh (may_unlock c.args.self.now c.args.mutex c.args.thread c.requires.fresh c.requires.owner) (exchanged_in (the_view c.self.inside) c.args.self.now c.args.mutex unlocked c.unlock.new.self.items c.unlock.new.self.owned c.self.view_is c.in-Ok.ensures.items)

pub returns : goal.returns
returns c =
    exchanged_served c.args.self.now (record (the_view c.self.inside) { objects = c.unlock.new.self.items; owned = c.unlock.new.self.owned }) c.serve_one.new.self c.args.mutex (unlocked (object_at c.args.self.now.objects c.args.mutex)) c.requires.fresh (known_mutex c.args.self.now.objects c.args.mutex c.args.thread c.requires.owner) (unlocked_differs (object_at c.args.self.now.objects c.args.mutex) c.args.thread c.requires.owner (c.requires.fresh.steady.sound.objects c.args.mutex)) (exchanged_in (the_view c.self.inside) c.args.self.now c.args.mutex unlocked c.unlock.new.self.items c.unlock.new.self.owned c.self.view_is c.in-Ok.ensures.items)
    c.serve_one.ensures.served c.serve_one.ensures.sound c.serve_one.ensures.tested.1 c.serve_one.ensures.tested.0 c.serve_one.ensures.marked
