use Rattle.std.proofs.Common.{◌∙◌, ap, arith}
use Rattle.std.proofs.lemmas.List.{with_items_is}
use Rattle.nt_apc.specs.Place.{threads_in}
use Rattle.nt_apc.specs.Queues.{place_of, is_at}
use Rattle.nt_apc.proofs.ViewLemmas.{threads_kept}
use Rattle.nt_apc.proofs.linked.promise.Goals as goal

pub move_place-requires-clause-elsewhere : goal.move_place-requires-clause-elsewhere
move_place-requires-clause-elsewhere c =
    ap (is_at c.args.t)
    (ap (λ places. place_of (threads_in places) c.args.timer) c.deref_mut.ensures.value
    ∙ threads_kept c.make_room.new.places.items c.extend.new.places.items c.extend.ensures.kept c.args.timer
    ∙ ap (λ places. place_of (threads_in places) c.args.timer) c.make_room.ensures.items)
    ∙ c.requires.elsewhere

pub returns-clause-others : goal.returns-clause-others
returns-clause-others c m other =
    rw (with_items_is c.extend.new.places c.move_place.new.places (omega arith))
    (c.move_place.ensures.others m other
    ∙ ap (λ places. place_of (threads_in places) m) c.deref_mut.ensures.value
    ∙ threads_kept c.make_room.new.places.items c.extend.new.places.items c.extend.ensures.kept m
    ∙ ap (λ places. place_of (threads_in places) m) c.make_room.ensures.items)
