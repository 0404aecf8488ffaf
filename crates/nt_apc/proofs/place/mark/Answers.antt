use Rattle.std.proofs.Common.{◌≡◌, Some, None, sym, ◌∙◌, ap}
use Rattle.std.proofs.Math.Seq.{map-set_same}
use Rattle.nt_apc.specs.Place.{place_at, thread_of_place}
use Rattle.nt_apc.proofs.place.mark.Goals as goal

pub returns-in-Some-clause-threads : goal.returns-in-Some-clause-threads
returns-in-Some-clause-threads c =
    let here : place_at c.args.places.now c.get.result ≡ Some c.in-Some.place = ap (place_at c.args.places.now) c.get.ensures ∙ (cc) in
    map-set_same thread_of_place c.args.places.now c.get.result _ None (sym (ap thread_of_place here))
