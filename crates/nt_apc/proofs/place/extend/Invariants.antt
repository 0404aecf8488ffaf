use Rattle.std.proofs.Common.{◌≡◌, ℕ, ◌+◌, ◌-◌, ◌<◌, vec_len, vec_capacity}
use Rattle.nt_apc.specs.Place.{place_at}
use Rattle.nt_apc.proofs.place.extend.Given as goal

abbrev pub invariant-loop-timer : goal.invariant-loop-timer
invariant-loop-timer l = record {
  room : l.timer < vec_capacity l.places;
  kept : (m : ℕ) → place_at l.places.items m ≡ place_at l.initial.places.items m;
}

abbrev pub decreases-loop-timer : goal.decreases-loop-timer
decreases-loop-timer l = l.timer + 1 - vec_len l.places
