use Rattle.std.proofs.Common.{◌≡◌, drop}
use Rattle.nt_apc.specs.Place.{all_vacated}
use Rattle.nt_apc.proofs.place.vacate_all.Given as goal

abbrev pub invariant-loop-timer : goal.invariant-loop-timer
invariant-loop-timer l = all_vacated l.places (drop l.timer-index l.timers) ≡ all_vacated l.initial.places l.timers
