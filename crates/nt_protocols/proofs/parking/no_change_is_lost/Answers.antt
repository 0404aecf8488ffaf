use Rattle.nt_protocols.specs.Threads.{after_all}
use Rattle.nt_protocols.specs.Parking.{step, opening}
use Rattle.nt_protocols.proofs.ParkingSteps.{always, no_change_lost}
use Rattle.nt_protocols.proofs.parking.no_change_is_lost.Goals as goal

pub returns : goal.returns
returns c = λ es can. no_change_lost (after_all step opening es) (always es can)
