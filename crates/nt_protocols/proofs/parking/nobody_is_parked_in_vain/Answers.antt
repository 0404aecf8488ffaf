use Rattle.nt_protocols.specs.Threads.{after_all}
use Rattle.nt_protocols.specs.Parking.{step, opening}
use Rattle.nt_protocols.proofs.ParkingSteps.{always, in_vain}
use Rattle.nt_protocols.proofs.parking.nobody_is_parked_in_vain.Goals as goal

pub returns : goal.returns
returns c = λ es can. in_vain (after_all step opening es) (always es can)
