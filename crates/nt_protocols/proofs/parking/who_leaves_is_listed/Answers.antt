use Rattle.nt_protocols.specs.Threads.{after_all}
use Rattle.nt_protocols.specs.Parking.{step, opening}
use Rattle.nt_protocols.proofs.ParkingSteps.{always, leaves_listed}
use Rattle.nt_protocols.proofs.parking.who_leaves_is_listed.Goals as goal

pub returns : goal.returns
returns c = λ es can. leaves_listed (after_all step opening es) (always es can)
