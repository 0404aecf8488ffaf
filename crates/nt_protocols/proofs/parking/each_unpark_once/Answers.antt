use Rattle.nt_protocols.proofs.ParkingSteps.{always}
use Rattle.nt_protocols.proofs.parking.each_unpark_once.Goals as goal

pub returns : goal.returns
returns c = λ es can u. ((always es can).sound u).counted
