use Rattle.nt_apart.proofs.Exchanging.{exchange_alike, lawful_in_order}
use Rattle.nt_apart.proofs.Fewer.{orders_renamed}
use Rattle.nt_apart.proofs.Chosen.{one_is_enough}
use Rattle.nt_apart.proofs.lanes.one_of_alike_is_enough.Goals as goal

pub returns-clause-exchange : goal.returns-clause-exchange
returns-clause-exchange c = exchange_alike

pub returns-clause-orderly : goal.returns-clause-orderly
returns-clause-orderly c = lawful_in_order

pub returns-clause-images : goal.returns-clause-images
returns-clause-images c = orders_renamed

pub returns-clause-enough : goal.returns-clause-enough
returns-clause-enough c = one_is_enough
