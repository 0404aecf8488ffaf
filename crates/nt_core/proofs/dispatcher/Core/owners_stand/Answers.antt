-- the lists of owned mutexes are as many as the threads
use Rattle.std.proofs.Common.{◌≡◌, length, subst}
use Rattle.nt_core.specs.declared.dispatcher.Core.TheInside.{Inside}
use Rattle.nt_machine.specs.Dispatcher.{Dispatcher}
use Rattle.nt_machine.specs.Lawful.{IsLawful}
use Rattle.nt_core.proofs.OwnersKnown.{owner_known}
use Rattle.nt_core.proofs.dispatcher.Core.owners_stand.Goals as goal

pub returns : goal.returns
returns c =
    let lawful : IsLawful c.args.self.now = subst IsLawful c.self.view_is c.self.invariant in
    let inner : length c.self.inside.machine.owned ≡ c.self.inside.machine.threads = subst (λ (i : Inside). length i.machine.owned ≡ i.machine.threads) c.self-inside.view_is c.self-inside.invariant.2 in
    let count : length c.args.self.now.owned ≡ c.args.self.now.threads = subst (λ (d : Dispatcher). length d.owned ≡ d.threads) c.self.view_is inner in
    owner_known c.args.self.now.objects c.args.self.now.owned c.args.self.now.threads lawful.owners count
