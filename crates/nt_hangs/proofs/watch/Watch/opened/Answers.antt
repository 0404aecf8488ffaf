use Rattle.std.proofs.Common.{ℕ, Result, ap, subst}
use Rattle.nt_script.specs.Progress.{progress_of}
use Rattle.nt_script.specs.declared.fault.RunFault.{RunFault}
use Rattle.nt_hangs.specs.Steps.{WatchesLines}
use Rattle.nt_hangs.specs.Watching.{seen_of}
use Rattle.nt_hangs.proofs.Seeing.{unopened}
use Rattle.nt_hangs.proofs.watch.Watch.opened.Goals as goal

pub returns-in-Ok-None : goal.returns-in-Ok-None
returns-in-Ok-None c =
    let seen = seen_of c.args.self.now in
    λ lines taken. unopened lines c.in-Ok-None.count seen seen (subst (λ (it : Result ℕ RunFault). WatchesLines lines it seen) c.in-Ok-None.is-0 taken) (ap progress_of c.in-Ok-None.is-1)
