use Rattle.nt_machine.specs.Dispatcher.{state}
use Rattle.nt_mail.proofs.Lives.{life_is_run}
use Rattle.nt_replay.proofs.replaying.replay.Goals as goal

pub returns-in-Ok-clause-run : goal.returns-in-Ok-clause-run
returns-in-Ok-clause-run c none = life_is_run (state c.args.base) c.args.entries.now (state c.replay_all-outcome.new.core) none c.in-Ok.ensures.life
