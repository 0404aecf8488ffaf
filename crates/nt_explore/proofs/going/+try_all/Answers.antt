use Rattle.nt_machine.specs.Dispatcher.{state}
use Rattle.nt_explore.proofs.Losing.{all_acts, tried_more}
use Rattle.nt_explore.proofs.going.+try_all.Goals as goal

pub returns-else-is_without_memory-clause-made : goal.returns-else-is_without_memory-clause-made
returns-else-is_without_memory-clause-made t c =
    tried_more (state c.args.core.now) (state c.call-answer.new.self) (state c.try_all-in-len1-up.new.core) c.args.thread c.args.acts.now _ c.it-item.result c.in-Some.act c.args.goes
    c.is_ok.result c.call-answer.result _ c.try_all-in-len1-up.result (all_acts c.args.acts.now c.it-item.result c.in-len1-up.len_at_least c.it-item.is) c.in-Some.is c.if-not-goes.false
    c.if-is_without_memory.ensures c.is_ok.ensures.value c.call-answer.ensures.called c.try_all-in-len1-up.ensures.made
