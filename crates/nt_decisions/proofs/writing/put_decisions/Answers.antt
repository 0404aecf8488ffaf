use Rattle.nt_decisions.specs.declared.decision.Chosen.{Chosen}
use Rattle.nt_decisions.specs.declared.decision.Decision.{Decision}
use Rattle.nt_decisions.proofs.Lines.{put_more}
use Rattle.nt_decisions.proofs.writing.put_decisions.Goals as goal

-- what is read beyond the decisions
abbrev any : Decision
any = record { thread = 0; ordinal = 0; chosen = Chosen.Thread 0 }

pub loop-decision-preserved : goal.loop-decision-preserved
loop-decision-preserved c =
    put_more c.args.out.now.items c.loop-decision.out.items c.put_decision.new.out.items c.args.decisions.now c.loop-decision.decision-index any
    c.loop-decision-test.true c.in_ok-put_decision.ensures c.loop-decision.invariant
