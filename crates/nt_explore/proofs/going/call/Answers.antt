use Rattle.nt_explore.proofs.going.call.Goals as goal

pub returns-clause-made : goal.returns-clause-made
returns-clause-made c = (c.call-result.result, c.call-result.new.self.grants, c.if-is_without_memory.ensures, c.call-result.ensures.called)
