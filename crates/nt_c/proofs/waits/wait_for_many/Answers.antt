use Rattle.std.proofs.Common.{◌∙◌}
use Rattle.nt_c.proofs.Many.{asked_of}
use Rattle.nt_c.proofs.waits.wait_for_many.Goals as goal

pub returns : goal.returns
returns c = record {
  asked =
      asked_of c.args.nt.now.cell.held c.wait.new.self.cell.held c.args.who c.args.numbers.now c.as_slice.result.now c.args.all c.args.mode c.wait.result
      (λ few. c.as_slice.ensures.value ∙ c.handles_of-these.ensures.few few) (λ many. c.as_slice.ensures.value ∙ c.handles_of-these.ensures.many many) c.wait.ensures.asked;
}
