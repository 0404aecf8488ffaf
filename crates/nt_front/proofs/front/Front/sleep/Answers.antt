use Rattle.std.proofs.Common.{◌∷◌, [], ◌++◌, ap, ◌∙◌}
use Rattle.nt_mail.specs.declared.knowledge.Knowledge.{Knowledge}
use Rattle.nt_mail.specs.Entries.{given}
use Rattle.nt_front.specs.Holds.{IsGiven}
use Rattle.nt_front.proofs.Polling.{given_when_ready}
use Rattle.nt_front.proofs.front.Front.sleep.Goals as goal

pub returns-in-Ready : goal.returns-in-Ready
returns-in-Ready g c =
    let entry = c.in-Ready.receipt.entry in
    let told : IsGiven c.loop.sleeper entry c.in-Ready.receipt.result c.in-Ready.pass = given_when_ready c.loop.sleeper entry c.in-Ready.receipt.result c.in-Ready.pass c.in-Ready.ensures in
    let kept = c.note_looks.ensures ∙ c.pass.view_is in
    let same = c.loop.invariant in record {
      status = told.status;
      result_is = told.result_is;
      thread = ap (λ (k : Knowledge). k.thread) kept ∙ told.thread ∙ same.thread;
      made = ap (λ (k : Knowledge). k.made) kept ∙ told.made ∙ same.made;
      got = ap (λ (k : Knowledge). k.got) kept ∙ told.got ∙ ap (λ x. x ++ given entry told.status ∷ []) same.got;
      moments = ap (λ (k : Knowledge). k.moments) kept ∙ told.moments ∙ same.moments;
    }
