use Rattle.std.proofs.Common.{◌≡◌, ◌∙◌, ◌++◌, codes, ap, length, arith, length-append, List, ℕ}
use Rattle.nt_machine.specs.Dispatcher.{state}
use Rattle.nt_script.specs.Transcript.{waiting_text}
use Rattle.nt_script.proofs.Texts.{end_of_none, end_of_some}
use Rattle.nt_script.proofs.session.Session.put_end.Goals as goal
use Rattle.nt_script.proofs.session.Session.put_end.Goals.{then-len, else-len}

pub returns : goal.returns
returns c =
    let waiting = waiting_text (state c.args.self.now.core) c.args.self.now.bindings.scope.threads in
    let start : c.put.new.out.items ≡ codes "end: pending" = c.put.ensures.items ∙ ap (λ (l : List ℕ). l ++ codes "end: pending") (c.in_ok-reserve.ensures.items ∙ c.requires) in
    let put : c.put_waiting.new.out.items ≡ codes "end: pending" ++ waiting = c.put_waiting.ensures.items ∙ ap (λ (l : List ℕ). l ++ waiting) start in
    let long : length c.put_waiting.new.out.items ≡ length (codes "end: pending" ++ waiting) = ap length put in
    elim c.if-len.branch [
      | then-len w ↦ end_of_none (codes "end: pending") waiting c.if-len.out.items c.put-2.new.out.items (omega (arith, long, length-append (codes "end: pending") waiting, w.if-len.true, c.len.ensures)) (rw w.out-is (w.put-then-len.ensures.items ∙ ap (λ (l : List ℕ). l ++ codes " none") put)) c.put-2.ensures.items
      | else-len w ↦ end_of_some (codes "end: pending") waiting c.if-len.out.items c.put-2.new.out.items (omega (arith, long, length-append (codes "end: pending") waiting, w.if-len.false, c.len.ensures)) (rw w.out-is put) c.put-2.ensures.items
    ]
