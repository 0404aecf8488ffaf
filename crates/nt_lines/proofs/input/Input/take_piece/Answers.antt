use Rattle.std.proofs.Common.{◌+◌, ◌≤◌, ◌∙◌, ap, length, arith, subst, sym, take, drop, List, ℕ}
use Rattle.std.proofs.lemmas.List.{length-take-le, length-take}
use Rattle.nt_lines.specs.Lines.{EndsLine, MovesBytes}
use Rattle.nt_lines.proofs.Pieces.{ended, moved, some_bytes}
use Rattle.nt_lines.proofs.input.Input.take_piece.Goals as goal

pub returns-in-Some-clause-piece : goal.returns-in-Some-clause-piece
returns-in-Some-clause-piece c =
    let ahead = c.ahead-ahead.result.now in
    let n = c.min.result in
    let within : n ≤ length ahead = omega arith in
    let len = length-take-le n ahead within in
    let ends : EndsLine ahead c.skip.new.self c.args.line.now.items c.put.new.out.items =
    ended ahead c.args.line.now.items c.put.new.out.items n within c.in-Some.place c.skip.new.self c.in-Some.ensures (c.skip.ensures ∙ ap (drop (c.in-Some.place + 1)) (sym c.ahead-ahead.ensures)) c.put.ensures.items in
    let place = (c.in-Some.ensures).0.high in
    let short = length-take c.in-Some.place (take n ahead) in
    (subst (λ (l : List ℕ). EndsLine l c.skip.new.self c.args.line.now.items c.put.new.out.items) c.ahead-ahead.ensures ends, omega (arith, len, place, short))

pub returns-then-len-gt-MAX_LINE-clause-piece : goal.returns-then-len-gt-MAX_LINE-clause-piece
returns-then-len-gt-MAX_LINE-clause-piece c =
    let ahead = c.ahead-ahead.result.now in
    let n = c.min.result in
    let within : n ≤ length ahead = omega arith in
    let len = length-take-le n ahead within in
    let some = some_bytes c.args.self.now c.requires.some in
    let same = ap length c.ahead-ahead.ensures in
    let moves : MovesBytes ahead c.skip-in-None.new.self c.args.line.now.items c.put-in-None.new.out.items =
    moved ahead c.args.line.now.items c.put-in-None.new.out.items n within c.skip-in-None.new.self (omega arith) c.in-None.ensures (c.skip-in-None.ensures ∙ ap (drop _) (sym c.ahead-ahead.ensures)) c.put-in-None.ensures.items in
    (subst (λ (l : List ℕ). MovesBytes l c.skip-in-None.new.self c.args.line.now.items c.put-in-None.new.out.items) c.ahead-ahead.ensures moves, omega (arith, len))

pub returns-else-len-gt-MAX_LINE-clause-piece : goal.returns-else-len-gt-MAX_LINE-clause-piece
returns-else-len-gt-MAX_LINE-clause-piece c =
    let ahead = c.ahead-ahead.result.now in
    let n = c.min.result in
    let within : n ≤ length ahead = omega arith in
    let len = length-take-le n ahead within in
    let some = some_bytes c.args.self.now c.requires.some in
    let same = ap length c.ahead-ahead.ensures in
    let moves : MovesBytes ahead c.skip-in-None.new.self c.args.line.now.items c.put-in-None.new.out.items =
    moved ahead c.args.line.now.items c.put-in-None.new.out.items n within c.skip-in-None.new.self (omega arith) c.in-None.ensures (c.skip-in-None.ensures ∙ ap (drop _) (sym c.ahead-ahead.ensures)) c.put-in-None.ensures.items in
    (subst (λ (l : List ℕ). MovesBytes l c.skip-in-None.new.self c.args.line.now.items c.put-in-None.new.out.items) c.ahead-ahead.ensures moves, omega arith)
