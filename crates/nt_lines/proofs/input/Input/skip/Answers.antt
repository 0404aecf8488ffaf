use Rattle.std.proofs.Common.{◌≤◌, ◌-◌, ◌∙◌, ap, arith, length, drop, List, ℕ}
use Rattle.std.proofs.lemmas.List.{length-take}
use Rattle.nt_lines.proofs.Pieces.{skipped}
use Rattle.nt_lines.proofs.input.Input.skip.Goals as goal

pub returns : goal.returns
returns c =
    let len = ap (λ (l : List ℕ). length l) c.self.view_is in
    let within : c.args.count ≤ c.self.inside.end - c.self.inside.start = omega (arith, simp length-take at len) in
    skipped c.self.inside.start c.self.inside.end c.args.count c.self.inside.chunk.items within ∙ ap (drop c.args.count) c.self.view_is
