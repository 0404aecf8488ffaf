use Rattle.std.proofs.Common.{◌≡◌, ◌∙◌, ◌*◌, List, Bool, ap, subst, length}
use Rattle.nt_explore.specs.declared.loss.Edge.{Edge}
use Rattle.nt_explore.specs.Levels.{passed, IsColumn, IsFirstMark}
use Rattle.nt_explore.proofs.Levels.{first_told}
use Rattle.nt_explore.proofs.loss.first_of.Goals as goal

pub returns : goal.returns
returns c = λ plan kinds start visits first point. first_told plan kinds start visits c.args.edges.now.threads c.args.states c.args.thread c.args.edges.now.pairs.items c.args.edges.now.waits.items c.in_ok-lost.lost.items first c.first_left.result point c.requires.known
    (subst (λ (ls : List Bool). length ls ≡ c.args.edges.now.threads * c.args.states → IsColumn ls c.in_ok-lost.lost.items c.args.edges.now.threads c.args.states c.args.thread) c.deref.ensures.value c.in_ok-lost.ensures)
    (subst (λ (ls : List Bool). IsFirstMark ls c.first_left.result) (ap (λ (es : List Edge). passed es c.deref_mut.result.now) c.deref-2.ensures.value ∙ ap (passed c.args.edges.now.pairs.items) c.deref_mut.ensures.value) c.first_left.ensures)
