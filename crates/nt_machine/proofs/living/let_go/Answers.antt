use Rattle.std.proofs.Common.{◌≡◌, ◌∷◌, ◌+◌, ℕ, true, List, set, sym, ap, ◌∙◌, subst, arith, Bool}
use Rattle.std.specs.Prelude.{drop, nat_lt}
use Rattle.std.proofs.lemmas.Bool.Decides.{nat_tests}
use Rattle.std.proofs.lemmas.List.{at_drop_more}
use Rattle.nt_tables.specs.Handles.{count_named}
use Rattle.nt_machine.specs.Lawful.{LetsGoBut}
use Rattle.nt_machine.proofs.LettingGo.{let_go_named, let_go_marked, dropped_member}
use Rattle.nt_machine.proofs.living.let_go.Goals as goal
use Rattle.nt_machine.proofs.living.let_go.Goals.{then-count-eq0, else-count-eq0}

pub mark_left-requires : goal.mark_left-requires
mark_left-requires c =
    let i = c.loop-object.object-index in
    let h = c.object-item.result in
    let split : drop i c.args.ended.now ≡ h ∷ drop (i + 1) c.args.ended.now = at_drop_more (λ xs. xs) c.args.ended.now i h c.loop-object-test.true ∙ ap (λ (x : ℕ). x ∷ drop (i + 1) c.args.ended.now) (sym c.object-item.is) in
    let known = c.requires h (dropped_member i c.args.ended.now h (drop (i + 1) c.args.ended.now) split) in
    let count = c.loop-object.invariant.count in
    omega (arith, known, count)

pub loop-object-preserved : goal.loop-object-preserved
loop-object-preserved c =
    let i = c.loop-object.object-index in
    let h = c.object-item.result in
    let opened = c.args.handles.now.opened in
    let ended = c.args.ended.now in
    let old = c.args.leaving.now in
    let left = drop (i + 1) ended in
    let split : drop i ended ≡ h ∷ left = at_drop_more (λ xs. xs) ended i h c.loop-object-test.true ∙ ap (λ (x : ℕ). x ∷ left) (sym c.object-item.is) in
    let far : LetsGoBut (h ∷ left) opened ended old c.loop-object.leaving = subst (λ (xs : List ℕ). LetsGoBut xs opened ended old c.loop-object.leaving) split c.loop-object.invariant in
    elim c.if-count-eq0.branch [
      | then-count-eq0 w ↦
          let known = c.requires h (dropped_member i ended h left split) in
          let is : c.if-count-eq0.leaving ≡ set c.loop-object.leaving h true = w.leaving-is ∙ w.mark_left.ensures in
          subst (λ (marks : List Bool). LetsGoBut left opened ended old marks) (sym is) (let_go_marked opened ended old c.loop-object.leaving h left far known)
      | else-count-eq0 w ↦
          let test = w.if-count-eq0.false in
          let count = c.count.ensures in
          let some : nat_lt 0 (count_named opened h) ≡ true = grind (arith, nat_tests, test, count) in
          subst (λ (marks : List Bool). LetsGoBut left opened ended old marks) (sym w.leaving-is) (let_go_named opened ended old c.loop-object.leaving h left far some)
    ]
