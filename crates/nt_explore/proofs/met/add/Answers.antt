use Rattle.std.proofs.Common.{◌≡◌, ◌<◌, ◌+◌, ◌++◌, [], ◌∷◌, ℕ, List, length, take, drop, ap, sym, subst, ◌∙◌, arith, Vec}
use Rattle.nt_explore.specs.declared.met.Visit.{Visit}
use Rattle.nt_explore.specs.Walk.{IsTable, PutsIn}
use Rattle.nt_explore.proofs.Slots.{table_more, puts_length, written}
use Rattle.nt_explore.proofs.met.add.Goals as goal

pub returns-clause-table : goal.returns-clause-table
returns-clause-table c =
    let grown = c.grow.new.met in
    let visits = grown.visits.items in
    let e = c.args.visit in
    let read = c.deref_mut.result.now in
    let new = c.put.new.slots in
    let value = c.deref_mut.ensures.value in
    let number : c.len-index.result + 1 ≡ length visits + 1 = let it = c.len-index.ensures in grind (arith, it) in
    let puts : PutsIn read new (length read) e.hash (length visits + 1) = subst (λ (n : ℕ). PutsIn read new (length read) e.hash n) number c.put.ensures in
    let same : length new ≡ length grown.slots.items = puts_length read new e.hash (length visits + 1) puts ∙ ap (λ (ns : List ℕ). length ns) value in
    let len : grown.slots.len ≡ length grown.slots.items = sym c.deref_mut.ensures.len ∙ ap (λ (ns : List ℕ). length ns) value in
    let left : take grown.slots.len (new ++ drop (length new) grown.slots.items) ≡ new = written grown.slots.len grown.slots.items new same len in
    let count = ap (λ (v : Vec Visit _). length v.items) c.grow.ensures.visits in
    let there : e.parent < length visits = let it = c.requires.there in omega (arith, it, count) in
    let table = table_more visits e read new there (subst (IsTable visits) (sym value) c.grow.ensures.table) puts in
    subst (λ (es : List Visit). IsTable es (take grown.slots.len (new ++ drop (length new) grown.slots.items))) (sym c.in_ok-push.ensures.items) (subst (IsTable (visits ++ e ∷ [])) (sym left) table)
