use Rattle.std.proofs.Common.{◌≡◌, ◌+◌, ◌<◌, suc, ℕ, List, Option, length, set, ap, ◌∙◌, arith, refl}
use Rattle.nt_tables.specs.declared.handles.Opened.{Opened}
use Rattle.nt_tables.specs.Handles.{opened_at}
use Rattle.nt_core.specs.SetAside.{named_instead}
use Rattle.nt_core.proofs.Renumbering.{so_far, far_length, far_next, far_all}
use Rattle.nt_core.proofs.set_aside.rename_all.Goals as goal

pub loop-number-init : goal.loop-number-init
loop-number-init c = refl

-- as many handles as there were
long : (c : goal.After-new) → length c.loop-number.handles.opened ≡ length c.args.handles.now.opened
long c =
    ap (λ hs. length hs) c.loop-number.invariant
    ∙ far_length (named_instead c.args.from c.args.to) c.loop-number.number c.args.handles.now.opened

below : (c : goal.After-new) → c.loop-number.number < length c.args.handles.now.opened
below c = let test = c.loop-number-test.true in let all = c.len-number-end.ensures in omega (arith, test, all)

pub rename-requires-clause-there : goal.rename-requires-clause-there
rename-requires-clause-there c = let same = long c in let there = below c in let is = c.new.ensures in omega (arith, same, there, is)

pub rename-requires-clause-known : goal.rename-requires-clause-known
rename-requires-clause-known c = let same = long c in let known = c.requires.known in omega (arith, same, known)

pub rename-requires-clause-few : goal.rename-requires-clause-few
rename-requires-clause-few c = let same = long c in let few = c.requires.few in omega (arith, same, few)

pub loop-number-preserved : goal.loop-number-preserved
loop-number-preserved c =
    let f = named_instead c.args.from c.args.to in
    let i = c.loop-number.number in
    let hs = c.args.handles.now.opened in
    let more : suc i ≡ i + 1 = omega arith in
    let below : i < length hs = (let test = c.loop-number-test.true in let all = c.len-number-end.ensures in omega (arith, test, all)) in
    c.rename.ensures
    ∙ (ap (λ (k : ℕ). set c.loop-number.handles.opened k (f (opened_at c.loop-number.handles.opened k))) c.new.ensures
    ∙ (ap (λ (now : List (Option Opened)). set now i (f (opened_at now i))) c.loop-number.invariant
    ∙ (far_next f i hs below ∙ ap (λ n. so_far f n hs) more)))

pub returns : goal.returns
returns c =
    let f = named_instead c.args.from c.args.to in
    let hs = c.args.handles.now.opened in
    let end : c.loop-number.number ≡ length hs = (let test = c.loop-number-test.false in let all = c.len-number-end.ensures in let most = c.loop-number.auto.number-end in omega (arith, test, all, most)) in
    c.loop-number.invariant ∙ (ap (λ n. so_far f n hs) end ∙ far_all f hs)
