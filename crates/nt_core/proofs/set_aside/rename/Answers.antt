use Rattle.std.proofs.Common.{◌≡◌, ◌==◌, true, cond, List, Option, Some, None, set, sym, ap, ◌∙◌, arith}
use Rattle.std.proofs.lemmas.Bool.Decides.{nat_tests}
use Rattle.nt_tables.specs.declared.handles.Opened.{Opened}
use Rattle.nt_tables.specs.Handles.{opened_at}
use Rattle.nt_core.specs.SetAside.{named_instead}
use Rattle.nt_core.proofs.Renumbering.{set_again}
use Rattle.nt_core.proofs.set_aside.rename.Goals as goal

pub returns : goal.returns
returns c =
    let f = named_instead c.args.from c.args.to in
    let hs = c.args.handles.now.opened in
    let named : opened_at hs c.args.handle ≡ Some c.in-Some.opened = sym c.get.ensures ∙ c.in-Some.is in
    let same : (c.in-Some.opened.object == c.args.from) ≡ true = (let test = c.if-ne.false in let is = c.ne.ensures in grind (arith, nat_tests, test, is)) in
    c.add_again.ensures.opened
    ∙ (ap (λ (now : List (Option Opened)). set now c.args.handle (Some (record { object = c.args.to; access = c.in-Some.opened.access }))) c.close-from.ensures.opened
    ∙ (set_again hs c.args.handle None (Some (record { object = c.args.to; access = c.in-Some.opened.access }))
    ∙ (ap (λ b. set hs c.args.handle (Some (record { object = cond b c.args.to c.in-Some.opened.object; access = c.in-Some.opened.access }))) (sym same)
    ∙ ap (λ (x : Option Opened). set hs c.args.handle (f x)) (sym named))))
