use Rattle.std.proofs.Common.{◌≡◌, ◌==◌, ℕ, Bool, true, cond, Option, Some, None, sym, ap, ◌∙◌, subst, arith}
use Rattle.std.proofs.lemmas.Bool.Decides.{nat_tests}
use Rattle.nt_apc.specs.Queues.{KeepsPlaces, place_of, given_up}
use Rattle.nt_machine.specs.Dispatcher.{Dispatcher}
use Rattle.nt_machine.proofs.Timing.{withdrawn_none}
use Rattle.nt_machine.proofs.machine.Machine.forget.Goals as goal

pub returns-in_default-clause-queues : goal.returns-in_default-clause-queues
returns-in_default-clause-queues c =
    sym (withdrawn_none c.args.self.now c.args.object
    (subst (λ (d : Dispatcher). KeepsPlaces d.apcs) c.self.view_is c.place_of.ensures.keeps)
    (subst (λ (d : Dispatcher). place_of d.apcs.places c.args.object ≡ None) c.self.view_is (sym c.place_of.ensures.place ∙ c.in_default.is)))

pub returns-in_default-clause-place : goal.returns-in_default-clause-place
returns-in_default-clause-place c =
    subst (λ (d : Dispatcher). place_of d.apcs.places c.args.object ≡ None) c.self.view_is (sym c.place_of.ensures.place ∙ c.in_default.is)

pub returns-in-Some-clause-place : goal.returns-in-Some-clause-place
returns-in-Some-clause-place c =
    let t = c.in-Some.thread in
    let same : (t == t) ≡ true = grind (arith, nat_tests) in
    c.forget.ensures.place ∙ (ap (λ (p : Option ℕ). given_up t p) (sym c.place_of.ensures.place ∙ c.in-Some.is) ∙ ap (λ (b : Bool). cond b None (Some t)) same)
