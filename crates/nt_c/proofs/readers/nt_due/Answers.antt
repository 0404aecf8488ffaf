use Rattle.std.proofs.Common.{◌≡◌, ◌≤◌, ◌⊎◌, ℕ, sym, subst, refl, inl, inr, arith}
use Rattle.std.proofs.lemmas.Bool.Decides.{nat_tests}
use Rattle.std.specs.Prelude.{Bool, true, nat_le, Option, Some, MatchBool, MatchOption}
use Rattle.nt_status.specs.declared.limits.TheConstants.{MAX_MOMENT}
use Rattle.nt_machine.specs.Dispatcher.{Dispatcher, state}
use Rattle.nt_calls.specs.Steps.{IsNextMoment, NothingDue}
use Rattle.nt_sleepers.specs.Sleepers.{Sleeping}
use Rattle.nt_c.specs.declared.handle.Nt.{Nt}
use Rattle.nt_c.specs.Asks.{ReadsDue}
use Rattle.nt_c.proofs.readers.nt_due.Goals as goal

-- what a dispatcher tells
abbrev Tells : Dispatcher → ℕ → ℕ → ℕ → ℕ → Type 0
Tells core m number before after =
    ((number ≡ 0) × IsNextMoment (state core) m after) ⊎ (((number ≡ 259) × (after ≡ before)) × NothingDue (state core) m)

-- what is told, by whether there can be such a moment, and by what the handle has
abbrev TellsBy : Bool → Option Sleeping → ℕ → ℕ → ℕ → ℕ → Type 0
TellsBy known held m number before after =
    MatchBool known (MatchOption held ((number ≡ 6) × (after ≡ before)) (λ s. Tells s.core m number before after)) ((number ≡ 87) × (after ≡ before))

told : (nt : Nt) (s : Sleeping) (core : Dispatcher) (m up_to number before after : ℕ) → nt.cell.held ≡ Some s → core ≡ s.core → up_to ≡ m → m ≤ MAX_MOMENT → Tells core up_to number before after → ReadsDue m nt number before after
told nt s core m up_to number before after held its same known tells =
    let test : nat_le m MAX_MOMENT ≡ true = grind (arith, nat_tests, known) in
    subst (λ (b : Bool). TellsBy b nt.cell.held m number before after) (sym test)
    (subst (λ (o : Option Sleeping). TellsBy true o m number before after) (sym held)
    (subst (λ (d : Dispatcher). Tells d m number before after) its
    (subst (λ (n : ℕ). Tells core n number before after) same tells)))

pub returns-in_default-due-clause-reads : goal.returns-in_default-due-clause-reads
returns-in_default-due-clause-reads c =
    told c.args.nt.now c.held_mut.result.now c.core.result.now c.args.m c.in-Some.up_to 259 c.args.out.now c.args.out.now c.held_mut.ensures.value c.core.ensures c.in-Some.ensures.value
    (c.in-Some.ensures.valid.0 refl)
    (inr ((refl, refl), c.in_default-due.ensures))

pub returns-clause-reads : goal.returns-clause-reads
returns-clause-reads c =
    told c.args.nt.now c.held_mut.result.now c.core.result.now c.args.m c.in-Some.up_to 0 c.args.out.now c.get.result c.held_mut.ensures.value c.core.ensures c.in-Some.ensures.value
    (c.in-Some.ensures.valid.0 refl)
    (inl (refl, subst (λ (n : ℕ). IsNextMoment (state c.core.result.now) c.in-Some.up_to n) (sym c.get.ensures.value) c.in-Some-due.ensures))
