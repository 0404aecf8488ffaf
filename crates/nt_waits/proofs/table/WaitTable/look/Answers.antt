use Rattle.std.proofs.Common.{◌≡◌, Option, Some, None, refl, ap, sym, ◌∙◌}
use Rattle.std.specs.Option.{option_map}
use Rattle.nt_waits.specs.declared.pending.Pending.{Pending}
use Rattle.nt_waits.specs.Table.{slot_at}
use Rattle.nt_waits.specs.Waits.{wait_of, only_of}
use Rattle.nt_waits.proofs.ViewLemmas.{get-waits, IsSome-mapped}
use Rattle.nt_waits.proofs.table.WaitTable.look.Goals as goal

pub only_in-requires : goal.only_in-requires
only_in-requires c =
    let items = c.self.inside.waits.items in
    let shown = ap (λ v. wait_of v c.args.t) (sym c.self.view_is) ∙ get-waits items c.args.t in
    rw c.deref.ensures.value (IsSome-mapped (slot_at items c.args.t) (rw shown at c.requires.there))

in_turn : (slot : Option Pending) → option_map (λ p. only_of p.wait) slot ≡ option_map only_of (option_map (λ p. p.wait) slot)
in_turn None = refl
in_turn (Some p) = refl

pub returns-in-Some-clause-told : goal.returns-in-Some-clause-told
returns-in-Some-clause-told c =
    let items = c.self.inside.waits.items in
    let shown = ap (λ v. wait_of v c.args.t) (sym c.self.view_is) ∙ get-waits items c.args.t in
    (rw c.deref.ensures.value at c.in-Some.ensures) ∙ (in_turn (slot_at items c.args.t) ∙ ap (option_map only_of) (sym shown))

pub returns-in-None-clause-told : goal.returns-in-None-clause-told
returns-in-None-clause-told c =
    let items = c.self.inside.waits.items in
    let shown = ap (λ v. wait_of v c.args.t) (sym c.self.view_is) ∙ get-waits items c.args.t in
    (rw c.deref.ensures.value at c.in-None.ensures) ∙ (in_turn (slot_at items c.args.t) ∙ ap (option_map only_of) (sym shown))
