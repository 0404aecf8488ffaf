use Rattle.std.proofs.Common.{ℕ, ◌∷◌, [], ◌++◌, Option, sym, ap, ◌∙◌, subst}
use Rattle.nt_machine.specs.Dispatcher.{state}
use Rattle.nt_life.specs.declared.renewal.Renewal.{Renewal}
use Rattle.nt_life.specs.Renewals.{Tells}
use Rattle.nt_answers.proofs.Telling.{call_told}
use Rattle.nt_mail.specs.declared.entry.Entry.{Entry}
use Rattle.nt_mail.specs.declared.entry.Entry.TheVariants.{Called, Renewed}
use Rattle.nt_front.specs.Books.{IsCarriedOut}
use Rattle.nt_front.proofs.Told.{can_hand, tells_handle, carried_own, carried_renewal}
use Rattle.nt_front.proofs.write.write_call.Goals as goal

pub write_renewal-requires-clause-handle : goal.write_renewal-requires-clause-handle
write_renewal-requires-clause-handle c =
    let after = c.call_told-result.new.self in
    let result = c.call_told-result.result in
    tells_handle (state c.args.life.now.core) c.from.result c.args.call c.in-Some.renewal result after.core.grants (state after.core)
    (subst (λ (t : Option Renewal). Tells (state c.args.life.now.core) c.from.result c.args.call t result after.core.grants (state after.core)) c.in-Some.is c.call_told-result.ensures.told)

pub called-requires : goal.called-requires
called-requires c =
    let old = c.args.life.now in
    let new = c.call_told-result.new.self in
    let result = c.call_told-result.result in
    let told = subst (λ (t : Option Renewal). Tells (state old.core) c.from.result c.args.call t result new.core.grants (state new.core)) c.in-None.is c.call_told-result.ensures.told in
    can_hand c.args.call result (call_told (state old.core) (state new.core) c.from.result c.args.call result new.core.grants told)

pub returns-in-None-clause-carried_out : goal.returns-in-None-clause-carried_out
returns-in-None-clause-carried_out c =
    let old = c.args.life.now in
    let new = c.call_told-result.new.self in
    let made = c.call_told-result.ensures in
    let result = c.call_told-result.result in
    let told = subst (λ (t : Option Renewal). Tells (state old.core) c.from.result c.args.call t result new.core.grants (state new.core)) c.in-None.is made.told in (
      Called c.args.who c.args.call result,
      c.push_reserved.ensures.items ∙ ap (λ (x : Entry). c.args.journal.now.items ++ x ∷ []) c.called.ensures,
      subst (λ (who : ℕ). IsCarriedOut old who c.args.call result (Called who c.args.call result) new) (c.from.ensures ∙ c.get.ensures)
          (carried_own old new c.from.result c.args.call result told made.makes made.stacked made.pace made.unchanged made.lawful),
    )

pub returns-in-Some-clause-carried_out : goal.returns-in-Some-clause-carried_out
returns-in-Some-clause-carried_out c =
    let old = c.args.life.now in
    let new = c.call_told-result.new.self in
    let made = c.call_told-result.ensures in
    let result = c.call_told-result.result in
    let renewal = c.in-Some.renewal in
    let told = subst (λ (t : Option Renewal). Tells (state old.core) c.from.result c.args.call t result new.core.grants (state new.core)) c.in-Some.is made.told in
    let written = c.write_renewal.ensures.journal in (
      Renewed c.args.who renewal written.0,
      written.2,
      subst (λ (who : ℕ). IsCarriedOut old who c.args.call result (Renewed who renewal written.0) new) (c.from.ensures ∙ c.get.ensures)
          (carried_renewal old new c.from.result c.args.call renewal written.0 result written.1 (λ none. sym c.in-Some.is ∙ made.own none) told made.makes made.stacked made.pace made.unchanged made.lawful),
    )
