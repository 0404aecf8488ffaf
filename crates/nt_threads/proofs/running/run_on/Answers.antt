use Rattle.std.proofs.Common.{◌≡◌, ◌++◌, ◌∙◌, ℕ, Bool, List, true, rules, sym, subst}
use Rattle.nt_calls.specs.State.{State, opening}
use Rattle.nt_machine.specs.Dispatcher.{state}
use Rattle.nt_mail.specs.declared.entry.Entry.{Entry}
use Rattle.nt_mail.specs.Entries.{Each}
use Rattle.nt_front.specs.Held.{IsAccounted}
use Rattle.nt_front.specs.Runs.{IsRunFrom, IsLawfulHistory, IsLawfulRun, LeadTo}
use Rattle.nt_front.proofs.Since.{base_opens, no_entry}
use Rattle.nt_threads.proofs.Planned.{plan_told}
use Rattle.nt_threads.proofs.running.run_on.Goals as goal

pub returns-clause-comes : goal.returns-clause-comes
returns-clause-comes g c whole =
    let n = g.N.Named.front.threads in
    let lasts = g.N.Named.front.lasts in
    let base = state c.finish-history.result.base in
    let es = c.finish-history.result.entries.items in
    let first : c.finish-history.result.first ≡ 1 = search rules in
    let told = c.finish-history.ensures.told in
    let opened : base ≡ opening n = base_opens lasts n told.0 base (subst (λ (f : ℕ). LeadTo lasts n f told.0 base) first told.1) in
    let ran : IsLawfulRun c.finish-history.result.base es = subst (λ (b : Bool). IsLawfulHistory b c.finish-history.result.base es) c.requires.once c.finish-history.ensures.run in
    record { core = ran.0; lawful = ran.1; run = subst (λ (s : State). IsRunFrom s es (state ran.0)) opened ran.2 }

pub returns-clause-whole : goal.returns-clause-whole
returns-clause-whole g c whole =
    let es = c.finish-history.result.entries.items in
    let holds = c.drive_on-holds.result.0.items in
    let first : c.finish-history.result.first ≡ 1 = search rules in
    let driven : c.drive_on-holds.result.1 ≡ true = search rules in
    let done = c.drive_on-holds.ensures.whole driven in
    let told = c.finish-history.ensures.told in
    let none = no_entry told.0 (sym first ∙ told.1.numbers) in
    let all = subst (λ (before : List Entry). Each (IsAccounted (before ++ es)) holds) none told.2 in
    plan_told es holds c.args.passes.items g.N.Named.front.threads c.args.rounds done.0 c.requires.passes.0 c.requires.passes.1 all c.drive_on-holds.ensures.threads done.1
