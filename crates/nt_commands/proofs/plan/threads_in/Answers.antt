use Rattle.std.proofs.Common.{rules, ◌≡◌, ◌∙◌, true, false, ap, ap₂, sym, codes}
use Rattle.std.specs.Prelude.{string_bytes}
use Rattle.std.specs.Str.{bytes_eq}
use Rattle.nt_commands.specs.CommandLine.{counts_of_three, two_counts}
use Rattle.nt_commands.proofs.Counts.{of_four, of_five}
use Rattle.nt_commands.proofs.plan.threads_in.Goals as goal

pub returns-in-len4 : goal.returns-in-len4
returns-in-len4 c =
    let names : bytes_eq (string_bytes c.command-item.result) (codes "threads") ≡ true = search rules in
    c.two_counts.ensures ∙ ap₂ two_counts c.as_str-in-len4.ensures.value c.as_str-in-len4-2.ensures.value
    ∙ sym (of_four c.args.words.now c.command-item.result c.first-item.result c.second-item.result true c.in-len4.len_at_least c.in-len4.len_below c.command-item.is c.first-item.is c.second-item.is names)

pub returns-in_default-2 : goal.returns-in_default-2
returns-in_default-2 c =
    let other : bytes_eq (string_bytes c.command-item.result) (codes "threads") ≡ false = search rules in
    sym (of_four c.args.words.now c.command-item.result c.first-item.result c.second-item.result false c.in-len4.len_at_least c.in-len4.len_below c.command-item.is c.first-item.is c.second-item.is other)

pub returns-in-len5 : goal.returns-in-len5
returns-in-len5 c =
    let command = c.command-item-then-words-lt6 in
    let first = c.first-item-then-words-lt6 in
    let second = c.second-item-then-words-lt6 in
    let names : bytes_eq (string_bytes command.result) (codes "threads") ≡ true = search rules in
    c.counts_of_three.ensures ∙ ap (λ t. counts_of_three t c.as_str-in-len5-2.result.now c.as_str-in-len5-3.result.now) c.as_str-in-len5.ensures.value
    ∙ ap₂ (counts_of_three (string_bytes first.result)) c.as_str-in-len5-2.ensures.value c.as_str-in-len5-3.ensures.value
    ∙ sym (of_five c.args.words.now command.result first.result second.result c.third-item.result true c.in-len5.len_at_least c.in-len5.len_below command.is first.is second.is c.third-item.is names)

pub returns-in_default-3 : goal.returns-in_default-3
returns-in_default-3 c =
    let command = c.command-item-then-words-lt6 in
    let first = c.first-item-then-words-lt6 in
    let second = c.second-item-then-words-lt6 in
    let other : bytes_eq (string_bytes command.result) (codes "threads") ≡ false = search rules in
    sym (of_five c.args.words.now command.result first.result second.result c.third-item.result false c.in-len5.len_at_least c.in-len5.len_below command.is first.is second.is c.third-item.is other)
