use Rattle.std.proofs.Common.{rules, ◌≡◌, ◌∙◌, None, Some, ap, codes}
use Rattle.std.specs.Prelude.{option_map, string_bytes}
use Rattle.clap.specs.Matches.{first_value, found_of}
use Rattle.nt_commands.proofs.Matches.{script_file}
use Rattle.nt_commands.proofs.plan.file_of.Goals as goal

pub returns-in_default-get_str : goal.returns-in_default-get_str
returns-in_default-get_str c =
    let value : option_map (λ s. s.now) c.get_str.result ≡ first_value (found_of c.in-Some-script-default.found.now) (codes "file") = search rules in
    let none : c.get_str.result ≡ None = search rules in
    script_file c.args.matches.now c.subcommand.result c.in-Some-script-default.field-0-0 c.in-Some-script-default.found c.get_str.result c.subcommand.ensures.name c.subcommand.ensures.rows
    (search rules) (search rules) value ∙ ap (option_map (λ s. s.now)) none

pub returns : goal.returns
returns c =
    let value : option_map (λ s. s.now) c.get_str.result ≡ first_value (found_of c.in-Some-script-default.found.now) (codes "file") = search rules in
    let text : c.in-Some.file.now ≡ string_bytes c.in-Ok.file = search rules in
    script_file c.args.matches.now c.subcommand.result c.in-Some-script-default.field-0-0 c.in-Some-script-default.found c.get_str.result c.subcommand.ensures.name c.subcommand.ensures.rows
    (search rules) (search rules) value ∙ ap (option_map (λ s. s.now)) c.in-Some.is ∙ ap Some text
