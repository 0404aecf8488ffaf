use Rattle.std.proofs.Common.{rules, ◌≡◌, ◌∙◌, ap, ap₂, true}
use Rattle.std.proofs.lemmas.Result.{IfOk-weaker}
use Rattle.clap.specs.Words.{App, app_of, rule_of, with_rule, with_subcommand}
use Rattle.clap.specs.Simple.{app_of_fields, on_top}
use Rattle.nt_commands.specs.Command.{file_rule, program_app, script_app}
use Rattle.nt_commands.proofs.plan.command.Goals as goal

pub returns : goal.returns
returns c =
    let file_is : rule_of c.action-file.result ≡ file_rule = search rules in
    let script_is : app_of c.in_ok-script.script ≡ script_app = c.in_ok-script.ensures.shape (search rules) ∙ ap₂ with_rule c.new-2.ensures.app file_is in
    let required : app_of c.subcommand_required.result ≡ on_top (λ s. record s { subcommand_required = true }) (app_of c.new-3.result) = ap app_of_fields c.subcommand_required.ensures in
    let no_flag : app_of c.disable_help_flag.result ≡ on_top (λ s. record s { disable_help_flag = true }) (app_of c.subcommand_required.result) = ap app_of_fields c.disable_help_flag.ensures in
    let no_help : app_of c.disable_help_subcommand.result ≡ on_top (λ s. record s { disable_help_subcommand = true }) (app_of c.disable_help_flag.result) = ap app_of_fields c.disable_help_subcommand.ensures in
    let program_is : app_of c.disable_help_subcommand.result ≡ program_app =
    no_help ∙ ap (on_top (λ s. record s { disable_help_subcommand = true })) (no_flag ∙ ap (on_top (λ s. record s { disable_help_flag = true })) (required ∙ ap (on_top (λ s. record s { subcommand_required = true })) c.new-3.ensures.app)) in
    IfOk-weaker c.subcommand.result _ _ (λ command added. added.shape (search rules) ∙ ap₂ with_subcommand program_is (ap (λ (a : App). a.top) script_is)) c.subcommand.ensures
