use Rattle.std.proofs.Common.{◌∙◌, map, subst}
use Rattle.std.specs.Prelude.{string_bytes}
use Rattle.clap.specs.Words.{app_of}
use Rattle.nt_commands.specs.CommandLine.{FindsFile}
use Rattle.nt_commands.proofs.CommandLines.{are_texts, refused_by, taken_by}
use Rattle.nt_commands.proofs.plan.file_in.Goals as goal

pub returns-in-Ok-try_get_matches_from : goal.returns-in-Ok-try_get_matches_from
returns-in-Ok-try_get_matches_from c =
    let found = c.in-Ok-try_get_matches_from in
    subst (λ file. FindsFile file c.file_of.result)
    (taken_by (app_of c.in-Ok.command) (map string_bytes c.args.words.now) found.matches c.in-Ok.ensures (are_texts c.args.words.now) found.ensures.kinds found.ensures.matches) c.file_of.ensures

pub returns : goal.returns
returns c =
    refused_by (app_of c.in-Ok.command) (map string_bytes c.args.words.now) c.in-Err.error c.in-Ok.ensures (are_texts c.args.words.now) c.in-Err.ensures.kinds
    (λ memory. c.in_default-kind.not-OutOfMemory (c.kind.ensures ∙ memory))
