-- The command line as clap has it. No public clause cites this.
use Rattle.std.specs.Prelude.{true, List, Option, None, Some, option_and_then, if◌then◌else◌, codes}
use Rattle.std.specs.Str.{bytes_eq}
use Rattle.clap.specs.Words.{App, Row, Rule, Text, first_of, new_app, new_rule, subcommand_rows_of, with_rule, with_subcommand}
use Rattle.clap.specs.declared.builder.ArgAction.TheVariants.{Set}
use Rattle.clap.specs.declared.parser.ArgMatches.{ArgMatches}

-- FILE
abbrev pub file_rule : Rule
file_rule = record (new_rule (codes "file")) { required = true; action = Some Set }

-- `script FILE`
abbrev pub script_app : App
script_app = with_rule (new_app (codes "script")) file_rule

-- `ntrun`, before its subcommand is added
abbrev pub program_app : App
program_app = record (new_app (codes "ntrun")) { top = record (new_app (codes "ntrun")).top { subcommand_required = true; disable_help_flag = true; disable_help_subcommand = true } }

-- `ntrun script FILE`
abbrev pub command_line : App
command_line = with_subcommand program_app script_app.top

-- FILE, of a subcommand that is `script`
abbrev pub file_of : Text × List Row → Option Text
file_of found = if bytes_eq (codes "script") found.0 then first_of (codes "file") found.1 else None

-- the file that matches hold
abbrev pub file_found : ArgMatches → Option Text
file_found matches = option_and_then file_of (subcommand_rows_of matches)
