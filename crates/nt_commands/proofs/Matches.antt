-- What clap's matches hold, as the code reads it.
use Rattle.std.proofs.Common.{◌≡◌, ◌∙◌, refl, sym, ap, ap₂, List, [], Option, Some, None, codes, Bor}
use Rattle.std.specs.Prelude.{option_and_then, option_map, unwrap_or}
use Rattle.clap.specs.Matches.{first_value, found_of, subcommand_name_of}
use Rattle.clap.specs.Walk.{Row, Text, rows_of}
use Rattle.clap.specs.Simple.{subcommand_rows_of}
use Rattle.clap.specs.declared.parser.matches.ArgMatches.{ArgMatches}
use Rattle.clap.proofs.WalkLemmas.{first_value-rows}
use Rattle.nt_commands.specs.Command.{file_found, file_of}

read_as_held : {X P : Type 0} (name : X → Text) (rows : X → List Row) (f : P → Text) (g : P → List Row) (held : Option X) (read : Option P)
    → option_map f read ≡ option_map name held → option_map g read ≡ option_map (λ (p : Text × List Row). p.1) (option_map (λ x. (name x, rows x)) held)
    → option_and_then file_of (option_map (λ x. (name x, rows x)) held) ≡ option_and_then (λ p. file_of (f p, g p)) read
read_as_held name rows f g None None names all = refl
read_as_held name rows f g None (Some p) names all = absurd cc
read_as_held name rows f g (Some x) None names all = absurd cc
read_as_held name rows f g (Some x) (Some p) names all =
    ap₂ (λ (n : Text) (r : List Row). file_of (n, r)) (sym (ap (λ o. unwrap_or o []) names)) (sym (ap (λ o. unwrap_or o []) all))

pub read_file : (m : ArgMatches) (read : Option (Bor Text × Bor ArgMatches)) → option_map (λ p. p.0.now) read ≡ subcommand_name_of m
    → option_map (λ p. rows_of (found_of p.1.now)) read ≡ option_map (λ (p : Text × List Row). p.1) (subcommand_rows_of m)
    → file_found m ≡ option_and_then (λ p. file_of (p.0.now, rows_of (found_of p.1.now))) read
read_file m read names all = read_as_held _ _ _ _ _ read names all

-- the file of the subcommand that was read
pub script_file : (m : ArgMatches) (read : Option (Bor Text × Bor ArgMatches)) (name : Bor Text) (found : Bor ArgMatches) (file : Option (Bor Text))
    → option_map (λ p. p.0.now) read ≡ subcommand_name_of m → option_map (λ p. rows_of (found_of p.1.now)) read ≡ option_map (λ (p : Text × List Row). p.1) (subcommand_rows_of m)
    → read ≡ Some (name, found) → name.now ≡ codes "script" → option_map (λ s. s.now) file ≡ first_value (found_of found.now) (codes "file")
    → file_found m ≡ option_map (λ s. s.now) file
script_file m read name found file names all is script value =
    read_file m read names all ∙ ap (option_and_then (λ (p : Bor Text × Bor ArgMatches). file_of (p.0.now, rows_of (found_of p.1.now)))) is
    ∙ ap (λ (n : Text). file_of (n, rows_of (found_of found.now))) script ∙ sym (value ∙ first_value-rows (found_of found.now) (codes "file"))
