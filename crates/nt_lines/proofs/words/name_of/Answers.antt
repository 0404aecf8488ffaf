use Rattle.std.proofs.Common.{◌∙◌, ap, sym}
use Rattle.std.proofs.lemmas.Str.{IsUtf8-from_ascii}
use Rattle.std.specs.Option.{option_map}
use Rattle.nt_lines.proofs.Names.{name_ascii, text_is}
use Rattle.nt_lines.proofs.words.name_of.Goals as goal

pub returns-then-is_name : goal.returns-then-is_name
returns-then-is_name c =
    let lawful = sym c.is_name.ensures ∙ c.if-is_name.true in
    let utf8 = IsUtf8-from_ascii c.args.word.now (name_ascii c.args.word.now lawful) in
    rw lawful (ap (option_map (λ name. name.now)) c.ok.ensures.value ∙ text_is c.args.word.now c.from_utf8.result _ utf8 c.from_utf8.ensures.cases)
