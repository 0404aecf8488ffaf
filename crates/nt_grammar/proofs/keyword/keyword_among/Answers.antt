use Rattle.std.proofs.Common.{◌≡◌, ◌+◌, Bool, true, false, List, Some, if◌then◌else◌, sym, ap, ◌∙◌}
use Rattle.std.specs.Prelude.{drop, slice_index_or}
use Rattle.std.specs.Str.{bytes_eq}
use Rattle.std.proofs.lemmas.List.{at_drop_more}
use Rattle.nt_grammar.specs.declared.keyword.Keyword.{Keyword}
use Rattle.nt_grammar.specs.Keywords.{keyword_among, keyword_text}
use Rattle.nt_grammar.proofs.keyword.keyword_among.Goals as goal

pub returns-then-eq : goal.returns-then-eq
returns-then-eq c =
    let i = c.loop-keyword.keyword-index in
    let word = c.args.word.now in
    let keyword = slice_index_or c.args.keywords.now i Keyword.Event in
    let others = drop (i + 1) c.args.keywords.now in
    let step = at_drop_more (λ (ks : List Keyword). keyword_among ks word) c.args.keywords.now i Keyword.Event c.loop-keyword-test.true in
    let is : bytes_eq word (keyword_text keyword) ≡ true = cc (c.eq.ensures, c.if-eq.true, c.as_bytes.ensures.value, c.text.ensures) in
    sym (c.loop-keyword.invariant ∙ step ∙ ap (λ (b : Bool). if b then Some keyword else keyword_among others word) is)

pub loop-keyword-preserved : goal.loop-keyword-preserved
loop-keyword-preserved c =
    let i = c.loop-keyword.keyword-index in
    let word = c.args.word.now in
    let keyword = slice_index_or c.args.keywords.now i Keyword.Event in
    let others = drop (i + 1) c.args.keywords.now in
    let step = at_drop_more (λ (ks : List Keyword). keyword_among ks word) c.args.keywords.now i Keyword.Event c.loop-keyword-test.true in
    let is : bytes_eq word (keyword_text keyword) ≡ false = cc (c.eq.ensures, c.if-eq.false, c.as_bytes.ensures.value, c.text.ensures) in
    c.loop-keyword.invariant ∙ step ∙ ap (λ (b : Bool). if b then Some keyword else keyword_among others word) is
