use Rattle.std.proofs.Common.{◌∙◌, None, Some, rules}
use Rattle.std.specs.Str.{bytes_eq}
use Rattle.std.proofs.lemmas.Iterator.{YieldsList-from_slice}
use Rattle.std.proofs.lemmas.Iterator.Search.{find_from_yields_List}
use Rattle.py_tokens.proofs.RowLemmas.{said_of_found}
use Rattle.py_tokens.proofs.word.find_keyword.Goals as goal

pub returns-in_err-keyword : goal.returns-in_err-keyword
returns-in_err-keyword c =
    let rows = c.args.rows.now in
    let found = find_from_yields_List (λ row. bytes_eq c.args.word.now row.0.now) _ _ c.find.result c.find.ensures.ran (YieldsList-from_slice rows (cc)) (λ x b q k. search rules) in
    c.from_residual.ensures ∙ said_of_found (bytes_eq c.args.word.now) (λ row. row.1) rows c.find.result None c.in_err-keyword.was found

pub returns : goal.returns
returns c =
    let rows = c.args.rows.now in
    let found = find_from_yields_List (λ row. bytes_eq c.args.word.now row.0.now) _ _ c.find.result c.find.ensures.ran (YieldsList-from_slice rows (cc)) (λ x b q k. search rules) in
    said_of_found (bytes_eq c.args.word.now) (λ row. row.1) rows c.find.result (Some c.in_ok-keyword.field-0) c.in_ok-keyword.was found
