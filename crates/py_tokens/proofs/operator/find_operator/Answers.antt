use Rattle.std.proofs.Common.{◌∙◌, nat_eq, None, Some, rules}
use Rattle.std.specs.List.{starts_with}
use Rattle.std.proofs.lemmas.Iterator.{YieldsList-from_slice}
use Rattle.std.proofs.lemmas.Iterator.Search.{find_from_yields_List}
use Rattle.py_tokens.specs.Operators.{row_operator}
use Rattle.py_tokens.proofs.RowLemmas.{said_of_found}
use Rattle.py_tokens.proofs.operator.find_operator.Goals as goal

pub returns-in_err-spelling : goal.returns-in_err-spelling
returns-in_err-spelling c =
    let rows = c.args.rows.now in
    let found = find_from_yields_List (λ row. starts_with nat_eq c.args.bytes.now row.0.now) _ _ c.find.result c.find.ensures.ran (YieldsList-from_slice rows (cc)) (λ x b q k. search rules) in
    c.from_residual.ensures ∙ said_of_found (starts_with nat_eq c.args.bytes.now) row_operator rows c.find.result None c.in_err-spelling.was found

pub returns : goal.returns
returns c =
    let rows = c.args.rows.now in
    let found = find_from_yields_List (λ row. starts_with nat_eq c.args.bytes.now row.0.now) _ _ c.find.result c.find.ensures.ran (YieldsList-from_slice rows (cc)) (λ x b q k. search rules) in
    said_of_found (starts_with nat_eq c.args.bytes.now) row_operator rows c.find.result (Some c.in_ok-spelling.field-0) c.in_ok-spelling.was found
