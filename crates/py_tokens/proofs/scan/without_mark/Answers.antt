-- The mark is the first character.
use Rattle.std.proofs.Common.{◌++◌, encode_utf8, sym, ap, ◌∙◌}
use Rattle.py_tokens.proofs.Marks.{after_mark}
use Rattle.py_tokens.proofs.scan.without_mark.Goals as goal

pub returns-in-Some-eq65279 : goal.returns-in-Some-eq65279
returns-in-Some-eq65279 c =
    let first = c.in-Some-eq65279.field-0 in
    after_mark c.args.text.now c.as_str.result.now first c.utf8.text
    (sym c.chars-chars.ensures.rest ∙ c.in-Some-eq65279.ensures.steps.0 ∙ ap (λ r. encode_utf8 first ++ r) (sym c.as_str.ensures)) c.in-Some-eq65279.field-0-test
