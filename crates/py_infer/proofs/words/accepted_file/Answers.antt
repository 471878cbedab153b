-- The two words are those that were looked at.
use Rattle.std.proofs.Common.{codes, sym, ap, ◌∙◌, subst, arith}
use Rattle.std.specs.Str.{bytes_eq}
use Rattle.py_infer.specs.Words.{IsFileName}
use Rattle.py_infer.proofs.TwoWords.{accepts_two}
use Rattle.py_infer.proofs.words.accepted_file.Goals as goal

pub returns-in-len2 : goal.returns-in-len2
returns-in-len2 c =
    let command = ap (λ t. bytes_eq t (codes "infer")) (sym c.as_str.ensures.value) ∙ sym c.eq.ensures ∙ c.if-eq.true in
    let named = c.is_file_name.ensures.0 c.if-is_file_name.true in
    let same = c.as_bytes.ensures.value ∙ sym c.as_str-in-len2.ensures.value in
    accepts_two c.args.words.now c.command-item.result c.file-item.result c.as_str-in-len2.result.now (omega arith)
    c.command-item.is c.file-item.is command c.as_str-in-len2.ensures.value (subst IsFileName same named)
