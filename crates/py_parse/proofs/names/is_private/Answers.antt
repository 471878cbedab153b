use Rattle.std.proofs.Common.{◌≡◌, true, not, nat_eq, [], ◌∷◌, sym, ap, ◌∙◌}
use Rattle.std.specs.List.{starts_with}
use Rattle.std.proofs.lemmas.Str.Pattern.{starts_text, ends_text}
use Rattle.py_parse.proofs.names.is_private.Goals as goal

pub returns-then-starts_with : goal.returns-then-starts_with
returns-then-starts_with c =
    let begins : starts_with nat_eq c.args.text.now (95 ∷ 95 ∷ []) ≡ true = sym (starts_text c.starts_with.result (95 ∷ 95 ∷ []) c.args.text.now c.starts_with.ensures.cases) ∙ c.if-starts_with.true in
    rw begins (ap not (ends_text c.ends_with.result (95 ∷ 95 ∷ []) c.args.text.now c.ends_with.ensures.cases))
