use Rattle.std.proofs.Common.{◌≡◌, ℕ, List, ◌∷◌, [], ◌++◌, codes, map, OnOk, ap, ◌∙◌, subst, append_assoc}
use Rattle.type_terms.specs.Texts.{joined}
use Rattle.pyi_write.proofs.imports.push_typing_line.Goals as goal

pub returns : goal.returns
returns c =
    let rest : List ℕ = joined (map (λ name. name.now) c.args.names.now) ++ 10 ∷ [] in
    subst (λ (text : List ℕ). OnOk c.push_joined_line.result (c.push_joined_line.new.out ≡ text))
    (ap (λ front. front ++ rest) c.in_ok-push.ensures.pushed ∙ append_assoc c.args.out.now (codes "from typing import ") rest)
    c.push_joined_line.ensures
