use Rattle.std.proofs.Common.{map, ◌∙◌, ap, arith, ◌++◌, ◌∷◌, []}
use Rattle.std.specs.String.{string_bytes}
use Rattle.place_ids.proofs.NamesLemmas.{IsDistinct-map, map-insert_key}
use Rattle.place_ids.proofs.names.Names.add.Goals as goal
use Rattle.place_ids.proofs.names.Names.add.Goals.{in-Ok-insert, in-Err}

pub invariant_of-self : goal.invariant_of-self
invariant_of-self c = (
  IsDistinct-map string_bytes c.insert.new.self.keys c.insert.ensures.unique,
  elim c.match-insert.branch [
    | in-Ok-insert w ↦ grind (arith, w.in-Ok-insert.ensures.len, c.self.invariant.1, c.len-number.ensures.len)
    | in-Err w ↦ grind (arith, w.in-Err.ensures.err, c.self.invariant.1)
  ],
)

pub returns-clause-interned : goal.returns-clause-interned
returns-clause-interned c =
    elim c.match-insert.branch [
      | in-Ok-insert w ↦
          rw w.result-is (ap (map string_bytes) w.in-Ok-insert.ensures.keys
          ∙ map-insert_key string_bytes c.self.inside.texts.keys c.in-Ok.owned c.args.text.now c.in-Ok.ensures.ok (rw c.self.view_is c.requires)
          ∙ ap (λ names. names ++ c.args.text.now ∷ []) c.self.view_is)
      | in-Err w ↦ rw w.result-is tt
    ]
