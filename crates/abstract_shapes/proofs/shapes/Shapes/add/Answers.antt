use Rattle.std.proofs.Common.{◌∙◌, sym, subst, length, arith, length-append, [], ◌∷◌}
use Rattle.abstract_shapes.specs.Numbering.{structure, structures, IsThere, HasId}
use Rattle.abstract_shapes.proofs.NumberLemmas.{numbering_more, put_last, pushed, get_end, long}
use Rattle.abstract_shapes.proofs.shapes.Shapes.add.Goals as goal
use Rattle.abstract_shapes.proofs.shapes.Shapes.add.Goals.{in-Ok, in-Err}

pub invariant_of-self : goal.invariant_of-self
invariant_of-self c =
    let fresh = subst (λ t. HasId (structures t) (structure (structures t) c.args.shape) → ⊥) (sym c.self.view_is) c.requires.fresh in
    elim c.match-insert.branch [
      | in-Ok w ↦ rw (w.in-Ok.ensures.keys ∙ put_last c.self.inside.rows.keys c.self.invariant c.args.shape fresh)
          (numbering_more c.self.inside.rows.keys c.args.shape c.self.invariant
          (subst (λ t. IsThere (length t) c.args.shape) (sym c.self.view_is) c.requires.receiver) c.requires.given fresh
          (omega (arith, c.self.invariant.few, c.if-number.false, c.len-number.ensures)))
      | in-Err w ↦ rw w.in-Err.ensures.err c.self.invariant
    ]

pub returns-clause-added : goal.returns-clause-added
returns-clause-added c =
    let fresh = subst (λ t. HasId (structures t) (structure (structures t) c.args.shape) → ⊥) (sym c.self.view_is) c.requires.fresh in
    elim c.match-insert.branch [
      | in-Ok w ↦
          let last = w.in-Ok.ensures.keys ∙ put_last c.self.inside.rows.keys c.self.invariant c.args.shape fresh in
          rw (w.result-is, last, ← c.self.view_is) (pushed c.self.inside.rows.keys c.args.shape)
      | in-Err w ↦ rw w.result-is tt
    ]

pub returns-clause-numbered : goal.returns-clause-numbered
returns-clause-numbered c =
    let fresh = subst (λ t. HasId (structures t) (structure (structures t) c.args.shape) → ⊥) (sym c.self.view_is) c.requires.fresh in
    elim c.match-insert.branch [
      | in-Ok w ↦
          let last = w.in-Ok.ensures.keys ∙ put_last c.self.inside.rows.keys c.self.invariant c.args.shape fresh in
          rw (w.result-is, last, ← c.self.view_is, pushed c.self.inside.rows.keys c.args.shape)
          (get_end (structures c.self.inside.rows.keys) (structure (structures c.self.inside.rows.keys) c.args.shape) w.new.result (omega (arith, w.new.ensures, c.len-number.ensures, long c.self.inside.rows.keys)))
      | in-Err w ↦ rw w.result-is tt
    ]

pub returns-clause-within : goal.returns-clause-within
returns-clause-within c =
    let fresh = subst (λ t. HasId (structures t) (structure (structures t) c.args.shape) → ⊥) (sym c.self.view_is) c.requires.fresh in
    elim c.match-insert.branch [
      | in-Ok w ↦
          let last = w.in-Ok.ensures.keys ∙ put_last c.self.inside.rows.keys c.self.invariant c.args.shape fresh in
          rw (w.result-is, last) (omega (arith, w.new.ensures, c.len-number.ensures, length-append c.self.inside.rows.keys (c.args.shape ∷ [])))
      | in-Err w ↦ rw w.result-is tt
    ]

pub returns-clause-once : goal.returns-clause-once
returns-clause-once c = (invariant_of-self c).once
