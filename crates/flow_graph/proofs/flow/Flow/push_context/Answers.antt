use Rattle.std.proofs.Common.{◌∙◌, arith, sym, ap, subst, length}
use Rattle.std.specs.List.{Contains}
use Rattle.flow_graph.specs.Flows.{with_context}
use Rattle.flow_graph.specs.Validity.{IsThere}
use Rattle.flow_graph.proofs.Same.{inserted, context_exact}
use Rattle.flow_graph.proofs.Valid.{valid_context}
use Rattle.flow_graph.proofs.flow.Flow.push_context.Goals as goal
use Rattle.flow_graph.proofs.flow.Flow.push_context.Goals.{in-Ok, in-Err}

pub invariant_of-self : goal.invariant_of-self
invariant_of-self c =
    elim c.match-insert.branch [
      | in-Ok w ↦ rw (w.in-Ok.ensures.keys, inserted _ context_exact c.self.inside.contexts.keys c.args.context.now (subst (λ t. Contains t.contexts c.args.context.now → ⊥) (sym c.self.view_is) c.requires.fresh)) (valid_context _ c.args.context.now c.self.invariant
          (subst (λ t. IsThere c.args.context.now.parent (length t.contexts)) (sym c.self.view_is) c.requires.parent)
          (subst (λ t. IsThere c.args.context.now.call (length t.points)) (sym c.self.view_is) c.requires.call)
          (subst (λ t. Contains t.contexts c.args.context.now → ⊥) (sym c.self.view_is) c.requires.fresh)
          (omega (arith, c.self.invariant.context_count, c.if-number.false, c.len-number.ensures.len)))
      | in-Err w ↦ rw w.in-Err.ensures.err c.self.invariant
    ]

pub returns-clause-added : goal.returns-clause-added
returns-clause-added c =
    elim c.match-insert.branch [
      | in-Ok w ↦ rw w.result-is (ap (λ ks. record { vars = c.self.inside.vars; points = c.self.inside.points.items; contexts = ks })
          (w.in-Ok.ensures.keys ∙ inserted _ context_exact c.self.inside.contexts.keys c.args.context.now (subst (λ t. Contains t.contexts c.args.context.now → ⊥) (sym c.self.view_is) c.requires.fresh))
          ∙ ap (with_context c.args.context.now) c.self.view_is)
      | in-Err w ↦ rw w.result-is tt
    ]
