-- The edges of a context, one place after the other.
use Rattle.std.proofs.Common.{◌≡◌, ℕ, ◌+◌, ◌<◌, Some, length, sym, subst, ap, ◌∙◌, arith}
use Rattle.std.proofs.Math.Decide.{ℕ_discrete}
use Rattle.stack_code.specs.declared.code.Code.{Code}
use Rattle.world_rules.specs.Places.{code_of}
use Rattle.world_rules.specs.Sources.{Source}
use Rattle.world_tables.specs.Tables.{AreTables}
use Rattle.world_tables.specs.Rows.{WorldRows, contexts_of, the_context, tables_of}
use Rattle.context_graph.specs.Growth.{IsStep, IsPart}
use Rattle.context_graph.specs.Places.{HavePoints, HasEdges, HaveEdges}
use Rattle.context_graph.proofs.EdgeMore.{edges_stay, points_on}
use Rattle.context_graph.proofs.Grown.{step_same, step_on}
use Rattle.context_graph.proofs.Parts.{part_same, part_on}

-- the places so far have their edges
pub record EdgesAdded (initial rows : WorldRows) (code : Code) (context place : ℕ) : Type 0 where
  pub step : IsStep initial rows
  pub keeps : (s : Source) → AreTables s (tables_of initial) → code_of s.program (the_context (contexts_of initial) context) ≡ Some code → IsPart s context initial rows
  pub edges : (s : Source) → AreTables s (tables_of initial) → code_of s.program (the_context (contexts_of initial) context) ≡ Some code →
      HavePoints s (tables_of initial) (the_context (contexts_of initial) context) (length code.ops) → HaveEdges s (tables_of rows) (the_context (contexts_of initial) context) place

pub no_edges_yet : (initial : WorldRows) (code : Code) (context : ℕ) → EdgesAdded initial initial code context 0
no_edges_yet initial code context =
    record { step = step_same initial; keeps = λ s a of. part_same s context initial a; edges = λ s a of have. record { each = λ earlier l. absurd (omega (arith, l)) } }

module _ (initial rows new : WorldRows) (code : Code) (context place : ℕ) (so : EdgesAdded initial rows code context place)
    (keeps : (s : Source) → AreTables s (tables_of rows) → code_of s.program (the_context (contexts_of rows) context) ≡ Some code → IsPart s context rows new) where
  code_now : (s : Source) → code_of s.program (the_context (contexts_of initial) context) ≡ Some code → code_of s.program (the_context (contexts_of rows) context) ≡ Some code
  code_now s of = ap (λ cs. code_of s.program (the_context cs context)) so.step.grown.contexts ∙ of

  pub edges_keep : (s : Source) → AreTables s (tables_of initial) → code_of s.program (the_context (contexts_of initial) context) ≡ Some code → IsPart s context initial new
  edges_keep s a of = let p : IsPart s context initial rows = so.keeps s a of in part_on s context initial rows new so.step.grown p (keeps s p.tables (code_now s of))

  pub next_edges : IsStep rows new →
      ((s : Source) → AreTables s (tables_of rows) → code_of s.program (the_context (contexts_of rows) context) ≡ Some code → HavePoints s (tables_of rows) (the_context (contexts_of rows) context) (length code.ops) →
      HasEdges s (tables_of new) (the_context (contexts_of rows) context) place) → EdgesAdded initial new code context (place + 1)
  next_edges step here =
      record {
        step = step_on initial rows new so.step step;
        keeps = edges_keep;
        edges = λ s a of have. record { each = λ earlier l. go s a of have earlier l (ℕ_discrete earlier place) };
      }
    where
      go : (s : Source) → AreTables s (tables_of initial) → code_of s.program (the_context (contexts_of initial) context) ≡ Some code → HavePoints s (tables_of initial) (the_context (contexts_of initial) context) (length code.ops) →
          (earlier : ℕ) → earlier < place + 1 → Dec (earlier ≡ place) → HasEdges s (tables_of new) (the_context (contexts_of initial) context) earlier
      go s a of have earlier l (yes e) =
          let p : IsPart s context initial rows = so.keeps s a of in
          let same : contexts_of rows ≡ contexts_of initial = so.step.grown.contexts in
          let h : HavePoints s (tables_of rows) (the_context (contexts_of rows) context) (length code.ops) =
          subst (λ cs. HavePoints s (tables_of rows) (the_context cs context) (length code.ops)) (sym same) (points_on s initial rows (the_context (contexts_of initial) context) (length code.ops) so.step.grown have) in
          subst (λ n. HasEdges s (tables_of new) (the_context (contexts_of initial) context) n) (sym e)
          (subst (λ cs. HasEdges s (tables_of new) (the_context cs context) place) same (here s p.tables (code_now s of) h))
      go s a of have earlier l (no n) =
          let p : IsPart s context initial rows = so.keeps s a of in
          edges_stay s rows new (the_context (contexts_of initial) context) earlier (keeps s p.tables (code_now s of)).items.contained ((so.edges s a of have).each earlier (omega (arith, l, n)))
