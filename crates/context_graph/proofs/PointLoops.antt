-- The points of a context, one place after the other.
use Rattle.std.proofs.Common.{◌≡◌, ℕ, ◌+◌, ◌<◌, ◌≤◌, sym, subst, arith}
use Rattle.std.specs.List.{Contains}
use Rattle.program_tables.specs.Programs.{Compiled}
use Rattle.world_rules.specs.Places.{Context}
use Rattle.world_rules.specs.Sources.{Source}
use Rattle.world_tables.specs.declared.spot.PointSpot.{PointSpot}
use Rattle.world_tables.specs.Rows.{WorldRows, contexts_of, the_context, tables_of}
use Rattle.context_graph.specs.Growth.{IsStep, IsPart}
use Rattle.context_graph.specs.Places.{HavePoints}
use Rattle.context_graph.specs.Worlds.{IsWorld}
use Rattle.context_graph.proofs.Grown.{step_same, step_on}
use Rattle.context_graph.proofs.Parts.{part_same, part_on}

-- the places so far are points where they have a depth, and no place behind them is one
pub record PointsAdded (compiled : Compiled) (initial rows : WorldRows) (context place : ℕ) : Type 0 where
  pub step : IsStep initial rows
  pub keeps : (s : Source) → IsWorld s compiled initial → IsPart s context initial rows
  pub order : (other : PointSpot) → Contains rows.points other → other.context ≡ context → other.place < place
  pub points : (s : Source) → IsWorld s compiled initial → HavePoints s (tables_of rows) (the_context (contexts_of initial) context) place

pub first_points : (compiled : Compiled) (initial : WorldRows) (context place : ℕ) → ((other : PointSpot) → Contains initial.points other → other.context ≡ context → other.place < place) →
    ((s : Source) → IsWorld s compiled initial → HavePoints s (tables_of initial) (the_context (contexts_of initial) context) place) → PointsAdded compiled initial initial context place
first_points compiled initial context place order points = record { step = step_same initial; keeps = λ s w. part_same s context initial w.tables; order = order; points = points }

module _ (compiled : Compiled) (initial rows new : WorldRows) (context place : ℕ) (so : PointsAdded compiled initial rows context place)
    (keeps : (s : Source) → IsWorld s compiled rows → HavePoints s (tables_of rows) (the_context (contexts_of rows) context) place → IsPart s context rows new) where
  have_now : (s : Source) → IsWorld s compiled initial → HavePoints s (tables_of rows) (the_context (contexts_of rows) context) place
  have_now s w = subst (λ cs. HavePoints s (tables_of rows) (the_context cs context) place) (sym so.step.grown.contexts) (so.points s w)

  world_now : (s : Source) → IsWorld s compiled initial → IsWorld s compiled rows
  world_now s w = let p : IsPart s context initial rows = so.keeps s w in record { source = w.source; tables = p.tables }

  pub points_keep : (s : Source) → IsWorld s compiled initial → IsPart s context initial new
  points_keep s w = part_on s context initial rows new so.step.grown (so.keeps s w) (keeps s (world_now s w) (have_now s w))

  pub next_points : IsStep rows new → ((other : PointSpot) → Contains new.points other → other.context ≡ context → other.place < place + 1) →
      ((s : Source) → IsWorld s compiled rows → HavePoints s (tables_of rows) (the_context (contexts_of rows) context) place → HavePoints s (tables_of new) (the_context (contexts_of rows) context) (place + 1)) →
      PointsAdded compiled initial new context (place + 1)
  next_points step order points =
      record {
        step = step_on initial rows new so.step step;
        keeps = points_keep;
        order = order;
        points = λ s w. subst (λ cs. HavePoints s (tables_of new) (the_context cs context) (place + 1)) so.step.grown.contexts (points s (world_now s w) (have_now s w));
      }

pub points_before : (s : Source) (rows : WorldRows) (c : Context) (place many : ℕ) → many ≤ place → HavePoints s (tables_of rows) c place → HavePoints s (tables_of rows) c many
points_before s rows c place many l have = record { each = λ earlier depth m p. have.each earlier depth (omega (arith, l, m)) p }
