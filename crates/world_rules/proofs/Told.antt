-- What is read off a world is read off each larger one, so all least worlds tell the same.
use Rattle.std.proofs.Common.{◌≡◌, ◌↔◌, ◌⊎◌, inl, inr, ℕ, List}
use Rattle.std.specs.List.{Contains}
use Rattle.graph_walks.specs.Worlds.{Memory, AllGiven}
use Rattle.graph_walks.proofs.Growing.{gives_on, heavy_stays, seen_stays}
use Rattle.abstract_shapes.specs.Shapes.{Shape}
use Rattle.world_rules.specs.declared.finding.Finding.{Finding}
use Rattle.world_rules.specs.Places.{Context, Variable, Point}
use Rattle.world_rules.specs.Sources.{Source}
use Rattle.world_rules.specs.Items.{Item, world_of}
use Rattle.world_rules.specs.Rules.{IsContained, IsLeast}
use Rattle.world_rules.specs.Findings.{IsFinding, IsUnchecked, IsHeavyLine, IsReported, by_finding, by_operand, IsHeavyAt, IsQuery, OutputQuery, at_end, at_return}
use Rattle.world_rules.specs.Stubs.{EndsWith}
use Rattle.world_rules.proofs.Growing.{world_more, fires_still}

module _ (s : Source) (items more : List Item) (c : IsContained items more) where
  pub finding_more : (f : Finding) → IsFinding s items f → IsFinding s more f
  finding_more f h =
      record {
        context = h.context;
        place = h.place;
        depth = h.depth;
        on_line = h.on_line;
        finds = record {
          reading = h.finds.reading;
          shapes = h.finds.shapes;
          fires = fires_still s items more c h.finds.fires;
          fault = h.finds.fault;
          has_fault = h.finds.has_fault;
          told = h.finds.told;
        };
      }

  pub unchecked_more : (line : ℕ) → IsUnchecked s items line → IsUnchecked s more line
  unchecked_more line h =
      record {
        context = h.context;
        place = h.place;
        depth = h.depth;
        on_line = h.on_line;
        unchecks = record { reading = h.unchecks.reading; shapes = h.unchecks.shapes; fires = fires_still s items more c h.unchecks.fires; unchecked = h.unchecks.unchecked };
      }

  given_more : (goals : Memory Variable Shape) → AllGiven (world_of s items) goals → AllGiven (world_of s more) goals
  given_more goals g = record { at = λ v t h. gives_on (world_of s items) (world_of s more) (world_more s items more c) v t (g.at v t h) }

  query_more : {b : Context} {place depth : ℕ} {goals : Memory Variable Shape} → IsQuery s items b place depth goals → IsQuery s more b place depth goals
  query_more q =
      record {
        context = c.at _ q.context;
        op = q.op;
        stands = q.stands;
        reading = q.reading;
        is_reading = q.is_reading;
        shapes = q.shapes;
        asked = q.asked;
        goals_are = q.goals_are;
        agree = q.agree;
        given = given_more _ q.given;
      }

  output_more : {b : Context} {place depth : ℕ} {goals : Memory Variable Shape} → OutputQuery s items b place depth goals → OutputQuery s more b place depth goals
  output_more (at_end n t k st g) = at_end n t (c.at _ k) st (given_more _ g)
  output_more (at_return t k st g) = at_return t (c.at _ k) st (given_more _ g)

  either_more : {b : Context} {place depth : ℕ} {goals : Memory Variable Shape} → IsQuery s items b place depth goals ⊎ OutputQuery s items b place depth goals → IsQuery s more b place depth goals ⊎ OutputQuery s more b place depth goals
  either_more (inl q) = inl (query_more q)
  either_more (inr q) = inr (output_more q)

  pub heavy_more : (line : ℕ) → IsHeavyLine s items line → IsHeavyLine s more line
  heavy_more line h =
      record {
        context = h.context;
        place = h.place;
        depth = h.depth;
        on_line = h.on_line;
        heavy = record { goals = h.heavy.goals; query = either_more h.heavy.query; heavy = heavy_stays (world_of s items) (world_of s more) (world_more s items more c) _ h.heavy.goals s.budget h.heavy.heavy };
      }

  pub reported_more : (line : ℕ) → IsReported s items line → IsReported s more line
  reported_more line (by_finding f e h) = by_finding f e (finding_more f h)
  reported_more line (by_operand h) = by_operand (unchecked_more line h)

  pub ends_more : (n : ℕ) (t : Shape) → EndsWith s items n t → EndsWith s more n t
  ends_more n t h = record { place = h.place; depth = h.depth; context = c.at _ h.context; stands = h.stands; seen = seen_stays (world_of s items) (world_of s more) (world_more s items more c) _ _ s.budget h.seen }

module _ (s : Source) (items more : List Item) (l : IsLeast s items) (m : IsLeast s more) where
  pub into : IsContained items more
  into = l.least more m.closed

  pub from : IsContained more items
  from = m.least items l.closed

  pub same_items : (i : Item) → Contains items i ↔ Contains more i
  same_items i = (into.at i, from.at i)

  pub same_findings : (f : Finding) → IsFinding s items f ↔ IsFinding s more f
  same_findings f = (finding_more s items more into f, finding_more s more items from f)

  pub same_unchecked : (line : ℕ) → IsUnchecked s items line ↔ IsUnchecked s more line
  same_unchecked line = (unchecked_more s items more into line, unchecked_more s more items from line)

  pub same_heavy : (line : ℕ) → IsHeavyLine s items line ↔ IsHeavyLine s more line
  same_heavy line = (heavy_more s items more into line, heavy_more s more items from line)

  pub same_reported : (line : ℕ) → IsReported s items line ↔ IsReported s more line
  same_reported line = (reported_more s items more into line, reported_more s more items from line)

  pub same_ends : (n : ℕ) (t : Shape) → EndsWith s items n t ↔ EndsWith s more n t
  same_ends n t = (ends_more s items more into n t, ends_more s more items from n t)
