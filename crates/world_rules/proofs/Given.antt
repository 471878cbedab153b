-- What fires was given by facts, so that a search through the shapes of each variable misses nothing.
use Rattle.std.proofs.Common.{◌≡◌, ℕ, List, inl, inr, refl}
use Rattle.graph_walks.specs.Worlds.{Memory, AllGiven}
use Rattle.graph_walks.proofs.RootLaw.{visible_given}
use Rattle.abstract_shapes.specs.Shapes.{Shape}
use Rattle.world_rules.specs.declared.transfer.SeatReading.{SeatReading}
use Rattle.world_rules.specs.Places.{Context, Variable, Point, at}
use Rattle.world_rules.specs.Sources.{Source}
use Rattle.world_rules.specs.Items.{Item, world_of, map_of, variables}
use Rattle.world_rules.specs.Rules.{IsSeen, Fires}
use Rattle.world_rules.specs.Findings.{IsQuery}

module _ (s : Source) (items : List Item) where
  pub seen_given : (p : Point) (goals : Memory Variable Shape) → IsSeen s items p goals → AllGiven (world_of s items) goals
  seen_given p goals (inl v) = visible_given (world_of s items) p goals v
  seen_given p goals (inr h) = h.1

  pub fired_query : (c : Context) (place depth : ℕ) (r : SeatReading) (shapes : List Shape) → Fires s items c place depth r shapes →
      IsQuery s items c place depth (map_of (variables c r.seats) shapes)
  fired_query c place depth r shapes f =
      record {
        context = f.context;
        op = f.op;
        stands = f.stands;
        reading = r;
        is_reading = f.is_reading;
        shapes = shapes;
        asked = f.asked;
        goals_are = refl;
        agree = f.agree;
        given = seen_given (at c place depth) _ f.seen;
      }
