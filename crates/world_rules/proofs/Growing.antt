-- In a list with more items a world is larger, and what the rules gave they give.
use Rattle.std.proofs.Common.{◌≡◌, ℕ, Bool, true, false, ◌&&◌, ◌==◌, is_some, List, refl}
use Rattle.std.specs.Prelude.{IsTrue}
use Rattle.graph_walks.specs.Growth.{IsWithin}
use Rattle.graph_walks.proofs.Growing.{seen_stays}
use Rattle.abstract_shapes.specs.Shapes.{Shape}
use Rattle.world_rules.specs.declared.row.Yield.{Yield}
use Rattle.world_rules.specs.declared.transfer.SeatReading.{SeatReading}
use Rattle.world_rules.specs.Places.{Context, main, entry, called, Point, at, op_at}
use Rattle.world_rules.specs.Sources.{Source}
use Rattle.world_rules.specs.Items.{Item, has_context, is_root, world_of}
use Rattle.world_rules.specs.Rules.{Yields, it, one, Fires, GivesAt, result, enter, Gives, of_module, leads, of_point, IsContained}
use Rattle.world_rules.proofs.Members.{edge_item, item_edge, fact_item, item_fact, context_item, item_context}

-- three tests that stay, and one that comes to hold where it held
under : (x y z old new : Bool) → (old ≡ true → new ≡ true) → x && (y && (z && old)) ≡ true → x && (y && (z && new)) ≡ true
under true true true old new grows h = grows h
under true true false old new grows h = h
under true false z old new grows h = h
under false y z old new grows h = h

module _ (s : Source) (items more : List Item) (within : IsContained items more) where
  context_stays : (c : Context) → has_context items c ≡ true → has_context more c ≡ true
  context_stays c h = item_context more c (within.at _ (context_item items c h))

  root_stays : (p : Point) → IsTrue (is_root s.program items p) → IsTrue (is_root s.program more p)
  root_stays (at main place depth) = under (place == 0) (depth == 0) (is_some (op_at s.program main 0)) _ _ (context_stays main)
  root_stays (at (entry f) place depth) = under (place == 0) (depth == 0) (is_some (op_at s.program (entry f) 0)) _ _ (context_stays (entry f))
  root_stays (at (called c q e f) place depth) = λ h. h

  pub world_more : IsWithin (world_of s items) (world_of s more)
  world_more =
      record {
        edges = λ e k. item_edge more e (within.at _ (edge_item items e k));
        facts = λ f k. item_fact more f (within.at _ (fact_item items f k));
        edge_targets = λ e k. refl;
        fact_targets = λ f k. refl;
        roots = root_stays;
        truths = λ t truth h. h;
      }

  yield_stays : {shapes : List Shape} {y : Yield} {t : Shape} → Yields s items shapes y t → Yields s more shapes y t
  yield_stays (it h) = it h
  yield_stays (one k) = one (within.at _ k)

  pub fires_still : {c : Context} {place depth : ℕ} {r : SeatReading} {shapes : List Shape} → Fires s items c place depth r shapes → Fires s more c place depth r shapes
  fires_still f =
      record {
        seen = seen_stays (world_of s items) (world_of s more) world_more _ _ s.budget f.seen;
        context = within.at _ f.context;
        op = f.op;
        stands = f.stands;
        is_reading = f.is_reading;
        asked = f.asked;
        agree = f.agree;
      }

  pub point_more : {p : Point} {i : Item} → GivesAt s items p i → GivesAt s more p i
  point_more (result shapes y fired is_result given) = result shapes y (fires_still fired) is_result (yield_stays given)
  point_more (enter shapes e fired is_entry given) = enter shapes e (fires_still fired) is_entry (yield_stays given)

  pub gives_more : {i : Item} → Gives s items i → Gives s more i
  gives_more of_module = of_module
  gives_more (leads there stands led ends) = leads (within.at _ there) stands led ends
  gives_more (of_point given) = of_point (point_more given)
