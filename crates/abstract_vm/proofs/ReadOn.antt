-- What is known of a point's readings is known on, and what they give is given on.
use Rattle.std.proofs.Common.{◌≡◌, ℕ, ◌<◌, Option, Some, None, List, [], ◌∷◌, length, map, slice_get, ◌⊎◌, inl, inr, refl, sym, ap, subst, ◌∙◌}
use Rattle.std.specs.Option.{unwrap_or}
use Rattle.std.specs.List.{All, Contains}
use Rattle.abstract_shapes.specs.Shapes.{Shape}
use Rattle.world_rules.specs.declared.transfer.SeatReading.{SeatReading}
use Rattle.world_rules.specs.Places.{Context, Point, main, at}
use Rattle.world_rules.specs.Sources.{Source}
use Rattle.world_rules.specs.Items.{Item, variables}
use Rattle.world_rules.specs.Rules.{Stands, readings_at, Fires, GivesAt, result, enter, IsContained}
use Rattle.world_rules.proofs.Growing.{fires_still}
use Rattle.world_tables.specs.declared.spot.PointSpot.{PointSpot}
use Rattle.world_tables.specs.Rows.{contexts_of, the_context, tables_of}
use Rattle.world_tables.specs.Tables.{IsNumbering}
use Rattle.world_queries.specs.Choices.{AreNumbersOf}
use Rattle.world_queries.specs.Queries.{StandsAt, IsReadBy}
use Rattle.abstract_vm.specs.Worlds.{WorldState, items_in, point_in, IsWorldOf}
use Rattle.abstract_vm.specs.Steps.{NumbersStay, IsResult, IsEntry, GivesFor, GivesBy, shapes_in}
use Rattle.abstract_vm.specs.Readings.{IsReadAt, IsReadingOf}
use Rattle.abstract_vm.proofs.Firings.{yield_still}
use Rattle.abstract_vm.proofs.Stay.{contexts_stay, points_stay, variables_stay, point_stays, choice_stays}

module _ (s : Source) (items more : List Item) (within : IsContained items more) where
  pub result_on : (r : SeatReading) (shapes : List Shape) (p : Point) (i : Item) → IsResult s items r shapes p i → IsResult s more r shapes p i
  result_on r shapes p i h =
      record {
        context = h.context;
        place = h.place;
        depth = h.depth;
        is_point = h.is_point;
        fires = fires_still s items more within h.fires;
        y = h.y;
        is_result = h.is_result;
        shape = h.shape;
        given = yield_still s items more within h.given;
        is = h.is;
      }

  pub entry_on : (r : SeatReading) (shapes : List Shape) (p : Point) (i : Item) → IsEntry s items r shapes p i → IsEntry s more r shapes p i
  entry_on r shapes p i h =
      record {
        context = h.context;
        place = h.place;
        depth = h.depth;
        is_point = h.is_point;
        fires = fires_still s items more within h.fires;
        e = h.e;
        is_entry = h.is_entry;
        shape = h.shape;
        given = yield_still s items more within h.given;
        is = h.is;
      }

  pub gives_for_on : (r : SeatReading) (shapes : List Shape) (p : Point) (i : Item) → GivesFor s items r shapes p i → GivesFor s more r shapes p i
  gives_for_on r shapes p i (inl h) = inl (result_on r shapes p i h)
  gives_for_on r shapes p i (inr h) = inr (entry_on r shapes p i h)

  pub gives_by_on : (r : SeatReading) (p : Point) (i : Item) → GivesBy s items r p i → GivesBy s more r p i
  gives_by_on r p i h = record { shapes = h.shapes; gives = gives_for_on r h.shapes p i h.gives }

module _ (u v : WorldState) (n : NumbersStay u v) (s : Source) (point : ℕ) where
  pub read_at_on : (spot : PointSpot) (r : SeatReading) → IsReadAt s u point spot r → IsReadAt s v point spot r
  read_at_on spot r h =
      record {
        op = h.op;
        is_spot = ap (λ ps. slice_get ps point) n.points ∙ h.is_spot;
        stands = subst (λ cs. Stands s (the_context cs spot.context) spot.place spot.depth h.op) (sym (contexts_stay u v n)) h.stands;
        is_reading = subst (λ cs. Contains (readings_at s (the_context cs spot.context) spot.depth h.op) r) (sym (contexts_stay u v n)) h.is_reading;
        budget = h.budget ∙ sym n.budget;
      }

  pub reading_on : (r : SeatReading) (vars : List ℕ) → IsReadingOf s u point r vars → IsReadingOf s v point r vars
  reading_on r vars h =
      record {
        context = h.context;
        place = h.place;
        depth = h.depth;
        op = h.op;
        stands = record { point = ap (λ ps. slice_get ps point) (points_stay u v n) ∙ h.stands.point; stands = h.stands.stands };
        read = record { is_reading = h.read.is_reading; numbers_are = ap (λ xs. map (slice_get xs) vars) (variables_stay u v n) ∙ h.read.numbers_are };
        budget = h.budget ∙ sym n.budget;
      }

-- ---- the point of a reading

module _ (s : Source) (w : WorldState) (point : ℕ) (r : SeatReading) (vars : List ℕ) (h : IsReadingOf s w point r vars) where
  pub is_at : point_in w point ≡ at h.context h.place h.depth
  is_at = ap (λ o. unwrap_or o (at main 0 0)) h.stands.point

abbrev context_at : Point → Context
context_at (at c place depth) = c

pub same_context_at : (c d : Context) (place depth q e : ℕ) → at c place depth ≡ at d q e → c ≡ d
same_context_at c d place depth q e h = ap context_at h
