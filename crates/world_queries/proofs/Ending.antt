-- What the module ends with, by numbers.
use Rattle.std.proofs.Common.{◌≡◌, ◌↔◌, ℕ, Some, [], ◌∷◌, take, slice_get, sym, ap, subst, ◌∙◌}
use Rattle.std.specs.List.{Contains}
use Rattle.std.proofs.Math.Seq.{take-length}
use Rattle.graph_walks.proofs.Lists as lists
use Rattle.graph_walks.proofs.Lists.{got, stands}
use Rattle.abstract_shapes.specs.Shapes.{Shape}
use Rattle.world_rules.specs.Places.{main, global, at}
use Rattle.world_rules.specs.Sources.{Source}
use Rattle.world_rules.specs.Items.{a_context, map_of}
use Rattle.world_rules.specs.Rules.{IsSeen}
use Rattle.world_rules.specs.Stubs.{EndsWith}
use Rattle.world_rules.proofs.Given.{seen_given}
use Rattle.world_tables.specs.Tables.{Tables, items_of, AreFinished, IsNumbering}
use Rattle.world_tables.proofs.Items.{items_in}
use Rattle.world_tables.proofs.Roots.{context_in}
use Rattle.world_queries.specs.Queries.{HasSeenChoice, HasEnd}
use Rattle.world_queries.proofs.Firing.{known_context, seen_map, seen_choice}
use Rattle.world_queries.proofs.Weighing.{one_agrees, one_number, given_number}

module _ (s : Source) (t : Tables) (n : IsNumbering s t) (k : ℕ) (shape : Shape) where
  pub ends_with : HasEnd s t k shape → EndsWith s (items_of t) k shape
  ends_with e =
      record {
        place = e.place;
        depth = e.depth;
        context = known_context s t n e.id main e.place e.depth e.stands.point;
        stands = e.stands.stands;
        seen = subst (λ ys. IsSeen s (items_of t) (at main e.place e.depth) (map_of (global k ∷ []) ys)) e.choice.shapes_are
            (seen_map s t n e.id (at main e.place e.depth) e.stands.point (e.var ∷ []) (global k ∷ []) (one_number t e.var (global k) e.number_is) e.choice.ids e.choice.goals e.choice.is e.choice.seen);
      }

  module _ (e : EndsWith s (items_of t) k shape) where
    pub end_seen : (id : ℕ) → slice_get t.points id ≡ Some (at main e.place e.depth) → (var : ℕ) → slice_get t.variables var ≡ Some (global k) → HasSeenChoice s t id (var ∷ []) (shape ∷ [])
    end_seen id here var is = seen_choice s t n id (at main e.place e.depth) here (var ∷ []) (global k ∷ []) (one_number t var (global k) is) (shape ∷ []) (one_agrees (global k) shape) e.seen

    end_number : lists.Stands t.variables (global k)
    end_number = given_number s t n (global k) shape (seen_given s (items_of t) (at main e.place e.depth) (map_of (global k ∷ []) (shape ∷ [])) e.seen)

    pub end_variable : Contains t.variables (global k)
    end_variable = got t.variables end_number.place (global k) end_number.at

    pub end_point : AreFinished t → Contains t.points (at main e.place e.depth)
    end_point f =
        let all : take t.finished t.contexts ≡ t.contexts = ap (λ m. take m t.contexts) f ∙ take-length t.contexts in
        n.points_are main e.place e.depth (subst (λ cs. Contains cs main) (sym all) (context_in t main (items_in t (a_context main) e.context))) (record { code = e.stands.code; of = e.stands.of; has_depth = e.stands.has_depth })

    pub has_end : AreFinished t → HasEnd s t k shape
    has_end f =
        let p : lists.Stands t.points (at main e.place e.depth) = stands t.points (at main e.place e.depth) (end_point f) in
        record {
          id = p.place;
          place = e.place;
          depth = e.depth;
          stands = record { point = p.at; stands = e.stands };
          var = end_number.place;
          number_is = end_number.at;
          choice = end_seen p.place p.at end_number.place end_number.at;
        }

  pub ends_same : AreFinished t → EndsWith s (items_of t) k shape ↔ HasEnd s t k shape
  ends_same f = (λ e. has_end e f, ends_with)
