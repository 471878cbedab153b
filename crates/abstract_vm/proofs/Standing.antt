-- What stands at the point that is judged.
use Rattle.std.proofs.Common.{◌≡◌, ℕ, suc, zero, Option, Some, None, List, [], ◌∷◌, map, slice_get, refl, sym, ap, ◌∙◌}
use Rattle.std.specs.Option.{option_and_then}
use Rattle.std.specs.List.{Contains}
use Rattle.graph_walks.proofs.Lists.{empty, got}
use Rattle.stack_code.specs.declared.op.Op.{Op}
use Rattle.program_tables.specs.Programs.{Compiled}
use Rattle.world_rules.specs.declared.transfer.SeatReading.{SeatReading}
use Rattle.world_rules.specs.Places.{Context, at, code_of, op_at}
use Rattle.world_rules.specs.Sources.{Source}
use Rattle.world_rules.specs.Rules.{HasPlace, Stands, readings_at}
use Rattle.world_tables.specs.declared.spot.PointSpot.{PointSpot}
use Rattle.world_tables.specs.Tables.{IsNumbering}
use Rattle.world_tables.specs.Rows.{contexts_of, point_of}
use Rattle.world_queries.specs.Queries.{StandsAt}
use Rattle.context_code.specs.Readings.{readings_by, readings_of}
use Rattle.abstract_vm.specs.declared.judging.Judging.{Judging}
use Rattle.abstract_vm.specs.Asking.{IsAsked, tables_in, context_at}

pub map_get : {X Y : Type 0} (f : X → Y) (xs : List X) (k : ℕ) (x : X) → slice_get xs k ≡ Some x → slice_get (map f xs) k ≡ Some (f x)
map_get f [] k x e = cc
map_get f (y ∷ xs) zero x e = let same : y ≡ x = cc in ap (λ z. Some (f z)) same
map_get f (y ∷ xs) (suc k) x e = map_get f xs k x e

-- an instruction of a reading
pub record HasOp (o : Option Op) : Type 0 where
  pub op : Op
  pub is : o ≡ Some op

has_op : (compiled : Compiled) (c : Context) (depth : ℕ) (o : Option Op) (r : SeatReading) → Contains (readings_by compiled c depth o) r → HasOp o
has_op compiled c depth None r h = empty r h
has_op compiled c depth (Some op) r h = record { op = op; is = refl }

module _ (s : Source) (j : Judging) (budget : ℕ) (spot : PointSpot) (asked : IsAsked s j budget spot) where
  abbrev n : IsNumbering s (tables_in j)
  n = asked.tables.numbering

  pub point_is : slice_get (tables_in j).points j.point ≡ Some (at (context_at j spot) spot.place spot.depth)
  point_is = map_get (point_of (contexts_of j.tables.now)) j.tables.now.points j.point spot asked.stands

  has_place : HasPlace s (context_at j spot) spot.place spot.depth
  has_place = (n.are_points (context_at j spot) spot.place spot.depth (got (tables_in j).points j.point (at (context_at j spot) spot.place spot.depth) point_is)).1

  -- an instruction of the code stands there
  pub stands : (op : Op) → op_at j.program.now.program (context_at j spot) spot.place ≡ Some op → Stands s (context_at j spot) spot.place spot.depth op
  stands op e =
      let code : code_of s.program (context_at j spot) ≡ Some has_place.code = has_place.of in
      record {
        code = has_place.code;
        of = code;
        op = sym (ap (option_and_then (λ x. slice_get x.ops spot.place)) code) ∙ ap (λ p. op_at p (context_at j spot) spot.place) asked.source.program ∙ e;
        has_depth = has_place.has_depth;
      }

  -- and what stands there is the instruction of the code
  pub op_is : (place depth : ℕ) (op : Op) → Stands s (context_at j spot) place depth op → op_at j.program.now.program (context_at j spot) place ≡ Some op
  op_is place depth op h =
      ap (λ p. op_at p (context_at j spot) place) (sym asked.source.program) ∙ ap (option_and_then (λ x. slice_get x.ops place)) h.of ∙ h.op

  pub stands_at : (op : Op) → op_at j.program.now.program (context_at j spot) spot.place ≡ Some op → StandsAt s (tables_in j) j.point (context_at j spot) spot.place spot.depth op
  stands_at op e = record { point = point_is; stands = stands op e }

  pub readings_are : (op : Op) → op_at j.program.now.program (context_at j spot) spot.place ≡ Some op →
      readings_of j.program.now (contexts_of j.tables.now) spot ≡ readings_at s (context_at j spot) spot.depth op
  readings_are op e =
      ap (readings_by j.program.now (context_at j spot) spot.depth) e ∙ by_source
    where
      by_source : readings_by j.program.now (context_at j spot) spot.depth (Some op) ≡ readings_at s (context_at j spot) spot.depth op
      by_source = rw (asked.source.program, asked.source.scopes) refl

  -- a reading is one of an instruction that stands there
  pub op_of : (r : SeatReading) → Contains (readings_of j.program.now (contexts_of j.tables.now) spot) r → HasOp (op_at j.program.now.program (context_at j spot) spot.place)
  op_of r h = has_op j.program.now (context_at j spot) spot.depth (op_at j.program.now.program (context_at j spot) spot.place) r h
