-- Where points stand, by their spots.
use Rattle.std.proofs.Common.{◌≡◌, ℕ, suc, zero, ◌<◌, Option, Some, None, List, [], ◌∷◌, length, map, slice_get, option_map, refl, sym, ap, subst, ◌∙◌, arith}
use Rattle.std.specs.Option.{option_and_then, unwrap_or}
use Rattle.type_terms.specs.Stubs.{Stub}
use Rattle.program_tables.specs.Programs.{Compiled}
use Rattle.world_rules.specs.Places.{Context, main, Point, at, fun_of, code_for}
use Rattle.world_rules.specs.Findings.{line_of}
use Rattle.world_tables.specs.declared.spot.PointSpot.{PointSpot}
use Rattle.world_tables.specs.Rows.{WorldRows, tables_of, contexts_of, point_of, the_context, IsKept}
use Rattle.context_code.proofs.Contexts.{fun_of_row}
use Rattle.abstract_vm.specs.declared.spot.Spot.{Spot}
use Rattle.abstract_vm.specs.Spots.{IsSpotOf}
use Rattle.abstract_vm.specs.Worlds.{WorldState, point_in, source}
use Rattle.world_stub.proofs.Lists.{map_get}
use Rattle.infer_driver.specs.Lines.{line_by}

-- what stands beyond the end
pub not_beyond : {X : Type 0} (xs : List X) (k : ℕ) → k < length xs → slice_get xs k ≡ None → ⊥
not_beyond [] k l e = omega (arith, l)
not_beyond (x ∷ xs) zero l e = cc
not_beyond (x ∷ xs) (suc k) l e = not_beyond xs k (omega (arith, l)) e

pub point_at : (rows : WorldRows) (id : ℕ) (spot : PointSpot) → slice_get rows.points id ≡ Some spot → slice_get (tables_of rows).points id ≡ Some (at (the_context (contexts_of rows) spot.context) spot.place spot.depth)
point_at rows id spot e = map_get (point_of (contexts_of rows)) rows.points id spot e

pub line_is : (compiled : Compiled) (stubs : List (List ℕ × Stub)) (depth : ℕ) (w : WorldState) → IsKept w.rows → (id : ℕ) (spot : Spot) → IsSpotOf w.rows id spot →
    line_by compiled spot ≡ line_of (source compiled stubs depth w) (point_in w id)
line_is compiled stubs depth w kept id spot is =
    ap (line_by compiled) is.told
    ∙ (ap (λ f. option_and_then (λ code. slice_get code.lines is.at.place) (code_for compiled.program f)) (sym (fun_of_row w.rows kept is.at.context is.row is.is_context))
    ∙ ap (λ o. line_of (source compiled stubs depth w) (unwrap_or o (at main 0 0))) (sym (point_at w.rows id is.at is.stands)))
