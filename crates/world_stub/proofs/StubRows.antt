-- The rows of a stub, one after the other, in a world in which nothing is another but what is remembered.
use Rattle.std.proofs.Common.{◌≡◌, ◌↔◌, ◌+◌, ◌<◌, ◌≤◌, ℕ, suc, Bool, true, false, Some, List, [], ◌∷◌, ◌++◌, length, map, take, get_or, slice_get, refl, sym, ap, subst, ◌∙◌, arith}
use Rattle.std.specs.FinSet as finite
use Rattle.std.specs.FinSet.{contains-empty}
use Rattle.std.specs.Ordering.{nat_cmp}
use Rattle.std.specs.List.{Contains, IsDistinct}
use Rattle.std.proofs.lemmas.Grind.{common_steps}
use Rattle.std.proofs.lemmas.List.{take_more, take_all, length-map, map-append}
use Rattle.type_terms.specs.Stubs.{Name, name_view}
use Rattle.type_terms.specs.declared.stub.StubName.{StubName}
use Rattle.program_tables.specs.Programs.{Compiled}
use Rattle.abstract_shapes.specs.declared.shape.Shape.{Shape as ShapeRow}
use Rattle.abstract_shapes.specs.declared.table.TableRow.{TableRow}
use Rattle.abstract_shapes.specs.Numbering.{structures}
use Rattle.abstract_shapes.specs.Places.{same_place}
use Rattle.abstract_shapes.specs.Printed.{IsPrinted}
use Rattle.abstract_shapes.specs.Scenes.{scene_of, shapes_in}
use Rattle.abstract_shapes.specs.Shapes.{truth_of}
use Rattle.abstract_shapes.specs.Tables.{places_of}
use Rattle.type_terms.specs.Terms.{Term}
use Rattle.world_tables.specs.Rows.{WorldRows, IsKept}
use Rattle.world_tables.specs.declared.spot.VariableSpot.TheVariants.{Global}
use Rattle.world_tables.specs.Tables.{HaveOneNumber}
use Rattle.world_tables.proofs.Prefixes.{as_many}
use Rattle.abstract_vm.specs.Worlds.{WorldState}
use Rattle.world_stub.specs.Ends.{IsSeenAt, HasShape}
use Rattle.world_stub.specs.Results.{IsTypeAt, IsRowOf, AreRowsOf, no_rows, a_row}
use Rattle.world_stub.specs.Solved.{OnlySolved}

-- ---- shapes that are kept

taken : {X : Type 0} (n : ℕ) (xs : List X) → length (take n xs) ≤ length xs
taken n [] = grind (arith, common_steps)
taken n (x ∷ xs) = grind (arith, common_steps)

pub kept_all : (rows : WorldRows) → IsKept rows → (all : List ShapeRow) → take (length rows.graph.truths) all ≡ rows.shapes → length rows.graph.truths ≤ length all
kept_all rows kept all e =
    let a : length (take (length rows.graph.truths) all) ≤ length all = taken (length rows.graph.truths) all in
    let b : length (take (length rows.graph.truths) all) ≡ length rows.shapes = ap length e in
    let c : length rows.graph.truths ≡ length (map truth_of (structures rows.shapes)) = ap length kept.truths_are in
    let d : length (map truth_of (structures rows.shapes)) ≡ length (structures rows.shapes) = length-map (structures rows.shapes) truth_of in
    let f : length (structures rows.shapes) ≡ length rows.shapes = as_many rows.shapes in
    omega (arith, a, b, c, d, f)

-- ---- in the first world as in a later one

module _ (w v : WorldState) (o : OnlySolved w v) (ends : List ℕ) (n : ℕ) where
  pub shape_as : (id : ℕ) → HasShape v ends n id ↔ HasShape w ends n id
  shape_as id = (
    λ h. record {
      var = h.var;
      number_is = subst (λ (r : WorldRows). slice_get r.variables h.var ≡ Some (Global n)) o.rows h.number_is;
      seen = subst (λ (r : WorldRows). IsSeenAt r.graph w.solver.budget ends h.var id) o.rows (subst (λ b. IsSeenAt v.rows.graph b ends h.var id) o.budget h.seen);
    },
    λ h. record {
      var = h.var;
      number_is = subst (λ (r : WorldRows). slice_get r.variables h.var ≡ Some (Global n)) (sym o.rows) h.number_is;
      seen = subst (λ b. IsSeenAt v.rows.graph b ends h.var id) (sym o.budget) (subst (λ (r : WorldRows). IsSeenAt r.graph w.solver.budget ends h.var id) (sym o.rows) h.seen);
    },
  )

  pub type_as : (compiled : Compiled) (term : Term) → IsTypeAt compiled v ends n term → IsTypeAt compiled w ends n term
  type_as compiled term a =
      record {
        rows = a.rows;
        many = subst (λ (r : WorldRows). length r.graph.truths ≤ length a.rows) o.rows a.many;
        first = subst (λ (r : WorldRows). take (length r.graph.truths) a.rows ≡ r.shapes) o.rows a.first;
        members = a.members;
        has = λ once id. let one = a.has (subst (λ (r : WorldRows). HaveOneNumber r.variables) (sym o.rows) once) id in (λ t. (shape_as id).0 (one.0 t), λ h. one.1 ((shape_as id).1 h));
        apart = subst (λ (r : WorldRows). IsDistinct same_place (places_of r.joined)) o.rows a.apart;
        printed = subst (λ (r : WorldRows). IsPrinted (scene_of (structures a.rows) r.joined compiled.program.names compiled.class_names) 3 (shapes_in a.members (structures a.rows)) term) o.rows a.printed;
      }

  pub row_as : (compiled : Compiled) (row : Name) → IsRowOf compiled v ends n row → IsRowOf compiled w ends n row
  row_as compiled row r = record { text = r.text; type_is = type_as compiled row.term r.type_is }

  -- what is printed after the shapes were asked for
  pub type_now : (compiled : Compiled) (term : Term) (all : List ShapeRow) (joined : List TableRow) (names : List (List ℕ)) (classes : List ℕ) (members : finite.FinSet nat_cmp) →
      IsKept v.rows → take (length v.rows.graph.truths) all ≡ v.rows.shapes → joined ≡ v.rows.joined → IsDistinct same_place (places_of joined) → names ≡ compiled.program.names → classes ≡ compiled.class_names →
      (HaveOneNumber w.rows.variables → (id : ℕ) → (finite.contains members id ≡ true) ↔ HasShape w ends n id) →
      IsPrinted (scene_of (structures all) joined names classes) 3 (shapes_in members (structures all)) term → IsTypeAt compiled w ends n term
  type_now compiled term all joined names classes members kept first joined_is apart names_are classes_are has printed =
      record {
        rows = all;
        many = subst (λ (r : WorldRows). length r.graph.truths ≤ length all) o.rows (kept_all v.rows kept all first);
        first = subst (λ (r : WorldRows). take (length r.graph.truths) all ≡ r.shapes) o.rows first;
        members = members;
        has = has;
        apart = subst (λ ts. IsDistinct same_place (places_of ts)) tables apart;
        printed =
            subst (λ ts. IsPrinted (scene_of (structures all) ts compiled.program.names compiled.class_names) 3 (shapes_in members (structures all)) term) tables
            (subst (λ ns. IsPrinted (scene_of (structures all) joined ns compiled.class_names) 3 (shapes_in members (structures all)) term) names_are
            (subst (λ cs. IsPrinted (scene_of (structures all) joined names cs) 3 (shapes_in members (structures all)) term) classes_are printed));
      }
    where
      tables : joined ≡ w.rows.joined
      tables = joined_is ∙ ap (λ (r : WorldRows). r.joined) o.rows

-- ---- row by row

pub one_row_more : (compiled : Compiled) (w : WorldState) (ends : List ℕ) {ns : List ℕ} {rows : List Name} (n : ℕ) (row : Name) → AreRowsOf compiled w ends ns rows → IsRowOf compiled w ends n row → AreRowsOf compiled w ends (ns ++ n ∷ []) (rows ++ row ∷ [])
one_row_more compiled w ends n row no_rows r = a_row r no_rows
one_row_more compiled w ends n row (a_row first more) r = a_row first (one_row_more compiled w ends n row more r)

pub first_rows : (compiled : Compiled) (w : WorldState) (ends : List ℕ) (names : List ℕ) (rows : List StubName) → names ≡ [] → rows ≡ [] → AreRowsOf compiled w ends names (map name_view rows)
first_rows compiled w ends names rows e f = subst (λ ns. AreRowsOf compiled w ends ns (map name_view rows)) (sym e) (subst (λ rs. AreRowsOf compiled w ends [] (map name_view rs)) (sym f) no_rows)

pub next_row : (compiled : Compiled) (w : WorldState) (ends : List ℕ) (names : List ℕ) (i d n : ℕ) (rows new : List StubName) (row : StubName) → i < length names → get_or names i d ≡ n → new ≡ rows ++ row ∷ [] →
    AreRowsOf compiled w ends (take i names) (map name_view rows) → IsRowOf compiled w ends n (name_view row) → AreRowsOf compiled w ends (take (i + 1) names) (map name_view new)
next_row compiled w ends names i d n rows new row l e f are r =
    subst (λ ns. AreRowsOf compiled w ends ns (map name_view new)) (sym (take_more names i d l ∙ ap (λ m. take i names ++ m ∷ []) e))
    (subst (λ rs. AreRowsOf compiled w ends (take i names ++ n ∷ []) rs) (sym (ap (map name_view) f ∙ map-append name_view rows (row ∷ []))) (one_row_more compiled w ends n (name_view row) are r))
