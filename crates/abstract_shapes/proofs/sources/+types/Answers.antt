use Rattle.std.proofs.Common.{◌≡◌, ◌∙◌, ◌+◌, ◌-◌, ◌<◌, [], ◌∷◌, ◌++◌, length, map, take, IfOk, option_map, refl, sym, ap, subst, arith}
use Rattle.std.proofs.lemmas.List.{take_more}
use Rattle.std.proofs.lemmas.Result.{IfOk-weaker}
use Rattle.type_terms.specs.View.{term_view}
use Rattle.abstract_shapes.specs.Numbering.{structures, shape_at}
use Rattle.abstract_shapes.specs.Printed.{ArePlaces, no_place, IsShapeType, of_plain, IsPrinted}
use Rattle.abstract_shapes.specs.Scenes.{scene_from, shapes_under}
use Rattle.abstract_shapes.proofs.PrintedLemmas.{list_made, dict_made, tuple_made, type_made, zip_more, places_more, pair_made, display_made, none_at, some_at}
use Rattle.abstract_shapes.proofs.ViewLemmas.{view_tuple}
use Rattle.abstract_shapes.proofs.sources.+types.Goals as goal

pub container_type-returns-in_ok-item-in-List-clause-made : goal.container_type-returns-in_ok-item-in-List-clause-made
container_type-returns-in_ok-item-in-List-clause-made t c = rw c.in-List.is (list_made (scene_from c.args.sources.now) (IsPrinted (scene_from c.args.sources.now) c.args.depth) c.in-List.site c.in_ok-item-in-List.item c.in_ok-item-in-List.ensures.made)

pub container_type-returns-in_ok-value-in-Dict-clause-made : goal.container_type-returns-in_ok-value-in-Dict-clause-made
container_type-returns-in_ok-value-in-Dict-clause-made t c = rw c.in-Dict.is (dict_made (scene_from c.args.sources.now) (IsPrinted (scene_from c.args.sources.now) c.args.depth) c.in-Dict.site c.in_ok-key-in-Dict.key c.in_ok-value-in-Dict.value c.in_ok-key-in-Dict.ensures.made c.in_ok-value-in-Dict.ensures.made)

pub container_type-returns-in-Tuple-clause-made : goal.container_type-returns-in-Tuple-clause-made
container_type-returns-in-Tuple-clause-made t c = rw c.in-Tuple.is c.tuple_type.ensures.made

pub container_type-returns-in-Pair-clause-made : goal.container_type-returns-in-Pair-clause-made
container_type-returns-in-Pair-clause-made t c = rw c.in-Pair.is (pair_made (scene_from c.args.sources.now) (IsPrinted (scene_from c.args.sources.now) c.args.depth) c.in-Pair.site c.display_type.result c.display_type.ensures.made)

pub tuple_type-returns-in-Some-clause-made : goal.tuple_type-returns-in-Some-clause-made
tuple_type-returns-in-Some-clause-made t c = rw c.in-Some.is (display_made (scene_from c.args.sources.now) (IsPrinted (scene_from c.args.sources.now) c.args.depth) c.args.site c.in-Some.places c.display_type.result c.display_type.ensures.made)

pub tuple_type-returns-in_ok-item-in-None-clause-made : goal.tuple_type-returns-in_ok-item-in-None-clause-made
tuple_type-returns-in_ok-item-in-None-clause-made t c = rw c.in-None.is (tuple_made (scene_from c.args.sources.now) (IsPrinted (scene_from c.args.sources.now) c.args.depth) c.args.site c.in_ok-item-in-None.item c.in_ok-item-in-None.ensures.made)

pub display_type-loop-place-init : goal.display_type-loop-place-init
display_type-loop-place-init t c = record { made = rw c.new-types.ensures.items no_place; kept = c.requires.kept }

pub display_type-loop-place-preserved : goal.display_type-loop-place-preserved
display_type-loop-place-preserved t c = record {
  made = places_more (scene_from c.args.sources.now) (IsPrinted (scene_from c.args.sources.now) c.args.depth) c.args.site c.loop-place.place (c.loop-place.place + 1) c.loop-place.types.items c.push.new.self.items c.in_ok-made.made refl c.in_ok-push.ensures.items
      c.loop-place.invariant.made c.in_ok-made.ensures.made;
  kept = c.in_ok-made.ensures.kept;
}

pub display_type-returns-clause-made : goal.display_type-returns-clause-made
display_type-returns-clause-made t c =
    let all : c.loop-place.place ≡ c.args.places = omega arith in
    (map term_view c.loop-place.types.items, view_tuple c.loop-place.types, subst (λ n. ArePlaces (scene_from c.args.sources.now) (IsPrinted (scene_from c.args.sources.now) c.args.depth) c.args.site 0 n (map term_view c.loop-place.types.items)) all c.loop-place.invariant.made)

pub known_type-returns-in-Some-clause-made : goal.known_type-returns-in-Some-clause-made
known_type-returns-in-Some-clause-made t c = of_plain (sym (c.in_ok-made.ensures (structures c.args.sources.now.shapes.now)) ∙ ap (option_map term_view) c.in-Some.is)

pub shape_type-returns-in-Some-clause-made : goal.shape_type-returns-in-Some-clause-made
shape_type-returns-in-Some-clause-made t c =
    subst (λ s. IfOk c.known_type.result (λ made. IsShapeType (scene_from c.args.sources.now) (IsPrinted (scene_from c.args.sources.now) c.args.depth) s (term_view made))) (some_at _ (structures c.args.sources.now.shapes.now) c.args.id c.shape.result c.in-Some.shape c.in-Some.is c.shape.ensures.shape) c.known_type.ensures.made

pub shape_type-returns-in-None-clause-made : goal.shape_type-returns-in-None-clause-made
shape_type-returns-in-None-clause-made t c = none_at _ (structures c.args.sources.now.shapes.now) c.args.id (scene_from c.args.sources.now) (IsPrinted (scene_from c.args.sources.now) c.args.depth) c.shape.result c.in-None.is c.shape.ensures.shape

pub type_at-returns-clause-made : goal.type_at-returns-clause-made
type_at-returns-clause-made t c =
    type_made (scene_from c.args.sources.now) c.args.depth (c.args.depth - 1) (shapes_under (structures c.args.sources.now.shapes.now) c.args.ids.now) c.in_ok-types.types c.normal.result c.if-depth-eq0.false refl c.in_ok-types.ensures.made c.normal.ensures

pub types_of-loop-id-preserved : goal.types_of-loop-id-preserved
types_of-loop-id-preserved t c =
    let ids = c.args.ids.now in
    let i = c.loop-id.id-index in
    let within : i < length ids = omega arith in
    record {
      made = zip_more (IsShapeType (scene_from c.args.sources.now) (IsPrinted (scene_from c.args.sources.now) c.args.depth)) (shape_at (structures c.args.sources.now.shapes.now)) (take i ids) (take (i + 1) ids) c.id-item.result c.loop-id.types.items c.push.new.self.items c.in_ok-shape_type.field-0
          (take_more ids i c.id-item.result within ∙ ap (λ u. take i ids ++ u ∷ []) (sym c.id-item.is)) c.in_ok-push.ensures.items c.loop-id.invariant.made c.in_ok-shape_type.ensures.made;
      kept = c.in_ok-shape_type.ensures.kept;
    }

pub place_type-returns-in-Some-clause-made : goal.place_type-returns-in-Some-clause-made
place_type-returns-in-Some-clause-made t c =
    let scene = scene_from c.args.sources.now in
    IfOk-weaker c.copy.result _ _ (λ made same. subst (IsPrinted scene c.args.depth (scene.joined c.args.place)) (sym same) (c.in-Some.ensures scene c.requires.kept)) c.copy.ensures

pub place_type-returns-clause-kept : goal.place_type-returns-clause-kept
place_type-returns-clause-kept t c =
    let scene = scene_from c.args.sources.now in
    let printed : IsPrinted scene c.args.depth (scene.joined c.args.place) (term_view c.in_ok-made.made) =
    subst (λ ids. IsPrinted scene c.args.depth (shapes_under (structures c.args.sources.now.shapes.now) ids) (term_view c.in_ok-made.made)) c.at.ensures.table c.in_ok-made.ensures.made in
    c.in_ok-keep.ensures scene c.in_ok-made.ensures.kept (subst (IsPrinted scene c.args.depth (scene.joined c.args.place)) (sym c.in_ok-copy.ensures) printed)
