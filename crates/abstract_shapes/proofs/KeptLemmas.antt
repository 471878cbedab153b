-- What a type more that is kept tells.
use Rattle.std.proofs.Common.{◌≡◌, ℕ, cond, ◌&&◌, nat_eq, Option, Some, inl, inr, sym, ap, ◌∙◌, subst}
use Rattle.std.proofs.lemmas.Bool.{cases_Bool}
use Rattle.type_terms.specs.declared.term.TypeTerm.{TypeTerm}
use Rattle.type_terms.specs.View.{term_view}
use Rattle.abstract_shapes.specs.declared.kept.PlaceAtDepth.{PlaceAtDepth}
use Rattle.abstract_shapes.specs.declared.place.Place.{Place}
use Rattle.abstract_shapes.specs.Kept.{same_key}
use Rattle.abstract_shapes.specs.Places.{same_place}
use Rattle.abstract_shapes.specs.Printed.{Scene, IsPrinted}
use Rattle.abstract_shapes.specs.SameLaws.{number_is, both_of}
use Rattle.abstract_shapes.specs.PlaceLaws.{place_is}

some_is : (s t : TypeTerm) → Some s ≡ Some t → s ≡ t
some_is s t e = cc

-- the type that is found after one more is kept
pub kept_more : (scene : Scene) (place : Place) (depth : ℕ) (made : TypeTerm) (old new : PlaceAtDepth → Option TypeTerm)
    → ((k : PlaceAtDepth) → new k ≡ cond (same_key (record { place = place; depth = depth }) k) (Some made) (old k))
    → ((p : Place) (d : ℕ) (t : TypeTerm) → old (record { place = p; depth = d }) ≡ Some t → IsPrinted scene d (scene.joined p) (term_view t))
    → IsPrinted scene depth (scene.joined place) (term_view made)
    → (p : Place) (d : ℕ) (t : TypeTerm) → new (record { place = p; depth = d }) ≡ Some t → IsPrinted scene d (scene.joined p) (term_view t)
kept_more scene place depth made old new updates kept is p d t e = elim (cases_Bool (same_place place p && nat_eq depth d)) [
  | inl same ↦
      let parts = both_of (same_place place p) (nat_eq depth d) same in
      let one : made ≡ t = some_is made t (sym (ap (λ b. cond b (Some made) (old (record { place = p; depth = d }))) same) ∙ sym (updates (record { place = p; depth = d })) ∙ e) in
      subst (λ n. IsPrinted scene n (scene.joined p) (term_view t)) (number_is depth d parts.1)
      (subst (λ q. IsPrinted scene depth (scene.joined q) (term_view t)) (place_is place p parts.0) (subst (λ m. IsPrinted scene depth (scene.joined place) (term_view m)) one is))
  | inr other ↦
      kept p d t (sym (ap (λ b. cond b (Some made) (old (record { place = p; depth = d }))) other) ∙ sym (updates (record { place = p; depth = d })) ∙ e)
]
