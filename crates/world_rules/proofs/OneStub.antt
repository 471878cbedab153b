-- Worlds that have the same items have the same stub.
use Rattle.std.proofs.Common.{◌≡◌, ◌↔◌, ℕ, List, [], ◌∷◌, refl, sym, ap, ◌∙◌}
use Rattle.std.specs.List.{Contains}
use Rattle.type_terms.specs.Terms.{Term}
use Rattle.type_terms.specs.Stubs.{Name, Stub}
use Rattle.abstract_shapes.specs.declared.place.Place.{Place}
use Rattle.abstract_shapes.specs.Shapes.{Shape}
use Rattle.abstract_shapes.specs.Laws.{SameSet, SameScene, OnePrintedType}
use Rattle.abstract_shapes.specs.Printed.{Scene}
use Rattle.world_rules.specs.Sources.{Source}
use Rattle.world_rules.specs.Items.{Item, an_entry}
use Rattle.world_rules.specs.Rules.{IsLeast}
use Rattle.world_rules.specs.Stubs.{IsSceneOf, IsTypeOfName, AreNames, no_names, a_name, IsStubOf}
use Rattle.world_rules.proofs.Told.{same_items, same_ends}

over : {A B C : Type 0} → A ↔ B → B ↔ C → A ↔ C
over f g = (λ a. g.0 (f.0 a), λ c. f.1 (g.1 c))

back : {A B : Type 0} → A ↔ B → B ↔ A
back f = (f.1, f.0)

module _ (one_printed_type : OnePrintedType) (s : Source) (items more : List Item) (l : IsLeast s items) (m : IsLeast s more) where
  same_scene : (scene other : Scene) → IsSceneOf s items scene → IsSceneOf s more other → SameScene scene other
  same_scene scene other a b =
      record {
        names = λ c. a.names c ∙ sym (b.names c);
        joined = λ place t. over (a.joined place t) (over (same_items s items more l m (an_entry place t)) (back (b.joined place t)));
      }

  one_type : (n : ℕ) (t u : Term) → IsTypeOfName s items n t → IsTypeOfName s more n u → t ≡ u
  one_type n t u a b =
      one_printed_type 3 a.scene b.scene a.shapes b.shapes t u (same_scene a.scene b.scene a.is_scene b.is_scene)
      (λ x. over (a.ends x) (over (same_ends s items more l m n x) (back (b.ends x)))) a.printed b.printed

  one_names : {ns : List ℕ} {rows others : List Name} → AreNames s items ns rows → AreNames s more ns others → rows ≡ others
  one_names no_names no_names = refl
  one_names (a_name {n = n} {row = x} {rows = xs} i t more_names) (a_name {row = y} j u others) =
      let name : x.name ≡ y.name = i ∙ sym j in
      let term : x.term ≡ y.term = one_type n x.term y.term t u in
      let row : x ≡ y = ap (λ z. record { name = z; term = x.term }) name ∙ ap (λ z. record { name = y.name; term = z }) term in
      ap (λ z. z ∷ xs) row ∙ ap (λ zs. y ∷ zs) (one_names more_names others)

  pub one_stub : (one other : Stub) → IsStubOf s items one → IsStubOf s more other → one ≡ other
  one_stub one other a b =
      ap (λ z. record { names = z; funs = one.funs; classes = one.classes }) (one_names a.names b.names)
      ∙ ap (λ z. record { names = other.names; funs = z; classes = one.classes }) (a.funs ∙ sym b.funs)
      ∙ ap (λ z. record { names = other.names; funs = other.funs; classes = z }) (a.classes ∙ sym b.classes)
