-- The stub of a world.
use Rattle.std.specs.Prelude.{◌≡◌, ◌↔◌, ℕ, List, [], ◌∷◌}
use Rattle.std.specs.List.{Contains}
use Rattle.stack_code.specs.declared.op.Op.TheVariants as op
use Rattle.type_terms.specs.Terms.{Term}
use Rattle.type_terms.specs.Stubs.{Name, Stub}
use Rattle.scope_rules.specs.NameLists.{text_of}
use Rattle.abstract_shapes.specs.declared.place.Place.{Place}
use Rattle.abstract_shapes.specs.Shapes.{Shape}
use Rattle.abstract_shapes.specs.Printed.{Scene, IsPrinted}
use Rattle.world_rules.specs.Places.{main, global, at}
use Rattle.world_rules.specs.Sources.{Source}
use Rattle.world_rules.specs.Items.{Item, a_context, an_entry, map_of}
use Rattle.world_rules.specs.Rules.{Stands, IsSeen}
use Rattle.world_rules.specs.Texts.{class_name}

module _ (s : Source) (items : List Item) where
  -- a shape that a global is seen to have where the module ends; where the End has no depth there is none
  pub record EndsWith (n : ℕ) (t : Shape) : Type 0 where
    pub place : ℕ
    pub depth : ℕ
    pub context : Contains items (a_context main)
    pub stands : Stands s main place depth op.End
    pub seen : IsSeen s items (at main place depth) (map_of (global n ∷ []) (t ∷ []))

  -- what is printed from: the names of classes, and the shapes of each joined table
  pub record IsSceneOf (scene : Scene) : Type 0 where
    pub names : (c : ℕ) → scene.class_name c ≡ class_name s.program c
    pub joined : (place : Place) (t : Shape) → Contains (scene.joined place) t ↔ Contains items (an_entry place t)

  -- containers are printed to a depth of three; no shapes print as Any
  pub record IsTypeOfName (n : ℕ) (term : Term) : Type 0 where
    pub scene : Scene
    pub is_scene : IsSceneOf scene
    pub shapes : List Shape
    pub ends : (t : Shape) → Contains shapes t ↔ EndsWith n t
    pub printed : IsPrinted scene 3 shapes term

  -- each printed name in its order, with its type
  pub data AreNames : List ℕ → List Name → Type 0 where
    no_names : AreNames [] []
    a_name : {n : ℕ} {ns : List ℕ} {row : Name} {rows : List Name} →
        row.name ≡ text_of s.program.names n → IsTypeOfName n row.term → AreNames ns rows → AreNames (n ∷ ns) (row ∷ rows)

  -- functions and classes come with their forms
  pub record IsStubOf (stub : Stub) : Type 0 where
    pub names : AreNames s.scopes.printed stub.names
    pub funs : stub.funs ≡ []
    pub classes : stub.classes ≡ []
