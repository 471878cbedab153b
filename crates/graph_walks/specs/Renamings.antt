-- A world under other names.
use Rattle.std.specs.List.{Contains}
use Rattle.std.specs.Prelude.{◌≡◌, ◌↔◌, Option, Some, None, IsTrue, option_and_then}
use Rattle.std.proofs.Common.{sym}
use Rattle.graph_walks.specs.Worlds.{Memory, Truth, Test, MayBeTrue, MayBeFalse, Is, Ask, Edge, Fact, World}

-- some things of A have a name in B, and no two of them the same
pub record Names (A B : Type 0) : Type 0 where
  pub name : A → Option B
  pub thing : B → Option A
  pub named : (a : A) (b : B) → name a ≡ Some b → thing b ≡ Some a
  pub names : (a : A) (b : B) → thing b ≡ Some a → name a ≡ Some b

-- each thing is its own name
abbrev pub own_names : {A : Type 0} → Names A A
own_names = record { name = λ a. Some a; thing = λ a. Some a; named = λ a b h. sym h; names = λ a b h. sym h }

-- names read the other way
unfoldable pub swapped : {A B : Type 0} → Names A B → Names B A
swapped n = record { name = n.thing; thing = n.name; named = λ b a h. n.names a b h; names = λ b a h. n.named a b h }

-- the memory under the names of its variables and shapes
abbrev pub renamed : {V S V' S' : Type 0} → Names V V' → Names S S' → Memory V S → Memory V' S'
renamed vars shapes m v' = option_and_then (λ v. option_and_then shapes.name (m v)) (vars.thing v')

-- each variable and shape of the memory has a name
pub record HasNames {V S V' S' : Type 0} (vars : Names V V') (shapes : Names S S') (m : Memory V S) : Type 0 where
  pub at : (v : V) (s : S) → m v ≡ Some s → ((v' : V') × (vars.name v ≡ Some v')) × ((s' : S') × (shapes.name s ≡ Some s'))

module _ {P V S P' V' S' : Type 0} (points : Names P P') (vars : Names V V') (shapes : Names S S') where
  pub data SameTest : Test S → Test S' → Type 0 where
    same_true : SameTest MayBeTrue MayBeTrue
    same_false : SameTest MayBeFalse MayBeFalse
    same_is : {s : S} {s' : S'} → shapes.name s ≡ Some s' → SameTest (Is s) (Is s')

  pub data SameAsk : Option (Ask V S) → Option (Ask V' S') → Type 0 where
    same_none : SameAsk None None
    same_some : {a : Ask V S} {b : Ask V' S'} → vars.name a.var ≡ Some b.var → SameTest a.test b.test → SameAsk (Some a) (Some b)

  pub record SameEdge (e : Edge P V S) (e' : Edge P' V' S') : Type 0 where
    pub from : points.name e.from ≡ Some e'.from
    pub to : points.name e.to ≡ Some e'.to
    pub assigns : e.assigns ≡ e'.assigns
    pub asks : SameAsk e.asks e'.asks

  pub record SameFact (f : Fact P V S) (f' : Fact P' V' S') : Type 0 where
    pub point : points.name f.point ≡ Some f'.point
    pub shape : shapes.name f.shape ≡ Some f'.shape
    pub source : HasNames vars shapes f.source
    pub renamed : renamed vars shapes f.source ≡ f'.source

  -- all of the one world stands in the other, under its name there
  pub record IsCarried (w : World P V S) (w' : World P' V' S') : Type 0 where
    pub edges : (e : Edge P V S) → Contains w.edges e → (e' : Edge P' V' S') × SameEdge e e' × Contains w'.edges e'
    pub facts : (f : Fact P V S) → Contains w.facts f → (f' : Fact P' V' S') × SameFact f f' × Contains w'.facts f'
    pub roots : (p : P) → IsTrue (w.root p) → (p' : P') × (points.name p ≡ Some p') × IsTrue (w'.root p')
    pub truths : (s : S) (s' : S') (t : Truth) → shapes.name s ≡ Some s' → w.truth s ≡ Some t → w'.truth s' ≡ Some t
    pub targets : (p : P) (p' : P') (v : V) → points.name p ≡ Some p' → w.target p ≡ Some v → (v' : V') × (vars.name v ≡ Some v') × (w'.target p' ≡ Some v')

-- the one world is the other under these names: each stands in the other, and neither has more
abbrev pub IsRenamed : {P V S P' V' S' : Type 0} → Names P P' → Names V V' → Names S S' → World P V S → World P' V' S' → Type 0
IsRenamed points vars shapes w w' = IsCarried points vars shapes w w' × IsCarried (swapped points) (swapped vars) (swapped shapes) w' w

-- each edge, fact, root, truth and target of the one world has its like in the other, under its name there, and the other way round
pub record AreAlike {P V S P' V' S' : Type 0} (points : Names P P') (vars : Names V V') (shapes : Names S S') (w : World P V S) (w' : World P' V' S') : Type 0 where
  pub edges_to : (e : Edge P V S) → Contains w.edges e → (e' : Edge P' V' S') × SameEdge points vars shapes e e' × Contains w'.edges e'
  pub edges_from : (e' : Edge P' V' S') → Contains w'.edges e' → (e : Edge P V S) × SameEdge points vars shapes e e' × Contains w.edges e
  pub facts_to : (f : Fact P V S) → Contains w.facts f → (f' : Fact P' V' S') × SameFact points vars shapes f f' × Contains w'.facts f'
  pub facts_from : (f' : Fact P' V' S') → Contains w'.facts f' → (f : Fact P V S) × SameFact points vars shapes f f' × Contains w.facts f
  pub roots_to : (p : P) → IsTrue (w.root p) → (p' : P') × (points.name p ≡ Some p') × IsTrue (w'.root p')
  pub roots_from : (p' : P') → IsTrue (w'.root p') → (p : P) × (points.name p ≡ Some p') × IsTrue (w.root p)
  pub truths : (s : S) (s' : S') (t : Truth) → shapes.name s ≡ Some s' → w.truth s ≡ Some t ↔ w'.truth s' ≡ Some t
  pub targets_to : (p : P) (p' : P') (v : V) → points.name p ≡ Some p' → w.target p ≡ Some v → (v' : V') × (vars.name v ≡ Some v') × (w'.target p' ≡ Some v')
  pub targets_from : (p : P) (p' : P') (v' : V') → points.name p ≡ Some p' → w'.target p' ≡ Some v' → (v : V) × (vars.name v ≡ Some v') × (w.target p ≡ Some v)
