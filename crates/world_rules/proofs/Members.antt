-- What stands among the items stands among their edges, facts or contexts, and the other way round.
use Rattle.std.proofs.Common.{◌≡◌, Bool, true, false, ◌||◌, List, [], ◌∷◌, inl, inr, refl, sym, ap}
use Rattle.std.specs.List.{Contains}
use Rattle.graph_walks.specs.Worlds.{Edge, Fact}
use Rattle.graph_walks.proofs.Lists.{empty, first_as, later, first_or_later}
use Rattle.abstract_shapes.specs.Shapes.{Shape}
use Rattle.world_rules.specs.Places.{Context, Variable, Point, same_context}
use Rattle.world_rules.specs.Items.{Item, a_context, an_edge, a_fact, an_entry, edges_of, facts_of, has_context}
use Rattle.world_rules.proofs.Same.{context_same, context_equal}

-- a member that is not the first stands behind it
behind : {first i : Item} (items : List Item) → (i ≡ first → ⊥) → Contains (first ∷ items) i → Contains items i
behind items other c = elim (first_or_later _ _ items c) [ inl same ↦ absurd (other same) | inr k ↦ k ]

-- ---- edges

pub edge_item : (items : List Item) (e : Edge Point Variable Shape) → Contains (edges_of items) e → Contains items (an_edge e)
edge_item [] e c = empty e c
edge_item (an_edge d ∷ items) e c =
    elim (first_or_later d e (edges_of items) c) [ inl same ↦ first_as _ _ items (ap an_edge same) | inr k ↦ later _ _ items (edge_item items e k) ]
edge_item (a_context b ∷ items) e c = later _ _ items (edge_item items e c)
edge_item (a_fact f ∷ items) e c = later _ _ items (edge_item items e c)
edge_item (an_entry place t ∷ items) e c = later _ _ items (edge_item items e c)

edge_of_item : {d e : Edge Point Variable Shape} → an_edge d ≡ an_edge e → d ≡ e
edge_of_item same = cc

pub item_edge : (items : List Item) (e : Edge Point Variable Shape) → Contains items (an_edge e) → Contains (edges_of items) e
item_edge [] e c = empty _ c
item_edge (an_edge d ∷ items) e c =
    elim (first_or_later _ _ items c) [ inl same ↦ first_as d e (edges_of items) (edge_of_item same) | inr k ↦ later d e (edges_of items) (item_edge items e k) ]
item_edge (a_context b ∷ items) e c = item_edge items e (behind items (λ same. cc) c)
item_edge (a_fact f ∷ items) e c = item_edge items e (behind items (λ same. cc) c)
item_edge (an_entry place t ∷ items) e c = item_edge items e (behind items (λ same. cc) c)

-- ---- facts

pub fact_item : (items : List Item) (f : Fact Point Variable Shape) → Contains (facts_of items) f → Contains items (a_fact f)
fact_item [] f c = empty f c
fact_item (a_fact g ∷ items) f c =
    elim (first_or_later g f (facts_of items) c) [ inl same ↦ first_as _ _ items (ap a_fact same) | inr k ↦ later _ _ items (fact_item items f k) ]
fact_item (a_context b ∷ items) f c = later _ _ items (fact_item items f c)
fact_item (an_edge d ∷ items) f c = later _ _ items (fact_item items f c)
fact_item (an_entry place t ∷ items) f c = later _ _ items (fact_item items f c)

fact_of_item : {g f : Fact Point Variable Shape} → a_fact g ≡ a_fact f → g ≡ f
fact_of_item same = cc

pub item_fact : (items : List Item) (f : Fact Point Variable Shape) → Contains items (a_fact f) → Contains (facts_of items) f
item_fact [] f c = empty _ c
item_fact (a_fact g ∷ items) f c =
    elim (first_or_later _ _ items c) [ inl same ↦ first_as g f (facts_of items) (fact_of_item same) | inr k ↦ later g f (facts_of items) (item_fact items f k) ]
item_fact (a_context b ∷ items) f c = item_fact items f (behind items (λ same. cc) c)
item_fact (an_edge d ∷ items) f c = item_fact items f (behind items (λ same. cc) c)
item_fact (an_entry place t ∷ items) f c = item_fact items f (behind items (λ same. cc) c)

-- ---- contexts

-- a test that is the first or among the others
by_test : {P : Type 0} (one others : Bool) → one || others ≡ true → (one ≡ true → P) → (others ≡ true → P) → P
by_test true others h now then = now refl
by_test false others h now then = then h

passes : (one others : Bool) → others ≡ true → one || others ≡ true
passes true others h = refl
passes false others h = h

pub context_item : (items : List Item) (c : Context) → has_context items c ≡ true → Contains items (a_context c)
context_item [] c h = cc
context_item (a_context b ∷ items) c h =
    by_test (same_context b c) (has_context items c) h
    (λ same. first_as _ _ items (ap a_context (sym (context_equal b c same))))
    (λ more. later _ _ items (context_item items c more))
context_item (an_edge d ∷ items) c h = later _ _ items (context_item items c h)
context_item (a_fact f ∷ items) c h = later _ _ items (context_item items c h)
context_item (an_entry place t ∷ items) c h = later _ _ items (context_item items c h)

same_as_first : (b c : Context) (others : Bool) → a_context c ≡ a_context b → same_context b c || others ≡ true
same_as_first b c others same =
    let i : c ≡ b = cc in
    let tested : same_context b c ≡ true = rw i (context_same b) in
    rw tested refl

pub item_context : (items : List Item) (c : Context) → Contains items (a_context c) → has_context items c ≡ true
item_context [] c k = empty _ k
item_context (a_context b ∷ items) c k =
    elim (first_or_later _ _ items k) [
      | inl same ↦ same_as_first b c (has_context items c) same
      | inr later ↦ passes (same_context b c) (has_context items c) (item_context items c later)
    ]
item_context (an_edge d ∷ items) c k = item_context items c (behind items (λ same. cc) k)
item_context (a_fact f ∷ items) c k = item_context items c (behind items (λ same. cc) k)
item_context (an_entry place t ∷ items) c k = item_context items c (behind items (λ same. cc) k)
