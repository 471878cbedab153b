-- Where points, variables and shapes are few, no query is heavy.
use Rattle.std.proofs.Common.{◌≡◌, ℕ, ◌*◌, ◌≤◌, suc, Bool, true, false, cond, Option, Some, None, List, [], ◌∷◌, map, length, get_or, ◌⊎◌, inl, inr, refl, sym, ap, subst, ◌∙◌, arith, length-append}
use Rattle.std.proofs.lemmas.List.{length-map}
use Rattle.std.specs.List.{All, Contains, flat_map}
use Rattle.graph_walks.specs.Worlds.{Memory, nothing, Ask, Edge, World, HasFact, assigned, FactGives, AllGiven}
use Rattle.graph_walks.specs.Backs.{Wanted, still, by_source, by_ask, Explains, unwanted, by_fact, Asks, unasked, asked, BackState, Reached, here, back, Heavy, Seen}
use Rattle.graph_walks.specs.Walks.{Visible}
use Rattle.graph_walks.proofs.Distinct.{no_longer}
use Rattle.graph_walks.proofs.Lists.{empty, first, first_or_later, later, map_has, flat_map_has}
use Rattle.abstract_shapes.specs.Shapes.{Shape}
use Rattle.world_rules.specs.Places.{Variable, Point, same_variable}
use Rattle.world_rules.proofs.Same.{variable_equal, variable_same}
use Rattle.world_rules.proofs.Extending.{some_same}

-- ---- all memories of some variables and shapes

abbrev pub put : Variable → Option Shape → Memory Variable Shape → Memory Variable Shape
put v o m u = cond (same_variable v u) o (m u)

abbrev pub options : List Shape → List (Option Shape)
options shapes = None ∷ map Some shapes

abbrev pub memories : List Variable → List Shape → List (Memory Variable Shape)
memories [] shapes = nothing ∷ []
memories (v ∷ vs) shapes = flat_map (λ m. map (λ o. put v o m) (options shapes)) (memories vs shapes)

-- a memory of these variables and shapes alone
pub record IsOf (vars : List Variable) (shapes : List Shape) (m : Memory Variable Shape) : Type 0 where
  pub at : (v : Variable) (s : Shape) → m v ≡ Some s → Contains vars v × Contains shapes s

option_there : (shapes : List Shape) (o : Option Shape) → ((s : Shape) → o ≡ Some s → Contains shapes s) → Contains (options shapes) o
option_there shapes None h = first None (map Some shapes)
option_there shapes (Some s) h = later None (Some s) (map Some shapes) (map_has Some shapes s (h s refl))

pub memory_there : (vars : List Variable) (shapes : List Shape) (m : Memory Variable Shape) → IsOf vars shapes m → Contains (memories vars shapes) m
memory_there [] shapes m h = subst (λ z. Contains (nothing ∷ []) z) (λ i v. none v (m v) refl i) (first nothing [])
  where
    none : (v : Variable) (o : Option Shape) → m v ≡ o → None ≡ o
    none v None e = refl
    none v (Some s) e = empty v (h.at v s e).0
memory_there (v ∷ vs) shapes m h =
    let rest : Memory Variable Shape = put v None m in
    let there : Contains (memories vs shapes) rest = memory_there vs shapes rest (record { at = λ u s e. others u s (same_variable v u) refl e }) in
    subst (λ z. Contains (memories (v ∷ vs) shapes) z) (λ i u. same u (same_variable v u) refl i)
    (flat_map_has (λ m. map (λ o. put v o m) (options shapes)) (memories vs shapes) rest (put v (m v) rest) there
    (map_has (λ o. put v o rest) (options shapes) (m v) (option_there shapes (m v) (λ s e. (h.at v s e).1))))
  where
    others : (u : Variable) (s : Shape) (b : Bool) → same_variable v u ≡ b → cond b None (m u) ≡ Some s → Contains vs u × Contains shapes s
    others u s true i e = cc
    others u s false i e = (behind (first_or_later v u vs (h.at u s e).0), (h.at u s e).1)
      where
        behind : (u ≡ v) ⊎ Contains vs u → Contains vs u
        behind (inl j) = let k : same_variable v u ≡ true = subst (λ z. same_variable v z ≡ true) (sym j) (variable_same v) in cc
        behind (inr d) = d

    same : (u : Variable) (b : Bool) → same_variable v u ≡ b → cond b (m v) (cond b None (m u)) ≡ m u
    same u true i = ap m (variable_equal v u i)
    same u false i = refl

-- ---- how many they are

abbrev pub count : List Variable → List Shape → ℕ
count [] shapes = 1
count (v ∷ vs) shapes = count vs shapes * suc (length shapes)

parts_long : {X Y : Type 0} (f : X → List Y) (k : ℕ) → ((x : X) → length (f x) ≡ k) → (xs : List X) → length (flat_map f xs) ≡ length xs * k
parts_long f k h [] = omega arith
parts_long f k h (x ∷ xs) = length-append (f x) (flat_map f xs) ∙ omega (arith, h x, parts_long f k h xs)

pub counted : (vars : List Variable) (shapes : List Shape) → length (memories vars shapes) ≡ count vars shapes
counted [] shapes = omega arith
counted (v ∷ vs) shapes =
    parts_long (λ m. map (λ o. put v o m) (options shapes)) (suc (length shapes)) (λ m. length-map (options shapes) (λ o. put v o m) ∙ omega (arith, length-map shapes Some)) (memories vs shapes)
    ∙ ap (λ k. k * suc (length shapes)) (counted vs shapes)

-- ---- states

module _ (w : World Point Variable Shape) (points : List Point) (vars : List Variable) (shapes : List Shape) where
  -- its edges, facts and source sets are of these points, variables and shapes
  pub record IsSmall : Type 0 where
    pub edges : (e : Edge Point Variable Shape) → Contains w.edges e → Contains points e.from
    pub sources : (p : Point) (s : Shape) (source : Memory Variable Shape) → HasFact w p s source → IsOf vars shapes source
    pub given : (v : Variable) (s : Shape) → FactGives w v s → Contains vars v × Contains shapes s

  module _ (small : IsSmall) where
    explained : (t : Option Variable) (p : Point) (goals source : Memory Variable Shape) → Explains w t p goals source → IsOf vars shapes source
    explained t p goals source (unwanted n) = record { at = λ v s e. cc }
    explained t p goals source (by_fact v s i j from f) = small.sources p s from f

    asked_of : (a : Option (Ask Variable Shape)) (pair : Option (Variable × Shape)) → Asks w a pair → (v : Variable) (s : Shape) → pair ≡ Some (v, s) → Contains vars v × Contains shapes s
    asked_of a pair unasked v s e = cc
    asked_of a pair (asked q t p g) v s e =
        let x : Variable × Shape = (q.var, t) in
        let y : Variable × Shape = (v, s) in
        let i : x ≡ y = some_same e in
        let j : q.var ≡ v = ap (λ x. x.0) i in
        let k : t ≡ s = ap (λ x. x.1) i in
        small.given v s (subst (λ z. FactGives w z s) j (subst (λ z. FactGives w q.var z) k g))

    before_of : (e : Edge Point Variable Shape) (after before : Memory Variable Shape) → BackState w e after before → IsOf vars shapes after → IsOf vars shapes before
    before_of e after before b h = record { at = λ v s i. go v s ((b.wanted v s).0 i) }
      where
        go : (v : Variable) (s : Shape) → Wanted (assigned w e) after b.source b.pair v s → Contains vars v × Contains shapes s
        go v s (still n i) = h.at v s i
        go v s (by_source i) = (explained _ _ _ _ b.explains).at v s i
        go v s (by_ask i) = asked_of _ _ b.asks v s i

    reached_of : (point : Point) (goals : Memory Variable Shape) → Contains points point → IsOf vars shapes goals → (p : Point) (m : Memory Variable Shape) → Reached w point goals p m → Contains points p × IsOf vars shapes m
    reached_of point goals c h p m here = (c, h)
    reached_of point goals c h p m (back {after} {before} e r b) = (small.edges e b.edge, before_of e after before b (reached_of point goals c h _ _ r).1)

    abbrev states : List (Point × Memory Variable Shape)
    states = flat_map (λ p. map (λ m. (p, m)) (memories vars shapes)) points

    states_long : length states ≡ length points * count vars shapes
    states_long = parts_long (λ p. map (λ m. (p, m)) (memories vars shapes)) (count vars shapes) (λ p. length-map (memories vars shapes) (λ m. (p, m)) ∙ counted vars shapes) points

    pub not_heavy : (point : Point) (goals : Memory Variable Shape) (budget : ℕ) → length points * count vars shapes ≤ budget → Contains points point → AllGiven w goals → Heavy w point goals budget → ⊥
    not_heavy point goals budget few c g heavy =
        let among : All (Contains states) heavy.states = λ k d l. there (get_or heavy.states k d) (heavy.reached k d l) in
        let most : length heavy.states ≤ length states = no_longer heavy.states states heavy.apart among in
        omega (arith, heavy.many, most, states_long, few)
      where
        there : (x : Point × Memory Variable Shape) → Reached w point goals x.0 x.1 → Contains states x
        there x r =
            let of : Contains points x.0 × IsOf vars shapes x.1 = reached_of point goals c (record { at = λ v s e. small.given v s (g.at v s e) }) x.0 x.1 r in
            flat_map_has (λ p. map (λ m. (p, m)) (memories vars shapes)) points x.0 x of.0 (map_has (λ m. (x.0, m)) (memories vars shapes) x.1 (memory_there vars shapes x.1 of.1))

    pub seen_is_visible : (point : Point) (goals : Memory Variable Shape) (budget : ℕ) → length points * count vars shapes ≤ budget → Contains points point → Seen w point goals budget → Visible w point goals
    seen_is_visible point goals budget few c (inl v) = v
    seen_is_visible point goals budget few c (inr h) = absurd (not_heavy point goals budget few c h.1 h.0)
