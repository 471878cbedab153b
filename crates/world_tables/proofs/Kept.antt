-- What rows stand for where they grow: the contexts of before, and the spots of before.
use Rattle.std.proofs.Common.{◌≡◌, ◌≢◌, ℕ, ◌+◌, ◌<◌, Option, Some, None, List, [], ◌∷◌, ◌++◌, length, map, slice_get, refl, ap, subst, ◌∙◌, arith, length-append}
use Rattle.std.specs.Option.{option_and_then, unwrap_or}
use Rattle.std.specs.List.{AllPairs, Contains}
use Rattle.graph_walks.proofs.Lists.{first, later, got, Origin, map_from}
use Rattle.flow_graph.specs.declared.context.Context.{Context as ContextRow}
use Rattle.flow_graph.specs.Validity as flow_validity
use Rattle.world_rules.specs.Places.{Context, main, local, slot, at}
use Rattle.world_tables.specs.declared.spot.PointSpot.{PointSpot}
use Rattle.world_tables.specs.declared.spot.VariableSpot.{VariableSpot}
use Rattle.world_tables.specs.declared.spot.VariableSpot.TheVariants.{Local, Slot, Global}
use Rattle.world_tables.specs.Rows.{context_by, context_of, contexts_from, the_context, point_of, variable_of, IsSpotThere}
use Rattle.world_tables.proofs.Apart.{one_number}
use Rattle.world_tables.proofs.Items.{there}
use Rattle.world_tables.proofs.Lists.{get_old}
use Rattle.world_tables.proofs.Stays.{same_map}

-- ---- contexts

-- how many contexts there are
pub contexts_counted : (known : List Context) (spots : List PointSpot) (rows : List ContextRow) → length (contexts_from known spots rows) ≡ length known + length rows
contexts_counted known spots [] = omega arith
contexts_counted known spots (row ∷ rows) =
    let e : length (contexts_from (known ++ context_of known spots row ∷ []) spots rows) ≡ length (known ++ context_of known spots row ∷ []) + length rows = contexts_counted (known ++ context_of known spots row ∷ []) spots rows in
    let f : length (known ++ context_of known spots row ∷ []) ≡ length known + 1 = length-append known (context_of known spots row ∷ []) in
    omega (arith, e, f)

-- one row more is one context more
pub one_context_more : (known : List Context) (spots : List PointSpot) (rows : List ContextRow) (row : ContextRow) →
    contexts_from known spots (rows ++ row ∷ []) ≡ contexts_from known spots rows ++ context_of (contexts_from known spots rows) spots row ∷ []
one_context_more known spots [] row = refl
one_context_more known spots (r ∷ rows) row = one_context_more (known ++ context_of known spots r ∷ []) spots rows row

-- a spot more changes no context, for each is called at a spot of before
pub spot_more : (known : List Context) (spots : List PointSpot) (spot : PointSpot) (rows : List ContextRow) → ((row : ContextRow) → Contains rows row → flow_validity.IsThere row.call (length spots)) →
    contexts_from known (spots ++ spot ∷ []) rows ≡ contexts_from known spots rows
spot_more known spots spot [] h = refl
spot_more known spots spot (row ∷ rows) h =
    let e : option_and_then (λ call. slice_get (spots ++ spot ∷ []) call) row.call ≡ option_and_then (λ call. slice_get spots call) row.call = same_spot row.call (h row (first row rows)) in
    ap (λ c. contexts_from (known ++ c ∷ []) (spots ++ spot ∷ []) rows) (ap (λ o. context_by known o row.parent row.fun) e)
    ∙ spot_more (known ++ context_of known spots row ∷ []) spots spot rows (λ r c. h r (later row r rows c))
  where
    same_spot : (o : Option ℕ) → flow_validity.IsThere o (length spots) → option_and_then (λ call. slice_get (spots ++ spot ∷ []) call) o ≡ option_and_then (λ call. slice_get spots call) o
    same_spot None l = refl
    same_spot (Some k) l = get_old spots spot k l

-- ---- spots

-- a context more changes no spot
module _ (contexts : List Context) (c : Context) where
  context_stays : (k : ℕ) → k < length contexts → the_context (contexts ++ c ∷ []) k ≡ the_context contexts k
  context_stays k h = ap (λ o. unwrap_or o main) (get_old contexts c k h)

  pub points_stay : (spots : List PointSpot) → ((spot : PointSpot) → Contains spots spot → spot.context < length contexts) → map (point_of (contexts ++ c ∷ [])) spots ≡ map (point_of contexts) spots
  points_stay spots h = same_map (point_of (contexts ++ c ∷ [])) (point_of contexts) spots (λ spot k. ap (λ b. at b spot.place spot.depth) (context_stays spot.context (h spot k)))

  variable_stays : (spot : VariableSpot) → IsSpotThere spot (length contexts) → variable_of (contexts ++ c ∷ []) spot ≡ variable_of contexts spot
  variable_stays (Local k i) h = ap (λ b. local b i) (context_stays k h)
  variable_stays (Slot k i) h = ap (λ b. slot b i) (context_stays k h)
  variable_stays (Global n) h = refl

  pub variables_stay : (spots : List VariableSpot) → ((spot : VariableSpot) → Contains spots spot → IsSpotThere spot (length contexts)) → map (variable_of (contexts ++ c ∷ [])) spots ≡ map (variable_of contexts) spots
  variables_stay spots h = same_map (variable_of (contexts ++ c ∷ [])) (variable_of contexts) spots (λ spot k. variable_stays spot (h spot k))

-- ---- different spots are different points

module _ (contexts : List Context) (once : AllPairs (λ c d. c ≢ d) contexts) where
  pub same_context : (k l : ℕ) → k < length contexts → l < length contexts → the_context contexts k ≡ the_context contexts l → k ≡ l
  same_context k l h i e = one_number contexts once k l (the_context contexts l) (there contexts k main h ∙ ap Some e) (there contexts l main i)

  pub same_point : (a b : PointSpot) → a.context < length contexts → b.context < length contexts → point_of contexts a ≡ point_of contexts b → a ≡ b
  same_point a b h i e =
      let c : the_context contexts a.context ≡ the_context contexts b.context = cc in
      let p : a.place ≡ b.place = cc in
      let d : a.depth ≡ b.depth = cc in
      let k : a.context ≡ b.context = same_context a.context b.context h i c in
      λ x. record { context = k x; place = p x; depth = d x }

  pub same_variable : (a b : VariableSpot) → IsSpotThere a (length contexts) → IsSpotThere b (length contexts) → variable_of contexts a ≡ variable_of contexts b → a ≡ b
  same_variable (Local k i) (Local l j) g h e =
      let c : the_context contexts k ≡ the_context contexts l = cc in
      let n : i ≡ j = cc in
      let m : k ≡ l = same_context k l g h c in
      cc
  same_variable (Local k i) (Slot l j) g h e = cc
  same_variable (Local k i) (Global n) g h e = cc
  same_variable (Slot k i) (Local l j) g h e = cc
  same_variable (Slot k i) (Slot l j) g h e =
      let c : the_context contexts k ≡ the_context contexts l = cc in
      let n : i ≡ j = cc in
      let m : k ≡ l = same_context k l g h c in
      cc
  same_variable (Slot k i) (Global n) g h e = cc
  same_variable (Global m) (Local l j) g h e = cc
  same_variable (Global m) (Slot l j) g h e = cc
  same_variable (Global m) (Global n) g h e = let f : m ≡ n = cc in ap Global f

  -- a spot that is not there is a point that has no number
  pub new_point : (spots : List PointSpot) (spot : PointSpot) → ((other : PointSpot) → Contains spots other → other.context < length contexts) → spot.context < length contexts →
      (Contains spots spot → ⊥) → (k : ℕ) → slice_get (map (point_of contexts) spots) k ≡ Some (point_of contexts spot) → ⊥
  new_point spots spot all h new k e =
      let o : Origin (point_of contexts) spots (point_of contexts spot) = map_from (point_of contexts) spots (point_of contexts spot) (got _ k _ e) in
      new (subst (λ z. Contains spots z) (same_point o.item spot (all o.item o.is) h o.same) o.is)

  pub new_variable : (spots : List VariableSpot) (spot : VariableSpot) → ((other : VariableSpot) → Contains spots other → IsSpotThere other (length contexts)) → IsSpotThere spot (length contexts) →
      (Contains spots spot → ⊥) → (k : ℕ) → slice_get (map (variable_of contexts) spots) k ≡ Some (variable_of contexts spot) → ⊥
  new_variable spots spot all h new k e =
      let o : Origin (variable_of contexts) spots (variable_of contexts spot) = map_from (variable_of contexts) spots (variable_of contexts spot) (got _ k _ e) in
      new (subst (λ z. Contains spots z) (same_variable o.item spot (all o.item o.is) h o.same) o.is)
