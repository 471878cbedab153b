-- A context that is new by its row is new by structure.
use Rattle.std.proofs.Common.{◌≡◌, ◌≢◌, ℕ, suc, zero, ◌+◌, ◌<◌, ◌≤◌, Option, Some, None, option_map, List, [], ◌∷◌, ◌++◌, length, map, slice_get, refl, sym, ap, subst, ◌∙◌, arith, length-append, append_assoc, append-nil}
use Rattle.std.specs.Option.{option_and_then, unwrap_or}
use Rattle.std.specs.List.{AllPairs, Contains}
use Rattle.std.proofs.lemmas.Option.{slice_get-map}
use Rattle.graph_walks.proofs.Lists.{got, stands, Stands}
use Rattle.flow_graph.specs.declared.context.Context.{Context as ContextRow}
use Rattle.flow_graph.specs.Validity.{IsThere}
use Rattle.world_rules.specs.Places.{Context, main, entry, called}
use Rattle.world_rules.specs.Sources.{Source}
use Rattle.world_tables.specs.declared.spot.PointSpot.{PointSpot}
use Rattle.world_tables.specs.Tables.{HaveOneNumber, AreTables}
use Rattle.world_tables.specs.Rows.{WorldRows, context_by, context_of, contexts_from, contexts_of, the_context, point_of, tables_of, IsCall, IsKept}
use Rattle.world_tables.proofs.Items.{there, below}
use Rattle.world_tables.proofs.Keeping.{as_many}
use Rattle.world_tables.proofs.Kept.{same_context}
use Rattle.world_tables.proofs.Lists.{get_last}

get_front : {X : Type 0} (xs ys : List X) (k : ℕ) → k < length xs → slice_get (xs ++ ys) k ≡ slice_get xs k
get_front [] ys k l = absurd (omega (arith, l))
get_front (x ∷ xs) ys zero l = refl
get_front (x ∷ xs) ys (suc k) l = get_front xs ys k (omega (arith, l))

-- ---- each context is told by all of them

-- those that are known stay in front
record GoesOn (known all : List Context) : Type 0 where
  more : List Context
  is : all ≡ known ++ more

goes_on : (known : List Context) (spots : List PointSpot) (rows : List ContextRow) → GoesOn known (contexts_from known spots rows)
goes_on known spots [] = record { more = []; is = sym (append-nil known) }
goes_on known spots (row ∷ rows) =
    let c : Context = context_of known spots row in
    let g : GoesOn (known ++ c ∷ []) (contexts_from (known ++ c ∷ []) spots rows) = goes_on (known ++ c ∷ []) spots rows in
    record { more = c ∷ g.more; is = g.is ∙ append_assoc known (c ∷ []) g.more }

-- a parent that is known is so among more
told : (known more : List Context) (spot : Option PointSpot) (parent fun : Option ℕ) → IsThere parent (length known) → context_by (known ++ more) spot parent fun ≡ context_by known spot parent fun
told known more spot parent None l = refl
told known more None None (Some f) l = refl
told known more None (Some p) (Some f) l = refl
told known more (Some s) None (Some f) l = refl
told known more (Some s) (Some p) (Some f) l = ap (λ o. called (unwrap_or o main) s.place s.depth f) (get_front known more p l)

told_at : (known : List Context) (spots : List PointSpot) (rows : List ContextRow) (k : ℕ) (row : ContextRow) → slice_get rows k ≡ Some row → IsThere row.parent (length known + k) →
    slice_get (contexts_from known spots rows) (length known + k) ≡ Some (context_of (contexts_from known spots rows) spots row)
told_at known spots [] k row h l = cc
told_at known spots (r ∷ rows) zero row h l =
    let c : Context = context_of known spots r in
    let all : List Context = contexts_from (known ++ c ∷ []) spots rows in
    let g : GoesOn (known ++ c ∷ []) all = goes_on (known ++ c ∷ []) spots rows in
    let here : slice_get all (length known) ≡ Some c =
    ap (λ xs. slice_get xs (length known)) g.is ∙ (get_front (known ++ c ∷ []) g.more (length known) (let n : length (known ++ c ∷ []) ≡ length known + 1 = length-append known (c ∷ []) in omega (arith, n)) ∙ get_last known c) in
    let same : context_of all spots r ≡ c =
    ap (λ xs. context_of xs spots r) (g.is ∙ append_assoc known (c ∷ []) g.more)
    ∙ told known (c ∷ g.more) (option_and_then (λ call. slice_get spots call) r.call) r.parent r.fun (let e : row ≡ r = cc in let z : length known + 0 ≡ length known = omega arith in subst (IsThere r.parent) z (subst (λ x. IsThere x.parent (length known + 0)) e l)) in
    let e : r ≡ row = cc in
    let z : length known + 0 ≡ length known = omega arith in
    ap (slice_get all) z ∙ (here ∙ ap Some (sym same ∙ ap (context_of all spots) e))
told_at known spots (r ∷ rows) (suc k) row h l =
    let c : Context = context_of known spots r in
    let n : length (known ++ c ∷ []) ≡ length known + 1 = length-append known (c ∷ []) in
    let z : length (known ++ c ∷ []) + k ≡ length known + suc k = omega (arith, n) in
    subst (λ m. slice_get (contexts_from (known ++ c ∷ []) spots rows) m ≡ Some (context_of (contexts_from (known ++ c ∷ []) spots rows) spots row)) z
    (told_at (known ++ c ∷ []) spots rows k row h (subst (IsThere row.parent) (sym z) l))

-- ---- different rows are different contexts

-- what a row stands for
data Kind (contexts : List Context) (spots : List PointSpot) (parent call fun : Option ℕ) (c : Context) : Type 0 where
  of_module : parent ≡ None → call ≡ None → fun ≡ None → c ≡ main → Kind contexts spots parent call fun c
  of_entry : (f : ℕ) → parent ≡ None → call ≡ None → fun ≡ Some f → c ≡ entry f → Kind contexts spots parent call fun c
  of_call : (p k f : ℕ) (spot : PointSpot) → parent ≡ Some p → call ≡ Some k → fun ≡ Some f → p < length contexts → slice_get spots k ≡ Some spot → spot.context ≡ p →
      c ≡ called (the_context contexts p) spot.place spot.depth f → Kind contexts spots parent call fun c

kind_of : (contexts : List Context) (spots : List PointSpot) (n : ℕ) (parent call fun : Option ℕ) → n ≤ length contexts → IsCall spots n parent call fun →
    Kind contexts spots parent call fun (context_by contexts (option_and_then (λ k. slice_get spots k) call) parent fun)
kind_of contexts spots n None None None l h = of_module refl refl refl refl
kind_of contexts spots n None None (Some f) l h = of_entry f refl refl refl refl
kind_of contexts spots n None (Some k) fun l h = absurd h
kind_of contexts spots n (Some p) None fun l h = absurd h
kind_of contexts spots n (Some p) (Some k) None l h = absurd h
kind_of contexts spots n (Some p) (Some k) (Some f) l h = go (slice_get spots k) refl h.1
  where
    go : (o : Option PointSpot) → slice_get spots k ≡ o → option_map (λ x. x.context) o ≡ Some p → Kind contexts spots (Some p) (Some k) (Some f) (context_by contexts o (Some p) (Some f))
    go None e i = cc
    go (Some s) e i = let q : s.context ≡ p = cc in let b : p < n = h.0 in of_call p k f s refl refl refl (omega (arith, b, l)) e q refl

same_parts : (a b : ContextRow) → a.parent ≡ b.parent → a.call ≡ b.call → a.fun ≡ b.fun → a ≡ b
same_parts a b p k f = λ i. record { parent = p i; call = k i; fun = f i }

module _ (contexts : List Context) (spots : List PointSpot) (once : AllPairs (λ c d. c ≢ d) contexts) (points_once : HaveOneNumber (map (point_of contexts) spots)) where
  same_call : (k l : ℕ) (a b : PointSpot) → slice_get spots k ≡ Some a → slice_get spots l ≡ Some b → a ≡ b → k ≡ l
  same_call k l a b h i e =
      points_once k l (point_of contexts a) (slice_get-map (point_of contexts) spots k ∙ ap (option_map (point_of contexts)) h)
      (slice_get-map (point_of contexts) spots l ∙ ap (option_map (point_of contexts)) (i ∙ ap Some (sym e)))

  same_row : (a b : ContextRow) (c d : Context) → Kind contexts spots a.parent a.call a.fun c → Kind contexts spots b.parent b.call b.fun d → c ≡ d → a ≡ b
  same_row a b c d (of_module p k f i) (of_module q l g j) e = same_parts a b (p ∙ sym q) (k ∙ sym l) (f ∙ sym g)
  same_row a b c d (of_module p k f i) (of_entry n q l g j) e = cc
  same_row a b c d (of_module p k f i) (of_call x y n s q l g u v w j) e = cc
  same_row a b c d (of_entry m p k f i) (of_module q l g j) e = cc
  same_row a b c d (of_entry m p k f i) (of_entry n q l g j) e = let z : m ≡ n = cc in same_parts a b (p ∙ sym q) (k ∙ sym l) (f ∙ (ap Some z ∙ sym g))
  same_row a b c d (of_entry m p k f i) (of_call x y n s q l g u v w j) e = cc
  same_row a b c d (of_call x y m s p k f u v w i) (of_module q l g j) e = cc
  same_row a b c d (of_call x y m s p k f u v w i) (of_entry n q l g j) e = cc
  same_row a b c d (of_call x y m s p k f u v w i) (of_call x' y' n s' q l g u' v' w' j) e =
      let same : called (the_context contexts x) s.place s.depth m ≡ called (the_context contexts x') s'.place s'.depth n = sym i ∙ (e ∙ j) in
      let parents : the_context contexts x ≡ the_context contexts x' = cc in
      let places : s.place ≡ s'.place = cc in
      let depths : s.depth ≡ s'.depth = cc in
      let funs : m ≡ n = cc in
      let xs : x ≡ x' = same_context contexts once x x' u u' parents in
      let ss : s ≡ s' = λ t. record { context = (w ∙ (xs ∙ sym w')) t; place = places t; depth = depths t } in
      let ys : y ≡ y' = same_call y y' s s' v v' ss in
      same_parts a b (p ∙ (ap Some xs ∙ sym q)) (k ∙ (ap Some ys ∙ sym l)) (f ∙ (ap Some funs ∙ sym g))

parent_there : (spots : List PointSpot) (n : ℕ) (parent call fun : Option ℕ) → IsCall spots n parent call fun → IsThere parent n
parent_there spots n None call fun h = tt
parent_there spots n (Some p) None fun h = absurd h
parent_there spots n (Some p) (Some k) None h = absurd h
parent_there spots n (Some p) (Some k) (Some f) h = h.0

module _ (rows : WorldRows) (kept : IsKept rows) (s : Source) (a : AreTables s (tables_of rows)) where
  -- the context under a number is that of the row under it
  pub context_at : (id : ℕ) (row : ContextRow) → slice_get rows.graph.flow.contexts id ≡ Some row → slice_get (contexts_of rows) id ≡ Some (context_of (contexts_of rows) rows.points row)
  context_at id row h =
      let z : 0 + id ≡ id = omega arith in
      subst (λ k. slice_get (contexts_of rows) k ≡ Some (context_of (contexts_of rows) rows.points row)) z
      (told_at [] rows.points rows.graph.flow.contexts id row h (subst (IsThere row.parent) (sym z) (parent_there rows.points id row.parent row.call row.fun (kept.calls id row h))))

  pub new_context : (row : ContextRow) → IsCall rows.points (length rows.graph.flow.contexts) row.parent row.call row.fun → (Contains rows.graph.flow.contexts row → ⊥) →
      Contains (contexts_of rows) (context_of (contexts_of rows) rows.points row) → ⊥
  new_context row call fresh known =
      let c : Context = context_of (contexts_of rows) rows.points row in
      let at : Stands (contexts_of rows) c = stands (contexts_of rows) c known in
      let l : at.place < length rows.graph.flow.contexts = subst (λ n. at.place < n) (as_many rows kept) (below (contexts_of rows) at.place c at.at) in
      let none : ContextRow = record { parent = None; call = None; fun = None } in
      let other : ContextRow = unwrap_or (slice_get rows.graph.flow.contexts at.place) none in
      let is : slice_get rows.graph.flow.contexts at.place ≡ Some other = there rows.graph.flow.contexts at.place none l in
      let many : length rows.graph.flow.contexts ≡ length (contexts_of rows) = sym (as_many rows kept) in
      let same : context_of (contexts_of rows) rows.points other ≡ c = let f : Some (context_of (contexts_of rows) rows.points other) ≡ Some c = sym (context_at at.place other is) ∙ at.at in cc in
      let e : other ≡ row = same_row (contexts_of rows) rows.points a.contexts_once a.numbering.points_once other row (context_of (contexts_of rows) rows.points other) c
      (kind_of (contexts_of rows) rows.points at.place other.parent other.call other.fun (omega (arith, l, many)) (kept.calls at.place other is))
      (kind_of (contexts_of rows) rows.points (length rows.graph.flow.contexts) row.parent row.call row.fun (omega (arith, many)) call) same in
      fresh (got rows.graph.flow.contexts at.place row (is ∙ ap Some e))
