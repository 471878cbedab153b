-- What contexts are, by their rows.
use Rattle.std.proofs.Common.{◌≡◌, ℕ, suc, zero, ◌+◌, ◌<◌, ◌≤◌, Option, Some, None, List, [], ◌∷◌, ◌++◌, length, slice_get, option_map, refl, sym, ap, subst, ◌∙◌, arith, length-append}
use Rattle.std.specs.Option.{option_and_then, unwrap_or}
use Rattle.flow_graph.specs.declared.context.Context.{Context as ContextRow}
use Rattle.tree_code.specs.Programs.{Program}
use Rattle.world_rules.specs.Places.{Context, main, called, fun_of, thread_of, returned, pushed, op_at}
use Rattle.world_tables.specs.declared.spot.PointSpot.{PointSpot}
use Rattle.world_tables.specs.Rows.{WorldRows, context_by, context_of, contexts_from, contexts_of, the_context, IsCall, IsKept}
use Rattle.world_tables.proofs.Items.{below}
use Rattle.world_tables.proofs.Kept.{contexts_counted}
use Rattle.world_tables.proofs.Lists.{get_old, get_last}
use Rattle.context_code.specs.Calls.{pushed_at}
use Rattle.context_code.specs.Threads.{thread_by}

-- ---- contexts stand under the numbers of their rows

-- a parent's number is below this
abbrev IsParentBelow : Option ℕ → ℕ → Type 0
IsParentBelow None n = Unit {0}
IsParentBelow (Some p) n = p < n

-- the contexts that were known stay
stays : (known : List Context) (spots : List PointSpot) (rows : List ContextRow) (k : ℕ) → k < length known → slice_get (contexts_from known spots rows) k ≡ slice_get known k
stays known spots [] k h = refl
stays known spots (row ∷ rows) k h =
    let l : length (known ++ context_of known spots row ∷ []) ≡ length known + 1 = length-append known (context_of known spots row ∷ []) in
    stays (known ++ context_of known spots row ∷ []) spots rows k (omega (arith, l, h)) ∙ get_old known (context_of known spots row) k h

-- a context is told by its parent alone
told_by : (known more : List Context) (spot : Option PointSpot) (parent fun : Option ℕ) → IsParentBelow parent (length known) → ((k : ℕ) → k < length known → slice_get more k ≡ slice_get known k) →
    context_by known spot parent fun ≡ context_by more spot parent fun
told_by known more spot parent None h same = refl
told_by known more None None (Some f) h same = refl
told_by known more (Some x) None (Some f) h same = refl
told_by known more None (Some p) (Some f) h same = refl
told_by known more (Some x) (Some p) (Some f) h same = ap (λ o. called (unwrap_or o main) x.place x.depth f) (sym (same p h))

told : (known : List Context) (spots : List PointSpot) (rows : List ContextRow) (i : ℕ) (row : ContextRow) → slice_get rows i ≡ Some row → IsParentBelow row.parent (length known + i) →
    slice_get (contexts_from known spots rows) (length known + i) ≡ Some (context_of (contexts_from known spots rows) spots row)
told known spots [] i row e h = cc
told known spots (r ∷ rows) zero row e h =
    let same : r ≡ row = cc in
    let z : length known + zero ≡ length known = omega arith in
    let l : length (known ++ context_of known spots r ∷ []) ≡ length known + 1 = length-append known (context_of known spots r ∷ []) in
    let below : IsParentBelow r.parent (length known) = subst (IsParentBelow r.parent) z (subst (λ w. IsParentBelow w.parent (length known + zero)) (sym same) h) in
    ap (slice_get (contexts_from known spots (r ∷ rows))) z
    ∙ (stays (known ++ context_of known spots r ∷ []) spots rows (length known) (omega (arith, l))
    ∙ (get_last known (context_of known spots r)
    ∙ (ap Some (told_by known (contexts_from known spots (r ∷ rows)) (option_and_then (λ call. slice_get spots call) r.call) r.parent r.fun below (λ k m. stays known spots (r ∷ rows) k m))
    ∙ ap (λ w. Some (context_of (contexts_from known spots (r ∷ rows)) spots w)) same)))
told known spots (r ∷ rows) (suc i) row e h =
    let l : length (known ++ context_of known spots r ∷ []) ≡ length known + 1 = length-append known (context_of known spots r ∷ []) in
    let z : length known + suc i ≡ length (known ++ context_of known spots r ∷ []) + i = omega (arith, l) in
    ap (slice_get (contexts_from known spots (r ∷ rows))) z
    ∙ told (known ++ context_of known spots r ∷ []) spots rows i row e (subst (IsParentBelow row.parent) z h)

parent_of_call : (spots : List PointSpot) (n : ℕ) (parent call fun : Option ℕ) → IsCall spots n parent call fun → IsParentBelow parent n
parent_of_call spots n None call fun h = tt
parent_of_call spots n (Some p) None fun h = absurd h
parent_of_call spots n (Some p) (Some c) None h = absurd h
parent_of_call spots n (Some p) (Some c) (Some f) h = h.0

module _ (rows : WorldRows) (kept : IsKept rows) where
  pub context_is : (id : ℕ) (row : ContextRow) → slice_get rows.graph.flow.contexts id ≡ Some row → the_context (contexts_of rows) id ≡ context_of (contexts_of rows) rows.points row
  context_is id row e =
      let z : 0 + id ≡ id = omega arith in
      let h : IsParentBelow row.parent (0 + id) = subst (IsParentBelow row.parent) (sym z) (parent_of_call rows.points id row.parent row.call row.fun (kept.calls id row e)) in
      let g : slice_get (contexts_of rows) (0 + id) ≡ Some (context_of (contexts_of rows) rows.points row) = told [] rows.points rows.graph.flow.contexts id row e h in
      ap (λ o. unwrap_or o main) (ap (slice_get (contexts_of rows)) (sym z) ∙ g)

  -- a parent's number is below its child's
  pub parent_below : (id parent : ℕ) (row : ContextRow) → slice_get rows.graph.flow.contexts id ≡ Some row → row.parent ≡ Some parent → parent < id
  parent_below id parent row e h = subst (λ o. IsParentBelow o id) h (parent_of_call rows.points id row.parent row.call row.fun (kept.calls id row e))

-- ---- what is told of a context, by its row

fun_by : (known : List Context) (spot : Option PointSpot) (parent fun : Option ℕ) → fun_of (context_by known spot parent fun) ≡ fun
fun_by known spot parent None = refl
fun_by known None parent (Some f) = refl
fun_by known (Some x) None (Some f) = refl
fun_by known (Some x) (Some p) (Some f) = refl

thread_alone : (known : List Context) (spot : Option PointSpot) (fun : Option ℕ) → thread_of (context_by known spot None fun) ≡ thread_by fun
thread_alone known spot None = refl
thread_alone known None (Some f) = refl
thread_alone known (Some x) (Some f) = refl

thread_called : (known : List Context) (spots : List PointSpot) (n parent : ℕ) (call fun : Option ℕ) → IsCall spots n (Some parent) call fun →
    thread_of (context_by known (option_and_then (λ c. slice_get spots c) call) (Some parent) fun) ≡ thread_of (the_context known parent)
thread_called known spots n parent None fun h = absurd h
thread_called known spots n parent (Some c) None h = absurd h
thread_called known spots n parent (Some c) (Some f) h = go (slice_get spots c) h.1
  where
    go : (o : Option PointSpot) → option_map (λ spot. spot.context) o ≡ Some parent → thread_of (context_by known o (Some parent) (Some f)) ≡ thread_of (the_context known parent)
    go None e = cc
    go (Some x) e = refl

returned_by : (program : Program) (known : List Context) (spots : List PointSpot) (n : ℕ) (parent call fun : Option ℕ) → IsCall spots n parent call fun →
    returned program (context_by known (option_and_then (λ c. slice_get spots c) call) parent fun) ≡ option_and_then (pushed_at program known) (option_and_then (λ c. slice_get spots c) call)
returned_by program known spots n None None None h = refl
returned_by program known spots n None None (Some f) h = refl
returned_by program known spots n None (Some c) fun h = absurd h
returned_by program known spots n (Some p) None fun h = absurd h
returned_by program known spots n (Some p) (Some c) None h = absurd h
returned_by program known spots n (Some p) (Some c) (Some f) h = go (slice_get spots c) h.1
  where
    go : (o : Option PointSpot) → option_map (λ spot. spot.context) o ≡ Some p → returned program (context_by known o (Some p) (Some f)) ≡ option_and_then (pushed_at program known) o
    go None e = cc
    go (Some x) e =
        let same : p ≡ x.context = cc in
        ap (λ k. option_and_then (pushed (the_context known k) x.depth) (op_at program (the_context known k) x.place)) same

-- the call's context is the parent
call_of_parent : (spots : List PointSpot) (n : ℕ) (parent call fun : Option ℕ) (c : ℕ) (spot : PointSpot) → call ≡ Some c → slice_get spots c ≡ Some spot → IsCall spots n parent call fun → spot.context < n
call_of_parent spots n None None fun c spot e g h = cc
call_of_parent spots n None (Some k) fun c spot e g h = absurd h
call_of_parent spots n (Some p) None fun c spot e g h = absurd h
call_of_parent spots n (Some p) (Some k) None c spot e g h = absurd h
call_of_parent spots n (Some p) (Some k) (Some f) c spot e g h =
    let same : k ≡ c = cc in
    let q : option_map (λ s. s.context) (slice_get spots c) ≡ Some p = ap (λ i. option_map (λ (s : PointSpot). s.context) (slice_get spots i)) (sym same) ∙ h.1 in
    let r : Some spot.context ≡ Some p = sym (ap (option_map (λ (s : PointSpot). s.context)) g) ∙ q in
    let t : spot.context ≡ p = cc in
    let l : p < n = h.0 in
    omega (arith, t, l)

-- past the rows are no contexts
beyond : {X : Type 0} (xs : List X) (k : ℕ) → length xs ≤ k → slice_get xs k ≡ None
beyond [] k l = refl
beyond (x ∷ xs) zero l = absurd (omega (arith, l))
beyond (x ∷ xs) (suc k) l = beyond xs k (omega (arith, l))

outside : {X : Type 0} (xs : List X) (k : ℕ) → slice_get xs k ≡ None → length xs ≤ k
outside [] k e = omega arith
outside (x ∷ xs) zero e = cc
outside (x ∷ xs) (suc k) e = let l : length xs ≤ k = outside xs k e in omega (arith, l)

absent : (rows : WorldRows) (id : ℕ) → slice_get rows.graph.flow.contexts id ≡ None → slice_get (contexts_of rows) id ≡ None
absent rows id e =
    let n : length (contexts_of rows) ≡ 0 + length rows.graph.flow.contexts = contexts_counted [] rows.points rows.graph.flow.contexts in
    let l : length rows.graph.flow.contexts ≤ id = outside rows.graph.flow.contexts id e in
    beyond (contexts_of rows) id (omega (arith, n, l))

module _ (rows : WorldRows) (kept : IsKept rows) (id : ℕ) where
  pub fun_of_row : (row : ContextRow) → slice_get rows.graph.flow.contexts id ≡ Some row → fun_of (the_context (contexts_of rows) id) ≡ row.fun
  fun_of_row row e = ap fun_of (context_is rows kept id row e) ∙ fun_by (contexts_of rows) (option_and_then (λ call. slice_get rows.points call) row.call) row.parent row.fun

  pub thread_by_row : (row : ContextRow) → slice_get rows.graph.flow.contexts id ≡ Some row → row.parent ≡ None → thread_of (the_context (contexts_of rows) id) ≡ thread_by row.fun
  thread_by_row row e h =
      ap thread_of (context_is rows kept id row e)
      ∙ (ap (λ p. thread_of (context_by (contexts_of rows) (option_and_then (λ call. slice_get rows.points call) row.call) p row.fun)) h
      ∙ thread_alone (contexts_of rows) (option_and_then (λ call. slice_get rows.points call) row.call) row.fun)

  pub thread_by_parent : (row : ContextRow) (parent : ℕ) → slice_get rows.graph.flow.contexts id ≡ Some row → row.parent ≡ Some parent → thread_of (the_context (contexts_of rows) id) ≡ thread_of (the_context (contexts_of rows) parent)
  thread_by_parent row parent e h =
      ap thread_of (context_is rows kept id row e)
      ∙ (ap (λ p. thread_of (context_by (contexts_of rows) (option_and_then (λ call. slice_get rows.points call) row.call) p row.fun)) h
      ∙ thread_called (contexts_of rows) rows.points id parent row.call row.fun (subst (λ p. IsCall rows.points id p row.call row.fun) h (kept.calls id row e)))

  pub returned_by_row : (program : Program) (row : ContextRow) → slice_get rows.graph.flow.contexts id ≡ Some row →
      returned program (the_context (contexts_of rows) id) ≡ option_and_then (pushed_at program (contexts_of rows)) (option_and_then (λ call. slice_get rows.points call) row.call)
  returned_by_row program row e =
      ap (returned program) (context_is rows kept id row e) ∙ returned_by program (contexts_of rows) rows.points id row.parent row.call row.fun (kept.calls id row e)

  pub call_there : (row : ContextRow) (call : ℕ) (spot : PointSpot) → slice_get rows.graph.flow.contexts id ≡ Some row → row.call ≡ Some call → slice_get rows.points call ≡ Some spot → spot.context < length rows.graph.flow.contexts
  call_there row call spot e h g =
      let l : spot.context < id = call_of_parent rows.points id row.parent row.call row.fun call spot h g (kept.calls id row e) in
      let m : id < length rows.graph.flow.contexts = below rows.graph.flow.contexts id row e in
      omega (arith, l, m)

  -- a context without a row counts as the module's
  pub no_row : slice_get rows.graph.flow.contexts id ≡ None → the_context (contexts_of rows) id ≡ main
  no_row e = ap (λ o. unwrap_or o main) (absent rows id e)
