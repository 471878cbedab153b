-- In a closed world an instruction extends each walk to it: the walk itself shows that what the instruction reads is seen.
use Rattle.std.proofs.Common.{◌≡◌, ◌≢◌, ℕ, suc, zero, ◌+◌, ◌≤◌, ◌<◌, length, Bool, true, false, cond, Option, Some, None, List, [], ◌∷◌, ◌⊎◌, inl, inr, refl, sym, ap, subst, ◌∙◌}
use Rattle.std.specs.List.{Contains}
use Rattle.graph_walks.specs.Worlds.{Memory, Within, Edge, Fact, World, HasFact, assigned}
use Rattle.graph_walks.specs.Walks.{Walk, step, Comes, kept, made, Answers, Visible}
use Rattle.graph_walks.proofs.Lists.{empty, first, first_as, later, first_or_later}
use Rattle.stack_code.specs.declared.op.Op.{Op}
use Rattle.stack_code.specs.Effects.{falls, depth_after, depth_at_goal}
use Rattle.abstract_shapes.specs.Shapes.{Shape}
use Rattle.world_rules.specs.declared.finding.Fault.{Fault}
use Rattle.world_rules.specs.declared.row.TableEntry.{TableEntry}
use Rattle.world_rules.specs.declared.row.TransferRow.{TransferRow}
use Rattle.world_rules.specs.declared.row.Yield.{Yield}
use Rattle.world_rules.specs.declared.transfer.SeatReading.{SeatReading}
use Rattle.world_rules.specs.Places.{Context, Variable, Point, at, same_variable, target_of}
use Rattle.world_rules.specs.Sources.{Source}
use Rattle.world_rules.specs.Branches.{Branch, branch, fall_test, ask_top, is_call}
use Rattle.world_rules.specs.Items.{Item, a_context, an_edge, a_fact, an_entry, world_of, map_of, Agree, variables}
use Rattle.world_rules.specs.Rows.{row_of, asks}
use Rattle.world_rules.specs.Rules.{HasPlace, Stands, readings_at, Leads, on, off, fall_edge, jump_edge, Yields, Fires, GivesAt, result, enter, Gives, leads, of_point, IsClosed}
use Rattle.world_rules.specs.Findings.{FindsAt}
use Rattle.world_rules.specs.Memories.{updated}
use Rattle.world_rules.specs.Texts.{fault_text}
use Rattle.world_rules.proofs.Same.{variable_same, variable_equal}
use Rattle.world_rules.proofs.Members.{item_edge, item_fact}

pub some_same : {A : Type 0} {x y : A} → Some x ≡ Some y → x ≡ y
some_same e = cc

module _ (m : Memory Variable Shape) where
  pub within : (xs : List Variable) (ts : List Shape) → Agree xs ts m → (y : Variable) (u : Shape) → map_of xs ts y ≡ Some u → m y ≡ Some u
  within [] [] h y u e = cc
  within [] (t ∷ ts) h y u e = absurd h
  within (x ∷ xs) [] h y u e = absurd h
  within (x ∷ xs) (t ∷ ts) h y u e = go (same_variable x y) refl e (within xs ts h.1 y u)
    where
      go : (b : Bool) → same_variable x y ≡ b → cond b (Some t) (map_of xs ts y) ≡ Some u → (map_of xs ts y ≡ Some u → m y ≡ Some u) → m y ≡ Some u
      go true i e more = subst (λ z. m z ≡ Some u) (variable_equal x y i) (h.0 ∙ e)
      go false i e more = more e

  -- each variable that is read has a shape in the map
  found : (xs : List Variable) (ts : List Shape) → Agree xs ts m → (y : Variable) → Contains xs y → (u : Shape) × (map_of xs ts y ≡ Some u)
  found [] [] h y c = empty y c
  found [] (t ∷ ts) h y c = absurd h
  found (x ∷ xs) [] h y c = absurd h
  found (x ∷ xs) (t ∷ ts) h y c = go (same_variable x y) refl (first_or_later x y xs c) (found xs ts h.1 y)
    where
      go : (b : Bool) → same_variable x y ≡ b → (y ≡ x) ⊎ Contains xs y → (Contains xs y → (u : Shape) × (map_of xs ts y ≡ Some u)) → (u : Shape) × (cond b (Some t) (map_of xs ts y) ≡ Some u)
      go true i d more = (t, refl)
      go false i (inl e) more = let j : same_variable x y ≡ true = subst (λ z. same_variable x z ≡ true) (sym e) (variable_same x) in cc
      go false i (inr d) more = more d

  agree_map : (ws : List Variable) (vs : List Shape) → Agree ws vs m → (xs : List Variable) (ts : List Shape) → ((x : Variable) → Contains xs x → Contains ws x) → Agree xs ts m → Agree xs ts (map_of ws vs)
  agree_map ws vs a [] [] i h = tt
  agree_map ws vs a [] (t ∷ ts) i h = absurd h
  agree_map ws vs a (x ∷ xs) [] i h = absurd h
  agree_map ws vs a (x ∷ xs) (t ∷ ts) i h =
      let f : (u : Shape) × (map_of ws vs x ≡ Some u) = found ws vs a x (i x (first x xs)) in
      let e : f.0 ≡ t = some_same (sym (within ws vs a x f.0 f.1) ∙ h.0) in
      (f.1 ∙ ap Some e, agree_map ws vs a xs ts (λ y c. i y (later x y xs c)) h.1)

-- shapes that a memory has for variables are those of their map too
pub agrees : (m : Memory Variable Shape) (xs : List Variable) (ts : List Shape) → Agree xs ts m → Agree xs ts (map_of xs ts)
agrees m xs ts h = agree_map m xs ts h xs ts (λ x c. c) h

module _ (s : Source) (items : List Item) where
  pub visible_fires : (c : Context) (place depth : ℕ) (o : Op) (r : SeatReading) (shapes : List Shape) →
      Contains items (a_context c) → Stands s c place depth o → Contains (readings_at s c depth o) r → asks r.transfer shapes ≡ true →
      Agree (variables c r.seats) shapes (map_of (variables c r.seats) shapes) → Visible (world_of s items) (at c place depth) (map_of (variables c r.seats) shapes) →
      Fires s items c place depth r shapes
  visible_fires c place depth o r shapes k st is q a v = record { context = k; op = o; stands = st; is_reading = is; asked = q; agree = a; seen = inl v }

  pub walk_fires : (c : Context) (place depth : ℕ) (o : Op) (r : SeatReading) (shapes : List Shape) (m : Memory Variable Shape) →
      Contains items (a_context c) → Stands s c place depth o → Contains (readings_at s c depth o) r → asks r.transfer shapes ≡ true →
      Agree (variables c r.seats) shapes m → Walk (world_of s items) (at c place depth) m →
      Fires s items c place depth r shapes
  walk_fires c place depth o r shapes m k st is q a w =
      visible_fires c place depth o r shapes k st is q (agrees m (variables c r.seats) shapes a) (record { memory = m; walk = w; holds = record { at = within m (variables c r.seats) shapes a } })

  pub told : (c : Context) (place depth : ℕ) (o : Op) (m : Memory Variable Shape) → Contains items (a_context c) → Stands s c place depth o → Walk (world_of s items) (at c place depth) m →
      (r : SeatReading) (shapes : List Shape) → Contains (readings_at s c depth o) r → asks r.transfer shapes ≡ true → Agree (variables c r.seats) shapes m →
      (f : Fault) → (row_of r.transfer shapes).fault ≡ Some f → FindsAt s items c place depth (fault_text s.program f shapes)
  told c place depth o m k st w r shapes is q a f e =
      record { reading = r; shapes = shapes; fires = walk_fires c place depth o r shapes m k st is q a w; fault = f; has_fault = e; told = refl }

module _ (s : Source) (items : List Item) (closed : IsClosed s items) where
  pub fact_there : (c : Context) (place depth : ℕ) (r : SeatReading) (shapes : List Shape) → Fires s items c place depth r shapes →
      (y : Yield) (t : Shape) → Contains (row_of r.transfer shapes).results y → Yields s items shapes y t → HasFact (world_of s items) (at c place depth) t (map_of (variables c r.seats) shapes)
  fact_there c place depth r shapes f y t k g = item_fact items _ (closed.has _ (of_point (result shapes y f k g)))

  pub entry_there : (c : Context) (place depth : ℕ) (r : SeatReading) (shapes : List Shape) → Fires s items c place depth r shapes →
      (e : TableEntry) (t : Shape) → Contains (row_of r.transfer shapes).entries e → Yields s items shapes e.given t → Contains items (an_entry e.place t)
  entry_there c place depth r shapes f e t k g = closed.has _ (of_point (enter shapes e f k g))

  pub fall_there : (c : Context) (place depth : ℕ) (o : Op) → Contains items (a_context c) → Stands s c place depth o → falls o ≡ true → is_call o ≡ false →
      HasPlace s c (suc place) (depth_after o depth) → Contains (world_of s items).edges (fall_edge c place depth o)
  fall_there c place depth o k st f n p = item_edge items _ (closed.has _ (leads k st (on f n) p))

  pub jump_there : (c : Context) (place depth : ℕ) (o : Op) (b : Branch) → Contains items (a_context c) → Stands s c place depth o → branch o ≡ Some b →
      HasPlace s c b.goal (depth_at_goal o depth) → Contains (world_of s items).edges (jump_edge c place depth o b)
  jump_there c place depth o b k st e p = item_edge items _ (closed.has _ (leads k st (off e) p))

  -- it goes on to the next place with its target's new shape
  pub assigns_on : (c : Context) (place depth : ℕ) (o : Op) (m : Memory Variable Shape) →
      Contains items (a_context c) → Stands s c place depth o → Walk (world_of s items) (at c place depth) m →
      falls o ≡ true → is_call o ≡ false → HasPlace s c (suc place) (depth_after o depth) → Answers (world_of s items) (ask_top c depth (fall_test o)) m →
      (r : SeatReading) (shapes : List Shape) → Contains (readings_at s c depth o) r → asks r.transfer shapes ≡ true → Agree (variables c r.seats) shapes m →
      (y : Yield) (t : Shape) → Contains (row_of r.transfer shapes).results y → Yields s items shapes y t →
      (x : Variable) → target_of s.program (at c place depth) ≡ Some x → Walk (world_of s items) (at c (suc place) (depth_after o depth)) (updated m x t)
  assigns_on c place depth o m k st w f n p answers r shapes is q a y t cy yt x target =
      let goals : Memory Variable Shape = map_of (variables c r.seats) shapes in
      let holds : Within goals m = record { at = within m (variables c r.seats) shapes a } in
      let has_fact : HasFact (world_of s items) (at c place depth) t goals = fact_there c place depth r shapes (walk_fires s items c place depth o r shapes m k st is q a w) y t cy yt in
      step (fall_edge c place depth o) w (record {
        edge = fall_there c place depth o k st f n p;
        answers = answers;
        comes = λ v u h. comes goals has_fact holds v u (same_variable x v) refl h;
      })
    where
      comes : (goals : Memory Variable Shape) → HasFact (world_of s items) (at c place depth) t goals → Within goals m →
          (v : Variable) (u : Shape) (b : Bool) → same_variable x v ≡ b → cond b (Some t) (m v) ≡ Some u → Comes (world_of s items) (fall_edge c place depth o) m v u
      comes goals g h v u true j e =
          let same : x ≡ v = variable_equal x v j in
          let shape : t ≡ u = some_same e in
          made (target ∙ ap Some same) goals (subst (λ z. HasFact (world_of s items) (at c place depth) z goals) shape g) h
      comes goals g h v u false j e = kept (λ i. let same : x ≡ v = some_same (sym target ∙ i) in let z : same_variable x v ≡ true = subst (λ z. same_variable x z ≡ true) same (variable_same x) in cc) e

  -- or with what it had of other variables
  pub passes_on : (c : Context) (place depth : ℕ) (o : Op) (m n : Memory Variable Shape) →
      Contains items (a_context c) → Stands s c place depth o → Walk (world_of s items) (at c place depth) m →
      falls o ≡ true → is_call o ≡ false → HasPlace s c (suc place) (depth_after o depth) → Answers (world_of s items) (ask_top c depth (fall_test o)) m →
      ((x : Variable) (t : Shape) → n x ≡ Some t → (target_of s.program (at c place depth) ≢ Some x) × (m x ≡ Some t)) →
      Walk (world_of s items) (at c (suc place) (depth_after o depth)) n
  passes_on c place depth o m n k st w f g p answers had =
      step (fall_edge c place depth o) w (record { edge = fall_there c place depth o k st f g p; answers = answers; comes = λ v u h. kept (had v u h).0 (had v u h).1 })

  pub jumps_on : (c : Context) (place depth : ℕ) (o : Op) (b : Branch) (m : Memory Variable Shape) →
      Contains items (a_context c) → Stands s c place depth o → Walk (world_of s items) (at c place depth) m →
      branch o ≡ Some b → HasPlace s c b.goal (depth_at_goal o depth) → Answers (world_of s items) (ask_top c depth b.on_jump) m →
      Walk (world_of s items) (at c b.goal (depth_at_goal o depth)) m
  jumps_on c place depth o b m k st w e p answers =
      step (jump_edge c place depth o b) w (record { edge = jump_there c place depth o b k st e p; answers = answers; comes = λ v u h. kept (λ i. let no : None ≡ Some v = i in cc) h })
