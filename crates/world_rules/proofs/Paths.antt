-- Walks through the code of a module's body in a closed world, instruction by instruction.
use Rattle.std.proofs.Common.{◌≡◌, ◌≢◌, ℕ, suc, zero, ◌<◌, ◌≤◌, length, Bool, true, false, ◌&&◌, ◌||◌, ◌⊎◌, is_some, Option, Some, None, List, [], ◌∷◌, inl, inr, refl, sym, ap, subst, ◌∙◌, slice_get}
use Rattle.std.specs.Prelude.{IsTrue}
use Rattle.std.specs.List.{Contains}
use Rattle.graph_walks.specs.Worlds.{Memory}
use Rattle.graph_walks.specs.Walks.{Walk, start, Answers, unasked, Visible}
use Rattle.graph_walks.proofs.Lists.{empty, first, first_or_later, got}
use Rattle.stack_code.specs.declared.op.Op.{Op}
use Rattle.stack_code.specs.declared.op.Op.TheVariants as op
use Rattle.stack_code.specs.Depths.{HasDepth, begins, given, goes_on, jumps}
use Rattle.stack_code.specs.Effects.{effect_of, falls, depth_after, depth_at_goal}
use Rattle.abstract_shapes.specs.Shapes.{Shape}
use Rattle.world_rules.specs.declared.finding.Fault.{Fault}
use Rattle.world_rules.specs.declared.finding.Finding.{Finding}
use Rattle.world_rules.specs.declared.row.TransferRow.{TransferRow}
use Rattle.world_rules.specs.declared.row.Yield.{Yield}
use Rattle.world_rules.specs.declared.transfer.SeatReading.{SeatReading}
use Rattle.world_rules.specs.Places.{main, Variable, same_variable, global, Point, at, op_at, target_of}
use Rattle.world_rules.specs.Sources.{Source}
use Rattle.world_rules.specs.Branches.{Branch, branch, fall_test, ask_top, is_call}
use Rattle.world_rules.specs.Items.{Item, a_context, has_context, is_root, world_of, map_of, Agree, variables}
use Rattle.world_rules.specs.Rows.{row_of, made}
use Rattle.world_rules.specs.Rules.{HasPlace, Stands, readings_at, it, Fires, of_module, IsClosed}
use Rattle.world_rules.specs.Findings.{IsFinding, IsUnchecked}
use Rattle.world_rules.specs.Stubs.{EndsWith}
use Rattle.world_rules.specs.Texts.{kind_of_fault, text_of_fault}
use Rattle.world_rules.proofs.Members.{item_context}
use Rattle.world_rules.proofs.Extending.{some_same, within, walk_fires, assigns_on, passes_on, jumps_on}
use Rattle.world_rules.proofs.Programs.{among}
use Rattle.world_rules.proofs.Same.{variable_same}
use Rattle.world_rules.proofs.Counted.{goal_is}

-- a walk to a place of the body, whose memory gives variables these shapes
pub record Arrives (s : Source) (items : List Item) (place depth : ℕ) (xs : List Variable) (ts : List Shape) : Type 0 where
  pub walk : Walk (world_of s items) (at main place depth) (map_of xs ts)
  pub deep : HasDepth s.program.body place depth

abbrev pub is_among : Variable → List Variable → Bool
is_among x [] = false
is_among x (y ∷ ys) = same_variable x y || is_among x ys

among_is : (x : Variable) (ys : List Variable) → Contains ys x → is_among x ys ≡ true
among_is x [] c = empty x c
among_is x (y ∷ ys) c = go (first_or_later y x ys c) (among_is x ys)
  where
    either : (a b : Bool) → b ≡ true → (a || b) ≡ true
    either true b h = refl
    either false b h = h

    go : (x ≡ y) ⊎ Contains ys x → (Contains ys x → is_among x ys ≡ true) → (same_variable x y || is_among x ys) ≡ true
    go (inl e) more = let same : same_variable x y ≡ true = subst (λ z. same_variable x z ≡ true) e (variable_same x) in rw same refl
    go (inr d) more = either (same_variable x y) (is_among x ys) (more d)

module _ (s : Source) (items : List Item) (closed : IsClosed s items) where
  pub main_there : Contains items (a_context main)
  main_there = closed.has _ of_module

  both : (a b : Bool) → a ≡ true → b ≡ true → IsTrue (a && b)
  both a b h k = rw h k

  pub begin : 0 < length s.program.body.ops → is_some (op_at s.program main 0) ≡ true → Arrives s items 0 0 [] []
  begin some op =
      record {
        walk = start (both (is_some (op_at s.program main 0)) (has_context items main) op (item_context items main main_there));
        deep = begins some;
      }

  there : (place depth : ℕ) → HasDepth s.program.body place depth → HasPlace s main place depth
  there place depth d = record { code = s.program.body; of = refl; has_depth = d }

  pub stands : {place depth : ℕ} {xs : List Variable} {ts : List Shape} (o : Op) → Arrives s items place depth xs ts → slice_get s.program.body.ops place ≡ Some o → Stands s main place depth o
  stands o a e = record { code = s.program.body; of = refl; op = e; has_depth = a.deep }

  -- what fires at a point, by the walk's own memory
  pub fired : {place depth : ℕ} {xs : List Variable} {ts : List Shape} (o : Op) (r : SeatReading) (shapes : List Shape) (a : Arrives s items place depth xs ts) → slice_get s.program.body.ops place ≡ Some o →
      readings_at s main depth o ≡ r ∷ [] → Agree (variables main r.seats) shapes (map_of xs ts) → Fires s items main place depth r shapes
  fired {place} {depth} {xs} {ts} o r shapes a e is agree =
      walk_fires s items main place depth o r shapes (map_of xs ts) main_there (stands o a e) (subst (λ rs. Contains rs r) (sym is) (first r [])) refl agree a.walk

  -- on to the next place, with a shape that the row gives
  pub assign : {place depth : ℕ} {xs : List Variable} {ts : List Shape} (o : Op) (r : SeatReading) (shapes : List Shape) (y : Yield) (t : Shape) (x : Variable) (a : Arrives s items place depth xs ts) →
      slice_get s.program.body.ops place ≡ Some o → falls o ≡ true → is_call o ≡ false → fall_test o ≡ None → (effect_of o).needs ≤ depth → suc place < length s.program.body.ops →
      readings_at s main depth o ≡ r ∷ [] → Agree (variables main r.seats) shapes (map_of xs ts) → (number : ℕ) → slice_get (row_of r.transfer shapes).results number ≡ Some y → made shapes y ≡ Some t → target_of s.program (at main place depth) ≡ Some x →
      Arrives s items (suc place) (depth_after o depth) (x ∷ xs) (t ∷ ts)
  assign {place} {depth} {xs} {ts} o r shapes y t x a e f n free needs lt is agree number k m target =
      let st : Stands s main place depth o = stands o a e in
      let next : HasDepth s.program.body (suc place) (depth_after o depth) = given a.deep e (goes_on needs f) lt in
      record {
        walk =
            assigns_on s items closed main place depth o (map_of xs ts) main_there st a.walk f n (there (suc place) (depth_after o depth) next) (subst (λ test. Answers (world_of s items) (ask_top main depth test) (map_of xs ts)) (sym free) unasked)
            r shapes (subst (λ rs. Contains rs r) (sym is) (first r [])) refl agree y t (got (row_of r.transfer shapes).results number y k) (it m) x target;
        deep = next;
      }

  -- on to the next place, with what the walk had of some other variables
  pub keep : {place depth : ℕ} {xs : List Variable} {ts : List Shape} (o : Op) (ys : List Variable) (us : List Shape) (x : Variable) (a : Arrives s items place depth xs ts) →
      slice_get s.program.body.ops place ≡ Some o → falls o ≡ true → is_call o ≡ false → fall_test o ≡ None → (effect_of o).needs ≤ depth → suc place < length s.program.body.ops →
      target_of s.program (at main place depth) ≡ Some x → is_among x ys ≡ false → Agree ys us (map_of xs ts) → Arrives s items (suc place) (depth_after o depth) ys us
  keep {place} {depth} {xs} {ts} o ys us x a e f n free needs lt target new agree =
      let st : Stands s main place depth o = stands o a e in
      let next : HasDepth s.program.body (suc place) (depth_after o depth) = given a.deep e (goes_on needs f) lt in
      record {
        walk =
            passes_on s items closed main place depth o (map_of xs ts) (map_of ys us) main_there st a.walk f n (there (suc place) (depth_after o depth) next)
            (subst (λ test. Answers (world_of s items) (ask_top main depth test) (map_of xs ts)) (sym free) unasked)
            (λ v u h. (λ i. let same : x ≡ v = some_same (sym target ∙ i) in let yes : is_among x ys ≡ true = subst (λ z. is_among z ys ≡ true) (sym same) (among_is v ys (among ys us v u h)) in cc, within (map_of xs ts) ys us agree v u h));
        deep = next;
      }

  -- on to the next place, where nothing is written
  pub pass : {place depth : ℕ} {xs : List Variable} {ts : List Shape} (o : Op) (a : Arrives s items place depth xs ts) →
      slice_get s.program.body.ops place ≡ Some o → falls o ≡ true → is_call o ≡ false → Answers (world_of s items) (ask_top main depth (fall_test o)) (map_of xs ts) →
      (effect_of o).needs ≤ depth → suc place < length s.program.body.ops → target_of s.program (at main place depth) ≡ None → Arrives s items (suc place) (depth_after o depth) xs ts
  pass {place} {depth} {xs} {ts} o a e f n answers needs lt target =
      let st : Stands s main place depth o = stands o a e in
      let next : HasDepth s.program.body (suc place) (depth_after o depth) = given a.deep e (goes_on needs f) lt in
      record {
        walk = passes_on s items closed main place depth o (map_of xs ts) (map_of xs ts) main_there st a.walk f n (there (suc place) (depth_after o depth) next) answers (λ v u h. (λ i. let no : None ≡ Some v = sym target ∙ i in cc, h));
        deep = next;
      }

  pub jump : {place depth : ℕ} {xs : List Variable} {ts : List Shape} (o : Op) (b : Branch) (a : Arrives s items place depth xs ts) →
      slice_get s.program.body.ops place ≡ Some o → branch o ≡ Some b → Answers (world_of s items) (ask_top main depth b.on_jump) (map_of xs ts) →
      (effect_of o).needs ≤ depth → b.goal < length s.program.body.ops → Arrives s items b.goal (depth_at_goal o depth) xs ts
  jump {place} {depth} {xs} {ts} o b a e is answers needs lt =
      let st : Stands s main place depth o = stands o a e in
      let next : HasDepth s.program.body b.goal (depth_at_goal o depth) = given a.deep e (jumps needs (goal_is o b is)) lt in
      record { walk = jumps_on s items closed main place depth o b (map_of xs ts) main_there st a.walk is (there b.goal (depth_at_goal o depth) next) answers; deep = next }

  -- a fault of what fires is a finding, and an operand that isn't followed marks the line
  pub finds : {place depth : ℕ} {xs : List Variable} {ts : List Shape} (o : Op) (r : SeatReading) (shapes : List Shape) (a : Arrives s items place depth xs ts) → slice_get s.program.body.ops place ≡ Some o →
      readings_at s main depth o ≡ r ∷ [] → Agree (variables main r.seats) shapes (map_of xs ts) → (f : Fault) → (row_of r.transfer shapes).fault ≡ Some f →
      (line : ℕ) → slice_get s.program.body.lines place ≡ Some line → IsFinding s items (record { line = line; kind = kind_of_fault f; text = text_of_fault s.program f shapes })
  finds {place} {depth} o r shapes a e is agree f fault line on =
      record {
        context = main;
        place = place;
        depth = depth;
        on_line = on;
        finds = record { reading = r; shapes = shapes; fires = fired o r shapes a e is agree; fault = f; has_fault = fault; told = refl };
      }

  pub unchecks : {place depth : ℕ} {xs : List Variable} {ts : List Shape} (o : Op) (r : SeatReading) (shapes : List Shape) (a : Arrives s items place depth xs ts) → slice_get s.program.body.ops place ≡ Some o →
      readings_at s main depth o ≡ r ∷ [] → Agree (variables main r.seats) shapes (map_of xs ts) → (row_of r.transfer shapes).unchecked ≡ true →
      (line : ℕ) → slice_get s.program.body.lines place ≡ Some line → IsUnchecked s items line
  unchecks {place} {depth} o r shapes a e is agree marks line on =
      record {
        context = main;
        place = place;
        depth = depth;
        on_line = on;
        unchecks = record { reading = r; shapes = shapes; fires = fired o r shapes a e is agree; unchecked = marks };
      }

  -- what a walk to the End has of a global is what it ends with
  pub ends : {place depth : ℕ} {xs : List Variable} {ts : List Shape} (n : ℕ) (t : Shape) (a : Arrives s items place depth xs ts) → slice_get s.program.body.ops place ≡ Some op.End →
      map_of xs ts (global n) ≡ Some t → EndsWith s items n t
  ends {place} {depth} {xs} {ts} n t a e is =
      record {
        place = place;
        depth = depth;
        context = main_there;
        stands = stands op.End a e;
        seen = inl (record { memory = map_of xs ts; walk = a.walk; holds = record { at = within (map_of xs ts) (global n ∷ []) (t ∷ []) (is, tt) } });
      }
