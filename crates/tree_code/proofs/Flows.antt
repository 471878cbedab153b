-- The flow of each way to put pieces together.
use Rattle.std.proofs.Common.{◌≡◌, ℕ, suc, ◌+◌, ◌-◌, ◌<◌, ◌≤◌, true, Some, None, List, [], ◌∷◌, ◌++◌, length, refl, sym, ap, subst, ◌∙◌, arith, length-append, append_assoc}
use Rattle.stack_code.specs.declared.op.Op.{Op}
use Rattle.stack_code.specs.declared.op.Op.TheVariants.{Jump, JumpIfFalse}
use Rattle.stack_code.specs.Effects.{effect_of, falls, goal_of, depth_after, depth_at_goal}
use Rattle.tree_code.specs.Pieces.{Piece, Labels, nothing, one, ◌⨾◌, ahead, back, go_again, go_out, within, over, past, fork, loop, guarded}
use Rattle.tree_code.specs.Flows.{Stands, IsRightAt, AreRight, RangesRight, LabelsRight, Flows, Nothing}
use Rattle.tree_code.proofs.Stands.{stands_split, stands_join, stands_first, stands_last, right_join, ranges_join, first_join}

-- what is asked holds where the depths stand
pub answered : (Asks : ℕ → (ℕ → ℕ) → ℕ → Type 0) (again out before after : ℕ) {own : List ℕ} (a : Piece) (f : Flows Asks again out before after own a) →
    ((places : ℕ) (ds : ℕ → ℕ) (place : ℕ) → place + a.size < places → Stands ds place (own ++ after ∷ []) → Asks places ds place) → Flows Nothing again out before after own a
answered Asks again out before after a f answer =
    record {
      count = f.count;
      starts = f.starts;
      sized = f.sized;
      right = λ places ds labels place l k s none. f.right places ds labels place l k s (answer places ds place l s);
    }

module _ (again out : ℕ) where
  pub nothing_flows : (depth : ℕ) → Flows Nothing again out depth depth [] nothing
  nothing_flows depth = record { count = refl; starts = refl; sized = λ labels place. refl; right = λ places ds labels place l k s none. (tt, tt) }

  -- an instruction that does not jump; one that does not go on leaves any depth
  pub one_flows : (op : Op) (line before after : ℕ) → (effect_of op).needs ≤ before → (falls op ≡ true → after ≡ depth_after op before) → goal_of op ≡ None → Flows Nothing again out before after (before ∷ []) (one op line)
  one_flows op line before after enough goes stays =
      record {
        count = refl;
        starts = refl;
        sized = λ labels place. refl;
        right = λ places ds labels place l k s none. (
          (
            record {
              enough = subst (λ d. (effect_of op).needs ≤ d) (sym s.0) enough;
              goes_on = λ f. s.1.0 ∙ goes f ∙ ap (depth_after op) (sym s.0);
              jumps = λ goal e. let z : Some goal ≡ None = sym e ∙ stays in cc;
            },
            tt,
          ),
          tt,
        );
      }

  -- a jump over the next instructions: from where it leads the depth is asked
  pub record IsBranch (jump : ℕ → Op) (before after taken : ℕ) : Type 0 where
    pub goal : (place : ℕ) → goal_of (jump place) ≡ Some place
    pub enough : (place : ℕ) → (effect_of (jump place)).needs ≤ before
    pub goes : (place : ℕ) → falls (jump place) ≡ true → after ≡ depth_after (jump place) before
    pub leaves : (place : ℕ) → taken ≡ depth_at_goal (jump place) before

  pub ahead_flows : (jump : ℕ → Op) (count line before after taken : ℕ) → IsBranch jump before after taken →
      Flows (λ places ds place. (place + 1 + count < places) × (ds (place + 1 + count) ≡ taken)) again out before after (before ∷ []) (ahead jump count line)
  ahead_flows jump count line before after taken b =
      record {
        count = refl;
        starts = refl;
        sized = λ labels place. refl;
        right = λ places ds labels place l k s asked. (
          (
            record {
              enough = subst (λ d. (effect_of (jump (place + 1 + count))).needs ≤ d) (sym s.0) (b.enough (place + 1 + count));
              goes_on = λ f. s.1.0 ∙ b.goes (place + 1 + count) f ∙ ap (depth_after (jump (place + 1 + count))) (sym s.0);
              jumps = λ goal e.
                  let same : place + 1 + count ≡ goal = let z : Some (place + 1 + count) ≡ Some goal = sym (b.goal (place + 1 + count)) ∙ e in cc in
                  subst (λ g. (g < places) × (ds g ≡ depth_at_goal (jump (place + 1 + count)) (ds place))) same
                  (asked.0, asked.1 ∙ b.leaves (place + 1 + count) ∙ ap (depth_at_goal (jump (place + 1 + count))) (sym s.0));
            },
            tt,
          ),
          tt,
        );
      }

  pub jump_branch : (depth after : ℕ) → IsBranch Jump depth after depth
  jump_branch depth after = record { goal = λ place. refl; enough = λ place. omega arith; goes = λ place f. cc; leaves = λ place. omega arith }

  -- a plain jump, to a place that is asked
  jump_right : (goal line before after : ℕ) (places : ℕ) (ds : ℕ → ℕ) (place : ℕ) → ds place ≡ before → goal < places → ds goal ≡ before → IsRightAt places ds place (Jump goal)
  jump_right goal line before after places ds place here l there =
      record {
        enough = omega arith;
        goes_on = λ f. cc;
        jumps = λ g e. let same : goal ≡ g = cc in subst (λ x. (x < places) × (ds x ≡ ds place - 0)) same (l, there ∙ sym here ∙ omega arith);
      }

  pub back_flows : (count line before after : ℕ) → Flows (λ places ds place. (place - count < places) × (ds (place - count) ≡ before)) again out before after (before ∷ []) (back count line)
  back_flows count line before after =
      record {
        count = refl;
        starts = refl;
        sized = λ labels place. refl;
        right = λ places ds labels place l k s asked. ((jump_right (place - count) line before after places ds place s.0 asked.0 asked.1, tt), tt);
      }

  pub again_flows : (line after : ℕ) → Flows Nothing again out again after (again ∷ []) (go_again line)
  again_flows line after =
      record {
        count = refl;
        starts = refl;
        sized = λ labels place. refl;
        right = λ places ds labels place l k s none. ((jump_right labels.again line again after places ds place s.0 k.again_is_place k.again_depth, tt), tt);
      }

  pub out_flows : (line after : ℕ) → Flows Nothing again out out after (out ∷ []) (go_out line)
  out_flows line after =
      record {
        count = refl;
        starts = refl;
        sized = λ labels place. refl;
        right = λ places ds labels place l k s none. ((jump_right labels.out line out after places ds place s.0 k.out_is_place k.out_depth, tt), tt);
      }

  -- one piece after another
  pub then_flows : (A B : ℕ → (ℕ → ℕ) → ℕ → Type 0) (before middle after : ℕ) {own others : List ℕ} (a b : Piece) → Flows A again out before middle own a → Flows B again out middle after others b →
      Flows (λ places ds place. A places ds place × B places ds (place + a.size)) again out before after (own ++ others) (a ⨾ b)
  then_flows A B before middle after {own} {others} a b f g =
      record {
        count = length-append own others ∙ ap (λ n. n + length others) f.count ∙ ap (λ n. a.size + n) g.count;
        starts = first_join own others middle after g.starts ∙ f.starts;
        sized = λ labels place. length-append (a.code labels place) (b.code labels (place + a.size)) ∙ ap (λ n. n + length (b.code labels (place + a.size))) (f.sized labels place) ∙ ap (λ n. a.size + n) (g.sized labels (place + a.size));
        right = λ places ds labels place l k s asked. right places ds labels place l k s asked;
      }
    where
      right : (places : ℕ) (ds : ℕ → ℕ) (labels : Labels) (place : ℕ) → place + (a.size + b.size) < places → LabelsRight again out places ds labels → Stands ds place ((own ++ others) ++ after ∷ []) → A places ds place × B places ds (place + a.size) →
          AreRight places ds place (a.code labels place ++ b.code labels (place + a.size)) × RangesRight places ds (a.ranges place ++ b.ranges (place + a.size))
      right places ds labels place l k s asked =
          let parts : Stands ds place own × Stands ds (place + length own) (others ++ after ∷ []) = stands_split ds own (others ++ after ∷ []) place (subst (λ xs. Stands ds place xs) (append_assoc own others (after ∷ [])) s) in
          let there : Stands ds (place + a.size) (others ++ after ∷ []) = subst (λ n. Stands ds (place + n) (others ++ after ∷ [])) f.count parts.1 in
          let between : ds (place + length own) ≡ middle = stands_first ds others after (place + length own) parts.1 ∙ g.starts in
          let here : Stands ds place (own ++ middle ∷ []) = stands_join ds own (middle ∷ []) place parts.0 (between, tt) in
          let one : AreRight places ds place (a.code labels place) × RangesRight places ds (a.ranges place) = f.right places ds labels place (omega (arith, l)) k here asked.0 in
          let two : AreRight places ds (place + a.size) (b.code labels (place + a.size)) × RangesRight places ds (b.ranges (place + a.size)) = g.right places ds labels (place + a.size) (omega (arith, l)) k there asked.1 in (
            right_join ds places (a.code labels place) (b.code labels (place + a.size)) place one.0 (subst (λ n. AreRight places ds (place + n) (b.code labels (place + a.size))) (sym (f.sized labels place)) two.0),
            ranges_join ds places (a.ranges place) (b.ranges (place + a.size)) one.1 two.1,
          )

  pub both_flow : (before middle after : ℕ) {own others : List ℕ} (a b : Piece) → Flows Nothing again out before middle own a → Flows Nothing again out middle after others b → Flows Nothing again out before after (own ++ others) (a ⨾ b)
  both_flow before middle after a b f g =
      answered (λ places ds place. Nothing places ds place × Nothing places ds (place + a.size)) again out before after (a ⨾ b) (then_flows Nothing Nothing before middle after a b f g) (λ places ds place l s. (tt, tt))

  -- where the depths of a piece stand, the place after it has the last one
  pub ends_at : (Asks : ℕ → (ℕ → ℕ) → ℕ → Type 0) (before after : ℕ) {own : List ℕ} (a : Piece) (f : Flows Asks again out before after own a) (ds : ℕ → ℕ) (place : ℕ) → Stands ds place (own ++ after ∷ []) → ds (place + a.size) ≡ after
  ends_at Asks before after {own} a f ds place s = subst (λ n. ds (place + n) ≡ after) f.count (stands_last ds own after place s)

  pub begins_at : (Asks : ℕ → (ℕ → ℕ) → ℕ → Type 0) (before after : ℕ) {own : List ℕ} (a : Piece) (f : Flows Asks again out before after own a) (ds : ℕ → ℕ) (place : ℕ) → Stands ds place (own ++ after ∷ []) → ds place ≡ before
  begins_at Asks before after {own} a f ds place s = stands_first ds own after place s ∙ f.starts

  pub over_flows : (jump : ℕ → Op) (line before middle after : ℕ) {own : List ℕ} (a : Piece) → IsBranch jump before middle after → Flows Nothing again out middle after own a → Flows Nothing again out before after (before ∷ own) (over jump line a)
  over_flows jump line before middle after {own} a b f =
      let Asks : ℕ → (ℕ → ℕ) → ℕ → Type 0 = λ places ds place. ((place + 1 + a.size < places) × (ds (place + 1 + a.size) ≡ after)) × Nothing places ds (place + 1) in
      let both : Flows Asks again out before after (before ∷ own) (over jump line a) =
      then_flows (λ places ds place. (place + 1 + a.size < places) × (ds (place + 1 + a.size) ≡ after)) Nothing before middle after (ahead jump a.size line) a (ahead_flows jump a.size line before middle after b) f in
      answered Asks again out before after (over jump line a) both
      (λ places ds place l s. ((omega (arith, l), subst (λ n. ds n ≡ after) (omega arith) (ends_at Asks before after (over jump line a) both ds place s)), tt))

  -- ---- both ways of a test

  pub fork_branch : (depth : ℕ) → IsBranch JumpIfFalse (suc depth) depth depth
  fork_branch depth = record { goal = λ place. refl; enough = λ place. omega arith; goes = λ place f. omega arith; leaves = λ place. omega arith }

  -- `a Jump E b E:`, where the depth at b is the one that is led to it
  pub past_flows : (line before start after : ℕ) {own others : List ℕ} (a b : Piece) → Flows Nothing again out before after own a → Flows Nothing again out start after others b → Flows Nothing again out before after (own ++ after ∷ others) (past line a b)
  past_flows line before start after {own} {others} a b f g =
      let Ends : ℕ → (ℕ → ℕ) → ℕ → Type 0 = λ places ds place. (place + 1 + b.size < places) × (ds (place + 1 + b.size) ≡ after) in
      let Tail : ℕ → (ℕ → ℕ) → ℕ → Type 0 = λ places ds place. Ends places ds place × Nothing places ds (place + 1) in
      let tail : Flows Tail again out after after (after ∷ others) (ahead Jump b.size line ⨾ b) = then_flows Ends Nothing after start after (ahead Jump b.size line) b (ahead_flows Jump b.size line after start after (jump_branch after start)) g in
      let Asks : ℕ → (ℕ → ℕ) → ℕ → Type 0 = λ places ds place. Nothing places ds place × Tail places ds (place + a.size) in
      let whole : Flows Asks again out before after (own ++ after ∷ others) (past line a b) = then_flows Nothing Tail before after after a (ahead Jump b.size line ⨾ b) f tail in
      answered Asks again out before after (past line a b) whole
      (λ places ds place l s. (tt, ((omega (arith, l), subst (λ n. ds n ≡ after) (omega arith) (ends_at Asks before after (past line a b) whole ds place s)), tt)))

  -- in it, b begins with its depth
  pub past_middle : (start after : ℕ) {before : ℕ} {own others : List ℕ} (a b : Piece) (f : Flows Nothing again out before after own a) (g : Flows Nothing again out start after others b) (ds : ℕ → ℕ) (place : ℕ) →
      Stands ds place ((own ++ after ∷ others) ++ after ∷ []) → ds (place + (a.size + 1)) ≡ start
  past_middle start after {own = own} {others = others} a b f g ds place s =
      let parts : Stands ds place own × Stands ds (place + length own) (after ∷ (others ++ after ∷ [])) = stands_split ds own (after ∷ (others ++ after ∷ [])) place (subst (λ xs. Stands ds place xs) (append_assoc own (after ∷ others) (after ∷ [])) s) in
      subst (λ n. ds n ≡ start) (omega (arith, f.count)) (stands_first ds others after (suc (place + length own)) parts.1.1 ∙ g.starts)

  pub fork_flows : (line depth after : ℕ) {own others : List ℕ} (a b : Piece) → Flows Nothing again out depth after own a → Flows Nothing again out depth after others b → Flows Nothing again out (suc depth) after (suc depth ∷ own ++ after ∷ others) (fork line a b)
  fork_flows line depth after {own} {others} a b f g =
      let Asks : ℕ → (ℕ → ℕ) → ℕ → Type 0 = λ places ds place. ((place + 1 + (a.size + 1) < places) × (ds (place + 1 + (a.size + 1)) ≡ depth)) × Nothing places ds (place + 1) in
      let rest : Flows Nothing again out depth after (own ++ after ∷ others) (past line a b) = past_flows line depth depth after a b f g in
      let both : Flows Asks again out (suc depth) after (suc depth ∷ own ++ after ∷ others) (fork line a b) =
      then_flows (λ places ds place. (place + 1 + (a.size + 1) < places) × (ds (place + 1 + (a.size + 1)) ≡ depth)) Nothing (suc depth) depth after (ahead JumpIfFalse (a.size + 1) line) (past line a b)
      (ahead_flows JumpIfFalse (a.size + 1) line (suc depth) depth depth (fork_branch depth)) rest in
      answered Asks again out (suc depth) after (fork line a b) both
      (λ places ds place l s. ((omega (arith, l), subst (λ n. ds n ≡ depth) (omega arith) (past_middle depth after a b f g ds (suc place) s.1)), tt))

  -- ---- loops

  pub within_flows : (k m inner outer before after : ℕ) {own : List ℕ} (a : Piece) → Flows Nothing inner outer before after own a →
      Flows (λ places ds place. LabelsRight inner outer places ds (record { again = place - k; out = place + a.size + m })) again out before after own (within k m a)
  within_flows k m inner outer before after a f =
      record {
        count = f.count;
        starts = f.starts;
        sized = λ labels place. f.sized (record { again = place - k; out = place + a.size + m }) place;
        right = λ places ds labels place l k' s asked. f.right places ds (record { again = place - k; out = place + a.size + m }) place l asked s tt;
      }

  pub loop_flows : (leave : ℕ → Op) (line depth before start after : ℕ) {tested inside : List ℕ} (test body : Piece) → Flows Nothing again out depth before tested test → IsBranch leave before start after → Flows Nothing depth after start depth inside body
      → Flows Nothing again out depth after (tested ++ (before ∷ inside ++ depth ∷ [])) (loop leave line test body)
  loop_flows leave line depth before start after {tested} {inside} test body f b g =
      let n : ℕ = test.size in
      let m : ℕ = body.size in
      let Leaves : ℕ → (ℕ → ℕ) → ℕ → Type 0 = λ places ds place. (place + 1 + (m + 1) < places) × (ds (place + 1 + (m + 1)) ≡ after) in
      let Labelled : ℕ → (ℕ → ℕ) → ℕ → Type 0 = λ places ds place. LabelsRight depth after places ds (record { again = place - (n + 1); out = place + m + 1 }) in
      let Backs : ℕ → (ℕ → ℕ) → ℕ → Type 0 = λ places ds place. (place - (n + 1 + m) < places) × (ds (place - (n + 1 + m)) ≡ depth) in
      let Third : ℕ → (ℕ → ℕ) → ℕ → Type 0 = λ places ds place. Labelled places ds place × Backs places ds (place + m) in
      let third : Flows Third again out start after (inside ++ depth ∷ []) (within (n + 1) 1 body ⨾ back (n + 1 + m) line) =
      then_flows Labelled Backs start depth after (within (n + 1) 1 body) (back (n + 1 + m) line) (within_flows (n + 1) 1 depth after start depth body g) (back_flows (n + 1 + m) line depth after) in
      let Second : ℕ → (ℕ → ℕ) → ℕ → Type 0 = λ places ds place. Leaves places ds place × Third places ds (place + 1) in
      let second : Flows Second again out before after (before ∷ inside ++ depth ∷ []) (ahead leave (m + 1) line ⨾ within (n + 1) 1 body ⨾ back (n + 1 + m) line) =
      then_flows Leaves Third before start after (ahead leave (m + 1) line) (within (n + 1) 1 body ⨾ back (n + 1 + m) line) (ahead_flows leave (m + 1) line before start after b) third in
      let Asks : ℕ → (ℕ → ℕ) → ℕ → Type 0 = λ places ds place. Nothing places ds place × Second places ds (place + n) in
      let whole : Flows Asks again out depth after (tested ++ (before ∷ inside ++ depth ∷ [])) (loop leave line test body) =
      then_flows Nothing Second depth before after test (ahead leave (m + 1) line ⨾ within (n + 1) 1 body ⨾ back (n + 1 + m) line) f second in
      answered Asks again out depth after (loop leave line test body) whole
      (λ places ds place l s.
      let end : ds (place + (n + (1 + (m + 1)))) ≡ after = ends_at Asks depth after (loop leave line test body) whole ds place s in
      let begin : ds place ≡ depth = begins_at Asks depth after (loop leave line test body) whole ds place s in (
        tt,
        (
          (omega (arith, l), subst (λ p. ds p ≡ after) (omega arith) end),
          (
            record {
              again_is_place = omega (arith, l);
              out_is_place = omega (arith, l);
              again_depth = subst (λ p. ds p ≡ depth) (omega arith) begin;
              out_depth = subst (λ p. ds p ≡ after) (omega arith) end;
            },
            (omega (arith, l), subst (λ p. ds p ≡ depth) (omega arith) begin),
          ),
        ),
      ))

  -- ---- `try`

  pub guarded_flows : (depth line before after : ℕ) {own others : List ℕ} (body otherwise handling : Piece) → Flows Nothing again out before after own (body ⨾ otherwise) → Flows Nothing again out depth after others handling
      → Flows Nothing again out before after (own ++ after ∷ others) (guarded depth line body otherwise handling)
  guarded_flows depth line before after {own} {others} body otherwise handling f g =
      let past : Flows Nothing again out before after (own ++ after ∷ others) (Rattle.tree_code.specs.Pieces.past line (body ⨾ otherwise) handling) = past_flows line before depth after (body ⨾ otherwise) handling f g in
      record {
        count = past.count;
        starts = past.starts;
        sized = past.sized;
        right = λ places ds labels place l k s none.
            let r : AreRight places ds place ((Rattle.tree_code.specs.Pieces.past line (body ⨾ otherwise) handling).code labels place) × RangesRight places ds ((Rattle.tree_code.specs.Pieces.past line (body ⨾ otherwise) handling).ranges place) = past.right places ds labels place l k s none in (
              r.0,
              (
                (
                  record { ordered = omega arith; within = omega (arith, l); handler = omega (arith, l) },
                  subst (λ p. ds p ≡ depth) (omega arith) (past_middle depth after (body ⨾ otherwise) handling f g ds place s),
                ),
                r.1,
              ),
            );
      }
