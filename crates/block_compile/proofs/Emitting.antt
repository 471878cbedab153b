-- How pieces come to stand one after another, and how jumps are aimed over them.
use Rattle.std.proofs.Common.{◌≡◌, ℕ, suc, zero, ◌+◌, ◌<◌, List, [], ◌∷◌, ◌++◌, length, set, refl, sym, ap, subst, ◌∙◌, arith, append_assoc, length-append}
use Rattle.std.proofs.lemmas.List.{append-nil, append_cancel_left, set_at, set-append_left, length-set}
use Rattle.stack_code.specs.declared.code.Range.{Range}
use Rattle.stack_code.specs.declared.op.Op.{Op}
use Rattle.stack_code.specs.declared.op.Op.TheVariants.{Jump, JumpIfFalse}
use Rattle.tree_code.specs.declared.instr.Instr.{Instr}
use Rattle.tree_code.specs.Pieces.{Piece, Labels, instr, nothing, one, ◌⨾◌, ahead, past, fork}
use Rattle.expr_compile.specs.Emitted.{Emitted, with_piece, with_instr, with_aim}
use Rattle.tree_code.specs.Standing.{IsSized}
use Rattle.block_compile.specs.Emits.{AreLeaves, labelled, with_open, Emits}
use Rattle.expr_compile.specs.Jumps.{turn, turned, turned_at, landed}

-- ---- jumps that are turned

pub length-turn : (goal place : ℕ) (is : List Instr) → length (turn goal place is) ≡ length is
length-turn goal zero [] = refl
length-turn goal (suc place) [] = refl
length-turn goal zero (i ∷ is) = refl
length-turn goal (suc place) (i ∷ is) = ap suc (length-turn goal place is)

pub length-turned : (goal : ℕ) (places : List ℕ) (is : List Instr) → length (turned goal places is) ≡ length is
length-turned goal [] is = refl
length-turned goal (place ∷ places) is = length-turned goal places (turn goal place is) ∙ length-turn goal place is

turn-append : (goal place : ℕ) (is more : List Instr) → place < length is → turn goal place (is ++ more) ≡ turn goal place is ++ more
turn-append goal place [] more l = absurd (omega (arith, l))
turn-append goal zero (i ∷ is) more l = refl
turn-append goal (suc place) (i ∷ is) more l = ap (λ r. i ∷ r) (turn-append goal place is more (omega (arith, l)))

pub turn_at : (goal : ℕ) (before : List Instr) (i : Instr) (after : List Instr) → turn goal (length before) (before ++ (i ∷ after)) ≡ before ++ (instr (Jump goal) i.line ∷ after)
turn_at goal [] i after = refl
turn_at goal (b ∷ before) i after = ap (λ r. b ∷ r) (turn_at goal before i after)

pub turn_comm : (goal one other : ℕ) (is : List Instr) → turn goal one (turn goal other is) ≡ turn goal other (turn goal one is)
turn_comm goal zero zero [] = refl
turn_comm goal zero (suc other) [] = refl
turn_comm goal (suc one) zero [] = refl
turn_comm goal (suc one) (suc other) [] = refl
turn_comm goal zero zero (i ∷ is) = refl
turn_comm goal zero (suc other) (i ∷ is) = refl
turn_comm goal (suc one) zero (i ∷ is) = refl
turn_comm goal (suc one) (suc other) (i ∷ is) = ap (λ r. i ∷ r) (turn_comm goal one other is)

turned_turn : (goal : ℕ) (places : List ℕ) (place : ℕ) (is : List Instr) → turned goal places (turn goal place is) ≡ turn goal place (turned goal places is)
turned_turn goal [] place is = refl
turned_turn goal (p ∷ places) place is = ap (turned goal places) (turn_comm goal p place is) ∙ turned_turn goal places place (turn goal p is)

turned-append : (goal : ℕ) (xs ys : List ℕ) (is : List Instr) → turned goal (xs ++ ys) is ≡ turned goal ys (turned goal xs is)
turned-append goal [] ys is = refl
turned-append goal (x ∷ xs) ys is = turned-append goal xs ys (turn goal x is)

-- jumps may be turned in any order
pub landed_push : (places : List ℕ) (place : ℕ) (e : Emitted) → landed places (landed (place ∷ []) e) ≡ landed (places ++ place ∷ []) e
landed_push places place e =
    let n : ℕ = length e.instrs in
    let same : length (turn n place e.instrs) ≡ n = length-turn n place e.instrs in
    ap (λ g. record e { instrs = turned g places (turn n place e.instrs) }) same
    ∙ ap (λ is. record e { instrs = is }) (turned_turn n places place e.instrs ∙ sym (turned-append n places (place ∷ []) e.instrs))

-- ---- what is put at the end

pub three : {i j : List Instr} {r s : List Range} {l m : List ℕ} → i ≡ j → r ≡ s → l ≡ m → (let x : Emitted = record { instrs = i; ranges = r; leaves = l } in x) ≡ (let y : Emitted = record { instrs = j; ranges = s; leaves = m } in y)
three {i} {j} {r} {s} {l} {m} p q t =
    ap (λ z. record { instrs = z; ranges = r; leaves = l }) p
    ∙ ap (λ z. record { instrs = j; ranges = z; leaves = l }) q
    ∙ ap (λ z. record { instrs = j; ranges = s; leaves = z }) t

-- ---- sizes

pub sized_nothing : IsSized nothing
sized_nothing labels place = refl

pub sized_one : (op : Op) (line : ℕ) → IsSized (one op line)
sized_one op line labels place = refl

pub sized_ahead : (jump : ℕ → Op) (count line : ℕ) → IsSized (ahead jump count line)
sized_ahead jump count line labels place = refl

pub sized_then : (a b : Piece) → IsSized a → IsSized b → IsSized (a ⨾ b)
sized_then a b s t labels place =
    length-append (a.code labels place) (b.code labels (place + a.size)) ∙ ap (λ n. n + length (b.code labels (place + a.size))) (s labels place) ∙ ap (λ n. a.size + n) (t labels (place + a.size))

pub sized_past : (line : ℕ) (a b : Piece) → IsSized a → IsSized b → IsSized (past line a b)
sized_past line a b s t = sized_then a (ahead Jump b.size line ⨾ b) s (sized_then (ahead Jump b.size line) b (sized_ahead Jump b.size line) t)

pub sized_fork : (line : ℕ) (a b : Piece) → IsSized a → IsSized b → IsSized (fork line a b)
sized_fork line a b s t = sized_then (ahead JumpIfFalse (a.size + 1) line) (past line a b) (sized_ahead JumpIfFalse (a.size + 1) line) (sized_past line a b s t)

-- ---- one piece after another

module _ (again : ℕ) where
  -- what is the same wherever the loop is left has no jump out of it
  pub emits_piece : (a : Piece) (old new : Emitted) → ((labels : Labels) → new ≡ with_piece a labels old) → Emits a again old new
  emits_piece a old new is =
      record {
        leaves = [];
        adds = is (record { again = again; out = 0 }) ∙ three refl refl (sym (append-nil old.leaves));
        aims = λ before after out e.
            let one : new ≡ with_piece a (record { again = again; out = 0 }) old = is (record { again = again; out = 0 }) in
            let other : new ≡ with_piece a (record { again = again; out = out }) old = is (record { again = again; out = out }) in
            let whole : old.instrs ++ labelled a again (length old.instrs) 0 ≡ old.instrs ++ labelled a again (length old.instrs) out = ap (λ (x : Emitted). x.instrs) (sym one ∙ other) in
            ap (λ c. before ++ (c ++ after)) (append_cancel_left old.instrs (labelled a again (length old.instrs) 0) (labelled a again (length old.instrs) out) whole);
      }

  pub emits_nothing : (e : Emitted) → Emits nothing again e e
  emits_nothing e = emits_piece nothing e e (λ labels. three (sym (append-nil e.instrs)) (sym (append-nil e.ranges)) refl)

  pub emits_one : (op : Op) (line : ℕ) (e : Emitted) → Emits (one op line) again e (with_instr op line e)
  emits_one op line e = emits_piece (one op line) e (with_instr op line e) (λ labels. three refl (sym (append-nil e.ranges)) refl)

  -- a jump whose goal is known
  pub emits_ahead : (jump : ℕ → Op) (count line goal : ℕ) (e : Emitted) → goal ≡ length e.instrs + 1 + count → Emits (ahead jump count line) again e (with_instr (jump goal) line e)
  emits_ahead jump count line goal e is =
      emits_piece (ahead jump count line) e (with_instr (jump goal) line e) (λ labels. three (ap (λ g. e.instrs ++ instr (jump g) line ∷ []) is) (sym (append-nil e.ranges)) refl)

  pub emitted_length : (a : Piece) (old new : Emitted) → IsSized a → Emits a again old new → length new.instrs ≡ length old.instrs + a.size
  emitted_length a old new s f =
      ap (λ (x : Emitted). length x.instrs) f.adds ∙ length-append old.instrs (labelled a again (length old.instrs) 0) ∙ ap (λ n. length old.instrs + n) (s (record { again = again; out = 0 }) (length old.instrs))

  then_open : (a b : Piece) (as' bs : List ℕ) (old : Emitted) → IsSized a → with_open b again bs (with_open a again as' old) ≡ with_open (a ⨾ b) again (as' ++ bs) old
  then_open a b as' bs old s =
      let c : List Instr = labelled a again (length old.instrs) 0 in
      let n : length (old.instrs ++ c) ≡ length old.instrs + a.size = length-append old.instrs c ∙ ap (λ k. length old.instrs + k) (s (record { again = again; out = 0 }) (length old.instrs)) in
      ap (λ k. record { instrs = (old.instrs ++ c) ++ labelled b again k 0; ranges = (old.ranges ++ a.ranges (length old.instrs)) ++ b.ranges k; leaves = (old.leaves ++ as') ++ bs }) n
      ∙ three (append_assoc old.instrs c (labelled b again (length old.instrs + a.size) 0)) (append_assoc old.ranges (a.ranges (length old.instrs)) (b.ranges (length old.instrs + a.size))) (append_assoc old.leaves as' bs)

  then_leaves : (a b : Piece) (as' bs : List ℕ) (place : ℕ) → IsSized a → AreLeaves as' (labelled a again place) place → AreLeaves bs (labelled b again (place + a.size)) (place + a.size) →
      AreLeaves (as' ++ bs) (labelled (a ⨾ b) again place) place
  then_leaves a b as' bs place s f g before after out e =
      let ca : ℕ → List Instr = labelled a again place in
      let cb : ℕ → List Instr = labelled b again (place + a.size) in
      let there : length (before ++ ca out) ≡ place + a.size = length-append before (ca out) ∙ ap (λ n. n + length (ca out)) e ∙ ap (λ n. place + n) (s (record { again = again; out = out }) place) in
      turned-append out as' bs (before ++ ((ca 0 ++ cb 0) ++ after))
      ∙ ap (λ is. turned out bs (turned out as' (before ++ is))) (append_assoc (ca 0) (cb 0) after)
      ∙ ap (turned out bs) (f before (cb 0 ++ after) out e ∙ sym (append_assoc before (ca out) (cb 0 ++ after)))
      ∙ g (before ++ ca out) after out there
      ∙ append_assoc before (ca out) (cb out ++ after)
      ∙ ap (λ is. before ++ is) (sym (append_assoc (ca out) (cb out) after))

  pub emits_then : (a b : Piece) (old mid new : Emitted) → IsSized a → Emits a again old mid → Emits b again mid new → Emits (a ⨾ b) again old new
  emits_then a b old mid new s f g =
      record {
        leaves = f.leaves ++ g.leaves;
        adds = g.adds ∙ ap (with_open b again g.leaves) f.adds ∙ then_open a b f.leaves g.leaves old s;
        aims = then_leaves a b f.leaves g.leaves (length old.instrs) s f.aims (subst (λ n. AreLeaves g.leaves (labelled b again n) n) (emitted_length a old mid s f) g.aims);
      }

  -- ---- aiming over a piece

  -- the same piece behind other code of the same length
  pub emits_elsewhere : (a : Piece) (old new other : Emitted) (f : Emits a again old new) → length other.instrs ≡ length old.instrs → Emits a again other (with_open a again f.leaves other)
  emits_elsewhere a old new other f e = record { leaves = f.leaves; adds = refl; aims = subst (λ n. AreLeaves f.leaves (labelled a again n) n) (sym e) f.aims }

  pub emits_aimed : (a : Piece) (place : ℕ) (op : Op) (line : ℕ) (old new : Emitted) → place < length old.instrs → Emits a again old new → Emits a again (with_aim place op line old) (with_aim place op line new)
  emits_aimed a place op line old new l f =
      let n : length (set old.instrs place (instr op line)) ≡ length old.instrs = length-set old.instrs place (instr op line) in
      let is : with_aim place op line new ≡ with_open a again f.leaves (with_aim place op line old) =
      ap (with_aim place op line) f.adds
      ∙ three (set-append_left old.instrs (labelled a again (length old.instrs) 0) place (instr op line) l ∙ ap (λ k. set old.instrs place (instr op line) ++ labelled a again k 0) (sym n)) (ap (λ k. old.ranges ++ a.ranges k) (sym n)) refl in
      subst (λ x. Emits a again (with_aim place op line old) x) (sym is) (emits_elsewhere a old new (with_aim place op line old) f n)

  pub emits_turned : (a : Piece) (goal place : ℕ) (old new : Emitted) → place < length old.instrs → Emits a again old new → Emits a again (turned_at goal place old) (turned_at goal place new)
  emits_turned a goal place old new l f =
      let n : length (turn goal place old.instrs) ≡ length old.instrs = length-turn goal place old.instrs in
      let is : turned_at goal place new ≡ with_open a again f.leaves (turned_at goal place old) =
      ap (turned_at goal place) f.adds
      ∙ three (turn-append goal place old.instrs (labelled a again (length old.instrs) 0) l ∙ ap (λ k. turn goal place old.instrs ++ labelled a again k 0) (sym n)) (ap (λ k. old.ranges ++ a.ranges k) (sym n)) refl in
      subst (λ x. Emits a again (turned_at goal place old) x) (sym is) (emits_elsewhere a old new (turned_at goal place old) f n)

  -- a jump at the end, aimed again
  aim_last : (jump : ℕ → Op) (goal line : ℕ) (e : Emitted) → with_aim (length e.instrs) (jump goal) line (with_instr (jump 0) line e) ≡ with_instr (jump goal) line e
  aim_last jump goal line e = three (set_at e.instrs (instr (jump 0) line) [] (instr (jump goal) line) (length e.instrs) refl) refl refl

  turn_last : (goal line : ℕ) (e : Emitted) → turned_at goal (length e.instrs) (with_instr (Jump 0) line e) ≡ with_instr (Jump goal) line e
  turn_last goal line e = three (turn_at goal e.instrs (instr (Jump 0) line) []) refl refl

  pub longer : (op : Op) (line : ℕ) (e : Emitted) → length (with_instr op line e).instrs ≡ length e.instrs + 1
  longer op line e = length-append e.instrs (instr op line ∷ [])

  -- `a Jump E b E:`
  pub emits_past : (line : ℕ) (a b : Piece) (old mid new : Emitted) → IsSized a → IsSized b → Emits a again old mid → Emits b again (with_instr (Jump 0) line mid) new → Emits (past line a b) again old (landed (length mid.instrs ∷ []) new)
  emits_past line a b old mid new s t f g =
      let goal : ℕ = length new.instrs in
      let n : goal ≡ length mid.instrs + 1 + b.size = emitted_length b (with_instr (Jump 0) line mid) new t g ∙ ap (λ k. k + b.size) (longer (Jump 0) line mid) in
      let l : length mid.instrs < length (with_instr (Jump 0) line mid).instrs = omega (arith, longer (Jump 0) line mid) in
      let moved : Emits b again (turned_at goal (length mid.instrs) (with_instr (Jump 0) line mid)) (turned_at goal (length mid.instrs) new) = emits_turned b goal (length mid.instrs) (with_instr (Jump 0) line mid) new l g in
      emits_then a (ahead Jump b.size line ⨾ b) old mid (turned_at goal (length mid.instrs) new) s f
      (emits_then (ahead Jump b.size line) b mid (with_instr (Jump goal) line mid) (turned_at goal (length mid.instrs) new) (sized_ahead Jump b.size line) (emits_ahead Jump b.size line goal mid n)
      (subst (λ x. Emits b again x (turned_at goal (length mid.instrs) new)) (turn_last goal line mid) moved))

  -- `JumpIfFalse L a Jump E L: b E:`
  pub emits_fork : (line : ℕ) (a b : Piece) (old mid new : Emitted) → IsSized a → IsSized b → Emits a again (with_instr (JumpIfFalse 0) line old) mid
      → Emits b again (with_aim (length old.instrs) (JumpIfFalse (length (with_instr (Jump 0) line mid).instrs)) line (with_instr (Jump 0) line mid)) new → Emits (fork line a b) again old (landed (length mid.instrs ∷ []) new)
  emits_fork line a b old mid new s t f g =
      let goal : ℕ = length (with_instr (Jump 0) line mid).instrs in
      let first : Emitted = with_instr (JumpIfFalse goal) line old in
      let there : Emitted = with_aim (length old.instrs) (JumpIfFalse goal) line mid in
      let m : length mid.instrs ≡ length old.instrs + 1 + a.size = emitted_length a (with_instr (JumpIfFalse 0) line old) mid s f ∙ ap (λ k. k + a.size) (longer (JumpIfFalse 0) line old) in
      let n : goal ≡ length old.instrs + 1 + (a.size + 1) = longer (Jump 0) line mid ∙ omega (arith, m) in
      let l : length old.instrs < length (with_instr (JumpIfFalse 0) line old).instrs = omega (arith, longer (JumpIfFalse 0) line old) in
      let k : length old.instrs < length mid.instrs = omega (arith, m) in
      let aimed : Emits a again first there =
      subst (λ x. Emits a again x there) (aim_last JumpIfFalse goal line old) (emits_aimed a (length old.instrs) (JumpIfFalse goal) line (with_instr (JumpIfFalse 0) line old) mid l f) in
      let same : length there.instrs ≡ length mid.instrs = length-set mid.instrs (length old.instrs) (instr (JumpIfFalse goal) line) in
      let open_is : with_aim (length old.instrs) (JumpIfFalse goal) line (with_instr (Jump 0) line mid) ≡ with_instr (Jump 0) line there =
      three (set-append_left mid.instrs (instr (Jump 0) line ∷ []) (length old.instrs) (instr (JumpIfFalse goal) line) k) refl refl in
      let both : Emits (past line a b) again first (landed (length there.instrs ∷ []) new) = emits_past line a b first there new s t aimed (subst (λ x. Emits b again x new) open_is g) in
      emits_then (ahead JumpIfFalse (a.size + 1) line) (past line a b) old first (landed (length mid.instrs ∷ []) new) (sized_ahead JumpIfFalse (a.size + 1) line) (emits_ahead JumpIfFalse (a.size + 1) line goal old n)
      (subst (λ p. Emits (past line a b) again first (landed (p ∷ []) new)) same both)
