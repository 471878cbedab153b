-- Loops, ranges and ways that end behind what comes next.
use Rattle.std.proofs.Common.{◌≡◌, ℕ, ◌+◌, ◌-◌, ◌<◌, List, [], ◌∷◌, ◌++◌, length, refl, sym, ap, subst, ◌∙◌, arith, append_assoc, length-append}
use Rattle.std.proofs.lemmas.List.{append-nil, set_at, set-append_left}
use Rattle.stack_code.specs.declared.code.Range.{Range}
use Rattle.stack_code.specs.declared.op.Op.{Op}
use Rattle.stack_code.specs.declared.op.Op.TheVariants.{Jump, JumpIfFalse}
use Rattle.tree_code.specs.declared.instr.Instr.{Instr}
use Rattle.tree_code.specs.Pieces.{Piece, Labels, instr, nothing, one, ◌⨾◌, go_out, past, fork, loop, guarded}
use Rattle.expr_compile.specs.Emitted.{Emitted, with_piece, with_instr, with_aim}
use Rattle.tree_code.specs.Standing.{IsSized}
use Rattle.block_compile.specs.Emits.{AreLeaves, labelled, with_open, Emits, Begins, EndsOpen}
use Rattle.expr_compile.specs.Jumps.{turn, turned, landed, with_leave, left, with_range}
use Rattle.block_compile.proofs.Emitting.{three, turn_at, length-turned, sized_then, sized_one, longer, emits_piece, emits_one, emits_then, emits_past, emits_fork, emitted_length, emits_elsewhere}

-- ---- pieces without jumps out of loops

pub piece_then : (a b : Piece) (labels : Labels) (e : Emitted) → IsSized a → with_piece b labels (with_piece a labels e) ≡ with_piece (a ⨾ b) labels e
piece_then a b labels e s =
    let c : List Instr = a.code labels (length e.instrs) in
    let n : length (e.instrs ++ c) ≡ length e.instrs + a.size = length-append e.instrs c ∙ ap (λ k. length e.instrs + k) (s labels (length e.instrs)) in
    ap (λ k. record { instrs = (e.instrs ++ c) ++ b.code labels k; ranges = (e.ranges ++ a.ranges (length e.instrs)) ++ b.ranges k; leaves = e.leaves }) n
    ∙ three (append_assoc e.instrs c (b.code labels (length e.instrs + a.size))) (append_assoc e.ranges (a.ranges (length e.instrs)) (b.ranges (length e.instrs + a.size))) refl

pub piece_one : (op : Op) (line : ℕ) (labels : Labels) (e : Emitted) → with_instr op line e ≡ with_piece (one op line) labels e
piece_one op line labels e = three refl (sym (append-nil e.ranges)) refl

pub piece_nothing : (labels : Labels) (e : Emitted) → e ≡ with_piece nothing labels e
piece_nothing labels e = three (sym (append-nil e.instrs)) (sym (append-nil e.ranges)) refl

-- ---- loops

pub emits_leave : (again line : ℕ) (e : Emitted) → Emits (go_out line) again e (with_leave line e)
emits_leave again line e =
    record {
      leaves = length e.instrs ∷ [];
      adds = three refl (sym (append-nil e.ranges)) refl;
      aims = λ before after out is. ap (λ p. turn out p (before ++ (instr (Jump 0) line ∷ after))) (sym is) ∙ turn_at out before (instr (Jump 0) line) after;
    }

module _ (leave : ℕ → Op) (line : ℕ) (test body : Piece) where
  -- the code behind the test, once the loop is closed
  abbrev looped : Emitted → ℕ → ℕ → Emitted
  looped e again goal =
      record {
        instrs = e.instrs ++ (instr (leave goal) line ∷ (labelled body again (length e.instrs + 1) goal ++ instr (Jump again) line ∷ []));
        ranges = e.ranges ++ body.ranges (length e.instrs + 1);
        leaves = e.leaves;
      }

  -- what the loop leaves in the buffer: the jump back, the jumps out of it, and the jump of its test
  abbrev closes : Emitted → ℕ → Emitted → Emitted
  closes tested again inside =
      let whole : Emitted = left tested.leaves (with_instr (Jump again) line inside) in
      with_aim (length tested.instrs) (leave (length whole.instrs)) line whole

  closes_open : (tested : Emitted) (again : ℕ) (leaves : List ℕ) → IsSized body → AreLeaves leaves (labelled body again (length tested.instrs + 1)) (length tested.instrs + 1) →
      closes tested again (with_open body again leaves (record (with_instr (leave 0) line tested) { leaves = [] })) ≡ looped tested again (length tested.instrs + 1 + body.size + 1)
  closes_open tested again leaves s aims =
      let place : ℕ = length tested.instrs + 1 in
      let goal : ℕ = place + body.size + 1 in
      let open_test : List Instr = tested.instrs ++ instr (leave 0) line ∷ [] in
      let at : length open_test ≡ place = length-append tested.instrs (instr (leave 0) line ∷ []) in
      let code : ℕ → List Instr = labelled body again place in
      let jump : List Instr = instr (Jump again) line ∷ [] in
      let long : length ((open_test ++ code 0) ++ jump) ≡ goal =
      length-append (open_test ++ code 0) jump ∙ ap (λ n. n + 1) (length-append open_test (code 0) ∙ ap (λ n. n + length (code 0)) at ∙ ap (λ n. place + n) (s (record { again = again; out = 0 }) place)) in
      let turns : turned goal leaves ((open_test ++ code 0) ++ jump) ≡ open_test ++ (code goal ++ jump) = ap (turned goal leaves) (append_assoc open_test (code 0) jump) ∙ aims open_test jump goal at in
      ap (λ p. closes tested again (record { instrs = open_test ++ labelled body again p 0; ranges = tested.ranges ++ body.ranges p; leaves = leaves })) at
      ∙ ap (λ n. with_aim (length tested.instrs) (leave n) line (left tested.leaves (record { instrs = (open_test ++ code 0) ++ jump; ranges = tested.ranges ++ body.ranges place; leaves = leaves })))
      (length-turned (length ((open_test ++ code 0) ++ jump)) leaves ((open_test ++ code 0) ++ jump) ∙ long)
      ∙ ap (λ n. with_aim (length tested.instrs) (leave goal) line (record { instrs = turned n leaves ((open_test ++ code 0) ++ jump); ranges = tested.ranges ++ body.ranges place; leaves = tested.leaves })) long
      ∙ ap (λ is. with_aim (length tested.instrs) (leave goal) line (record { instrs = is; ranges = tested.ranges ++ body.ranges place; leaves = tested.leaves })) (turns ∙ append_assoc tested.instrs (instr (leave 0) line ∷ []) (code goal ++ jump))
      ∙ three (set_at tested.instrs (instr (leave 0) line) (code goal ++ jump) (instr (leave goal) line) (length tested.instrs) refl) refl refl

  looped_is : (labels : Labels) (e : Emitted) → IsSized test → looped (with_piece test labels e) (length e.instrs) (length (with_piece test labels e).instrs + 1 + body.size + 1) ≡ with_piece (loop leave line test body) labels e
  looped_is labels e s =
      let p : ℕ = length e.instrs in
      let c : List Instr = test.code labels p in
      let n : length (e.instrs ++ c) ≡ p + test.size = length-append e.instrs c ∙ ap (λ k. p + k) (s labels p) in
      let q : ℕ = p + test.size in
      let goal : q + 1 + body.size + 1 ≡ q + 1 + (body.size + 1) = omega arith in
      let start : p ≡ q + 1 - (test.size + 1) = omega arith in
      let start_again : p ≡ q + 1 + body.size - (test.size + 1 + body.size) = omega arith in
      let rest : List Instr = labelled body p (q + 1) (q + 1 + body.size + 1) ++ instr (Jump p) line ∷ [] in
      ap (λ k. record { instrs = (e.instrs ++ c) ++ (instr (leave (k + 1 + body.size + 1)) line ∷ (labelled body p (k + 1) (k + 1 + body.size + 1) ++ instr (Jump p) line ∷ [])); ranges = (e.ranges ++ test.ranges p) ++ body.ranges (k + 1); leaves = e.leaves }) n
      ∙ three (append_assoc e.instrs c (instr (leave (q + 1 + body.size + 1)) line ∷ rest)) (append_assoc e.ranges (test.ranges p) (body.ranges (q + 1))) refl
      ∙ three (
      ap (λ g. e.instrs ++ (c ++ (instr (leave g) line ∷ rest))) goal
      ∙ ap (λ g. e.instrs ++ (c ++ (instr (leave (q + 1 + (body.size + 1))) line ∷ (labelled body g (q + 1) (q + 1 + body.size + 1) ++ instr (Jump p) line ∷ [])))) start
      ∙ ap (λ g. e.instrs ++ (c ++ (instr (leave (q + 1 + (body.size + 1))) line ∷ (labelled body (q + 1 - (test.size + 1)) (q + 1) (q + 1 + body.size + 1) ++ instr (Jump g) line ∷ [])))) start_again
      ) (ap (λ rs. e.ranges ++ (test.ranges p ++ rs)) (sym (append-nil (body.ranges (q + 1))))) refl

  pub loop_emitted : (e tested inside : Emitted) → IsSized test → IsSized body → ((labels : Labels) → tested ≡ with_piece test labels e) →
      Emits body (length e.instrs) (record (with_instr (leave 0) line tested) { leaves = [] }) inside → (labels : Labels) → closes tested (length e.instrs) inside ≡ with_piece (loop leave line test body) labels e
  loop_emitted e tested inside s t is f labels =
      let at : length (with_instr (leave 0) line tested).instrs ≡ length tested.instrs + 1 = longer 0 (leave 0) line tested in
      ap (closes tested (length e.instrs)) f.adds
      ∙ closes_open tested (length e.instrs) f.leaves t (subst (λ n. AreLeaves f.leaves (labelled body (length e.instrs) n) n) at f.aims)
      ∙ ap (λ x. looped x (length e.instrs) (length x.instrs + 1 + body.size + 1)) (is labels)
      ∙ looped_is labels e s

-- ---- ranges

emits_ranged : (a : Piece) (again number : ℕ) (range : Range) (old new : Emitted) → number < length old.ranges → Emits a again old new → Emits a again (with_range number range old) (with_range number range new)
emits_ranged a again number range old new l f =
    let is : with_range number range new ≡ with_open a again f.leaves (with_range number range old) =
    ap (with_range number range) f.adds ∙ three refl (set-append_left old.ranges (a.ranges (length old.instrs)) number range l) refl in
    subst (λ x. Emits a again (with_range number range old) x) (sym is) (emits_elsewhere again a old new (with_range number range old) f refl)

-- `body otherwise Jump E H: handling E:`, with the range of the body
pub emits_guarded : (depth line again : ℕ) (body otherwise handling : Piece) (unset : Range) (old mid ready new : Emitted) → IsSized body → IsSized otherwise → IsSized handling
    → Emits body again (record old { ranges = old.ranges ++ unset ∷ [] }) mid → Emits otherwise again mid ready
    → Emits handling again (with_range (length old.ranges) (record { first = length old.instrs; past = length mid.instrs; goal = length (with_instr (Jump 0) line ready).instrs; depth = depth }) (with_instr (Jump 0) line ready)) new
    → Emits (guarded depth line body otherwise handling) again old (landed (length ready.instrs ∷ []) new)
emits_guarded depth line again body otherwise handling unset old mid ready new s t u f g h =
    let number : ℕ = length old.ranges in
    let begun : Emitted = record old { ranges = old.ranges ++ unset ∷ [] } in
    let range : Range = record { first = length old.instrs; past = length mid.instrs; goal = length (with_instr (Jump 0) line ready).instrs; depth = depth } in
    let set_range : Emitted → Emitted = with_range number range in
    let l : number < length begun.ranges = omega (arith, length-append old.ranges (unset ∷ [])) in
    let k : number < length mid.ranges = omega (arith, l, ap (λ (x : Emitted). length x.ranges) f.adds, length-append begun.ranges (body.ranges (length old.instrs))) in
    let first : Emits body again (set_range begun) (set_range mid) = emits_ranged body again number range begun mid l f in
    let second : Emits otherwise again (set_range mid) (set_range ready) = emits_ranged otherwise again number range mid ready k g in
    let both : Emits (body ⨾ otherwise) again (set_range begun) (set_range ready) = emits_then again body otherwise (set_range begun) (set_range mid) (set_range ready) s first second in
    let whole : Emits (past line (body ⨾ otherwise) handling) again (set_range begun) (landed (length ready.instrs ∷ []) new) = emits_past again line (body ⨾ otherwise) handling (set_range begun) (set_range ready) new (sized_then body otherwise s t) u both h in
    let m : length mid.instrs ≡ length old.instrs + body.size = emitted_length again body begun mid s f in
    let n : length (with_instr (Jump 0) line ready).instrs ≡ length old.instrs + body.size + otherwise.size + 1 = longer again (Jump 0) line ready ∙ ap (λ k. k + 1) (emitted_length again otherwise mid ready t g ∙ ap (λ k. k + otherwise.size) m) in
    let others : List Range = (past line (body ⨾ otherwise) handling).ranges (length old.instrs) in
    record {
      leaves = whole.leaves;
      adds =
          whole.adds
          ∙ three refl (
          ap (λ rs. rs ++ others) (set_at old.ranges unset [] range number refl)
          ∙ append_assoc old.ranges (range ∷ []) others
          ∙ ap (λ p. old.ranges ++ (record { first = length old.instrs; past = p; goal = length (with_instr (Jump 0) line ready).instrs; depth = depth } ∷ others)) m
          ∙ ap (λ p. old.ranges ++ (record { first = length old.instrs; past = length old.instrs + body.size; goal = p; depth = depth } ∷ others)) n
          ) refl;
      aims = whole.aims;
    }

-- ---- ways that end behind what comes next

pub arm_begins : (line again : ℕ) (test body : Piece) (old tested mid : Emitted) → IsSized test → IsSized body → ((labels : Labels) → tested ≡ with_piece test labels old) → Emits body again (with_instr (JumpIfFalse 0) line tested) mid
    → Begins (λ rest. test ⨾ fork line body rest) again old (with_aim (length tested.instrs) (JumpIfFalse (length (with_instr (Jump 0) line mid).instrs)) line (with_instr (Jump 0) line mid)) (length mid.instrs)
arm_begins line again test body old tested mid s t is f rest done u g =
    emits_then again test (fork line body rest) old tested (landed (length mid.instrs ∷ []) done) s (emits_piece again test old tested is) (emits_fork again line body rest tested mid done t u f g)

-- a clause with no class, and one with a class
pub bare_begins : (line again : ℕ) (body : Piece) (old new : Emitted) (end : ℕ) → IsSized body → EndsOpen body line again old new end → Begins (λ rest. past line body rest) again old new end
bare_begins line again body old new end s o rest done u g =
    let g' : Emits rest again (with_instr (Jump 0) line o.mid) done = subst (λ x. Emits rest again x done) o.jumps g in
    subst (λ p. Emits (past line body rest) again old (landed (p ∷ []) done)) (sym o.stands) (emits_past again line body rest old o.mid done s u o.emits g')

pub clause_begins : (line again : ℕ) (test body : Piece) (op : Op) (old tested opened : Emitted) (end : ℕ) → IsSized test → IsSized body → ((labels : Labels) → tested ≡ with_piece test labels old)
    → EndsOpen body line again (with_instr (JumpIfFalse 0) line (with_instr op line tested)) opened end
    → Begins (λ rest. test ⨾ one op line ⨾ fork line body rest) again old (with_aim (length (with_instr op line tested).instrs) (JumpIfFalse (length opened.instrs)) line opened) end
clause_begins line again test body op old tested opened end s t is o rest done u g =
    let matched : Emitted = with_instr op line tested in
    let same : with_aim (length matched.instrs) (JumpIfFalse (length opened.instrs)) line opened ≡ with_aim (length matched.instrs) (JumpIfFalse (length (with_instr (Jump 0) line o.mid).instrs)) line (with_instr (Jump 0) line o.mid) =
    ap (λ (x : Emitted). with_aim (length matched.instrs) (JumpIfFalse (length x.instrs)) line x) o.jumps in
    let way : Emits (fork line body rest) again matched (landed (length o.mid.instrs ∷ []) done) =
    emits_fork again line body rest matched o.mid done t u o.emits (subst (λ x. Emits rest again x done) same g) in
    let both : Emits (one op line ⨾ fork line body rest) again tested (landed (length o.mid.instrs ∷ []) done) =
    emits_then again (one op line) (fork line body rest) tested matched (landed (length o.mid.instrs ∷ []) done) (sized_one op line) (emits_one again op line tested) way in
    subst (λ p. Emits (test ⨾ one op line ⨾ fork line body rest) again old (landed (p ∷ []) done)) (sym o.stands)
    (emits_then again test (one op line ⨾ fork line body rest) old tested (landed (length o.mid.instrs ∷ []) done) s (emits_piece again test old tested is) both)
