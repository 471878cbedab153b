-- An expression takes a run from its first place to the place behind it, with its value on the stack.
use Rattle.std.proofs.Common.{◌≡◌, ℕ, suc, ◌+◌, true, not, Option, Some, None, List, [], ◌∷◌, map, length, refl, sym, ap, subst, arith}
use Rattle.py_tree.specs.declared.literal.Literal.TheVariants as literal
use Rattle.py_tree.specs.Tree as tree
use Rattle.py_tree.specs.Tree.{Expr, node, Exprs, no_exprs, expr, Bound, no_bound, bound, Args, no_args, arg, Pairs, no_pairs, pair}
use Rattle.stack_code.specs.declared.op.Op.{Op}
use Rattle.stack_code.specs.declared.op.Op.TheVariants as op
use Rattle.stack_code.specs.Effects.{may_raise}
use Rattle.tree_code.specs.Names.{load, load_at}
use Rattle.tree_code.specs.Pieces.{Piece, one, ◌⨾◌, over, fork}
use Rattle.tree_code.specs.Expressions.{count, pair_count, value, values, bound_value, arguments, pairs, positionals, keywords}
use Rattle.tree_code.specs.Standing.{IsSolid}
use Rattle.tree_code.proofs.Solid.{one_solid, then_solid, over_solid, fork_solid}
use Rattle.tree_code.proofs.SolidTrees.{value_solid, values_solid, bound_solid, arguments_solid, pairs_solid}
use Rattle.tree_code.proofs.Parts.{ThenLies, then_lies, OverLies, over_lies, ForkLies, fork_lies, op_lies}
use Rattle.scope_rules.specs.NameLists.{place_of}
use Rattle.py_meaning.specs.Values.{Value, literal_value, truth}
use Rattle.py_meaning.specs.Objects as object
use Rattle.py_meaning.specs.Programs.{Program}
use Rattle.py_meaning.specs.Truth.{truth_of}
use Rattle.py_meaning.specs.Operators.{binary, unary, compare}
use Rattle.py_meaning.specs.Subscripts.{read_item, read_slice}
use Rattle.py_meaning.specs.Attributes.{read_attribute}
use Rattle.py_meaning.specs.Names.{value_in_frame}
use Rattle.py_meaning.specs.Expressions.{call_value, super_in, eval, eval_all, eval_bound, eval_args, eval_pairs}
use Rattle.py_meaning.specs.Actions as actions
use Rattle.py_meaning.specs.Actions.{Memory, Argument, Action, gives, looks, bind, then_do, allocate}
use Rattle.py_meaning.specs.Holds.{Post, Holds}
use Rattle.py_meaning.proofs.Holding.{holds_bind, holds_map}
use Rattle.tree_covering.specs.Trails.{Trail, pushed, pushed_pairs, Around, LiesIn, OpIn, At, ValueAt, SentOver}
use Rattle.tree_covering.specs.Turns.{account}
use Rattle.tree_covering.specs.Follows.{names_of, ChoiceAt, Follows}
use Rattle.tree_covering.proofs.Going.{seq_over, at_to, value_to, sunk, may_give, holds_chosen, holds_and, holds_or}

pub load_may : (n : ℕ) (local : Option ℕ) → may_raise (load_at n local) ≡ true
load_may n None = refl
load_may n (Some local) = refl

module _ (t : Trail) where
  -- where two pieces stand one after the other
  abbrev pub Both : Around t → ℕ → Piece → Piece → Type 0
  Both x place a b = ThenLies (t.code x.context) x.labels place x.outer a b

  abbrev pub code_of : Around t → Expr → Piece
  code_of x e = value (t.locals x.context) e

  -- ---- what each kind of expression does

  module _ (p : Program) where
    abbrev pub ValueGoes : Expr → Type 0
    ValueGoes e =
        (x : Around t) (place to : ℕ) (stack : List Value) (g : t.Kept) (m : Memory) → place + (value (t.locals x.context) e).size ≡ to → LiesIn t x place (value (t.locals x.context) e) → At t x place stack g m →
        Holds (account t) (ValueAt t x to stack) (SentOver t x stack) g m (eval p e)

    -- all values of some expressions, in their order
    abbrev pub ValuesAt : Around t → Exprs → ℕ → List Value → t.Kept → Memory → List Value → Type 0
    ValuesAt x xs to stack g m vs = (length vs ≡ count xs) × At t x to (pushed vs stack) g m

    abbrev pub PairsAt : Around t → Pairs → ℕ → List Value → t.Kept → Memory → List (Value × Value) → Type 0
    PairsAt x ps to stack g m qs = (length qs ≡ pair_count ps) × At t x to (pushed_pairs qs stack) g m

    abbrev pub ArgumentsAt : Around t → Args → ℕ → List Value → t.Kept → Memory → List Argument → Type 0
    ArgumentsAt x xs to stack g m given = (map (λ a. a.name) given ≡ names_of xs) × At t x to (pushed (map (λ a. a.value) given) stack) g m

    -- some value
    abbrev pub BoundAt : Around t → ℕ → List Value → t.Kept → Memory → Unit {0} → Type 0
    BoundAt x to stack g m u = (v : Value) × At t x to (v ∷ stack) g m

  module _ (p : Program) (steps : Follows t p) where
    -- two operands, and what comes behind them
    pub operands_go : {B : Type 0} (a b : Expr) → ValueGoes p a → ValueGoes p b → (rest : Piece) (x : Around t) (Q : Post (account t) B) (f : Value → Value → Action B) (place : ℕ) (stack : List Value) (g : t.Kept) (m : Memory) → IsSolid rest →
        LiesIn t x place (code_of x a ⨾ code_of x b ⨾ rest) → At t x place stack g m →
        ((v w : Value) (g' : t.Kept) (m' : Memory) → LiesIn t x (place + (code_of x a).size + (code_of x b).size) rest → At t x (place + (code_of x a).size + (code_of x b).size) (w ∷ v ∷ stack) g' m' → Holds (account t) Q (SentOver t x stack) g' m' (f v w)) →
        Holds (account t) Q (SentOver t x stack) g m (bind (eval p a) (λ v. bind (eval p b) (f v)))
    operands_go a b ha hb rest x Q f place stack g m s l k more =
        let va : Piece = code_of x a in
        let vb : Piece = code_of x b in
        let sb : IsSolid vb = value_solid (t.locals x.context) b in
        let both : Both x place va (vb ⨾ rest) = then_lies (value_solid (t.locals x.context) a) (then_solid sb s) l in
        let others : Both x (place + va.size) vb rest = then_lies sb s both.second in
        holds_bind (account t) (ValueAt t x (place + va.size) stack) Q (SentOver t x stack) (eval p a) (λ v. bind (eval p b) (f v)) g m (ha x place (place + va.size) stack g m refl both.first k) (λ v g1 m1 k1.
        seq_over t p steps (ValueAt t x (place + va.size + vb.size) (v ∷ stack)) (SentOver t x (v ∷ stack)) Q (SentOver t x stack) (eval p b) (f v) g1 m1 (hb x (place + va.size) (place + va.size + vb.size) (v ∷ stack) g1 m1 refl others.first k1)
        (λ u g' m' r. steps.sinks x stack v u g' m' r) (λ w g2 m2 k2. more v w g2 m2 others.second k2))

    -- one operand, and an instruction behind it
    operand_goes : (a : Expr) → ValueGoes p a → (o : Op) (line : ℕ) (f : Value → Action Value) (x : Around t) (place to : ℕ) (stack : List Value) (g : t.Kept) (m : Memory) → place + (code_of x a ⨾ one o line).size ≡ to →
        LiesIn t x place (code_of x a ⨾ one o line) → At t x place stack g m →
        ((q : ℕ) (v : Value) (g' : t.Kept) (m' : Memory) → suc q ≡ to → OpIn t x q o line → At t x q (v ∷ stack) g' m' → Holds (account t) (ValueAt t x to stack) (SentOver t x stack) g' m' (f v)) →
        Holds (account t) (ValueAt t x to stack) (SentOver t x stack) g m (bind (eval p a) f)
    operand_goes a ha o line f x place to stack g m e l k more =
        let va : Piece = code_of x a in
        let both : Both x place va (one o line) = then_lies (value_solid (t.locals x.context) a) (one_solid o line) l in
        holds_bind (account t) (ValueAt t x (place + va.size) stack) (ValueAt t x to stack) (SentOver t x stack) (eval p a) f g m (ha x place (place + va.size) stack g m refl both.first k) (λ v g1 m1 k1.
        more (place + va.size) v g1 m1 (omega (arith, e)) (op_lies both.second) k1)

    mutual
      pub value_goes : (e : Expr) → ValueGoes p e
      value_goes (node (tree.name n) line site) x place to stack g m e l k =
          may_give t p steps x (load (t.locals x.context) n) [] (λ line. looks (λ m. value_in_frame p m.scope n m.scope.frame)) (steps.loads x n) (load_may n (place_of (t.locals x.context) n)) place to line stack g m (omega (arith, e)) (op_lies l) k
      value_goes (node (tree.literal z) line site) x place to stack g m e l k = at_to t p steps x (suc place) to (literal_value z ∷ stack) g m (omega (arith, e)) (steps.constant x z place line stack g m (op_lies l) k)
      value_goes (node (tree.unary o a) line site) x place to stack g m e l k =
          operand_goes a (value_goes a) (op.Unary o) line (λ v. then_do actions.may_raise (unary o line v)) x place to stack g m e l k
          (λ q v g' m' e' l' k'. may_give t p steps x (op.Unary o) (v ∷ []) (λ line. unary o line v) (steps.does_unary x o v) refl q to line stack g' m' e' l' k')
      value_goes (node (tree.binary o a b) line site) x place to stack g m e l k =
          operands_go a b (value_goes a) (value_goes b) (one (op.Binary o site) line) x (ValueAt t x to stack) (λ v w. then_do actions.may_raise (binary p o site line v w)) place stack g m (one_solid (op.Binary o site) line) l k
          (λ v w g' m' l' k'. may_give t p steps x (op.Binary o site) (w ∷ v ∷ []) (λ line. binary p o site line v w) (steps.does_binary x o site v w) refl (place + (code_of x a).size + (code_of x b).size) to line stack g' m' (omega (arith, e)) (op_lies l') k')
      value_goes (node (tree.compare o a b) line site) x place to stack g m e l k =
          operands_go a b (value_goes a) (value_goes b) (one (op.Compare o) line) x (ValueAt t x to stack) (λ v w. then_do actions.may_raise (compare o line v w)) place stack g m (one_solid (op.Compare o) line) l k
          (λ v w g' m' l' k'. may_give t p steps x (op.Compare o) (w ∷ v ∷ []) (λ line. compare o line v w) (steps.compares x o v w) refl (place + (code_of x a).size + (code_of x b).size) to line stack g' m' (omega (arith, e)) (op_lies l') k')
      value_goes (node (tree.not a) line site) x place to stack g m e l k =
          operand_goes a (value_goes a) op.Not line (λ v. bind (truth_of v) (λ b. gives (truth (not b)))) x place to stack g m e l k
          (λ q v g' m' e' l' k'. value_to t p steps x (suc q) to stack (SentOver t x stack) (bind (truth_of v) (λ b. gives (truth (not b)))) g' m' e' (steps.inverts x v q line stack g' m' l' k'))
      value_goes (node (tree.and a b) line site) x place to stack g m e l k =
          let va : Piece = code_of x a in
          let vb : Piece = code_of x b in
          let sb : IsSolid vb = value_solid (t.locals x.context) b in
          let q : ℕ = place + va.size in
          let both : Both x place va (over op.JumpIfFalseKeep line vb) = then_lies (value_solid (t.locals x.context) a) (over_solid op.JumpIfFalseKeep line sb) l in
          let parts : OverLies (t.code x.context) x.labels q x.outer op.JumpIfFalseKeep line vb = over_lies op.JumpIfFalseKeep sb both.second in
          let end : ℕ = q + (over op.JumpIfFalseKeep line vb).size in
          holds_bind (account t) (ValueAt t x q stack) (ValueAt t x to stack) (SentOver t x stack) (eval p a) _ g m (value_goes a x place q stack g m refl both.first k) (λ v g1 m1 k1.
          holds_bind (account t) (ChoiceAt t x (suc q) end stack (v ∷ stack)) (ValueAt t x to stack) (SentOver t x stack) (truth_of v) _ g1 m1 (steps.keeps_if_false x q line end v stack g1 m1 parts.jumps k1) (λ z g2 m2 c.
          holds_and t p steps (ValueAt t x to stack) (SentOver t x stack) x (suc q) end stack v z (eval p b) g2 m2 c
          (λ k2. value_goes b x (q + 1) to stack g2 m2 (omega (arith, e)) parts.inner (at_to t p steps x (suc q) (q + 1) stack g2 m2 (omega arith) k2))
          (λ k2. at_to t p steps x end to (v ∷ stack) g2 m2 (omega (arith, e)) k2)))
      value_goes (node (tree.or a b) line site) x place to stack g m e l k =
          let va : Piece = code_of x a in
          let vb : Piece = code_of x b in
          let sb : IsSolid vb = value_solid (t.locals x.context) b in
          let q : ℕ = place + va.size in
          let both : Both x place va (over op.JumpIfTrueKeep line vb) = then_lies (value_solid (t.locals x.context) a) (over_solid op.JumpIfTrueKeep line sb) l in
          let parts : OverLies (t.code x.context) x.labels q x.outer op.JumpIfTrueKeep line vb = over_lies op.JumpIfTrueKeep sb both.second in
          let end : ℕ = q + (over op.JumpIfTrueKeep line vb).size in
          holds_bind (account t) (ValueAt t x q stack) (ValueAt t x to stack) (SentOver t x stack) (eval p a) _ g m (value_goes a x place q stack g m refl both.first k) (λ v g1 m1 k1.
          holds_bind (account t) (ChoiceAt t x end (suc q) (v ∷ stack) stack) (ValueAt t x to stack) (SentOver t x stack) (truth_of v) _ g1 m1 (steps.keeps_if_true x q line end v stack g1 m1 parts.jumps k1) (λ z g2 m2 c.
          holds_or t p steps (ValueAt t x to stack) (SentOver t x stack) x (suc q) end stack v z (eval p b) g2 m2 c
          (λ k2. value_goes b x (q + 1) to stack g2 m2 (omega (arith, e)) parts.inner (at_to t p steps x (suc q) (q + 1) stack g2 m2 (omega arith) k2))
          (λ k2. at_to t p steps x end to (v ∷ stack) g2 m2 (omega (arith, e)) k2)))
      value_goes (node (tree.choice a c b) line site) x place to stack g m e l k =
          let vc : Piece = code_of x c in
          let va : Piece = code_of x a in
          let vb : Piece = code_of x b in
          let sa : IsSolid va = value_solid (t.locals x.context) a in
          let sb : IsSolid vb = value_solid (t.locals x.context) b in
          let q : ℕ = place + vc.size in
          let both : Both x place vc (fork line va vb) = then_lies (value_solid (t.locals x.context) c) (fork_solid line sa sb) l in
          let parts : ForkLies (t.code x.context) x.labels q x.outer line va vb = fork_lies sa sb both.second in
          let other : ℕ = q + 1 + va.size + 1 in
          let end : ℕ = q + (fork line va vb).size in
          holds_bind (account t) (ValueAt t x q stack) (ValueAt t x to stack) (SentOver t x stack) (eval p c) _ g m (value_goes c x place q stack g m refl both.first k) (λ v g1 m1 k1.
          holds_bind (account t) (ChoiceAt t x (suc q) other stack stack) (ValueAt t x to stack) (SentOver t x stack) (truth_of v) _ g1 m1 (steps.leaves_if_false x q line other v stack g1 m1 parts.tests k1) (λ z g2 m2 h.
          holds_chosen t p steps (ValueAt t x to stack) (SentOver t x stack) x (suc q) other stack stack z (eval p a) (eval p b) g2 m2 h
          (λ k2. seq_last (q + 1 + va.size) (eval p a) g2 m2 (λ v g3 m3 k3. at_to t p steps x end to (v ∷ stack) g3 m3 (omega (arith, e)) (steps.jumps x (q + 1 + va.size) line end (v ∷ stack) g3 m3 parts.jumps k3))
          (value_goes a x (q + 1) (q + 1 + va.size) stack g2 m2 refl parts.first (at_to t p steps x (suc q) (q + 1) stack g2 m2 (omega arith) k2)))
          (λ k2. value_goes b x other to stack g2 m2 (omega (arith, e)) parts.second k2)))
        where
          seq_last : (q : ℕ) (a : Action Value) (g : t.Kept) (m : Memory) → ((v : Value) (g' : t.Kept) (m' : Memory) → At t x q (v ∷ stack) g' m' → At t x to (v ∷ stack) g' m') →
              Holds (account t) (ValueAt t x q stack) (SentOver t x stack) g m a → Holds (account t) (ValueAt t x to stack) (SentOver t x stack) g m a
          seq_last q a g m f h = holds_map (account t) (ValueAt t x q stack) (ValueAt t x to stack) (SentOver t x stack) (SentOver t x stack) a g m h (λ v g' m' k. f v g' m' k) (λ v g' m' r. r)
      value_goes (node (tree.attr a n) line site) x place to stack g m e l k =
          operand_goes a (value_goes a) (op.Attr n) line (λ v. then_do actions.may_raise (read_attribute p line v n)) x place to stack g m e l k
          (λ q v g' m' e' l' k'. may_give t p steps x (op.Attr n) (v ∷ []) (λ line. read_attribute p line v n) (steps.reads_attribute x n v) refl q to line stack g' m' e' l' k')
      value_goes (node (tree.super n) line site) x place to stack g m e l k =
          may_give t p steps x (op.Super n) [] (λ line. looks (λ m. super_in p line n m.scope.frame)) (steps.reads_super x n) refl place to line stack g m (omega (arith, e)) (op_lies l) k
      value_goes (node (tree.item a i) line site) x place to stack g m e l k =
          operands_go a i (value_goes a) (value_goes i) (one op.Item line) x (ValueAt t x to stack) (λ v w. then_do actions.may_raise (read_item p line v w)) place stack g m (one_solid op.Item line) l k
          (λ v w g' m' l' k'. may_give t p steps x op.Item (w ∷ v ∷ []) (λ line. read_item p line v w) (steps.reads_item x v w) refl (place + (code_of x a).size + (code_of x i).size) to line stack g' m' (omega (arith, e)) (op_lies l') k')
      value_goes (node (tree.slice a low high step) line site) x place to stack g m e l k =
          let ls : List ℕ = t.locals x.context in
          let va : Piece = code_of x a in
          let v1 : Piece = bound_value ls line low in
          let v2 : Piece = bound_value ls line high in
          let v3 : Piece = bound_value ls line step in
          let last : Piece = one (op.Slice site) line in
          let s1 : IsSolid v1 = bound_solid ls line low in
          let s2 : IsSolid v2 = bound_solid ls line high in
          let s3 : IsSolid v3 = bound_solid ls line step in
          let sl : IsSolid last = one_solid (op.Slice site) line in
          let q0 : ℕ = place + va.size in
          let q1 : ℕ = q0 + v1.size in
          let q2 : ℕ = q1 + v2.size in
          let q3 : ℕ = q2 + v3.size in
          let l0 : Both x place va (v1 ⨾ v2 ⨾ v3 ⨾ last) = then_lies (value_solid ls a) (then_solid s1 (then_solid s2 (then_solid s3 sl))) l in
          let l1 : Both x q0 v1 (v2 ⨾ v3 ⨾ last) = then_lies s1 (then_solid s2 (then_solid s3 sl)) l0.second in
          let l2 : Both x q1 v2 (v3 ⨾ last) = then_lies s2 (then_solid s3 sl) l1.second in
          let l3 : Both x q2 v3 last = then_lies s3 sl l2.second in
          let Q : Post (account t) Value = ValueAt t x to stack in
          let R : Post (account t) Value = SentOver t x stack in
          holds_bind (account t) (ValueAt t x q0 stack) Q R (eval p a) _ g m (value_goes a x place q0 stack g m refl l0.first k) (λ v g0 m0 k0.
          seq_over t p steps (BoundAt p x q1 (v ∷ stack)) (SentOver t x (v ∷ stack)) Q R (eval_bound p low) _ g0 m0 (bound_goes low x line q0 q1 (v ∷ stack) g0 m0 refl l1.first k0) (λ u g' m' r. sunk t p steps x (v ∷ []) stack u g' m' r) (λ y1 g1 m1 k1.
          seq_over t p steps (BoundAt p x q2 (k1.0 ∷ v ∷ stack)) (SentOver t x (k1.0 ∷ v ∷ stack)) Q R (eval_bound p high) _ g1 m1 (bound_goes high x line q1 q2 (k1.0 ∷ v ∷ stack) g1 m1 refl l2.first k1.1) (λ u g' m' r. sunk t p steps x (k1.0 ∷ v ∷ []) stack u g' m' r) (λ y2 g2 m2 k2.
          seq_over t p steps (BoundAt p x q3 (k2.0 ∷ k1.0 ∷ v ∷ stack)) (SentOver t x (k2.0 ∷ k1.0 ∷ v ∷ stack)) Q R (eval_bound p step) _ g2 m2 (bound_goes step x line q2 q3 (k2.0 ∷ k1.0 ∷ v ∷ stack) g2 m2 refl l3.first k2.1) (λ u g' m' r. sunk t p steps x (k2.0 ∷ k1.0 ∷ v ∷ []) stack u g' m' r) (λ y3 g3 m3 k3.
          may_give t p steps x (op.Slice site) (k3.0 ∷ k2.0 ∷ k1.0 ∷ v ∷ []) (λ line. read_slice p site line v) (steps.reads_slice x site v k1.0 k2.0 k3.0) refl q3 to line stack g3 m3 (omega (arith, e)) (op_lies l3.second) k3.1))))
      value_goes (node (tree.call f xs) line site) x place to stack g m e l k =
          let ls : List ℕ = t.locals x.context in
          let vf : Piece = code_of x f in
          let va : Piece = arguments ls xs in
          let o = op.Call (positionals xs) (keywords xs) site in
          let q : ℕ = place + vf.size in
          let l0 : Both x place vf (va ⨾ one o line) = then_lies (value_solid ls f) (then_solid (arguments_solid ls xs) (one_solid o line)) l in
          let l1 : Both x q va (one o line) = then_lies (arguments_solid ls xs) (one_solid o line) l0.second in
          holds_bind (account t) (ValueAt t x q stack) (ValueAt t x to stack) (SentOver t x stack) (eval p f) _ g m (value_goes f x place q stack g m refl l0.first k) (λ v g0 m0 k0.
          seq_over t p steps (ArgumentsAt p x xs (q + va.size) (v ∷ stack)) (SentOver t x (v ∷ stack)) (ValueAt t x to stack) (SentOver t x stack) (eval_args p xs) _ g0 m0 (arguments_go xs x q (q + va.size) (v ∷ stack) g0 m0 refl l1.first k0) (λ u g' m' r. steps.sinks x stack v u g' m' r) (λ given g1 m1 k1.
          value_to t p steps x (suc (q + va.size)) to stack (SentOver t x stack) (call_value v given site line) g1 m1 (omega (arith, e)) (steps.calls x (q + va.size) line site xs given v stack g1 m1 k1.0 (op_lies l1.second) k1.1)))
      value_goes (node (tree.tuple xs) line site) x place to stack g m e l k =
          let ls : List ℕ = t.locals x.context in
          let q : ℕ = place + (values ls xs).size in
          let both : Both x place (values ls xs) (one (op.NewTuple (count xs) site) line) = then_lies (values_solid ls xs) (one_solid (op.NewTuple (count xs) site) line) l in
          holds_bind (account t) (ValuesAt p x xs q stack) (ValueAt t x to stack) (SentOver t x stack) (eval_all p xs) _ g m (values_go xs x place q stack g m refl both.first k) (λ vs g1 m1 k1.
          value_to t p steps x (suc q) to stack (SentOver t x stack) (allocate (object.tuple site object.places vs)) g1 m1 (omega (arith, e)) (steps.makes_tuple x q line site vs stack g1 m1 (subst (λ n. OpIn t x q (op.NewTuple n site) line) (sym k1.0) (op_lies both.second)) k1.1))
      value_goes (node (tree.list xs) line site) x place to stack g m e l k =
          let ls : List ℕ = t.locals x.context in
          let q : ℕ = place + (values ls xs).size in
          let both : Both x place (values ls xs) (one (op.NewList (count xs) site) line) = then_lies (values_solid ls xs) (one_solid (op.NewList (count xs) site) line) l in
          holds_bind (account t) (ValuesAt p x xs q stack) (ValueAt t x to stack) (SentOver t x stack) (eval_all p xs) _ g m (values_go xs x place q stack g m refl both.first k) (λ vs g1 m1 k1.
          value_to t p steps x (suc q) to stack (SentOver t x stack) (allocate (object.list site vs)) g1 m1 (omega (arith, e)) (steps.makes_list x q line site vs stack g1 m1 (subst (λ n. OpIn t x q (op.NewList n site) line) (sym k1.0) (op_lies both.second)) k1.1))
      value_goes (node (tree.dict ps) line site) x place to stack g m e l k =
          let ls : List ℕ = t.locals x.context in
          let q : ℕ = place + (pairs ls ps).size in
          let both : Both x place (pairs ls ps) (one (op.NewDict (pair_count ps) site) line) = then_lies (pairs_solid ls ps) (one_solid (op.NewDict (pair_count ps) site) line) l in
          holds_bind (account t) (PairsAt p x ps q stack) (ValueAt t x to stack) (SentOver t x stack) (eval_pairs p ps) _ g m (pairs_go ps x place q stack g m refl both.first k) (λ qs g1 m1 k1.
          value_to t p steps x (suc q) to stack (SentOver t x stack) (allocate (object.dict site qs)) g1 m1 (omega (arith, e)) (steps.makes_dict x q line site qs stack g1 m1 (subst (λ n. OpIn t x q (op.NewDict n site) line) (sym k1.0) (op_lies both.second)) k1.1))

      values_go : (xs : Exprs) (x : Around t) (place to : ℕ) (stack : List Value) (g : t.Kept) (m : Memory) → place + (values (t.locals x.context) xs).size ≡ to → LiesIn t x place (values (t.locals x.context) xs) → At t x place stack g m →
          Holds (account t) (ValuesAt p x xs to stack) (SentOver t x stack) g m (eval_all p xs)
      values_go no_exprs x place to stack g m e l k = (refl, at_to t p steps x place to stack g m (omega (arith, e)) k)
      values_go (expr a xs) x place to stack g m e l k =
          let ls : List ℕ = t.locals x.context in
          let va : Piece = code_of x a in
          let q : ℕ = place + va.size in
          let both : Both x place va (values ls xs) = then_lies (value_solid ls a) (values_solid ls xs) l in
          holds_bind (account t) (ValueAt t x q stack) (ValuesAt p x (expr a xs) to stack) (SentOver t x stack) (eval p a) _ g m (value_goes a x place q stack g m refl both.first k) (λ v g1 m1 k1.
          seq_over t p steps (ValuesAt p x xs to (v ∷ stack)) (SentOver t x (v ∷ stack)) (ValuesAt p x (expr a xs) to stack) (SentOver t x stack) (eval_all p xs) _ g1 m1 (values_go xs x q to (v ∷ stack) g1 m1 (omega (arith, e)) both.second k1) (λ u g' m' r. steps.sinks x stack v u g' m' r)
          (λ vs g2 m2 k2. (ap suc k2.0, k2.1)))

      bound_goes : (b : Bound) (x : Around t) (line place to : ℕ) (stack : List Value) (g : t.Kept) (m : Memory) → place + (bound_value (t.locals x.context) line b).size ≡ to → LiesIn t x place (bound_value (t.locals x.context) line b) → At t x place stack g m →
          Holds (account t) (BoundAt p x to stack) (SentOver t x stack) g m (eval_bound p b)
      bound_goes no_bound x line place to stack g m e l k = (literal_value literal.NoneValue, at_to t p steps x (suc place) to (literal_value literal.NoneValue ∷ stack) g m (omega (arith, e)) (steps.constant x literal.NoneValue place line stack g m (op_lies l) k))
      bound_goes (bound a) x line place to stack g m e l k = holds_bind (account t) (ValueAt t x to stack) (BoundAt p x to stack) (SentOver t x stack) (eval p a) _ g m (value_goes a x place to stack g m e l k) (λ v g1 m1 k1. (v, k1))

      arguments_go : (xs : Args) (x : Around t) (place to : ℕ) (stack : List Value) (g : t.Kept) (m : Memory) → place + (arguments (t.locals x.context) xs).size ≡ to → LiesIn t x place (arguments (t.locals x.context) xs) → At t x place stack g m →
          Holds (account t) (ArgumentsAt p x xs to stack) (SentOver t x stack) g m (eval_args p xs)
      arguments_go no_args x place to stack g m e l k = (refl, at_to t p steps x place to stack g m (omega (arith, e)) k)
      arguments_go (arg n a xs) x place to stack g m e l k =
          let ls : List ℕ = t.locals x.context in
          let va : Piece = code_of x a in
          let q : ℕ = place + va.size in
          let both : Both x place va (arguments ls xs) = then_lies (value_solid ls a) (arguments_solid ls xs) l in
          holds_bind (account t) (ValueAt t x q stack) (ArgumentsAt p x (arg n a xs) to stack) (SentOver t x stack) (eval p a) _ g m (value_goes a x place q stack g m refl both.first k) (λ v g1 m1 k1.
          seq_over t p steps (ArgumentsAt p x xs to (v ∷ stack)) (SentOver t x (v ∷ stack)) (ArgumentsAt p x (arg n a xs) to stack) (SentOver t x stack) (eval_args p xs) _ g1 m1 (arguments_go xs x q to (v ∷ stack) g1 m1 (omega (arith, e)) both.second k1) (λ u g' m' r. steps.sinks x stack v u g' m' r)
          (λ given g2 m2 k2. (ap (λ ns. n ∷ ns) k2.0, k2.1)))

      pairs_go : (ps : Pairs) (x : Around t) (place to : ℕ) (stack : List Value) (g : t.Kept) (m : Memory) → place + (pairs (t.locals x.context) ps).size ≡ to → LiesIn t x place (pairs (t.locals x.context) ps) → At t x place stack g m →
          Holds (account t) (PairsAt p x ps to stack) (SentOver t x stack) g m (eval_pairs p ps)
      pairs_go no_pairs x place to stack g m e l k = (refl, at_to t p steps x place to stack g m (omega (arith, e)) k)
      pairs_go (pair a b ps) x place to stack g m e l k =
          operands_go a b (value_goes a) (value_goes b) (pairs (t.locals x.context) ps) x (PairsAt p x (pair a b ps) to stack) (λ v w. bind (eval_pairs p ps) (λ vs. gives ((v, w) ∷ vs))) place stack g m (pairs_solid (t.locals x.context) ps) l k (λ v w g' m' l' k'.
          seq_over t p steps (PairsAt p x ps to (w ∷ v ∷ stack)) (SentOver t x (w ∷ v ∷ stack)) (PairsAt p x (pair a b ps) to stack) (SentOver t x stack) (eval_pairs p ps) _ g' m' (pairs_go ps x (place + (code_of x a).size + (code_of x b).size) to (w ∷ v ∷ stack) g' m' (omega (arith, e)) l' k')
          (λ u g2 m2 r. sunk t p steps x (w ∷ v ∷ []) stack u g2 m2 r) (λ qs g2 m2 k2. (ap suc k2.0, k2.1)))
