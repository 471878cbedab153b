-- Targets take the value on the top off the stack, and imports leave it as it was.
use Rattle.std.proofs.Common.{◌≡◌, ℕ, zero, suc, ◌+◌, Option, Some, None, List, [], ◌∷◌, ◌++◌, length, refl, sym, ap, subst, arith}
use Rattle.std.specs.Option.{option_and_then}
use Rattle.place_ids.specs.declared.operators.BinOp.{BinOp}
use Rattle.py_tree.specs.Tree as tree
use Rattle.py_tree.specs.Tree.{Expr, node, Exprs, no_exprs, expr, ImportPart, FromPart}
use Rattle.stack_code.specs.declared.op.Op.{Op}
use Rattle.stack_code.specs.declared.op.Op.TheVariants as op
use Rattle.tree_code.specs.Names.{load, store}
use Rattle.tree_code.specs.Pieces.{Piece, one, ◌⨾◌}
use Rattle.tree_code.specs.Expressions.{count, parts, put, puts}
use Rattle.tree_code.specs.Statements.{put_all, augmented, annotates, first_of, bound_by, imports, froms}
use Rattle.tree_code.specs.Standing.{IsSolid}
use Rattle.tree_code.proofs.Solid.{one_solid, then_solid}
use Rattle.tree_code.proofs.SolidTrees.{value_solid, parts_solid, put_solid, puts_solid, put_all_solid, imports_solid, froms_solid}
use Rattle.tree_code.proofs.Parts.{then_lies, op_lies}
use Rattle.py_meaning.specs.Values.{Value}
use Rattle.py_meaning.specs.Programs.{Program, text_at}
use Rattle.py_meaning.specs.StubItems.{stub_at, item_in}
use Rattle.py_meaning.specs.Subscripts.{store_item, unpack_one, unpack_from, read_item}
use Rattle.py_meaning.specs.Attributes.{read_attribute, store_attribute}
use Rattle.py_meaning.specs.Names.{value_in_frame}
use Rattle.py_meaning.specs.Names as names
use Rattle.py_meaning.specs.Expressions.{eval}
use Rattle.py_meaning.specs.Targets as targets
use Rattle.py_meaning.specs.Targets.{count_of, in_place, put_each, augment}
use Rattle.py_meaning.specs.Imports.{module_name, module_value, imported_item, bound_name, store_if, import_one, import_all, take_one, take_all}
use Rattle.py_meaning.specs.Statements.{annotation}
use Rattle.py_meaning.specs.Actions as actions
use Rattle.py_meaning.specs.Actions.{Memory, Action, looks, bind, then_do, done}
use Rattle.py_meaning.specs.Holds.{Post, Holds}
use Rattle.py_meaning.proofs.Holding.{holds_bind, holds_map}
use Rattle.tree_covering.specs.Trails.{Trail, Around, LiesIn, OpIn, At, ValueAt, DoneAt, SentOver}
use Rattle.tree_covering.specs.Turns.{account}
use Rattle.tree_covering.specs.Follows.{Follows}
use Rattle.tree_covering.proofs.Going.{seq_over, at_to, sunk, may_then, may_take, may_go_on}
use Rattle.tree_covering.proofs.Values.{Both, code_of, value_goes, operands_go}

same_count : (ts : Exprs) → count_of ts ≡ count ts
same_count no_exprs = refl
same_count (expr x xs) = ap suc (same_count xs)

module _ (t : Trail) (p : Program) (steps : Follows t p) where
  -- ---- an instruction that stands in a piece

  pop_goes : (x : Around t) (place to line : ℕ) (v : Value) (stack : List Value) (g : t.Kept) (m : Memory) → suc place ≡ to → LiesIn t x place (one op.Pop line) → At t x place (v ∷ stack) g m → At t x to stack g m
  pop_goes x place to line v stack g m e l k = at_to t p steps x (suc place) to stack g m e (steps.pops x v place line stack g m (op_lies l) k)

  pub store_goes : (x : Around t) (place to line n : ℕ) (v : Value) (stack : List Value) (g : t.Kept) (m : Memory) → suc place ≡ to → OpIn t x place (store (t.locals x.context) n) line → At t x place (v ∷ stack) g m →
      Holds (account t) (DoneAt t x to stack) (SentOver t x stack) g m (names.store p n v)
  store_goes x place to line n v stack g m e l k = at_to t p steps x (suc place) to stack g (actions.with_scope (names.bound p n v m.scope) m) e (steps.stores x place line n v stack g m l k)

  -- a store behind which the value is taken off
  popped : (x : Around t) (q to line : ℕ) (v : Value) (stack : List Value) (a : Action (Unit {0})) (g : t.Kept) (m : Memory) → suc q ≡ to → LiesIn t x q (one op.Pop line) → Holds (account t) (DoneAt t x q (v ∷ stack)) (SentOver t x (v ∷ stack)) g m a → Holds (account t) (DoneAt t x to stack) (SentOver t x stack) g m a
  popped x q to line v stack a g m e l h =
      holds_map (account t) (DoneAt t x q (v ∷ stack)) (DoneAt t x to stack) (SentOver t x (v ∷ stack)) (SentOver t x stack) a g m h (λ u g' m' k. pop_goes x q to line v stack g' m' e l k) (λ u g' m' r. steps.sinks x stack v u g' m' r)

  -- ---- unpacking

  abbrev PartsAt : Around t → ℕ → ℕ → List Value → t.Kept → Memory → List Value → Type 0
  PartsAt x to total stack g m vs = (length vs ≡ total) × At t x to (vs ++ stack) g m

  parts_go : (x : Around t) (line total part : ℕ) (got : List Value) (v : Value) (place to : ℕ) (stack : List Value) (g : t.Kept) (m : Memory) → length got + part ≡ total → place + (parts line total part).size ≡ to → LiesIn t x place (parts line total part) → At t x place (got ++ (v ∷ stack)) g m →
      Holds (account t) (PartsAt x to total (v ∷ stack)) (SentOver t x (v ∷ stack)) g m (unpack_from p line total v part got)
  parts_go x line total zero got v place to stack g m n e l k = (omega (arith, n), at_to t p steps x place to (got ++ (v ∷ stack)) g m (omega (arith, e)) k)
  parts_go x line total (suc i) got v place to stack g m n e l k =
      let both : Both t x place (one (op.Part i total) line) (parts line total i) = then_lies (one_solid (op.Part i total) line) (parts_solid line total i) l in
      may_then t p steps (PartsAt x to total (v ∷ stack)) x place line (op.Part i total) got (v ∷ stack) (bind (unpack_one p line i total v) (λ w. unpack_from p line total v i (w ∷ got))) g m (op_lies both.first) refl k
      (holds_bind (account t) (λ g' m' w. At t x (suc place) (w ∷ (got ++ (v ∷ stack))) g' m') (PartsAt x to total (v ∷ stack)) (SentOver t x (v ∷ stack)) (unpack_one p line i total v) (λ w. unpack_from p line total v i (w ∷ got)) g m (steps.unpacks x place line i total got v stack g m n (op_lies both.first) k) (λ w g1 m1 k1.
      parts_go x line total i (w ∷ got) v (place + 1) to stack g1 m1 (omega (arith, n)) (omega (arith, e)) both.second (at_to t p steps x (suc place) (place + 1) (w ∷ (got ++ (v ∷ stack))) g1 m1 (omega arith) k1)))

  -- ---- targets

  abbrev pub TargetGoes : Expr → Type 0
  TargetGoes e =
      (x : Around t) (v : Value) (place to : ℕ) (stack : List Value) (g : t.Kept) (m : Memory) → place + (put (t.locals x.context) e).size ≡ to → LiesIn t x place (put (t.locals x.context) e) → At t x place (v ∷ stack) g m →
      Holds (account t) (DoneAt t x to stack) (SentOver t x stack) g m (targets.put p e v)

  abbrev TargetsGo : Exprs → Type 0
  TargetsGo ts =
      (x : Around t) (vs : List Value) (place to : ℕ) (stack : List Value) (g : t.Kept) (m : Memory) → length vs ≡ count ts → place + (puts (t.locals x.context) ts).size ≡ to → LiesIn t x place (puts (t.locals x.context) ts) → At t x place (vs ++ stack) g m →
      Holds (account t) (DoneAt t x to stack) (SentOver t x stack) g m (targets.put_all p ts vs)

  -- a tuple, and a list, of targets
  unpack_goes : (ts : Exprs) → TargetsGo ts → (line : ℕ) (x : Around t) (v : Value) (place to : ℕ) (stack : List Value) (g : t.Kept) (m : Memory) → place + (parts line (count ts) (count ts) ⨾ puts (t.locals x.context) ts ⨾ one op.Pop line).size ≡ to →
      LiesIn t x place (parts line (count ts) (count ts) ⨾ puts (t.locals x.context) ts ⨾ one op.Pop line) → At t x place (v ∷ stack) g m → Holds (account t) (DoneAt t x to stack) (SentOver t x stack) g m (bind (unpack_from p line (count ts) v (count ts) []) (targets.put_all p ts))
  unpack_goes ts go line x v place to stack g m e l k =
      let ls : List ℕ = t.locals x.context in
      let n : ℕ = count ts in
      let a : Piece = parts line n n in
      let b : Piece = puts ls ts in
      let first : Both t x place a (b ⨾ one op.Pop line) = then_lies (parts_solid line n n) (then_solid (puts_solid ls ts) (one_solid op.Pop line)) l in
      let rest : Both t x (place + a.size) b (one op.Pop line) = then_lies (puts_solid ls ts) (one_solid op.Pop line) first.second in
      popped x (place + a.size + b.size) to line v stack (bind (unpack_from p line n v n []) (targets.put_all p ts)) g m (omega (arith, e)) rest.second
      (holds_bind (account t) (PartsAt x (place + a.size) n (v ∷ stack)) (DoneAt t x (place + a.size + b.size) (v ∷ stack)) (SentOver t x (v ∷ stack)) (unpack_from p line n v n []) (targets.put_all p ts) g m (parts_go x line n n [] v place (place + a.size) stack g m (omega arith) refl first.first k) (λ vs g1 m1 k1.
      go x vs (place + a.size) (place + a.size + b.size) (v ∷ stack) g1 m1 k1.0 refl rest.first k1.1))

  mutual
    pub put_goes : (e : Expr) → TargetGoes e
    put_goes (node (tree.name n) line site) x v place to stack g m e l k = store_goes x place to line n v stack g m (omega (arith, e)) (op_lies l) k
    put_goes (node (tree.attr a n) line site) x v place to stack g m e l k =
        let va : Piece = code_of t x a in
        let q : ℕ = place + va.size in
        let s3 : IsSolid (one op.Pop line) = one_solid op.Pop line in
        let s2 : IsSolid (one (op.StoreAttr n) line ⨾ one op.Pop line) = then_solid (one_solid (op.StoreAttr n) line) s3 in
        let l0 : Both t x place va (one (op.Pick 1) line ⨾ one (op.StoreAttr n) line ⨾ one op.Pop line) = then_lies (value_solid (t.locals x.context) a) (then_solid (one_solid (op.Pick 1) line) s2) l in
        let l1 : Both t x q (one (op.Pick 1) line) (one (op.StoreAttr n) line ⨾ one op.Pop line) = then_lies (one_solid (op.Pick 1) line) s2 l0.second in
        let l2 : Both t x (q + 1) (one (op.StoreAttr n) line) (one op.Pop line) = then_lies (one_solid (op.StoreAttr n) line) s3 l1.second in
        popped x (q + 1 + 1) to line v stack (bind (eval p a) (λ w. then_do actions.may_raise (store_attribute line w n v))) g m (omega (arith, e)) l2.second
        (holds_bind (account t) (ValueAt t x q (v ∷ stack)) (DoneAt t x (q + 1 + 1) (v ∷ stack)) (SentOver t x (v ∷ stack)) (eval p a) (λ w. then_do actions.may_raise (store_attribute line w n v)) g m (value_goes t p steps a x place q (v ∷ stack) g m refl l0.first k) (λ w g1 m1 k1.
        may_take t p steps x (op.StoreAttr n) (v ∷ w ∷ []) (λ line. store_attribute line w n v) (steps.stores_attribute x n w v) refl (q + 1) (q + 1 + 1) line (v ∷ stack) g1 m1 (omega arith) (op_lies l2.first)
        (at_to t p steps x (suc q) (q + 1) (v ∷ w ∷ v ∷ stack) g1 m1 (omega arith) (steps.picks x q line 1 (w ∷ v ∷ stack) v g1 m1 (op_lies l1.first) refl k1))))
    put_goes (node (tree.item a i) line site) x v place to stack g m e l k =
        let va : Piece = code_of t x a in
        let vi : Piece = code_of t x i in
        let q : ℕ = place + va.size + vi.size in
        let s3 : IsSolid (one op.Pop line) = one_solid op.Pop line in
        let s2 : IsSolid (one op.StoreItem line ⨾ one op.Pop line) = then_solid (one_solid op.StoreItem line) s3 in
        let s1 : IsSolid (one (op.Pick 2) line ⨾ one op.StoreItem line ⨾ one op.Pop line) = then_solid (one_solid (op.Pick 2) line) s2 in
        let la : Both t x place va (vi ⨾ one (op.Pick 2) line ⨾ one op.StoreItem line ⨾ one op.Pop line) = then_lies (value_solid (t.locals x.context) a) (then_solid (value_solid (t.locals x.context) i) s1) l in
        let li : Both t x (place + va.size) vi (one (op.Pick 2) line ⨾ one op.StoreItem line ⨾ one op.Pop line) = then_lies (value_solid (t.locals x.context) i) s1 la.second in
        let l1 : Both t x q (one (op.Pick 2) line) (one op.StoreItem line ⨾ one op.Pop line) = then_lies (one_solid (op.Pick 2) line) s2 li.second in
        let l2 : Both t x (q + 1) (one op.StoreItem line) (one op.Pop line) = then_lies (one_solid op.StoreItem line) s3 l1.second in
        popped x (q + 1 + 1) to line v stack (bind (eval p a) (λ w. bind (eval p i) (λ j. then_do actions.may_raise (store_item line w j v)))) g m (omega (arith, e)) l2.second
        (operands_go t p steps a i (value_goes t p steps a) (value_goes t p steps i) (one (op.Pick 2) line ⨾ one op.StoreItem line ⨾ one op.Pop line) x (DoneAt t x (q + 1 + 1) (v ∷ stack)) (λ w j. then_do actions.may_raise (store_item line w j v)) place (v ∷ stack) g m s1 l k (λ w j g1 m1 l' k1.
        may_take t p steps x op.StoreItem (v ∷ j ∷ w ∷ []) (λ line. store_item line w j v) (steps.stores_item x w j v) refl (q + 1) (q + 1 + 1) line (v ∷ stack) g1 m1 (omega arith) (op_lies l2.first)
        (at_to t p steps x (suc q) (q + 1) (v ∷ j ∷ w ∷ v ∷ stack) g1 m1 (omega arith) (steps.picks x q line 2 (j ∷ w ∷ v ∷ stack) v g1 m1 (op_lies l1.first) refl k1))))
    put_goes (node (tree.tuple ts) line site) x v place to stack g m e l k =
        subst (λ n. Holds (account t) (DoneAt t x to stack) (SentOver t x stack) g m (bind (unpack_from p line n v n []) (targets.put_all p ts))) (sym (same_count ts)) (unpack_goes ts (puts_go ts) line x v place to stack g m e l k)
    put_goes (node (tree.list ts) line site) x v place to stack g m e l k =
        subst (λ n. Holds (account t) (DoneAt t x to stack) (SentOver t x stack) g m (bind (unpack_from p line n v n []) (targets.put_all p ts))) (sym (same_count ts)) (unpack_goes ts (puts_go ts) line x v place to stack g m e l k)
    put_goes (node _ line site) x v place to stack g m e l k = pop_goes x place to line v stack g m (omega (arith, e)) l k

    puts_go : (ts : Exprs) → TargetsGo ts
    puts_go no_exprs x [] place to stack g m n e l k = at_to t p steps x place to stack g m (omega (arith, e)) k
    puts_go no_exprs x (v ∷ vs) place to stack g m n e l k = absurd (omega (arith, n))
    puts_go (expr a ts) x [] place to stack g m n e l k = absurd (omega (arith, n))
    puts_go (expr a ts) x (v ∷ vs) place to stack g m n e l k =
        let ls : List ℕ = t.locals x.context in
        let q : ℕ = place + (put ls a).size in
        let both : Both t x place (put ls a) (puts ls ts) = then_lies (put_solid ls a) (puts_solid ls ts) l in
        seq_over t p steps (DoneAt t x q (vs ++ stack)) (SentOver t x (vs ++ stack)) (DoneAt t x to stack) (SentOver t x stack) (targets.put p a v) (λ u. targets.put_all p ts vs) g m (put_goes a x v place q (vs ++ stack) g m refl both.first k) (λ u g' m' r. sunk t p steps x vs stack u g' m' r) (λ u g1 m1 k1.
        puts_go ts x vs q to stack g1 m1 (omega (arith, n)) (omega (arith, e)) both.second k1)

  -- the targets of a chain of assignments
  pub chain_goes : (ts : Exprs) (x : Around t) (v : Value) (line place to : ℕ) (stack : List Value) (g : t.Kept) (m : Memory) → place + (put_all (t.locals x.context) line ts).size ≡ to → LiesIn t x place (put_all (t.locals x.context) line ts) → At t x place (v ∷ stack) g m →
      Holds (account t) (DoneAt t x to stack) (SentOver t x stack) g m (put_each p ts v)
  chain_goes no_exprs x v line place to stack g m e l k = pop_goes x place to line v stack g m (omega (arith, e)) l k
  chain_goes (expr a no_exprs) x v line place to stack g m e l k =
      holds_bind (account t) (DoneAt t x to stack) (DoneAt t x to stack) (SentOver t x stack) (targets.put p a v) (λ u. done) g m (put_goes a x v place to stack g m e l k) (λ u g1 m1 k1. k1)
  chain_goes (expr a (expr b ts)) x v line place to stack g m e l k =
      let ls : List ℕ = t.locals x.context in
      let more : Piece = put_all ls line (expr b ts) in
      let sm : IsSolid more = put_all_solid ls line (expr b ts) in
      let q : ℕ = place + 1 + (put ls a).size in
      let first : Both t x place (one (op.Pick 0) line) (put ls a ⨾ more) = then_lies (one_solid (op.Pick 0) line) (then_solid (put_solid ls a) sm) l in
      let rest : Both t x (place + 1) (put ls a) more = then_lies (put_solid ls a) sm first.second in
      seq_over t p steps (DoneAt t x q (v ∷ stack)) (SentOver t x (v ∷ stack)) (DoneAt t x to stack) (SentOver t x stack) (targets.put p a v) (λ u. put_each p (expr b ts) v) g m
      (put_goes a x v (place + 1) q (v ∷ stack) g m refl rest.first (at_to t p steps x (suc place) (place + 1) (v ∷ v ∷ stack) g m (omega arith) (steps.picks x place line 0 (v ∷ stack) v g m (op_lies first.first) refl k))) (λ u g' m' r. steps.sinks x stack v u g' m' r) (λ u g1 m1 k1.
      chain_goes (expr b ts) x v line q to stack g1 m1 (omega (arith, e)) rest.second k1)

  -- ---- augmented assignments

  pub augment_goes : (target : Expr) (o : BinOp) (b : Expr) (x : Around t) (line place to : ℕ) (stack : List Value) (g : t.Kept) (m : Memory) → place + (augmented (t.locals x.context) line target o b).size ≡ to → LiesIn t x place (augmented (t.locals x.context) line target o b) → At t x place stack g m →
      Holds (account t) (DoneAt t x to stack) (SentOver t x stack) g m (augment p o line target b)
  augment_goes (node (tree.name n) own site) o b x line place to stack g m e l k =
      let ls : List ℕ = t.locals x.context in
      let vb : Piece = code_of t x b in
      let q : ℕ = place + 1 + vb.size in
      let act : Piece = one (op.InPlace o site) line in
      let last : Piece = one (store ls n) own in
      let sb : IsSolid vb = value_solid ls b in
      let sl : IsSolid (act ⨾ last) = then_solid (one_solid (op.InPlace o site) line) (one_solid (store ls n) own) in
      let l0 : Both t x place (one (load ls n) own) (vb ⨾ act ⨾ last) = then_lies (one_solid (load ls n) own) (then_solid sb sl) l in
      let l1 : Both t x (place + 1) vb (act ⨾ last) = then_lies sb sl l0.second in
      let l2 : Both t x q act last = then_lies (one_solid (op.InPlace o site) line) (one_solid (store ls n) own) l1.second in
      holds_bind (account t) (ValueAt t x (place + 1) stack) (DoneAt t x to stack) (SentOver t x stack) (names.load p n) (λ v. bind (eval p b) (λ w. then_do actions.may_raise (bind (in_place p o site line v w) (names.store p n)))) g m
      (value_goes t p steps (node (tree.name n) own site) x place (place + 1) stack g m refl l0.first k) (λ v g1 m1 k1.
      seq_over t p steps (ValueAt t x q (v ∷ stack)) (SentOver t x (v ∷ stack)) (DoneAt t x to stack) (SentOver t x stack) (eval p b) (λ w. then_do actions.may_raise (bind (in_place p o site line v w) (names.store p n))) g1 m1
      (value_goes t p steps b x (place + 1) q (v ∷ stack) g1 m1 refl l1.first k1) (λ u g' m' r. steps.sinks x stack v u g' m' r) (λ w g2 m2 k2.
      may_go_on t p steps (DoneAt t x to stack) x (op.InPlace o site) (w ∷ v ∷ []) stack stack (λ line. in_place p o site line v w) (steps.does_in_place x o site v w) refl (λ u g' m' r. r) q line (names.store p n) g2 m2 (op_lies l2.first) k2 (λ r g3 m3 k3.
      store_goes x (q + 1) to own n r stack g3 m3 (omega (arith, e)) (op_lies l2.second) (at_to t p steps x (suc q) (q + 1) (r ∷ stack) g3 m3 (omega arith) k3))))
  augment_goes (node (tree.attr a n) own site) o b x line place to stack g m e l k =
      let ls : List ℕ = t.locals x.context in
      let va : Piece = code_of t x a in
      let vb : Piece = code_of t x b in
      let q : ℕ = place + va.size in
      let q2 : ℕ = q + 1 + 1 + vb.size in
      let copy : Piece = one (op.Pick 0) own in
      let read : Piece = one (op.Attr n) own in
      let act : Piece = one (op.InPlace o site) line in
      let last : Piece = one (op.StoreAttr n) own in
      let sb : IsSolid vb = value_solid ls b in
      let sl : IsSolid (act ⨾ last) = then_solid (one_solid (op.InPlace o site) line) (one_solid (op.StoreAttr n) own) in
      let s3 : IsSolid (vb ⨾ act ⨾ last) = then_solid sb sl in
      let s2 : IsSolid (read ⨾ vb ⨾ act ⨾ last) = then_solid (one_solid (op.Attr n) own) s3 in
      let l0 : Both t x place va (copy ⨾ read ⨾ vb ⨾ act ⨾ last) = then_lies (value_solid ls a) (then_solid (one_solid (op.Pick 0) own) s2) l in
      let l1 : Both t x q copy (read ⨾ vb ⨾ act ⨾ last) = then_lies (one_solid (op.Pick 0) own) s2 l0.second in
      let l2 : Both t x (q + 1) read (vb ⨾ act ⨾ last) = then_lies (one_solid (op.Attr n) own) s3 l1.second in
      let l3 : Both t x (q + 1 + 1) vb (act ⨾ last) = then_lies sb sl l2.second in
      let l4 : Both t x q2 act last = then_lies (one_solid (op.InPlace o site) line) (one_solid (op.StoreAttr n) own) l3.second in
      let Q : Post (account t) (Unit {0}) = DoneAt t x to stack in
      let R : Post (account t) Value = SentOver t x stack in
      holds_bind (account t) (ValueAt t x q stack) Q R (eval p a) (λ c. then_do actions.may_raise (bind (read_attribute p own c n) (λ v. bind (eval p b) (λ w. then_do actions.may_raise (bind (in_place p o site line v w) (λ r. then_do actions.may_raise (store_attribute own c n r))))))) g m
      (value_goes t p steps a x place q stack g m refl l0.first k) (λ c g1 m1 k1.
      may_go_on t p steps Q x (op.Attr n) (c ∷ []) (c ∷ stack) stack (λ line. read_attribute p line c n) (steps.reads_attribute x n c) refl (λ u g' m' r. steps.sinks x stack c u g' m' r) (q + 1) own (λ v. bind (eval p b) (λ w. then_do actions.may_raise (bind (in_place p o site line v w) (λ r. then_do actions.may_raise (store_attribute own c n r))))) g1 m1 (op_lies l2.first)
      (at_to t p steps x (suc q) (q + 1) (c ∷ c ∷ stack) g1 m1 (omega arith) (steps.picks x q own 0 (c ∷ stack) c g1 m1 (op_lies l1.first) refl k1)) (λ v g2 m2 k2.
      seq_over t p steps (ValueAt t x q2 (v ∷ c ∷ stack)) (SentOver t x (v ∷ c ∷ stack)) Q R (eval p b) (λ w. then_do actions.may_raise (bind (in_place p o site line v w) (λ r. then_do actions.may_raise (store_attribute own c n r)))) g2 m2
      (value_goes t p steps b x (q + 1 + 1) q2 (v ∷ c ∷ stack) g2 m2 refl l3.first (at_to t p steps x (suc (q + 1)) (q + 1 + 1) (v ∷ c ∷ stack) g2 m2 (omega arith) k2)) (λ u g' m' r. sunk t p steps x (v ∷ c ∷ []) stack u g' m' r) (λ w g3 m3 k3.
      may_go_on t p steps Q x (op.InPlace o site) (w ∷ v ∷ []) (c ∷ stack) stack (λ line. in_place p o site line v w) (steps.does_in_place x o site v w) refl (λ u g' m' r. steps.sinks x stack c u g' m' r) q2 line (λ r. then_do actions.may_raise (store_attribute own c n r)) g3 m3 (op_lies l4.first) k3 (λ r g4 m4 k4.
      may_take t p steps x (op.StoreAttr n) (r ∷ c ∷ []) (λ line. store_attribute line c n r) (steps.stores_attribute x n c r) refl (q2 + 1) to own stack g4 m4 (omega (arith, e)) (op_lies l4.second) (at_to t p steps x (suc q2) (q2 + 1) (r ∷ c ∷ stack) g4 m4 (omega arith) k4)))))
  augment_goes (node (tree.item a i) own site) o b x line place to stack g m e l k =
      let ls : List ℕ = t.locals x.context in
      let va : Piece = code_of t x a in
      let vi : Piece = code_of t x i in
      let vb : Piece = code_of t x b in
      let q : ℕ = place + va.size + vi.size in
      let q2 : ℕ = q + 1 + 1 + 1 + vb.size in
      let copy : Piece = one (op.Pick 1) own in
      let read : Piece = one op.Item own in
      let act : Piece = one (op.InPlace o site) line in
      let last : Piece = one op.StoreItem own in
      let sb : IsSolid vb = value_solid ls b in
      let sc : IsSolid copy = one_solid (op.Pick 1) own in
      let sl : IsSolid (act ⨾ last) = then_solid (one_solid (op.InPlace o site) line) (one_solid op.StoreItem own) in
      let s3 : IsSolid (vb ⨾ act ⨾ last) = then_solid sb sl in
      let s2 : IsSolid (read ⨾ vb ⨾ act ⨾ last) = then_solid (one_solid op.Item own) s3 in
      let s1 : IsSolid (copy ⨾ read ⨾ vb ⨾ act ⨾ last) = then_solid sc s2 in
      let Q : Post (account t) (Unit {0}) = DoneAt t x to stack in
      let R : Post (account t) Value = SentOver t x stack in
      operands_go t p steps a i (value_goes t p steps a) (value_goes t p steps i) (copy ⨾ copy ⨾ read ⨾ vb ⨾ act ⨾ last) x Q
      (λ c j. then_do actions.may_raise (bind (read_item p own c j) (λ v. bind (eval p b) (λ w. then_do actions.may_raise (bind (in_place p o site line v w) (λ r. then_do actions.may_raise (store_item own c j r))))))) place stack g m (then_solid sc s1) l k (λ c j g1 m1 l' k1.
      let l0 : Both t x q copy (copy ⨾ read ⨾ vb ⨾ act ⨾ last) = then_lies sc s1 l' in
      let l1 : Both t x (q + 1) copy (read ⨾ vb ⨾ act ⨾ last) = then_lies sc s2 l0.second in
      let l2 : Both t x (q + 1 + 1) read (vb ⨾ act ⨾ last) = then_lies (one_solid op.Item own) s3 l1.second in
      let l3 : Both t x (q + 1 + 1 + 1) vb (act ⨾ last) = then_lies sb sl l2.second in
      let l4 : Both t x q2 act last = then_lies (one_solid (op.InPlace o site) line) (one_solid op.StoreItem own) l3.second in
      let once : At t x (q + 1) (c ∷ j ∷ c ∷ stack) g1 m1 = at_to t p steps x (suc q) (q + 1) (c ∷ j ∷ c ∷ stack) g1 m1 (omega arith) (steps.picks x q own 1 (j ∷ c ∷ stack) c g1 m1 (op_lies l0.first) refl k1) in
      let twice : At t x (q + 1 + 1) (j ∷ c ∷ j ∷ c ∷ stack) g1 m1 = at_to t p steps x (suc (q + 1)) (q + 1 + 1) (j ∷ c ∷ j ∷ c ∷ stack) g1 m1 (omega arith) (steps.picks x (q + 1) own 1 (c ∷ j ∷ c ∷ stack) j g1 m1 (op_lies l1.first) refl once) in
      may_go_on t p steps Q x op.Item (j ∷ c ∷ []) (j ∷ c ∷ stack) stack (λ line. read_item p line c j) (steps.reads_item x c j) refl (λ u g' m' r. sunk t p steps x (j ∷ c ∷ []) stack u g' m' r) (q + 1 + 1) own (λ v. bind (eval p b) (λ w. then_do actions.may_raise (bind (in_place p o site line v w) (λ r. then_do actions.may_raise (store_item own c j r))))) g1 m1 (op_lies l2.first) twice (λ v g2 m2 k2.
      seq_over t p steps (ValueAt t x q2 (v ∷ j ∷ c ∷ stack)) (SentOver t x (v ∷ j ∷ c ∷ stack)) Q R (eval p b) (λ w. then_do actions.may_raise (bind (in_place p o site line v w) (λ r. then_do actions.may_raise (store_item own c j r)))) g2 m2
      (value_goes t p steps b x (q + 1 + 1 + 1) q2 (v ∷ j ∷ c ∷ stack) g2 m2 refl l3.first (at_to t p steps x (suc (q + 1 + 1)) (q + 1 + 1 + 1) (v ∷ j ∷ c ∷ stack) g2 m2 (omega arith) k2)) (λ u g' m' r. sunk t p steps x (v ∷ j ∷ c ∷ []) stack u g' m' r) (λ w g3 m3 k3.
      may_go_on t p steps Q x (op.InPlace o site) (w ∷ v ∷ []) (j ∷ c ∷ stack) stack (λ line. in_place p o site line v w) (steps.does_in_place x o site v w) refl (λ u g' m' r. sunk t p steps x (j ∷ c ∷ []) stack u g' m' r) q2 line (λ r. then_do actions.may_raise (store_item own c j r)) g3 m3 (op_lies l4.first) k3 (λ r g4 m4 k4.
      may_take t p steps x op.StoreItem (r ∷ j ∷ c ∷ []) (λ line. store_item line c j r) (steps.stores_item x c j r) refl (q2 + 1) to own stack g4 m4 (omega (arith, e)) (op_lies l4.second) (at_to t p steps x (suc q2) (q2 + 1) (r ∷ j ∷ c ∷ stack) g4 m4 (omega arith) k4)))))
  augment_goes (node _ own site) o b x line place to stack g m e l k = at_to t p steps x place to stack g m (omega (arith, e)) k

  -- ---- annotated targets

  -- a value that is not used
  pub drop_goes : (a : Expr) (x : Around t) (line place to : ℕ) (stack : List Value) (g : t.Kept) (m : Memory) → place + (code_of t x a ⨾ one op.Pop line).size ≡ to → LiesIn t x place (code_of t x a ⨾ one op.Pop line) → At t x place stack g m →
      Holds (account t) (DoneAt t x to stack) (SentOver t x stack) g m (bind (eval p a) (λ v. done))
  drop_goes a x line place to stack g m e l k =
      let va : Piece = code_of t x a in
      let both : Both t x place va (one op.Pop line) = then_lies (value_solid (t.locals x.context) a) (one_solid op.Pop line) l in
      holds_bind (account t) (ValueAt t x (place + va.size) stack) (DoneAt t x to stack) (SentOver t x stack) (eval p a) (λ v. done) g m (value_goes t p steps a x place (place + va.size) stack g m refl both.first k) (λ v g1 m1 k1.
      pop_goes x (place + va.size) to line v stack g1 m1 (omega (arith, e)) both.second k1)

  pub annotation_goes : (target : Expr) (o : Option Expr) (x : Around t) (line place to : ℕ) (stack : List Value) (g : t.Kept) (m : Memory) → place + (annotates (t.locals x.context) line target o).size ≡ to → LiesIn t x place (annotates (t.locals x.context) line target o) → At t x place stack g m →
      Holds (account t) (DoneAt t x to stack) (SentOver t x stack) g m (annotation p target o)
  annotation_goes target (Some a) x line place to stack g m e l k =
      let ls : List ℕ = t.locals x.context in
      let va : Piece = code_of t x a in
      let both : Both t x place va (put ls target) = then_lies (value_solid ls a) (put_solid ls target) l in
      holds_bind (account t) (ValueAt t x (place + va.size) stack) (DoneAt t x to stack) (SentOver t x stack) (eval p a) (targets.put p target) g m (value_goes t p steps a x place (place + va.size) stack g m refl both.first k) (λ v g1 m1 k1.
      put_goes target x v (place + va.size) to stack g1 m1 (omega (arith, e)) both.second k1)
  annotation_goes (node (tree.attr a n) own site) None x line place to stack g m e l k = drop_goes a x line place to stack g m e l k
  annotation_goes (node _ own site) None x line place to stack g m e l k = at_to t p steps x place to stack g m (omega (arith, e)) k

  -- ---- imports

  store_if_goes : (alias : Option ℕ) (path : List ℕ) (x : Around t) (v : Value) (before place to line other : ℕ) (stack : List Value) (g : t.Kept) (m : Memory) → suc place ≡ to → OpIn t x before (op.Import path) line → OpIn t x place (store (t.locals x.context) (bound_by alias (first_of path))) other → At t x place (v ∷ stack) g m →
      Holds (account t) (DoneAt t x to stack) (SentOver t x stack) g m (store_if p (bound_name alias path) v)
  store_if_goes (Some n) path x v before place to line other stack g m e i l k = store_goes x place to other n v stack g m e l k
  store_if_goes None (n ∷ ns) x v before place to line other stack g m e i l k = store_goes x place to other n v stack g m e l k
  store_if_goes None [] x v before place to line other stack g m e i l k = at_to t p steps x (suc place) to stack g m e (steps.stores_nothing x before place line other v stack g m i l k)

  pub imports_go : (ps : List ImportPart) (x : Around t) (line place to : ℕ) (stack : List Value) (g : t.Kept) (m : Memory) → place + (imports (t.locals x.context) line ps).size ≡ to → LiesIn t x place (imports (t.locals x.context) line ps) → At t x place stack g m →
      Holds (account t) (DoneAt t x to stack) (SentOver t x stack) g m (import_all p ps)
  imports_go [] x line place to stack g m e l k = at_to t p steps x place to stack g m (omega (arith, e)) k
  imports_go (q ∷ qs) x line place to stack g m e l k =
      let ls : List ℕ = t.locals x.context in
      let o : Op = store ls (bound_by q.alias (first_of q.path)) in
      let more : Piece = imports ls line qs in
      let s2 : IsSolid (one o line ⨾ more) = then_solid (one_solid o line) (imports_solid ls line qs) in
      let l0 : Both t x place (one (op.Import q.path) line) (one o line ⨾ more) = then_lies (one_solid (op.Import q.path) line) s2 l in
      let l1 : Both t x (place + 1) (one o line) more = then_lies (one_solid o line) (imports_solid ls line qs) l0.second in
      holds_bind (account t) (DoneAt t x (place + 1 + 1) stack) (DoneAt t x to stack) (SentOver t x stack) (import_one p q) (λ u. import_all p qs) g m
      (may_go_on t p steps (DoneAt t x (place + 1 + 1) stack) x (op.Import q.path) [] stack stack (λ line. module_value (module_name p q.path) (stub_at p (module_name p q.path))) (steps.imports x q.path) refl (λ u g' m' r. r) place line (store_if p (bound_name q.alias q.path)) g m (op_lies l0.first) k (λ v g1 m1 k1.
      store_if_goes q.alias q.path x v place (place + 1) (place + 1 + 1) line line stack g1 m1 (omega arith) (op_lies l0.first) (op_lies l1.first) (at_to t p steps x (suc place) (place + 1) (v ∷ stack) g1 m1 (omega arith) k1))) (λ u g2 m2 k2.
      imports_go qs x line (place + 1 + 1) to stack g2 m2 (omega (arith, e)) l1.second k2)

  taken_goes : (alias : Option ℕ) (n : ℕ) (x : Around t) (v : Value) (place to line : ℕ) (stack : List Value) (g : t.Kept) (m : Memory) → suc place ≡ to → OpIn t x place (store (t.locals x.context) (bound_by alias n)) line → At t x place (v ∷ stack) g m →
      Holds (account t) (DoneAt t x to stack) (SentOver t x stack) g m (store_if p (bound_name alias (n ∷ [])) v)
  taken_goes (Some a) n x v place to line stack g m e l k = store_goes x place to line a v stack g m e l k
  taken_goes None n x v place to line stack g m e l k = store_goes x place to line n v stack g m e l k

  pub froms_go : (path : List ℕ) (ps : List FromPart) (x : Around t) (line place to : ℕ) (stack : List Value) (g : t.Kept) (m : Memory) → place + (froms (t.locals x.context) line path ps).size ≡ to → LiesIn t x place (froms (t.locals x.context) line path ps) → At t x place stack g m →
      Holds (account t) (DoneAt t x to stack) (SentOver t x stack) g m (take_all p (module_name p path) ps)
  froms_go path [] x line place to stack g m e l k = at_to t p steps x place to stack g m (omega (arith, e)) k
  froms_go path (q ∷ qs) x line place to stack g m e l k =
      let ls : List ℕ = t.locals x.context in
      let home : List ℕ = module_name p path in
      let o : Op = store ls (bound_by q.alias q.name) in
      let more : Piece = froms ls line path qs in
      let s2 : IsSolid (one o line ⨾ more) = then_solid (one_solid o line) (froms_solid ls line path qs) in
      let l0 : Both t x place (one (op.ImportFrom path q.name) line) (one o line ⨾ more) = then_lies (one_solid (op.ImportFrom path q.name) line) s2 l in
      let l1 : Both t x (place + 1) (one o line) more = then_lies (one_solid o line) (froms_solid ls line path qs) l0.second in
      holds_bind (account t) (DoneAt t x (place + 1 + 1) stack) (DoneAt t x to stack) (SentOver t x stack) (take_one p home q) (λ u. take_all p home qs) g m
      (may_go_on t p steps (DoneAt t x (place + 1 + 1) stack) x (op.ImportFrom path q.name) [] stack stack (λ line. imported_item p home (text_at p q.name) (option_and_then (λ s. item_in s home (text_at p q.name)) (stub_at p home))) (steps.imports_from x path q.name) refl (λ u g' m' r. r) place line (store_if p (bound_name q.alias (q.name ∷ []))) g m (op_lies l0.first) k (λ v g1 m1 k1.
      taken_goes q.alias q.name x v (place + 1) (place + 1 + 1) line stack g1 m1 (omega arith) (op_lies l1.first) (at_to t p steps x (suc place) (place + 1) (v ∷ stack) g1 m1 (omega arith) k1))) (λ u g2 m2 k2.
      froms_go path qs x line (place + 1 + 1) to stack g2 m2 (omega (arith, e)) l1.second k2)
