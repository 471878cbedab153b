-- The definition of a function, and of a class with its members, leaves the stack as it was.
use Rattle.std.proofs.Common.{◌≡◌, ℕ, suc, ◌+◌, Some, List, [], ◌∷◌, length, refl, sym, subst, arith}
use Rattle.py_tree.specs.Tree as tree
use Rattle.py_tree.specs.Tree.{Expr, FunDef, fun_def, ClassDef, class_def, Member, pass_member, ellipsis_member, text, declared, method, Members, no_members, member}
use Rattle.stack_code.specs.declared.op.Op.{Op}
use Rattle.stack_code.specs.declared.op.Op.TheVariants as op
use Rattle.tree_code.specs.Names.{store}
use Rattle.tree_code.specs.Pieces.{Piece, one, ◌⨾◌}
use Rattle.tree_code.specs.Expressions.{value}
use Rattle.tree_code.specs.Statements.{member_values, defines, defines_class}
use Rattle.tree_code.specs.Standing.{IsSolid}
use Rattle.tree_code.proofs.Solid.{one_solid, then_solid}
use Rattle.tree_code.proofs.SolidTrees.{value_solid, members_solid}
use Rattle.tree_code.proofs.Parts.{then_lies, op_lies}
use Rattle.py_meaning.specs.Values.{Value, ref}
use Rattle.py_meaning.specs.Objects as object
use Rattle.py_meaning.specs.Programs.{Program}
use Rattle.py_meaning.specs.Names as names
use Rattle.py_meaning.specs.Expressions.{eval}
use Rattle.py_meaning.specs.Statements.{set_member, put_members, put_method, put_methods, define_function, define_class}
use Rattle.py_meaning.specs.Actions.{Memory, Action, with_new, bind, then_do, allocate}
use Rattle.py_meaning.specs.Holds.{Holds}
use Rattle.py_meaning.proofs.Holding.{holds_bind, holds_then, holds_map}
use Rattle.tree_covering.specs.Trails.{Trail, Around, LiesIn, OpIn, At, ValueAt, DoneAt, SentOver}
use Rattle.tree_covering.specs.Turns.{account}
use Rattle.tree_covering.specs.Follows.{during, Fills, Makes, Follows}
use Rattle.tree_covering.proofs.Going.{at_to, done_to}
use Rattle.tree_covering.proofs.Values.{Both, value_goes}
use Rattle.tree_covering.proofs.Targets.{store_goes}

module _ (t : Trail) (p : Program) (steps : Follows t p) where
  -- in the module's own code a name is stored by its own number
  store_there : (x : Around t) (place line n : ℕ) → t.locals x.context ≡ [] → OpIn t x place (op.StoreName n) line → OpIn t x place (store (t.locals x.context) n) line
  store_there x place line n own l = subst (λ ls. OpIn t x place (store ls n) line) (sym own) l

  pub function_goes : (f : FunDef) (x : Around t) (line place to : ℕ) (stack : List Value) (g : t.Kept) (m : Memory) → place + (defines line f).size ≡ to → LiesIn t x place (defines line f) → At t x place stack g m →
      Holds (account t) (DoneAt t x to stack) (SentOver t x stack) g m (define_function p f)
  function_goes (fun_def id n params body own) x line place to stack g m e l k =
      let both : Both t x place (one (op.Fun id) line) (one (op.StoreName n) line) = then_lies (one_solid (op.Fun id) line) (one_solid (op.StoreName n) line) l in
      holds_bind (account t) (ValueAt t x (suc place) stack) (DoneAt t x to stack) (SentOver t x stack) (allocate (object.function id)) (names.store p n) g m (steps.makes_function x id place line stack g m (op_lies both.first) k) (λ v g1 m1 k1.
      store_goes t p steps x (place + 1) to line n v stack g1 m1 (omega (arith, e)) (store_there x (place + 1) line n (steps.functions_in_module x place line id (op_lies both.first)) (op_lies both.second)) (at_to t p steps x (suc place) (place + 1) (v ∷ stack) g1 m1 (omega arith) k1))

  -- ---- the members of a class

  module _ (x : Around t) (within : t.Since) (class place_of_object : ℕ) (fills : Fills t x within class place_of_object) (own : t.locals x.context ≡ []) where
    abbrev there : Around t
    there = during t x within

    value_there : (a : Expr) (place to : ℕ) (stack : List Value) (g : t.Kept) (m : Memory) → place + (value [] a).size ≡ to → LiesIn t there place (value [] a) → At t there place stack g m → Holds (account t) (ValueAt t there to stack) (SentOver t there stack) g m (eval p a)
    value_there a place to stack g m =
        subst (λ ls. place + (value ls a).size ≡ to → LiesIn t there place (value ls a) → At t there place stack g m → Holds (account t) (ValueAt t there to stack) (SentOver t there stack) g m (eval p a)) own (value_goes t p steps a there place to stack g m)

    member_goes : (n : ℕ) (a : Expr) (line : ℕ) (rest : Piece) (others : Action (Unit {0})) (place to : ℕ) (stack : List Value) (g : t.Kept) (m : Memory) → IsSolid rest → place + (value [] a ⨾ one (op.StoreMember class n) line ⨾ rest).size ≡ to →
        LiesIn t there place (value [] a ⨾ one (op.StoreMember class n) line ⨾ rest) → At t there place stack g m →
        ((q : ℕ) (g : t.Kept) (m : Memory) → q + rest.size ≡ to → LiesIn t there q rest → At t there q stack g m → Holds (account t) (DoneAt t there to stack) (SentOver t there stack) g m others) →
        Holds (account t) (DoneAt t there to stack) (SentOver t there stack) g m (then_do (bind (eval p a) (set_member place_of_object n)) others)
    member_goes n a line rest others place to stack g m s e l k more =
        let va : Piece = value [] a in
        let q : ℕ = place + va.size in
        let o : Op = op.StoreMember class n in
        let l0 : Both t there place va (one o line ⨾ rest) = then_lies (value_solid [] a) (then_solid (one_solid o line) s) l in
        let l1 : Both t there q (one o line) rest = then_lies (one_solid o line) s l0.second in
        holds_then (account t) (DoneAt t there (q + 1) stack) (DoneAt t there to stack) (SentOver t there stack) (bind (eval p a) (set_member place_of_object n)) others g m
        (holds_bind (account t) (ValueAt t there q stack) (DoneAt t there (q + 1) stack) (SentOver t there stack) (eval p a) (set_member place_of_object n) g m (value_there a place q stack g m refl l0.first k) (λ v g1 m1 k1.
        done_to t p steps there (suc q) (q + 1) stack (SentOver t there stack) (set_member place_of_object n v) g1 m1 (omega arith) (fills.member n v q line stack g1 m1 (op_lies l1.first) k1))) (λ u g2 m2 k2.
        more (q + 1) g2 m2 (omega (arith, e)) l1.second k2)

    members_go : (ms : Members) (place to : ℕ) (stack : List Value) (g : t.Kept) (m : Memory) → place + (member_values class ms).size ≡ to → LiesIn t there place (member_values class ms) → At t there place stack g m →
        Holds (account t) (DoneAt t there to stack) (SentOver t there stack) g m (put_members p place_of_object ms)
    members_go no_members place to stack g m e l k = at_to t p steps there place to stack g m (omega (arith, e)) k
    members_go (member (tree.value n a line) ms) place to stack g m e l k =
        member_goes n a line (member_values class ms) (put_members p place_of_object ms) place to stack g m (members_solid class ms) e l k (λ q g1 m1 e1 l1 k1. members_go ms q to stack g1 m1 e1 l1 k1)
    members_go (member (declared n (Some a) line) ms) place to stack g m e l k =
        member_goes n a line (member_values class ms) (put_members p place_of_object ms) place to stack g m (members_solid class ms) e l k (λ q g1 m1 e1 l1 k1. members_go ms q to stack g1 m1 e1 l1 k1)
    members_go (member _ ms) place to stack g m e l k = members_go ms place to stack g m e l k

    methods_go : (ms : Members) (place : ℕ) (stack : List Value) (g : t.Kept) (m : Memory) → At t there place stack g m → Holds (account t) (DoneAt t there place stack) (SentOver t there stack) g m (put_methods place_of_object ms)
    methods_go no_members place stack g m k = k
    methods_go (member a ms) place stack g m k =
        holds_then (account t) (DoneAt t there place stack) (DoneAt t there place stack) (SentOver t there stack) (put_method place_of_object a) (put_methods place_of_object ms) g m (fills.method a place stack g m k) (λ u g1 m1 k1. methods_go ms place stack g1 m1 k1)

  pub class_goes : (c : ClassDef) (x : Around t) (line place to : ℕ) (stack : List Value) (g : t.Kept) (m : Memory) → place + (defines_class line c).size ≡ to → LiesIn t x place (defines_class line c) → At t x place stack g m →
      Holds (account t) (DoneAt t x to stack) (SentOver t x stack) g m (define_class p c)
  class_goes (class_def id n base ms at) x line place to stack g m e l k =
      let values : Piece = member_values id ms in
      let q : ℕ = place + values.size in
      let l0 : Both t x place values (one (op.Class id) line ⨾ one (op.StoreName n) line) = then_lies (members_solid id ms) (then_solid (one_solid (op.Class id) line) (one_solid (op.StoreName n) line)) l in
      let l1 : Both t x q (one (op.Class id) line) (one (op.StoreName n) line) = then_lies (one_solid (op.Class id) line) (one_solid (op.StoreName n) line) l0.second in
      let own : t.locals x.context ≡ [] = steps.classes_in_module x q line id (op_lies l1.first) in
      let c : Makes t x place id stack g m = steps.makes_class x place line id n base ms at stack g m l k in
      let o : ℕ = length m.heap in
      let inner : Around t = during t x c.within in
      let start : Memory = with_new (object.class id []) m in (
        c.later,
        c.made,
        holds_then (account t) (DoneAt t x (suc q) (ref o ∷ stack)) (DoneAt t x to stack) (SentOver t x stack) (then_do (put_members p o ms) (put_methods o ms)) (names.store p n (ref o)) c.later start
            (holds_map (account t) (DoneAt t inner q stack) (DoneAt t x (suc q) (ref o ∷ stack)) (SentOver t inner stack) (SentOver t x stack) (then_do (put_members p o ms) (put_methods o ms)) c.later start
            (holds_then (account t) (DoneAt t inner q stack) (DoneAt t inner q stack) (SentOver t inner stack) (put_members p o ms) (put_methods o ms) c.later start
            (members_go x c.within id o c.fills own ms place q stack c.later start refl l0.first c.at) (λ u g1 m1 k1. methods_go x c.within id o c.fills own ms q stack g1 m1 k1))
            (λ u g1 m1 k1. c.fills.ends q line stack g1 m1 (op_lies l1.first) k1) (λ v g1 m1 r. c.fills.sent x.outer stack v g1 m1 r)) (λ u g2 m2 k2.
            store_goes t p steps x (q + 1) to line n (ref o) stack g2 m2 (omega (arith, e)) (store_there x (q + 1) line n own (op_lies l1.second)) (at_to t p steps x (suc q) (q + 1) (ref o ∷ stack) g2 m2 (omega arith) k2)),
      )
