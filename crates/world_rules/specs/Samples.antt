-- The code of some small modules.
use Rattle.std.specs.Prelude.{ℕ, false, List, [], ◌∷◌, codes}
use Rattle.place_ids.specs.declared.operators.BinOp.TheVariants as bin
use Rattle.place_ids.specs.declared.operators.CompareOp.TheVariants as cmp
use Rattle.place_ids.specs.declared.operators.UnaryOp.TheVariants as un
use Rattle.stack_code.specs.declared.code.Code.{Code}
use Rattle.stack_code.specs.declared.op.Op.{Op}
use Rattle.stack_code.specs.declared.op.Op.TheVariants as op
use Rattle.stack_code.specs.declared.op.ConstKind.TheVariants as const
use Rattle.abstract_shapes.specs.Shapes.{Shape, int}
use Rattle.world_rules.specs.Places.{main, slot, at}
use Rattle.world_rules.specs.Sources.{Source}
use Rattle.world_rules.specs.Items.{Item, a_fact, map_of}

-- a module's body without functions and classes, with these names, which it binds and prints
abbrev pub module_of : (names : List (List ℕ)) → (bound : List ℕ) → (ops : List Op) → (lines : List ℕ) → Source
module_of names bound ops lines =
    record {
      program = record { body = record { ops = ops; lines = lines; ranges = []; locals = 0; params = 0 }; codes = []; names = names; funs = []; classes = [] };
      scopes = record { bound = bound; stored = []; printed = bound; locals = []; classes = [] };
      stubs = [];
      depth = 4;
      budget = 262144;
      library = false;
    }

abbrev pub one_line : Source
one_line = module_of (codes "x" ∷ []) (0 ∷ []) (op.Const const.Int ∷ op.StoreName 0 ∷ op.End ∷ []) (1 ∷ 1 ∷ 1 ∷ [])

-- x gets an int
abbrev pub stored_int : Item
stored_int = a_fact (record { point = at main 1 1; shape = int; source = map_of (slot main 0 ∷ []) (int ∷ []) })

-- `nope`
abbrev pub unknown_name : Source
unknown_name = module_of (codes "nope" ∷ []) [] (op.LoadName 0 ∷ op.Pop ∷ op.End ∷ []) (1 ∷ 1 ∷ 1 ∷ [])

-- `"a" + 1`
abbrev pub text_and_int : Source
text_and_int = module_of [] [] (op.Const const.Str ∷ op.Const const.Int ∷ op.Binary bin.Add 2 ∷ op.Pop ∷ op.End ∷ []) (1 ∷ 1 ∷ 1 ∷ 1 ∷ 1 ∷ [])

-- `-abs`
abbrev pub outside_negated : Source
outside_negated = module_of (codes "abs" ∷ []) [] (op.LoadName 0 ∷ op.Unary un.Minus ∷ op.Pop ∷ op.End ∷ []) (1 ∷ 1 ∷ 1 ∷ 1 ∷ [])

-- two of these, with an operator: `abs + abs`, `abs < abs`, `abs in abs`
abbrev pub outside_twice : Op → Source
outside_twice o = module_of (codes "abs" ∷ []) [] (op.LoadName 0 ∷ op.LoadName 0 ∷ o ∷ op.Pop ∷ op.End ∷ []) (1 ∷ 1 ∷ 1 ∷ 1 ∷ 1 ∷ [])

-- `x = 1`, `while x == 1:` with `x = "a"`, `y = x`, `z = -x`
abbrev pub loop_module : Source
loop_module =
    module_of (codes "x" ∷ codes "y" ∷ codes "z" ∷ []) (0 ∷ 1 ∷ 2 ∷ [])
    (op.Const const.Int ∷ op.StoreName 0
    ∷ op.LoadName 0 ∷ op.Const const.Int ∷ op.Compare cmp.Equal ∷ op.JumpIfFalse 9
    ∷ op.Const const.Str ∷ op.StoreName 0 ∷ op.Jump 2
    ∷ op.LoadName 0 ∷ op.StoreName 1
    ∷ op.LoadName 0 ∷ op.Unary un.Minus ∷ op.StoreName 2 ∷ op.End ∷ [])
    (1 ∷ 1 ∷ 2 ∷ 2 ∷ 2 ∷ 2 ∷ 3 ∷ 3 ∷ 2 ∷ 4 ∷ 4 ∷ 5 ∷ 5 ∷ 5 ∷ 5 ∷ [])

-- `x = None`, `if x is None:` with `y = 1`, `else:` with `y = "t"`
abbrev pub branch_module : Source
branch_module =
    module_of (codes "x" ∷ codes "y" ∷ []) (0 ∷ 1 ∷ [])
    (op.Const const.NoneValue ∷ op.StoreName 0
    ∷ op.LoadName 0 ∷ op.Const const.NoneValue ∷ op.Compare cmp.Is ∷ op.JumpIfFalse 9
    ∷ op.Const const.Int ∷ op.StoreName 1 ∷ op.Jump 11
    ∷ op.Const const.Str ∷ op.StoreName 1 ∷ op.End ∷ [])
    (1 ∷ 1 ∷ 2 ∷ 2 ∷ 2 ∷ 2 ∷ 3 ∷ 3 ∷ 2 ∷ 5 ∷ 5 ∷ 2 ∷ [])
