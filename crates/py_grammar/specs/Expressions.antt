-- Which tokens are which expression: one family for each nonterminal of the grammar, one case for each production
-- (language reference, "Expressions"). In `IsTest c e d` the tokens from c to d are a test, and e is its tree.
use Rattle.std.specs.Prelude.{◌≡◌, ℕ, suc, Bool, true, false, ◌&&◌, ◌||◌, Option, Some, None}
use Rattle.place_ids.specs.declared.operators.BinOp.{BinOp}
use Rattle.place_ids.specs.declared.operators.BinOp.TheVariants as bin
use Rattle.place_ids.specs.declared.operators.CompareOp.{CompareOp}
use Rattle.place_ids.specs.declared.operators.CompareOp.TheVariants as cmp
use Rattle.place_ids.specs.declared.operators.UnaryOp.{UnaryOp}
use Rattle.py_tokens.specs.declared.token.TokenKind.TheVariants as kind
use Rattle.py_tokens.specs.declared.token.Keyword.TheVariants as word
use Rattle.py_tokens.specs.declared.token.Op.{Op}
use Rattle.py_tokens.specs.declared.token.Op.TheVariants as op
use Rattle.py_tree.specs.declared.literal.Literal.TheVariants as lit
use Rattle.py_tree.specs.Tree as tree
use Rattle.py_tree.specs.Tree.{Expr, Exprs, no_exprs, expr, Bound, no_bound, bound, Args, no_args, arg, Pairs, no_pairs, pair}
use Rattle.py_grammar.specs.Cursor.{Cursor, next, Begins, BeginsOp, BeginsWord, line_of, past, past_two, with_site, made}
use Rattle.py_grammar.specs.Names.{text_of, is_super, IsName, IsPlainName, IsVariable}
use Rattle.py_grammar.specs.Operators.{IsBinary, IsUnary}

-- STR+: the texts are one literal, empty where each is
pub data AreStrs : Cursor → Bool → Cursor → Type 0 where
  strs_one : {c : Cursor} {empty : Bool} → Begins (kind.Str empty) c → AreStrs c empty (past c)
  strs_more : {c d : Cursor} {empty others : Bool} → Begins (kind.Str empty) c → AreStrs (past c) others d → AreStrs c (empty && others) d

-- BYTES+
pub data AreOctets : Cursor → Bool → Cursor → Type 0 where
  octets_one : {c : Cursor} {empty : Bool} → Begins (kind.Bytes empty) c → AreOctets c empty (past c)
  octets_more : {c d : Cursor} {empty others : Bool} → Begins (kind.Bytes empty) c → AreOctets (past c) others d → AreOctets c (empty && others) d

-- COMPARE: "<" | ">" | "<=" | ">=" | "==" | "!=" | "is" | "is" "not" | "in" | "not" "in"
pub data IsComparison : Cursor → CompareOp → Cursor → Type 0 where
  comparison_less : {c : Cursor} → BeginsOp op.Less c → IsComparison c cmp.Less (past c)
  comparison_greater : {c : Cursor} → BeginsOp op.Greater c → IsComparison c cmp.Greater (past c)
  comparison_less_eq : {c : Cursor} → BeginsOp op.LessEq c → IsComparison c cmp.LessEq (past c)
  comparison_greater_eq : {c : Cursor} → BeginsOp op.GreaterEq c → IsComparison c cmp.GreaterEq (past c)
  comparison_equal : {c : Cursor} → BeginsOp op.EqEq c → IsComparison c cmp.Equal (past c)
  comparison_not_equal : {c : Cursor} → BeginsOp op.NotEq c → IsComparison c cmp.NotEqual (past c)
  comparison_is : {c : Cursor} → BeginsWord word.KwIs c → (BeginsWord word.KwNot (past c) → ⊥) → IsComparison c cmp.Is (past c)
  comparison_is_not : {c : Cursor} → BeginsWord word.KwIs c → BeginsWord word.KwNot (past c) → IsComparison c cmp.IsNot (past_two c)
  comparison_within : {c : Cursor} → BeginsWord word.KwIn c → IsComparison c cmp.Within (past c)
  comparison_not_within : {c : Cursor} → BeginsWord word.KwNot c → BeginsWord word.KwIn (past c) → IsComparison c cmp.NotWithin (past_two c)

mutual
  -- test: or ("if" or "else" test)?
  pub data IsTest : Cursor → Expr → Cursor → Type 0 where
    test_or : {c d : Cursor} {e : Expr} → IsOr c e d → IsTest c e d
    test_choice : {c d f g : Cursor} {e t o : Expr} → IsOr c e d → BeginsWord word.KwIf d → IsOr (past d) t f → BeginsWord word.KwElse f → IsTest (past f) o g →
        IsTest c (made (tree.choice e t o) c g) (with_site g)

  -- or: and ("or" and)*
  pub data IsOr : Cursor → Expr → Cursor → Type 0 where
    or_and : {c d : Cursor} {e : Expr} → IsAnd c e d → IsOr c e d
    or_or : {c d f : Cursor} {a b : Expr} → IsOr c a d → BeginsWord word.KwOr d → IsAnd (past d) b f → IsOr c (made (tree.or a b) c f) (with_site f)

  -- and: not ("and" not)*
  pub data IsAnd : Cursor → Expr → Cursor → Type 0 where
    and_not : {c d : Cursor} {e : Expr} → IsNot c e d → IsAnd c e d
    and_and : {c d f : Cursor} {a b : Expr} → IsAnd c a d → BeginsWord word.KwAnd d → IsNot (past d) b f → IsAnd c (made (tree.and a b) c f) (with_site f)

  -- not: "not" not | compare
  pub data IsNot : Cursor → Expr → Cursor → Type 0 where
    not_compare : {c d : Cursor} {e : Expr} → IsCompare c e d → IsNot c e d
    not_not : {c d : Cursor} {e : Expr} → BeginsWord word.KwNot c → IsNot (past c) e d → IsNot c (made (tree.not e) c d) (with_site d)

  -- compare: bitor (COMPARE bitor)?
  pub data IsCompare : Cursor → Expr → Cursor → Type 0 where
    compare_one : {c d : Cursor} {e : Expr} → IsOperation 0 c e d → IsCompare c e d
    compare_two : {c d f g : Cursor} {o : CompareOp} {a b : Expr} → IsOperation 0 c a d → IsComparison d o f → IsOperation 0 f b g →
        IsCompare c (made (tree.compare o a b) c g) (with_site g)

  -- bitor, bitxor, bitand, shift, sum and term are levels 0 to 5, left-associative over their operators; a factor is of level 6
  pub data IsOperation : ℕ → Cursor → Expr → Cursor → Type 0 where
    operation_factor : {c d : Cursor} {e : Expr} → IsFactor c e d → IsOperation 6 c e d
    operation_next : {n : ℕ} {c d : Cursor} {e : Expr} → IsOperation (suc n) c e d → IsOperation n c e d
    operation_binary : {n : ℕ} {c d f : Cursor} {a b : Expr} {t : Op} {o : BinOp} → IsOperation n c a d → BeginsOp t d → IsBinary t n o → IsOperation (suc n) (past d) b f →
        IsOperation n c (made (tree.binary o a b) c f) (with_site f)

  -- factor: ("+" | "-" | "~") factor | power
  pub data IsFactor : Cursor → Expr → Cursor → Type 0 where
    factor_power : {c d : Cursor} {e : Expr} → IsPower c e d → IsFactor c e d
    factor_unary : {c d : Cursor} {e : Expr} {t : Op} {o : UnaryOp} → BeginsOp t c → IsUnary t o → IsFactor (past c) e d → IsFactor c (made (tree.unary o e) c d) (with_site d)

  -- power: primary ("**" factor)?
  pub data IsPower : Cursor → Expr → Cursor → Type 0 where
    power_primary : {c d : Cursor} {e : Expr} → IsPrimary c e d → IsPower c e d
    power_pow : {c d f : Cursor} {a b : Expr} → IsPrimary c a d → BeginsOp op.DoubleStar d → IsFactor (past d) b f → IsPower c (made (tree.binary bin.Pow a b) c f) (with_site f)

  -- primary: atom trailer*, where trailer: "." NAME | "(" args? ")" | "[" tests "]" | "[" slice "]"
  pub data IsPrimary : Cursor → Expr → Cursor → Type 0 where
    primary_atom : {c d : Cursor} {e : Expr} → IsAtom c e d → IsPrimary c e d
    primary_attr : {c d : Cursor} {e : Expr} {n : ℕ} → IsPrimary c e d → BeginsOp op.Dot d → IsPlainName (past d) n → IsPrimary c (made (tree.attr e n) c (past_two d)) (with_site (past_two d))
    primary_call : {c d f : Cursor} {e : Expr} {as' : Args} → IsPrimary c e d → BeginsOp op.LeftParen d → AreArgs false (past d) as' f → BeginsOp op.RightParen f →
        IsPrimary c (made (tree.call e as') c (past f)) (with_site (past f))
    primary_item : {c d f : Cursor} {e i : Expr} → IsPrimary c e d → BeginsOp op.LeftSquare d → IsTests (past d) i f → BeginsOp op.RightSquare f →
        IsPrimary c (made (tree.item e i) c (past f)) (with_site (past f))
    primary_slice : {c d f : Cursor} {e : Expr} {l u s : Bound} → IsPrimary c e d → BeginsOp op.LeftSquare d → IsSlice (past d) l u s f → BeginsOp op.RightSquare f →
        IsPrimary c (made (tree.slice e l u s) c (past f)) (with_site (past f))

  -- slice: test? ":" test? (":" test?)?
  pub data IsSlice : Cursor → Bound → Bound → Bound → Cursor → Type 0 where
    slice_two : {c d f : Cursor} {l u : Bound} → IsBound c l d → BeginsOp op.Colon d → IsBound (past d) u f → IsSlice c l u no_bound f
    slice_three : {c d f g : Cursor} {l u s : Bound} → IsBound c l d → BeginsOp op.Colon d → IsBound (past d) u f → BeginsOp op.Colon f → IsBound (past f) s g → IsSlice c l u s g

  -- test?
  pub data IsBound : Cursor → Bound → Cursor → Type 0 where
    bound_none : {c : Cursor} → IsBound c no_bound c
    bound_some : {c d : Cursor} {e : Expr} → IsTest c e d → IsBound c (bound e) d

  -- args?, where args: arg ("," arg)* ","?, and whether a keyword argument stands before; a positional one follows none
  pub data AreArgs : Bool → Cursor → Args → Cursor → Type 0 where
    args_none : {b : Bool} {c : Cursor} → AreArgs b c no_args c
    args_last : {b b' : Bool} {c d : Cursor} {n : Option ℕ} {e : Expr} → IsArg b c n e b' d → AreArgs b c (arg n e no_args) d
    args_more : {b b' : Bool} {c d f : Cursor} {n : Option ℕ} {e : Expr} {as' : Args} → IsArg b c n e b' d → BeginsOp op.Comma d → AreArgs b' (past d) as' f → AreArgs b c (arg n e as') f

  -- arg: test | NAME "=" test, and whether a keyword argument stands before it and after it
  pub data IsArg : Bool → Cursor → Option ℕ → Expr → Bool → Cursor → Type 0 where
    arg_test : {c d : Cursor} {e : Expr} → IsTest c e d → IsArg false c None e false d
    arg_named : {b : Bool} {c d : Cursor} {n : ℕ} {e : Expr} → IsName c n → BeginsOp op.Assign (past c) → IsTest (past_two c) e d → IsArg b c (Some n) e true d

  -- atom: NAME | INT | FLOAT | STR+ | BYTES+ | "None" | "True" | "False"
  --     | "(" tests? ")" | "[" tests? "]" | "{" (pair ("," pair)* ","?)? "}" | "super" "(" ")" "." NAME
  pub data IsAtom : Cursor → Expr → Cursor → Type 0 where
    atom_name : {c : Cursor} {n : ℕ} → IsVariable c n → IsAtom c (made (tree.name n) c (past c)) (with_site (past c))
    atom_int : {c : Cursor} {n : ℕ} → Begins (kind.Int n) c → IsAtom c (made (tree.literal (lit.Int false n)) c (past c)) (with_site (past c))
    atom_float : {c : Cursor} → Begins kind.Float c → IsAtom c (made (tree.literal lit.Float) c (past c)) (with_site (past c))
    atom_strs : {c d : Cursor} {empty : Bool} → AreStrs c empty d → IsAtom c (made (tree.literal (lit.Str empty)) c d) (with_site d)
    atom_octets : {c d : Cursor} {empty : Bool} → AreOctets c empty d → IsAtom c (made (tree.literal (lit.Bytes empty)) c d) (with_site d)
    atom_none : {c : Cursor} → BeginsWord word.KwNone c → IsAtom c (made (tree.literal lit.NoneValue) c (past c)) (with_site (past c))
    atom_true : {c : Cursor} → BeginsWord word.KwTrue c → IsAtom c (made (tree.literal lit.TrueValue) c (past c)) (with_site (past c))
    atom_false : {c : Cursor} → BeginsWord word.KwFalse c → IsAtom c (made (tree.literal lit.FalseValue) c (past c)) (with_site (past c))
    atom_unit : {c : Cursor} → BeginsOp op.LeftParen c → BeginsOp op.RightParen (past c) → IsAtom c (made (tree.tuple no_exprs) c (past_two c)) (with_site (past_two c))
    atom_group : {c d : Cursor} {e : Expr} → BeginsOp op.LeftParen c → IsTests (past c) e d → BeginsOp op.RightParen d → IsAtom c e (past d)
    atom_empty_list : {c : Cursor} → BeginsOp op.LeftSquare c → BeginsOp op.RightSquare (past c) → IsAtom c (made (tree.list no_exprs) c (past_two c)) (with_site (past_two c))
    atom_list : {c d : Cursor} {es : Exprs} → BeginsOp op.LeftSquare c → AreTests (past c) es d → BeginsOp op.RightSquare d → IsAtom c (made (tree.list es) c (past d)) (with_site (past d))
    atom_dict : {c d : Cursor} {ps : Pairs} → BeginsOp op.LeftBrace c → ArePairs (past c) ps d → BeginsOp op.RightBrace d → IsAtom c (made (tree.dict ps) c (past d)) (with_site (past d))
    atom_super : {c : Cursor} {m n : ℕ} → IsName c m → is_super (text_of c m) ≡ true → BeginsOp op.LeftParen (past c) → BeginsOp op.RightParen (past_two c) → BeginsOp op.Dot (past (past_two c)) → IsPlainName (past_two (past_two c)) n →
        IsAtom c (made (tree.super n) c (past (past_two (past_two c)))) (with_site (past (past_two (past_two c))))

  -- (pair ("," pair)* ","?)?, where pair: test ":" test
  pub data ArePairs : Cursor → Pairs → Cursor → Type 0 where
    pairs_none : {c : Cursor} → ArePairs c no_pairs c
    pairs_last : {c d f : Cursor} {k v : Expr} → IsTest c k d → BeginsOp op.Colon d → IsTest (past d) v f → ArePairs c (pair k v no_pairs) f
    pairs_more : {c d f g : Cursor} {k v : Expr} {ps : Pairs} → IsTest c k d → BeginsOp op.Colon d → IsTest (past d) v f → BeginsOp op.Comma f → ArePairs (past f) ps g → ArePairs c (pair k v ps) g

  -- tests: test ("," test)* ","?, as a list
  pub data AreTests : Cursor → Exprs → Cursor → Type 0 where
    tests_last : {c d : Cursor} {e : Expr} → IsTest c e d → AreTests c (expr e no_exprs) d
    tests_comma : {c d : Cursor} {e : Expr} → IsTest c e d → BeginsOp op.Comma d → AreTests c (expr e no_exprs) (past d)
    tests_more : {c d f : Cursor} {e : Expr} {es : Exprs} → IsTest c e d → BeginsOp op.Comma d → AreTests (past d) es f → AreTests c (expr e es) f

  -- tests, as one expression: with a comma it is a tuple
  pub data IsTests : Cursor → Expr → Cursor → Type 0 where
    tests_one : {c d : Cursor} {e : Expr} → IsTest c e d → IsTests c e d
    tests_single : {c d : Cursor} {e : Expr} → IsTest c e d → BeginsOp op.Comma d → IsTests c (made (tree.tuple (expr e no_exprs)) c (past d)) (with_site (past d))
    tests_tuple : {c d f : Cursor} {e : Expr} {es : Exprs} → IsTest c e d → BeginsOp op.Comma d → AreTests (past d) es f → IsTests c (made (tree.tuple (expr e es)) c f) (with_site f)
