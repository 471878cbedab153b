-- What expressions and targets say of names, in the order of the text.
use Rattle.std.specs.Prelude.{ℕ, List, [], ◌∷◌, ◌++◌, Option, Some, None}
use Rattle.py_tree.specs.Tree.{Expr, node, name, literal, unary, binary, compare, not, and, or, choice, attr, super, item, slice, call, tuple, list, dict, Exprs, no_exprs, expr, Bound, no_bound, bound, Args, no_args, arg, Pairs, no_pairs, pair}
use Rattle.scope_rules.specs.declared.mention.Mention.{Mention}
use Rattle.scope_rules.specs.declared.mention.Role.{Role}
use Rattle.scope_rules.specs.declared.mention.Role.TheVariants as role

-- a name at a line, and what stands there for it
abbrev pub at : Role → ℕ → ℕ → Mention
at r n line = record { name = n; role = r; line = line }

-- The names that an expression has as parts, and the names that it takes from `super()`, each at its own line.
abbrev mutual
  pub mentions : Expr → List Mention
  mentions (node (name n) l s) = at role.Name n l ∷ []
  mentions (node (literal x) l s) = []
  mentions (node (unary op a) l s) = mentions a
  mentions (node (binary op a b) l s) = mentions a ++ mentions b
  mentions (node (compare op a b) l s) = mentions a ++ mentions b
  mentions (node (not a) l s) = mentions a
  mentions (node (and a b) l s) = mentions a ++ mentions b
  mentions (node (or a b) l s) = mentions a ++ mentions b
  mentions (node (choice a b c) l s) = mentions a ++ mentions b ++ mentions c
  mentions (node (attr a n) l s) = mentions a
  mentions (node (super n) l s) = at role.Super n l ∷ []
  mentions (node (item a b) l s) = mentions a ++ mentions b
  mentions (node (slice a b c d) l s) = mentions a ++ mentions_in b ++ mentions_in c ++ mentions_in d
  mentions (node (call a xs) l s) = mentions a ++ mentions_of_args xs
  mentions (node (tuple xs) l s) = mentions_of_all xs
  mentions (node (list xs) l s) = mentions_of_all xs
  mentions (node (dict xs) l s) = mentions_of_pairs xs

  pub mentions_of_all : Exprs → List Mention
  mentions_of_all no_exprs = []
  mentions_of_all (expr x xs) = mentions x ++ mentions_of_all xs

  pub mentions_in : Bound → List Mention
  mentions_in no_bound = []
  mentions_in (bound x) = mentions x

  pub mentions_of_args : Args → List Mention
  mentions_of_args no_args = []
  mentions_of_args (arg n x xs) = mentions x ++ mentions_of_args xs

  pub mentions_of_pairs : Pairs → List Mention
  mentions_of_pairs no_pairs = []
  mentions_of_pairs (pair k x xs) = mentions k ++ mentions x ++ mentions_of_pairs xs

-- What a target binds, at the line of its statement, and the attributes that it stores to, each at its own line. An attribute
-- that is annotated without a value gets the role of an annotation.
abbrev mutual
  pub targets : Role → ℕ → Expr → List Mention
  targets r line (node (name n) l s) = at role.Value n line ∷ []
  targets r line (node (attr a n) l s) = at r n l ∷ []
  targets r line (node (tuple xs) l s) = targets_of_all r line xs
  targets r line (node (list xs) l s) = targets_of_all r line xs
  targets r line (node _ l s) = []

  pub targets_of_all : Role → ℕ → Exprs → List Mention
  targets_of_all r line no_exprs = []
  targets_of_all r line (expr x xs) = targets r line x ++ targets_of_all r line xs

abbrev pub mentions_of_option : Option Expr → List Mention
mentions_of_option None = []
mentions_of_option (Some x) = mentions x
