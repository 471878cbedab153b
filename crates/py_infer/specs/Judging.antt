-- What is said of a file's bytes, of its tokens and of its tree on the way to the answer.
use Rattle.std.specs.Prelude.{◌≡◌, ℕ, List, [], None}
use Rattle.py_tokens.specs.TokenList.{TokenList}
use Rattle.py_tree.specs.Tree.{Module}
use Rattle.py_parse.specs.Parses.{IsReading}
use Rattle.scope_rules.specs.Faults.{first, faults}
use Rattle.built_forms.specs.Unbuilt.{unbuilt}
use Rattle.pyi_write.specs.Layout.{stub_text}
use Rattle.py_infer.specs.Lines.{Line}
use Rattle.py_infer.specs.Modules.{IsModule, lines_of}
use Rattle.py_infer.specs.Stubs.{Rows, AreRowsOf, stub_of}

-- the tree keeps the static rules and has only forms that are built, and this is its stub
pub record IsStubOfTree (m : Module) (stub : List ℕ) : Type 0 where
  pub rows : Rows
  pub lawful : first (faults m) ≡ None
  pub built : unbuilt m ≡ []
  pub rows_are : AreRowsOf (lines_of m) rows
  pub text : stub ≡ stub_text (stub_of rows)

-- the tokens have such a tree
pub record IsStubOfTokens (t : TokenList) (stub : List ℕ) : Type 0 where
  pub tree : Module
  pub reading : IsReading t tree
  pub stub_is : IsStubOfTree tree stub

-- the bytes are a plain module, and this is its stub
pub record IsStubOf (bytes stub : List ℕ) : Type 0 where
  pub lines : List Line
  pub rows : Rows
  pub module_is : IsModule bytes lines
  pub rows_are : AreRowsOf lines rows
  pub text : stub ≡ stub_text (stub_of rows)
