-- A file is refused in one way, or is a plain module.
use Rattle.std.proofs.Common.{◌≡◌, ℕ, List, [], Option, Some, None, IsSomeAnd, refl, sym, ap, ◌∙◌, subst, arith}
use Rattle.outside_io.specs.Outside.{Files}
use Rattle.py_tokens.specs.declared.token.Token.{Token}
use Rattle.py_tokens.specs.declared.fault.TokenFault.{TokenFault}
use Rattle.py_tokens.specs.Readings.{HasTokens, HasFault}
use Rattle.py_tokens.specs.TokenList.{TokenList}
use Rattle.py_grammar.specs.Cursor.{Cursor}
use Rattle.py_grammar.specs.Modules.{IsModuleOf}
use Rattle.py_tree.specs.Tree.{Module, Stmts}
use Rattle.py_descent.specs.Laws.{IsComplete}
use Rattle.py_descent.specs.Programs.{gives}
use Rattle.py_parse.specs.declared.fault.ParseFault.{ParseFault}
use Rattle.py_parse.specs.declared.fault.ParseFault.TheVariants as parse
use Rattle.py_parse.specs.Parses.{IsReading, HasNoTree, no_module, too_deep, IsCause}
use Rattle.scope_rules.specs.Faults.{first, faults}
use Rattle.built_forms.specs.Least.{least}
use Rattle.built_forms.specs.Unbuilt.{unbuilt}
use Rattle.py_infer.specs.Lines.{Line}
use Rattle.py_infer.specs.Modules.{IsModule}
use Rattle.py_infer.specs.Outputs.{HoldsModule, HoldsRefused}
use Rattle.py_infer.specs.Reports.{RefusesTree, for_rule, for_form, RefusesTokens, for_tokens, for_tree, Refuses, for_length, for_bytes, for_fault, for_text}

-- what the laws of tokens say
abbrev pub OneReading : Type 0
OneReading = (text : List ℕ) (tokens others : List Token) (names more : List (List ℕ)) → HasTokens text tokens names → HasTokens text others more → (tokens ≡ others) × (names ≡ more)

abbrev pub NeverBoth : Type 0
NeverBoth = (text : List ℕ) (tokens : List Token) (names : List (List ℕ)) (found : TokenFault) → HasTokens text tokens names → HasFault text found → ⊥

one_body : (a b : Stmts) (c d : Cursor) → gives a c ≡ gives b d → a ≡ b
one_body a b c d h = cc

-- tokens have one tree at most, since the descent finds it
one_tree : IsComplete → (t : TokenList) (m n : Module) → IsModuleOf t m → IsModuleOf t n → m ≡ n
one_tree complete t m n is also =
    let here = complete t m.body is.end is.body is.ends in
    let there = complete t n.body also.end also.body also.ends in
    let body : m.body ≡ n.body = one_body m.body n.body is.end also.end (sym here ∙ there) in
    let whole : List (List ℕ) → Stmts → Module = λ names body. record { body = body; names = names } in
    ap (whole m.names) body ∙ ap (λ names. whole names n.body) (is.names ∙ sym also.names)

-- a fault has no cause where the tokens have a tree
no_cause : (t : TokenList) (m : Module) → IsReading t m → (found : ParseFault) → (found ≡ parse.Memory → ⊥) → IsCause t found → ⊥
no_cause t m is (parse.Unexpected span) some cause = no_tree cause
  where
    no_tree : HasNoTree t → ⊥
    no_tree (no_module none) = none m is.reads
    no_tree (too_deep deep) = is.shallow deep
no_cause t m is (parse.OutOfProfile form span) some cause = no_tree cause
  where
    no_tree : HasNoTree t → ⊥
    no_tree (no_module none) = none m is.reads
    no_tree (too_deep deep) = is.shallow deep
no_cause t m is (parse.TooDeep span) some cause = is.shallow cause
no_cause t m is parse.Memory some cause = some refl

-- a tree that keeps the rules and has only forms that are built isn't refused
never_refused : (m : Module) (report : List ℕ) → first (faults m) ≡ None → unbuilt m ≡ [] → RefusesTree m report → ⊥
never_refused m report lawful built (for_rule fault broken said) = let both : Some fault ≡ None = sym broken ∙ lawful in absurd (cc)
never_refused m report lawful built (for_form line none found said) = let both : Some line ≡ None = sym found ∙ ap least built in absurd (cc)

module _ (one_reading : OneReading) (never_both : NeverBoth) (complete : IsComplete) where
  tokens_refuse : (t : TokenList) (m : Module) (report : List ℕ) → IsReading t m → first (faults m) ≡ None → unbuilt m ≡ [] → RefusesTokens t report → ⊥
  tokens_refuse t m report is lawful built (for_tokens found some cause said) = no_cause t m is found some cause
  tokens_refuse t m report is lawful built (for_tree n also refused) =
      never_refused m report lawful built (subst (λ k. RefusesTree k report) (one_tree complete t n m also.reads is.reads) refused)

  -- bytes that are refused are no plain module
  refuses_no_module : (bytes report : List ℕ) (lines : List Line) → Refuses bytes report → IsModule bytes lines → ⊥
  refuses_no_module bytes report lines (for_length long said) is = absurd (omega (arith, long, is.short))
  refuses_no_module bytes report lines (for_bytes short none said) is = none is.utf8
  refuses_no_module bytes report lines (for_fault fault short utf8 has said) is = never_both bytes is.tokens is.names fault is.reads has
  refuses_no_module bytes report lines (for_text tokens names short utf8 has refused) is =
      let same = one_reading bytes is.tokens tokens is.names names is.reads has in
      tokens_refuse (record { tokens = tokens; names = names }) is.tree report
      (subst (λ ns. IsReading (record { tokens = tokens; names = ns }) is.tree) same.1 (subst (λ ts. IsReading (record { tokens = ts; names = is.names }) is.tree) same.0 is.reading))
      is.lawful is.built refused

  -- a file that is refused holds no plain module
  pub holds_one : (files : Files) (file report : List ℕ) (lines : List Line) → HoldsRefused files file report → HoldsModule files file lines → ⊥
  holds_one files file report lines = by_file (files file)
    where
      by_file : (o : Option (List ℕ)) → IsSomeAnd o (λ bytes. Refuses bytes report) → IsSomeAnd o (λ bytes. IsModule bytes lines) → ⊥
      by_file None refuses is = refuses
      by_file (Some bytes) refuses is = refuses_no_module bytes report lines refuses is
