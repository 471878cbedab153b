-- From a file's bytes to its stub, or to what refuses it.
use Rattle.std.proofs.Common.{◌≡◌, ℕ, ◌≤◌, List, [], ◌∷◌, ◌++◌, length, codes, Option, Some, None, option_map, Result, Ok, Err, IfOk, MatchResult, refl, sym, ap, ◌∙◌, subst}
use Rattle.std.specs.Str.{IsUtf8, IsValidUpTo}
use Rattle.std.specs.Fmt.{decimal}
use Rattle.std.proofs.lemmas.Result.{IfOk-weaker}
use Rattle.std.proofs.lemmas.Str.{utf8_valid_len-IsValidUpTo}
use Rattle.py_tokens.specs.declared.fault.TokenFault.{TokenFault}
use Rattle.py_tokens.specs.TokenList.{TokenList}
use Rattle.py_tokens.specs.Readings.{HasTokens, HasFault}
use Rattle.py_tree.specs.Tree.{Module}
use Rattle.py_parse.specs.Parses.{IsReading}
use Rattle.scope_rules.specs.declared.fault.Fault.{Fault}
use Rattle.scope_rules.specs.declared.fault.Rule.{Rule}
use Rattle.scope_rules.specs.declared.fault.Rule.TheVariants as rule
use Rattle.scope_rules.specs.declared.scope_fault.ScopeFault.{ScopeFault}
use Rattle.scope_rules.specs.Answers.{told_as, told}
use Rattle.scope_rules.specs.Faults.{first, faults}
use Rattle.built_forms.specs.Least.{lesser, least_from, least}
use Rattle.built_forms.specs.Unbuilt.{unbuilt}
use Rattle.pyi_write.specs.Layout.{stub_text}
use Rattle.py_infer.specs.FaultNames.{fault_line, fault_name, rule_name, scope_line, scope_name}
use Rattle.py_infer.specs.Judging.{IsStubOf, IsStubOfTokens, IsStubOfTree}
use Rattle.py_infer.specs.Modules.{lines_of}
use Rattle.py_infer.specs.Stubs.{Rows, AreRowsOf, stub_of}
use Rattle.py_infer.specs.Reports.{line_report, whole_report, RefusesTree, for_rule, RefusesTokens, for_tree, Refuses, for_bytes, for_fault, for_text}

some_of_least : (line : ℕ) (lines : List ℕ) → None ≡ least_from (Some line) lines → ⊥
some_of_least line [] h = absurd (cc)
some_of_least line (n ∷ ns) h = some_of_least (lesser (Some line) n) ns h

-- lines that have no least one are none
pub none_of_least : (lines : List ℕ) → None ≡ least lines → lines ≡ []
none_of_least [] h = refl
none_of_least (n ∷ ns) h = absurd (some_of_least (lesser None n) ns h)

-- ---- static rules

told_line : (r : Rule) (line : ℕ) → scope_line (told_as r line) ≡ line
told_line rule.Rebound line = refl
told_line rule.BuiltinBound line = refl
told_line rule.BaseUnknown line = refl
told_line rule.DuplicateParam line = refl
told_line rule.BreakOutsideLoop line = refl
told_line rule.ReturnOutside line = refl
told_line rule.InitReturns line = refl
told_line rule.SuperUse line = refl
told_line rule.MethodRule line = refl

told_name : (r : Rule) (line : ℕ) → scope_name (told_as r line) ≡ rule_name r
told_name rule.Rebound line = refl
told_name rule.BuiltinBound line = refl
told_name rule.BaseUnknown line = refl
told_name rule.DuplicateParam line = refl
told_name rule.BreakOutsideLoop line = refl
told_name rule.ReturnOutside line = refl
told_name rule.InitReturns line = refl
told_name rule.SuperUse line = refl
told_name rule.MethodRule line = refl

-- the report of the first broken rule
pub rule_broken : (m : Module) (found : ScopeFault) (report : List ℕ) → Some found ≡ option_map told (first (faults m)) →
    report ≡ line_report (scope_line found) (scope_name found) → RefusesTree m report
rule_broken m found report is said = by_first (first (faults m)) refl is
  where
    by_first : (o : Option Fault) → first (faults m) ≡ o → Some found ≡ option_map told o → RefusesTree m report
    by_first None none h = absurd (cc)
    by_first (Some fault) broken h =
        let same : found ≡ told fault = cc in
        for_rule fault broken
        (said ∙ ap (λ f. line_report (scope_line f) (scope_name f)) same ∙ ap (λ n. line_report n (scope_name (told fault))) (told_line fault.rule fault.line) ∙ ap (line_report fault.line) (told_name fault.rule fault.line))

-- where no rule is answered, none is broken
pub none_broken : (m : Module) → None ≡ option_map told (first (faults m)) → first (faults m) ≡ None
none_broken m is = by_first (first (faults m)) refl is
  where
    by_first : (o : Option Fault) → first (faults m) ≡ o → None ≡ option_map told o → first (faults m) ≡ None
    by_first None none h = none
    by_first (Some fault) broken h = absurd (cc)

-- what a tree that is built gives is its stub
pub stub_of_tree : (m : Module) (rows : Rows) (stub : List ℕ) → first (faults m) ≡ None → unbuilt m ≡ [] → AreRowsOf (lines_of m) rows → stub ≡ stub_text (stub_of rows) → IsStubOfTree m stub
stub_of_tree m rows stub lawful built are said = record { rows = rows; lawful = lawful; built = built; rows_are = are; text = said }

-- ---- tokens and bytes

-- what is found of the tree of tokens is found of them
pub from_tree : {E : Type 0} (t : TokenList) (m : Module) → IsReading t m → (r : Result (Result (List ℕ) (List ℕ)) E) →
    IfOk r (λ found. MatchResult found (IsStubOfTree m) (RefusesTree m)) → IfOk r (λ found. MatchResult found (IsStubOfTokens t) (RefusesTokens t))
from_tree t m is r h = IfOk-weaker r (λ found. MatchResult found (IsStubOfTree m) (RefusesTree m)) (λ found. MatchResult found (IsStubOfTokens t) (RefusesTokens t)) by_answer h
  where
    by_answer : (found : Result (List ℕ) (List ℕ)) → MatchResult found (IsStubOfTree m) (RefusesTree m) → MatchResult found (IsStubOfTokens t) (RefusesTokens t)
    by_answer (Ok stub) f = record { tree = m; reading = is; stub_is = f }
    by_answer (Err report) f = for_tree m is f

module _ (bytes : List ℕ) (short : length bytes ≤ 262144) where
  pub not_text : (valid : ℕ) (report : List ℕ) → (IsUtf8 bytes → ⊥) → IsValidUpTo bytes valid → report ≡ whole_report (codes "not-utf8 at " ++ decimal valid) → Refuses bytes report
  not_text valid report none up said =
      for_bytes short none (said ∙ ap (λ n. whole_report (codes "not-utf8 at " ++ decimal n)) (sym (utf8_valid_len-IsValidUpTo bytes valid up)))

  module _ (text : List ℕ) (same : text ≡ bytes) (utf8 : IsUtf8 bytes) where
    pub at_fault : (fault : TokenFault) (report : List ℕ) → HasFault text fault → report ≡ line_report (fault_line fault) (fault_name fault) → Refuses bytes report
    at_fault fault report has said = for_fault fault short utf8 (subst (λ t. HasFault t fault) same has) said

    -- what is found of the tokens of bytes is found of them
    pub from_tokens : {E : Type 0} (t : TokenList) → HasTokens text t.tokens t.names → (r : Result (Result (List ℕ) (List ℕ)) E) →
        IfOk r (λ found. MatchResult found (IsStubOfTokens t) (RefusesTokens t)) → IfOk r (λ found. MatchResult found (IsStubOf bytes) (Refuses bytes))
    from_tokens t has r h = IfOk-weaker r (λ found. MatchResult found (IsStubOfTokens t) (RefusesTokens t)) (λ found. MatchResult found (IsStubOf bytes) (Refuses bytes)) by_answer h
      where
        reads : HasTokens bytes t.tokens t.names
        reads = subst (λ b. HasTokens b t.tokens t.names) same has

        by_answer : (found : Result (List ℕ) (List ℕ)) → MatchResult found (IsStubOfTokens t) (RefusesTokens t) → MatchResult found (IsStubOf bytes) (Refuses bytes)
        by_answer (Ok stub) f = record {
          lines = lines_of f.tree;
          rows = f.stub_is.rows;
          module_is = record {
            short = short;
            utf8 = utf8;
            tokens = t.tokens;
            names = t.names;
            reads = reads;
            tree = f.tree;
            reading = f.reading;
            lawful = f.stub_is.lawful;
            built = f.stub_is.built;
            lines_are = refl;
          };
          rows_are = f.stub_is.rows_are;
          text = f.stub_is.text;
        }
        by_answer (Err report) f = for_text t.tokens t.names short utf8 reads f
