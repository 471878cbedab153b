-- Why a file is refused, and what is said of it after its name.
use Rattle.std.specs.Prelude.{◌≡◌, ◌≢◌, ℕ, ◌≤◌, ◌<◌, List, [], ◌∷◌, ◌++◌, codes, length, None, Some}
use Rattle.std.specs.Fmt.{decimal}
use Rattle.std.specs.Str.{IsUtf8}
use Rattle.std.specs.Str.Lossy.{utf8_valid_len}
use Rattle.py_tokens.specs.declared.token.Token.{Token}
use Rattle.py_tokens.specs.declared.fault.TokenFault.{TokenFault}
use Rattle.py_tokens.specs.Readings.{HasTokens, HasFault}
use Rattle.py_tokens.specs.TokenList.{TokenList}
use Rattle.py_tree.specs.Tree.{Module}
use Rattle.py_parse.specs.declared.fault.ParseFault.{ParseFault}
use Rattle.py_parse.specs.declared.fault.ParseFault.TheVariants as parse
use Rattle.py_parse.specs.Parses.{IsReading, IsCause}
use Rattle.scope_rules.specs.declared.fault.Fault.{Fault}
use Rattle.scope_rules.specs.Faults.{first, faults}
use Rattle.built_forms.specs.Least.{least}
use Rattle.built_forms.specs.Unbuilt.{unbuilt}
use Rattle.py_infer.specs.FaultNames.{fault_name, fault_line, parse_name, parse_line, rule_name}

-- a reason that holds of the whole file
abbrev pub whole_report : List ℕ → List ℕ
whole_report reason = codes ": refused: " ++ reason ++ 10 ∷ []

-- a reason that holds of a line
abbrev pub line_report : ℕ → List ℕ → List ℕ
line_report line reason = codes ":" ++ decimal line ++ whole_report reason

-- A module's tree is refused, and this is said: the first of two reasons that holds.
pub data RefusesTree (m : Module) (report : List ℕ) : Type 0 where
  -- It breaks this static rule first: at the least line, and there the rule with the least number.
  for_rule : (fault : Fault) → first (faults m) ≡ Some fault → report ≡ line_report fault.line (rule_name fault.rule) → RefusesTree m report
  -- It breaks none, and this is the least line of a node whose form isn't built.
  for_form : (line : ℕ) → first (faults m) ≡ None → least (unbuilt m) ≡ Some line → report ≡ line_report line (codes "out-of-profile later") → RefusesTree m report

-- Tokens are refused, and this is said.
pub data RefusesTokens (t : TokenList) (report : List ℕ) : Type 0 where
  -- They have no tree, or are nested too deep. Of which token the report speaks is not said; it calls them too deep only where they are.
  for_tokens : (found : ParseFault) → found ≢ parse.Memory → IsCause t found → report ≡ line_report (parse_line found) (parse_name found) → RefusesTokens t report
  -- They have this tree, which is refused.
  for_tree : (m : Module) → IsReading t m → RefusesTree m report → RefusesTokens t report

-- The bytes are refused, and this is said of them: the first of the reasons that holds.
pub data Refuses (bytes report : List ℕ) : Type 0 where
  -- They are too many.
  for_length : 262144 < length bytes → report ≡ whole_report (codes "too-long") → Refuses bytes report
  -- They are no text; the longest front that is one has this length.
  for_bytes : length bytes ≤ 262144 → (IsUtf8 bytes → ⊥) → report ≡ whole_report (codes "not-utf8 at " ++ decimal (utf8_valid_len bytes)) → Refuses bytes report
  -- The text has this fault, and no tokens.
  for_fault : (found : TokenFault) → length bytes ≤ 262144 → IsUtf8 bytes → HasFault bytes found → report ≡ line_report (fault_line found) (fault_name found) → Refuses bytes report
  -- The text has these tokens, which are refused.
  for_text : (tokens : List Token) (names : List (List ℕ)) → length bytes ≤ 262144 → IsUtf8 bytes → HasTokens bytes tokens names →
      RefusesTokens (record { tokens = tokens; names = names }) report → Refuses bytes report
