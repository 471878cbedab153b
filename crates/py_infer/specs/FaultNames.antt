-- How a report names faults, and the lines that they are on. Want of memory is no fault of a text: it has no name, and is on
-- no line.
use Rattle.std.specs.Prelude.{ℕ, List, [], ◌++◌, codes}
use Rattle.py_tokens.specs.declared.fault.TokenFault.{TokenFault}
use Rattle.py_tokens.specs.declared.fault.TokenFault.TheVariants as fault
use Rattle.py_tokens.specs.declared.form.Form.{Form}
use Rattle.py_tokens.specs.declared.form.Form.TheVariants as form
use Rattle.py_parse.specs.declared.fault.ParseFault.{ParseFault}
use Rattle.py_parse.specs.declared.fault.ParseFault.TheVariants as parse
use Rattle.scope_rules.specs.declared.fault.Rule.{Rule}
use Rattle.scope_rules.specs.declared.fault.Rule.TheVariants as rule
use Rattle.scope_rules.specs.declared.scope_fault.ScopeFault.{ScopeFault}
use Rattle.scope_rules.specs.declared.scope_fault.ScopeFault.TheVariants as scope

abbrev pub fault_name : TokenFault → List ℕ
fault_name (fault.BadIndent span) = codes "bad-indent"
fault_name (fault.MixedTabs span) = codes "mixed-tabs"
fault_name (fault.BadCharacter span) = codes "bad-character"
fault_name (fault.OpenString span) = codes "open-string"
fault_name (fault.OpenBracket span) = codes "open-bracket"
fault_name (fault.BadNumber span) = codes "bad-number"
fault_name (fault.WideInt span) = codes "wide-int"
fault_name (fault.NotNfkc span) = codes "not-nfkc"
fault_name (fault.Prefix span) = codes "prefix"
fault_name fault.Memory = []

abbrev pub fault_line : TokenFault → ℕ
fault_line (fault.BadIndent span) = span.line
fault_line (fault.MixedTabs span) = span.line
fault_line (fault.BadCharacter span) = span.line
fault_line (fault.OpenString span) = span.line
fault_line (fault.OpenBracket span) = span.line
fault_line (fault.BadNumber span) = span.line
fault_line (fault.WideInt span) = span.line
fault_line (fault.NotNfkc span) = span.line
fault_line (fault.Prefix span) = span.line
fault_line fault.Memory = 0

-- the forms that are outside the profile
abbrev pub form_name : Form → List ℕ
form_name form.Lambda = codes "lambda"
form_name form.Yield = codes "yield"
form_name form.Async = codes "async"
form_name form.Await = codes "await"
form_name form.With = codes "with"
form_name form.Finally = codes "finally"
form_name form.Del = codes "del"
form_name form.Nonlocal = codes "nonlocal"
form_name form.Global = codes "global"
form_name form.NestedFunction = codes "nested-function"
form_name form.NestedClass = codes "nested-class"
form_name form.Decorator = codes "decorator"
form_name form.Comprehension = codes "comprehension"
form_name form.Walrus = codes "walrus"
form_name form.StarParam = codes "star-param"
form_name form.StarArg = codes "star-arg"
form_name form.LoopElse = codes "loop-else"
form_name form.ChainedCompare = codes "chained-compare"
form_name form.Complex = codes "complex"
form_name form.MultipleBases = codes "multiple-bases"
form_name form.ClassKeyword = codes "class-keyword"
form_name form.SpecialMethod = codes "special-method"
form_name form.SpecialAttribute = codes "special-attribute"
form_name form.PrivateName = codes "private-name"
form_name form.Default = codes "default"
form_name form.SuperForm = codes "super-form"
form_name form.SetDisplay = codes "set-display"
form_name form.DottedImport = codes "dotted-import"
form_name form.RelativeImport = codes "relative-import"
form_name form.StarImport = codes "star-import"
form_name form.SliceStore = codes "slice-store"
form_name form.Ellipsis = codes "ellipsis"
form_name form.ClassBody = codes "class-body"

-- why tokens have no tree
abbrev pub parse_name : ParseFault → List ℕ
parse_name (parse.Unexpected span) = codes "unexpected-token"
parse_name (parse.OutOfProfile form span) = codes "out-of-profile " ++ form_name form
parse_name (parse.TooDeep span) = codes "too-deep"
parse_name parse.Memory = []

abbrev pub parse_line : ParseFault → ℕ
parse_line (parse.Unexpected span) = span.line
parse_line (parse.OutOfProfile form span) = span.line
parse_line (parse.TooDeep span) = span.line
parse_line parse.Memory = 0

-- the static rules
abbrev pub rule_name : Rule → List ℕ
rule_name rule.Rebound = codes "rebound"
rule_name rule.BuiltinBound = codes "builtin-bound"
rule_name rule.BaseUnknown = codes "base-unknown"
rule_name rule.DuplicateParam = codes "duplicate-param"
rule_name rule.BreakOutsideLoop = codes "break-outside-loop"
rule_name rule.ReturnOutside = codes "return-outside"
rule_name rule.InitReturns = codes "init-returns"
rule_name rule.SuperUse = codes "super-use"
rule_name rule.MethodRule = codes "method-rule"

-- the static rule that a fault names, and its line
abbrev pub scope_name : ScopeFault → List ℕ
scope_name (scope.Rebound line) = rule_name rule.Rebound
scope_name (scope.BuiltinBound line) = rule_name rule.BuiltinBound
scope_name (scope.BaseUnknown line) = rule_name rule.BaseUnknown
scope_name (scope.DuplicateParam line) = rule_name rule.DuplicateParam
scope_name (scope.BreakOutsideLoop line) = rule_name rule.BreakOutsideLoop
scope_name (scope.ReturnOutside line) = rule_name rule.ReturnOutside
scope_name (scope.InitReturns line) = rule_name rule.InitReturns
scope_name (scope.SuperUse line) = rule_name rule.SuperUse
scope_name (scope.MethodRule line) = rule_name rule.MethodRule
scope_name scope.Memory = []

abbrev pub scope_line : ScopeFault → ℕ
scope_line (scope.Rebound line) = line
scope_line (scope.BuiltinBound line) = line
scope_line (scope.BaseUnknown line) = line
scope_line (scope.DuplicateParam line) = line
scope_line (scope.BreakOutsideLoop line) = line
scope_line (scope.ReturnOutside line) = line
scope_line (scope.InitReturns line) = line
scope_line (scope.SuperUse line) = line
scope_line (scope.MethodRule line) = line
scope_line scope.Memory = 0
