-- What each goal of the descent finds: a tree of the grammar, or all that makes one with what stood before.
use Rattle.std.proofs.Common.{◌≡◌, ℕ, suc, ◌≤◌, true, ◌++◌, None}
use Rattle.std.specs.Option.{is_some}
use Rattle.py_tokens.specs.declared.token.Keyword.TheVariants as word
use Rattle.py_tokens.specs.declared.token.Op.TheVariants as op
use Rattle.py_grammar.specs.Cursor.{Cursor, BeginsOp, BeginsWord, past}
use Rattle.py_grammar.specs.Names.{text_of, is_super, IsName}
use Rattle.py_grammar.specs.Expressions.{IsTest, IsOr, IsAnd, IsNot, IsCompare, IsOperation, IsFactor, IsPower, IsPrimary, IsBound, AreArgs, IsArg, IsAtom, ArePairs, AreTests, IsTests}
use Rattle.py_grammar.specs.Statements.{AreDots, IsDotted, IsAnnotation, IsPart, AreItems, IsItem, IsHint, IsResult, IsSingle, IsTargets, IsImport, AreImports, IsFrom, IsSimple, IsLine, IsLiteral, IsParam, AreParams, IsBase, IsMember, then_all, IsBlock, IsStatement, AreStatements, IsCompound, AreElifs, IsElse, AreHandlers, IsCaught, IsFunction, IsClass, IsBody, IsEntry, AreEntries}
use Rattle.py_descent.specs.Takings.{binary_in}
use Rattle.py_descent.specs.Goals.{name, plain_name, dotted, dots, annotation, parts, part, items, item, hint, result, strings, octets, literal, test, disjunction, conjunction, inversion, comparison, compare_operator, factor, power, primary, atom, tests, choice, disjunctions, conjunctions, trailers, operation, operations, call_rest, subscript, slice, bounds, stride, arguments, argument, variable, super_rest, group, list_display, dict_display, pairs, tests_after, more_tests, import_part, imports, from_part, froms, return_rest, raise_rest, assert_rest, from_rest, assignment, assigned, annotated, simple_kind, simple, line, param, params, base, function, definition, class_rest, class_member, entry, class_body, entries, for_targets, more_targets, if_rest, while_rest, for_rest, try_rest, else_rest, caught, compound, block, elifs, handlers, statement, statements}
use Rattle.py_descent.specs.Programs.{said}
use Rattle.py_descent.proofs.Means.{Findings}
use Rattle.py_descent.proofs.Appends.{then_exprs, then_args, then_pairs, then_arms, then_handlers, then_members}
use Rattle.py_descent.proofs.Parts.{Behind, Since, FoundName, FoundPlain, More, OrNone, FoundStrs, FoundOctets, FoundComparison, Climbed, FoundStride, FoundFroms, FoundAssigned, FoundSimple, FoundDefinition, ArePrimaries}

abbrev pub found : Findings
found name c v d = FoundName c v d
found plain_name c v d = FoundPlain c v d
found dotted c v d = IsDotted c v d
found (dots ns) c v d = More ◌++◌ ns (AreDots c) v d
found annotation c v d = IsAnnotation c d
found parts c v d = (b : Cursor) → IsPart b c → IsAnnotation b d
found part c v d = IsPart c d
found items c v d = AreItems c d
found item c v d = IsItem c d
found hint c v d = IsHint c d
found result c v d = IsResult c d
found (strings e) c v d = FoundStrs e c v d
found (octets e) c v d = FoundOctets e c v d
found literal c v d = IsLiteral c v d
found test c v d = IsTest c v d
found disjunction c v d = IsOr c v d
found conjunction c v d = IsAnd c v d
found inversion c v d = IsNot c v d
found comparison c v d = IsCompare c v d
found compare_operator c v d = FoundComparison c v d
found factor c v d = IsFactor c v d
found power c v d = IsPower c v d
found primary c v d = IsPrimary c v d
found atom c v d = IsAtom c v d
found tests c v d = IsTests c v d
found (choice l e) c v d = (a b : Cursor) → Since a l → IsOr a e b → BeginsWord word.KwIf b → Behind b c → IsTest a v d
found (disjunctions l e) c v d = (a : Cursor) → Since a l → IsOr a e c → IsOr a v d
found (conjunctions l e) c v d = (a : Cursor) → Since a l → IsAnd a e c → IsAnd a v d
found (trailers l e) c v d = (a : Cursor) → Since a l → IsPrimary a e c → IsPrimary a v d
found (operation m) c v d = m ≤ 6 → Climbed m c v d
found (operations m l e) c v d = (a : Cursor) (k : ℕ) → Since a l → m ≤ k → IsOperation k a e c → said (binary_in (suc k)) c ≡ None → Climbed m a v d
found (call_rest l e) c v d = (a b : Cursor) → Since a l → IsPrimary a e b → BeginsOp op.LeftParen b → Behind b c → IsPrimary a v d
found (subscript l e) c v d = (a b : Cursor) → Since a l → IsPrimary a e b → BeginsOp op.LeftSquare b → Behind b c → IsPrimary a v d
found (slice l e low) c v d = (a b f : Cursor) → Since a l → IsPrimary a e b → BeginsOp op.LeftSquare b → IsBound (past b) low f → BeginsOp op.Colon f → Behind f c → IsPrimary a v d
found bounds c v d = IsBound c v d
found stride c v d = FoundStride c v d
found (arguments seen as') c v d = More then_args as' (AreArgs seen c) v d
found (argument seen) c v d = IsArg seen c v.0 v.1 (is_some v.0) d
found (variable l) c v d = Since c l → IsAtom c v d
found (super_rest l) c v d = (a : Cursor) (n : ℕ) → Since a l → IsName a n → is_super (text_of a n) ≡ true → Behind a c → IsAtom a v d
found (group l) c v d = (a : Cursor) → Since a l → BeginsOp op.LeftParen a → Behind a c → IsAtom a v d
found (list_display l) c v d = (a : Cursor) → Since a l → BeginsOp op.LeftSquare a → Behind a c → IsAtom a v d
found (dict_display l) c v d = (a : Cursor) → Since a l → BeginsOp op.LeftBrace a → Behind a c → IsAtom a v d
found (pairs ps) c v d = More then_pairs ps (ArePairs c) v d
found (tests_after l e) c v d = (a : Cursor) → Since a l → IsTest a e c → IsTests a v d
found (more_tests es) c v d = OrNone es c (More then_exprs es (AreTests c)) v d
found import_part c v d = IsImport c v d
found (imports ps) c v d = More ◌++◌ ps (AreImports c) v d
found from_part c v d = IsFrom c v d
found (froms grouped ps) c v d = FoundFroms grouped ps c v d
found return_rest c v d = (a : Cursor) → BeginsWord word.KwReturn a → Behind a c → IsSimple a v d
found raise_rest c v d = (a : Cursor) → BeginsWord word.KwRaise a → Behind a c → IsSimple a v d
found assert_rest c v d = (a : Cursor) → BeginsWord word.KwAssert a → Behind a c → IsSimple a v d
found from_rest c v d = (a : Cursor) → BeginsWord word.KwFrom a → Behind a c → IsSimple a v d
found assignment c v d = IsSimple c v d
found (assigned ts) c v d = FoundAssigned ts c v d
found (annotated e) c v d = (a b : Cursor) → IsSingle a e b → BeginsOp op.Colon b → Behind b c → IsSimple a v d
found simple_kind c v d = IsSimple c v d
found simple c v d = FoundSimple c v d
found (line ss) c v d = More then_all ss (IsLine c) v d
found (param late) c v d = IsParam late c v (is_some v.default) d
found (params late ps) c v d = More ◌++◌ ps (AreParams late c) v d
found base c v d = IsBase c v d
found (function l n) c v d = (a : Cursor) → Since a l → BeginsWord word.KwDef a → Behind (past a) c → IsFunction a n v d
found definition c v d = FoundDefinition c v d
found class_rest c v d = IsClass c v d
found class_member c v d = IsMember c v d
found entry c v d = IsEntry c v d
found class_body c v d = IsBody c v d
found (entries ms) c v d = More then_members ms (AreEntries c) v d
found for_targets c v d = IsTargets c v d
found (more_targets es) c v d = OrNone es c (More then_exprs es (ArePrimaries c)) v d
found if_rest c v d = (a : Cursor) → BeginsWord word.KwIf a → Behind a c → IsCompound a v d
found while_rest c v d = (a : Cursor) → BeginsWord word.KwWhile a → Behind a c → IsCompound a v d
found for_rest c v d = (a : Cursor) → BeginsWord word.KwFor a → Behind a c → IsCompound a v d
found try_rest c v d = (a : Cursor) → BeginsWord word.KwTry a → Behind a c → IsCompound a v d
found else_rest c v d = IsElse c v d
found caught c v d = IsCaught c v.0 v.1 d
found compound c v d = IsCompound c v d
found block c v d = IsBlock c v d
found (elifs as') c v d = More then_arms as' (AreElifs c) v d
found (handlers hs) c v d = More then_handlers hs (AreHandlers c) v d
found (statement top ss) c v d = More then_all ss (IsStatement top c) v d
found (statements top ss) c v d = More then_all ss (AreStatements top c) v d
