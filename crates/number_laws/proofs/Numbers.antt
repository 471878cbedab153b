-- Statement after statement, functions and classes have the next numbers.
use Rattle.std.proofs.Common.{◌≡◌, ℕ, suc, ◌+◌, Bool, true, false, [], length, refl, sym, ap, subst, ◌∙◌, arith, length-append, true≢false}
use Rattle.py_tree.specs.Tree.{StmtKind, statement, def, class, Stmts, no_stmts, stmt, FunDef, ClassDef, Member, method, Members, no_members, member, Module}
use Rattle.py_tokens.specs.TokenList.{TokenList}
use Rattle.py_grammar.specs.Cursor.{Cursor, line_of, past, past_two}
use Rattle.py_grammar.specs.Modules.{IsModuleOf}
use Rattle.py_grammar.specs.Statements.{IsSimple, simple_pass, simple_break, simple_continue, simple_ellipsis, simple_return, simple_return_value, simple_raise, simple_raise_value, simple_raise_from, simple_assert, simple_assert_message, simple_import, simple_from, simple_from_group, simple_from_comma, simple_assign, simple_augment, simple_annotated, simple_annotated_value, simple_expression, IsLine, line_last, line_semi, line_more, IsMember, member_pass, member_ellipsis, member_strs, member_value, member_declared, member_declared_value, then_all, IsStatement, statement_line, statement_compound, statement_def, statement_class, AreStatements, statements_none, statements_more, IsCompound, compound_if, compound_while, compound_for, compound_try, IsFunction, function, IsClass, IsBody, body_line, body_indented, IsEntry, entry_member, entry_method, AreEntries, entries_none, entries_more}
use Rattle.py_grammar.specs.Statements as grammar
use Rattle.tree_code.specs.Numbers.{AreFrom, AreNumbered, class_id_of}
use Rattle.tree_code.specs.Programs.{id_of, methods, methods_of, functions, classes}
use Rattle.number_laws.proofs.Counts.{Same, same, on}
use Rattle.number_laws.proofs.StatementCounts.{is_simple_keeps, is_compound_keeps, is_member_keeps, are_params_keeps, is_result_keeps, is_base_keeps, is_block_keeps}

-- the statements between two places have the next numbers
pub record Numbered (c : Cursor) (body : Stmts) (d : Cursor) : Type 0 where
  pub rising : AreNumbered c.funs c.classes body
  pub funs : d.funs ≡ c.funs + length (functions body)
  pub kinds : d.classes ≡ c.classes + length (classes body)

-- ---- statements that define nothing

abbrev is_plain : StmtKind → Bool
is_plain (def f) = false
is_plain (class k) = false
is_plain _ = true

plain_rising : (fun kind : ℕ) (s : StmtKind) (line : ℕ) (rest : Stmts) → is_plain s ≡ true → AreNumbered fun kind rest → AreNumbered fun kind (stmt (statement s line) rest)
plain_rising fun kind (def f) line rest e h = absurd (true≢false (sym e))
plain_rising fun kind (class k) line rest e h = absurd (true≢false (sym e))
plain_rising fun kind _ line rest e h = h

plain_functions : (s : StmtKind) (line : ℕ) (rest : Stmts) → is_plain s ≡ true → functions (stmt (statement s line) rest) ≡ functions rest
plain_functions (def f) line rest e = absurd (true≢false (sym e))
plain_functions (class k) line rest e = absurd (true≢false (sym e))
plain_functions _ line rest e = refl

plain_classes : (s : StmtKind) (line : ℕ) (rest : Stmts) → is_plain s ≡ true → classes (stmt (statement s line) rest) ≡ classes rest
plain_classes (def f) line rest e = absurd (true≢false (sym e))
plain_classes (class k) line rest e = absurd (true≢false (sym e))
plain_classes _ line rest e = refl

-- a statement that defines nothing before others
plain_before : (c d f : Cursor) (s : StmtKind) (line : ℕ) (rest : Stmts) → is_plain s ≡ true → Same c d → Numbered d rest f → Numbered c (stmt (statement s line) rest) f
plain_before c d f s line rest e k n =
    record {
      rising = plain_rising c.funs c.classes s line rest e (subst (λ j. AreNumbered c.funs j rest) k.1 (subst (λ i. AreNumbered i d.classes rest) k.0 n.rising));
      funs = n.funs ∙ ap (λ i. i + length (functions rest)) k.0 ∙ ap (λ ds. c.funs + length ds) (sym (plain_functions s line rest e));
      kinds = n.kinds ∙ ap (λ i. i + length (classes rest)) k.1 ∙ ap (λ ks. c.classes + length ks) (sym (plain_classes s line rest e));
    }

nothing : (c d : Cursor) → Same c d → Numbered c no_stmts d
nothing c d k = record { rising = tt; funs = omega (arith, k.0); kinds = omega (arith, k.1) }

simple_plain : {c d : Cursor} {s : StmtKind} → IsSimple c s d → is_plain s ≡ true
simple_plain (simple_pass _) = refl
simple_plain (simple_break _) = refl
simple_plain (simple_continue _) = refl
simple_plain (simple_ellipsis _) = refl
simple_plain (simple_return _) = refl
simple_plain (simple_return_value _ _) = refl
simple_plain (simple_raise _) = refl
simple_plain (simple_raise_value _ _) = refl
simple_plain (simple_raise_from _ _ _ _) = refl
simple_plain (simple_assert _ _) = refl
simple_plain (simple_assert_message _ _ _ _) = refl
simple_plain (simple_import _ _) = refl
simple_plain (simple_from _ _ _ _) = refl
simple_plain (simple_from_group _ _ _ _ _ _) = refl
simple_plain (simple_from_comma _ _ _ _ _ _ _) = refl
simple_plain (simple_assign _) = refl
simple_plain (simple_augment _ _ _ _ _) = refl
simple_plain (simple_annotated _ _ _) = refl
simple_plain (simple_annotated_value _ _ _ _ _) = refl
simple_plain (simple_expression _) = refl

compound_plain : {c d : Cursor} {s : StmtKind} → IsCompound c s d → is_plain s ≡ true
compound_plain (compound_if _ _ _ _ _ _) = refl
compound_plain (compound_while _ _ _ _) = refl
compound_plain (compound_for _ _ _ _ _ _) = refl
compound_plain (compound_try _ _ _ _ _) = refl

line_numbered : {c d : Cursor} {body : Stmts} → IsLine c body d → Numbered c body d
line_numbered (line_last {c = c} {d = d} {s = s} h _) = plain_before c d (past d) s (line_of c) no_stmts (simple_plain h) (is_simple_keeps h) (nothing d (past d) same)
line_numbered (line_semi {c = c} {d = d} {s = s} h _ _) = plain_before c d (past_two d) s (line_of c) no_stmts (simple_plain h) (is_simple_keeps h) (nothing d (past_two d) same)
line_numbered (line_more {c = c} {d = d} {f = f} {s = s} {ss = ss} h _ more) =
    let rest : Numbered d ss f = record { rising = (line_numbered more).rising; funs = (line_numbered more).funs; kinds = (line_numbered more).kinds } in
    plain_before c d f s (line_of c) ss (simple_plain h) (is_simple_keeps h) rest

-- ---- functions and classes

record CountsOne (c : Cursor) (f : FunDef) (d : Cursor) : Type 0 where
  id : id_of f ≡ c.funs
  funs : d.funs ≡ c.funs + 1
  kinds : d.classes ≡ c.classes

function_counts : {c d : Cursor} {n : ℕ} {f : FunDef} → IsFunction c n f d → CountsOne c f d
function_counts (function _ _ params _ result _ block) =
    let k = on (on (are_params_keeps params) (is_result_keeps result)) (is_block_keeps block) in
    record { id = refl; funs = k.0; kinds = k.1 }

-- the methods between two places have the next numbers
record Counted (c : Cursor) (class_number : ℕ) (ms : Members) (d : Cursor) : Type 0 where
  rising : AreFrom c.funs (methods class_number ms)
  funs : d.funs ≡ c.funs + length (methods class_number ms)
  kinds : d.classes ≡ c.classes

abbrev is_data : Member → Bool
is_data (method f) = false
is_data _ = true

member_data : {c d : Cursor} {m : Member} → IsMember c m d → is_data m ≡ true
member_data (member_pass _) = refl
member_data (member_ellipsis _) = refl
member_data (member_strs _) = refl
member_data (member_value _ _ _) = refl
member_data (member_declared _ _ _) = refl
member_data (member_declared_value _ _ _ _ _) = refl

data_methods : (class_number : ℕ) (m : Member) (ms : Members) → is_data m ≡ true → methods class_number (member m ms) ≡ methods class_number ms
data_methods class_number (method f) ms e = absurd (true≢false (sym e))
data_methods class_number _ ms e = refl

data_before : (c d f : Cursor) (class_number : ℕ) (m : Member) (ms : Members) → is_data m ≡ true → Same c d → Counted d class_number ms f → Counted c class_number (member m ms) f
data_before c d f class_number m ms e k n =
    let equal = sym (data_methods class_number m ms e) in
    record {
      rising = subst (λ ds. AreFrom c.funs ds) equal (subst (λ i. AreFrom i (methods class_number ms)) k.0 n.rising);
      funs = n.funs ∙ ap (λ i. i + length (methods class_number ms)) k.0 ∙ ap (λ ds. c.funs + length ds) equal;
      kinds = n.kinds ∙ k.1;
    }

method_before : (c d f : Cursor) (class_number : ℕ) (fun : FunDef) (ms : Members) → CountsOne c fun d → Counted d class_number ms f → Counted c class_number (member (method fun) ms) f
method_before c d f class_number fun ms one n =
    let next : d.funs ≡ suc c.funs = omega (arith, one.funs) in
    record {
      rising = (one.id, subst (λ i. AreFrom i (methods class_number ms)) next n.rising);
      funs = omega (arith, n.funs, one.funs);
      kinds = n.kinds ∙ one.kinds;
    }

no_methods : (c : Cursor) (class_number : ℕ) → Counted c class_number no_members c
no_methods c class_number = record { rising = tt; funs = omega arith; kinds = refl }

entry_before : {c d : Cursor} {m : Member} → IsEntry c m d → (f : Cursor) (class_number : ℕ) (ms : Members) → Counted d class_number ms f → Counted c class_number (member m ms) f
entry_before (entry_member {c = c} {d = d} {m = m} h _) f class_number ms n =
    data_before c d f class_number m ms (member_data h) (is_member_keeps h) (record { rising = n.rising; funs = n.funs; kinds = n.kinds })
entry_before (entry_method {c = c} {d = d} {f = fun} _ h) f class_number ms n =
    let one = function_counts h in
    method_before c d f class_number fun ms (record { id = one.id; funs = one.funs; kinds = one.kinds }) n

entries_counted : {c d : Cursor} {ms : Members} → AreEntries c ms d → (class_number : ℕ) → Counted c class_number ms d
entries_counted (entries_none {c = c}) class_number = no_methods c class_number
entries_counted (entries_more {f = f} {ms = ms} h more) class_number = entry_before h f class_number ms (entries_counted more class_number)

body_counted : {c d : Cursor} {ms : Members} → IsBody c ms d → (class_number : ℕ) → Counted c class_number ms d
body_counted (body_line {c = c} {d = d} {m = m} h _) class_number =
    let n = data_before c d d class_number m no_members (member_data h) (is_member_keeps h) (no_methods d class_number) in
    record { rising = n.rising; funs = n.funs; kinds = n.kinds }
body_counted (body_indented {f = f} {ms = ms} _ _ h more _) class_number =
    let n = entry_before h f class_number ms (entries_counted more class_number) in
    record { rising = n.rising; funs = n.funs; kinds = n.kinds }

record CountsClass (c : Cursor) (k : ClassDef) (d : Cursor) : Type 0 where
  id : class_id_of k ≡ c.classes
  rising : AreFrom c.funs (methods_of k)
  funs : d.funs ≡ c.funs + length (methods_of k)
  kinds : d.classes ≡ c.classes + 1

class_counts : {c d : Cursor} {k : ClassDef} → IsClass c k d → CountsClass c k d
class_counts (grammar.class {c = c} {ms = ms} _ _ base _ body) =
    let k = is_base_keeps base in
    let n = body_counted body c.classes in
    record {
      id = refl;
      rising = subst (λ i. AreFrom i (methods c.classes ms)) k.0 n.rising;
      funs = n.funs ∙ ap (λ i. i + length (methods c.classes ms)) k.0;
      kinds = n.kinds ∙ k.1;
    }

-- ---- one statement after another

rising_join : (fun kind : ℕ) (ss ts : Stmts) (fun' kind' : ℕ) → fun' ≡ fun + length (functions ss) → kind' ≡ kind + length (classes ss) → AreNumbered fun kind ss → AreNumbered fun' kind' ts → AreNumbered fun kind (then_all ss ts)
rising_join fun kind no_stmts ts fun' kind' e f h k =
    let i : fun' ≡ fun = omega (arith, e) in
    let j : kind' ≡ kind = omega (arith, f) in
    subst (λ n. AreNumbered fun n ts) j (subst (λ n. AreNumbered n kind' ts) i k)
rising_join fun kind (stmt (statement (def g) line) rest) ts fun' kind' e f h k =
    (h.0, rising_join (suc fun) kind rest ts fun' kind' (omega (arith, e)) f h.1 k)
rising_join fun kind (stmt (statement (class c) line) rest) ts fun' kind' e f h k =
    (h.0, h.1, rising_join (fun + length (methods_of c)) (suc kind) rest ts fun' kind' (omega (arith, e, length-append (methods_of c) (functions rest))) (omega (arith, f)) h.2 k)
rising_join fun kind (stmt _ rest) ts fun' kind' e f h k = rising_join fun kind rest ts fun' kind' e f h k

functions_join : (ss ts : Stmts) → length (functions (then_all ss ts)) ≡ length (functions ss) + length (functions ts)
functions_join no_stmts ts = omega arith
functions_join (stmt (statement (def g) line) rest) ts = omega (arith, functions_join rest ts)
functions_join (stmt (statement (class c) line) rest) ts =
    omega (arith, length-append (methods_of c) (functions (then_all rest ts)), length-append (methods_of c) (functions rest), functions_join rest ts)
functions_join (stmt _ rest) ts = functions_join rest ts

classes_join : (ss ts : Stmts) → length (classes (then_all ss ts)) ≡ length (classes ss) + length (classes ts)
classes_join no_stmts ts = omega arith
classes_join (stmt (statement (def g) line) rest) ts = classes_join rest ts
classes_join (stmt (statement (class c) line) rest) ts = omega (arith, classes_join rest ts)
classes_join (stmt _ rest) ts = classes_join rest ts

numbered_join : (c d f : Cursor) (ss ts : Stmts) → Numbered c ss d → Numbered d ts f → Numbered c (then_all ss ts) f
numbered_join c d f ss ts one other =
    record {
      rising = rising_join c.funs c.classes ss ts d.funs d.classes one.funs one.kinds one.rising other.rising;
      funs = omega (arith, one.funs, other.funs, functions_join ss ts);
      kinds = omega (arith, one.kinds, other.kinds, classes_join ss ts);
    }

statement_numbered : {top : Bool} {c d : Cursor} {body : Stmts} → IsStatement top c body d → Numbered c body d
statement_numbered (statement_line h) = line_numbered h
statement_numbered (statement_compound {c = c} {d = d} {s = s} h) = plain_before c d d s (line_of c) no_stmts (compound_plain h) (is_compound_keeps h) (nothing d d same)
statement_numbered (statement_def _ h) =
    let one = function_counts h in
    record { rising = (one.id, tt); funs = one.funs; kinds = omega (arith, one.kinds) }
statement_numbered (statement_class {k = k} h) =
    let one = class_counts h in
    record { rising = (one.id, one.rising, tt); funs = omega (arith, one.funs, length-append (methods_of k) []); kinds = one.kinds }

statements_numbered : {top : Bool} {c d : Cursor} {body : Stmts} → AreStatements top c body d → Numbered c body d
statements_numbered (statements_none {c = c}) = nothing c c same
statements_numbered (statements_more {c = c} {d = d} {f = f} {ss = ss} {ts = ts} h more) = numbered_join c d f ss ts (statement_numbered h) (statements_numbered more)

pub module_numbered : (t : TokenList) (m : Module) → IsModuleOf t m → AreNumbered 0 0 m.body
module_numbered t m is = (statements_numbered is.body).rising
