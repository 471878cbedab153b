-- What has the grammar's shape and no fault is well formed.
use Rattle.std.proofs.Common.{◌≡◌, ℕ, Bool, true, false, ◌&&◌, ◌||◌, not, List, [], ◌∷◌, ◌++◌, length, Option, Some, None, option_map, slice_get, refl, sym, subst, ◌∙◌}
use Rattle.py_tree.specs.Tree as tree
use Rattle.py_tree.specs.Tree.{Expr, node, Exprs, no_exprs, expr, Bound, no_bound, bound, Args, no_args, arg, Pairs, no_pairs, pair, ImportPart, FromPart, Param, statement, StmtKind, Stmts, no_stmts, stmt, Arms, no_arms, arm, Handlers, no_handlers, handler, FunDef, fun_def, ClassDef, class_def, Member, Members, no_members, member, Module}
use Rattle.py_tokens.specs.declared.token.Token.{Token}
use Rattle.py_tokens.specs.Readings.{HasTokens}
use Rattle.py_tokens.specs.TokenList.{TokenList}
use Rattle.py_tokens.specs.NameNumbers.{NamesBelow}
use Rattle.py_grammar.specs.Cursor.{kind_in}
use Rattle.py_grammar.specs.Modules.{start}
use Rattle.scope_rules.specs.declared.fault.Fault.{Fault}
use Rattle.scope_rules.specs.declared.fault.Rule.TheVariants as rule
use Rattle.scope_rules.specs.declared.jump.Jump.{Jump}
use Rattle.scope_rules.specs.declared.mention.Mention.{Mention}
use Rattle.scope_rules.specs.declared.mention.Role.TheVariants as role
use Rattle.scope_rules.specs.Builtins.{is_init}
use Rattle.scope_rules.specs.Faults.{has_none, body_faults, fun_faults, method_faults, member_faults, class_faults, name_of, definition_faults, top_faults}
use Rattle.scope_rules.specs.Jumps.{jumps_of, jumps, jumps_of_arms, jumps_of_handlers}
use Rattle.scope_rules.specs.Mentions.{at, mentions, mentions_of_all, mentions_in, mentions_of_args, mentions_of_pairs, targets, targets_of_all, mentions_of_option}
use Rattle.scope_rules.specs.NameLists.{with_name, text_of}
use Rattle.scope_rules.specs.Rules.{fault_if, rebound, builtin_bound, is_unknown, duplicate_params, breaks_outside, returns_outside, init_returns, super_uses, rebinds_first, member_twice, member_reads, init_members, init_targets}
use Rattle.scope_rules.specs.Uses.{handler_binds, annotates, uses_of, uses, uses_of_arms, uses_of_handlers, parameters, uses_of_fun, uses_of_member, uses_of_members}
use Rattle.scope_rules.specs.WellFormed.{Surroundings, looped, AreNames, IsNameOrNone, IsPath, AreImported, AreTaken, IsFormed, AreFormed, IsFormedBound, AreFormedArgs, AreFormedPairs, IsFormedOrNone, IsFormedKind, AreFormedStmts, AreFormedArms, AreFormedHandlers, IsFormedFun, outside, IsFormedMember, AreFormedMembers, IsFormedClass, AreFormedHere}
use Rattle.grammar_laws.specs.Laws.{TreesAreWellFormed}
use Rattle.grammar_laws.proofs.Cleans.{left_none, right_none, no_fault, Clean, clean_left, clean_right, clean_super, Stays, stays_left, stays_right, stays_exit, stays_return}
use Rattle.grammar_laws.proofs.FirstLocals.{params_are_first}
use Rattle.grammar_laws.proofs.Shapes.{anywhere, Numbered}
use Rattle.grammar_laws.proofs.StatementShapes.{HasShape, MemberHasShape, MembersHaveShape, ClassHasShape, HaveShape, statements_shape}

-- ---- names, which have the same numbers wherever they stand

names_here : (w : Surroundings) (ns : List ℕ) → AreNames (anywhere w.names) ns → AreNames w ns
names_here w [] h = tt
names_here w (n ∷ ns) h = (h.0, names_here w ns h.1)

name_here : (w : Surroundings) (o : Option ℕ) → IsNameOrNone (anywhere w.names) o → IsNameOrNone w o
name_here w None h = tt
name_here w (Some n) h = h

path_here : (w : Surroundings) (ns : List ℕ) → IsPath (anywhere w.names) ns → IsPath w ns
path_here w [] h = h
path_here w (n ∷ ns) h = (h.0, names_here w ns h.1)

imported_here : (w : Surroundings) (ps : List ImportPart) → AreImported (anywhere w.names) ps → AreImported w ps
imported_here w [] h = tt
imported_here w (p ∷ ps) h = (path_here w p.path h.0, name_here w p.alias h.1, imported_here w ps h.2)

taken_here : (w : Surroundings) (ps : List FromPart) → AreTaken (anywhere w.names) ps → AreTaken w ps
taken_here w [] h = tt
taken_here w (p ∷ ps) h = (h.0, name_here w p.alias h.1, taken_here w ps h.2)

-- ---- expressions: where `super()` isn't wrong a method is around

module _ (w : Surroundings) (wrong : Bool) (allowed : wrong ≡ false → w.in_method ≡ true) where
  mutual
    expr_here : (e : Expr) → IsFormed (anywhere w.names) e → Clean wrong (mentions e) → IsFormed w e
    expr_here (node (tree.name n) l s) h c = h
    expr_here (node (tree.literal x) l s) h c = tt
    expr_here (node (tree.unary op a) l s) h c = expr_here a h c
    expr_here (node (tree.binary op a b) l s) h c = (expr_here a h.0 (clean_left wrong (mentions a) (mentions b) c), expr_here b h.1 (clean_right wrong (mentions a) (mentions b) c))
    expr_here (node (tree.compare op a b) l s) h c = (expr_here a h.0 (clean_left wrong (mentions a) (mentions b) c), expr_here b h.1 (clean_right wrong (mentions a) (mentions b) c))
    expr_here (node (tree.not a) l s) h c = expr_here a h c
    expr_here (node (tree.and a b) l s) h c = (expr_here a h.0 (clean_left wrong (mentions a) (mentions b) c), expr_here b h.1 (clean_right wrong (mentions a) (mentions b) c))
    expr_here (node (tree.or a b) l s) h c = (expr_here a h.0 (clean_left wrong (mentions a) (mentions b) c), expr_here b h.1 (clean_right wrong (mentions a) (mentions b) c))
    expr_here (node (tree.choice a b d) l s) h c =
        let first = clean_left wrong (mentions a ++ mentions b) (mentions d) c in
        (expr_here a h.0 (clean_left wrong (mentions a) (mentions b) first), expr_here b h.1 (clean_right wrong (mentions a) (mentions b) first), expr_here d h.2 (clean_right wrong (mentions a ++ mentions b) (mentions d) c))
    expr_here (node (tree.attr a n) l s) h c = (expr_here a h.0 c, h.1)
    expr_here (node (tree.super n) l s) h c = (allowed (clean_super wrong n l c), h.1)
    expr_here (node (tree.item a b) l s) h c = (expr_here a h.0 (clean_left wrong (mentions a) (mentions b) c), expr_here b h.1 (clean_right wrong (mentions a) (mentions b) c))
    expr_here (node (tree.slice a low high step) l s) h c =
        let three = clean_left wrong (mentions a ++ mentions_in low ++ mentions_in high) (mentions_in step) c in
        let two = clean_left wrong (mentions a ++ mentions_in low) (mentions_in high) three in (
          expr_here a h.0 (clean_left wrong (mentions a) (mentions_in low) two),
          bound_here low h.1 (clean_right wrong (mentions a) (mentions_in low) two),
          bound_here high h.2 (clean_right wrong (mentions a ++ mentions_in low) (mentions_in high) three),
          bound_here step h.3 (clean_right wrong (mentions a ++ mentions_in low ++ mentions_in high) (mentions_in step) c),
        )
    expr_here (node (tree.call a xs) l s) h c = (expr_here a h.0 (clean_left wrong (mentions a) (mentions_of_args xs) c), args_here false xs h.1 (clean_right wrong (mentions a) (mentions_of_args xs) c))
    expr_here (node (tree.tuple xs) l s) h c = all_here xs h c
    expr_here (node (tree.list xs) l s) h c = all_here xs h c
    expr_here (node (tree.dict xs) l s) h c = pairs_here xs h c

    all_here : (xs : Exprs) → AreFormed (anywhere w.names) xs → Clean wrong (mentions_of_all xs) → AreFormed w xs
    all_here no_exprs h c = tt
    all_here (expr x xs) h c = (expr_here x h.0 (clean_left wrong (mentions x) (mentions_of_all xs) c), all_here xs h.1 (clean_right wrong (mentions x) (mentions_of_all xs) c))

    bound_here : (b : Bound) → IsFormedBound (anywhere w.names) b → Clean wrong (mentions_in b) → IsFormedBound w b
    bound_here no_bound h c = tt
    bound_here (bound x) h c = expr_here x h c

    args_here : (after : Bool) (xs : Args) → AreFormedArgs (anywhere w.names) after xs → Clean wrong (mentions_of_args xs) → AreFormedArgs w after xs
    args_here after no_args h c = tt
    args_here after (arg None x xs) h c = (h.0, expr_here x h.1 (clean_left wrong (mentions x) (mentions_of_args xs) c), args_here false xs h.2 (clean_right wrong (mentions x) (mentions_of_args xs) c))
    args_here after (arg (Some n) x xs) h c = (h.0, expr_here x h.1 (clean_left wrong (mentions x) (mentions_of_args xs) c), args_here true xs h.2 (clean_right wrong (mentions x) (mentions_of_args xs) c))

    pairs_here : (xs : Pairs) → AreFormedPairs (anywhere w.names) xs → Clean wrong (mentions_of_pairs xs) → AreFormedPairs w xs
    pairs_here no_pairs h c = tt
    pairs_here (pair k x xs) h c =
        let first = clean_left wrong (mentions k ++ mentions x) (mentions_of_pairs xs) c in
        (expr_here k h.0 (clean_left wrong (mentions k) (mentions x) first), expr_here x h.1 (clean_right wrong (mentions k) (mentions x) first), pairs_here xs h.2 (clean_right wrong (mentions k ++ mentions x) (mentions_of_pairs xs) c))

  two_here : (a b : Expr) → IsFormed (anywhere w.names) a × IsFormed (anywhere w.names) b → Clean wrong (mentions a ++ mentions b) → IsFormed w a × IsFormed w b
  two_here a b h c = (expr_here a h.0 (clean_left wrong (mentions a) (mentions b) c), expr_here b h.1 (clean_right wrong (mentions a) (mentions b) c))

  option_here : (o : Option Expr) → IsFormedOrNone (anywhere w.names) o → Clean wrong (mentions_of_option o) → IsFormedOrNone w o
  option_here None h c = tt
  option_here (Some x) h c = expr_here x h c

  annotated_here : (t : Expr) (o : Option Expr) (line : ℕ) → IsFormedOrNone (anywhere w.names) o → Clean wrong (annotates t o line) → IsFormedOrNone w o
  annotated_here t None line h c = tt
  annotated_here t (Some x) line h c = expr_here x h (clean_left wrong (mentions x) (targets role.Store line t) c)

-- ---- statements

mutual
  kind_here : (w : Surroundings) (wrong : Bool) → (wrong ≡ false → w.in_method ≡ true) → (kind : StmtKind) (line : ℕ) → IsFormedKind (anywhere w.names) kind → Clean wrong (uses_of kind line) → Stays w.in_function (jumps_of w.in_loop kind line) → IsFormedKind w kind
  kind_here w wrong ok tree.pass line h c j = tt
  kind_here w wrong ok tree.break line h c j = stays_exit w.in_function w.in_loop line j
  kind_here w wrong ok tree.continue line h c j = stays_exit w.in_function w.in_loop line j
  kind_here w wrong ok tree.ellipsis line h c j = tt
  kind_here w wrong ok (tree.return o) line h c j = (stays_return w.in_function o line j, option_here w wrong ok o h.1 c)
  kind_here w wrong ok (tree.raise o cause) line h c j = (option_here w wrong ok o h.0 (clean_left wrong (mentions_of_option o) (mentions_of_option cause) c), option_here w wrong ok cause h.1 (clean_right wrong (mentions_of_option o) (mentions_of_option cause) c))
  kind_here w wrong ok (tree.assert x o) line h c j = (expr_here w wrong ok x h.0 (clean_left wrong (mentions x) (mentions_of_option o) c), option_here w wrong ok o h.1 (clean_right wrong (mentions x) (mentions_of_option o) c))
  kind_here w wrong ok (tree.import ps) line h c j = imported_here w ps h
  kind_here w wrong ok (tree.from path ps) line h c j = (path_here w path h.0, taken_here w ps h.1)
  kind_here w wrong ok (tree.global ns) line h c j = names_here w ns h
  kind_here w wrong ok (tree.assign ts x) line h c j =
      let both = clean_left wrong (mentions_of_all ts ++ mentions x) (targets_of_all role.Store line ts) c in
      (all_here w wrong ok ts h.0 (clean_left wrong (mentions_of_all ts) (mentions x) both), expr_here w wrong ok x h.1 (clean_right wrong (mentions_of_all ts) (mentions x) both))
  kind_here w wrong ok (tree.augment t op x) line h c j = two_here w wrong ok t x h (clean_left wrong (mentions t ++ mentions x) (targets role.Store line t) c)
  kind_here w wrong ok (tree.annotated t o) line h c j = (expr_here w wrong ok t h.0 (clean_left wrong (mentions t) (annotates t o line) c), annotated_here w wrong ok t o line h.1 (clean_right wrong (mentions t) (annotates t o line) c))
  kind_here w wrong ok (tree.expression x) line h c j = expr_here w wrong ok x h c
  kind_here w wrong ok (tree.if arms otherwise) line h c j = (
    arms_here w wrong ok arms h.0 (clean_left wrong (uses_of_arms arms) (uses otherwise) c) (stays_left w.in_function (jumps_of_arms w.in_loop arms) (jumps w.in_loop otherwise) j),
    stmts_here w wrong ok otherwise h.1 (clean_right wrong (uses_of_arms arms) (uses otherwise) c) (stays_right w.in_function (jumps_of_arms w.in_loop arms) (jumps w.in_loop otherwise) j),
  )
  kind_here w wrong ok (tree.while test body) line h c j = (expr_here w wrong ok test h.0 (clean_left wrong (mentions test) (uses body) c), stmts_here (looped w) wrong ok body h.1 (clean_right wrong (mentions test) (uses body) c) j)
  kind_here w wrong ok (tree.for target through body) line h c j =
      let three = clean_left wrong (mentions target ++ mentions through ++ targets role.Store line target) (uses body) c in
      let two = two_here w wrong ok target through (h.0, h.1) (clean_left wrong (mentions target ++ mentions through) (targets role.Store line target) three) in
      (two.0, two.1, stmts_here (looped w) wrong ok body h.2 (clean_right wrong (mentions target ++ mentions through ++ targets role.Store line target) (uses body) c) j)
  kind_here w wrong ok (tree.try body handlers otherwise) line h c j =
      let clean = clean_left wrong (uses body ++ uses_of_handlers handlers) (uses otherwise) c in
      let stay = stays_left w.in_function (jumps w.in_loop body ++ jumps_of_handlers w.in_loop handlers) (jumps w.in_loop otherwise) j in (
        stmts_here w wrong ok body h.0 (clean_left wrong (uses body) (uses_of_handlers handlers) clean) (stays_left w.in_function (jumps w.in_loop body) (jumps_of_handlers w.in_loop handlers) stay),
        handlers_here w wrong ok handlers h.1 (clean_right wrong (uses body) (uses_of_handlers handlers) clean) (stays_right w.in_function (jumps w.in_loop body) (jumps_of_handlers w.in_loop handlers) stay),
        stmts_here w wrong ok otherwise h.2 (clean_right wrong (uses body ++ uses_of_handlers handlers) (uses otherwise) c) (stays_right w.in_function (jumps w.in_loop body ++ jumps_of_handlers w.in_loop handlers) (jumps w.in_loop otherwise) j),
      )
  kind_here w wrong ok (tree.def f) line h c j = h
  kind_here w wrong ok (tree.class k) line h c j = h

  stmts_here : (w : Surroundings) (wrong : Bool) → (wrong ≡ false → w.in_method ≡ true) → (ss : Stmts) → AreFormedStmts (anywhere w.names) ss → Clean wrong (uses ss) → Stays w.in_function (jumps w.in_loop ss) → AreFormedStmts w ss
  stmts_here w wrong ok no_stmts h c j = tt
  stmts_here w wrong ok (stmt (statement kind line) rest) h c j = (
    kind_here w wrong ok kind line h.0 (clean_left wrong (uses_of kind line) (uses rest) c) (stays_left w.in_function (jumps_of w.in_loop kind line) (jumps w.in_loop rest) j),
    stmts_here w wrong ok rest h.1 (clean_right wrong (uses_of kind line) (uses rest) c) (stays_right w.in_function (jumps_of w.in_loop kind line) (jumps w.in_loop rest) j),
  )

  arms_here : (w : Surroundings) (wrong : Bool) → (wrong ≡ false → w.in_method ≡ true) → (arms : Arms) → AreFormedArms (anywhere w.names) arms → Clean wrong (uses_of_arms arms) → Stays w.in_function (jumps_of_arms w.in_loop arms) → AreFormedArms w arms
  arms_here w wrong ok no_arms h c j = tt
  arms_here w wrong ok (arm test body rest) h c j =
      let first = clean_left wrong (mentions test ++ uses body) (uses_of_arms rest) c in (
        expr_here w wrong ok test h.0 (clean_left wrong (mentions test) (uses body) first),
        stmts_here w wrong ok body h.1 (clean_right wrong (mentions test) (uses body) first) (stays_left w.in_function (jumps w.in_loop body) (jumps_of_arms w.in_loop rest) j),
        arms_here w wrong ok rest h.2 (clean_right wrong (mentions test ++ uses body) (uses_of_arms rest) c) (stays_right w.in_function (jumps w.in_loop body) (jumps_of_arms w.in_loop rest) j),
      )

  handlers_here : (w : Surroundings) (wrong : Bool) → (wrong ≡ false → w.in_method ≡ true) → (hs : Handlers) → AreFormedHandlers (anywhere w.names) hs → Clean wrong (uses_of_handlers hs) → Stays w.in_function (jumps_of_handlers w.in_loop hs) → AreFormedHandlers w hs
  handlers_here w wrong ok no_handlers h c j = tt
  handlers_here w wrong ok (handler caught own body line rest) h c j =
      let first = clean_left wrong (mentions_of_option caught ++ handler_binds own line ++ uses body) (uses_of_handlers rest) c in
      let names = clean_left wrong (mentions_of_option caught ++ handler_binds own line) (uses body) first in (
        option_here w wrong ok caught h.0 (clean_left wrong (mentions_of_option caught) (handler_binds own line) names),
        name_here w own h.1,
        stmts_here w wrong ok body h.2 (clean_right wrong (mentions_of_option caught ++ handler_binds own line) (uses body) first) (stays_left w.in_function (jumps w.in_loop body) (jumps_of_handlers w.in_loop rest) j),
        handlers_here w wrong ok rest h.3 (clean_right wrong (mentions_of_option caught ++ handler_binds own line ++ uses body) (uses_of_handlers rest) c) (stays_right w.in_function (jumps w.in_loop body) (jumps_of_handlers w.in_loop rest) j),
      )

-- ---- definitions

right_for_method : (in_class again : Bool) → (not in_class || again) ≡ false → in_class ≡ true
right_for_method true again e = refl
right_for_method false again e = cc

is_true_false : true ≡ false → ⊥
is_true_false e = cc

fun_here : (texts : List (List ℕ)) (count : ℕ) (in_class : Bool) (f : FunDef) → HasShape count f → fun_faults texts in_class f ≡ [] → IsFormedFun count in_class f
fun_here texts count in_class (fun_def id own params body line) h e =
    let us : List Mention = uses_of_fun (fun_def id own params body line) in
    let js : List Jump = jumps false body in
    let init : Bool = is_init (text_of texts own) in
    let wrong : Bool = not in_class || rebinds_first us in
    let w : Surroundings = record { names = count; in_loop = false; in_function = true; in_method = in_class } in
    let both = left_none (body_faults in_class init us js ++ fault_if (in_class && has_none params) rule.MethodRule line) (init_targets texts us) e in
    let of_body : body_faults in_class init us js ≡ [] = left_none (body_faults in_class init us js) (fault_if (in_class && has_none params) rule.MethodRule line) both in
    let a_parameter = no_fault (in_class && has_none params) rule.MethodRule line (right_none (body_faults in_class init us js) (fault_if (in_class && has_none params) rule.MethodRule line) both) in
    let three = left_none (duplicate_params us ++ breaks_outside js ++ init_returns (in_class && init) js) (super_uses wrong us) of_body in
    let clean : Clean wrong us = right_none (duplicate_params us ++ breaks_outside js ++ init_returns (in_class && init) js) (super_uses wrong us) of_body in
    let two = left_none (duplicate_params us ++ breaks_outside js) (init_returns (in_class && init) js) three in
    let stay : Stays true js = (right_none (duplicate_params us) (breaks_outside js) two, λ absent. absurd (is_true_false absent)) in (
      h.0,
      a_parameter,
      params_are_first w params line (uses body) [] [] (λ n. refl) (left_none (duplicate_params us) (breaks_outside js) two) h.1,
      stmts_here w wrong (right_for_method in_class (rebinds_first us)) body h.2 (clean_right wrong (parameters params line) (uses body) clean) stay,
    )

never : true ≡ false → false ≡ true
never e = sym e

member_here : (texts : List (List ℕ)) (count : ℕ) (m : Member) → MemberHasShape count m → Clean true (uses_of_member m) → method_faults texts (member m no_members) ≡ [] → IsFormedMember count m
member_here texts count tree.pass_member h c e = tt
member_here texts count tree.ellipsis_member h c e = tt
member_here texts count tree.text h c e = tt
member_here texts count (tree.value n x line) h c e = (h.0, expr_here (outside count) true never x h.1 (clean_left true (mentions x) (at role.Value n line ∷ []) c))
member_here texts count (tree.declared n None line) h c e = (h.0, tt)
member_here texts count (tree.declared n (Some x) line) h c e = (h.0, expr_here (outside count) true never x h.1 (clean_left true (mentions x) (at role.Value n line ∷ []) c))
member_here texts count (tree.method f) h c e = fun_here texts count true f h (left_none (fun_faults texts true f) [] e)

one_method : (texts : List (List ℕ)) (m : Member) (rest : Members) → method_faults texts (member m rest) ≡ [] → (method_faults texts (member m no_members) ≡ []) × (method_faults texts rest ≡ [])
one_method texts (tree.method f) rest e = (nothing_behind (fun_faults texts true f) (left_none (fun_faults texts true f) (method_faults texts rest) e), right_none (fun_faults texts true f) (method_faults texts rest) e)
  where
    nothing_behind : (fs : List Fault) → fs ≡ [] → fs ++ [] ≡ []
    nothing_behind [] e = refl
    nothing_behind (f ∷ fs) e = cc
one_method texts _ rest e = (refl, e)

members_here : (texts : List (List ℕ)) (count : ℕ) (ms : Members) → MembersHaveShape count ms → Clean true (uses_of_members ms) → method_faults texts ms ≡ [] → AreFormedMembers count ms
members_here texts count no_members h c e = tt
members_here texts count (member m rest) h c e =
    let methods = one_method texts m rest e in
    (member_here texts count m h.0 (clean_left true (uses_of_member m) (uses_of_members rest) c) methods.0, members_here texts count rest h.1 (clean_right true (uses_of_member m) (uses_of_members rest) c) methods.1)

class_here : (texts : List (List ℕ)) (count : ℕ) (earlier : List ℕ) (k : ClassDef) → ClassHasShape count k → class_faults texts earlier k ≡ [] → IsFormedClass count k
class_here texts count earlier (class_def id own base inside line) h e =
    let us : List Mention = uses_of_members inside in
    let both = left_none (fault_if (is_unknown texts earlier base) rule.BaseUnknown line ++ member_faults texts us) (method_faults texts inside) e in
    let members : member_faults texts us ≡ [] = right_none (fault_if (is_unknown texts earlier base) rule.BaseUnknown line) (member_faults texts us) both in
    let three = left_none (super_uses true us ++ member_twice us ++ member_reads us) (init_members texts us) members in
    let two = left_none (super_uses true us ++ member_twice us) (member_reads us) three in
    (h.0, name_here (outside count) base h.1, members_here texts count inside h.2 (left_none (super_uses true us) (member_twice us) two) (right_none (fault_if (is_unknown texts earlier base) rule.BaseUnknown line ++ member_faults texts us) (method_faults texts inside) e))

module_here : (texts : List (List ℕ)) (count : ℕ) (earlier : List ℕ) (ss : Stmts) → HaveShape count ss → Clean true (uses ss) → Stays false (jumps false ss) → definition_faults texts earlier ss ≡ [] → AreFormedHere count ss
module_here texts count earlier no_stmts h c j e = tt
module_here texts count earlier (stmt (statement (tree.def f) line) rest) h c j e =
    (fun_here texts count false f h.0 (left_none (fun_faults texts false f) (definition_faults texts earlier rest) e), module_here texts count earlier rest h.1 (clean_right true (uses_of (tree.def f) line) (uses rest) c) (stays_right false (jumps_of false (tree.def f) line) (jumps false rest) j) (right_none (fun_faults texts false f) (definition_faults texts earlier rest) e))
module_here texts count earlier (stmt (statement (tree.class k) line) rest) h c j e = (
  class_here texts count earlier k h.0 (left_none (class_faults texts earlier k) (definition_faults texts (with_name earlier (name_of k)) rest) e),
  module_here texts count (with_name earlier (name_of k)) rest h.1 (clean_right true (uses_of (tree.class k) line) (uses rest) c) (stays_right false (jumps_of false (tree.class k) line) (jumps false rest) j) (right_none (class_faults texts earlier k) (definition_faults texts (with_name earlier (name_of k)) rest) e),
)
module_here texts count earlier (stmt (statement kind line) rest) h c j e = (
  kind_here (outside count) true never kind line h.0 (clean_left true (uses_of kind line) (uses rest) c) (stays_left false (jumps_of false kind line) (jumps false rest) j),
  module_here texts count earlier rest h.1 (clean_right true (uses_of kind line) (uses rest) c) (stays_right false (jumps_of false kind line) (jumps false rest) j) e,
)

kind_is : (o : Option Token) → option_map (λ token. token.kind) o ≡ kind_in o
kind_is None = refl
kind_is (Some token) = refl

numbered : (t : TokenList) → NamesBelow (length t.names) t.tokens → Numbered (length t.names) (start t)
numbered t below place n e = below place n (kind_is (slice_get t.tokens place) ∙ e)

pub trees_are_well_formed : ((text : List ℕ) (tokens : List Token) (names : List (List ℕ)) → HasTokens text tokens names → NamesBelow (length names) tokens) → TreesAreWellFormed
trees_are_well_formed names_are_below text t m has is none =
    let us : List Mention = uses m.body in
    let js : List Jump = jumps false m.body in
    let top : top_faults m.names us js ≡ [] = left_none (top_faults m.names us js) (definition_faults m.names [] m.body) none in
    let five = left_none (rebound us ++ builtin_bound m.names us ++ breaks_outside js ++ returns_outside js ++ super_uses true us) (init_targets m.names us) top in
    let four = left_none (rebound us ++ builtin_bound m.names us ++ breaks_outside js ++ returns_outside js) (super_uses true us) five in
    let clean : Clean true us = right_none (rebound us ++ builtin_bound m.names us ++ breaks_outside js ++ returns_outside js) (super_uses true us) five in
    let three = left_none (rebound us ++ builtin_bound m.names us ++ breaks_outside js) (returns_outside js) four in
    let stay : Stays false js = (right_none (rebound us ++ builtin_bound m.names us) (breaks_outside js) three, λ e. right_none (rebound us ++ builtin_bound m.names us ++ breaks_outside js) (returns_outside js) four) in
    let shape : HaveShape (length t.names) m.body = (statements_shape (length t.names) is.body (numbered t (names_are_below text t.tokens t.names has))).0 in
    subst (λ names. AreFormedHere (length names) m.body) (sym is.names) (module_here m.names (length t.names) [] m.body shape clean stay (right_none (top_faults m.names us js) (definition_faults m.names [] m.body) none))
