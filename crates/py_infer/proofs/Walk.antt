-- The walk over a plain module's statements: what has been carried out, and what is left, make the whole.
use Rattle.std.proofs.Common.{◌≡◌, ℕ, suc, ◌+◌, ◌<◌, ◌≤◌, length, get_or, drop, drop-cons, add-one, Bool, true, false, cond, ◌||◌, nat_eq, ◌⊎◌, inl, inr, List, [], ◌∷◌, ◌++◌, Option, Some, None, option_map, IsSome, is_some, refl, sym, ap, ◌∙◌, subst, eqb-true}
use Rattle.std.specs.Cmp.Lexicographic.{nat_list_eq_equiv}
use Rattle.std.specs.List.{list_any}
use Rattle.std.specs.List.Sorted.{IsStrictlySortedBy}
use Rattle.std.specs.Option.{option_and_then}
use Rattle.std.specs.Str.{bytes_eq}
use Rattle.std.proofs.lemmas.List.{drop_all}
use Rattle.std.proofs.lemmas.List.Folds.{list_any-append}
use Rattle.py_tree.specs.declared.statement.Stmt as rust_stmt
use Rattle.py_tree.specs.View.{stmt_view, stmts_view}
use Rattle.py_tree.specs.Tree as tree
use Rattle.py_tree.specs.Tree.{Expr, node, Exprs, Stmt, statement, StmtKind, assign, Stmts, no_stmts, stmt, Module}
use Rattle.built_forms.specs.Forms.{single_name}
use Rattle.built_forms.specs.Known.{is_known, with_name, with_option}
use Rattle.built_forms.specs.Unbuilt.{unless, in_expr, in_targets, in_kind, in_stmt, kind_of, in_body, unbuilt}
use Rattle.py_infer.specs.declared.plain_type.PlainType.{PlainType}
use Rattle.py_infer.specs.Lines.{Value, Expression, literal, name, Line, Held, meaning, assigned, carried, nothing_held, type_of, types_after}
use Rattle.py_infer.specs.Modules.{text_of, value_of, expression_of, line_from, line_of, with_line, lines_from, lines_of}
use Rattle.py_infer.specs.Stubs.{Rows, type_in, AreRowsOf}
use Rattle.py_infer.specs.Typing.{row_of_line, row_of, IsOrdered, IsWith}

-- ---- lists of lines

append_none : (xs ys : List ℕ) → xs ++ ys ≡ [] → (xs ≡ []) × (ys ≡ [])
append_none [] ys h = (refl, h)
append_none (x ∷ xs) ys h = absurd (cc)

unless_none : (b : Bool) (line : ℕ) → unless b line ≡ [] → b ≡ true
unless_none true line h = refl
unless_none false line h = absurd (cc)

more_than_none : (x : ℕ) (xs : List ℕ) → x ∷ xs ≡ [] → ⊥
more_than_none x xs h = absurd (cc)

-- ---- options and truth values

some_of : {A : Type 0} (o : Option A) → is_some o ≡ true → (x : A) × (o ≡ Some x)
some_of None h = absurd (cc)
some_of (Some x) h = (x, refl)

either : (a b : Bool) → a || b ≡ true → (a ≡ true) ⊎ (b ≡ true)
either true b h = inl refl
either false b h = inr h

-- ---- names that are known

-- a name that is known after one more is that one, or was known
known_more : (known : List ℕ) (n k : ℕ) → is_known (with_name known n) k ≡ true → (nat_eq k n ≡ true) ⊎ (is_known known k ≡ true)
known_more known n k = by_new (is_known known n)
  where
    last : (nat_eq k n || false ≡ true) → (nat_eq k n ≡ true) ⊎ (is_known known k ≡ true)
    last h = elim (either (nat_eq k n) false h) [ inl is ↦ inl is | inr is ↦ absurd (cc) ]

    by_new : (b : Bool) → list_any (nat_eq k) (cond b known (known ++ n ∷ [])) ≡ true → (nat_eq k n ≡ true) ⊎ (is_known known k ≡ true)
    by_new true h = inr h
    by_new false h =
        elim (either (list_any (nat_eq k) known) (list_any (nat_eq k) (n ∷ [])) (sym (list_any-append (nat_eq k) known (n ∷ [])) ∙ h))
        [ inl is ↦ inr is | inr is ↦ last is ]

-- ---- what the names stand for

-- what the names stand for after the lines depends only on what each stood for before
carried_same : {A : Type 0} (of : Value → A) (f g : Held A) (lines : List Line) → ((n : List ℕ) → f n ≡ g n) → (n : List ℕ) → carried of f lines n ≡ carried of g lines n
carried_same of f g [] same n = same n
carried_same of f g (line ∷ lines) same n =
    carried_same of (assigned of f line) (assigned of g line) lines (λ m. ap (λ v. cond (bytes_eq line.target m) v (f m)) (meaning_same line.value) ∙ ap (λ v. cond (bytes_eq line.target m) (meaning of g line.value) v) (same m)) n
  where
    meaning_same : (e : Expression) → meaning of f e ≡ meaning of g e
    meaning_same (literal value) = refl
    meaning_same (name m) = same m

-- what a value of a built form assigns, and the type that it has after these rows
record IsTyped (names : List (List ℕ)) (rows : Rows) (value : Expr) : Type 0 where
  assigns : Expression
  plain : PlainType
  is : expression_of names value ≡ Some assigns
  typed : meaning type_of (type_in rows) assigns ≡ Some plain

value_typed : (names : List (List ℕ)) (known : List ℕ) (rows : Rows) → ((n : ℕ) → is_known known n ≡ true → IsSome (type_in rows (text_of names n))) → (value : Expr) → in_expr known value ≡ [] → IsTyped names rows value
value_typed names known rows held (node (tree.literal l) line site) h = record { assigns = literal (value_of l); plain = type_of (value_of l); is = refl; typed = refl }
value_typed names known rows held (node (tree.name n) line site) h =
    let reads = unless_none (is_known known n) line (append_none (unless (is_known known n) line) [] h).0 in
    let there = some_of (type_in rows (text_of names n)) (held n reads) in
    record { assigns = name (text_of names n); plain = there.0; is = refl; typed = there.1 }
value_typed names known rows held (node _ line site) h = absurd (more_than_none line _ h)

-- ---- the walk

-- Where the walk stands: the names that are assigned have types, and the statements that are left lead from these types to
-- those after the whole.
pub record Walks (m : Module) (rest : Stmts) (rows : Rows) : Type 0 where
  known : List ℕ
  left : in_body known rest ≡ []
  held : (n : ℕ) → is_known known n ≡ true → IsSome (type_in rows (text_of m.names n))
  ordered : IsOrdered rows
  exact : (n : List ℕ) → carried type_of (type_in rows) (lines_from m.names rest) n ≡ types_after (lines_of m) n

ordered_none : IsOrdered []
unfolding IsStrictlySortedBy
ordered_none = tt

pub walks_start : (m : Module) → unbuilt m ≡ [] → Walks m m.body []
walks_start m built = record {
  known = [];
  left = built;
  held = λ n h. absurd (cc);
  ordered = ordered_none;
  exact = carried_same type_of (type_in []) nothing_held (lines_of m) (λ k. refl);
}

module _ (m : Module) (targets : Exprs) (value : Expr) (line : ℕ) (rest : Stmts) (old new : Rows) (walks : Walks m (stmt (statement (assign targets value) line) rest) old) where
  abbrev kind : StmtKind
  kind = assign targets value

  parts : (in_stmt walks.known (statement kind line) ≡ []) × (in_body (with_option walks.known (single_name targets)) rest ≡ [])
  parts = append_none (in_stmt walks.known (statement kind line)) (in_body (with_option walks.known (single_name targets)) rest) walks.left

  own : (unless (is_some (single_name targets)) line ≡ []) × (in_kind walks.known kind ≡ [])
  own = append_none (unless (is_some (single_name targets)) line) (in_kind walks.known kind) parts.0

  target : (n : ℕ) × (single_name targets ≡ Some n)
  target = some_of (single_name targets) (unless_none (is_some (single_name targets)) line own.0)

  valued : IsTyped m.names old value
  valued = value_typed m.names walks.known old walks.held value (append_none (in_targets walks.known targets) (in_expr walks.known value) own.1).1

  abbrev text : List ℕ
  text = text_of m.names target.0

  -- the line that stands there
  abbrev here : Line
  here = record { target = text; value = valued.assigns }

  line_is : line_of m.names kind ≡ Some here
  line_is = ap (λ o. line_from m.names o (expression_of m.names value)) target.1 ∙ ap (line_from m.names (Some target.0)) valued.is

  row_is : row_of m.names old kind ≡ Some (text, valued.plain)
  row_is = ap (option_and_then (row_of_line old)) line_is ∙ ap (option_map (λ t. (text, t))) valued.typed

  assign_step : IsWith old new (row_of m.names old kind) → Walks m rest new
  assign_step with =
      let now = subst (IsWith old new) row_is with in
      let still : (k : ℕ) → is_known walks.known k ≡ true → (b : Bool) → IsSome (cond b (Some valued.plain) (type_in old (text_of m.names k))) =
      λ k known b. elim b as (λ v. IsSome (cond v (Some valued.plain) (type_in old (text_of m.names k)))) [ true ↦ refl | false ↦ walks.held k known ] in
      let same : (k : ℕ) → nat_eq k target.0 ≡ true → bytes_eq text (text_of m.names k) ≡ true =
      λ k is. ap (λ n. bytes_eq text (text_of m.names n)) (eqb-true k target.0 is) ∙ nat_list_eq_equiv.refl text in
      record {
        known = with_name walks.known target.0;
        left = subst (λ o. in_body (with_option walks.known o) rest ≡ []) target.1 parts.1;
        held = λ k is. subst IsSome (sym (now.0 (text_of m.names k)))
            (elim (known_more walks.known target.0 k is) [
              | inl last ↦ subst (λ b. IsSome (cond b (Some valued.plain) (type_in old (text_of m.names k)))) (sym (same k last)) refl
              | inr known ↦ still k known (bytes_eq text (text_of m.names k))
            ]);
        ordered = now.1;
        exact = λ k.
            carried_same type_of (type_in new) (assigned type_of (type_in old) here) (lines_from m.names rest)
            (λ j. now.0 j ∙ ap (λ t. cond (bytes_eq text j) t (type_in old j)) (sym valued.typed)) k
            ∙ ap (λ l. carried type_of (type_in old) (with_line l (lines_from m.names rest)) k) (sym line_is) ∙ walks.exact k;
      }

-- and where it goes on
pub walks_next : (m : Module) (s : Stmt) (rest : Stmts) (old new : Rows) → Walks m (stmt s rest) old → IsWith old new (row_of m.names old (kind_of s)) → Walks m rest new
walks_next m (statement (assign targets value) line) rest old new walks with = assign_step m targets value line rest old new walks with
walks_next m (statement _ line) rest old new walks with = absurd (more_than_none line _ walks.left)

-- at the end the types are those of the module's lines
pub walks_end : (m : Module) (rows : Rows) → Walks m no_stmts rows → AreRowsOf (lines_of m) rows
walks_end m rows walks = record { ordered = walks.ordered; exact = walks.exact }

-- the same of the statements from a place on
pub walks_loop : (m : Module) (xs : List rust_stmt.Stmt) (i : ℕ) (x : rust_stmt.Stmt) (old new : Rows) → i < length xs → x ≡ get_or xs i x → Walks m (stmts_view (drop i xs)) old →
    IsWith old new (row_of m.names old (kind_of (stmt_view x))) → Walks m (stmts_view (drop (i + 1) xs)) new
walks_loop m xs i x old new within is walks row =
    let shape : drop i xs ≡ x ∷ drop (suc i) xs = drop-cons xs i x within ∙ ap (λ y. y ∷ drop (suc i) xs) (sym is) in
    subst (λ n. Walks m (stmts_view (drop n xs)) new) (sym (add-one i))
    (walks_next m (stmt_view x) (stmts_view (drop (suc i) xs)) old new (subst (λ ys. Walks m (stmts_view ys) old) shape walks) row)

pub walks_done : (m : Module) (xs : List rust_stmt.Stmt) (i : ℕ) (rows : Rows) → length xs ≤ i → Walks m (stmts_view (drop i xs)) rows → AreRowsOf (lines_of m) rows
walks_done m xs i rows passed walks = walks_end m rows (subst (λ ys. Walks m (stmts_view ys) rows) (drop_all i xs passed) walks)
