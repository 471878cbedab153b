-- The lines of the parts of calls and slices.
use Rattle.std.proofs.Common.{◌≡◌, ℕ, List, ◌++◌, Option, Box, Vec, Global, sym, ap, ◌∙◌, append_assoc}
use Rattle.py_tree.specs.declared.expression.Arg as rust_arg
use Rattle.py_tree.specs.declared.expression.Expr as rust_expr
use Rattle.py_tree.specs.declared.expression.ExprKind as rust_kind
use Rattle.py_tree.specs.declared.expression.ExprKind.{fold-roll-ExprKind}
use Rattle.py_tree.specs.declared.expression.ExprKind.TheOpen.{ExprKind-F}
use Rattle.py_tree.specs.declared.expression.ExprKind.TheVariants.{rolls-Call, Call, Slice}
use Rattle.py_tree.specs.Tree.{Expr, ExprKind, call}
use Rattle.py_tree.specs.View.{Arg, Pair, expr_kind_step, arg_step, expr_step, pair_step, expr_view, expr_kind_view, args_view, bound_view}
use Rattle.py_tree.proofs.Slices.{view_slice}
use Rattle.built_forms.specs.Unbuilt.{in_expr, in_parts, in_args, in_bound}

view_call : (a : Box rust_expr.Expr Global) (xs : Vec rust_arg.Arg Global) → expr_kind_view (Call a xs) ≡ call (expr_view a.value) (args_view xs.items)
view_call a xs = ap expr_kind_view (sym (rolls-Call a xs)) ∙ fold-roll-ExprKind ExprKind Arg Expr Pair expr_kind_step arg_step expr_step pair_step (ExprKind-F.Call a xs)

pub call_parts : (known : List ℕ) (kind : rust_kind.ExprKind) (a : Box rust_expr.Expr Global) (xs : Vec rust_arg.Arg Global) (e : rust_expr.Expr) (args : List rust_arg.Arg) (out first second : List ℕ) →
    kind ≡ Call a xs → e ≡ a.value → args ≡ xs.items → first ≡ out ++ in_expr known (expr_view e) → second ≡ first ++ in_args known (args_view args) →
    second ≡ out ++ in_parts known (expr_kind_view kind)
call_parts known kind a xs e args out first second is whole some one two =
    two ∙ ap (λ o. o ++ in_args known (args_view args)) one ∙ append_assoc out (in_expr known (expr_view e)) (in_args known (args_view args))
    ∙ ap (λ v. out ++ (in_expr known (expr_view v) ++ in_args known (args_view args))) whole
    ∙ ap (λ v. out ++ (in_expr known (expr_view a.value) ++ in_args known (args_view v))) some
    ∙ ap (λ k. out ++ in_parts known k) (sym (view_call a xs))
    ∙ ap (λ k. out ++ in_parts known (expr_kind_view k)) (sym is)

abbrev Bounds : Type 0
Bounds = Option (Box rust_expr.Expr Global)

four : (a b c d out first second third fourth : List ℕ) → first ≡ out ++ a → second ≡ first ++ b → third ≡ second ++ c → fourth ≡ third ++ d → fourth ≡ out ++ (a ++ b ++ c ++ d)
four a b c d out first second third fourth one two three last =
    last ∙ ap (λ o. o ++ d) (three ∙ ap (λ o. o ++ c) (two ∙ ap (λ o. o ++ b) one ∙ append_assoc out a b) ∙ append_assoc out (a ++ b) c) ∙ append_assoc out (a ++ b ++ c) d

pub slice_parts : (known : List ℕ) (kind : rust_kind.ExprKind) (a : Box rust_expr.Expr Global) (l u s : Bounds) (e : rust_expr.Expr) (out first second third fourth : List ℕ) →
    kind ≡ Slice a l u s → e ≡ a.value → first ≡ out ++ in_expr known (expr_view e) → second ≡ first ++ in_bound known (bound_view l) →
    third ≡ second ++ in_bound known (bound_view u) → fourth ≡ third ++ in_bound known (bound_view s) → fourth ≡ out ++ in_parts known (expr_kind_view kind)
slice_parts known kind a l u s e out first second third fourth is whole one two three last =
    four (in_expr known (expr_view e)) (in_bound known (bound_view l)) (in_bound known (bound_view u)) (in_bound known (bound_view s)) out first second third fourth one two three last
    ∙ ap (λ v. out ++ (in_expr known (expr_view v) ++ in_bound known (bound_view l) ++ in_bound known (bound_view u) ++ in_bound known (bound_view s))) whole
    ∙ ap (λ k. out ++ in_parts known k) (sym (view_slice a l u s))
    ∙ ap (λ k. out ++ in_parts known (expr_kind_view k)) (sym is)
