use Rattle.std.proofs.Common.{ℕ, ◌+◌, ◌++◌, List, drop, length, ap, ◌∙◌}
use Rattle.py_tree.specs.Tree.{Members}
use Rattle.py_tree.specs.View.{fun_view, members_view}
use Rattle.py_tree.specs.declared.definition.Member as rust_member
use Rattle.scope_rules.specs.Tables.{locals_of, method_locals}
use Rattle.tree_code.specs.Programs.{methods}
use Rattle.block_compile.specs.Tabled.{Tabled, with_funs}
use Rattle.block_compile.proofs.Heads.{method_head, member_head}
use Rattle.block_compile.proofs.Tabling.{Adding, next_first, method_step, member_step}
use Rattle.block_compile.proofs.tables.add_methods.Goals as goal
use Rattle.block_compile.proofs.tables.add_methods.Goals.{in-Method+in_ok-add_fun, in_default}

pub add_fun-requires : goal.add_fun-requires
add_fun-requires c =
    let rest : Members = members_view (drop (c.loop-member.member-index + 1) c.args.members.now) in
    let others : List (List ℕ) = c.loop-member.invariant.next.0 in
    next_first c.args.scopes.now.locals (length c.loop-member.tables.codes) (locals_of (fun_view c.in-Method.fun)) (method_locals rest ++ others)
    (c.loop-member.invariant.next.1
    ∙ ap (λ ms. method_locals ms ++ others) (method_head c.args.members.now c.loop-member.member-index c.member-item.result c.in-Method.fun c.loop-member-test.true c.member-item.is c.in-Method.is))

pub loop-member-preserved : goal.loop-member-preserved
loop-member-preserved c =
    let members : List rust_member.Member = c.args.members.now in
    let i : ℕ = c.loop-member.member-index in
    let m : rust_member.Member = c.member-item.result in
    let ls : List (List ℕ) = c.args.scopes.now.locals in
    let left : Members = members_view (drop i members) in
    let rest : Members = members_view (drop (i + 1) members) in
    let old : Tabled = c.loop-member.tables in
    let new : Tabled = c.match-member.tables in
    let whole : Tabled = with_funs c.args.error (methods c.args.class (members_view members)) c.args.tables.now in
    let before : Adding c.args.error c.args.class ls whole left old = record { funs = c.loop-member.invariant.funs; next = c.loop-member.invariant.next } in
    let after : Adding c.args.error c.args.class ls whole rest new =
    elim c.match-member.branch [
      | in-Method+in_ok-add_fun w ↦
          method_step c.args.error c.args.class ls whole (fun_view w.in-Method.fun) left rest old new (method_head members i m w.in-Method.fun c.loop-member-test.true c.member-item.is w.in-Method.is) (w.tables-is ∙ w.in_ok-add_fun.ensures) before
      | in_default w ↦ member_step c.args.error c.args.class ls whole left rest old new (member_head members i m c.loop-member-test.true c.member-item.is w.in_default.not-Method) w.tables-is before
    ] in
    record { funs = after.funs; next = after.next }
