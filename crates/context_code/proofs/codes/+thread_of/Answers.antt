use Rattle.std.proofs.Common.{sym, ap, subst, ◌∙◌, ◌<◌}
use Rattle.world_rules.specs.Places.{thread_of}
use Rattle.context_code.proofs.Contexts.{parent_below, thread_by_row, thread_by_parent, no_row}
use Rattle.context_code.proofs.codes.+thread_of.Goals as goal

pub thread_of-requires : goal.thread_of-requires
thread_of-requires t c =
    (subst (λ n. c.in-Some-parent.parent < n) c.decreases (parent_below c.args.tables.now c.in-Some.ensures.kept c.args.context c.in-Some-parent.parent c.in-Some.row (sym c.in-Some.ensures.row) c.in-Some-parent.is), tt)

pub returns-in-Some-parent : goal.returns-in-Some-parent
returns-in-Some-parent t c =
    c.thread_of.ensures ∙ sym (thread_by_parent c.args.tables.now c.in-Some.ensures.kept c.args.context c.in-Some.row c.in-Some-parent.parent (sym c.in-Some.ensures.row) c.in-Some-parent.is)

pub returns-in-None-parent : goal.returns-in-None-parent
returns-in-None-parent t c =
    c.thread_by.ensures ∙ sym (thread_by_row c.args.tables.now c.in-Some.ensures.kept c.args.context c.in-Some.row (sym c.in-Some.ensures.row) c.in-None-parent.is)

pub returns-in-None : goal.returns-in-None
returns-in-None t c = sym (ap thread_of (no_row c.args.tables.now c.in-None.ensures.kept c.args.context (sym c.in-None.ensures.row)))
