-- The measures of the statements' cycle, and what its loops keep.
use Rattle.std.proofs.Common.{◌≡◌, ◌≤◌, ◌+◌, ◌*◌, false}
use Rattle.py_descent.specs.Descent.{descent}
use Rattle.py_descent.specs.Goals.{statements, elifs, handlers}
use Rattle.py_descent.specs.Programs.{room}
use Rattle.py_tree.specs.Tree.{no_handlers}
use Rattle.py_tree.specs.View.{stmts_view, arms_view, handlers_view}
use Rattle.py_parse.proofs.parser.Parser.+statements.Given as goal

abbrev pub decreases-statements : goal.decreases-statements
decreases-statements l = room l.self.now * 128 + 50

abbrev pub decreases-statement : goal.decreases-statement
decreases-statement l = room l.self.now * 128 + 48

abbrev pub decreases-compound_statement : goal.decreases-compound_statement
decreases-compound_statement l = room l.self.now * 128 + 47

abbrev pub decreases-compound : goal.decreases-compound
decreases-compound l = room l.self.now * 128 + 46

abbrev pub decreases-body : goal.decreases-body
decreases-body l = room l.self.now * 128 + 1

abbrev pub decreases-block : goal.decreases-block
decreases-block l = room l.self.now * 128 + 44

abbrev pub decreases-indented : goal.decreases-indented
decreases-indented l = room l.self.now * 128 + 60

abbrev pub decreases-if_arms : goal.decreases-if_arms
decreases-if_arms l = room l.self.now * 128 + 44

abbrev pub decreases-further_arms : goal.decreases-further_arms
decreases-further_arms l = room l.self.now * 128 + 2

abbrev pub decreases-else_body : goal.decreases-else_body
decreases-else_body l = room l.self.now * 128 + 2

abbrev pub decreases-while_loop : goal.decreases-while_loop
decreases-while_loop l = room l.self.now * 128 + 44

abbrev pub decreases-for_loop : goal.decreases-for_loop
decreases-for_loop l = room l.self.now * 128 + 44

abbrev pub decreases-try_block : goal.decreases-try_block
decreases-try_block l = room l.self.now * 128 + 44

abbrev pub decreases-handlers : goal.decreases-handlers
decreases-handlers l = room l.self.now * 128 + 2

abbrev pub invariant-statements-loop-self : goal.invariant-statements-loop-self
invariant-statements-loop-self l = (descent (statements false (stmts_view l.initial.body.items)) l.initial.self ≡ descent (statements false (stmts_view l.body.items)) l.self) × (room l.self ≤ room l.initial.self)

abbrev pub decreases-statements-loop-self : goal.decreases-statements-loop-self
decreases-statements-loop-self l = room l.self

abbrev pub invariant-further_arms-loop-self : goal.invariant-further_arms-loop-self
invariant-further_arms-loop-self l = (descent (elifs (arms_view l.initial.arms.items)) l.initial.self ≡ descent (elifs (arms_view l.arms.items)) l.self) × (room l.self ≤ room l.initial.self)

abbrev pub decreases-further_arms-loop-self : goal.decreases-further_arms-loop-self
decreases-further_arms-loop-self l = room l.self

abbrev pub invariant-handlers-loop-handlers : goal.invariant-handlers-loop-handlers
invariant-handlers-loop-handlers l = (descent (handlers no_handlers) l.initial.self ≡ descent (handlers (handlers_view l.handlers.items)) l.self) × (room l.self ≤ room l.initial.self)

abbrev pub decreases-handlers-loop-handlers : goal.decreases-handlers-loop-handlers
decreases-handlers-loop-handlers l = room l.self
