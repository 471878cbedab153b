use Rattle.std.proofs.Common.{◌≡◌, ◌≤◌, ◌+◌, ◌*◌}
use Rattle.py_descent.specs.Descent.{descent}
use Rattle.py_descent.specs.Goals.{disjunctions, conjunctions, operations, trailers, arguments, pairs, more_tests}
use Rattle.py_descent.specs.Programs.{room}
use Rattle.py_tree.specs.View.{expr_view, exprs_view, args_view, pairs_view}
use Rattle.py_parse.proofs.parser.Parser.+expressions.Given as goal

abbrev pub decreases-test : goal.decreases-test
decreases-test l = room l.self.now * 64 + 20

abbrev pub decreases-choice : goal.decreases-choice
decreases-choice l = room l.self.now * 64 + 19

abbrev pub decreases-disjunction : goal.decreases-disjunction
decreases-disjunction l = room l.self.now * 64 + 18

abbrev pub decreases-disjunctions : goal.decreases-disjunctions
decreases-disjunctions l = room l.self.now * 64 + 1

abbrev pub decreases-conjunction : goal.decreases-conjunction
decreases-conjunction l = room l.self.now * 64 + 17

abbrev pub decreases-conjunctions : goal.decreases-conjunctions
decreases-conjunctions l = room l.self.now * 64 + 1

abbrev pub decreases-inversion : goal.decreases-inversion
decreases-inversion l = room l.self.now * 64 + 16

abbrev pub decreases-comparison : goal.decreases-comparison
decreases-comparison l = room l.self.now * 64 + 15

abbrev pub decreases-compared : goal.decreases-compared
decreases-compared l = room l.self.now * 64 + 15

abbrev pub decreases-tests : goal.decreases-tests
decreases-tests l = room l.self.now * 64 + 22

abbrev pub decreases-tests_after : goal.decreases-tests_after
decreases-tests_after l = room l.self.now * 64 + 21

abbrev pub decreases-more_tests : goal.decreases-more_tests
decreases-more_tests l = room l.self.now * 64 + 21

abbrev pub decreases-operation : goal.decreases-operation
decreases-operation l = room l.self.now * 64 + 14

abbrev pub decreases-operations : goal.decreases-operations
decreases-operations l = room l.self.now * 64 + 2

abbrev pub decreases-factor : goal.decreases-factor
decreases-factor l = room l.self.now * 64 + 13

abbrev pub decreases-power : goal.decreases-power
decreases-power l = room l.self.now * 64 + 12

abbrev pub decreases-primary : goal.decreases-primary
decreases-primary l = room l.self.now * 64 + 11

abbrev pub decreases-trailers : goal.decreases-trailers
decreases-trailers l = room l.self.now * 64 + 3

abbrev pub decreases-subscript : goal.decreases-subscript
decreases-subscript l = room l.self.now * 64 + 31

abbrev pub decreases-slice : goal.decreases-slice
decreases-slice l = room l.self.now * 64 + 23

abbrev pub decreases-step : goal.decreases-step
decreases-step l = room l.self.now * 64 + 22

abbrev pub decreases-bound : goal.decreases-bound
decreases-bound l = room l.self.now * 64 + 21

abbrev pub decreases-atom : goal.decreases-atom
decreases-atom l = room l.self.now * 64 + 10

abbrev pub decreases-number_atom : goal.decreases-number_atom
decreases-number_atom l = room l.self.now * 64 + 9

abbrev pub decreases-text_atom : goal.decreases-text_atom
decreases-text_atom l = room l.self.now * 64 + 8

abbrev pub decreases-bytes_atom : goal.decreases-bytes_atom
decreases-bytes_atom l = room l.self.now * 64 + 7

abbrev pub decreases-bracketed : goal.decreases-bracketed
decreases-bracketed l = room l.self.now * 64 + 6

abbrev pub decreases-list_atom : goal.decreases-list_atom
decreases-list_atom l = room l.self.now * 64 + 5

abbrev pub decreases-dict_atom : goal.decreases-dict_atom
decreases-dict_atom l = room l.self.now * 64 + 4

abbrev pub decreases-call : goal.decreases-call
decreases-call l = room l.self.now * 64 + 25

abbrev pub decreases-arguments : goal.decreases-arguments
decreases-arguments l = room l.self.now * 64 + 24

abbrev pub decreases-argument : goal.decreases-argument
decreases-argument l = room l.self.now * 64 + 23

abbrev pub decreases-keyword_argument : goal.decreases-keyword_argument
decreases-keyword_argument l = room l.self.now * 64 + 22

abbrev pub decreases-positional_argument : goal.decreases-positional_argument
decreases-positional_argument l = room l.self.now * 64 + 22

abbrev pub decreases-group : goal.decreases-group
decreases-group l = room l.self.now * 64 + 23

abbrev pub decreases-list_display : goal.decreases-list_display
decreases-list_display l = room l.self.now * 64 + 22

abbrev pub decreases-dict_display : goal.decreases-dict_display
decreases-dict_display l = room l.self.now * 64 + 23

abbrev pub decreases-pairs : goal.decreases-pairs
decreases-pairs l = room l.self.now * 64 + 22

abbrev pub decreases-pair : goal.decreases-pair
decreases-pair l = room l.self.now * 64 + 21

abbrev pub invariant-disjunctions-loop-line : goal.invariant-disjunctions-loop-line
invariant-disjunctions-loop-line l = (descent (disjunctions l.line (expr_view l.initial.all)) l.initial.self ≡ descent (disjunctions l.line (expr_view l.all)) l.self) × (room l.self ≤ room l.initial.self)

abbrev pub decreases-disjunctions-loop-line : goal.decreases-disjunctions-loop-line
decreases-disjunctions-loop-line l = room l.self

abbrev pub invariant-conjunctions-loop-line : goal.invariant-conjunctions-loop-line
invariant-conjunctions-loop-line l = (descent (conjunctions l.line (expr_view l.initial.all)) l.initial.self ≡ descent (conjunctions l.line (expr_view l.all)) l.self) × (room l.self ≤ room l.initial.self)

abbrev pub decreases-conjunctions-loop-line : goal.decreases-conjunctions-loop-line
decreases-conjunctions-loop-line l = room l.self

abbrev pub invariant-operations-loop-level : goal.invariant-operations-loop-level
invariant-operations-loop-level l = (descent (operations l.least l.line (expr_view l.initial.all)) l.initial.self ≡ descent (operations l.least l.line (expr_view l.all)) l.self) × (room l.self ≤ room l.initial.self)

abbrev pub decreases-operations-loop-level : goal.decreases-operations-loop-level
decreases-operations-loop-level l = room l.self

abbrev pub invariant-trailers-loop-self : goal.invariant-trailers-loop-self
invariant-trailers-loop-self l = (descent (trailers l.line (expr_view l.initial.all)) l.initial.self ≡ descent (trailers l.line (expr_view l.all)) l.self) × (room l.self ≤ room l.initial.self)

abbrev pub decreases-trailers-loop-self : goal.decreases-trailers-loop-self
decreases-trailers-loop-self l = room l.self

abbrev pub invariant-arguments-loop-self : goal.invariant-arguments-loop-self
invariant-arguments-loop-self l = (descent (arguments l.initial.named (args_view l.initial.args.items)) l.initial.self ≡ descent (arguments l.named (args_view l.args.items)) l.self) × (room l.self ≤ room l.initial.self)

abbrev pub decreases-arguments-loop-self : goal.decreases-arguments-loop-self
decreases-arguments-loop-self l = room l.self

abbrev pub invariant-pairs-loop-self : goal.invariant-pairs-loop-self
invariant-pairs-loop-self l = (descent (pairs (pairs_view l.initial.pairs.items)) l.initial.self ≡ descent (pairs (pairs_view l.pairs.items)) l.self) × (room l.self ≤ room l.initial.self)

abbrev pub decreases-pairs-loop-self : goal.decreases-pairs-loop-self
decreases-pairs-loop-self l = room l.self

abbrev pub invariant-more_tests-loop-self : goal.invariant-more_tests-loop-self
invariant-more_tests-loop-self l = (descent (more_tests (exprs_view l.initial.items.items)) l.initial.self ≡ descent (more_tests (exprs_view l.items.items)) l.self) × (room l.self ≤ room l.initial.self)

abbrev pub decreases-more_tests-loop-self : goal.decreases-more_tests-loop-self
decreases-more_tests-loop-self l = room l.self
