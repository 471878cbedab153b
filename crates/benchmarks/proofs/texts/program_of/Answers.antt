use Rattle.py_tree.specs.View.{module_view}
use Rattle.scope_rules.specs.Faults.{first, faults}
use Rattle.scope_rules.specs.Scoped.{scoped}
use Rattle.benchmarks.proofs.Scopes.{is_its_own}
use Rattle.benchmarks.proofs.texts.program_of.Goals as goal

pub compile-requires : goal.compile-requires
compile-requires c = is_its_own (first (faults (module_view c.args.module))) (scoped (module_view c.args.module)) _ c.in_ok-scopes.ensures
