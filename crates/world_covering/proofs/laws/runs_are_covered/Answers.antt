-- By the walks that are kept of a run; the grammar's trees have the names of their module.
use Rattle.std.specs.Prelude.{[]}
use Rattle.world_covering.specs.Modules.{source_of}
use Rattle.world_covering.proofs.Covered.{covered, in_stub, in_report}
use Rattle.py_meaning.specs.Programs.{program}
use Rattle.py_meaning.specs.Runs.{run}
use Rattle.world_covering.proofs.laws.runs_are_covered.Goals as goal

pub returns-clause-events : goal.returns-clause-events
returns-clause-events c = λ text t m stubs settings items turns choices h closed.
    covered m stubs settings items closed (c.trees_are_well_formed.ensures text t m h.tokens h.tree h.faultless) h.faultless h.plain turns choices

pub returns-clause-stubs : goal.returns-clause-stubs
returns-clause-stubs c = λ text t m stubs settings items turns choices h closed stub is place name v row e f held.
    in_stub (source_of m stubs settings) items (program m stubs) (run m stubs turns choices []).heap (run m stubs turns choices []).events
    (covered m stubs settings items closed (c.trees_are_well_formed.ensures text t m h.tokens h.tree h.faultless) h.faultless h.plain turns choices) stub is place name v row e f held

pub returns-clause-report : goal.returns-clause-report
returns-clause-report c = λ text t m stubs settings items turns choices h closed findings unchecked fs us line kind holder attribute told.
    in_report (source_of m stubs settings) items (program m stubs) (run m stubs turns choices []).heap (run m stubs turns choices []).events
    (covered m stubs settings items closed (c.trees_are_well_formed.ensures text t m h.tokens h.tree h.faultless) h.faultless h.plain turns choices) findings unchecked fs us line kind holder attribute told
