-- What is found where each expression has to be a target.
use Rattle.std.specs.Prelude.{◌≡◌, true, false, Result, Ok, Err}
use Rattle.py_parse.specs.declared.fault.ParseFault.{ParseFault}
use Rattle.py_parse.specs.declared.fault.ParseFault.TheVariants.{Unexpected, OutOfProfile, TooDeep, Memory}
use Rattle.py_grammar.specs.Cursor.{Cursor}
use Rattle.py_tree.specs.Tree.{Exprs}
use Rattle.py_descent.specs.Programs.{Answer, gives, refuses}
use Rattle.py_descent.specs.Bodies.{some_targets}

-- nothing is found, or one of what is found is no target
abbrev pub AreNoTargets : Answer Exprs → Type 0
AreNoTargets refuses = Unit {0}
AreNoTargets (gives es c) = some_targets es ≡ false

-- targets were found, which are the answer, or they are not, unless memory ran out
abbrev pub GivesTargets : {A : Type 0} → Result A ParseFault → Exprs → Cursor → Answer Exprs → Type 0
GivesTargets (Ok a) es c r = (r ≡ gives es c) × (some_targets es ≡ true)
GivesTargets (Err (Unexpected span)) es c r = AreNoTargets r
GivesTargets (Err (OutOfProfile form span)) es c r = AreNoTargets r
GivesTargets (Err (TooDeep span)) es c r = AreNoTargets r
GivesTargets (Err Memory) es c r = Unit {0}
