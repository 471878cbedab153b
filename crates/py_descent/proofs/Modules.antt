-- The two laws of the descent.
use Rattle.py_grammar.specs.Modules.{start}
use Rattle.py_descent.specs.Laws.{IsSound, IsComplete}
use Rattle.py_descent.proofs.Compound.{complete_statements}
use Rattle.py_descent.proofs.Sound.{module_sound}

pub descent_is_sound : IsSound
descent_is_sound = module_sound

pub descent_is_complete : IsComplete
descent_is_complete t ss d h stop = complete_statements (start t) ss d h stop
