-- The descent: the programs of the goals, run with turns enough.
use Rattle.std.specs.Prelude.{ℕ, zero, suc, ◌+◌, ◌*◌, false}
use Rattle.py_grammar.specs.Cursor.{Cursor}
use Rattle.py_descent.specs.Goals.{Goal, Value, rank}
use Rattle.py_descent.specs.Programs.{Answer, refuses, exec, room}
use Rattle.py_descent.specs.Bodies.{body}

abbrev pub turns : ℕ → (g : Goal) → Cursor → Answer (Value g)
turns zero g c = refuses
turns (suc n) g c = exec (turns n) (rank g) false (body g) c

-- what is found at a cursor
unfoldable pub descent : (g : Goal) → Cursor → Answer (Value g)
descent g c = turns (suc (room c * 64 + rank g)) g c
