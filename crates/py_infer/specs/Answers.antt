-- The answers of a call: its two texts, and its ending.
use Rattle.std.specs.Prelude.{ℕ, List, [], ◌∷◌, ◌++◌, codes}
use Rattle.py_infer.specs.declared.answer.Answer.{Answer}
use Rattle.py_infer.specs.declared.status.Status.TheVariants as status

-- the words aren't accepted
abbrev pub usage : Answer
usage = record { status = status.Usage; out = []; note = codes "usage: py_infer COMMAND [OPTIONS] FILE [NAME=STUB ...]" ++ 10 ∷ [] }

-- the file of this name couldn't be read
abbrev pub unread : List ℕ → Answer
unread file = record { status = status.ReadFault; out = []; note = file ++ (codes ": cannot be read" ++ 10 ∷ []) }

-- the file of this name is refused, and this is said of it
abbrev pub refused : List ℕ → List ℕ → Answer
refused file report = record { status = status.Refused; out = []; note = file ++ report }

-- this is the stub of a plain module
abbrev pub clean : List ℕ → Answer
clean stub = record { status = status.Clean; out = stub; note = [] }
