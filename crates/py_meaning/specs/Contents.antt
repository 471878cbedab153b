-- The parts of containers: those that a module's own lists, tuples and dicts hold, and those of a container from outside, which
-- counts as having one, or one for each place that its type declares, made anew at each read.
use Rattle.std.specs.Prelude.{List, [], ◌∷◌, map}
use Rattle.type_terms.specs.Terms as term
use Rattle.type_terms.specs.Terms.{Term, list_of}
use Rattle.py_meaning.specs.Values.{Value, ref}
use Rattle.py_meaning.specs.Objects.{Object, list, tuple, dict, outside, object_at}
use Rattle.py_meaning.specs.Programs.{Program}
use Rattle.py_meaning.specs.Fresh.{fresh}
use Rattle.py_meaning.specs.Actions.{Action, gives, bind}

pub data Content : Type 0 where
  held : Value → Content
  declared : Term → Content

-- the parts of a list or a tuple
abbrev pub contents : Object → List Content
contents (list site xs) = map held xs
contents (tuple site layout xs) = map held xs
contents (outside (term.list t)) = declared t ∷ []
contents (outside (term.tuple ts)) = map declared (list_of ts)
contents (outside (term.tuple_of t)) = declared t ∷ []
contents _ = []

abbrev pub contents_at : List Object → Value → List Content
contents_at heap (ref place) = contents (object_at heap place)
contents_at heap _ = []

-- a pair of a dict: its key and its value
abbrev pub Pair : Type 0
Pair = Content × Content

abbrev pub held_pair : Value × Value → Pair
held_pair q = (held q.0, held q.1)

abbrev pub pairs : Object → List Pair
pairs (dict site ps) = map held_pair ps
pairs (outside (term.dict t u)) = (declared t, declared u) ∷ []
pairs _ = []

-- ---- reading

abbrev pub read : Program → Content → Action Value
read p (held v) = gives v
read p (declared t) = fresh p t

abbrev pub read_all : Program → List Content → Action (List Value)
read_all p [] = gives []
read_all p (c ∷ cs) = bind (read p c) (λ v. bind (read_all p cs) (λ vs. gives (v ∷ vs)))

-- the key, and then the value
abbrev pub read_pair : Program → Pair → Action (Value × Value)
read_pair p q = bind (read p q.0) (λ v. bind (read p q.1) (λ w. gives (v, w)))

abbrev pub read_pairs : Program → List Pair → Action (List (Value × Value))
read_pairs p [] = gives []
read_pairs p (q ∷ qs) = bind (read_pair p q) (λ v. bind (read_pairs p qs) (λ vs. gives (v ∷ vs)))
