-- What a run of a whole module has to give, beside what its instructions do: where it begins, what is told at its end, and turns that are no loops'.
use Rattle.std.specs.Prelude.{◌≡◌, ℕ, true, false, List, [], Some}
use Rattle.std.specs.List.{Contains}
use Rattle.scope_rules.specs.Jumps.{jumps}
use Rattle.tree_code.specs.Statements.{body_code}
use Rattle.py_meaning.specs.Values.{Value, entry}
use Rattle.py_meaning.specs.Events.{held}
use Rattle.py_meaning.specs.Programs.{Program}
use Rattle.py_meaning.specs.Calls.{perform}
use Rattle.py_meaning.specs.Actions.{Memory, with_scope, OutsideCall, Request, came, threw, looks}
use Rattle.py_meaning.specs.Runs.{scope_after, no_memory, can_be_called, call_if}
use Rattle.py_meaning.specs.Holds.{Holds}
use Rattle.tree_covering.specs.Leaving.{MayStand}
use Rattle.tree_covering.specs.Trails.{Trail, whole, Around, Round, LiesIn, At, DoneAt, SentOver, place_of}
use Rattle.tree_covering.specs.Turns.{account}

module _ (t : Trail) where
  -- the statements of the module stand in no loop and in no function
  abbrev pub module_round : Around t → Round t
  module_round top = record { around = top; stack = []; out = []; keeps = false; leaves = whole; looped = false; in_function = false }

  -- those of a function stand in a function
  abbrev pub function_round : Around t → Round t
  function_round x = record { around = x; stack = []; out = []; keeps = false; leaves = whole; looped = false; in_function = true }

  module _ (p : Program) where
    -- where the statements of the module end
    abbrev pub end_of : Around t → ℕ
    end_of top = (body_code (place_of t (module_round top)) p.body).size

    pub record Whole (calls : List OutsideCall) : Type 0 where
      pub top : Around t
      pub lies : LiesIn t top 0 (body_code (place_of t (module_round top)) p.body)
      pub leaves : MayStand false (jumps false p.body)
      pub first : t.Kept
      pub begins : At t top 0 [] first no_memory
      -- what a name holds at the end
      pub told : (name : ℕ) (v : Value) (g : t.Kept) (m : Memory) → At t top (end_of top) [] g m → entry m.scope.globals name ≡ Some v → t.Told g m (held name v)
      -- each of these calls from outside, after the end
      pub outside : (c : OutsideCall) (g : t.Kept) (m : Memory) → Contains calls c → At t top (end_of top) [] g m → Holds (account t) (DoneAt t top (end_of top) []) (SentOver t top []) g m (looks (λ m. call_if (can_be_called p m.heap c) c))

    -- what is done in a turn that is made otherwise
    abbrev pub OthersGo : Type 0
    OthersGo =
        (q : Request) (way : t.Way q) (g : t.Kept) (m : Memory) → t.Always g m → t.Asked q way g m →
        Holds (account t) (λ g' m' flow. t.Answered q way g m (came flow) g' (with_scope (scope_after q m.scope m'.scope) m')) (λ g' m' v. t.Answered q way g m (threw v) g' (with_scope (scope_after q m.scope m'.scope) m')) g m (perform p q)
