-- States as entries of the memo and of the list of light states.
use Rattle.std.specs.Prelude.{Bool}
use Rattle.goal_solver.specs.declared.state.State.{State}
use Rattle.goal_solver.specs.Memos.{Remembered, Stretch}

abbrev pub entry_of : Bool → State → Remembered
entry_of answer x = record { low = x.point; high = x.point; goals = x.goals; yes = answer }

abbrev pub stretch_of : State → Stretch
stretch_of x = record { low = x.point; high = x.point; goals = x.goals }
