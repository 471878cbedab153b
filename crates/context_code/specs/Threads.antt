-- Where threads start.
use Rattle.std.specs.Prelude.{ℕ, Option, Some, None}
use Rattle.world_rules.specs.declared.seat.Thread.{Thread}
use Rattle.world_rules.specs.declared.seat.Thread.TheVariants.{OfModule, OfFunction}

-- the thread of a context that nothing calls, by its function
abbrev pub thread_by : (fun : Option ℕ) → Thread
thread_by None = OfModule
thread_by (Some f) = OfFunction
