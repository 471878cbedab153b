-- How the counters of this crate go on.
use Rattle.std.specs.Prelude.{ℕ, ◌+◌, min}
use Rattle.outside_io.specs.Outside.{last_count}

-- A counter after one more: it stays at its last value.
abbrev pub next_count : ℕ → ℕ
next_count count = min (count + 1) last_count
