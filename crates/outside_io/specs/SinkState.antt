-- What is seen of a sink in memory, and which of its puts fail.
use Rattle.std.specs.Prelude.{ℕ, ◌-◌, ◌<◌, ◌≤◌, ◌⊎◌, List, length, min, Contains}
use Rattle.outside_io.specs.Counts.{next_count}

-- A sink in memory: the bytes that it took, how many it can take altogether and in one put, the numbers of the puts that fail,
-- how many puts there were, and how many failed.
pub record SinkState : Type 0 where
  pub bytes : List ℕ
  pub room : ℕ
  pub piece : ℕ
  pub failing : List ℕ
  pub puts : ℕ
  pub faults : ℕ

-- The next put fails at this piece: its number is listed, or there are bytes and no room for them.
abbrev pub PutFails : SinkState → List ℕ → Type 0
PutFails sink bytes = (Contains sink.failing (next_count sink.puts)) ⊎ ((0 < length bytes) × (sink.room ≤ length sink.bytes))

-- How many bytes of this piece a put takes that doesn't fail.
abbrev pub put_count : SinkState → List ℕ → ℕ
put_count sink bytes = min sink.piece (min (sink.room - length sink.bytes) (length bytes))
