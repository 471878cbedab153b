-- What is seen of a sink over a real stream.
use Rattle.std.specs.Prelude.{ℕ}

-- A sink over a real stream: the stream, and how many puts failed.
pub record HostSinkState (W : Type 0) : Type 0 where
  pub writer : W
  pub faults : ℕ
