-- What is seen of a scanner, and what it does in a step.
use Rattle.std.specs.Prelude.{◌≡◌, ◌++◌}
use Rattle.std.specs.Vec.{vec_items}
use Rattle.py_tokens.specs.declared.scanner.Scanner.{Scanner}
use Rattle.py_tokens.specs.Scans.{Scan}
use Rattle.py_tokens.specs.Turns.{Move, Turn, goes}

-- where the scanner stands
abbrev pub scan_of : Scanner → Scan
scan_of scanner = record {
  offset = scanner.offset;
  line = scanner.line;
  place = scanner.place;
  columns = vec_items scanner.columns;
  filling = scanner.filling;
  openers = vec_items scanner.openers;
  names = scanner.names;
}

-- the scanner has gone on so
pub record Takes (old new : Scanner) (move : Move) : Type 0 where
  pub after : scan_of new ≡ move.after
  pub rest : new.rest.now ≡ move.rest
  pub tokens : new.tokens ≡ old.tokens ++ move.tokens

-- the scanner has taken this turn, in which it goes on
abbrev pub Follows : Scanner → Scanner → Turn → Type 0
Follows old new turn = (move : Move) × (turn ≡ goes move) × Takes old new move
