-- The turns of loops: each in the way in which its loop stands in a code, beside what else is said of requests.
use Rattle.std.specs.Prelude.{◌≡◌, ℕ, ◌+◌, true, ◌∷◌}
use Rattle.py_tree.specs.Tree.{Expr, Stmts}
use Rattle.scope_rules.specs.Jumps.{jumps}
use Rattle.stack_code.specs.declared.op.Op.TheVariants as op
use Rattle.tree_code.specs.Pieces.{Piece, nothing, ◌⨾◌, loop}
use Rattle.tree_code.specs.Expressions.{value, put}
use Rattle.tree_code.specs.Statements.{in_while, in_for, body_code}
use Rattle.py_meaning.specs.Actions.{Memory, Flow, goes_on, breaks, continues, returns, Request, while_turn, for_turn, Outcome, came, threw}
use Rattle.py_meaning.specs.Holds.{Account}
use Rattle.tree_covering.specs.Leaving.{MayStand}
use Rattle.tree_covering.specs.Trails.{Trail, Round, LiesIn, At, place_of, SentFrom}

module _ (t : Trail) where
  abbrev pub while_code : Round t → ℕ → Expr → Stmts → Piece
  while_code r line test body = loop op.JumpIfFalse line (value (t.locals r.around.context) test) (body_code (in_while (place_of t r)) body)

  abbrev pub for_code : Round t → ℕ → Expr → Stmts → Piece
  for_code r line target body = loop op.ForNext line nothing (put (t.locals r.around.context) target ⨾ body_code (in_for (place_of t r)) body)

  -- a loop stands at a place, among statements
  pub record WhileWay (test : Expr) (body : Stmts) : Type 0 where
    pub round : Round t
    pub line : ℕ
    pub place : ℕ
    pub lies : LiesIn t round.around place (while_code round line test body)
    pub leaves : MayStand round.in_function (jumps true body)

  pub record ForWay (target : Expr) (body : Stmts) (line : ℕ) : Type 0 where
    pub round : Round t
    pub place : ℕ
    pub lies : LiesIn t round.around place (for_code round line target body)
    pub leaves : MayStand round.in_function (jumps true body)

  -- what is left of a loop that ends at a place
  abbrev pub LoopEnds : Round t → ℕ → t.Kept → Memory → Flow → Type 0
  LoopEnds r place g m goes_on = At t r.around place r.stack g m
  LoopEnds r place g m breaks = ⊥
  LoopEnds r place g m continues = ⊥
  LoopEnds r place g m (returns v) = (r.in_function ≡ true) × t.IsReturned r.around.context r.around.since v g m

  abbrev pub LoopAnswers : Round t → ℕ → Outcome → t.Kept → Memory → Type 0
  LoopAnswers r place (came flow) g m = LoopEnds r place g m flow
  LoopAnswers r place (threw v) g m = SentFrom t r g m v

  abbrev pub LoopWay : Request → Type 0
  LoopWay (while_turn test body) = WhileWay test body
  LoopWay (for_turn target body line v x) = ForWay target body line
  LoopWay _ = ⊥

  -- a turn begins behind the test, and behind the next element
  abbrev pub LoopAsked : (q : Request) → LoopWay q → t.Kept → Memory → Type 0
  LoopAsked (while_turn test body) w g m = At t w.round.around (w.place + (value (t.locals w.round.around.context) test).size + 1) w.round.stack g m
  LoopAsked (for_turn target body line v x) w g m = At t w.round.around (w.place + 0 + 1) (x ∷ v ∷ w.round.stack) g m
  LoopAsked _ w g m = Unit {0}

  abbrev pub LoopAnswered : (q : Request) → LoopWay q → Outcome → t.Kept → Memory → Type 0
  LoopAnswered (while_turn test body) w o g m = LoopAnswers w.round (w.place + (while_code w.round w.line test body).size) o g m
  LoopAnswered (for_turn target body line v x) w o g m = LoopAnswers w.round (w.place + (for_code w.round line target body).size) o g m
  LoopAnswered _ w o g m = Unit {0}

  -- a turn of such a loop, or one that is made otherwise
  pub data TurnWay (q : Request) : Type 0 where
    of_loop : LoopWay q → TurnWay q
    otherwise : t.Way q → TurnWay q

  abbrev pub TurnAsked : (q : Request) → TurnWay q → t.Kept → Memory → Type 0
  TurnAsked q (of_loop w) g m = LoopAsked q w g m
  TurnAsked q (otherwise w) g m = t.Asked q w g m

  abbrev pub TurnAnswered : (q : Request) → TurnWay q → t.Kept → Memory → Outcome → t.Kept → Memory → Type 0
  TurnAnswered q (of_loop w) g m o later m' = LoopAnswered q w o later m'
  TurnAnswered q (otherwise w) g m o later m' = t.Answered q w g m o later m'

  -- the account of a run that goes along codes
  abbrev pub account : Account
  account =
      record {
        Kept = t.Kept;
        Always = t.Always;
        Way = TurnWay;
        Asked = TurnAsked;
        Answered = TurnAnswered;
        Made = t.Made;
        Told = t.Told;
      }
