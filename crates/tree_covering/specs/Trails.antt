-- What may be said of a run that goes along codes: of its memory where it stands at a place over a stack, of an exception on its way, and of a value that is returned.
use Rattle.std.specs.Prelude.{◌≡◌, ℕ, Bool, true, false, List, [], ◌∷◌, Option, length}
use Rattle.stack_code.specs.declared.code.Code.{Code}
use Rattle.stack_code.specs.declared.code.Range.{Range}
use Rattle.stack_code.specs.declared.op.Op.{Op}
use Rattle.tree_code.specs.Pieces.{Piece, Labels}
use Rattle.tree_code.specs.Standing.{Lies, OpLies}
use Rattle.tree_code.specs.Statements.{Place}
use Rattle.py_meaning.specs.Values.{Value}
use Rattle.py_meaning.specs.Objects.{Object}
use Rattle.py_meaning.specs.Events.{Event}
use Rattle.py_meaning.specs.Actions.{Memory, Flow, goes_on, breaks, continues, returns, Request, Outcome}

pub record Trail : Type 1 where
  -- what runs a code: the module, or a call. Each has its code, and the numbers of its locals
  pub Context : Type 0
  pub code : Context → Code
  pub locals : Context → List ℕ
  -- the number of the name AssertionError
  pub error : ℕ
  -- what was so at some moment before, as where the context was entered
  pub Since : Type 0
  -- what is kept of a run beside its memory, as in an account
  pub Kept : Type 0
  pub Always : Kept → Memory → Type 0
  pub Made : Kept → Memory → Object → Kept → Type 0
  pub Told : Kept → Memory → Event → Type 0
  -- how requests are made, but those of loops that stand in a code
  pub Way : Request → Type 0
  pub Asked : (q : Request) → Way q → Kept → Memory → Type 0
  pub Answered : (q : Request) → Way q → Kept → Memory → Outcome → Kept → Memory → Type 0
  -- a run is at a place, over a stack whose top comes first
  pub IsAt : Context → Since → (place : ℕ) → List Value → Kept → Memory → Type 0
  -- an exception is on its way to a handler, or out of the context; above what is on the stack there may be more
  pub IsSent : Context → Since → (outer : Option Range) → List Value → Value → Kept → Memory → Type 0
  -- a function returns a value
  pub IsReturned : Context → Since → Value → Kept → Memory → Type 0
  -- an exception is being handled since then
  pub IsHandled : Since → Value → Type 0

-- the stack where a loop is left: without the iterable of a `for`
pub data Out : Bool → List Value → List Value → Type 0 where
  whole : {stack : List Value} → Out false stack stack
  without : {v : Value} {stack : List Value} → Out true (v ∷ stack) stack

-- the values of a list lie on the stack, the first of them below the others; and those of pairs, each key below its value
abbrev pub pushed : List Value → List Value → List Value
pushed [] stack = stack
pushed (v ∷ vs) stack = pushed vs (v ∷ stack)

abbrev pub pushed_pairs : List (Value × Value) → List Value → List Value
pushed_pairs [] stack = stack
pushed_pairs (q ∷ qs) stack = pushed_pairs qs (q.1 ∷ q.0 ∷ stack)

module _ (t : Trail) where
  -- where a piece of code stands: in whose code, in which loop, and with which handler around it
  pub record Around : Type 0 where
    pub context : t.Context
    pub since : t.Since
    pub labels : Labels
    pub outer : Option Range

  abbrev pub LiesIn : Around → ℕ → Piece → Type 0
  LiesIn x place a = Lies (t.code x.context) x.labels place x.outer a

  abbrev pub OpIn : Around → ℕ → Op → ℕ → Type 0
  OpIn x place op line = OpLies (t.code x.context) place x.outer op line

  abbrev pub At : Around → ℕ → List Value → t.Kept → Memory → Type 0
  At x place stack g m = t.IsAt x.context x.since place stack g m

  -- what is left of a piece that gives a value, of one that gives nothing, and of an exception
  abbrev pub ValueAt : Around → ℕ → List Value → t.Kept → Memory → Value → Type 0
  ValueAt x place stack g m v = t.IsAt x.context x.since place (v ∷ stack) g m

  abbrev pub DoneAt : Around → ℕ → List Value → t.Kept → Memory → Unit {0} → Type 0
  DoneAt x place stack g m u = t.IsAt x.context x.since place stack g m

  abbrev pub SentOver : Around → List Value → t.Kept → Memory → Value → Type 0
  SentOver x stack g m v = t.IsSent x.context x.since x.outer stack v g m

  -- where statements stand: the stack, what of it is left where the innermost loop is left, and whether a loop and whether a function is around them
  pub record Round : Type 0 where
    pub around : Around
    pub stack : List Value
    pub out : List Value
    pub keeps : Bool
    pub leaves : Out keeps stack out
    pub looped : Bool
    pub in_function : Bool

  abbrev pub place_of : Round → Place
  place_of r = record { locals = t.locals r.around.context; error = t.error; depth = length r.stack; keeps = r.keeps }

  -- what is left of statements that end at a place
  abbrev pub FlowAt : Round → ℕ → t.Kept → Memory → Flow → Type 0
  FlowAt r place g m goes_on = At r.around place r.stack g m
  FlowAt r place g m breaks = (r.looped ≡ true) × At r.around r.around.labels.out r.out g m
  FlowAt r place g m continues = (r.looped ≡ true) × At r.around r.around.labels.again r.stack g m
  FlowAt r place g m (returns v) = (r.in_function ≡ true) × t.IsReturned r.around.context r.around.since v g m

  abbrev pub SentFrom : Round → t.Kept → Memory → Value → Type 0
  SentFrom r g m v = t.IsSent r.around.context r.around.since r.around.outer r.stack v g m
