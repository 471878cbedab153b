-- The program of a literal, part by part.
use Rattle.py_tokens.specs.declared.token.Op.TheVariants as op
use Rattle.py_tree.specs.declared.literal.Literal.{Literal}
use Rattle.py_tree.specs.declared.literal.Literal.TheVariants as lit
use Rattle.py_descent.specs.Bodies.{expect}
use Rattle.py_descent.specs.Codes.{symbol}
use Rattle.py_descent.specs.Goals.{strings, octets}
use Rattle.py_descent.specs.Programs.{Program, give, refuse, take, call}
use Rattle.py_descent.specs.Takings.{number_in, str_in, octets_in, negative_in}

abbrev pub negative : Program Literal
negative = expect (symbol op.Minus) (take negative_in give refuse)

abbrev pub octets_or_negative : Program Literal
octets_or_negative = take octets_in (λ empty. call (octets empty) (λ b. give (lit.Bytes b))) negative

abbrev pub text_or_octets : Program Literal
text_or_octets = take str_in (λ empty. call (strings empty) (λ b. give (lit.Str b))) octets_or_negative

abbrev pub number_or_text : Program Literal
number_or_text = take number_in give text_or_octets
