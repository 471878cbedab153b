-- The longest literal is an ASCII front, after which a text may be cut.
use Rattle.std.proofs.Common.{◌≡◌, ◌<◌, ◌≤◌, List, ℕ, length, true, sym, ap, ◌∙◌, subst}
use Rattle.py_tokens.specs.declared.numeral.FoundNumeral.{FoundNumeral}
use Rattle.py_tokens.specs.Numerals.{longest_of, starts_numeral}
use Rattle.py_tokens.proofs.AsciiFronts.{ascii_len, longest_ascii, longest_some, front_within, front_ascii, front_boundary}
use Rattle.py_tokens.proofs.numeral.first_numeral.Goals as goal

is_ascii_front : {found : FoundNumeral} {bytes text : List ℕ} → found ≡ longest_of bytes → bytes ≡ text → found.len ≤ ascii_len text
is_ascii_front {found} {bytes} {text} is same = subst (λ (f : FoundNumeral). f.len ≤ ascii_len text) (sym (is ∙ ap longest_of same)) (longest_ascii text)

is_within : {found : FoundNumeral} {bytes text : List ℕ} → found ≡ longest_of bytes → bytes ≡ text → starts_numeral text ≡ true → (0 < found.len) × (found.len ≤ length text)
is_within {found} {bytes} {text} is same starts = (
  subst (λ (f : FoundNumeral). 0 < f.len) (sym (is ∙ ap longest_of same)) (longest_some text starts),
  front_within found.len text (is_ascii_front is same),
)

pub range_from-requires : goal.range_from-requires
range_from-requires c = λ _. front_boundary c.longest-found.result.len c.args.text.now c.utf8.text (is_ascii_front c.longest-found.ensures c.as_bytes.ensures.value)

pub returns-then-continues_a_name-clause-within : goal.returns-then-continues_a_name-clause-within
returns-then-continues_a_name-clause-within c = is_within c.longest-found.ensures c.as_bytes.ensures.value c.requires

pub returns-then-continues_a_name-clause-ascii : goal.returns-then-continues_a_name-clause-ascii
returns-then-continues_a_name-clause-ascii c = front_ascii c.longest-found.result.len c.args.text.now (is_ascii_front c.longest-found.ensures c.as_bytes.ensures.value)

pub returns-else-continues_a_name-clause-within : goal.returns-else-continues_a_name-clause-within
returns-else-continues_a_name-clause-within c = is_within c.longest-found.ensures c.as_bytes.ensures.value c.requires

pub returns-else-continues_a_name-clause-ascii : goal.returns-else-continues_a_name-clause-ascii
returns-else-continues_a_name-clause-ascii c = front_ascii c.longest-found.result.len c.args.text.now (is_ascii_front c.longest-found.ensures c.as_bytes.ensures.value)
