use Rattle.std.proofs.Common.{◌+◌, length, sym, ap, ◌∙◌, arith}
use Rattle.std.specs.List.{prefix_len}
use Rattle.py_tokens.specs.Bytes.{is_name_byte}
use Rattle.py_tokens.specs.Words.{word_len}
use Rattle.py_tokens.proofs.WordLemmas.{cut_past_ascii, word_past_ascii, word_is_ascii}
use Rattle.py_tokens.proofs.word.word_len.Goals as goal

pub range_from-rest-requires : goal.range_from-rest-requires
range_from-rest-requires c =
    let is = c.run_of_name-len.ensures.exact ∙ ap (prefix_len is_name_byte) c.as_bytes.ensures.value in
    λ _. cut_past_ascii c.args.text.now c.run_of_name-len.result is (omega (arith, ap length c.as_bytes.ensures.value)) c.utf8.text

pub returns-then-is_past_ascii-clause-exact : goal.returns-then-is_past_ascii-clause-exact
returns-then-is_past_ascii-clause-exact c =
    let is = c.run_of_name-len.ensures.exact ∙ ap (prefix_len is_name_byte) c.as_bytes.ensures.value in
    let past = word_past_ascii c.args.text.now c.run_of_name-len.result is (omega (arith, ap length c.as_bytes.ensures.value)) in
    ap (λ n. c.run_of_name-len.result + n) (c.run_of_letters.ensures.exact ∙ ap word_len c.range_from-rest.ensures.value) ∙ sym past

pub returns-else-is_past_ascii-clause-exact : goal.returns-else-is_past_ascii-clause-exact
returns-else-is_past_ascii-clause-exact c =
    let is = c.run_of_name-len.ensures.exact ∙ ap (prefix_len is_name_byte) c.as_bytes.ensures.value in
    word_is_ascii c.args.text.now c.run_of_name-len.result is (omega (arith, ap length c.as_bytes.ensures.value)) c.as_bytes-2.result.now
    (c.as_bytes-2.ensures.value ∙ c.range_from-rest.ensures.value) c.as_bytes-2.ensures.utf8 (sym c.is_past_ascii.ensures ∙ c.if-is_past_ascii.false)
