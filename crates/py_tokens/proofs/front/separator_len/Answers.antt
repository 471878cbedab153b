-- A comment ends before a line end; a join and space are ASCII.
use Rattle.std.proofs.Common.{sym, subst, ap, ◌∙◌}
use Rattle.std.specs.List.{prefix_len}
use Rattle.std.specs.Str.{IsCharBoundary}
use Rattle.py_tokens.specs.Bytes.{is_line_byte, is_space_byte}
use Rattle.py_tokens.specs.Fronts.{join_len}
use Rattle.py_tokens.proofs.Cuts.{comment_cut, join_cut, space_cut}
use Rattle.py_tokens.proofs.front.separator_len.Goals as goal

pub returns-in-35-clause-cut : goal.returns-in-35-clause-cut
returns-in-35-clause-cut c =
    subst (IsCharBoundary c.args.text.now) (sym (c.run_to_line_end.ensures.exact ∙ ap (prefix_len is_line_byte) c.as_bytes-bytes.ensures.value)) (comment_cut c.args.text.now)

pub returns-in-92-clause-cut : goal.returns-in-92-clause-cut
returns-in-92-clause-cut c =
    subst (IsCharBoundary c.args.text.now) (sym (c.join_len.ensures.exact ∙ ap join_len c.as_bytes-bytes.ensures.value)) (join_cut c.args.text.now c.utf8.text)

pub returns-in_default-clause-cut : goal.returns-in_default-clause-cut
returns-in_default-clause-cut c =
    subst (IsCharBoundary c.args.text.now) (sym (c.run_of_space.ensures.exact ∙ ap (prefix_len is_space_byte) c.as_bytes-bytes.ensures.value)) (space_cut c.args.text.now c.utf8.text)
