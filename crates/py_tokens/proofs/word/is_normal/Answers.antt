use Rattle.std.proofs.Common.{sym, subst}
use Rattle.std.specs.Cmp.Lexicographic.{bytes_decides}
use Rattle.std.specs.Str.{IsAscii, chars}
use Rattle.std.proofs.lemmas.Str.{chars-IsAscii}
use Rattle.std.proofs.lemmas.Str.Ascii.{All-from_ascii}
use Rattle.unicode_normalization.specs.Forms.{Nfkc, IsInForm, normalize}
use Rattle.unicode_normalization.proofs.FormsLemmas.{normalize-ascii}
use Rattle.py_tokens.proofs.word.is_normal.Goals as goal

pub returns-then-is_ascii : goal.returns-then-is_ascii
returns-then-is_ascii c =
    let word = c.args.word.now in
    let ascii : IsAscii word = c.if-is_ascii.ensures.cases in
    let same = chars-IsAscii word ascii in
    let normal = subst (IsInForm Nfkc) (sym same) (normalize-ascii Nfkc word (All-from_ascii word ascii)) in
    sym ((bytes_decides (normalize Nfkc (chars word)) (chars word)).1 normal)
