-- How the parts of a stub are read, one after another.
use Rattle.std.proofs.Common.{◌≡◌, ℕ, true, false, List, [], ◌∷◌, ◌++◌, map, chars, refl, sym, ap, ◌∙◌, subst, append_assoc}
use Rattle.std.specs.List.{flat_map, filter, join_with_byte}
use Rattle.std.proofs.lemmas.List.{append-nil}
use Rattle.std.proofs.lemmas.Str.{chars-nil}
use Rattle.py_tokens.specs.declared.token.TokenKind.TheVariants as kind
use Rattle.py_tokens.specs.Fronts.{begins_with}
use Rattle.pyi_write.specs.Behind.{with_parts}
use Rattle.pyi_write.specs.Layout.{is_full}
use Rattle.pyi_write.specs.Lexemes.{Lexeme, mark, brackets_fit}
use Rattle.pyi_write.specs.StubGrammar.{Item, Member, a_member, class_member, AreMembers, members_last, members_more, item_member, AreItems, items_end, items_more}
use Rattle.pyi_write.proofs.Lexing.{InLine, AtStart, at_end, at_block_end}
use Rattle.pyi_write.proofs.Starting.{Opens, top_line, behind_block, block_begins, block_line, blank_line, four}
use Rattle.pyi_write.proofs.Lines.{LineOf}

-- what follows a part, also where a block was the last of it
pub record After (rest : List ℕ) (ls : List Lexeme) : Type 0 where
  pub top : AtStart [] rest ls
  pub block : AtStart (4 ∷ []) rest (mark kind.Dedent ∷ ls)

-- a part that isn't empty, and the items that it declares
pub record Part (p : List ℕ) (items : List Item) : Type 0 where
  pub ls : List Lexeme
  pub opens : (rest : List ℕ) → Opens (p ++ rest)
  pub reads : {rest : List ℕ} {more : List Lexeme} → After rest more → InLine [] 0 (p ++ rest) (ls ++ more)
  pub parses : (more : List Lexeme) (others : List Item) → AreItems more others → AreItems (ls ++ more) (items ++ others)
  pub fits : (more : List Lexeme) → brackets_fit 0 (ls ++ more) ≡ brackets_fit 0 more

pub data Parts : List (List ℕ) → List Item → Type 0 where
  no_parts : Parts [] []
  an_empty_part : {ps : List (List ℕ)} {items : List Item} → Parts ps items → Parts ([] ∷ ps) items
  a_part : {p : List ℕ} {ps : List (List ℕ)} {items others : List Item} → Part p items → Parts ps others → Parts (p ∷ ps) (items ++ others)

-- the parts behind some text
abbrev pub tail_of : List (List ℕ) → List ℕ
tail_of [] = []
tail_of ([] ∷ ps) = tail_of ps
tail_of ((b ∷ p) ∷ ps) = 10 ∷ (b ∷ p) ++ tail_of ps

behind : (b : ℕ) (written : List ℕ) (ps : List (List ℕ)) → with_parts (b ∷ written) ps ≡ (b ∷ written) ++ tail_of ps
behind b written [] = sym (append-nil (b ∷ written))
behind b written ([] ∷ ps) = behind b written ps
behind b written ((c ∷ p) ∷ ps) = behind b (written ++ 10 ∷ c ∷ p) ps ∙ ap (λ x. b ∷ x) (append_assoc written (10 ∷ c ∷ p) (tail_of ps))

with_rest : (x : List ℕ) (ps : List (List ℕ)) → join_with_byte 10 (x ∷ filter is_full ps) ≡ x ++ tail_of ps
with_rest x [] = sym (append-nil x)
with_rest x ([] ∷ ps) = with_rest x ps
with_rest x ((c ∷ p) ∷ ps) = ap (λ y. x ++ 10 ∷ y) (with_rest (c ∷ p) ps)

-- parts that are put behind each other are joined by blank lines
pub in_turn : (ps : List (List ℕ)) → with_parts [] ps ≡ join_with_byte 10 (filter is_full ps)
in_turn [] = refl
in_turn ([] ∷ ps) = in_turn ps
in_turn ((b ∷ p) ∷ ps) = behind b p ps ∙ sym (with_rest (b ∷ p) ps)

-- the whole text, and what stands behind some text
pub record Whole (ps : List (List ℕ)) (items : List Item) : Type 0 where
  pub ls : List Lexeme
  pub follows : After (tail_of ps) ls
  pub reads : AtStart [] (with_parts [] ps) ls
  pub unmarked : begins_with 65279 (chars (with_parts [] ps)) ≡ false
  pub parses : AreItems ls items
  pub fits : brackets_fit 0 ls ≡ true

whole_none : Whole [] []
whole_none = record {
  ls = mark kind.End ∷ [];
  follows = record { top = at_end; block = at_block_end };
  reads = at_end;
  unmarked = ap (begins_with 65279) chars-nil;
  parses = items_end refl;
  fits = refl;
}

whole_part : (p : List ℕ) (ps : List (List ℕ)) (items others : List Item) → Part p items → Whole ps others → Whole (p ∷ ps) (items ++ others)
whole_part [] ps items others part w = let o = part.opens [] in let h : [] ≡ o.first ∷ o.rest = o.is in absurd (cc)
whole_part (b ∷ p) ps items others part w =
    let opens = part.opens (tail_of ps) in
    let line = part.reads w.follows in
    record {
      ls = part.ls ++ w.ls;
      follows = record { top = blank_line (top_line opens line); block = blank_line (behind_block opens line) };
      reads = subst (λ x. AtStart [] x (part.ls ++ w.ls)) (sym (behind b p ps)) (top_line opens line);
      unmarked = subst (λ x. begins_with 65279 (chars x) ≡ false) (sym (behind b p ps)) opens.unmarked;
      parses = part.parses w.ls others w.parses;
      fits = part.fits w.ls ∙ w.fits;
    }

pub whole : {ps : List (List ℕ)} {items : List Item} → Parts ps items → Whole ps items
whole no_parts = whole_none
whole (an_empty_part parts) = let w = whole parts in record { ls = w.ls; follows = w.follows; reads = w.reads; unmarked = w.unmarked; parses = w.parses; fits = w.fits }
whole (a_part {p = p} {ps = ps} {items = items} {others = others} part parts) = whole_part p ps items others part (whole parts)

-- ---- several lines

-- lines without their margins, and the members that they declare
pub data LinesOf : List (List ℕ) → List Member → Type 0 where
  no_lines : LinesOf [] []
  a_line : {c : List ℕ} {cs : List (List ℕ)} {m : Member} {ms : List Member} → LineOf c m → LinesOf cs ms → LinesOf (c ∷ cs) (m ∷ ms)

abbrev pub lines_ls : {cs : List (List ℕ)} {ms : List Member} → LinesOf cs ms → List Lexeme
lines_ls no_lines = []
lines_ls (a_line l lines) = l.ls ++ lines_ls lines

abbrev pub top_text : List (List ℕ) → List ℕ
top_text cs = flat_map (λ c. c) cs

abbrev pub block_text : List (List ℕ) → List ℕ
block_text cs = flat_map (λ c. four ++ c) cs

pub lines_fit : {cs : List (List ℕ)} {ms : List Member} (lines : LinesOf cs ms) (more : List Lexeme) → brackets_fit 0 (lines_ls lines ++ more) ≡ brackets_fit 0 more
lines_fit no_lines more = refl
lines_fit (a_line l lines) more = ap (brackets_fit 0) (append_assoc l.ls (lines_ls lines) more) ∙ l.fits (lines_ls lines ++ more) ∙ lines_fit lines more

-- lines at the margin

lines_top : {cs : List (List ℕ)} {ms : List Member} {rest : List ℕ} {more : List Lexeme} (lines : LinesOf cs ms) → AtStart [] rest more → AtStart [] (top_text cs ++ rest) (lines_ls lines ++ more)
lines_top no_lines later = later
lines_top {rest = rest} {more = more} (a_line {c = c} {cs = cs} l lines) later =
    subst (λ x. AtStart [] x ((l.ls ++ lines_ls lines) ++ more)) (sym (append_assoc c (top_text cs) rest))
    (subst (λ x. AtStart [] (c ++ (top_text cs ++ rest)) x) (sym (append_assoc l.ls (lines_ls lines) more))
    (top_line (l.opens (top_text cs ++ rest)) (l.reads (lines_top lines later))))

items_of : {cs : List (List ℕ)} {ms : List Member} (lines : LinesOf cs ms) (more : List Lexeme) (others : List Item) → AreItems more others → AreItems (lines_ls lines ++ more) (map a_member ms ++ others)
items_of no_lines more others is = is
items_of (a_line {m = m} {ms = ms} l lines) more others is =
    subst (λ x. AreItems x (a_member m ∷ map a_member ms ++ others)) (sym (append_assoc l.ls (lines_ls lines) more))
    (items_more (item_member (l.parses (lines_ls lines ++ more))) (items_of lines more others is))

pub lines_part : {c : List ℕ} {cs : List (List ℕ)} {m : Member} {ms : List Member} → LineOf c m → LinesOf cs ms → Part (top_text (c ∷ cs)) (map a_member (m ∷ ms))
lines_part {c} {cs} {m} {ms} l lines = record {
  ls = l.ls ++ lines_ls lines;
  opens = λ rest. subst Opens (sym (append_assoc c (top_text cs) rest)) (l.opens (top_text cs ++ rest));
  reads = λ {rest} {more} later.
      subst (λ x. InLine [] 0 x ((l.ls ++ lines_ls lines) ++ more)) (sym (append_assoc c (top_text cs) rest))
      (subst (λ x. InLine [] 0 (c ++ (top_text cs ++ rest)) x) (sym (append_assoc l.ls (lines_ls lines) more))
      (l.reads (lines_top lines later.top)));
  parses = λ more others is. items_of (a_line l lines) more others is;
  fits = λ more. lines_fit (a_line l lines) more;
}

-- lines of a block

lines_block : {cs : List (List ℕ)} {ms : List Member} {rest : List ℕ} {more : List Lexeme} (lines : LinesOf cs ms) → AtStart (4 ∷ []) rest more → AtStart (4 ∷ []) (block_text cs ++ rest) (lines_ls lines ++ more)
lines_block no_lines later = later
lines_block {rest = rest} {more = more} (a_line {c = c} {cs = cs} l lines) later =
    subst (λ x. AtStart (4 ∷ []) (four ++ x) ((l.ls ++ lines_ls lines) ++ more)) (sym (append_assoc c (block_text cs) rest))
    (subst (λ x. AtStart (4 ∷ []) (four ++ (c ++ (block_text cs ++ rest))) x) (sym (append_assoc l.ls (lines_ls lines) more))
    (block_line (l.opens (block_text cs ++ rest)) (l.reads (lines_block lines later))))

pub block_reads : {c : List ℕ} {cs : List (List ℕ)} {m : Member} {ms : List Member} {rest : List ℕ} {more : List Lexeme} (l : LineOf c m) (lines : LinesOf cs ms) → AtStart (4 ∷ []) rest more →
    AtStart [] (block_text (c ∷ cs) ++ rest) (mark kind.Indent ∷ lines_ls (a_line l lines) ++ more)
block_reads {c} {cs} {rest = rest} {more = more} l lines later =
    subst (λ x. AtStart [] (four ++ x) (mark kind.Indent ∷ (l.ls ++ lines_ls lines) ++ more)) (sym (append_assoc c (block_text cs) rest))
    (subst (λ x. AtStart [] (four ++ (c ++ (block_text cs ++ rest))) (mark kind.Indent ∷ x)) (sym (append_assoc l.ls (lines_ls lines) more))
    (block_begins (l.opens (block_text cs ++ rest)) (l.reads (lines_block lines later))))

pub members_of_lines : {c : List ℕ} {cs : List (List ℕ)} {m : Member} {ms : List Member} (l : LineOf c m) (lines : LinesOf cs ms) (more : List Lexeme) →
    AreMembers (lines_ls (a_line l lines) ++ mark kind.Dedent ∷ more) (m ∷ ms) more
members_of_lines {m = m} l no_lines more =
    subst (λ x. AreMembers (x ++ mark kind.Dedent ∷ more) (m ∷ []) more) (sym (append-nil l.ls)) (members_last (class_member (l.parses (mark kind.Dedent ∷ more))))
members_of_lines {m = m} {ms = ms} l (a_line k lines) more =
    subst (λ x. AreMembers x (m ∷ ms) more) (sym (append_assoc l.ls (lines_ls (a_line k lines)) (mark kind.Dedent ∷ more)))
    (members_more (class_member (l.parses (lines_ls (a_line k lines) ++ mark kind.Dedent ∷ more))) (members_of_lines k lines more))
