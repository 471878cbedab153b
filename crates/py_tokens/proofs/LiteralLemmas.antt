-- A literal's content goes on after each piece of it, and the literal ends within its text.
use Rattle.std.proofs.Common.{◌≡◌, ℕ, suc, zero, ◌+◌, ◌-◌, ◌<◌, ◌≤◌, Bool, true, false, not, ◌&&◌, ◌||◌, ◌==◌, nat_le, cond, ◌⊎◌, inl, inr, List, [], ◌∷◌, length, take, drop, get_or, refl, sym, ap, ◌∙◌, subst, arith, add-zero, length-drop, length-append}
use Rattle.std.proofs.lemmas.Bool.{cases_Bool}
use Rattle.std.proofs.lemmas.Bool.Decides.{nat_tests, Decides-eqb}
use Rattle.std.proofs.lemmas.List.{drop-drop, get_or-drop, get_or_append_left, get_or-take, length-take-le, take_rest}
use Rattle.std.proofs.lemmas.Slice.Eq.{starts_is}
use Rattle.std.proofs.lemmas.Str.{lead_after_ascii}
use Rattle.py_tokens.specs.declared.literal.Prefix.{Prefix}
use Rattle.py_tokens.specs.declared.literal.Literal.{Literal}
use Rattle.py_tokens.specs.declared.literal.Literal.TheVariants.{Closed, Open, Bad}
use Rattle.py_tokens.specs.declared.literal.Piece.{Piece}
use Rattle.py_tokens.specs.declared.literal.Piece.TheVariants as piece
use Rattle.py_tokens.specs.Literals.{is_line_end, begins, is_foreign, pair_len, joins, content, quotes, literal_of, Lies}
use Rattle.py_tokens.specs.Pieces.{pair_of, piece_of}
use Rattle.py_tokens.proofs.Classes.{and_parts}

and_false : (b : Bool) → b && false ≡ false
and_false true = refl
and_false false = refl

-- a function of a choice, by its two ways
chosen : {X Y : Type 0} (f : X → Y) (b : Bool) (y : Y) (p q : X) → (b ≡ true → y ≡ f p) → (b ≡ false → y ≡ f q) → y ≡ f (cond b p q)
chosen f true y p q first second = first refl
chosen f false y p q first second = second refl

-- two choices by one test
both : {X Y : Type 0} (f : X → Y) (b : Bool) (x y : Y) (p q : X) → (b ≡ true → x ≡ f p) → (b ≡ false → y ≡ f q) → cond b x y ≡ f (cond b p q)
both f true x y p q first second = first refl
both f false x y p q first second = second refl

-- what holds of a choice holds of its two ways
either_way : {X : Type 0} (P : X → Type 0) (b : Bool) (x y : X) → (b ≡ true → P x) → (b ≡ false → P y) → P (cond b x y)
either_way P true x y first second = first refl
either_way P false x y first second = second refl

line_end_is : (b : ℕ) → is_line_end b ≡ true → (b ≡ 10) ⊎ (b ≡ 13)
line_end_is b h = grind (arith, nat_tests)

no_line_end : (b : ℕ) → is_line_end b ≡ false → ((10 == b) ≡ false) × ((13 == b) ≡ false)
no_line_end b h = (grind (arith, nat_tests), grind (arith, nat_tests))

same_byte : (b k : ℕ) → (b == k) ≡ true → b ≡ k
same_byte b k h = grind (arith, nat_tests)

lf_follows : (b : ℕ) → (10 == b) && true ≡ true → 10 ≡ b
lf_follows b h = grind (arith, nat_tests)

module _ (prefix : Prefix) (close : List ℕ) where
  -- how a literal ends whose content goes on with this piece
  abbrev pub after : Bool → ℕ → List ℕ → Piece → Literal
  after empty at rest piece.Close = Closed (at + length close) empty
  after empty at rest (piece.Passed len still) = content prefix close 0 (empty && still) (at + len) (drop len rest)
  after empty at rest piece.End = Open at
  after empty at rest (piece.Bad n) = Bad (at + n)

  module _ (empty : Bool) (at b : ℕ) where
    two_more : at + 1 + 1 ≡ at + 2
    two_more = omega arith

    three_more : at + 1 + 1 + 1 ≡ at + 3
    three_more = omega arith

    -- the content goes on after a joined line end
    abbrev Joins : List ℕ → Type 0
    Joins cs = content prefix close (pair_len cs) (empty && joins prefix cs) (at + 1) cs ≡ after empty at (b ∷ cs) (piece.Passed (1 + pair_len cs) (not prefix.raw))

    joined_lf : (cs : List ℕ) → Joins (10 ∷ cs)
    joined_lf cs = ap (λ n. content prefix close 0 (empty && not prefix.raw) n cs) two_more

    joined_crlf : (cs : List ℕ) → Joins (13 ∷ 10 ∷ cs)
    joined_crlf cs = ap (λ n. content prefix close 0 (empty && not prefix.raw) n cs) three_more

    joined_cr : (cs : List ℕ) → Joins (13 ∷ cs)
    joined_cr [] = ap (λ n. content prefix close 0 (empty && not prefix.raw) n []) two_more
    joined_cr (d ∷ ds) = elim (cases_Bool ((10 == d) && true)) [
      | inl lf ↦ subst (λ x. Joins (13 ∷ x ∷ ds)) (lf_follows d lf) (joined_crlf ds)
      | inr other ↦
          let single : pair_len (13 ∷ d ∷ ds) ≡ 1 = ap (λ t. cond t 2 1) other in
          ap (λ k. content prefix close k (empty && not prefix.raw) (at + 1) (13 ∷ d ∷ ds)) single
          ∙ ap (λ n. content prefix close 0 (empty && not prefix.raw) n (d ∷ ds)) two_more
          ∙ sym (ap (λ k. content prefix close 0 (empty && not prefix.raw) (at + (1 + k)) (drop (1 + k) (b ∷ 13 ∷ d ∷ ds))) single)
    ]

    joined : (c : ℕ) (cs : List ℕ) → is_line_end c ≡ true → Joins (c ∷ cs)
    joined c cs is = elim (line_end_is c is) [
      | inl lf ↦ subst (λ x. Joins (x ∷ cs)) (sym lf) (joined_lf cs)
      | inr cr ↦ subst (λ x. Joins (x ∷ cs)) (sym cr) (joined_cr cs)
    ]

    single : (c : ℕ) (cs : List ℕ) → is_line_end c ≡ false → pair_len (c ∷ cs) ≡ 1
    single c cs h = ap (λ t. cond (t && begins (10 ∷ []) cs) 2 1) (no_line_end c h).1

    kept : (c : ℕ) (cs : List ℕ) → is_line_end c ≡ false → joins prefix (c ∷ cs) ≡ false
    kept c cs h =
        let no = no_line_end c h in
        ap (λ t. ((t && true) || ((13 == c) && true)) && not prefix.raw) no.0 ∙ ap (λ t. (t && true) && not prefix.raw) no.1

    -- the content goes on after a pair
    pair_after : (cs : List ℕ) → content prefix close (pair_len cs) (empty && joins prefix cs) (at + 1) cs ≡ after empty at (b ∷ cs) (pair_of cs prefix)
    pair_after [] = refl
    pair_after (c ∷ cs) =
        let f = after empty at (b ∷ c ∷ cs) in
        chosen f (is_line_end c) _ _ _ (joined c cs) (λ other.
        ap (λ k. content prefix close k (empty && joins prefix (c ∷ cs)) (at + 1) (c ∷ cs)) (single c cs other)
        ∙ ap (λ e. content prefix close 1 (empty && e) (at + 1) (c ∷ cs)) (kept c cs other)
        ∙ both f (is_foreign prefix c) _ _ _ _ (λ _. refl) (λ _. ap (λ n. content prefix close 0 (empty && false) n cs) two_more))

  -- the content goes on after what it begins with
  pub content_after : (empty : Bool) (at : ℕ) (rest : List ℕ) → content prefix close 0 empty at rest ≡ after empty at rest (piece_of rest close prefix)
  content_after empty at [] = refl
  content_after empty at (b ∷ bs) =
      let f = after empty at (b ∷ bs) in
      both f (begins close (b ∷ bs)) _ _ _ _ (λ _. refl) (λ _.
      both f (b == 92) _ _ _ _ (λ _. pair_after empty at b bs) (λ _.
      both f (length close == 1 && is_line_end b) _ _ _ _ (λ _. refl) (λ _.
      both f (is_foreign prefix b) _ _ _ _ (λ _. ap Bad (sym (add-zero at))) (λ _. ap (λ e. content prefix close 0 e (at + 1) bs) (sym (and_false empty))))))

-- ---- where a literal ends

-- What is left of a text after some bytes of a literal. In a bytes literal the last of them is ASCII.
record Stands (whole : List ℕ) (prefix : Prefix) (at : ℕ) (left : List ℕ) : Type 0 where
  before : ℕ
  some : at ≡ before + 1
  within : at ≤ length whole
  is : drop at whole ≡ left
  ascii : prefix.bytes ≡ true → get_or whole before 0 < 128

module _ (whole : List ℕ) (prefix : Prefix) (close : List ℕ) (quote : get_or close (length close - 1) 0 ≡ get_or whole 0 0) (some : 0 < length close) where
  here : (at b : ℕ) (bs : List ℕ) → Stands whole prefix at (b ∷ bs) → get_or whole at 0 ≡ b
  here at b bs s = ap (λ i. get_or whole i 0) (sym (add-zero at)) ∙ sym (get_or-drop at whole 0 0) ∙ ap (λ xs. get_or xs 0 0) s.is

  more : (at b : ℕ) (bs : List ℕ) → Stands whole prefix at (b ∷ bs) → at < length whole
  more at b bs s = omega (arith, length-drop at whole, ap length s.is)

  -- one byte more
  past : (at b : ℕ) (bs : List ℕ) → Stands whole prefix at (b ∷ bs) → (prefix.bytes ≡ true → b < 128) → Stands whole prefix (at + 1) bs
  past at b bs s ascii = record {
    before = at;
    some = refl;
    within = let lt = more at b bs s in omega arith;
    is = sym (drop-drop 1 at whole) ∙ ap (λ xs. drop 1 xs) s.is;
    ascii = λ is. let low = ascii is in omega (arith, here at b bs s);
  }

  native : (b : ℕ) → is_foreign prefix b ≡ false → prefix.bytes ≡ true → b < 128
  native b h is = let low : nat_le 128 b && true ≡ false = ap (λ t. nat_le 128 b && t) (sym is) ∙ h in grind (arith, nat_tests)

  foreign : (b : ℕ) → is_foreign prefix b ≡ true → (128 ≤ b) × (prefix.bytes ≡ true)
  foreign b h = let parts = and_parts (nat_le 128 b) prefix.bytes h in (grind (arith, nat_tests, parts.0), parts.1)

  bad_lies : (at b : ℕ) (bs : List ℕ) → Stands whole prefix at (b ∷ bs) → is_foreign prefix b ≡ true → Lies whole (Bad at)
  bad_lies at b bs s h =
      let high = foreign b h in
      let is = here at b bs s in
      let lt = more at b bs s in
      let upper : 128 ≤ get_or whole at 0 = omega (arith, high.0) in (
        lt,
        upper,
        λ text.
            let lead = lead_after_ascii whole s.before text (s.ascii high.1) in
            subst (λ i. i < length whole → 128 ≤ get_or whole i 0 → 192 ≤ get_or whole i 0) (sym s.some) lead lt upper,
      )

  closed_lies : (at : ℕ) (empty : Bool) (left : List ℕ) → Stands whole prefix at left → begins close left ≡ true → Lies whole (Closed (at + length close) empty)
  closed_lies at empty left s h =
      let is = (starts_is Decides-eqb left close (begins close left) refl).0 h in
      let long : length left ≡ length close + length (drop (length close) left) = ap length is ∙ length-append close (drop (length close) left) in
      let last = length close - 1 in
      let place : at + length close - 1 ≡ at + last = omega (arith, some) in (
        omega (arith, some),
        omega (arith, length-drop at whole, ap length s.is, long, s.within),
        ap (λ i. get_or whole i 0) place ∙ sym (get_or-drop at whole last 0) ∙ ap (λ xs. get_or xs last 0) (s.is ∙ is)
            ∙ get_or_append_left close (drop (length close) left) 0 last (omega (arith, some)) ∙ quote,
      )

  open_lies : (at : ℕ) → Stands whole prefix at [] → Lies whole (Open at)
  open_lies at s = (omega (arith, s.some), s.within, inl (omega (arith, s.within, length-drop at whole, ap length s.is)))

  line_lies : (at b : ℕ) (bs : List ℕ) → Stands whole prefix at (b ∷ bs) → is_line_end b ≡ true → Lies whole (Open at)
  line_lies at b bs s h = (omega (arith, s.some), s.within, inr (ap is_line_end (here at b bs s) ∙ h))

  content_lies : (pair : ℕ) (empty : Bool) (at : ℕ) (left : List ℕ) → Stands whole prefix at left → Lies whole (content prefix close pair empty at left)
  content_lies pair empty at [] s = open_lies at s
  content_lies (suc n) empty at (b ∷ bs) s =
      either_way (Lies whole) (is_foreign prefix b) _ _ (bad_lies at b bs s) (λ fits. content_lies n empty (at + 1) bs (past at b bs s (native b fits)))
  content_lies zero empty at (b ∷ bs) s =
      either_way (Lies whole) (begins close (b ∷ bs)) _ _ (closed_lies at empty (b ∷ bs) s) (λ _.
      either_way (Lies whole) (b == 92) _ _ (λ is. content_lies (pair_len bs) (empty && joins prefix bs) (at + 1) bs (past at b bs s (λ _. let low = same_byte b 92 is in omega arith))) (λ _.
      either_way (Lies whole) (length close == 1 && is_line_end b) _ _ (λ ends. line_lies at b bs s (and_parts (length close == 1) (is_line_end b) ends).1) (λ _.
      either_way (Lies whole) (is_foreign prefix b) _ _ (bad_lies at b bs s) (λ fits. content_lies zero false (at + 1) bs (past at b bs s (native b fits))))))

-- the first n bytes of a text are a literal's first quotes
record Opens (bytes : List ℕ) (n : ℕ) : Type 0 where
  some : 0 < n
  within : n ≤ length bytes
  last : get_or bytes (n - 1) 0 ≡ get_or bytes 0 0

opens : (bytes : List ℕ) → 0 < length bytes → Opens bytes (quotes bytes)
opens [] h = absurd (omega arith)
opens (b ∷ bs) h =
    either_way (Opens (b ∷ bs)) (begins (b ∷ b ∷ []) bs) 3 1
    (λ three.
    let is = (starts_is Decides-eqb bs (b ∷ b ∷ []) (begins (b ∷ b ∷ []) bs) refl).0 three in
    subst (λ xs. Opens (b ∷ xs) 3) (sym is) (record { some = omega arith; within = omega arith; last = refl }))
    (λ _. record { some = omega arith; within = omega arith; last = refl })

-- a quote begins the text
abbrev pub IsQuoted : List ℕ → Type 0
IsQuoted bytes = (get_or bytes 0 0 ≡ 34) ⊎ (get_or bytes 0 0 ≡ 39)

quoted_some : (bytes : List ℕ) → IsQuoted bytes → 0 < length bytes
quoted_some [] h = absurd (omega arith)
quoted_some (b ∷ bs) h = omega arith

-- the first quotes lie in the text
pub quotes_within : (bytes : List ℕ) → IsQuoted bytes → quotes bytes ≤ length bytes
quotes_within bytes h = (opens bytes (quoted_some bytes h)).within

-- a literal ends within its text
pub literal_lies : (bytes : List ℕ) (prefix : Prefix) → IsQuoted bytes → Lies bytes (literal_of bytes prefix)
literal_lies bytes prefix h =
    let n = quotes bytes in
    let first = opens bytes (quoted_some bytes h) in
    let long : length (take n bytes) ≡ n = length-take-le n bytes first.within in
    let quote : get_or (take n bytes) (length (take n bytes) - 1) 0 ≡ get_or bytes 0 0 =
    ap (λ k. get_or (take n bytes) (k - 1) 0) long ∙ get_or-take n bytes (n - 1) 0 (omega (arith, first.some)) ∙ first.last in
    content_lies bytes prefix (take n bytes) quote (omega (arith, long, first.some)) 0 true n (drop n bytes) (record {
      before = n - 1;
      some = omega (arith, first.some);
      within = first.within;
      is = refl;
      ascii = λ _. omega (arith, first.last, h);
    })

-- ---- the loop over a literal's pieces

-- what is left of a literal decides how it ends
pub record Continues (bytes : List ℕ) (prefix : Prefix) (n : ℕ) (empty : Bool) (at : ℕ) : Type 0 where
  pub same : content prefix (take n bytes) 0 empty at (drop at bytes) ≡ literal_of bytes prefix
  pub within : at ≤ length bytes

-- a piece that is passed has a byte at least, and lies in these many bytes
abbrev Fits : ℕ → Piece → Type 0
Fits n piece.Close = Unit {0}
Fits n (piece.Passed len still) = (0 < len) × (len ≤ n)
Fits n piece.End = Unit {0}
Fits n (piece.Bad k) = Unit {0}

pair_len_within : (c : ℕ) (cs : List ℕ) → pair_len (c ∷ cs) ≤ length (c ∷ cs)
pair_len_within c cs =
    either_way (λ k. k ≤ length (c ∷ cs)) (begins (13 ∷ 10 ∷ []) (c ∷ cs)) 2 1
    (λ h. let is = (starts_is Decides-eqb (c ∷ cs) (13 ∷ 10 ∷ []) (begins (13 ∷ 10 ∷ []) (c ∷ cs)) refl).0 h in omega (arith, ap length is))
    (λ _. omega arith)

pair_fits : (bs : List ℕ) (prefix : Prefix) → Fits (suc (length bs)) (pair_of bs prefix)
pair_fits [] prefix = (omega arith, omega arith)
pair_fits (c ∷ cs) prefix =
    let fits = Fits (suc (suc (length cs))) in
    either_way fits (is_line_end c) _ _ (λ _. (omega arith, omega (arith, pair_len_within c cs))) (λ _.
    either_way fits (is_foreign prefix c) _ _ (λ _. tt) (λ _. (omega arith, omega arith)))

piece_fits : (rest close : List ℕ) (prefix : Prefix) → Fits (length rest) (piece_of rest close prefix)
piece_fits [] close prefix = tt
piece_fits (b ∷ bs) close prefix =
    let fits = Fits (suc (length bs)) in
    either_way fits (begins close (b ∷ bs)) _ _ (λ _. tt) (λ _.
    either_way fits (b == 92) _ _ (λ _. pair_fits bs prefix) (λ _.
    either_way fits (length close == 1 && is_line_end b) _ _ (λ _. tt) (λ _.
    either_way fits (is_foreign prefix b) _ _ (λ _. tt) (λ _. (omega arith, omega arith)))))

module _ (bytes : List ℕ) (prefix : Prefix) (n : ℕ) (empty : Bool) (at : ℕ) (so_far : Continues bytes prefix n empty at) where
  -- what is left, as a slice
  abbrev left : List ℕ
  left = take (length bytes - at) (drop at bytes)

  abbrev close : List ℕ
  close = take n bytes

  -- the piece that comes next says how the literal ends
  pub goes_on : (p : Piece) → p ≡ piece_of left close prefix → after prefix close empty at (drop at bytes) p ≡ literal_of bytes prefix
  goes_on p is =
      let next : p ≡ piece_of (drop at bytes) close prefix = is ∙ ap (λ xs. piece_of xs close prefix) (take_rest bytes at) in
      ap (after prefix close empty at (drop at bytes)) next ∙ sym (content_after prefix close empty at (drop at bytes)) ∙ so_far.same

  pub passed_within : (len : ℕ) (still : Bool) → piece.Passed len still ≡ piece_of left close prefix → (0 < len) × (at + len ≤ length bytes)
  passed_within len still is =
      let fits = subst (Fits (length left)) (sym is) (piece_fits left close prefix) in
      (fits.0, omega (arith, fits.1, ap length (take_rest bytes at), length-drop at bytes, so_far.within))

  -- the rest decides after a piece that is passed, too
  pub continues_past : (len : ℕ) (still : Bool) → piece.Passed len still ≡ piece_of left close prefix → Continues bytes prefix n (empty && still) (at + len)
  continues_past len still is = record {
    same = ap (content prefix close 0 (empty && still) (at + len)) (sym (drop-drop len at bytes)) ∙ goes_on (piece.Passed len still) is;
    within = (passed_within len still is).1;
  }

  pub closes : n ≡ quotes bytes → IsQuoted bytes → piece.Close ≡ piece_of left close prefix → Closed (at + n) empty ≡ literal_of bytes prefix
  closes first h is =
      let inside : n ≤ length bytes = omega (arith, first, quotes_within bytes h) in
      ap (λ k. Closed (at + k) empty) (sym (length-take-le n bytes inside)) ∙ goes_on piece.Close is
