-- Lexemes are one list of items.
use Rattle.std.proofs.Common.{◌≡◌, ℕ, Bool, List, [], ◌∷◌, Option, Some, None, refl, sym, ap, ◌∙◌}
use Rattle.py_tokens.specs.declared.token.TokenKind.TheVariants as kind
use Rattle.py_tokens.specs.declared.token.Keyword.{Keyword}
use Rattle.py_tokens.specs.declared.token.Keyword.TheVariants.{KwDef, KwFalse, KwNone, KwTrue}
use Rattle.py_tokens.specs.declared.token.Op.{Op}
use Rattle.py_tokens.specs.declared.token.Op.TheVariants.{Ellipsis, Minus}
use Rattle.type_terms.specs.Stubs.{Name, Param, Fun, Class}
use Rattle.type_terms.specs.Terms.{Term}
use Rattle.pyi_write.specs.Lexemes.{Lexeme, name, mark, op, word}
use Rattle.pyi_write.specs.StubGrammar.{IsHint, hint_none, hint_some, AreStrs, strs_last, strs_more, AreBytes, bytes_last, bytes_more, IsNumber, number_int, number_float, IsLiteral, literal_number, literal_negative, literal_strs, literal_bytes, literal_none, literal_true, literal_false, IsDefault, default_none, default_dots, default_literal, IsParam, a_param, AreParams, params_none, params_last, params_more, IsNameLine, name_line, name_dots, IsFunLine, fun_line, Member, a_name, a_fun, IsMember, member_name, member_fun, member_dots, member_str, IsClassMember, class_member, member_pass, AreMembers, members_last, members_more, IsClassBody, body_dots, body_pass, body_block, IsBase, base_none, base_empty, base_named, names_in, funs_in, IsClassPart, class_part, AreImported, imported_last, imported_more, Item, a_module, a_member, a_class, IsItem, item_import, item_typing, item_member, item_class, AreItems, items_end, items_more}
use Rattle.pyi_write.proofs.OneType.{one_dotted, one_type}

-- ---- hints

one_hint : {o : Op} {c c' d d' : List Lexeme} {t t' : Term} → IsHint o c t d → IsHint o c' t' d' → c ≡ c' → (t ≡ t') × (d ≡ d')
one_hint (hint_none stops) (hint_none stops-2) same = (refl, same)
one_hint (hint_none stops) (hint_some {d = d} is t) same = absurd (stops d (same ∙ is))
one_hint (hint_some {d = d} is t) (hint_none stops) same = absurd (stops d (sym same ∙ is))
one_hint (hint_some is t) (hint_some is-2 t-2) same = one_type t t-2 (cc)

-- ---- literals

-- what is left behind literals of texts and of bytes
abbrev past_strs : List Lexeme → List Lexeme
past_strs (mark (kind.Str b) ∷ d) = past_strs d
past_strs other = other

abbrev past_bytes : List Lexeme → List Lexeme
past_bytes (mark (kind.Bytes b) ∷ d) = past_bytes d
past_bytes other = other

no_strs : (d : List Lexeme) → ((x : Bool) (more : List Lexeme) → d ≡ mark (kind.Str x) ∷ more → ⊥) → past_strs d ≡ d
no_strs (mark (kind.Str b) ∷ d) none = absurd (none b d refl)
no_strs other none = refl

no_bytes : (d : List Lexeme) → ((x : Bool) (more : List Lexeme) → d ≡ mark (kind.Bytes x) ∷ more → ⊥) → past_bytes d ≡ d
no_bytes (mark (kind.Bytes b) ∷ d) none = absurd (none b d refl)
no_bytes other none = refl

strs_end : {c d : List Lexeme} → AreStrs c d → past_strs c ≡ d
strs_end {d = d} (strs_last is none) = ap past_strs is ∙ no_strs d none
strs_end (strs_more is rest) = ap past_strs is ∙ strs_end rest

bytes_end : {c d : List Lexeme} → AreBytes c d → past_bytes c ≡ d
bytes_end {d = d} (bytes_last is none) = ap past_bytes is ∙ no_bytes d none
bytes_end (bytes_more is rest) = ap past_bytes is ∙ bytes_end rest

-- what is left behind a literal, if one stands at the front
abbrev past_number : List Lexeme → Option (List Lexeme)
past_number (mark (kind.Int v) ∷ d) = Some d
past_number (mark kind.Float ∷ d) = Some d
past_number _ = None

abbrev past_literal : List Lexeme → Option (List Lexeme)
past_literal (mark (kind.Int v) ∷ d) = Some d
past_literal (mark kind.Float ∷ d) = Some d
past_literal (mark (kind.Op Minus) ∷ d) = past_number d
past_literal (mark (kind.Str b) ∷ d) = Some (past_strs d)
past_literal (mark (kind.Bytes b) ∷ d) = Some (past_bytes d)
past_literal (mark (kind.Keyword KwNone) ∷ d) = Some d
past_literal (mark (kind.Keyword KwTrue) ∷ d) = Some d
past_literal (mark (kind.Keyword KwFalse) ∷ d) = Some d
past_literal _ = None

number_end : {c d : List Lexeme} → IsNumber c d → past_number c ≡ Some d
number_end (number_int is) = ap past_number is
number_end (number_float is) = ap past_number is

literal_end : {c d : List Lexeme} → IsLiteral c d → past_literal c ≡ Some d
literal_end (literal_number (number_int is)) = ap past_literal is
literal_end (literal_number (number_float is)) = ap past_literal is
literal_end (literal_negative is number) = ap past_literal is ∙ number_end number
literal_end {d = d} (literal_strs (strs_last is none)) = ap past_literal is ∙ ap (λ (x : List Lexeme). Some x) (no_strs d none)
literal_end (literal_strs (strs_more is rest)) = ap past_literal is ∙ ap (λ (x : List Lexeme). Some x) (strs_end rest)
literal_end {d = d} (literal_bytes (bytes_last is none)) = ap past_literal is ∙ ap (λ (x : List Lexeme). Some x) (no_bytes d none)
literal_end (literal_bytes (bytes_more is rest)) = ap past_literal is ∙ ap (λ (x : List Lexeme). Some x) (bytes_end rest)
literal_end (literal_none is) = ap past_literal is
literal_end (literal_true is) = ap past_literal is
literal_end (literal_false is) = ap past_literal is

some_same : {d d' : List Lexeme} → Some d ≡ Some d' → d ≡ d'
some_same h = cc

none_some : {d : List Lexeme} → None ≡ Some d → ⊥
none_some h = absurd (cc)

one_literal : {c c' d d' : List Lexeme} → IsLiteral c d → IsLiteral c' d' → c ≡ c' → d ≡ d'
one_literal l l-2 same = some_same (sym (literal_end l) ∙ ap past_literal same ∙ literal_end l-2)

no_dots : {c d e : List Lexeme} → IsLiteral c d → c ≡ op Ellipsis ∷ e → ⊥
no_dots l front = none_some (sym (ap past_literal front) ∙ literal_end l)

-- ---- parameters

one_default : {c c' d d' : List Lexeme} {b b' : Bool} → IsDefault c b d → IsDefault c' b' d' → c ≡ c' → (b ≡ b') × (d ≡ d')
one_default (default_none stops) (default_none stops-2) same = (refl, same)
one_default (default_none stops) (default_dots {d = d} is) same = absurd (stops (op Ellipsis ∷ d) (same ∙ is))
one_default (default_none stops) (default_literal {d = d} is l) same = absurd (stops d (same ∙ is))
one_default (default_dots {d = d} is) (default_none stops) same = absurd (stops (op Ellipsis ∷ d) (sym same ∙ is))
one_default (default_dots is) (default_dots is-2) same = (refl, cc)
one_default (default_dots {d = d} is) (default_literal is-2 l) same = absurd (no_dots {e = d} l (cc))
one_default (default_literal {d = d} is l) (default_none stops) same = absurd (stops d (sym same ∙ is))
one_default (default_literal is l) (default_dots {d = d} is-2) same = absurd (no_dots {e = d} l (cc))
one_default (default_literal is l) (default_literal is-2 l-2) same = (refl, one_literal l l-2 (cc))

one_param : {c c' d d' : List Lexeme} {p p' : Param} → IsParam c p d → IsParam c' p' d' → c ≡ c' → (p ≡ p') × (d ≡ d')
one_param (a_param {n = n} is hint given) (a_param {n = n'} is-2 hint-2 given-2) same =
    let named : n ≡ n' = cc in
    let h = one_hint hint hint-2 (cc) in
    let g = one_default given given-2 h.1 in (λ i. record { name = named i; term = h.0 i; has_default = g.0 i }, g.1)

one_params : {c c' d d' : List Lexeme} {ps ps' : List Param} → AreParams c ps d → AreParams c' ps' d' → c ≡ c' → (ps ≡ ps') × (d ≡ d')
one_params (params_none is) (params_none is-2) same = (refl, cc)
one_params (params_none is) (params_last (a_param is-2 hint given) close) same = absurd (cc)
one_params (params_none is) (params_more (a_param is-2 hint given) comma rest) same = absurd (cc)
one_params (params_last (a_param is hint given) close) (params_none is-2) same = absurd (cc)
one_params (params_last p close) (params_last p-2 close-2) same = let r = one_param p p-2 same in (ap (λ x. x ∷ []) r.0, cc)
one_params (params_last p close) (params_more p-2 comma rest) same = let r = one_param p p-2 same in absurd (cc)
one_params (params_more (a_param is hint given) comma rest) (params_none is-2) same = absurd (cc)
one_params (params_more p comma rest) (params_last p-2 close) same = let r = one_param p p-2 same in absurd (cc)
one_params (params_more p comma rest) (params_more p-2 comma-2 rest-2) same =
    let r = one_param p p-2 same in
    let next = one_params rest rest-2 (cc) in (cc, next.1)

-- ---- lines

one_name_line : {c c' d d' : List Lexeme} {m m' : Name} → IsNameLine c m d → IsNameLine c' m' d' → c ≡ c' → (m ≡ m') × (d ≡ d')
one_name_line (name_line {n = n} is t) (name_line {n = n'} is-2 t-2) same =
    let named : n ≡ n' = cc in
    let r = one_type t t-2 (cc) in (λ i. record { name = named i; term = r.0 i }, cc)
one_name_line (name_line is t) (name_dots is-2 t-2) same = let r = one_type t t-2 (cc) in absurd (cc)
one_name_line (name_dots is t) (name_line is-2 t-2) same = let r = one_type t t-2 (cc) in absurd (cc)
one_name_line (name_dots {n = n} is t) (name_dots {n = n'} is-2 t-2) same =
    let named : n ≡ n' = cc in
    let r = one_type t t-2 (cc) in (λ i. record { name = named i; term = r.0 i }, cc)

one_fun_line : {c c' d d' : List Lexeme} {f f' : Fun} → IsFunLine c f d → IsFunLine c' f' d' → c ≡ c' → (f ≡ f') × (d ≡ d')
one_fun_line (fun_line {n = n} is ps hint) (fun_line {n = n'} is-2 ps-2 hint-2) same =
    let named : n ≡ n' = cc in
    let r = one_params ps ps-2 (cc) in
    let h = one_hint hint hint-2 r.1 in (λ i. record { name = named i; params = r.0 i; answer = h.0 i }, cc)

-- ---- members

-- what a member begins with
data Front (c : List Lexeme) : Type 0 where
  front_name : {n : List ℕ} {d : List Lexeme} → c ≡ name n ∷ d → Front c
  front_def : {d : List Lexeme} → c ≡ word KwDef ∷ d → Front c
  front_dots : {d : List Lexeme} → c ≡ op Ellipsis ∷ d → Front c
  front_str : {b : Bool} {d : List Lexeme} → c ≡ mark (kind.Str b) ∷ d → Front c

name_front : {c d : List Lexeme} {m : Name} → IsNameLine c m d → Front c
name_front (name_line is t) = front_name is
name_front (name_dots is t) = front_name is

member_front : {c d : List Lexeme} {m : Member} → IsMember c m d → Front c
member_front (member_name line) = name_front line
member_front (member_fun (fun_line is ps hint)) = front_def is
member_front (member_dots is) = front_dots is
member_front (member_str is) = front_str is

no_word : {c d : List Lexeme} {k : Keyword} → Front c → c ≡ word k ∷ d → (k ≡ KwDef → ⊥) → ⊥
no_word (front_name is) front other = absurd (cc)
no_word (front_def is) front other = other (cc)
no_word (front_dots is) front other = absurd (cc)
no_word (front_str is) front other = absurd (cc)

no_dedent : {c d : List Lexeme} → Front c → c ≡ mark kind.Dedent ∷ d → ⊥
no_dedent (front_name is) front = absurd (cc)
no_dedent (front_def is) front = absurd (cc)
no_dedent (front_dots is) front = absurd (cc)
no_dedent (front_str is) front = absurd (cc)

no_end : {c d : List Lexeme} → Front c → c ≡ mark kind.End ∷ d → ⊥
no_end (front_name is) front = absurd (cc)
no_end (front_def is) front = absurd (cc)
no_end (front_dots is) front = absurd (cc)
no_end (front_str is) front = absurd (cc)

no_name_line : {c d e : List Lexeme} {l : Lexeme} {m : Name} → IsNameLine c m d → c ≡ l ∷ e → ((n : List ℕ) → l ≡ name n → ⊥) → ⊥
no_name_line (name_line {n = n} is t) front other = other n (cc)
no_name_line (name_dots {n = n} is t) front other = other n (cc)

one_member : {c c' d d' : List Lexeme} {m m' : Member} → IsMember c m d → IsMember c' m' d' → c ≡ c' → (m ≡ m') × (d ≡ d')
one_member (member_name line) (member_name line-2) same = let r = one_name_line line line-2 same in (ap a_name r.0, r.1)
one_member (member_name line) (member_fun (fun_line is ps hint)) same = absurd (no_name_line line (same ∙ is) (λ n h. absurd (cc)))
one_member (member_name line) (member_dots is) same = absurd (no_name_line line (same ∙ is) (λ n h. absurd (cc)))
one_member (member_name line) (member_str is) same = absurd (no_name_line line (same ∙ is) (λ n h. absurd (cc)))
one_member (member_fun (fun_line is ps hint)) (member_name line) same = absurd (no_name_line line (sym same ∙ is) (λ n h. absurd (cc)))
one_member (member_fun line) (member_fun line-2) same = let r = one_fun_line line line-2 same in (ap a_fun r.0, r.1)
one_member (member_fun (fun_line is ps hint)) (member_dots is-2) same = absurd (cc)
one_member (member_fun (fun_line is ps hint)) (member_str is-2) same = absurd (cc)
one_member (member_dots is) (member_name line) same = absurd (no_name_line line (sym same ∙ is) (λ n h. absurd (cc)))
one_member (member_dots is) (member_fun (fun_line is-2 ps hint)) same = absurd (cc)
one_member (member_dots is) (member_dots is-2) same = (refl, cc)
one_member (member_dots is) (member_str is-2) same = absurd (cc)
one_member (member_str is) (member_name line) same = absurd (no_name_line line (sym same ∙ is) (λ n h. absurd (cc)))
one_member (member_str is) (member_fun (fun_line is-2 ps hint)) same = absurd (cc)
one_member (member_str is) (member_dots is-2) same = absurd (cc)
one_member (member_str is) (member_str is-2) same = (refl, cc)

one_class_member : {c c' d d' : List Lexeme} {m m' : Member} → IsClassMember c m d → IsClassMember c' m' d' → c ≡ c' → (m ≡ m') × (d ≡ d')
one_class_member (class_member m) (class_member m-2) same = one_member m m-2 same
one_class_member (class_member m) (member_pass is) same = absurd (no_word (member_front m) (same ∙ is) (λ h. absurd (cc)))
one_class_member (member_pass is) (class_member m) same = absurd (no_word (member_front m) (sym same ∙ is) (λ h. absurd (cc)))
one_class_member (member_pass is) (member_pass is-2) same = (refl, cc)

member_no_dedent : {c d e : List Lexeme} {m : Member} → IsClassMember c m d → c ≡ mark kind.Dedent ∷ e → ⊥
member_no_dedent (class_member m) front = no_dedent (member_front m) front
member_no_dedent (member_pass is) front = absurd (cc)

members_no_dedent : {c d e : List Lexeme} {ms : List Member} → AreMembers c ms d → c ≡ mark kind.Dedent ∷ e → ⊥
members_no_dedent (members_last m) front = member_no_dedent m front
members_no_dedent (members_more m rest) front = member_no_dedent m front

one_members : {c c' d d' : List Lexeme} {ms ms' : List Member} → AreMembers c ms d → AreMembers c' ms' d' → c ≡ c' → (ms ≡ ms') × (d ≡ d')
one_members (members_last m) (members_last m-2) same = let r = one_class_member m m-2 same in (ap (λ x. x ∷ []) r.0, cc)
one_members (members_last m) (members_more m-2 rest) same = let r = one_class_member m m-2 same in absurd (members_no_dedent rest (sym r.1))
one_members (members_more m rest) (members_last m-2) same = let r = one_class_member m m-2 same in absurd (members_no_dedent rest r.1)
one_members (members_more m rest) (members_more m-2 rest-2) same =
    let r = one_class_member m m-2 same in
    let next = one_members rest rest-2 r.1 in (cc, next.1)

-- ---- classes

one_class_body : {c c' d d' : List Lexeme} {ms ms' : List Member} → IsClassBody c ms d → IsClassBody c' ms' d' → c ≡ c' → (ms ≡ ms') × (d ≡ d')
one_class_body (body_dots is) (body_dots is-2) same = (refl, cc)
one_class_body (body_dots is) (body_pass is-2) same = absurd (cc)
one_class_body (body_dots is) (body_block is-2 ms) same = absurd (cc)
one_class_body (body_pass is) (body_dots is-2) same = absurd (cc)
one_class_body (body_pass is) (body_pass is-2) same = (refl, cc)
one_class_body (body_pass is) (body_block is-2 ms) same = absurd (cc)
one_class_body (body_block is ms) (body_dots is-2) same = absurd (cc)
one_class_body (body_block is ms) (body_pass is-2) same = absurd (cc)
one_class_body (body_block is ms) (body_block is-2 ms-2) same = one_members ms ms-2 (cc)

one_base : {c c' d d' : List Lexeme} {b b' : Option (List ℕ)} → IsBase c b d → IsBase c' b' d' → c ≡ c' → (b ≡ b') × (d ≡ d')
one_base (base_none is) (base_none is-2) same = (refl, cc)
one_base (base_none is) (base_empty is-2) same = absurd (cc)
one_base (base_none is) (base_named is-2) same = absurd (cc)
one_base (base_empty is) (base_none is-2) same = absurd (cc)
one_base (base_empty is) (base_empty is-2) same = (refl, cc)
one_base (base_empty is) (base_named is-2) same = absurd (cc)
one_base (base_named is) (base_none is-2) same = absurd (cc)
one_base (base_named is) (base_empty is-2) same = absurd (cc)
one_base (base_named {n = n} is) (base_named {n = n'} is-2) same = let named : n ≡ n' = cc in (ap (λ x. Some x) named, cc)

one_class : {c c' d d' : List Lexeme} {k k' : Class} → IsClassPart c k d → IsClassPart c' k' d' → c ≡ c' → (k ≡ k') × (d ≡ d')
one_class (class_part {n = n} is base body) (class_part {n = n'} is-2 base-2 body-2) same =
    let named : n ≡ n' = cc in
    let b = one_base base base-2 (cc) in
    let ms = one_class_body body body-2 b.1 in
    (λ i. record { name = named i; base = b.0 i; names = names_in (ms.0 i); funs = funs_in (ms.0 i) }, ms.1)

-- ---- items

one_imported : {c c' d d' : List Lexeme} → AreImported c d → AreImported c' d' → c ≡ c' → d ≡ d'
one_imported (imported_last is) (imported_last is-2) same = cc
one_imported (imported_last is) (imported_more is-2 rest) same = absurd (cc)
one_imported (imported_more is rest) (imported_last is-2) same = absurd (cc)
one_imported (imported_more is rest) (imported_more is-2 rest-2) same = one_imported rest rest-2 (cc)

one_item : {c c' d d' : List Lexeme} {i i' : Item} → IsItem c i d → IsItem c' i' d' → c ≡ c' → (i ≡ i') × (d ≡ d')
one_item (item_import is m) (item_import is-2 m-2) same = let r = one_dotted m m-2 (cc) in (ap a_module r.0, cc)
one_item (item_import is m) (item_typing is-2 ns) same = absurd (cc)
one_item (item_import is m) (item_member m-2) same = absurd (no_word (member_front m-2) (sym same ∙ is) (λ h. absurd (cc)))
one_item (item_import is m) (item_class (class_part is-2 base body)) same = absurd (cc)
one_item (item_typing is ns) (item_import is-2 m) same = absurd (cc)
one_item (item_typing is ns) (item_typing is-2 ns-2) same = (refl, one_imported ns ns-2 (cc))
one_item (item_typing is ns) (item_member m) same = absurd (no_word (member_front m) (sym same ∙ is) (λ h. absurd (cc)))
one_item (item_typing is ns) (item_class (class_part is-2 base body)) same = absurd (cc)
one_item (item_member m) (item_import is m-2) same = absurd (no_word (member_front m) (same ∙ is) (λ h. absurd (cc)))
one_item (item_member m) (item_typing is ns) same = absurd (no_word (member_front m) (same ∙ is) (λ h. absurd (cc)))
one_item (item_member m) (item_member m-2) same = let r = one_member m m-2 same in (ap a_member r.0, r.1)
one_item (item_member m) (item_class (class_part is base body)) same = absurd (no_word (member_front m) (same ∙ is) (λ h. absurd (cc)))
one_item (item_class (class_part is base body)) (item_import is-2 m) same = absurd (cc)
one_item (item_class (class_part is base body)) (item_typing is-2 ns) same = absurd (cc)
one_item (item_class (class_part is base body)) (item_member m) same = absurd (no_word (member_front m) (sym same ∙ is) (λ h. absurd (cc)))
one_item (item_class k) (item_class k-2) same = let r = one_class k k-2 same in (ap a_class r.0, r.1)

item_no_end : {c d e : List Lexeme} {i : Item} → IsItem c i d → c ≡ mark kind.End ∷ e → ⊥
item_no_end (item_import is m) front = absurd (cc)
item_no_end (item_typing is ns) front = absurd (cc)
item_no_end (item_member m) front = no_end (member_front m) front
item_no_end (item_class (class_part is base body)) front = absurd (cc)

pub one_list : {c c' : List Lexeme} {is is' : List Item} → AreItems c is → AreItems c' is' → c ≡ c' → is ≡ is'
one_list (items_end end) (items_end end-2) same = refl
one_list (items_end end) (items_more i rest) same = absurd (item_no_end i (sym same ∙ end))
one_list (items_more i rest) (items_end end) same = absurd (item_no_end i (same ∙ end))
one_list (items_more i rest) (items_more i-2 rest-2) same =
    let r = one_item i i-2 same in
    let next = one_list rest rest-2 r.1 in cc
