-- Names, annotations and literals that the descent finds are those of the grammar.
use Rattle.std.proofs.Common.{◌≡◌, ℕ, ◌&&◌, ◌||◌, Bool, true, false, List, ◌∷◌, [], ◌++◌, Some, append-nil, refl, sym, subst}
use Rattle.py_tokens.specs.declared.token.TokenKind.TheVariants as kind
use Rattle.py_tokens.specs.declared.token.Op.TheVariants as op
use Rattle.py_tree.specs.declared.literal.Literal.{Literal}
use Rattle.py_grammar.specs.Cursor.{Cursor, Begins, BeginsOp, past, past_two}
use Rattle.py_grammar.specs.Names.{IsName, IsPlainName}
use Rattle.py_grammar.specs.Expressions.{AreStrs, strs_one, strs_more, AreOctets, octets_one, octets_more}
use Rattle.py_grammar.specs.Statements.{AreDots, dots_none, dots_more, dotted as dotted_name, IsDotted, IsAnnotation, annotation_one, annotation_more, IsPart, part_name, part_items, part_strs, part_none, AreItems, items_last, items_comma, items_more, IsItem, item_annotation, item_ellipsis, item_empty, item_list, IsHint, hint_none, hint_some, IsResult, result_none, result_some, IsLiteral, literal_int, literal_minus_int, literal_float, literal_minus_float, literal_strs, literal_octets, literal_none, literal_true, literal_false}
use Rattle.py_descent.specs.Takings.{is_barred, is_named_specially, name_in}
use Rattle.py_descent.specs.Goals.{name, plain_name, dotted, dots, annotation, parts, part, items, item, hint, result, strings, octets, literal}
use Rattle.py_descent.specs.Bodies.{body}
use Rattle.py_descent.specs.Programs.{said}
use Rattle.py_descent.proofs.Means.{way_yes, way_no, told, untold, after, means}
use Rattle.py_descent.proofs.Seeing.{at_symbol, at_keyword, said_name, said_str, said_octets, said_number, said_negative, said_constant, SaysNumber, says_int, says_float, SaysConstant, says_none, says_true, says_false}
use Rattle.py_descent.proofs.Appends.{then_list_more}
use Rattle.py_descent.proofs.Parts.{FoundName, found_name, FoundPlain, found_plain, More, more, more_as, FoundStrs, no_strs, some_strs, FoundOctets, no_octets, some_octets, done}
use Rattle.py_descent.proofs.Found.{found}

-- ---- Names

pub or_first : (a b : Bool) → (a || b) ≡ false → a ≡ false
or_first false b h = refl
or_first true b h = absurd cc

pub or_second : (a b : Bool) → (a || b) ≡ false → b ≡ false
or_second false b h = h
or_second true b h = absurd cc

name_seen : (c : Cursor) (n : ℕ) → said name_in c ≡ Some n → is_barred c n ≡ false → IsName c n
unfolding is_barred
name_seen c n h k = record { begins = said_name n c h; allowed = k }

plain_seen : (c : Cursor) (n : ℕ) → said name_in c ≡ Some n → (is_barred c n || is_named_specially c n) ≡ false → IsPlainName c n
unfolding is_named_specially
plain_seen c n h k = record { name = name_seen c n h (or_first _ _ k); plain = or_second _ _ k }

pub name_sound : (c : Cursor) (v : ℕ) (d : Cursor) → means found (body name) c v d → FoundName c v d
name_sound c v d (told n h (way_no k g)) = done (FoundName c) _ _ v d (found_name (name_seen c n h k)) g
name_sound c v d (told n h (way_yes _ z)) = absurd z
name_sound c v d (untold _ z) = absurd z

pub plain_name_sound : (c : Cursor) (v : ℕ) (d : Cursor) → means found (body plain_name) c v d → FoundPlain c v d
plain_name_sound c v d (told n h (way_no k g)) = done (FoundPlain c) _ _ v d (found_plain (plain_seen c n h k)) g
plain_name_sound c v d (told n h (way_yes _ z)) = absurd z
plain_name_sound c v d (untold _ z) = absurd z

pub dots_sound : (ns : List ℕ) (c : Cursor) (v : List ℕ) (d : Cursor) → means found (body (dots ns)) c v d → More ◌++◌ ns (AreDots c) v d
dots_sound ns c v d (way_no k g) = done (More ◌++◌ ns (AreDots c)) _ _ v d (more_as _ _ _ [] _ _ dots_none (append-nil ns)) g
dots_sound ns c v d (way_yes k (after n _ (found_plain h) (after _ _ (more ms u hs) g))) =
    done (More ◌++◌ ns (AreDots c)) _ _ v d (more_as _ _ _ (n ∷ ms) _ _ (dots_more (at_symbol _ c k) h hs) (then_list_more ns ms n)) g

pub dotted_sound : (c : Cursor) (v : List ℕ) (d : Cursor) → means found (body dotted) c v d → IsDotted c v d
dotted_sound c v d (after n _ (found_name h) (after _ _ (more ms u hs) g)) = done (IsDotted c) _ _ v d (dotted_name h hs) g

-- ---- Literals

and_and : (a b x : Bool) → (a && (b && x)) ≡ ((a && b) && x)
and_and true b x = refl
and_and false b x = refl

pub strs_whole : (e : Bool) (c : Cursor) (v : Bool) (d : Cursor) → Begins (kind.Str e) c → FoundStrs e (past c) v d → AreStrs c v d
strs_whole e c v d h no_strs = strs_one h
strs_whole e c v d h (some_strs o u hs) = strs_more h hs

strs_before : (e x : Bool) (c : Cursor) (v : Bool) (d : Cursor) → Begins (kind.Str x) c → FoundStrs (e && x) (past c) v d → FoundStrs e c v d
strs_before e x c v d h no_strs = some_strs x (past c) (strs_one h)
strs_before e x c v d h (some_strs o u hs) = subst (λ z. FoundStrs e c z u) (and_and e x o) (some_strs (x && o) u (strs_more h hs))

pub strings_sound : (e : Bool) (c : Cursor) (v : Bool) (d : Cursor) → means found (body (strings e)) c v d → FoundStrs e c v d
strings_sound e c v d (told x h (after _ _ hs g)) = done (FoundStrs e c) _ _ v d (strs_before e x c _ _ (said_str x c h) hs) g
strings_sound e c v d (untold _ g) = done (FoundStrs e c) _ _ v d no_strs g

pub octets_whole : (e : Bool) (c : Cursor) (v : Bool) (d : Cursor) → Begins (kind.Bytes e) c → FoundOctets e (past c) v d → AreOctets c v d
octets_whole e c v d h no_octets = octets_one h
octets_whole e c v d h (some_octets o u hs) = octets_more h hs

octets_before : (e x : Bool) (c : Cursor) (v : Bool) (d : Cursor) → Begins (kind.Bytes x) c → FoundOctets (e && x) (past c) v d → FoundOctets e c v d
octets_before e x c v d h no_octets = some_octets x (past c) (octets_one h)
octets_before e x c v d h (some_octets o u hs) = subst (λ z. FoundOctets e c z u) (and_and e x o) (some_octets (x && o) u (octets_more h hs))

pub octets_sound : (e : Bool) (c : Cursor) (v : Bool) (d : Cursor) → means found (body (octets e)) c v d → FoundOctets e c v d
octets_sound e c v d (told x h (after _ _ hs g)) = done (FoundOctets e c) _ _ v d (octets_before e x c _ _ (said_octets x c h) hs) g
octets_sound e c v d (untold _ g) = done (FoundOctets e c) _ _ v d no_octets g

constant_literal : (l : Literal) (c : Cursor) → SaysConstant l c → IsLiteral c l (past c)
constant_literal l c (says_none b q) = subst (λ z. IsLiteral c z (past c)) (sym q) (literal_none b)
constant_literal l c (says_true b q) = subst (λ z. IsLiteral c z (past c)) (sym q) (literal_true b)
constant_literal l c (says_false b q) = subst (λ z. IsLiteral c z (past c)) (sym q) (literal_false b)

number_literal : (l : Literal) (c : Cursor) → SaysNumber false l c → IsLiteral c l (past c)
number_literal l c (says_int n b q) = subst (λ z. IsLiteral c z (past c)) (sym q) (literal_int b)
number_literal l c (says_float b q) = subst (λ z. IsLiteral c z (past c)) (sym q) (literal_float b)

negative_literal : (l : Literal) (c : Cursor) → BeginsOp op.Minus c → SaysNumber true l (past c) → IsLiteral c l (past_two c)
negative_literal l c m (says_int n b q) = subst (λ z. IsLiteral c z (past_two c)) (sym q) (literal_minus_int m b)
negative_literal l c m (says_float b q) = subst (λ z. IsLiteral c z (past_two c)) (sym q) (literal_minus_float m b)

pub literal_sound : (c : Cursor) (v : Literal) (d : Cursor) → means found (body literal) c v d → IsLiteral c v d
literal_sound c v d (told l h g) = done (IsLiteral c) _ _ v d (constant_literal l c (said_constant l c h)) g
literal_sound c v d (untold _ (told l h g)) = done (IsLiteral c) _ _ v d (number_literal l c (said_number l c h)) g
literal_sound c v d (untold _ (untold _ (told x h (after _ _ hs g)))) = done (IsLiteral c) _ _ v d (literal_strs (strs_whole x c _ _ (said_str x c h) hs)) g
literal_sound c v d (untold _ (untold _ (untold _ (told x h (after _ _ hs g))))) = done (IsLiteral c) _ _ v d (literal_octets (octets_whole x c _ _ (said_octets x c h) hs)) g
literal_sound c v d (untold _ (untold _ (untold _ (untold _ (way_yes k (told l h g)))))) = done (IsLiteral c) _ _ v d (negative_literal l c (at_symbol _ c k) (said_negative l (past c) h)) g
literal_sound c v d (untold _ (untold _ (untold _ (untold _ (way_yes _ (untold _ z)))))) = absurd z
literal_sound c v d (untold _ (untold _ (untold _ (untold _ (way_no _ z))))) = absurd z

-- ---- Annotations

pub annotation_sound : (c : Cursor) (v : Unit {0}) (d : Cursor) → means found (body annotation) c v d → IsAnnotation c d
annotation_sound c v d (after _ _ h (after _ _ hs g)) = done (λ _ z. IsAnnotation c z) _ _ v d (hs c h) g

pub parts_sound : (c : Cursor) (v : Unit {0}) (d : Cursor) → means found (body parts) c v d → (b : Cursor) → IsPart b c → IsAnnotation b d
parts_sound c v d (way_yes k (after _ _ h (after _ _ hs g))) b p = done (λ _ z. IsAnnotation b z) _ _ v d (annotation_more p (at_symbol _ c k) (hs (past c) h)) g
parts_sound c v d (way_no k g) b p = done (λ _ z. IsAnnotation b z) _ _ v d (annotation_one p) g

pub part_sound : (c : Cursor) (v : Unit {0}) (d : Cursor) → means found (body part) c v d → IsPart c d
part_sound c v d (way_yes k g) = done (λ _ z. IsPart c z) _ _ v d (part_none (at_keyword _ c k)) g
part_sound c v d (way_no _ (told x h (after _ _ hs g))) = done (λ _ z. IsPart c z) _ _ v d (part_strs (strs_whole x c _ _ (said_str x c h) hs)) g
part_sound c v d (way_no _ (untold _ (after ns u h (way_yes k (after _ f hs (way_yes r g)))))) = done (λ _ z. IsPart c z) _ _ v d (part_items h (at_symbol _ u k) hs (at_symbol _ f r)) g
part_sound c v d (way_no _ (untold _ (after ns u h (way_yes k (after _ f hs (way_no _ z)))))) = absurd z
part_sound c v d (way_no _ (untold _ (after ns u h (way_no _ g)))) = done (λ _ z. IsPart c z) _ _ v d (part_name h) g

pub items_sound : (c : Cursor) (v : Unit {0}) (d : Cursor) → means found (body items) c v d → AreItems c d
items_sound c v d (after _ u h (way_yes k (way_yes _ g))) = done (λ _ z. AreItems c z) _ _ v d (items_comma h (at_symbol _ u k)) g
items_sound c v d (after _ u h (way_yes k (way_no _ (after _ f hs g)))) = done (λ _ z. AreItems c z) _ _ v d (items_more h (at_symbol _ u k) hs) g
items_sound c v d (after _ u h (way_no _ g)) = done (λ _ z. AreItems c z) _ _ v d (items_last h) g

pub item_sound : (c : Cursor) (v : Unit {0}) (d : Cursor) → means found (body item) c v d → IsItem c d
item_sound c v d (way_yes k g) = done (λ _ z. IsItem c z) _ _ v d (item_ellipsis (at_symbol _ c k)) g
item_sound c v d (way_no _ (way_yes k (way_yes r g))) = done (λ _ z. IsItem c z) _ _ v d (item_empty (at_symbol _ c k) (at_symbol _ (past c) r)) g
item_sound c v d (way_no _ (way_yes k (way_no _ (after _ u hs (way_yes r g))))) = done (λ _ z. IsItem c z) _ _ v d (item_list (at_symbol _ c k) hs (at_symbol _ u r)) g
item_sound c v d (way_no _ (way_yes k (way_no _ (after _ u hs (way_no _ z))))) = absurd z
item_sound c v d (way_no _ (way_no _ (after _ u h g))) = done (λ _ z. IsItem c z) _ _ v d (item_annotation h) g

pub hint_sound : (c : Cursor) (v : Unit {0}) (d : Cursor) → means found (body hint) c v d → IsHint c d
hint_sound c v d (way_yes k (after _ _ h g)) = done (λ _ z. IsHint c z) _ _ v d (hint_some (at_symbol _ c k) h) g
hint_sound c v d (way_no _ g) = done (λ _ z. IsHint c z) _ _ v d hint_none g

pub result_sound : (c : Cursor) (v : Unit {0}) (d : Cursor) → means found (body result) c v d → IsResult c d
result_sound c v d (way_yes k (after _ _ h g)) = done (λ _ z. IsResult c z) _ _ v d (result_some (at_symbol _ c k) h) g
result_sound c v d (way_no _ g) = done (λ _ z. IsResult c z) _ _ v d result_none g
