-- Functions and classes that the descent finds are those of the grammar.
use Rattle.std.proofs.Common.{ℕ, Bool, false, List, [], ◌∷◌, ◌++◌, Option, None, append-nil, sym, subst}
use Rattle.std.specs.Option.{is_some}
use Rattle.py_tokens.specs.declared.token.Keyword.TheVariants as word
use Rattle.py_tree.specs.Tree.{Param, FunDef, ClassDef, Member, Members, no_members, member}
use Rattle.py_grammar.specs.Cursor.{Cursor, BeginsWord, past}
use Rattle.py_grammar.specs.Statements.{IsParam, param_plain, param_default, AreParams, params_none, params_last, params_more, IsBase, base_none, base_empty, base_name, IsMember, member_pass, member_ellipsis, member_strs, member_value, member_declared, member_declared_value, IsFunction, function as function_of, IsClass, class as class_of, IsBody, body_line, body_indented, IsEntry, entry_member, entry_method, AreEntries, entries_none, entries_more}
use Rattle.py_descent.specs.Goals.{param, params, base, function, definition, class_rest, class_member, entry, class_body, entries}
use Rattle.py_descent.specs.Bodies.{body}
use Rattle.py_descent.proofs.Means.{way_yes, way_no, told, untold, after, means}
use Rattle.py_descent.proofs.Seeing.{at_symbol, at_keyword, at_newline, at_indent, at_dedent, said_str}
use Rattle.py_descent.proofs.Appends.{then_list_more, then_members, then_members_none, then_members_more}
use Rattle.py_descent.proofs.Parts.{Behind, behind, Since, since, found_name, found_plain, More, more, more_as, FoundDefinition, found_definition, done}
use Rattle.py_descent.proofs.Found.{found}
use Rattle.py_descent.proofs.SoundNames.{strs_whole}

-- ---- Functions

pub param_sound : (late : Bool) (c : Cursor) (v : Param) (d : Cursor) → means found (body (param late)) c v d → IsParam late c v (is_some v.default) d
param_sound late c v d (after n _ (found_name h) (after _ u hs (way_yes k (after l f hl g)))) =
    done (λ (z : Param) y. IsParam late c z (is_some z.default) y) _ _ v d (param_default h hs (at_symbol _ u k) hl) g
param_sound late c v d (after n _ (found_name h) (after _ u hs (way_no _ (way_yes _ z)))) = absurd z
param_sound late c v d (after n _ (found_name h) (after _ u hs (way_no _ (way_no t g)))) =
    done (λ (z : Param) y. IsParam late c z (is_some z.default) y) _ _ v d (subst (λ z. IsParam z c (record { name = n; default = None }) false u) (sym t) (param_plain h hs)) g

pub params_sound : (late : Bool) (ps : List Param) (c : Cursor) (v : List Param) (d : Cursor) → means found (body (params late ps)) c v d → More ◌++◌ ps (AreParams late c) v d
params_sound late ps c v d (way_yes _ g) = done (More ◌++◌ ps (AreParams late c)) _ _ v d (more_as _ _ _ [] _ _ params_none (append-nil ps)) g
params_sound late ps c v d (way_no _ (after p u h (way_yes k (after _ _ (more qs f hs) g)))) =
    done (More ◌++◌ ps (AreParams late c)) _ _ v d (more_as _ _ _ (p ∷ qs) _ _ (params_more h (at_symbol _ u k) hs) (then_list_more ps qs p)) g
params_sound late ps c v d (way_no _ (after p u h (way_no _ g))) = done (More ◌++◌ ps (AreParams late c)) _ _ v d (more (p ∷ []) u (params_last h)) g

pub function_sound : (a : Cursor) (l n : ℕ) (c : Cursor) (v : FunDef) (d : Cursor) → Since a l → BeginsWord word.KwDef a → Behind (past a) c → means found (body (function l n)) c v d → IsFunction a n v d
function_sound a l n c v d since begun behind (way_yes x (after _ _ (more ps u h) (way_yes y (after _ f r (way_yes z (after ss t hs g)))))) =
    done (IsFunction a n) _ _ v d (function_of begun (at_symbol _ c x) h (at_symbol _ u y) r (at_symbol _ f z) hs) g
function_sound a l n c v d since begun behind (way_yes x (after _ _ (more ps u h) (way_yes y (after _ f r (way_no _ z))))) = absurd z
function_sound a l n c v d since begun behind (way_yes x (after _ _ (more ps u h) (way_no _ z))) = absurd z
function_sound a l n c v d since begun behind (way_no _ z) = absurd z

pub definition_sound : (c : Cursor) (v : FunDef) (d : Cursor) → means found (body definition) c v d → FoundDefinition c v d
definition_sound c v d (way_yes k (after n _ (found_name h) (after f u go g))) = done (FoundDefinition c) _ _ v d (found_definition n h (go c since (at_keyword _ c k) behind)) g
definition_sound c v d (way_no _ z) = absurd z

-- ---- Classes

pub base_sound : (c : Cursor) (v : Option ℕ) (d : Cursor) → means found (body base) c v d → IsBase c v d
base_sound c v d (way_yes x (way_yes y g)) = done (IsBase c) _ _ v d (base_empty (at_symbol _ c x) (at_symbol _ (past c) y)) g
base_sound c v d (way_yes x (way_no _ (after n _ (found_name h) (way_yes y g)))) = done (IsBase c) _ _ v d (base_name (at_symbol _ c x) h (at_symbol _ (past (past c)) y)) g
base_sound c v d (way_yes x (way_no _ (after n _ (found_name h) (way_no _ z)))) = absurd z
base_sound c v d (way_no _ g) = done (IsBase c) _ _ v d base_none g

pub class_rest_sound : (c : Cursor) (v : ClassDef) (d : Cursor) → means found (body class_rest) c v d → IsClass c v d
class_rest_sound c v d (way_yes x (after n _ (found_name h) (after b u hb (way_yes y (after ms f hs g))))) = done (IsClass c) _ _ v d (class_of (at_keyword _ c x) h hb (at_symbol _ u y) hs) g
class_rest_sound c v d (way_yes x (after n _ (found_name h) (after b u hb (way_no _ z)))) = absurd z
class_rest_sound c v d (way_no _ z) = absurd z

pub class_member_sound : (c : Cursor) (v : Member) (d : Cursor) → means found (body class_member) c v d → IsMember c v d
class_member_sound c v d (way_yes k g) = done (IsMember c) _ _ v d (member_pass (at_keyword _ c k)) g
class_member_sound c v d (way_no _ (way_yes k g)) = done (IsMember c) _ _ v d (member_ellipsis (at_symbol _ c k)) g
class_member_sound c v d (way_no _ (way_no _ (told x h (after _ _ hs g)))) = done (IsMember c) _ _ v d (member_strs (strs_whole x c _ _ (said_str x c h) hs)) g
class_member_sound c v d (way_no _ (way_no _ (untold _ (after n _ (found_plain h) (way_yes k (after e u hs g)))))) = done (IsMember c) _ _ v d (member_value h (at_symbol _ (past c) k) hs) g
class_member_sound c v d (way_no _ (way_no _ (untold _ (after n _ (found_plain h) (way_no _ (way_yes k (after _ u hs (way_yes y (after e f he g))))))))) = done (IsMember c) _ _ v d (member_declared_value h (at_symbol _ (past c) k) hs (at_symbol _ u y) he) g
class_member_sound c v d (way_no _ (way_no _ (untold _ (after n _ (found_plain h) (way_no _ (way_yes k (after _ u hs (way_no _ g)))))))) = done (IsMember c) _ _ v d (member_declared h (at_symbol _ (past c) k) hs) g
class_member_sound c v d (way_no _ (way_no _ (untold _ (after n _ (found_plain h) (way_no _ (way_no _ z)))))) = absurd z

pub entry_sound : (c : Cursor) (v : Member) (d : Cursor) → means found (body entry) c v d → IsEntry c v d
entry_sound c v d (way_yes k (after n _ (found_plain h) (after f u go g))) = done (IsEntry c) _ _ v d (entry_method h (go c since (at_keyword _ c k) behind)) g
entry_sound c v d (way_no _ (after m u h (way_yes k g))) = done (IsEntry c) _ _ v d (entry_member h (at_newline u k)) g
entry_sound c v d (way_no _ (after m u h (way_no _ z))) = absurd z

pub class_body_sound : (c : Cursor) (v : Members) (d : Cursor) → means found (body class_body) c v d → IsBody c v d
class_body_sound c v d (way_yes x (way_yes y (after m u h (after _ _ (more ms f hs) (way_yes z g))))) = done (IsBody c) _ _ v d (body_indented (at_newline c x) (at_indent (past c) y) h hs (at_dedent f z)) g
class_body_sound c v d (way_yes x (way_yes y (after m u h (after _ _ (more ms f hs) (way_no _ z))))) = absurd z
class_body_sound c v d (way_yes x (way_no _ z)) = absurd z
class_body_sound c v d (way_no _ (after m u h (way_yes k g))) = done (IsBody c) _ _ v d (body_line h (at_newline u k)) g
class_body_sound c v d (way_no _ (after m u h (way_no _ z))) = absurd z

pub entries_sound : (ms : Members) (c : Cursor) (v : Members) (d : Cursor) → means found (body (entries ms)) c v d → More then_members ms (AreEntries c) v d
entries_sound ms c v d (way_yes _ g) = done (More then_members ms (AreEntries c)) _ _ v d (more_as _ _ _ no_members _ _ entries_none (then_members_none ms)) g
entries_sound ms c v d (way_no _ (after m u h (after _ _ (more ks f hs) g))) = done (More then_members ms (AreEntries c)) _ _ v d (more_as _ _ _ (member m ks) _ _ (entries_more h hs) (then_members_more ms ks m)) g
