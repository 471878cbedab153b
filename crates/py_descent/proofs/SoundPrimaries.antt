-- Primaries and atoms that the descent finds are those of the grammar.
use Rattle.std.proofs.Common.{◌≡◌, ℕ, Bool, true, false, Option, None, sym, subst}
use Rattle.std.specs.Option.{is_some}
use Rattle.py_tokens.specs.declared.token.Op.TheVariants as op
use Rattle.py_tree.specs.declared.literal.Literal.{Literal}
use Rattle.py_tree.specs.Tree as tree
use Rattle.py_tree.specs.Tree.{Expr, Bound, no_bound, bound, Args, no_args, arg, Pairs, no_pairs, pair}
use Rattle.py_grammar.specs.Cursor.{Cursor, BeginsOp, past, with_site, made}
use Rattle.py_grammar.specs.Names.{text_of, is_super, IsName}
use Rattle.py_grammar.specs.Expressions.{IsPrimary, primary_atom, primary_attr, primary_call, primary_item, primary_slice, IsSlice, slice_two, slice_three, IsBound, bound_none, bound_some, AreArgs, args_none, args_last, args_more, IsArg, arg_test, arg_named, IsAtom, atom_name, atom_int, atom_float, atom_strs, atom_octets, atom_none, atom_true, atom_false, atom_unit, atom_group, atom_empty_list, atom_list, atom_dict, atom_super, ArePairs, pairs_none, pairs_last, pairs_more}
use Rattle.py_descent.specs.Takings.{is_named_super}
use Rattle.py_descent.specs.Goals.{primary, trailers, call_rest, subscript, slice, bounds, stride, arguments, argument, atom, variable, super_rest, group, list_display, dict_display, pairs}
use Rattle.py_descent.specs.Bodies.{body}
use Rattle.py_descent.proofs.Means.{way_yes, way_no, told, untold, after, means}
use Rattle.py_descent.proofs.Seeing.{at_symbol, said_str, said_octets, said_number, said_constant, SaysNumber, says_int, says_float, SaysConstant, says_none, says_true, says_false}
use Rattle.py_descent.proofs.Appends.{then_args, then_args_none, then_args_one, then_args_more, then_pairs, then_pairs_none, then_pairs_one, then_pairs_more}
use Rattle.py_descent.proofs.Parts.{Behind, behind, Since, since, found_name, found_plain, More, more, more_as, or_none, or_more, FoundStride, no_stride, some_stride, done}
use Rattle.py_descent.proofs.Found.{found}
use Rattle.py_descent.proofs.SoundNames.{or_first, strs_whole, octets_whole}

-- ---- Primaries

pub primary_sound : (c : Cursor) (v : Expr) (d : Cursor) → means found (body primary) c v d → IsPrimary c v d
primary_sound c v d (after e u h (after _ _ go g)) = done (IsPrimary c) _ _ v d (go c since (primary_atom h)) g

pub trailers_sound : (a : Cursor) (l : ℕ) (e : Expr) (c : Cursor) (v : Expr) (d : Cursor) → Since a l → IsPrimary a e c → means found (body (trailers l e)) c v d → IsPrimary a v d
trailers_sound a l e c v d since whole (way_yes k (after n _ (found_plain h) (after _ _ go g))) = done (IsPrimary a) _ _ v d (go a since (primary_attr whole (at_symbol _ c k) h)) g
trailers_sound a l e c v d since whole (way_no _ (way_yes k (after f u h (after _ _ go g)))) = done (IsPrimary a) _ _ v d (go a since (h a c since whole (at_symbol _ c k) behind)) g
trailers_sound a l e c v d since whole (way_no _ (way_no _ (way_yes k (after f u h (after _ _ go g))))) = done (IsPrimary a) _ _ v d (go a since (h a c since whole (at_symbol _ c k) behind)) g
trailers_sound a l e c v d since whole (way_no _ (way_no _ (way_no _ g))) = done (IsPrimary a) _ _ v d whole g

pub call_rest_sound : (a b : Cursor) (l : ℕ) (e : Expr) (c : Cursor) (v : Expr) (d : Cursor) → Since a l → IsPrimary a e b → BeginsOp op.LeftParen b → Behind b c → means found (body (call_rest l e)) c v d → IsPrimary a v d
call_rest_sound a b l e c v d since whole opened behind (after _ _ (more as' u h) (way_yes k g)) = done (IsPrimary a) _ _ v d (primary_call whole opened h (at_symbol _ u k)) g
call_rest_sound a b l e c v d since whole opened behind (after _ _ (more as' u h) (way_no _ z)) = absurd z

pub subscript_sound : (a b : Cursor) (l : ℕ) (e : Expr) (c : Cursor) (v : Expr) (d : Cursor) → Since a l → IsPrimary a e b → BeginsOp op.LeftSquare b → Behind b c → means found (body (subscript l e)) c v d → IsPrimary a v d
subscript_sound a b l e c v d since whole opened behind (way_yes k (after _ _ go g)) = done (IsPrimary a) _ _ v d (go a b (past b) since whole opened bound_none (at_symbol _ c k) behind) g
subscript_sound a b l e c v d since whole opened behind (way_no _ (after i u h (way_yes k (after _ _ go g)))) = done (IsPrimary a) _ _ v d (go a b u since whole opened (bound_some h) (at_symbol _ u k) behind) g
subscript_sound a b l e c v d since whole opened behind (way_no _ (after i u h (way_no _ (after j f go (way_yes k g))))) = done (IsPrimary a) _ _ v d (primary_item whole opened (go c since h) (at_symbol _ f k)) g
subscript_sound a b l e c v d since whole opened behind (way_no _ (after i u h (way_no _ (after j f go (way_no _ z))))) = absurd z

slice_whole : (b : Cursor) (low u s : Bound) (f g h : Cursor) → IsBound b low f → BeginsOp op.Colon f → IsBound (past f) u g → FoundStride g s h → IsSlice b low u s h
slice_whole b low u s f g h first colon second no_stride = slice_two first colon second
slice_whole b low u s f g h first colon second (some_stride _ _ again third) = slice_three first colon second again third

pub slice_sound : (a b m : Cursor) (l : ℕ) (e : Expr) (low : Bound) (c : Cursor) (v : Expr) (d : Cursor) → Since a l → IsPrimary a e b → BeginsOp op.LeftSquare b → IsBound (past b) low m → BeginsOp op.Colon m → Behind m c → means found (body (slice l e low)) c v d → IsPrimary a v d
slice_sound a b m l e low c v d since whole opened first colon behind (after u f second (after s h third (way_yes k g))) =
    done (IsPrimary a) _ _ v d (primary_slice whole opened (slice_whole (past b) low u s m f h first colon second third) (at_symbol _ h k)) g
slice_sound a b m l e low c v d since whole opened first colon behind (after u f second (after s h third (way_no _ z))) = absurd z

pub bounds_sound : (c : Cursor) (v : Bound) (d : Cursor) → means found (body bounds) c v d → IsBound c v d
bounds_sound c v d (way_yes _ (after e u h g)) = done (IsBound c) _ _ v d (bound_some h) g
bounds_sound c v d (way_no _ g) = done (IsBound c) _ _ v d bound_none g

pub stride_sound : (c : Cursor) (v : Bound) (d : Cursor) → means found (body stride) c v d → FoundStride c v d
stride_sound c v d (way_yes k (after s u h g)) = done (FoundStride c) _ _ v d (some_stride s u (at_symbol _ c k) h) g
stride_sound c v d (way_no _ g) = done (FoundStride c) _ _ v d no_stride g

-- ---- Arguments

pub argument_sound : (seen : Bool) (c : Cursor) (v : Option ℕ × Expr) (d : Cursor) → means found (body (argument seen)) c v d → IsArg seen c v.0 v.1 (is_some v.0) d
argument_sound seen c v d (way_yes _ (after n _ (found_name h) (way_yes k (after e u hs g)))) = done (λ (z : Option ℕ × Expr) y. IsArg seen c z.0 z.1 (is_some z.0) y) _ _ v d (arg_named h (at_symbol _ (past c) k) hs) g
argument_sound seen c v d (way_yes _ (after n _ (found_name h) (way_no _ z))) = absurd z
argument_sound seen c v d (way_no k (after e u h g)) = done (λ (z : Option ℕ × Expr) y. IsArg seen c z.0 z.1 (is_some z.0) y) _ _ v d (subst (λ z. IsArg z c None e false u) (sym (or_first seen _ k)) (arg_test h)) g

pub arguments_sound : (seen : Bool) (as' : Args) (c : Cursor) (v : Args) (d : Cursor) → means found (body (arguments seen as')) c v d → More then_args as' (AreArgs seen c) v d
arguments_sound seen as' c v d (way_yes _ g) = done (More then_args as' (AreArgs seen c)) _ _ v d (more_as _ _ _ no_args _ _ args_none (then_args_none as')) g
arguments_sound seen as' c v d (way_no _ (after a u h (way_yes k (after _ _ (more bs f hs) g)))) =
    done (More then_args as' (AreArgs seen c)) _ _ v d (more_as _ _ _ (arg a.0 a.1 bs) _ _ (args_more h (at_symbol _ u k) hs) (then_args_more as' bs a.0 a.1)) g
arguments_sound seen as' c v d (way_no _ (after a u h (way_no _ g))) =
    done (More then_args as' (AreArgs seen c)) _ _ v d (more_as _ _ _ (arg a.0 a.1 no_args) _ _ (args_last h) (then_args_one as' a.0 a.1)) g

-- ---- Atoms

constant_atom : (l : Literal) (c : Cursor) → SaysConstant l c → IsAtom c (made (tree.literal l) c (past c)) (with_site (past c))
constant_atom l c (says_none b q) = subst (λ z. IsAtom c (made (tree.literal z) c (past c)) (with_site (past c))) (sym q) (atom_none b)
constant_atom l c (says_true b q) = subst (λ z. IsAtom c (made (tree.literal z) c (past c)) (with_site (past c))) (sym q) (atom_true b)
constant_atom l c (says_false b q) = subst (λ z. IsAtom c (made (tree.literal z) c (past c)) (with_site (past c))) (sym q) (atom_false b)

number_atom : (l : Literal) (c : Cursor) → SaysNumber false l c → IsAtom c (made (tree.literal l) c (past c)) (with_site (past c))
number_atom l c (says_int n b q) = subst (λ z. IsAtom c (made (tree.literal z) c (past c)) (with_site (past c))) (sym q) (atom_int b)
number_atom l c (says_float b q) = subst (λ z. IsAtom c (made (tree.literal z) c (past c)) (with_site (past c))) (sym q) (atom_float b)

pub atom_sound : (c : Cursor) (v : Expr) (d : Cursor) → means found (body atom) c v d → IsAtom c v d
atom_sound c v d (told l h g) = done (IsAtom c) _ _ v d (constant_atom l c (said_constant l c h)) g
atom_sound c v d (untold _ (told l h g)) = done (IsAtom c) _ _ v d (number_atom l c (said_number l c h)) g
atom_sound c v d (untold _ (untold _ (told x h (after _ _ hs g)))) = done (IsAtom c) _ _ v d (atom_strs (strs_whole x c _ _ (said_str x c h) hs)) g
atom_sound c v d (untold _ (untold _ (untold _ (told x h (after _ _ hs g))))) = done (IsAtom c) _ _ v d (atom_octets (octets_whole x c _ _ (said_octets x c h) hs)) g
atom_sound c v d (untold _ (untold _ (untold _ (untold _ (way_yes k (after _ _ go g)))))) = done (IsAtom c) _ _ v d (go c since (at_symbol _ c k) behind) g
atom_sound c v d (untold _ (untold _ (untold _ (untold _ (way_no _ (way_yes k (after _ _ go g))))))) = done (IsAtom c) _ _ v d (go c since (at_symbol _ c k) behind) g
atom_sound c v d (untold _ (untold _ (untold _ (untold _ (way_no _ (way_no _ (way_yes k (after _ _ go g)))))))) = done (IsAtom c) _ _ v d (go c since (at_symbol _ c k) behind) g
atom_sound c v d (untold _ (untold _ (untold _ (untold _ (way_no _ (way_no _ (way_no _ (after _ _ go g)))))))) = done (IsAtom c) _ _ v d (go since) g

super_named : (c : Cursor) (n : ℕ) (z : Bool) → is_named_super c n ≡ z → is_super (text_of c n) ≡ z
unfolding is_named_super
super_named c n z h = h

pub variable_sound : (l : ℕ) (c : Cursor) (v : Expr) (d : Cursor) → Since c l → means found (body (variable l)) c v d → IsAtom c v d
variable_sound l c v d since (after n _ (found_name h) (way_yes k (after _ _ go g))) = done (IsAtom c) _ _ v d (go c n since h (super_named c n true k) behind) g
variable_sound l c v d since (after n _ (found_name h) (way_no k g)) = done (IsAtom c) _ _ v d (atom_name (record { name = h; ordinary = super_named c n false k })) g

pub super_rest_sound : (a : Cursor) (n l : ℕ) (c : Cursor) (v : Expr) (d : Cursor) → Since a l → IsName a n → is_super (text_of a n) ≡ true → Behind a c → means found (body (super_rest l)) c v d → IsAtom a v d
super_rest_sound a n l c v d since h s behind (way_yes x (way_yes y (way_yes z (after m _ (found_plain p) g)))) = done (IsAtom a) _ _ v d (atom_super h s (at_symbol _ c x) (at_symbol _ (past c) y) (at_symbol _ (past (past c)) z) p) g
super_rest_sound a n l c v d since h s behind (way_yes x (way_yes y (way_no _ z))) = absurd z
super_rest_sound a n l c v d since h s behind (way_yes x (way_no _ z)) = absurd z
super_rest_sound a n l c v d since h s behind (way_no _ z) = absurd z

pub group_sound : (a : Cursor) (l : ℕ) (c : Cursor) (v : Expr) (d : Cursor) → Since a l → BeginsOp op.LeftParen a → Behind a c → means found (body (group l)) c v d → IsAtom a v d
group_sound a l c v d since opened behind (way_yes k g) = done (IsAtom a) _ _ v d (atom_unit opened (at_symbol _ c k)) g
group_sound a l c v d since opened behind (way_no _ (after e u h (way_yes k g))) = done (IsAtom a) _ _ v d (atom_group opened h (at_symbol _ u k)) g
group_sound a l c v d since opened behind (way_no _ (after e u h (way_no _ z))) = absurd z

pub list_display_sound : (a : Cursor) (l : ℕ) (c : Cursor) (v : Expr) (d : Cursor) → Since a l → BeginsOp op.LeftSquare a → Behind a c → means found (body (list_display l)) c v d → IsAtom a v d
list_display_sound a l c v d since opened behind (after _ _ or_none (way_yes k g)) = done (IsAtom a) _ _ v d (atom_empty_list opened (at_symbol _ c k)) g
list_display_sound a l c v d since opened behind (after _ _ or_none (way_no _ z)) = absurd z
list_display_sound a l c v d since opened behind (after _ _ (or_more _ _ (more es u h)) (way_yes k g)) = done (IsAtom a) _ _ v d (atom_list opened h (at_symbol _ u k)) g
list_display_sound a l c v d since opened behind (after _ _ (or_more _ _ (more es u h)) (way_no _ z)) = absurd z

pub dict_display_sound : (a : Cursor) (l : ℕ) (c : Cursor) (v : Expr) (d : Cursor) → Since a l → BeginsOp op.LeftBrace a → Behind a c → means found (body (dict_display l)) c v d → IsAtom a v d
dict_display_sound a l c v d since opened behind (after _ _ (more ps u h) (way_yes k g)) = done (IsAtom a) _ _ v d (atom_dict opened h (at_symbol _ u k)) g
dict_display_sound a l c v d since opened behind (after _ _ (more ps u h) (way_no _ z)) = absurd z

pub pairs_sound : (ps : Pairs) (c : Cursor) (v : Pairs) (d : Cursor) → means found (body (pairs ps)) c v d → More then_pairs ps (ArePairs c) v d
pairs_sound ps c v d (way_yes _ g) = done (More then_pairs ps (ArePairs c)) _ _ v d (more_as _ _ _ no_pairs _ _ pairs_none (then_pairs_none ps)) g
pairs_sound ps c v d (way_no _ (after k u h (way_yes x (after w f hs (way_yes y (after _ _ (more qs t rest) g)))))) =
    done (More then_pairs ps (ArePairs c)) _ _ v d (more_as _ _ _ (pair k w qs) _ _ (pairs_more h (at_symbol _ u x) hs (at_symbol _ f y) rest) (then_pairs_more ps qs k w)) g
pairs_sound ps c v d (way_no _ (after k u h (way_yes x (after w f hs (way_no _ g))))) =
    done (More then_pairs ps (ArePairs c)) _ _ v d (more_as _ _ _ (pair k w no_pairs) _ _ (pairs_last h (at_symbol _ u x) hs) (then_pairs_one ps k w)) g
pairs_sound ps c v d (way_no _ (after k u h (way_no _ z))) = absurd z
