-- A text means one stub.
use Rattle.std.proofs.Common.{◌≡◌, ℕ, List, [], ◌∷◌, refl, sym, ◌∙◌, subst}
use Rattle.std.specs.List.{AllZip}
use Rattle.py_tokens.specs.declared.token.Token.{Token}
use Rattle.py_tokens.specs.Readings.{HasTokens}
use Rattle.type_terms.specs.Laws.{OneNormalForm}
use Rattle.type_terms.specs.Stubs.{Name, Param, Fun, Class, Stub}
use Rattle.pyi_write.specs.Lexemes.{Lexeme, lexemes}
use Rattle.pyi_write.specs.Meanings.{declared, IsNameForm, IsParamForm, IsFunForm, IsClassForm, IsStubForm, IsStubOf, Means}
use Rattle.pyi_write.specs.StubGrammar.{Item}
use Rattle.pyi_write.proofs.OneReading.{one_list}

-- rows that belong to the same rows are the same, where that holds of each two rows
module _ {X Y : Type 0} (R : X → Y → Type 0) (one : (x : X) (y z : Y) → R x y → R x z → y ≡ z) where
  one_rows : (xs : List X) (ys zs : List Y) → AllZip R xs ys → AllZip R xs zs → ys ≡ zs
  one_rows [] [] [] h k = refl
  one_rows [] [] (z ∷ zs) h k = absurd k
  one_rows [] (y ∷ ys) zs h k = absurd h
  one_rows (x ∷ xs) [] zs h k = absurd h
  one_rows (x ∷ xs) (y ∷ ys) [] h k = absurd k
  one_rows (x ∷ xs) (y ∷ ys) (z ∷ zs) h k = λ i. one x y z h.0 k.0 i ∷ one_rows xs ys zs h.1 k.1 i

module _ (one : OneNormalForm) where
  one_name : (x y z : Name) → IsNameForm x y → IsNameForm x z → y ≡ z
  one_name x y z h k = λ i. record { name = (sym h.name ∙ k.name) i; term = one x.term y.term z.term h.term k.term i }

  one_param : (x y z : Param) → IsParamForm x y → IsParamForm x z → y ≡ z
  one_param x y z h k = λ i. record { name = (sym h.name ∙ k.name) i; term = one x.term y.term z.term h.term k.term i; has_default = (sym h.has_default ∙ k.has_default) i }

  one_fun : (x y z : Fun) → IsFunForm x y → IsFunForm x z → y ≡ z
  one_fun x y z h k = λ i. record {
    name = (sym h.name ∙ k.name) i;
    params = one_rows IsParamForm one_param x.params y.params z.params h.params k.params i;
    answer = one x.answer y.answer z.answer h.answer k.answer i;
  }

  one_class : (x y z : Class) → IsClassForm x y → IsClassForm x z → y ≡ z
  one_class x y z h k = λ i. record {
    name = (sym h.name ∙ k.name) i;
    base = (sym h.base ∙ k.base) i;
    names = one_rows IsNameForm one_name x.names y.names z.names h.names k.names i;
    funs = one_rows IsFunForm one_fun x.funs y.funs z.funs h.funs k.funs i;
  }

  one_form : (x y z : Stub) → IsStubForm x y → IsStubForm x z → y ≡ z
  one_form x y z h k = λ i. record {
    names = one_rows IsNameForm one_name x.names y.names z.names h.names k.names i;
    funs = one_rows IsFunForm one_fun x.funs y.funs z.funs h.funs k.funs i;
    classes = one_rows IsClassForm one_class x.classes y.classes z.classes h.classes k.classes i;
  }

  one_stub : (ls : List Lexeme) (s t : Stub) → IsStubOf ls s → IsStubOf ls t → s ≡ t
  one_stub ls s t h k =
      let same = one_list h.spelled k.spelled refl in
      one_form (declared k.items) s t (subst (λ (is : List Item). IsStubForm (declared is) s) same h.meaning) k.meaning

  pub one_meaning : ((text : List ℕ) (tokens others : List Token) (names more : List (List ℕ)) → HasTokens text tokens names → HasTokens text others more → (tokens ≡ others) × (names ≡ more)) →
      (text : List ℕ) (s t : Stub) → Means text s → Means text t → s ≡ t
  one_meaning one_reading text s t (tokens, names, has, is) (others, more, has-2, is-2) =
      let same = one_reading text tokens others names more has has-2 in
      one_stub (lexemes more others) s t (subst (λ (ls : List Lexeme). IsStubOf ls s) (λ i. lexemes (same.1 i) (same.0 i)) is) is-2
