-- The first binding that gives its variable another shape than one before it.
use Rattle.std.proofs.Common.{◌≡◌, ◌≢◌, ℕ, suc, ◌+◌, ◌<◌, Option, Some, None, List, [], ◌∷◌, ◌++◌, length, get_or, take, drop, refl, sym, ap, subst, ◌∙◌, ◌⊎◌, inl, inr, arith}
use Rattle.std.specs.List.{All, Contains}
use Rattle.std.proofs.lemmas.List.Elements.{Contains-push_cases, Contains-get_or, All-contains}
use Rattle.std.proofs.lemmas.List.{take_more, take-append-drop}
use Rattle.std.proofs.Math.Seq.{take-length, drop-cons}
use Rattle.typegraph.specs.declared.goals.Binding.{Binding}
use Rattle.typegraph.specs.Maps.{look, HasTwoShapes, IsRising, IsJoined, joined}
use Rattle.typegraph.specs.Clashes.{IsConsistent, ClashesWith, IsFirstClash}
use Rattle.typegraph.proofs.Looks.{look_finds, look_some, look_once}
use Rattle.typegraph.proofs.Agree.{rising_once}
use Rattle.typegraph.proofs.Contexts.{number_known}
use Rattle.typegraph.proofs.Joins.{only_list}

pub consistent_none : IsConsistent []
consistent_none v s t c d = absurd (omega (arith, c.1))

pub no_clash_none : (b : Binding) → ClashesWith [] b → ⊥
no_clash_none b c = omega (arith, c.stands.1)

-- one binding more clashes where the ones before do, or where it does
pub no_clash_more : (list : List Binding) (i : ℕ) (x b : Binding) → i < length list → x ≡ get_or list i x → (ClashesWith (take i list) b → ⊥) → (x.var ≡ b.var → x.shape ≢ b.shape → ⊥) → ClashesWith (take (i + 1) list) b → ⊥
no_clash_more list i x b l at n m c = go (Contains-push_cases (take i list) x (record { var = b.var; shape = c.shape }) (subst (λ xs. Contains xs (record { var = b.var; shape = c.shape })) taken c.stands))
  where
    taken : take (i + 1) list ≡ take i list ++ x ∷ []
    taken = take_more list i x l ∙ ap (λ z. take i list ++ z ∷ []) (sym at)

    go : Contains (take i list) (record { var = b.var; shape = c.shape }) ⊎ (x ≡ record { var = b.var; shape = c.shape }) → ⊥
    go (inl d) = n (record { shape = c.shape; stands = d; differ = c.differ })
    go (inr e) = m (ap (λ z. z.var) e) (λ f. c.differ (sym (ap (λ z. z.shape) e) ∙ f))

pub clash_here : (list : List Binding) (i : ℕ) (x b : Binding) → i < length list → x ≡ get_or list i x → x.var ≡ b.var → x.shape ≢ b.shape → ClashesWith list b
clash_here list i x b l at e n = record { shape = x.shape; stands = subst (λ z. Contains list z) (λ j. record { var = e j; shape = x.shape }) (i, l, sym at); differ = n }

pub no_clash_all : (list : List Binding) (i : ℕ) (b : Binding) → i ≡ length list → (ClashesWith (take i list) b → ⊥) → ClashesWith list b → ⊥
no_clash_all list i b e n c = n (subst (λ xs. ClashesWith xs b) (sym (ap (λ k. take k list) e ∙ take-length list)) c)

pub consistent_more : (list : List Binding) (i : ℕ) (b : Binding) → i < length list → b ≡ get_or list i b → IsConsistent (take i list) → (ClashesWith (take i list) b → ⊥) → IsConsistent (take (i + 1) list)
consistent_more list i b l at c n v s t d e = go (parts s d) (parts t e)
  where
    taken : take (i + 1) list ≡ take i list ++ b ∷ []
    taken = take_more list i b l ∙ ap (λ z. take i list ++ z ∷ []) (sym at)

    parts : (s : ℕ) → Contains (take (i + 1) list) (record { var = v; shape = s }) → Contains (take i list) (record { var = v; shape = s }) ⊎ (b ≡ record { var = v; shape = s })
    parts s d = Contains-push_cases (take i list) b (record { var = v; shape = s }) (subst (λ xs. Contains xs (record { var = v; shape = s })) taken d)

    mixed : (s t : ℕ) → Contains (take i list) (record { var = v; shape = s }) → b ≡ record { var = v; shape = t } → s ≡ t
    mixed s t d e = agree (number_known s t)
      where
        agree : (s ≡ t) ⊎ (s ≡ t → ⊥) → s ≡ t
        agree (inl k) = k
        agree (inr k) = absurd (n (record { shape = s; stands = subst (λ z. Contains (take i list) (record { var = z; shape = s })) (ap (λ z. z.var) (sym e)) d; differ = λ f. k (f ∙ ap (λ z. z.shape) e) }))

    go : Contains (take i list) (record { var = v; shape = s }) ⊎ (b ≡ record { var = v; shape = s }) → Contains (take i list) (record { var = v; shape = t }) ⊎ (b ≡ record { var = v; shape = t }) → s ≡ t
    go (inl d) (inl e) = c v s t d e
    go (inl d) (inr e) = mixed s t d e
    go (inr d) (inl e) = sym (mixed t s e d)
    go (inr d) (inr e) = ap (λ z. z.shape) (sym d ∙ e)

pub first_clash_here : (list : List Binding) (i : ℕ) (b : Binding) → i < length list → b ≡ get_or list i b → IsConsistent (take i list) → ClashesWith (take i list) b → IsFirstClash list b.var
first_clash_here list i b l at c k =
    record {
      before = take i list;
      shape = b.shape;
      after = drop (suc i) list;
      is = sym (take-append-drop i list) ∙ ap (λ ys. take i list ++ ys) (drop-cons list i b l ∙ ap (λ z. z ∷ drop (suc i) list) (sym at));
      consistent = c;
      other = k.shape;
      stands = k.stands;
      differ = k.differ;
    }

pub no_two_shapes : (list : List Binding) (i : ℕ) → i ≡ length list → IsConsistent (take i list) → HasTwoShapes [] list → ⊥
no_two_shapes list i e c t =
    let whole : take i list ≡ list = ap (λ k. take k list) e ∙ take-length list in
    t.differ (c t.var t.one t.other
    (subst (λ xs. Contains xs (record { var = t.var; shape = t.one })) (sym whole) (only_list list t.var t.one t.has_one))
    (subst (λ xs. Contains xs (record { var = t.var; shape = t.other })) (sym whole) (only_list list t.var t.other t.has_other)))

-- a map that a list is joined to shows that it is consistent, and reads as the list does
pub consistent : (list map : List Binding) → IsJoined [] list (Some map) → IsConsistent list
consistent list map (joined is) v s t c d = let k : Some s ≡ Some t = sym ((is v s).1 (inr c)) ∙ (is v t).1 (inr d) in cc

pub joined_look : (list map : List Binding) → IsJoined [] list (Some map) → look map ≡ look list
joined_look list map (joined is) = λ i v. at v (look map v) refl (look list v) refl i
  where
    one : (v s t : ℕ) → look map v ≡ Some s → look list v ≡ Some t → s ≡ t
    one v s t h k = consistent list map (joined is) v s t (only_list list v s ((is v s).0 h)) (look_finds list v t k)

    at : (v : ℕ) (x : Option ℕ) → look map v ≡ x → (y : Option ℕ) → look list v ≡ y → look map v ≡ look list v
    at v (Some s) h (Some t) k = h ∙ ap Some (one v s t h k) ∙ sym k
    at v (Some s) h None k = absurd (look_some list (record { var = v; shape = s }) (only_list list v s ((is v s).0 h)) k)
    at v None h (Some t) k = (is v t).1 (inr (look_finds list v t k)) ∙ sym k
    at v None h None k = h ∙ sym k

pub joined_there : (P : Binding → Type 0) (list map : List Binding) → IsRising map → IsJoined [] list (Some map) → All P list → All P map
joined_there P list map rising (joined is) h k d l =
    let b : Binding = get_or map k d in
    All-contains P list b h (only_list list b.var b.shape ((is b.var b.shape).0 (look_once map b.var b.shape (rising_once map rising) (Contains-get_or map k d l))))
