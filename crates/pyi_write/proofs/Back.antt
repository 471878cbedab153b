-- The text of a normal stub means that stub.
use Rattle.std.proofs.Common.{◌≡◌, ℕ, ◌≤◌, Bool, true, false, ◌&&◌, ◌||◌, cond, List, [], ◌∷◌, ◌++◌, chars, map, drop, inl, Option, Some, None, IfSome, refl, sym, ap, ◌∙◌, subst}
use Rattle.std.specs.List.{list_any, list_all, flat_map, filter_map, AllByRecursion, IsDistinct, AllZip}
use Rattle.std.specs.Str.{bytes_eq}
use Rattle.std.proofs.lemmas.Map.Keys.{IsDistinct-head, IsDistinct-tail}
use Rattle.py_tokens.specs.Fronts.{begins_with}
use Rattle.py_tokens.specs.Readings.{Reads}
use Rattle.py_tokens.specs.Scans.{start_at}
use Rattle.type_terms.specs.BuiltinNames.{has_name, taken_names}
use Rattle.type_terms.specs.Normal.{IsAmong, here, there, IsNormal}
use Rattle.type_terms.specs.ProperStubs as proper
use Rattle.type_terms.specs.ProperStubs.{fun_terms, stub_terms, is_known, body_names, bases_stand, EachOnce}
use Rattle.type_terms.specs.Stubs.{Name, Param, Fun, Class, Stub}
use Rattle.type_terms.specs.Terms.{Term, any, none, bool, int, float, str, bytes, list, dict, tuple, tuple_of, class, class_of, callable, union, Terms, no_terms, term}
use Rattle.pyi_write.specs.Imports.{within, all_within, module_named, typing_named, body_terms, class_terms, written_terms, all_terms, modules, typing_names}
use Rattle.pyi_write.specs.Layout.{name_line, fun_line, class_text, parts, stub_text}
use Rattle.pyi_write.specs.Meanings as meaning
use Rattle.pyi_write.specs.Meanings.{declared, IsNameForm, IsParamForm, IsFunForm, IsClassForm, IsStubForm, IsStubOf, Means}
use Rattle.pyi_write.specs.NormalStubs.{IsIdentifier, IsPath, AllNames, EachAllNames, depth, Follow, Rise, fun_names, given_names, base_names, class_names, IsPlain, IsOrderly, IsNormalStub}
use Rattle.pyi_write.specs.Orders.{is_fun, with_name, shown}
use Rattle.pyi_write.specs.StubGrammar.{Item, a_module, a_member, a_class, Member, a_name, a_fun, modules_of, members_of, classes_of, names_in, funs_in}
use Rattle.pyi_write.proofs.Before.{not_before}
use Rattle.pyi_write.proofs.Lexing.{Gives, IsStart}
use Rattle.pyi_write.proofs.Spelling.{Dotted, path_dotted, Spelled, spelled}
use Rattle.pyi_write.proofs.Lines.{LineOf, name_content, fun_content, name_of_line, params_of, fun_of_line}
use Rattle.pyi_write.proofs.Parts.{in_turn, Parts, no_parts, an_empty_part, a_part, Whole, whole, LinesOf, no_lines, a_line, top_text, lines_part}
use Rattle.pyi_write.proofs.Classes.{members, members_back, HasName, class_part_of}
use Rattle.pyi_write.proofs.Modules.{path_module, each_in_order, in_order_all}
use Rattle.pyi_write.proofs.Importing.{typing_items, imports_part, filtered_all, typing_identifiers}
use Rattle.pyi_write.proofs.Sounds.{normal_full, sound, Covered, covered_front, covered_rest, known_too, all_front, all_rest}

-- ---- lists

unmap : {X Y : Type 0} (P : Y → Type 0) (f : X → Y) (xs : List X) → AllByRecursion P (map f xs) → AllByRecursion (λ x. P (f x)) xs
unmap P f [] h = tt
unmap P f (x ∷ xs) h = (h.0, unmap P f xs h.1)

remap : {X Y : Type 0} (P : Y → Type 0) (f : X → Y) (xs : List X) → AllByRecursion (λ x. P (f x)) xs → AllByRecursion P (map f xs)
remap P f [] h = tt
remap P f (x ∷ xs) h = (h.0, remap P f xs h.1)

join : {X : Type 0} (P : X → Type 0) (xs ys : List X) → AllByRecursion P xs → AllByRecursion P ys → AllByRecursion P (xs ++ ys)
join P [] ys h k = k
join P (x ∷ xs) ys h k = (h.0, join P xs ys h.1 k)

unflat : {X Y : Type 0} (P : Y → Type 0) (f : X → List Y) (xs : List X) → AllByRecursion P (flat_map f xs) → AllByRecursion (λ x. AllByRecursion P (f x)) xs
unflat P f [] h = tt
unflat P f (x ∷ xs) h = (all_front P (f x) (flat_map f xs) h, unflat P f xs (all_rest P (f x) (flat_map f xs) h))

reflat : {X Y : Type 0} (P : Y → Type 0) (f : X → List Y) (xs : List X) → AllByRecursion (λ x. AllByRecursion P (f x)) xs → AllByRecursion P (flat_map f xs)
reflat P f [] h = tt
reflat P f (x ∷ xs) h = join P (f x) (flat_map f xs) h.0 (reflat P f xs h.1)

change : {X : Type 0} (P Q : X → Type 0) (xs : List X) → ((x : X) → P x → Q x) → AllByRecursion P xs → AllByRecursion Q xs
change P Q [] each h = tt
change P Q (x ∷ xs) each h = (each x h.0, change P Q xs each h.1)

both : {X : Type 0} (P Q : X → Type 0) (xs : List X) → AllByRecursion P xs → AllByRecursion Q xs → AllByRecursion (λ x. P x × Q x) xs
both P Q [] h k = tt
both P Q (x ∷ xs) h k = ((h.0, k.0), both P Q xs h.1 k.1)

listed : {X : Type 0} (test : X → Bool) (xs : List X) → AllByRecursion (λ x. test x ≡ true) xs → list_all test xs ≡ true
listed test [] h = refl
listed test (x ∷ xs) h = ap (λ t. t && list_all test xs) h.0 ∙ listed test xs h.1

-- ---- names in order

put_first : (n : Name) (ns : List Name) → Follow n.name ns → with_name n ns ≡ n ∷ ns
put_first n [] h = refl
put_first n (m ∷ ms) h = ap (λ t. cond t (m ∷ with_name n ms) (n ∷ m ∷ ms)) (not_before n.name m.name h.0)

follow_rise : (x : List ℕ) (ns : List Name) → Follow x ns → Rise ns
follow_rise x [] h = tt
follow_rise x (n ∷ ns) h = h.1

shown_same : (fs : List Fun) (ns : List Name) → Rise ns → AllByRecursion (λ (n : Name). is_fun fs n.name ≡ false) ns → shown fs ns ≡ ns
shown_same fs [] h k = refl
shown_same fs (n ∷ ns) h k =
    ap (λ t. cond t (shown fs ns) (with_name n (shown fs ns))) k.0 ∙ ap (with_name n) (shown_same fs ns (follow_rise n.name ns h) k.1) ∙ put_first n ns h

no_funs : (ns : List Name) → AllByRecursion (λ (n : Name). is_fun [] n.name ≡ false) ns
no_funs [] = tt
no_funs (n ∷ ns) = (refl, no_funs ns)

none_any : (x : List ℕ) (fs : List Fun) → AllByRecursion (λ (f : Fun). bytes_eq x f.name ≡ false) fs → is_fun fs x ≡ false
none_any x [] h = refl
none_any x (f ∷ fs) h = ap (λ t. t || is_fun fs x) h.0 ∙ none_any x fs h.1

apart : (ns : List Name) (fs : List Fun) → IsDistinct bytes_eq (body_names ns fs) → AllByRecursion (λ (n : Name). is_fun fs n.name ≡ false) ns
apart [] fs h = tt
apart (n ∷ ns) fs h =
    let others = map (λ (m : Name). m.name) ns ++ map (λ (f : Fun). f.name) fs in (
      none_any n.name fs (unmap (λ y. bytes_eq n.name y ≡ false) (λ (f : Fun). f.name) fs (all_rest (λ y. bytes_eq n.name y ≡ false) (map (λ (m : Name). m.name) ns) (map (λ (f : Fun). f.name) fs) (IsDistinct-head bytes_eq n.name others h))),
      apart ns fs (IsDistinct-tail bytes_eq n.name others h),
    )

-- ---- what the items of a stub declare

abbrev items_of : List (List ℕ) → List (List ℕ) → List Name → List Fun → List Class → List Item
items_of ms ts ns fs ks = (map a_module ms ++ typing_items ts) ++ (map a_member (map a_name ns) ++ (map a_member (map a_fun fs) ++ map a_class ks))

class_items : (ks : List Class) → (modules_of (map a_class ks) ≡ []) × (members_of (map a_class ks) ≡ []) × (classes_of (map a_class ks) ≡ ks)
class_items [] = (refl, refl, refl)
class_items (k ∷ ks) = let h = class_items ks in (h.0, h.1, ap (λ x. k ∷ x) h.2)

member_items : (ms : List Member) (is : List Item) → (modules_of (map a_member ms ++ is) ≡ modules_of is) × (members_of (map a_member ms ++ is) ≡ ms ++ members_of is) × (classes_of (map a_member ms ++ is) ≡ classes_of is)
member_items [] is = (refl, refl, refl)
member_items (m ∷ ms) is = let h = member_items ms is in (h.0, ap (λ x. m ∷ x) h.1, h.2)

typed_items : (ts : List (List ℕ)) (is : List Item) → (modules_of (typing_items ts ++ is) ≡ modules_of is) × (members_of (typing_items ts ++ is) ≡ members_of is) × (classes_of (typing_items ts ++ is) ≡ classes_of is)
typed_items [] is = (refl, refl, refl)
typed_items (t ∷ ts) is = (refl, refl, refl)

module_items : (ms ts : List (List ℕ)) (is : List Item) → (modules_of ((map a_module ms ++ typing_items ts) ++ is) ≡ ms ++ modules_of is) × (members_of ((map a_module ms ++ typing_items ts) ++ is) ≡ members_of is) × (classes_of ((map a_module ms ++ typing_items ts) ++ is) ≡ classes_of is)
module_items [] ts is = typed_items ts is
module_items (m ∷ ms) ts is = let h = module_items ms ts is in (ap (λ x. m ∷ x) h.0, h.1, h.2)

app_nil : {X : Type 0} (xs : List X) → xs ++ [] ≡ xs
app_nil [] = refl
app_nil (x ∷ xs) = ap (λ ys. x ∷ ys) (app_nil xs)

module _ (ms ts : List (List ℕ)) (ns : List Name) (fs : List Fun) (ks : List Class) where
  abbrev behind_names : List Item
  behind_names = map a_member (map a_fun fs) ++ map a_class ks

  abbrev behind_imports : List Item
  behind_imports = map a_member (map a_name ns) ++ behind_names

  the_modules : modules_of (items_of ms ts ns fs ks) ≡ ms
  the_modules =
      (module_items ms ts behind_imports).0
      ∙ ap (λ x. ms ++ x) ((member_items (map a_name ns) behind_names).0 ∙ (member_items (map a_fun fs) (map a_class ks)).0 ∙ (class_items ks).0) ∙ app_nil ms

  the_members : members_of (items_of ms ts ns fs ks) ≡ members ns fs
  the_members =
      (module_items ms ts behind_imports).1 ∙ (member_items (map a_name ns) behind_names).1
      ∙ ap (λ x. map a_name ns ++ x) ((member_items (map a_fun fs) (map a_class ks)).1 ∙ ap (λ x. map a_fun fs ++ x) (class_items ks).1 ∙ app_nil (map a_fun fs))

  the_classes : classes_of (items_of ms ts ns fs ks) ≡ ks
  the_classes =
      (module_items ms ts behind_imports).2 ∙ (member_items (map a_name ns) behind_names).2 ∙ (member_items (map a_fun fs) (map a_class ks)).2 ∙ (class_items ks).2

  the_names : (declared (items_of ms ts ns fs ks)).names ≡ ns
  the_names = ap names_in the_members ∙ (members_back ns fs).0

  the_funs : (declared (items_of ms ts ns fs ks)).funs ≡ fs
  the_funs = ap funs_in the_members ∙ (members_back ns fs).1

-- ---- the lines and parts of a normal stub

module _ (s : Stub) (own : list_any (λ (c : Class). has_name taken_names c.name) s.classes ≡ false) where
  record Good (t : Term) : Type 0 where
    known : is_known s t ≡ true
    paths : AllNames IsPath t
    small : depth t ≤ 64
    normal : IsNormal t

  good_spelled : (t : Term) → Good t → Spelled t
  good_spelled t g = spelled t (sound s own t g.paths (normal_full t t g.normal) g.known)

  goods : (ts : List Term) → list_all (is_known s) ts ≡ true → AllByRecursion (AllNames IsPath) ts → AllByRecursion (λ t. depth t ≤ 64) ts → ((t : Term) → IsAmong t ts → IsNormal t) → AllByRecursion Good ts
  goods [] k p d n = tt
  goods (t ∷ ts) k p d n = (
    record { known = first (is_known s t) (list_all (is_known s) ts) k; paths = p.0; small = d.0; normal = n t here },
    goods ts (second (is_known s t) (list_all (is_known s) ts) k) p.1 d.1 (λ u is. n u (there is)),
  )
    where
      first : (a b : Bool) → a && b ≡ true → a ≡ true
      first true b h = refl
      first false b h = absurd (cc)

      second : (a b : Bool) → a && b ≡ true → b ≡ true
      second true b h = h
      second false b h = absurd (cc)

  -- a body of which each part is good
  record GoodBody (ns : List Name) (fs : List Fun) : Type 0 where
    names : AllByRecursion (λ (n : Name). IsIdentifier n.name) ns
    terms : AllByRecursion (λ (n : Name). Good n.term) ns
    fun_names : AllByRecursion (λ (f : Fun). AllByRecursion IsIdentifier (fun_names f)) fs
    fun_terms : AllByRecursion (λ (f : Fun). AllByRecursion Good (fun_terms f)) fs
    plain : AllByRecursion IsPlain fs

  answer_good : (f : Fun) → AllByRecursion Good (fun_terms f) → Good f.answer
  answer_good f h = (all_rest Good (map (λ (p : Param). p.term) f.params) (f.answer ∷ []) h).0

  fun_line_of : (f : Fun) → AllByRecursion IsIdentifier (fun_names f) → AllByRecursion Good (fun_terms f) → IsPlain f → LineOf (fun_content f) (a_fun f)
  fun_line_of f is good plain =
      let answer = answer_good f good in
      fun_of_line f is.0 (params_of f.params (unmap IsIdentifier (λ (p : Param). p.name) f.params is.1) plain) (good_spelled f.answer answer) answer.small

  fun_lines_of : (fs : List Fun) → AllByRecursion (λ (f : Fun). AllByRecursion IsIdentifier (fun_names f)) fs → AllByRecursion (λ (f : Fun). AllByRecursion Good (fun_terms f)) fs → AllByRecursion IsPlain fs → LinesOf (map fun_content fs) (map a_fun fs)
  fun_lines_of [] is good plain = no_lines
  fun_lines_of (f ∷ fs) is good plain = a_line (fun_line_of f is.0 good.0 plain.0) (fun_lines_of fs is.1 good.1 plain.1)

  name_lines_of : (ns : List Name) (cs : List (List ℕ)) (ms : List Member) → AllByRecursion (λ (n : Name). IsIdentifier n.name) ns → AllByRecursion (λ (n : Name). Good n.term) ns → LinesOf cs ms → LinesOf (map name_content ns ++ cs) (map a_name ns ++ ms)
  name_lines_of [] cs ms is good lines = lines
  name_lines_of (n ∷ ns) cs ms is good lines = a_line (name_of_line n is.0 (good_spelled n.term good.0) good.0.small) (name_lines_of ns cs ms is.1 good.1 lines)

  names_alone : (ns : List Name) → AllByRecursion (λ (n : Name). IsIdentifier n.name) ns → AllByRecursion (λ (n : Name). Good n.term) ns → LinesOf (map name_content ns) (map a_name ns)
  names_alone [] is good = no_lines
  names_alone (n ∷ ns) is good = a_line (name_of_line n is.0 (good_spelled n.term good.0) good.0.small) (names_alone ns is.1 good.1)

  names_top : (ns : List Name) → flat_map (name_line []) ns ≡ top_text (map name_content ns)
  names_top [] = refl
  names_top (n ∷ ns) = ap (λ x. name_content n ++ x) (names_top ns)

  funs_top : (fs : List Fun) → flat_map (fun_line []) fs ≡ top_text (map fun_content fs)
  funs_top [] = refl
  funs_top (f ∷ fs) = ap (λ x. fun_content f ++ x) (funs_top fs)

  lines_maybe : {cs : List (List ℕ)} {ms : List Member} {ps : List (List ℕ)} {others : List Item} → LinesOf cs ms → Parts ps others → Parts (top_text cs ∷ ps) (map a_member ms ++ others)
  lines_maybe no_lines ps = an_empty_part ps
  lines_maybe (a_line l lines) ps = a_part (lines_part l lines) ps

  record GoodClass (k : Class) : Type 0 where
    name : IsIdentifier k.name
    base : HasName k.base
    body : GoodBody k.names k.funs
    same : shown k.funs k.names ≡ k.names

  classes_parts : (ks : List Class) → AllByRecursion GoodClass ks → Parts (map class_text ks) (map a_class ks)
  classes_parts [] h = no_parts
  classes_parts (k ∷ ks) h =
      let b = h.0.body in
      a_part (class_part_of k h.0.name h.0.base h.0.same (name_lines_of k.names (map fun_content k.funs) (map a_fun k.funs) b.names b.terms (fun_lines_of k.funs b.fun_names b.fun_terms b.plain))) (classes_parts ks h.1)

  -- ---- what a normal stub has of all this

  body_good : (ns : List Name) (fs : List Fun) → AllByRecursion IsIdentifier (given_names ns fs) → AllByRecursion Good (proper.body_terms ns fs) → AllByRecursion IsPlain fs → GoodBody ns fs
  body_good ns fs is good plain = record {
    names = unmap IsIdentifier (λ (n : Name). n.name) ns (all_front IsIdentifier (map (λ (n : Name). n.name) ns) (flat_map fun_names fs) is);
    terms = unmap Good (λ (n : Name). n.term) ns (all_front Good (map (λ (n : Name). n.term) ns) (flat_map fun_terms fs) good);
    fun_names = unflat IsIdentifier fun_names fs (all_rest IsIdentifier (map (λ (n : Name). n.name) ns) (flat_map fun_names fs) is);
    fun_terms = unflat Good fun_terms fs (all_rest Good (map (λ (n : Name). n.term) ns) (flat_map fun_terms fs) good);
    plain = plain;
  }

  base_named : (base : Option (List ℕ)) → AllByRecursion IsIdentifier (base_names base) → HasName base
  base_named None h = tt
  base_named (Some b) h = h.0

  class_good : (k : Class) → AllByRecursion IsIdentifier (class_names k) → AllByRecursion Good (proper.body_terms k.names k.funs) → IsOrderly k → IsDistinct bytes_eq (body_names k.names k.funs) → GoodClass k
  class_good k is good orderly once = record {
    name = is.0;
    base = base_named k.base (all_front IsIdentifier (base_names k.base) (given_names k.names k.funs) is.1);
    body = body_good k.names k.funs (all_rest IsIdentifier (base_names k.base) (given_names k.names k.funs) is.1) good orderly.plain;
    same = shown_same k.funs k.names orderly.rise (apart k.names k.funs once);
  }

  classes_good : (ks : List Class) → AllByRecursion (λ (k : Class). AllByRecursion IsIdentifier (class_names k)) ks → AllByRecursion (λ (k : Class). AllByRecursion Good (proper.body_terms k.names k.funs)) ks →
      AllByRecursion IsOrderly ks → EachOnce ks → AllByRecursion GoodClass ks
  classes_good [] is good orderly once = tt
  classes_good (k ∷ ks) is good orderly once = (class_good k is.0 good.0 orderly.0 once.0, classes_good ks is.1 good.1 orderly.1 once.1)

  -- ---- the types that are written

  answers : (fs : List Fun) → AllByRecursion (λ (f : Fun). AllByRecursion Good (fun_terms f)) fs → AllByRecursion (λ (f : Fun). Good f.answer) fs
  answers fs h = change (λ (f : Fun). AllByRecursion Good (fun_terms f)) (λ (f : Fun). Good f.answer) fs answer_good h

  written_body : (ns : List Name) (fs : List Fun) → GoodBody ns fs → AllByRecursion Good (body_terms ns fs)
  written_body ns fs b = join Good (map (λ (n : Name). n.term) ns) (map (λ (f : Fun). f.answer) fs) (remap Good (λ (n : Name). n.term) ns b.terms) (remap Good (λ (f : Fun). f.answer) fs (answers fs b.fun_terms))

  written_class : (k : Class) → GoodClass k → AllByRecursion Good (class_terms k)
  written_class k g = subst (λ ns. AllByRecursion Good (body_terms ns k.funs)) (sym g.same) (written_body k.names k.funs g.body)

  -- ---- normal forms

  names_form : (ns : List Name) → AllByRecursion (λ (n : Name). Good n.term) ns → AllZip IsNameForm ns ns
  names_form [] h = tt
  names_form (n ∷ ns) h = (record { name = refl; term = h.0.normal }, names_form ns h.1)

  params_form : (ps : List Param) → AllByRecursion (λ (p : Param). Good p.term) ps → AllZip IsParamForm ps ps
  params_form [] h = tt
  params_form (p ∷ ps) h = (record { name = refl; term = h.0.normal; has_default = refl }, params_form ps h.1)

  fun_form : (f : Fun) → AllByRecursion Good (fun_terms f) → IsFunForm f f
  fun_form f h = record {
    name = refl;
    params = params_form f.params (unmap Good (λ (p : Param). p.term) f.params (all_front Good (map (λ (p : Param). p.term) f.params) (f.answer ∷ []) h));
    answer = (answer_good f h).normal;
  }

  funs_form : (fs : List Fun) → AllByRecursion (λ (f : Fun). AllByRecursion Good (fun_terms f)) fs → AllZip IsFunForm fs fs
  funs_form [] h = tt
  funs_form (f ∷ fs) h = (fun_form f h.0, funs_form fs h.1)

  classes_form : (ks : List Class) → AllByRecursion GoodClass ks → AllZip IsClassForm ks ks
  classes_form [] h = tt
  classes_form (k ∷ ks) h = (record { name = refl; base = refl; names = names_form k.names h.0.body.terms; funs = funs_form k.funs h.0.body.fun_terms }, classes_form ks h.1)

  -- ---- the classes of other modules

  module _ (mods : List (List ℕ)) where
    abbrev IsFound : Term → Type 0
    IsFound t = meaning.is_known s mods t ≡ true

    found_body : (ns : List Name) (fs : List Fun) → AllByRecursion IsFound (body_terms ns fs) → AllByRecursion IsPlain fs → AllByRecursion IsFound (proper.body_terms ns fs)
    found_body ns fs h plain =
        join IsFound (map (λ (n : Name). n.term) ns) (flat_map fun_terms fs) (all_front IsFound (map (λ (n : Name). n.term) ns) (map (λ (f : Fun). f.answer) fs) h)
        (reflat IsFound fun_terms fs (found_funs fs (unmap IsFound (λ (f : Fun). f.answer) fs (all_rest IsFound (map (λ (n : Name). n.term) ns) (map (λ (f : Fun). f.answer) fs) h)) plain))
      where
        found_params : (ps : List Param) → AllByRecursion (λ (p : Param). p.term ≡ any) ps → AllByRecursion (λ (p : Param). IsFound p.term) ps
        found_params ps untyped = change (λ (p : Param). p.term ≡ any) (λ (p : Param). IsFound p.term) ps (λ p is. ap (meaning.is_known s mods) is) untyped

        found_fun : (f : Fun) → IsFound f.answer → IsPlain f → AllByRecursion IsFound (fun_terms f)
        found_fun f answer untyped = join IsFound (map (λ (p : Param). p.term) f.params) (f.answer ∷ []) (remap IsFound (λ (p : Param). p.term) f.params (found_params f.params untyped)) (answer, tt)

        found_funs : (gs : List Fun) → AllByRecursion (λ (f : Fun). IsFound f.answer) gs → AllByRecursion IsPlain gs → AllByRecursion (λ (f : Fun). AllByRecursion IsFound (fun_terms f)) gs
        found_funs [] k untyped = tt
        found_funs (g ∷ gs) k untyped = (found_fun g k.0 untyped.0, found_funs gs k.1 untyped.1)

    found_classes : (ks : List Class) → AllByRecursion GoodClass ks → AllByRecursion (λ (k : Class). AllByRecursion IsFound (class_terms k)) ks → AllByRecursion (λ (k : Class). AllByRecursion IsFound (proper.body_terms k.names k.funs)) ks
    found_classes [] good h = tt
    found_classes (k ∷ ks) good h =
        (found_body k.names k.funs (subst (λ ns. AllByRecursion IsFound (body_terms ns k.funs)) good.0.same h.0) good.0.body.plain, found_classes ks good.1 h.1)

    found_each : (ts : List Term) → AllByRecursion Good ts → AllByRecursion (λ t. Covered mods (within t)) ts → AllByRecursion IsFound ts
    found_each [] g c = tt
    found_each (t ∷ ts) g c = (known_too s mods t g.0.known c.0, found_each ts g.1 c.1)

    covered_each : (ts : List Term) → Covered mods (flat_map within ts) → AllByRecursion (λ t. Covered mods (within t)) ts
    covered_each [] c = tt
    covered_each (t ∷ ts) c = (covered_front mods (within t) (flat_map within ts) c, covered_each ts (covered_rest mods (within t) (flat_map within ts) c))

-- ---- modules are paths

abbrev HasModule : Term → Type 0
HasModule t = IfSome (module_named t) Dotted

some_dotted : (o : Option (List ℕ)) → IfSome o IsPath → IfSome o Dotted
some_dotted None h = tt
some_dotted (Some n) h = path_dotted h

mutual
  paths_within : (t : Term) → AllNames IsPath t → AllByRecursion HasModule (within t)
  paths_within (list t) p = (tt, paths_within t p)
  paths_within (dict t u) p = (tt, join HasModule (within t) (within u) (paths_within t p.0) (paths_within u p.1))
  paths_within (tuple ts) p = (tt, all_paths_within ts p)
  paths_within (tuple_of t) p = (tt, paths_within t p)
  paths_within (class n) p = (some_dotted (module_named (class n)) (path_module p), tt)
  paths_within (class_of n) p = (some_dotted (module_named (class_of n)) (path_module p), tt)
  paths_within (callable t) p = (tt, paths_within t p)
  paths_within (union ts) p = (tt, all_paths_within ts p)
  paths_within any p = (tt, tt)
  paths_within none p = (tt, tt)
  paths_within bool p = (tt, tt)
  paths_within int p = (tt, tt)
  paths_within float p = (tt, tt)
  paths_within str p = (tt, tt)
  paths_within bytes p = (tt, tt)

  all_paths_within : (ts : Terms) → EachAllNames IsPath ts → AllByRecursion HasModule (all_within ts)
  all_paths_within no_terms p = tt
  all_paths_within (term t ts) p = join HasModule (within t) (all_within ts) (paths_within t p.0) (all_paths_within ts p.1)

-- ---- the whole

module _ (s : Stub) (h : IsNormalStub s) where
  own : list_any (λ (c : Class). has_name taken_names c.name) s.classes ≡ false
  own = h.proper.own

  abbrev top_names : List (List ℕ)
  top_names = given_names s.names s.funs

  all_good : AllByRecursion (Good s own) (stub_terms s)
  all_good = goods s own (stub_terms s) h.proper.known h.paths h.brackets h.proper.normal

  top_good : GoodBody s own s.names s.funs
  top_good =
      body_good s own s.names s.funs (all_front IsIdentifier top_names (flat_map class_names s.classes) h.identifiers)
      (all_front (Good s own) (proper.body_terms s.names s.funs) (flat_map (λ (c : Class). proper.body_terms c.names c.funs) s.classes) all_good) h.plain

  good_classes : AllByRecursion (GoodClass s own) s.classes
  good_classes =
      classes_good s own s.classes (unflat IsIdentifier class_names s.classes (all_rest IsIdentifier top_names (flat_map class_names s.classes) h.identifiers))
      (unflat (Good s own) (λ (c : Class). proper.body_terms c.names c.funs) s.classes (all_rest (Good s own) (proper.body_terms s.names s.funs) (flat_map (λ (c : Class). proper.body_terms c.names c.funs) s.classes) all_good))
      h.orderly h.proper.once_inside

  same : shown [] s.names ≡ s.names
  same = shown_same [] s.names h.rise (no_funs s.names)

  written_good : AllByRecursion (Good s own) (written_terms s)
  written_good =
      join (Good s own) (body_terms (shown [] s.names) s.funs) (flat_map class_terms s.classes)
      (subst (λ ns. AllByRecursion (Good s own) (body_terms ns s.funs)) (sym same) (written_body s own s.names s.funs top_good))
      (reflat (Good s own) class_terms s.classes (change (GoodClass s own) (λ (k : Class). AllByRecursion (Good s own) (class_terms k)) s.classes (written_class s own) good_classes))

  module_paths : AllByRecursion Dotted (modules s)
  module_paths =
      in_order_all Dotted (filter_map module_named (all_terms s))
      (filtered_all Dotted module_named (all_terms s)
      (reflat HasModule within (written_terms s) (change (Good s own) (λ t. AllByRecursion HasModule (within t)) (written_terms s) (λ t g. paths_within t g.paths) written_good)))

  typing_words : AllByRecursion IsIdentifier (typing_names s)
  typing_words = in_order_all IsIdentifier (filter_map typing_named (all_terms s)) (typing_identifiers (all_terms s))

  abbrev items : List Item
  items = items_of (modules s) (typing_names s) s.names s.funs s.classes

  stub_parts : Parts (parts s) items
  stub_parts =
      imports_part (modules s) (typing_names s) module_paths typing_words
      (subst (λ x. Parts (x ∷ flat_map (fun_line []) s.funs ∷ map class_text s.classes) (map a_member (map a_name s.names) ++ (map a_member (map a_fun s.funs) ++ map a_class s.classes)))
      (sym (ap (flat_map (name_line [])) same ∙ names_top s own s.names))
      (lines_maybe s own (names_alone s own s.names top_good.names top_good.terms)
      (subst (λ x. Parts (x ∷ map class_text s.classes) (map a_member (map a_fun s.funs) ++ map a_class s.classes)) (sym (funs_top s own s.funs))
      (lines_maybe s own (fun_lines_of s own s.funs top_good.fun_names top_good.fun_terms top_good.plain) (classes_parts s own s.classes good_classes)))))

  all : Whole (parts s) items
  all = whole stub_parts

  found : AllByRecursion (IsFound s own (modules s)) (written_terms s)
  found = found_each s own (modules s) (written_terms s) written_good (covered_each s own (modules s) (written_terms s) (each_in_order (filter_map module_named (all_terms s))))

  stub_found : AllByRecursion (IsFound s own (modules s)) (stub_terms s)
  stub_found =
      let P = IsFound s own (modules s) in
      join P (proper.body_terms s.names s.funs) (flat_map (λ (c : Class). proper.body_terms c.names c.funs) s.classes)
      (found_body s own (modules s) s.names s.funs
      (subst (λ ns. AllByRecursion P (body_terms ns s.funs)) same (all_front P (body_terms (shown [] s.names) s.funs) (flat_map class_terms s.classes) found)) top_good.plain)
      (reflat P (λ (c : Class). proper.body_terms c.names c.funs) s.classes
      (found_classes s own (modules s) s.classes good_classes (unflat P class_terms s.classes (all_rest P (body_terms (shown [] s.names) s.funs) (flat_map class_terms s.classes) found))))

  abbrev N : List Name
  N = (declared items).names

  abbrev F : List Fun
  F = (declared items).funs

  declared_is : declared items ≡ s
  declared_is =
      ap (λ ns. record { names = ns; funs = F; classes = classes_of items }) (the_names (modules s) (typing_names s) s.names s.funs s.classes)
      ∙ ap (λ fs. record { names = s.names; funs = fs; classes = classes_of items }) (the_funs (modules s) (typing_names s) s.names s.funs s.classes)
      ∙ ap (λ ks. record { names = s.names; funs = s.funs; classes = ks }) (the_classes (modules s) (typing_names s) s.names s.funs s.classes)

  known_there : list_all (meaning.is_known (declared items) (modules_of items)) (stub_terms (declared items)) ≡ true
  known_there =
      subst (λ ms. list_all (meaning.is_known (declared items) ms) (stub_terms (declared items)) ≡ true) (sym (the_modules (modules s) (typing_names s) s.names s.funs s.classes))
      (subst (λ (d : Stub). list_all (meaning.is_known d (modules s)) (stub_terms d) ≡ true) (sym declared_is) (listed (meaning.is_known s (modules s)) (stub_terms s) stub_found))

  of_lexemes : IsStubOf all.ls s
  of_lexemes = record {
    items = items;
    spelled = all.parses;
    brackets = all.fits;
    own = subst (λ (d : Stub). list_any (λ (c : Class). has_name taken_names c.name) d.classes ≡ false) (sym declared_is) own;
    once = subst (λ (d : Stub). IsDistinct bytes_eq (body_names d.names d.funs ++ map (λ (c : Class). c.name) d.classes)) (sym declared_is) h.proper.once;
    once_inside = subst (λ (d : Stub). EachOnce d.classes) (sym declared_is) h.proper.once_inside;
    bases = subst (λ (d : Stub). bases_stand [] d.classes ≡ true) (sym declared_is) h.proper.bases;
    known = known_there;
    meaning = subst (λ (d : Stub). IsStubForm d s) (sym declared_is) (record { names = names_form s own s.names top_good.terms; funs = funs_form s own s.funs top_good.fun_terms; classes = classes_form s own s.classes good_classes });
  }

  begins : IsStart [] (start_at 0)
  begins = record { start = refl; columns = refl; plain = inl refl; openers = refl }

  read : Gives (start_at 0) (stub_text s) all.ls
  read = subst (λ x. Gives (start_at 0) x all.ls) (in_turn (parts s)) (all.reads (start_at 0) begins)

  unmarked : begins_with 65279 (chars (stub_text s)) ≡ false
  unmarked = subst (λ x. begins_with 65279 (chars x) ≡ false) (in_turn (parts s)) all.unmarked

  pub read_back : Means (stub_text s) s
  read_back = (
    read.tokens,
    read.names,
    subst (λ b. Reads (start_at (cond b 3 0)) (drop (cond b 3 0) (stub_text s)) read.tokens read.names) (sym unmarked) read.reads,
    subst (λ ls. IsStubOf ls s) (sym read.same) of_lexemes,
  )
