-- What a look-up by name finds in the shown entries of a map from texts.
use Rattle.std.proofs.Common.{◌≡◌, ◌≢◌, ℕ, Bool, true, false, cond, List, [], ◌∷◌, Option, Some, None, String, Global, Vec, Bor, MatchOption, refl, ap, sym, ◌∙◌}
use Rattle.std.specs.BTreeMap.{BTreeMap, UpdatesBy, get_by_text}
use Rattle.std.specs.Cmp.Lexicographic.{slice_cmp}
use Rattle.std.specs.Map.{lookup}
use Rattle.std.specs.Option.{option_copied, option_map}
use Rattle.std.specs.Ordering.{is_eq, nat_cmp}
use Rattle.std.specs.Str.{bytes_eq}
use Rattle.std.specs.String.{string_bytes, string_cmp}
use Rattle.std.proofs.lemmas.Bool.{false_from_ne_true}
use Rattle.std.proofs.lemmas.Map.Text.{is_eq-slice_cmp, btree_map_updates_text}
use Rattle.std.proofs.lemmas.Slice.Eq.{bytes_eq-Decides}
use Rattle.outside_io.specs.ShelfState.{shown, text_of}

-- one entry is passed over or taken alike in both lists
cond-shown : (b : Bool) (text : Vec ℕ Global) (found : Option (Vec ℕ Global)) (seen : Option (List ℕ))
    → seen ≡ option_map (λ v. v.items) found
    → cond b (Some text.items) seen ≡ option_map (λ v. v.items) (cond b (Some text) found)
cond-shown true text found seen same = refl
cond-shown false text found seen same = same

-- the text of a name among the shown entries is what the map finds
lookup-shown : (name : List ℕ) (entries : List (String Global × Vec ℕ Global))
    → lookup (bytes_eq name) (shown entries)
    ≡ option_map (λ v. v.items) (lookup (λ k. is_eq (slice_cmp nat_cmp name (string_bytes k))) entries)
lookup-shown name [] = refl
lookup-shown name (e ∷ entries) =
    rw (is_eq-slice_cmp name (string_bytes e.0))
    (cond-shown (bytes_eq name (string_bytes e.0)) e.1 _ _ (lookup-shown name entries))

-- a map from names to texts
abbrev Texts : Type 0
Texts = BTreeMap (String Global) (Vec ℕ Global)

-- n is m with the text put under the name
abbrev Puts : List ℕ → Texts → Texts → Vec ℕ Global → Type 0
Puts name m n text = UpdatesBy string_cmp (λ k. slice_cmp nat_cmp name (string_bytes k)) m n (Some text)

-- the text of a name, at a map
text_of-shown : (m : Texts) (name : List ℕ)
    → text_of (shown m.entries) name ≡ option_map (λ v. v.items) (get_by_text m name)
text_of-shown m name = lookup-shown name m.entries

-- a text that was put under a name stands there alone, and every other name keeps its text
text_of-update : (name : List ℕ) (m n : Texts) (text : Vec ℕ Global) → Puts name m n text → (other : List ℕ)
    → text_of (shown n.entries) other ≡ cond (bytes_eq name other) (Some text.items) (text_of (shown m.entries) other)
text_of-update name m n text puts other =
    text_of-shown n other
    ∙ ap (option_map (λ v. v.items)) (btree_map_updates_text name m n (Some text) puts other)
    ∙ sym (cond-shown (bytes_eq name other) text (get_by_text m other) _ (text_of-shown m other))

-- after an insert the name has the new text
pub text_of-added : (name : List ℕ) (m n : Texts) (text : Vec ℕ Global) → Puts name m n text
    → text_of (shown n.entries) name ≡ Some text.items
text_of-added name m n text puts =
    let same : bytes_eq name name ≡ true = (bytes_eq-Decides name name).1 refl in
    text_of-update name m n text puts name
    ∙ ap (λ b. cond b (Some text.items) (text_of (shown m.entries) name)) same

-- after an insert another name has the text that it had
pub text_of-others : (name : List ℕ) (m n : Texts) (text : Vec ℕ Global) → Puts name m n text
    → (other : List ℕ) → other ≢ name → text_of (shown n.entries) other ≡ text_of (shown m.entries) other
text_of-others name m n text puts other apart =
    let differs : bytes_eq name other ≡ false =
    false_from_ne_true _ (λ e. apart (sym ((bytes_eq-Decides name other).0 e))) in
    text_of-update name m n text puts other
    ∙ ap (λ b. cond b (Some text.items) (text_of (shown m.entries) other)) differs

-- what the map finds under a name is the text there
pub text_of-found : (found : Option (Bor (Vec ℕ Global))) (m : Texts) (name : List ℕ)
    → option_copied found ≡ get_by_text m name
    → MatchOption found (text_of (shown m.entries) name ≡ None) (λ text. text_of (shown m.entries) name ≡ Some text.now.items)
text_of-found None m name same = text_of-shown m name ∙ ap (option_map (λ v. v.items)) (sym same)
text_of-found (Some text) m name same = text_of-shown m name ∙ ap (option_map (λ v. v.items)) (sym same)
