-- A list of two words, by its elements.
use Rattle.std.proofs.Common.{◌≡◌, ℕ, List, [], ◌∷◌, length, get_or, codes, String, sym, ap, ◌∙◌, arith, true}
use Rattle.std.specs.Cmp.Lexicographic.{bytes_decides}
use Rattle.std.specs.Str.{bytes_eq}
use Rattle.std.specs.String.{string_bytes}
use Rattle.py_infer.specs.Words.{Accepts, IsFileName, texts_of}

pub accepts_two : {A : Type 0} (words : List (String A)) (command file : String A) (name : List ℕ) → length words ≡ 2 →
    command ≡ get_or words 0 command → file ≡ get_or words 1 file → bytes_eq (string_bytes command) (codes "infer") ≡ true →
    name ≡ string_bytes file → IsFileName name → Accepts (texts_of words) name
accepts_two [] command file name two first second is same named = absurd (omega (arith, two))
accepts_two (w ∷ []) command file name two first second is same named = absurd (omega (arith, two))
accepts_two (w ∷ v ∷ []) command file name two first second is same named = record {
  words_are = ap (λ x. x ∷ string_bytes v ∷ []) (ap string_bytes (sym first) ∙ (bytes_decides (string_bytes command) (codes "infer")).0 is)
      ∙ ap (λ x. codes "infer" ∷ x ∷ []) (ap string_bytes (sym second) ∙ sym same);
  is_name = named;
}
accepts_two (w ∷ v ∷ u ∷ ws) command file name two first second is same named = absurd (omega (arith, two))
