use Rattle.std.proofs.Common.{◌≡◌, ℕ, ◌<◌, List, length, get_or, Some, slice_get, Bor, ap, sym, ◌∙◌, map, option_map}
use Rattle.std.proofs.lemmas.Option.{slice_get-map, slice_get-get_or, slice_get_past}
use Rattle.type_terms.specs.Exceptions.{class_of}
use Rattle.type_terms.proofs.exceptions.class_at.Goals as goal

-- the class of a chain behind a reference
abbrev class : Bor (List (Bor (List ℕ))) → List ℕ
class chain = class_of (map (λ name. name.now) chain.now)

item_read : {X : Type 0} (xs : List X) (i : ℕ) (y : X) → i < length xs → y ≡ get_or xs i y → Some y ≡ slice_get xs i
item_read xs i y within e = ap Some e ∙ sym (slice_get-get_or xs i y within)

pub returns-in-Some : goal.returns-in-Some
returns-in-Some c =
    let h = c.in-Some.ensures.lookup in
    ap Some c.first_of.ensures ∙ ap (option_map class) (item_read c.args.chains.now c.args.place c.in-Some.chain.now h.3.0 h.1) ∙ sym (slice_get-map class c.args.chains.now c.args.place)

pub returns-in-None : goal.returns-in-None
returns-in-None c = ap (option_map class) (sym (slice_get_past c.args.chains.now c.args.place c.in-None.ensures.lookup.3)) ∙ sym (slice_get-map class c.args.chains.now c.args.place)
