-- Jumps that are aimed again, and instructions that are taken apart.
use Rattle.std.proofs.Common.{◌≡◌, ℕ, suc, zero, ◌+◌, ◌<◌, List, [], ◌∷◌, ◌++◌, drop, map, reverse, length, get_or, set, slice_get, Some, None, refl, sym, ap, ◌∙◌, append_assoc}
use Rattle.std.proofs.lemmas.List.{drop_more, map-append, reverse-append}
use Rattle.stack_code.specs.declared.op.Op.TheVariants.{Jump}
use Rattle.tree_code.specs.declared.instr.Instr.{Instr}
use Rattle.tree_code.specs.Pieces.{instr}
use Rattle.expr_compile.specs.Emitted.{Emitted}
use Rattle.expr_compile.specs.Jumps.{turn, turned_at, turned_all}

pub turn_set : (goal place : ℕ) (is : List Instr) (i : Instr) → slice_get is place ≡ Some i → turn goal place is ≡ set is place (instr (Jump goal) i.line)
turn_set goal place [] i e = refl
turn_set goal zero (x ∷ is) i e = let same : x ≡ i = cc in ap (λ (z : Instr). instr (Jump goal) z.line ∷ is) same
turn_set goal (suc place) (x ∷ is) i e = ap (λ r. x ∷ r) (turn_set goal place is i e)

pub turn_past : (goal place : ℕ) (is : List Instr) → slice_get is place ≡ None → turn goal place is ≡ is
turn_past goal place [] e = refl
turn_past goal zero (x ∷ is) e = cc
turn_past goal (suc place) (x ∷ is) e = ap (λ r. x ∷ r) (turn_past goal place is e)

pub land_step : (goal : ℕ) (places : List ℕ) (i place : ℕ) (old new whole : Emitted) → i < length places → place ≡ get_or places i place → new ≡ turned_at goal place old
    → turned_all goal (drop i places) old ≡ whole → turned_all goal (drop (i + 1) places) new ≡ whole
land_step goal places i place old new whole l is one before =
    let more : drop i places ≡ place ∷ drop (i + 1) places = drop_more places i place l ∙ ap (λ x. x ∷ drop (i + 1) places) (sym is) in
    ap (turned_all goal (drop (i + 1) places)) one
    ∙ sym (ap (λ xs. turned_all goal xs old) more)
    ∙ before

-- one part of the instructions, where the last was taken off and its part put to those that were
pub split_step : {A : Type 0} → (part : Instr → A) (before after : List Instr) (last : Instr) (parts : List A) (all : List A) → before ≡ after ++ last ∷ [] → map part before ++ reverse parts ≡ all → map part after ++ reverse (parts ++ part last ∷ []) ≡ all
split_step part before after last parts all is e =
    ap (λ xs. map part after ++ xs) (reverse-append parts (part last ∷ []))
    ∙ sym (append_assoc (map part after) (part last ∷ []) (reverse parts))
    ∙ ap (λ xs. xs ++ reverse parts) (sym (map-append part after (last ∷ [])) ∙ sym (ap (map part) is))
    ∙ e
