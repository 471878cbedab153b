-- Bindings that are one map by numbers are one map by structure.
use Rattle.std.proofs.Common.{◌≡◌, ℕ, ◌<◌, Bool, true, false, cond, nat_eq, Option, Some, None, option_map, List, [], ◌∷◌, length, refl, sym, ap, ◌∙◌}
use Rattle.std.specs.List.{Contains}
use Rattle.graph_walks.proofs.Lists.{first, later}
use Rattle.typegraph.specs.declared.goals.Binding.{Binding}
use Rattle.typegraph.specs.Maps.{look}
use Rattle.typegraph.proofs.Looks.{equal_as, equal}
use Rattle.world_rules.specs.Places.{Variable, global, same_variable}
use Rattle.world_rules.proofs.Same.{variable_same, variable_equal}
use Rattle.world_tables.specs.Tables.{Tables, the_variable, the_shape, memory_at, AreBindings, HaveOneNumber}
use Rattle.world_tables.proofs.Items.{there}

module _ (t : Tables) (once : HaveOneNumber t.variables) where
  same_number : (k l : ℕ) → k < length t.variables → l < length t.variables → the_variable t k ≡ the_variable t l → k ≡ l
  same_number k l h m e = once k l (the_variable t l) (there t.variables k (global 0) h ∙ ap Some e) (there t.variables l (global 0) m)

  -- variables are the same where their numbers are
  same_test : (k l : ℕ) → k < length t.variables → l < length t.variables → same_variable (the_variable t k) (the_variable t l) ≡ nat_eq k l
  same_test k l h m = go (same_variable (the_variable t k) (the_variable t l)) (nat_eq k l) refl refl
    where
      go : (a b : Bool) → same_variable (the_variable t k) (the_variable t l) ≡ a → nat_eq k l ≡ b → a ≡ b
      go true true e f = refl
      go false false e f = refl
      go true false e f = let g : true ≡ false = sym (equal_as k l (same_number k l h m (variable_equal _ _ e))) ∙ f in cc
      go false true e f = let g : true ≡ false = sym (variable_same (the_variable t k)) ∙ (ap (λ n. same_variable (the_variable t k) (the_variable t n)) (equal k l f) ∙ e) in cc

  pub of_number : (bs : List Binding) → AreBindings t bs → (k : ℕ) → k < length t.variables → memory_at t bs (the_variable t k) ≡ option_map (the_shape t) (look bs k)
  of_number [] h k l = refl
  of_number (b ∷ bs) h k l =
      ap (λ q. cond q (Some (the_shape t b.shape)) (memory_at t bs (the_variable t k))) (same_test b.var k (h b (first b bs)).var l)
      ∙ (ap (cond (nat_eq b.var k) (Some (the_shape t b.shape))) (of_number bs (λ c d. h c (later b c bs d)) k l) ∙ over (nat_eq b.var k) (look bs k))
    where
      over : (q : Bool) (o : Option ℕ) → cond q (Some (the_shape t b.shape)) (option_map (the_shape t) o) ≡ option_map (the_shape t) (cond q (Some b.shape) o)
      over true o = refl
      over false o = refl

  -- a map gives nothing to what isn't the variable of one of its bindings
  pub data Known (bs : List Binding) (y : Variable) : Type 0 where
    known : (b : Binding) → Contains bs b → the_variable t b.var ≡ y → Known bs y
    unknown : memory_at t bs y ≡ None → Known bs y

  pub find : (bs : List Binding) (y : Variable) → Known bs y
  find [] y = unknown refl
  find (b ∷ bs) y = go (same_variable (the_variable t b.var) y) refl (find bs y)
    where
      go : (q : Bool) → same_variable (the_variable t b.var) y ≡ q → Known bs y → Known (b ∷ bs) y
      go true e k = known b (first b bs) (variable_equal _ _ e)
      go false e (known c d f) = known c (later b c bs d) f
      go false e (unknown f) = unknown (ap (λ q. cond q (Some (the_shape t b.shape)) (memory_at t bs y)) e ∙ f)

  module _ (bs cs : List Binding) (h : AreBindings t bs) (k : AreBindings t cs) (same : look bs ≡ look cs) where
    at_number : (n : ℕ) → n < length t.variables → memory_at t bs (the_variable t n) ≡ memory_at t cs (the_variable t n)
    at_number n l = of_number bs h n l ∙ (ap (λ f. option_map (the_shape t) (f n)) same ∙ sym (of_number cs k n l))

    at_each : (y : Variable) → memory_at t bs y ≡ memory_at t cs y
    at_each y = go (find bs y) (find cs y)
      where
        go : Known bs y → Known cs y → memory_at t bs y ≡ memory_at t cs y
        go (known b c e) q = ap (memory_at t bs) (sym e) ∙ (at_number b.var (h b c).var ∙ ap (memory_at t cs) e)
        go (unknown e) (known b c f) = ap (memory_at t bs) (sym f) ∙ (at_number b.var (k b c).var ∙ ap (memory_at t cs) f)
        go (unknown e) (unknown f) = e ∙ sym f

    pub same_memory : memory_at t bs ≡ memory_at t cs
    same_memory = λ i y. at_each y i
