-- Whether a point is a root is told by the contexts alone.
use Rattle.std.proofs.Common.{◌≡◌, ℕ, Bool, true, false, ◌&&◌, ◌==◌, is_some, refl, sym, ap, subst}
use Rattle.std.specs.List.{Contains}
use Rattle.std.proofs.lemmas.List.Elements.{Contains-append_left}
use Rattle.graph_walks.proofs.Lists.{map_has}
use Rattle.world_rules.specs.Places.{Context, main, entry, called, Point, at, op_at}
use Rattle.world_rules.specs.Sources.{Source}
use Rattle.world_rules.specs.Items.{a_context, has_context, is_root}
use Rattle.world_rules.proofs.Members.{context_item, item_context}
use Rattle.world_tables.specs.Tables.{Tables, items_of}
use Rattle.world_tables.proofs.Items.{In, in_contexts, items_in}

same_bool : (a b : Bool) → (a ≡ true → b ≡ true) → (b ≡ true → a ≡ true) → a ≡ b
same_bool true b f g = sym (f refl)
same_bool false true f g = g refl
same_bool false false f g = refl

pub context_in : (t : Tables) (c : Context) → In t (a_context c) → Contains t.contexts c
context_in t _ (in_contexts c k) = k

pub has_known : (t : Tables) (c : Context) → has_context (items_of t) c ≡ true → Contains t.contexts c
has_known t c h = context_in t c (items_in t (a_context c) (context_item (items_of t) c h))

pub known_item : (t : Tables) (c : Context) → Contains t.contexts c → Contains (items_of t) (a_context c)
known_item t c k = Contains-append_left _ _ _ (map_has a_context t.contexts c k)

pub known_has : (t : Tables) (c : Context) → Contains t.contexts c → has_context (items_of t) c ≡ true
known_has t c k = item_context (items_of t) c (known_item t c k)

context_of : Point → Context
context_of (at c place depth) = c

-- tables that agree whether they have a point's context agree whether it is a root
root_by : (s : Source) (t u : Tables) (c : Context) (place depth : ℕ) → (Contains t.contexts c → Contains u.contexts c) → (Contains u.contexts c → Contains t.contexts c) → is_root s.program (items_of t) (at c place depth) ≡ is_root s.program (items_of u) (at c place depth)
root_by s t u (called c q d f) place depth to from = refl
root_by s t u main place depth to from =
    ap (λ b. (place == 0) && ((depth == 0) && (is_some (op_at s.program main 0) && b))) (same_bool _ _ (λ h. known_has u main (to (has_known t main h))) (λ h. known_has t main (from (has_known u main h))))
root_by s t u (entry f) place depth to from =
    ap (λ b. (place == 0) && ((depth == 0) && (is_some (op_at s.program (entry f) 0) && b))) (same_bool _ _ (λ h. known_has u (entry f) (to (has_known t (entry f) h))) (λ h. known_has t (entry f) (from (has_known u (entry f) h))))

pub same_root : (s : Source) (t u : Tables) → t.contexts ≡ u.contexts → (p : Point) → is_root s.program (items_of t) p ≡ is_root s.program (items_of u) p
same_root s t u e (at c place depth) = root_by s t u c place depth (λ k. subst (λ cs. Contains cs c) e k) (λ k. subst (λ cs. Contains cs c) (sym e) k)

pub root_of_known : (s : Source) (t u : Tables) (c : Context) (place depth : ℕ) → Contains t.contexts c → Contains u.contexts c → is_root s.program (items_of t) (at c place depth) ≡ is_root s.program (items_of u) (at c place depth)
root_of_known s t u c place depth k l = root_by s t u c place depth (λ _. l) (λ _. k)
