-- The numbers of what a rule gives.
use Rattle.std.proofs.Common.{◌≡◌, ℕ, suc, zero, ◌+◌, ◌<◌, Bool, true, false, cond, nat_eq, ◌||◌, Option, Some, None, option_map, option_to_list, List, [], ◌∷◌, map, slice_get, ◌⊎◌, inl, inr, refl, sym, ap, subst, ◌∙◌, ◌↔◌}
use Rattle.std.specs.List.{All, Contains, IsDistinct}
use Rattle.std.proofs.lemmas.List.Elements.{All-nil, All-cons, All-contains}
use Rattle.graph_walks.proofs.Lists.{empty, first, first_as, later, first_or_later, only, got}
use Rattle.typegraph.proofs.Looks.{equal, equal_as}
use Rattle.abstract_shapes.specs.declared.place.Place.{Place}
use Rattle.abstract_shapes.specs.declared.table.TableRow.{TableRow}
use Rattle.abstract_shapes.specs.Places.{same_place}
use Rattle.abstract_shapes.specs.Shapes.{Shape}
use Rattle.abstract_shapes.specs.Tables.{table_at, has_shape, entries, places_of}
use Rattle.world_rules.specs.declared.row.Yield.{Yield}
use Rattle.world_rules.specs.declared.row.Yield.TheVariants.{Each, Read}
use Rattle.world_rules.specs.Sources.{Source}
use Rattle.world_rules.specs.Items.{Item, an_entry}
use Rattle.world_rules.specs.Rows.{made}
use Rattle.world_rules.specs.Rules.{Yields, it, one}
use Rattle.world_tables.specs.Tables.{Tables, the_shape, items_of}
use Rattle.world_tables.specs.Rows.{tables_of}
use Rattle.world_tables.proofs.Entries.{table_entry, entry_table}
use Rattle.world_tables.proofs.Items.{In, in_contexts, in_edges, in_facts, in_entries, items_in, has_entry}
use Rattle.abstract_vm.specs.Worlds.{WorldState, items_in as items_of_world}
use Rattle.abstract_vm.specs.Steps.{HasNumber, IsOnlyNumber, AreYielded, shapes_in}

-- ---- a table

member : (k : ℕ) (xs : List ℕ) → has_shape k xs ≡ true → Contains xs k
member k [] h = cc
member k (x ∷ xs) h = go (nat_eq k x) refl h (member k xs)
  where
    go : (b : Bool) → nat_eq k x ≡ b → (b || has_shape k xs) ≡ true → (has_shape k xs ≡ true → Contains xs k) → Contains (x ∷ xs) k
    go true e h more = first_as x k xs (equal k x e)
    go false e h more = later x k xs (more h)

is_member : (k : ℕ) (xs : List ℕ) → Contains xs k → has_shape k xs ≡ true
is_member k [] c = empty k c
is_member k (x ∷ xs) c =
    elim (first_or_later x k xs c) [
      | inl e ↦ ap (λ b. b || has_shape k xs) (equal_as k x e)
      | inr d ↦ over (nat_eq k x) (is_member k xs d)
    ]
  where
    over : (b : Bool) → has_shape k xs ≡ true → (b || has_shape k xs) ≡ true
    over true h = refl
    over false h = h

-- what stands in the table of a place is an entry, and the other way round
pub table_entries : (rows : List TableRow) (place : Place) → IsDistinct same_place (places_of rows) → (id : ℕ) → Contains (table_at rows place) id ↔ Contains (entries rows) (place, id)
table_entries rows place apart id = (λ c. table_entry place id rows (is_member id (table_at rows place) c), λ c. member id (table_at rows place) (entry_table place id rows apart c))

module _ (s : Source) (w : WorldState) (shapes : List Shape) where
  from_item : (place : Place) (x : Shape) (ids : List ℕ) → ((id : ℕ) → Contains ids id ↔ Contains (entries w.rows.joined) (place, id)) → (i : Item) → In (tables_of w.rows) i → i ≡ an_entry place x → HasNumber w ids x
  from_item place x ids are _ (in_contexts c k) e = cc
  from_item place x ids are _ (in_edges d k) e = cc
  from_item place x ids are _ (in_facts q h k) e = cc
  from_item place x ids are _ (in_entries (q, id) k) e =
      let p : q ≡ place = cc in
      let y : the_shape (tables_of w.rows) id ≡ x = cc in
      record { id = id; among = (are id).1 (subst (λ r. Contains {X = Place × ℕ} (entries w.rows.joined) (r, id)) p k); is = y }

  pub all_yielded : (place : Place) (ids : List ℕ) → ((id : ℕ) → Contains ids id ↔ Contains (entries w.rows.joined) (place, id)) → AreYielded s (items_of_world w) shapes (Each place) w ids
  all_yielded place ids are =
      record {
        each = λ id c. one (has_entry (tables_of w.rows) (place, id) ((are id).0 c));
        all = λ x y. from x y;
      }
    where
      from : (x : Shape) → Yields s (items_of_world w) shapes (Each place) x → HasNumber w ids x
      from x (it h) = cc
      from x (one k) = from_item place x ids are (an_entry place x) (items_in (tables_of w.rows) (an_entry place x) k) refl

-- ---- what is made

module _ (s : Source) (items : List Item) (shapes : List Shape) (w : WorldState) where
  pub made_yielded : (y : Yield) (x : Shape) (ids : List ℕ) → made shapes y ≡ Some x → IsOnlyNumber w ids x → AreYielded s items shapes y w ids
  made_yielded y x ids m o =
      record {
        each = λ id c. it (m ∙ ap Some (sym o.is ∙ ap (the_shape (tables_of w.rows)) (sym (only o.id id (subst (λ l. Contains l id) o.only c)))));
        all = λ z v. from y z v m;
      }
    where
      from : (y : Yield) (z : Shape) → Yields s items shapes y z → made shapes y ≡ Some x → HasNumber w ids z
      from y z (it h) m = let e : x ≡ z = cc in record { id = o.id; among = subst (λ l. Contains l o.id) (sym o.only) (first o.id []); is = o.is ∙ e }
      from (Each place) z (one k) m = cc

-- ---- what is read

map_get : {X Y : Type 0} (f : X → Y) (xs : List X) (k : ℕ) → slice_get (map f xs) k ≡ option_map f (slice_get xs k)
map_get f [] k = refl
map_get f (x ∷ xs) zero = refl
map_get f (x ∷ xs) (suc k) = map_get f xs k

module _ (s : Source) (items : List Item) (w : WorldState) (read : List ℕ) (seat : ℕ) where
  read_one : (o : Option ℕ) → slice_get read seat ≡ o → (id : ℕ) → Contains (option_to_list o) id → Yields s items (shapes_in w read) (Read seat) (the_shape (tables_of w.rows) id)
  read_one None e id c = empty id c
  read_one (Some k) e id c = it (map_get (the_shape (tables_of w.rows)) read seat ∙ (ap (option_map (the_shape (tables_of w.rows))) e ∙ ap (λ n. Some (the_shape (tables_of w.rows) n)) (sym (only k id c))))

  number_of : (o : Option ℕ) (x : Shape) → option_map (the_shape (tables_of w.rows)) o ≡ Some x → HasNumber w (option_to_list o) x
  number_of None x e = cc
  number_of (Some k) x e = let same : the_shape (tables_of w.rows) k ≡ x = cc in record { id = k; among = first k []; is = same }

  read_of : (x : Shape) → Yields s items (shapes_in w read) (Read seat) x → HasNumber w (option_to_list (slice_get read seat)) x
  read_of x (it h) = number_of (slice_get read seat) x (sym (map_get (the_shape (tables_of w.rows)) read seat) ∙ h)

  pub read_yielded : (ids : List ℕ) → ids ≡ option_to_list (slice_get read seat) → AreYielded s items (shapes_in w read) (Read seat) w ids
  read_yielded ids e =
      subst (AreYielded s items (shapes_in w read) (Read seat) w) (sym e)
      (record { each = λ id c. read_one (slice_get read seat) refl id c; all = λ x v. read_of x v })

-- what is read was there
pub read_there : (read : List ℕ) (n seat : ℕ) → All (λ id. id < n) read → All (λ id. id < n) (option_to_list (slice_get read seat))
read_there read n seat h = go (slice_get read seat) refl
  where
    go : (o : Option ℕ) → slice_get read seat ≡ o → All (λ id. id < n) (option_to_list o)
    go None e = All-nil (λ id. id < n)
    go (Some id) e = All-cons (λ id. id < n) id [] (All-contains (λ id. id < n) read id h (got read seat id e)) (All-nil (λ id. id < n))
