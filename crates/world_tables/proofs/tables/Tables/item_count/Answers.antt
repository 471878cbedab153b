use Rattle.std.proofs.Common.{◌≡◌, ◌⊎◌, inl, inr, ℕ, suc, zero, ◌+◌, ◌-◌, ◌^◌, ◌<◌, ◌≤◌, ◌∙◌, length, sym, ap, subst, arith}
use Rattle.typegraph.specs.Graphs.{item_total}
use Rattle.abstract_shapes.specs.Tables.{entries}
use Rattle.world_tables.specs.Tables.{items_of}
use Rattle.world_tables.specs.Rows.{WorldRows, tables_of, IsKept}
use Rattle.world_tables.specs.contracts.tables.Tables as tables
use Rattle.world_tables.proofs.Counted.{item_count}
use Rattle.world_tables.proofs.Keeping.{as_many}
use Rattle.world_tables.proofs.tables.Tables.item_count.Goals as goal

below_or_not : (m n : ℕ) → (m < n) ⊎ (n ≤ m)
below_or_not m zero = inr (omega arith)
below_or_not zero (suc n) = inl (omega arith)
below_or_not (suc m) (suc n) = elim (below_or_not m n) [ inl l ↦ inl (omega (arith, l)) | inr l ↦ inr (omega (arith, l)) ]

module _ (total more others n : ℕ) (all : n ≡ total + more) (few : total < 2 ^ 32 → others ≡ total) (many : 2 ^ 32 ≤ total → others ≡ 2 ^ 32 - 1) where
  sum_of : n < 2 ^ 32 → others + more ≡ n
  sum_of l = omega (arith, few, all)

  no_sum : 2 ^ 32 ≤ n → more < 2 ^ 32 - 1 - others → others + more ≡ 2 ^ 32 - 1
  no_sum l m =
      elim (below_or_not total (2 ^ 32)) [
        | inl h ↦ let e : others ≡ total = few h in omega (arith, e, all, l, m, h)
        | inr h ↦ let e : others ≡ 2 ^ 32 - 1 = many h in omega (arith, e, m)
      ]

  most : n < 2 ^ 32 → 2 ^ 32 - 1 - others ≤ more → 2 ^ 32 - 1 ≡ n
  most l m = omega (arith, few, all)

counted : (rows : WorldRows) → IsKept rows → (more : ℕ) → more ≡ length (entries rows.joined) → length (items_of (tables_of rows)) ≡ item_total rows.graph + more
counted rows kept more e = item_count (tables_of rows) (as_many rows kept) ∙ ap (λ k. item_total rows.graph + k) (sym e)

pub returns-then-entries-from-clause-few : goal.returns-then-entries-from-clause-few
returns-then-entries-from-clause-few c =
    subst (λ w. length (items_of (tables_of w)) < 2 ^ 32 → c.item_count-others.result + c.entry_count-entries.result ≡ length (items_of (tables_of w))) c.self.view_is
    (sum_of (item_total c.self.inside.graph) c.entry_count-entries.result c.item_count-others.result _ (counted (tables.the_view c.self.inside) c.self.invariant.0 c.entry_count-entries.result c.entry_count-entries.ensures.count) c.item_count-others.ensures.few c.item_count-others.ensures.many)

pub returns-then-entries-from-clause-many : goal.returns-then-entries-from-clause-many
returns-then-entries-from-clause-many c =
    subst (λ w. 2 ^ 32 ≤ length (items_of (tables_of w)) → c.item_count-others.result + c.entry_count-entries.result ≡ 2 ^ 32 - 1) c.self.view_is
    (λ l. no_sum (item_total c.self.inside.graph) c.entry_count-entries.result c.item_count-others.result _ (counted (tables.the_view c.self.inside) c.self.invariant.0 c.entry_count-entries.result c.entry_count-entries.ensures.count) c.item_count-others.ensures.few c.item_count-others.ensures.many l (omega arith))

pub returns-else-entries-from-clause-few : goal.returns-else-entries-from-clause-few
returns-else-entries-from-clause-few c =
    subst (λ w. length (items_of (tables_of w)) < 2 ^ 32 → 2 ^ 32 - 1 ≡ length (items_of (tables_of w))) c.self.view_is
    (λ l. most (item_total c.self.inside.graph) c.entry_count-entries.result c.item_count-others.result _ (counted (tables.the_view c.self.inside) c.self.invariant.0 c.entry_count-entries.result c.entry_count-entries.ensures.count) c.item_count-others.ensures.few c.item_count-others.ensures.many l (omega arith))
