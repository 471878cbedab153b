-- Findings and lines are in a total order, in which only the same are equal.
use Rattle.std.proofs.Common.{◌≡◌, ◌<◌, ℕ, Bool, true, false, Some, slice_get, List, [], ◌∷◌, refl, sym, ◌∙◌, ap, arith, true≢false}
use Rattle.std.specs.Cmp.{IsTotalOrder}
use Rattle.std.specs.Cmp.Lexicographic.{slice_cmp}
use Rattle.std.specs.Ordering.{nat_cmp, eq_by_cmp, is_eq, ordering_then, MatchOrdering}
use Rattle.std.specs.declared.cmp.Ordering.{Ordering}
use Rattle.std.specs.declared.cmp.Ordering.TheVariants.{Less, Equal, Greater}
use Rattle.std.proofs.lemmas.Cmp.{on_total, nat_list_cmp_total, ranked}
use Rattle.world_rules.specs.declared.finding.FindingKind.{FindingKind}
use Rattle.world_rules.specs.declared.finding.FindingKind.TheVariants as finding
use Rattle.world_rules.specs.declared.finding.Finding.{Finding}
use Rattle.world_rules.specs.Findings.{finding_order}
use Rattle.world_rules.specs.Texts.{kind_number}
use Rattle.world_stub.proofs.Numbers.{is_equal, same_number, same_line}

-- ---- numbers and lists of them

first_equal : (o p : Ordering) → ordering_then o p ≡ Equal → o ≡ Equal
first_equal Less p e = e
first_equal Equal p e = refl
first_equal Greater p e = e

rest_equal : (o p : Ordering) → ordering_then o p ≡ Equal → p ≡ Equal
rest_equal Less p e = cc
rest_equal Equal p e = e
rest_equal Greater p e = cc

same_list : (xs ys : List ℕ) → slice_cmp nat_cmp xs ys ≡ Equal → xs ≡ ys
same_list [] [] e = refl
same_list [] (y ∷ ys) e = cc
same_list (x ∷ xs) [] e = cc
same_list (x ∷ xs) (y ∷ ys) e =
    let a : x ≡ y = same_number x y (first_equal (nat_cmp x y) (slice_cmp nat_cmp xs ys) e) in
    let b : xs ≡ ys = same_list xs ys (rest_equal (nat_cmp x y) (slice_cmp nat_cmp xs ys) e) in
    cc

-- ---- findings

-- the kinds at their numbers
kinds : List FindingKind
kinds = finding.ImportError ∷ finding.ImportError ∷ finding.NameError ∷ finding.AttributeError ∷ finding.UnsupportedOperands ∷ finding.NotIterable ∷ finding.NotCallable ∷ finding.WrongArgCount ∷ finding.MissingParameter ∷ finding.WrongKeywordArgs ∷ finding.DuplicateKeyword ∷ []

stands : (k : FindingKind) → slice_get kinds (kind_number k) ≡ Some k
unfolding kinds
stands finding.ImportError = refl
stands finding.NameError = refl
stands finding.AttributeError = refl
stands finding.UnsupportedOperands = refl
stands finding.NotIterable = refl
stands finding.NotCallable = refl
stands finding.WrongArgCount = refl
stands finding.MissingParameter = refl
stands finding.WrongKeywordArgs = refl
stands finding.DuplicateKeyword = refl

same_kind : (k l : FindingKind) → kind_number k ≡ kind_number l → k ≡ l
same_kind k l e =
    let both : Some k ≡ Some l = sym (stands k) ∙ ap (λ n. slice_get kinds n) e ∙ stands l in
    cc

same_parts : (f g : Finding) → f.line ≡ g.line → f.kind ≡ g.kind → f.text ≡ g.text → f ≡ g
same_parts f g l k t = λ i. record { line = l i; kind = k i; text = t i }

same_keys : (f g : Finding) → f.line ∷ kind_number f.kind ∷ f.text ≡ g.line ∷ kind_number g.kind ∷ g.text → f ≡ g
same_keys f g e =
    let l : f.line ≡ g.line = cc in
    let n : kind_number f.kind ≡ kind_number g.kind = cc in
    let t : f.text ≡ g.text = cc in
    same_parts f g l (same_kind f.kind g.kind n) t

pub same_finding : (f g : Finding) → eq_by_cmp finding_order f g ≡ true → f ≡ g
same_finding f g e = same_keys f g (same_list (f.line ∷ kind_number f.kind ∷ f.text) (g.line ∷ kind_number g.kind ∷ g.text) (is_equal (finding_order f g) e))

pub finding_total : IsTotalOrder finding_order
finding_total = on_total (λ (f : Finding). f.line ∷ kind_number f.kind ∷ f.text) nat_list_cmp_total
