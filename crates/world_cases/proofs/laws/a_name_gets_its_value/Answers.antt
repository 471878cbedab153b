-- By the computed world.
use Rattle.std.proofs.Common.{[], ◌∷◌, refl, sym, subst, arith}
use Rattle.std.specs.Ordering.{nat_cmp}
use Rattle.graph_walks.proofs.Lists.{only, got}
use Rattle.abstract_shapes.specs.Shapes.{int}
use Rattle.world_rules.specs.Places.{main, slot, global}
use Rattle.world_rules.specs.Rules.{IsLeast}
use Rattle.world_rules.specs.Findings.{finding_order}
use Rattle.world_rules.specs.Stubs.{EndsWith}
use Rattle.world_rules.specs.Samples.{one_line}
use Rattle.world_rules.proofs.Paths as paths
use Rattle.world_cases.specs.Worlds.{line_world}
use Rattle.world_cases.proofs.Traces.{goes, State, begin, follow}
use Rattle.world_cases.proofs.Standing.{Arrived, followed}
use Rattle.world_cases.proofs.Telling.{least, are_findings, are_unchecked, none_rise, none_heavy, ends_with}
use Rattle.world_cases.proofs.Samples.{line_table, line_sampled, line_is}
use Rattle.world_cases.proofs.laws.a_name_gets_its_value.Goals as goal

its_least : IsLeast one_line line_world
its_least = subst (λ z. IsLeast one_line z) line_is (least one_line line_table line_sampled)

pub returns-clause-least : goal.returns-clause-least
returns-clause-least c = its_least

pub returns-clause-findings : goal.returns-clause-findings
returns-clause-findings c = are_findings one_line line_table line_sampled _ refl (none_rise finding_order) line_world its_least

pub returns-clause-unchecked : goal.returns-clause-unchecked
returns-clause-unchecked c = are_unchecked one_line line_table line_sampled _ refl (none_rise nat_cmp) line_world its_least

pub returns-clause-heavy : goal.returns-clause-heavy
returns-clause-heavy c = none_heavy one_line line_table line_sampled line_world its_least

-- a walk to the end has an int for the name
abbrev last : State
last = record { place = 2; depth = 0; vars = global 0 ∷ slot main 0 ∷ []; shapes = int ∷ int ∷ [] }

comes : Arrived one_line line_world its_least.closed last
comes = followed one_line line_world its_least.closed (goes 0 ∷ goes 0 ∷ []) begin (paths.begin one_line line_world its_least.closed (omega arith) refl) last (got (follow one_line (goes 0 ∷ goes 0 ∷ []) begin) 2 last refl)

ends_with_int : EndsWith one_line line_world 0 int
ends_with_int = paths.ends one_line line_world its_least.closed 0 int comes refl refl

pub returns-clause-ends : goal.returns-clause-ends
returns-clause-ends c t = (ends_with one_line line_table line_sampled 0 _ refl line_world its_least t, λ k. subst (λ z. EndsWith one_line line_world 0 z) (sym (only int t k)) ends_with_int)
