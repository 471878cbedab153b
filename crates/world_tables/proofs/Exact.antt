-- Spots that are found equal are the same.
use Rattle.std.proofs.Common.{rules}
use Rattle.flow_graph.proofs.Same.{IsExact}
use Rattle.world_tables.specs.contracts.spot.PointSpotPartialEq.TheImpl as points
use Rattle.world_tables.specs.contracts.spot.VariableSpotPartialEq.TheImpl as variables

pub point_exact : IsExact points.eq-value.it
point_exact a b = search rules

pub variable_exact : IsExact variables.eq-value.it
variable_exact a b = search rules
