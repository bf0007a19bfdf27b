use Rattle.qh_model.proofs.extremes.Dimensions.{dimension_is_unique}
use Rattle.qh_model.proofs.hulls.Unique.{distinct_ids_are_unique, rising_list_is_unique, polygons_are_unique, edge_count_is_unique}
use Rattle.qh_model.proofs.laws.hulls.one_value_each.Goals as goal

pub returns : goal.returns
returns c = record {
  distinct = distinct_ids_are_unique;
  rising = rising_list_is_unique;
  dimension = dimension_is_unique;
  polygons = polygons_are_unique;
  edges = edge_count_is_unique;
}
