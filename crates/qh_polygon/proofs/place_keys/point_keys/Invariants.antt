use Rattle.qh_model.proofs.Common.{◌≡◌, map, take, All}
use Rattle.qh_polygon.specs.contract.PlaceKeys.{key_at, HasKey}
use Rattle.qh_polygon.proofs.place_keys.point_keys.Given as goal

abbrev pub invariant-loop-id : goal.invariant-loop-id
invariant-loop-id l = record { value : l.keys.items ≡ map (key_at l.pts) (take l.id-index l.ids); known : All (HasKey l.pts) (take l.id-index l.ids) }
