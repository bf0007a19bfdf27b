-- The ends of the three ranges that lie furthest.
use Rattle.{qh_model.proofs.Common.ap, qh_model.proofs.Common.Vector, qh_places.proofs.Coordinates.made_far}
use Rattle.qh_pred.proofs.Coordinates.{one_of_two, read_is}
use Rattle.qh_places.proofs.boxes.PointBox.far_corner.Goals as goal

pub returns : goal.returns
returns c = record {
  x = made_far _ _ _ _ _ _ _ _ (ap (λ (v : Vector). v.x) c.new.ensures) c.far_end.type_inv c.x.type_inv c.x-2.type_inv c.x-3.type_inv
      c.x.ensures.value c.x-2.ensures.value c.x-3.ensures.value c.far_end.ensures.far;
  y = made_far _ _ _ _ _ _ _ _ (ap (λ (v : Vector). v.y) c.new.ensures) c.far_end-2.type_inv c.y.type_inv c.y-2.type_inv c.y-3.type_inv
      c.y.ensures.value c.y-2.ensures.value c.y-3.ensures.value c.far_end-2.ensures.far;
  z = made_far _ _ _ _ _ _ _ _ (ap (λ (v : Vector). v.z) c.new.ensures) c.far_end-3.type_inv c.z.type_inv c.z-2.type_inv c.z-3.type_inv
      c.z.ensures.value c.z-2.ensures.value c.z-3.ensures.value c.far_end-3.ensures.far;
}

pub new-requires : goal.new-requires
new-requires c = record {
  x = one_of_two _ _ c.far_end.result _ _ c.x-2.ensures.limit.x c.x-3.ensures.limit.x
      (read_is c.x-2.result _ c.x-2.type_inv c.x-2.ensures.value) (read_is c.x-3.result _ c.x-3.type_inv c.x-3.ensures.value)
      c.far_end.ensures.end;
  y = one_of_two _ _ c.far_end-2.result _ _ c.x-2.ensures.limit.y c.x-3.ensures.limit.y
      (read_is c.y-2.result _ c.y-2.type_inv c.y-2.ensures.value) (read_is c.y-3.result _ c.y-3.type_inv c.y-3.ensures.value)
      c.far_end-2.ensures.end;
  z = one_of_two _ _ c.far_end-3.result _ _ c.x-2.ensures.limit.z c.x-3.ensures.limit.z
      (read_is c.z-2.result _ c.z-2.type_inv c.z-2.ensures.value) (read_is c.z-3.result _ c.z-3.type_inv c.z-3.ensures.value)
      c.far_end-3.ensures.end;
}
