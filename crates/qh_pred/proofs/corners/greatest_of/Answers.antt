-- One of two coordinates along each axis.
use Rattle.qh_model.proofs.Common.{ap, Vector}
use Rattle.qh_pred.proofs.Coordinates.{made_above, made_one, one_of_two, read_is}
use Rattle.qh_pred.proofs.corners.greatest_of.Goals as goal

pub new-requires : goal.new-requires
new-requires c = record {
  x = one_of_two _ _ c.greater.result _ _ c.x.ensures.limit.x c.x-2.ensures.limit.x
      (read_is c.x.result _ c.x.type_inv c.x.ensures.value) (read_is c.x-2.result _ c.x-2.type_inv c.x-2.ensures.value)
      c.greater.ensures.end;
  y = one_of_two _ _ c.greater-2.result _ _ c.y.ensures.limit.y c.y-2.ensures.limit.y
      (read_is c.y.result _ c.y.type_inv c.y.ensures.value) (read_is c.y-2.result _ c.y-2.type_inv c.y-2.ensures.value)
      c.greater-2.ensures.end;
  z = one_of_two _ _ c.greater-3.result _ _ c.z.ensures.limit.z c.z-2.ensures.limit.z
      (read_is c.z.result _ c.z.type_inv c.z.ensures.value) (read_is c.z-2.result _ c.z-2.type_inv c.z-2.ensures.value)
      c.greater-3.ensures.end;
}

pub returns : goal.returns
returns c =
    let x = made_above _ _ c.greater.result c.x.result c.x-2.result _ c.x.type_inv c.x-2.type_inv c.greater.type_inv
    c.x.ensures.value c.x-2.ensures.value (ap (λ (v : Vector). v.x) c.new.ensures) (c.greater.ensures.one, c.greater.ensures.two) in
    let y = made_above _ _ c.greater-2.result c.y.result c.y-2.result _ c.y.type_inv c.y-2.type_inv c.greater-2.type_inv
    c.y.ensures.value c.y-2.ensures.value (ap (λ (v : Vector). v.y) c.new.ensures) (c.greater-2.ensures.one, c.greater-2.ensures.two) in
    let z = made_above _ _ c.greater-3.result c.z.result c.z-2.result _ c.z.type_inv c.z-2.type_inv c.greater-3.type_inv
    c.z.ensures.value c.z-2.ensures.value (ap (λ (v : Vector). v.z) c.new.ensures) (c.greater-3.ensures.one, c.greater-3.ensures.two) in
    record {
      corner = record {
        x = made_one _ _ c.greater.result c.x.result c.x-2.result _ c.x.type_inv c.x-2.type_inv c.greater.type_inv
            c.x.ensures.value c.x-2.ensures.value (ap (λ (v : Vector). v.x) c.new.ensures) c.greater.ensures.end;
        y = made_one _ _ c.greater-2.result c.y.result c.y-2.result _ c.y.type_inv c.y-2.type_inv c.greater-2.type_inv
            c.y.ensures.value c.y-2.ensures.value (ap (λ (v : Vector). v.y) c.new.ensures) c.greater-2.ensures.end;
        z = made_one _ _ c.greater-3.result c.z.result c.z-2.result _ c.z.type_inv c.z-2.type_inv c.greater-3.type_inv
            c.z.ensures.value c.z-2.ensures.value (ap (λ (v : Vector). v.z) c.new.ensures) c.greater-3.ensures.end;
      };
      one = record { x = x.0; y = y.0; z = z.0 };
      two = record { x = x.1; y = y.1; z = z.1 };
    }
