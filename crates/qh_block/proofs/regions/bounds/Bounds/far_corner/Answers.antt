-- The ends of the three ranges that lie furthest.
use Rattle.qh_model.proofs.Common.{◌≡◌, ◌∙◌, ap, refl, ℤ, Vector, w32}
use Rattle.{qh_pred.specs.contract.Ranges.IsFarEnd, qh_pred.proofs.Coordinates.one_of_two, qh_pred.proofs.Coordinates.read_is, qh_block.proofs.Numbers.held}
use Rattle.qh_block.proofs.regions.bounds.Bounds.far_corner.Goals as goal

-- the end of the range that is read
same : (n l h r n' l' h' e : ℤ) → held w32 n' ≡ n → held w32 l' ≡ l → held w32 h' ≡ h → r ≡ held w32 e → held w32 e ≡ e
    → IsFarEnd (held w32 n') (held w32 l') (held w32 h') e → IsFarEnd n l h r
same n l h r n' l' h' e p q s t u far = rw (t, u) (rw (p, q, s) at far)

pub returns-clause-x : goal.returns-clause-x
returns-clause-x c =
    let part = λ (v : Vector). v.x in
    same _ _ _ _ c.x.result c.x-2.result c.x-3.result c.far_end.result (read_is c.x.result _ c.x.type_inv (c.x.ensures.value ∙ ap part c.tip-tip.ensures))
    (read_is c.x-2.result _ c.x-2.type_inv c.x-2.ensures.value) (read_is c.x-3.result _ c.x-3.type_inv c.x-3.ensures.value)
    (ap part c.new.ensures) (read_is c.far_end.result _ c.far_end.type_inv refl) c.far_end.ensures.far

pub returns-clause-y : goal.returns-clause-y
returns-clause-y c =
    let part = λ (v : Vector). v.y in
    same _ _ _ _ c.y.result c.y-2.result c.y-3.result c.far_end-2.result (read_is c.y.result _ c.y.type_inv (c.y.ensures.value ∙ ap part c.tip-tip.ensures))
    (read_is c.y-2.result _ c.y-2.type_inv c.y-2.ensures.value) (read_is c.y-3.result _ c.y-3.type_inv c.y-3.ensures.value)
    (ap part c.new.ensures) (read_is c.far_end-2.result _ c.far_end-2.type_inv refl) c.far_end-2.ensures.far

pub returns-clause-z : goal.returns-clause-z
returns-clause-z c =
    let part = λ (v : Vector). v.z in
    same _ _ _ _ c.z.result c.z-2.result c.z-3.result c.far_end-3.result (read_is c.z.result _ c.z.type_inv (c.z.ensures.value ∙ ap part c.tip-tip.ensures))
    (read_is c.z-2.result _ c.z-2.type_inv c.z-2.ensures.value) (read_is c.z-3.result _ c.z-3.type_inv c.z-3.ensures.value)
    (ap part c.new.ensures) (read_is c.far_end-3.result _ c.far_end-3.type_inv refl) c.far_end-3.ensures.far

pub new-requires : goal.new-requires
new-requires c = record {
  x = one_of_two _ _ c.far_end.result _ _ c.x-2.ensures.limit.x c.x-3.ensures.limit.x
      (read_is c.x-2.result _ c.x-2.type_inv c.x-2.ensures.value) (read_is c.x-3.result _ c.x-3.type_inv c.x-3.ensures.value)
      c.far_end.ensures.end;
  y = one_of_two _ _ c.far_end-2.result _ _ c.y-2.ensures.limit.y c.y-3.ensures.limit.y
      (read_is c.y-2.result _ c.y-2.type_inv c.y-2.ensures.value) (read_is c.y-3.result _ c.y-3.type_inv c.y-3.ensures.value)
      c.far_end-2.ensures.end;
  z = one_of_two _ _ c.far_end-3.result _ _ c.z-2.ensures.limit.z c.z-3.ensures.limit.z
      (read_is c.z-2.result _ c.z-2.type_inv c.z-2.ensures.value) (read_is c.z-3.result _ c.z-3.type_inv c.z-3.ensures.value)
      c.far_end-3.ensures.end;
}
