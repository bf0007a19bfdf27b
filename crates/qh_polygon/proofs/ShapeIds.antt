-- The first ids of a set, and a shape of its dimension.
use Rattle.qh_model.proofs.{Common.In, Common.List, Common.arith, Common.length, Common.subst, Common.ℕ, Common.◌<◌, Common.◌≡◌, Members.In-get_or}
use Rattle.qh_polygon.specs.{contract.Shapes.AreFirstTwo, contract.Shapes.dimension_of, declared.shape.Shape.Shape, declared.shape.Shape.TheVariants.Solid}

-- the first two ids are members
pub first_two_in : (ids : List ℕ) (i j : ℕ) → AreFirstTwo ids i j → In i ids × In j ids
first_two_in ids i j t =
    let some : 0 < length ids = (let h = t.two in omega (arith, h)) in
    (subst (λ v. In v ids) t.first (In-get_or ids 0 0 some), subst (λ v. In v ids) t.second (In-get_or ids 1 0 t.two))

-- a shape of dimension 3 is a solid one
pub solid_only : (shape : Shape) → dimension_of shape ≡ 3 → ((i j k l : ℕ) → shape ≡ Solid i j k l → ⊥) → ⊥
solid_only = grind arith
