-- The faults of a polygon that the plane of its first three corners shows.
use Rattle.qh_check.{proofs.Pieces.one_beginning, specs.declared.faces.FirstThree.FirstThree}
use Rattle.qh_check.specs.declared.fault.FaceFault.{FaceFault, TheVariants.NoPlane, TheVariants.Above, TheVariants.OtherFace}
use Rattle.qh_check.specs.steps.Faces.{BeginsWithThree, IsFaceAt, IsFaultAt, IsFaceOf, IsFaultOf}
use Rattle.qh_model.proofs.Common.{ℕ, List, Option, Some, None, MatchOption, Vector, place, AreInLine, In}

module _ (pts : List Vector) (ids : List ℕ) (q : List ℕ) (t : FirstThree) (b : BeginsWithThree pts q t) where
  fault : (f : FaceFault) → IsFaultAt pts ids t q f → IsFaultOf pts ids q f
  fault NoPlane h d = λ i j k own.
      one_beginning (λ x y z. In x ids → In y ids → In z ids → AreInLine (place pts x) (place pts y) (place pts z)) q t.i t.j t.k i j k (b.rest, b.is) own h
  fault (Above l) h d = (t.i, t.j, t.k, (b.rest, b.is), h.0, h.1)
  fault OtherFace h d = (t.i, t.j, t.k, (b.rest, b.is), (h d).0, (h d).1)

  pub fault_cases : (o : Option FaceFault) → MatchOption o (IsFaceAt pts ids t q) (IsFaultAt pts ids t q)
      → MatchOption o (IsFaceOf pts ids q) (IsFaultOf pts ids q)
  fault_cases None h = λ d. (t.i, t.j, t.k, (h (b.rest, b.is) d).0, (h (b.rest, b.is) d).1)
  fault_cases (Some f) h = fault f h
