-- A sharp surface is the surface of the hull: each triangle goes round all corners of a face.
use Rattle.qh_model.proofs.Common.{ℕ, List, [], ◌∷◌, arith, refl, sym, subst, inl, inr, Triple, Vector, place, Members}
use Rattle.qh_laws.specs.contract.LocallyConvex.{IsRound}
use Rattle.qh_check.specs.contract.{SharpSurface.IsSharpSurface, SharpSurface.IsTriangleFace, Pieces.IsMetRound, Pieces.IsPiece, Surfaces.IsHullSurface}
use Rattle.qh_check.specs.{contract.Surfaces.IsSurfaceVerdictOf, declared.verdict.SurfaceVerdict.TheVariants.Right}

-- a walk round a triangle from any of its corners meets all corners
met_round : (t : Triple) (u v w : ℕ) → IsRound t u v w → IsMetRound (t.i ∷ t.j ∷ t.k ∷ []) (u ∷ v ∷ w ∷ [])
met_round t u v w (inl (p, q, r)) = (0, (omega arith, sym p, inl (q, inl (r, tt))))
met_round t u v w (inr (inl (p, q, r))) = (2, (omega arith, sym r, inl (p, inl (q, tt))))
met_round t u v w (inr (inr (p, q, r))) = (1, (omega arith, sym q, inl (r, inl (p, tt))))

-- a triangular face is a piece of itself
piece : (at : ℕ → Vector) (A : ℕ → Type 0) (q : List ℕ) → IsTriangleFace at A q → IsPiece at A q
piece at A q f = (
  f.t.i,
  f.t.j,
  f.t.k,
  f.supports,
  (
    ([], f.corners),
    (f.u ∷ f.v ∷ f.w ∷ [], f.face, subst (λ (p : List ℕ). IsMetRound p (f.u ∷ f.v ∷ f.w ∷ [])) (sym f.corners) (met_round f.t f.u f.v f.w f.round)),
  ),
)

-- so the verdict is right
pub sharp_is_right : (pts : List Vector) (ids : List ℕ) (qs : List (List ℕ)) → IsSharpSurface (place pts) (Members ids) qs → IsSurfaceVerdictOf pts ids qs Right
sharp_is_right pts ids qs s = record { right = (λ e. claim, λ p. refl); reason = claim }
  where
    claim : IsHullSurface (place pts) (Members ids) qs
    claim = inl (s.solid, record { some = s.some; pieces = λ q m. piece (place pts) (Members ids) q (s.faces q m); closed = s.closed; once = s.once })
