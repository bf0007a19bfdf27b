-- Joined lists of polygons.
use Rattle.qh_model.proofs.Common.{◌≡◌, ℕ, ◌⊎◌, inl, List, [], ◌∷◌, length, refl, AreClosed, IsFace, Vector, In, Members}
use Rattle.qh_laws.specs.contract.Parts.{IsPartFace, AreJoined}

-- polygons, at least one, that close up are joined
pub are_joined : (at : ℕ → Vector) (ids kept : List ℕ) (qs : List (List ℕ)) → (length qs ≡ 0 → ⊥)
    → ((q : List ℕ) → In q qs → IsPartFace at ids kept q ⊎ IsFace at (Members kept) q) → AreClosed qs → AreJoined at ids kept qs
are_joined at ids kept [] some each closed = absurd (some refl)
are_joined at ids kept (q ∷ qs) some each closed = record { some = q; there = inl refl; each = each; closed = closed }
