-- Sides of the polygon: two corners with all members on the left. The edges of a chain are sides.
use Rattle.qh_model.proofs.Common.{◌≢◌, ℕ, List, [], ◌∷◌, ap, sym, subst, inl, inr, ◌≤ℤ◌, In, Vector}
use Rattle.qh_model.proofs.algebra.Signs.{less_differ}
use Rattle.qh_polygon.proofs.polygons.{Corners.Corner, Corners.inner, TurnLaws.HasOnLeft, TurnLaws.TurnsAt, TurnLaws.IsChain, TurnLaws.chain_top}
use Rattle.qh_polygon.proofs.polygons.Turns.{IsFlat, IsKeyed, turn_about, height_of}

-- an edge of the polygon: two corners with all members on the left
pub record Side (n : Vector) (at : ℕ → Vector) (A : ℕ → Type 0) (u v : ℕ) : Type 0 where
  pub from : Corner at A u
  pub to : Corner at A v
  pub apart : u ≢ v
  pub edge : HasOnLeft (turn_about n at) A u v

-- P holds of each pair of neighbours, from the top t down
abbrev pub Down : (ℕ → ℕ → Type 0) → ℕ → List ℕ → Type 0
Down P t [] = Unit {0}
Down P t (r ∷ s) = P r t × Down P r s

module _ (n h : Vector) (at : ℕ → Vector) (A : ℕ → Type 0) (flat : IsFlat n at A) (keyed : IsKeyed h at A)
    (least : (b : ℕ) → A b → ((x : ℕ) → A x → height_of h at b ≤ℤ height_of h at x) → Corner at A b) where
  -- a member below the top is a corner
  below : (t r : ℕ) (s : List ℕ) → A t → HasOnLeft (turn_about n at) A r t → TurnsAt (turn_about n at) t r s
      → IsChain (turn_about n at) (height_of h at) A r s → Corner at A r
  below t r [] at' e sh g = least r g.0 g.1
  below t r (q ∷ s) at' e sh g = inner n h at A flat keyed q r t (chain_top _ _ A q s g.4) g.0 at' g.2 e sh

  -- the edges of a chain are sides
  pub sides : (t : ℕ) (s : List ℕ) → Corner at A t → IsChain (turn_about n at) (height_of h at) A t s → Down (Side n at A) t s
  sides t [] c g = tt
  sides t (r ∷ s) c g =
      let d = below t r s g.0 g.2 g.3 g.4 in
      (record { from = d; to = c; apart = λ e. less_differ _ _ g.1 (ap (height_of h at) e); edge = g.2 }, sides r s d g.4)

-- the members below its top are corners
pub down_corner : (n : Vector) (at : ℕ → Vector) (A : ℕ → Type 0) (t : ℕ) (s : List ℕ) → Down (Side n at A) t s → (x : ℕ) → In x s → Corner at A x
down_corner n at A t [] d x i = absurd i
down_corner n at A t (r ∷ s) d x (inl e) = subst (Corner at A) (sym e) d.0.from
down_corner n at A t (r ∷ s) d x (inr i) = down_corner n at A r s d.1 x i
