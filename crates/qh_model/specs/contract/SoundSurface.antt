-- Sound surfaces: they are strictly convex once their corners are perturbed slightly towards an inner point, each by its own share. So level facets and points
-- need no special case.
-- Source: simulation of simplicity, Edelsbrunner and Mücke 1990, here along lines to one inner point.
use Rattle.std.specs.Prelude.{◌≡◌, ℕ, ◌≤◌, ℤ, pos, ◌+ℤ◌, ◌*ℤ◌, ◌<ℤ◌}
use Rattle.qh_model.specs.{contract.Surface.Surface, contract.Surface.IsCorner, contract.Surface.rise, contract.Weighted.Weighted, headline.Sets.In}

-- each corner of the surface that is no corner of a facet is strictly below that facet
abbrev pub IsStrict : Surface → (ℕ → Weighted) → Type 0
IsStrict m at = (f g : ℕ) → In f m.live → In g m.live → (l : ℕ) → IsCorner m g l → ¬ (IsCorner m f l) → rise m at f (at l) <ℤ pos 0

-- c is strictly below each facet
abbrev pub IsInner : Surface → (ℕ → Weighted) → Weighted → Type 0
IsInner m at c = (f : ℕ) → In f m.live → rise m at f c <ℤ pos 0

-- no two live facets have the same corners
abbrev pub HasDistinctFacets : Surface → Type 0
HasDistinctFacets m = (f g : ℕ) → In f m.live → In g m.live → ((l : ℕ) → IsCorner m f l → IsCorner m g l) → f ≡ g

-- p perturbed towards o, with the weight n for p and k for o
abbrev pub towards : Weighted → ℤ → Weighted → ℤ → Weighted
towards o n p k = record { w = n *ℤ p.w +ℤ k *ℤ o.w; x = n *ℤ p.x +ℤ k *ℤ o.x; y = n *ℤ p.y +ℤ k *ℤ o.y; z = n *ℤ p.z +ℤ k *ℤ o.z }

-- each place perturbed towards o by its own share h, at scale n
abbrev pub perturbed : (home : ℕ → Weighted) (o : Weighted) (h : ℕ → ℕ) (n : ℕ) → ℕ → Weighted
perturbed home o h n l = towards o (pos n) (home l) (pos (h l))

-- shares by which the corners are perturbed towards o, and a scale from which on the surface is strict
pub record IsStrictWhenPerturbed (m : Surface) (home : ℕ → Weighted) (o : Weighted) : Type 0 where
  pub h : ℕ → ℕ
  pub from : ℕ
  pub strict : (n : ℕ) → from ≤ n → IsStrict m (perturbed home o h n)

-- the invariant of a surface while points are added: o is inside, the facets differ, and the surface is strict when perturbed
pub record IsSound (m : Surface) (home : ℕ → Weighted) (o : Weighted) : Type 0 where
  pub inner : IsInner m home o
  pub distinct : HasDistinctFacets m
  pub lifted : IsStrictWhenPerturbed m home o
