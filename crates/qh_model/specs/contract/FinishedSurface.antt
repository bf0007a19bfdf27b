-- A finished surface: the state of Quickhull when no facet sees a point.
-- Source: Barber, Dobkin and Huhdanpaa 1996 (no facet has an outside set left).
use Rattle.std.specs.Prelude.{ℕ, List, pos, ◌≤ℤ◌, ◌<ℤ◌}
use Rattle.qh_model.specs.contract.{Weighted.Weighted, Weighted.weighted, Weighted.middle_of, Surface.Surface, Surface.IsCorner, Surface.IsWhole}
use Rattle.qh_model.specs.{contract.SoundSurface.IsSound, headline.Vector.Vector, headline.Predicates.vol, headline.Sets.In, headline.Sets.Members}

-- the points of ids, with weight 1
abbrev pub weighted_at : (ℕ → Vector) → ℕ → Weighted
weighted_at at l = weighted (at l)

-- the middle of the tetrahedron of four ids
abbrev pub middle_at : (ℕ → Vector) → ℕ → ℕ → ℕ → ℕ → Weighted
middle_at at s t u v = middle_of (weighted (at s)) (weighted (at t)) (weighted (at u)) (weighted (at v))

-- a whole surface over members, sound around the middle of four of them, that sees no member
pub record IsFinished (at : ℕ → Vector) (ids : List ℕ) (m : Surface) : Type 0 where
  pub s : ℕ
  pub t : ℕ
  pub u : ℕ
  pub v : ℕ
  pub has_s : Members ids s
  pub has_t : Members ids t
  pub has_u : Members ids u
  pub has_v : Members ids v
  pub volume : vol (at s) (at t) (at u) (at v) <ℤ pos 0
  pub whole : IsWhole m
  pub sound : IsSound m (weighted_at at) (middle_at at s t u v)
  pub some : ℕ
  pub some_live : In some m.live
  pub corners : (f : ℕ) → In f m.live → (l : ℕ) → IsCorner m f l → Members ids l
  pub unseen : (f : ℕ) → In f m.live → (l : ℕ) → Members ids l → vol (at (m.i f)) (at (m.j f)) (at (m.k f)) (at l) ≤ℤ pos 0
